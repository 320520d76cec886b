-- A file is read where the grammar spells it, and nowhere else.
use Rattle.std.proofs.Common.{◌≡◌, ◌<◌, List, [], ◌∷◌, ◌++◌, length, true, false, Some, refl, sym, ap, ◌∙◌, subst, append_assoc, append-nil}
use Rattle.std.proofs.Common.{arith, inl, inr}
use Rattle.mg_text.specs.declared.place.Place.{Place}
use Rattle.mg_read.specs.Reader.{◌>>=◌}
use Rattle.mg_read.proofs.Steps.{bind_some, some_is, chosen, Takes}
use Rattle.mg_read.proofs.Lists.{Each, IsExact, Starts, all_sound, all_complete}
use Rattle.mg_read.proofs.Turns.{shorter}
use Rattle.ts_parse.specs.declared.token.Mark.TheVariants as marks
use Rattle.ts_parse.specs.declared.written.Naming.{Naming}
use Rattle.ts_parse.specs.Tok.{Tok, named, marked}
use Rattle.ts_parse.specs.Written.{WState, WFile}
use Rattle.ts_parse.specs.Grammar.{Listed, IsNaming, IsPackage, IsStar, IsImport, IsState, IsSpelled}
use Rattle.ts_parse.specs.inner.Reading.{mark_at, name_at, is_at, is_dot_name, not_closed, path_at, package_at, after_package, after_star}
use Rattle.ts_parse.specs.inner.Reading.{import_at, imports_at, entries_at, state_at, states_at, title_at, typestate_at, if_last, file_of}
use Rattle.ts_parse.proofs.Steps.{Anything, after, mark_is, name_is}
use Rattle.ts_parse.proofs.Lists.{name_exact, dot_name_goes, listed_sound, listed_complete}
use Rattle.ts_parse.proofs.Contents.{entries_sound, entries_complete}

-- ---- names with dots

path_sound : (ts : List Tok) (x : List Naming × List Tok) → path_at ts ≡ Some x → Takes (Listed marks.Dot IsNaming x.0) ts x.1
path_sound = listed_sound marks.Dot name_at IsNaming name_exact is_dot_name

path_complete : (xs : List Naming) (ts rest : List Tok) → is_dot_name rest ≡ false → Listed marks.Dot IsNaming xs ts →
    path_at (ts ++ rest) ≡ Some (xs, rest)
path_complete = listed_complete marks.Dot name_at IsNaming name_exact is_dot_name dot_name_goes

-- ---- the package

package_sound : (ts us : List Tok) → after_package ts ≡ Some us → Takes IsPackage ts us
unfolding after_package package_at
package_sound ts us e =
    elim (chosen (is_at marks.Package ts) (package_at ts) (Some ts) (Some us) e) [
      | inl t ↦ there t.1
      | inr f ↦ subst (Takes IsPackage ts) (some_is ts us f.1) (record { front = []; parts = refl; holds = inl refl })
    ]
  where
    there : package_at ts ≡ Some us → Takes IsPackage ts us
    there e =
        let s = bind_some (mark_at marks.Package ts) _ us e in
        let n = bind_some (path_at s.0.1) _ us s.2 in
        let d = bind_some (mark_at marks.Semicolon n.0.1) _ us n.2 in
        let names = path_sound s.0.1 n.0 n.1 in
        let end : List Tok = marked d.0.0 marks.Semicolon ∷ [] in
        let inner : s.0.1 ≡ (names.front ++ end) ++ d.0.1 =
        names.parts ∙ ap (λ (r : List Tok). names.front ++ r) (mark_is marks.Semicolon n.0.1 d.0 d.1) ∙
        sym (append_assoc names.front end d.0.1) in
        subst (Takes IsPackage ts) (some_is d.0.1 us d.2)
        (record {
          front = marked s.0.0 marks.Package ∷ (names.front ++ end);
          parts = after (mark_is marks.Package ts s.0 s.1) inner;
          holds = inr (s.0.0, d.0.0, n.0.0, names.front, refl, names.holds);
        })

package_complete : (ts rest : List Tok) → is_at marks.Package rest ≡ false → IsPackage ts → after_package (ts ++ rest) ≡ Some rest
unfolding after_package package_at
package_complete ts rest stops (inl e) = rw (e, stops) refl
package_complete ts rest stops (inr (a, b, names, us, e, h)) =
    let reads = path_complete names us (marked b marks.Semicolon ∷ rest) refl h in
    rw (e, append_assoc us (marked b marks.Semicolon ∷ []) rest, reads) refl

-- ---- imports

star_sound : (ts us : List Tok) → after_star ts ≡ Some us → Takes IsStar ts us
unfolding after_star
star_sound ts us e =
    elim (chosen (is_at marks.Dot ts) (mark_at marks.Dot ts >>= λ dot. mark_at marks.Star dot.1 >>= λ star. Some star.1) (Some ts) (Some us)
    e) [
      | inl t ↦
          let d = bind_some (mark_at marks.Dot ts) _ us t.1 in
          let s = bind_some (mark_at marks.Star d.0.1) _ us d.2 in
          subst (Takes IsStar ts) (some_is s.0.1 us s.2)
          (record {
            front = marked d.0.0 marks.Dot ∷ marked s.0.0 marks.Star ∷ [];
            parts = after (mark_is marks.Dot ts d.0 d.1) (mark_is marks.Star d.0.1 s.0 s.1);
            holds = inr (d.0.0, s.0.0, refl);
          })
      | inr f ↦ subst (Takes IsStar ts) (some_is ts us f.1) (record { front = []; parts = refl; holds = inl refl })
    ]

star_complete : (ts rest : List Tok) (b : Place) → IsStar ts → after_star (ts ++ marked b marks.Semicolon ∷ rest) ≡ Some
    (marked b marks.Semicolon ∷ rest)
unfolding after_star
star_complete ts rest b (inl e) = rw e refl
star_complete ts rest b (inr (c, d, e)) = rw e refl

star_stops : (ts rest : List Tok) (b : Place) → IsStar ts → is_dot_name (ts ++ marked b marks.Semicolon ∷ rest) ≡ false
star_stops ts rest b (inl e) = rw e refl
star_stops ts rest b (inr (c, d, e)) = rw e refl

import_parts : (us vs end rest s1 s2 s3 : List Tok) → s1 ≡ us ++ s2 → s2 ≡ vs ++ s3 → s3 ≡ end ++ rest → s1 ≡ (us ++ (vs ++ end)) ++ rest
import_parts us vs end rest s1 s2 s3 e1 e2 e3 = rw (e1, e2, e3, append_assoc us (vs ++ end) rest, append_assoc vs end rest) refl

import_sound : (ts : List Tok) (x : Place × List Tok) → import_at ts ≡ Some x → Takes (IsImport x.0) ts x.1
unfolding import_at
import_sound ts x e =
    let s = bind_some (mark_at marks.Import ts) _ x e in
    let n = bind_some (path_at s.0.1) _ x s.2 in
    let r = bind_some (after_star n.0.1) _ x n.2 in
    let d = bind_some (mark_at marks.Semicolon r.0) _ x r.2 in
    let names = path_sound s.0.1 n.0 n.1 in
    let star = star_sound n.0.1 r.0 r.1 in
    let end : List Tok = marked d.0.0 marks.Semicolon ∷ [] in
    let inner = import_parts names.front star.front end d.0.1 s.0.1 n.0.1 r.0 names.parts star.parts (mark_is marks.Semicolon r.0 d.0 d.1)
    in
    subst (λ (y : Place × List Tok). Takes (IsImport y.0) ts y.1) (some_is _ x d.2)
    (record {
      front = marked s.0.0 marks.Import ∷ (names.front ++ (star.front ++ end));
      parts = after (mark_is marks.Import ts s.0 s.1) inner;
      holds = (d.0.0, n.0.0, names.front, star.front, refl, names.holds, star.holds);
    })

import_complete : (a : Place) (ts rest : List Tok) → Anything rest → IsImport a ts → import_at (ts ++ rest) ≡ Some (a, rest)
unfolding import_at
import_complete a ts rest fine (b, names, us, vs, e, h, k) =
    let end : List Tok = marked b marks.Semicolon ∷ [] in
    let reads = path_complete names us (vs ++ (end ++ rest)) (star_stops vs rest b k) h in
    let star = star_complete vs rest b k in
    rw (e, append_assoc us (vs ++ end) rest, append_assoc vs end rest, reads, star) refl

import_exact : IsExact import_at IsImport Anything
import_exact = record { sound = import_sound; complete = import_complete }

import_nonempty : (a : Place) (ts : List Tok) → IsImport a ts → 0 < length ts
import_nonempty a ts (b, names, us, vs, e, h, k) = rw e (omega arith)

import_goes : (a : Place) (ts rest : List Tok) → IsImport a ts → is_at marks.Import (ts ++ rest) ≡ true
import_goes a ts rest (b, names, us, vs, e, h, k) = rw e refl

import_starts : Starts (is_at marks.Import) IsImport Anything
import_starts = record { follows = λ x ts rest h. tt; goes = import_goes; nonempty = import_nonempty }

pub import_shorter : (ts : List Tok) (x : Place) (us : List Tok) → import_at ts ≡ Some (x, us) → length us < length ts
import_shorter = shorter import_at IsImport Anything import_exact import_nonempty

-- ---- states

state_sound : (ts : List Tok) (x : WState × List Tok) → state_at ts ≡ Some x → Takes (IsState x.0) ts x.1
unfolding state_at
state_sound ts x e =
    let n = bind_some (name_at ts) _ x e in
    let q = bind_some (mark_at marks.Equals n.0.1) _ x n.2 in
    let o = bind_some (mark_at marks.OpenBrace q.0.1) _ x q.2 in
    let m = bind_some (entries_at o.0.1) _ x o.2 in
    let d = bind_some (mark_at marks.CloseBrace m.0.1) _ x m.2 in
    let entries = entries_sound o.0.1 m.0 m.1 in
    let end : List Tok = marked d.0.0 marks.CloseBrace ∷ [] in
    let inner : o.0.1 ≡ (entries.front ++ end) ++ d.0.1 =
    entries.parts ∙ ap (λ (r : List Tok). entries.front ++ r) (mark_is marks.CloseBrace m.0.1 d.0 d.1) ∙
    sym (append_assoc entries.front end d.0.1) in
    subst (λ (y : WState × List Tok). Takes (IsState y.0) ts y.1) (some_is _ x d.2)
    (record {
      front = named n.0.0.place n.0.0.text ∷ marked q.0.0 marks.Equals ∷ marked o.0.0 marks.OpenBrace ∷ (entries.front ++ end);
      parts = after (name_is ts n.0 n.1) (after (mark_is marks.Equals n.0.1 q.0 q.1) (after (mark_is marks.OpenBrace q.0.1 o.0 o.1) inner));
      holds = (q.0.0, o.0.0, d.0.0, entries.front, refl, entries.holds);
    })

state_complete : (s : WState) (ts rest : List Tok) → Anything rest → IsState s ts → state_at (ts ++ rest) ≡ Some (s, rest)
unfolding state_at
state_complete s ts rest fine (a, b, c, us, e, h) =
    let reads = entries_complete s.entries us rest c h in
    rw (e, append_assoc us (marked c marks.CloseBrace ∷ []) rest, reads) refl

state_exact : IsExact state_at IsState Anything
state_exact = record { sound = state_sound; complete = state_complete }

state_nonempty : (s : WState) (ts : List Tok) → IsState s ts → 0 < length ts
state_nonempty s ts (a, b, c, us, e, h) = rw e (omega arith)

state_goes : (s : WState) (ts rest : List Tok) → IsState s ts → not_closed (ts ++ rest) ≡ true
state_goes s ts rest (a, b, c, us, e, h) = rw e refl

state_starts : Starts not_closed IsState Anything
state_starts = record { follows = λ x ts rest h. tt; goes = state_goes; nonempty = state_nonempty }

pub state_shorter : (ts : List Tok) (x : WState) (us : List Tok) → state_at ts ≡ Some (x, us) → length us < length ts
state_shorter = shorter state_at IsState Anything state_exact state_nonempty

-- ---- the file

last_is : (y : WFile × List Tok) (w : WFile) → if_last y ≡ Some w → (y.0 ≡ w) × (y.1 ≡ [])
last_is (v, []) w e = (some_is v w e, refl)
last_is (v, t ∷ ts) w e = absurd cc

file_parts : (ps is ss head end ts s1 s2 s3 s4 : List Tok) → ts ≡ ps ++ s1 → s1 ≡ is ++ s2 → s2 ≡ head ++ s3 → s3 ≡ ss ++ s4 →
    s4 ≡ end ++ []
    → ts ≡ ps ++ (is ++ (head ++ (ss ++ end)))
file_parts ps is ss head end ts s1 s2 s3 s4 e1 e2 e3 e4 e5 = rw (e1, e2, e3, e4, e5, append-nil end) refl

pub file_sound : (ts : List Tok) (w : WFile) → file_of ts ≡ Some w → IsSpelled w ts
unfolding file_of typestate_at title_at
file_sound ts w e =
    let p = bind_some (after_package ts) _ w e in
    let i = bind_some (imports_at p.0) _ w p.2 in
    let y = bind_some (typestate_at i.0.1) _ w i.2 in
    let last = last_is y.0 w y.2 in
    let t = bind_some (title_at i.0.1) _ y.0 y.1 in
    let a = bind_some (mark_at marks.Typestate i.0.1) _ t.0 t.1 in
    let n = bind_some (name_at a.0.1) _ t.0 a.2 in
    let o = bind_some (mark_at marks.OpenBrace n.0.1) _ t.0 n.2 in
    let same : (n.0.0, o.0.1) ≡ t.0 = some_is (n.0.0, o.0.1) t.0 o.2 in
    let s = bind_some (states_at t.0.1) _ y.0 t.2 in
    let d = bind_some (mark_at marks.CloseBrace s.0.1) _ y.0 s.2 in
    let made : (record { name = t.0.0.text; states = s.0.0 }, d.0.1) ≡ y.0 = some_is (record { name = t.0.0.text; states = s.0.0 }, d.0.1)
    y.0 d.2 in
    let named_package = package_sound ts p.0 p.1 in
    let imports = all_sound (is_at marks.Import) import_at IsImport Anything import_exact p.0 i.0 i.1 in
    let states = all_sound not_closed state_at IsState Anything state_exact t.0.1 s.0 s.1 in
    let nothing : d.0.1 ≡ [] = ap (λ (z : WFile × List Tok). z.1) made ∙ last.1 in
    let name_same : n.0.0 ≡ t.0.0 = ap (λ (z : Naming × List Tok). z.0) same in
    let head : Naming → List Tok = λ z. marked a.0.0 marks.Typestate ∷ named n.0.0.place z.text ∷ marked o.0.0 marks.OpenBrace ∷ [] in
    let opened : i.0.1 ≡ head t.0.0 ++ t.0.1 =
    subst (λ (z : Naming). i.0.1 ≡ head z ++ t.0.1) name_same
    (after (mark_is marks.Typestate i.0.1 a.0 a.1)
    (after (name_is a.0.1 n.0 n.1) (after (mark_is marks.OpenBrace n.0.1 o.0 o.1) (ap (λ (z : Naming × List Tok). z.1) same)))) in
    let closed : s.0.1 ≡ (marked d.0.0 marks.CloseBrace ∷ []) ++ [] = after (mark_is marks.CloseBrace s.0.1 d.0 d.1) nothing in
    subst (λ (z : WFile). IsSpelled z ts) (ap (λ (z : WFile × List Tok). z.0) made ∙ last.0)
    (record {
      package_toks = named_package.front;
      import_toks = imports.front;
      state_toks = states.front;
      imports = i.0.0;
      word_at = a.0.0;
      name_at = n.0.0.place;
      open_at = o.0.0;
      close_at = d.0.0;
      tokens = file_parts named_package.front imports.front states.front (head t.0.0) (marked d.0.0 marks.CloseBrace ∷ []) ts p.0 i.0.1
          t.0.1 s.0.1
          named_package.parts imports.parts opened states.parts closed;
      packaged = named_package.holds;
      imported = imports.holds;
      states = states.holds;
    })

-- imports, or the title, begin no package
imports_begin : (is : List Place) (ts rest : List Tok) → Each IsImport is ts → is_at marks.Package rest ≡ false →
    is_at marks.Package (ts ++ rest) ≡ false
imports_begin [] ts rest e stops = rw e stops
imports_begin (a ∷ is) ts rest (us, vs, e, (b, names, ps, qs, f, h, k), g) stops = rw (e, f) refl

pub file_complete : (w : WFile) (ts : List Tok) → IsSpelled w ts → file_of ts ≡ Some w
unfolding file_of typestate_at title_at
file_complete w ts h =
    let closing : List Tok = marked h.close_at marks.CloseBrace ∷ [] in
    let title : List Tok = marked h.word_at marks.Typestate ∷ named h.name_at w.name ∷ marked h.open_at marks.OpenBrace ∷
    (h.state_toks ++ closing) in
    let packaged = package_complete h.package_toks (h.import_toks ++ title) (imports_begin h.imports h.import_toks title h.imported refl)
    h.packaged in
    let imports = all_complete (is_at marks.Import) import_at IsImport Anything import_exact import_starts h.imports h.import_toks title tt
    refl h.imported in
    let states = all_complete not_closed state_at IsState Anything state_exact state_starts w.states h.state_toks closing tt refl h.states
    in
    rw (h.tokens, packaged, imports, states) refl

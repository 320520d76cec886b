-- Declarations and files are read exactly.
use Rattle.std.proofs.Common.{◌≡◌, ℕ, zero, suc, ◌<◌, ◌≤◌, List, [], ◌∷◌, ◌++◌, length, Bool, true, false, Option, Some, None, refl, sym}
use Rattle.std.proofs.Common.{ap, ◌∙◌, subst, append_assoc, append-nil, length-append, arith, inl, inr, ◌⊎◌, true≢false}
use Rattle.std.specs.Prelude.{codes, if◌then◌else◌}
use Rattle.std.specs.Str.{bytes_eq}
use Rattle.std.proofs.lemmas.Slice.Eq.{bytes_eq-Decides}
use Rattle.mg_text.specs.Call.{Name}
use Rattle.mg_text.specs.declared.place.Place.{Place}
use Rattle.mg_read.specs.Reader.{all_of}
use Rattle.mg_read.proofs.Steps.{bind_some, some_is, none_is_not, chosen, Takes}
use Rattle.mg_read.proofs.Lists.{Each, IsExact, Starts, all_sound, all_complete}
use Rattle.jv_tree.specs.declared.token.Sign.{Sign}
use Rattle.jv_tree.specs.declared.token.Sign.TheVariants as signs
use Rattle.jv_tree.specs.declared.token.TokenKind.{TokenKind}
use Rattle.jv_tree.specs.declared.token.TokenKind.TheVariants as kinds
use Rattle.jv_tree.specs.declared.token.Token.{Token}
use Rattle.jv_tree.specs.Tokens.{word, quoted, sign, is_among, IsName}
use Rattle.jv_grammar.specs.Base.{sign_at, is_sign, is_sign_kind, word_at, is_word, is_word_kind, name_at}
use Rattle.std.specs.List.{list_all}
use Rattle.jv_tree.specs.Source.{Class, Enum, Decl, ClassDecl, EnumDecl, File}
use Rattle.jv_tree.specs.Depth.{depth_of_fields, depth_of_methods, depth_of_decl, depth_of_file}
use Rattle.jv_tree.specs.Files.{fields_among, methods_among, is_kind_among, AreModifiers, IsAnnotation, IsClass, AreMoreNames, AreNames}
use Rattle.jv_tree.specs.Files.{IsEnumEnd, IsEnum, IsDecl, AreDecls, AreMoreSteps, IsPath, IsPackage, IsStar, IsImport, AreImports, Spells}
use Rattle.jv_grammar.specs.Files.{after_mods, members_at, text_kind, text_at, annotation_at, class_words, enum_words, class_at}
use Rattle.jv_grammar.specs.Files.{is_more_names, next_name_at, names_at, past, enum_at, is_enum, decl_at, is_more_steps, next_step_at}
use Rattle.jv_grammar.specs.Files.{path_at, package_at, star_at, import_at, is_some_token, file_at}
use Rattle.jv_grammar.proofs.Steps.{Anything, after, glue, sign_is, word_is, name_is}
use Rattle.jv_grammar.proofs.Nested.{many_stops}
use Rattle.jv_grammar.proofs.Members.{mods_front, mods_again, mods_words, and_is, members_exact}

-- ---- annotations

text_is : (ts : List Token) (x : List ℕ × List Token) → text_at ts ≡ Some x → (p : Place) × (ts ≡ quoted p x.0 ∷ x.1)
text_is [] x e = absurd (none_is_not x e)
text_is (t ∷ ts) x e = by_kind t.place t.kind e where
  by_kind : (p : Place) (k : TokenKind) → text_kind k ts ≡ Some x → (q : Place) × (record { kind = k; place = p } ∷ ts ≡ quoted q x.0 ∷ x.1)
  by_kind p (kinds.Text s) e = (p, ap (λ (y : List ℕ × List Token). quoted p y.0 ∷ y.1) (some_is (s, ts) x e))
  by_kind p (kinds.Word w) e = absurd (none_is_not x e)
  by_kind p (kinds.Number n) e = absurd (none_is_not x e)
  by_kind p (kinds.Sign s) e = absurd (none_is_not x e)

annotation_sound : (ts : List Token) (x : Option (List ℕ) × List Token) → annotation_at ts ≡ Some x → Takes (IsAnnotation x.0) ts x.1
unfolding annotation_at
annotation_sound ts x e =
    elim (chosen (is_sign signs.At ts) _ _ (Some x) e) [
      | inl t ↦
          let a = bind_some (sign_at signs.At ts) _ x t.1 in
          let b = bind_some (word_at (codes "Typestate") a.0.1) _ x a.2 in
          let c = bind_some (sign_at signs.OpenParen b.0.1) _ x b.2 in
          let s = bind_some (text_at c.0.1) _ x c.2 in
          let k = bind_some (sign_at signs.CloseParen s.0.1) _ x s.2 in
          let quote = text_is c.0.1 s.0 s.1 in
          subst (λ (y : Option (List ℕ) × List Token). Takes (IsAnnotation y.0) ts y.1) (some_is (Some s.0.0, k.0.1) x k.2)
          (record {
            front = sign a.0.0 signs.At ∷ word b.0.0 (codes "Typestate") ∷ sign c.0.0 signs.OpenParen ∷ quoted quote.0 s.0.0 ∷ sign k.0.0
                signs.CloseParen ∷ [];
            parts = after (sign_is signs.At ts a.0 a.1) (after (word_is (codes "Typestate") a.0.1 b.0 b.1)
                (after (sign_is signs.OpenParen b.0.1 c.0 c.1) (after quote.1 (sign_is signs.CloseParen s.0.1 k.0 k.1))));
            holds = (a.0.0, b.0.0, c.0.0, quote.0, k.0.0, refl);
          })
      | inr t ↦ subst (λ (y : Option (List ℕ) × List Token). Takes (IsAnnotation y.0) ts y.1) (some_is (None, ts) x t.1)
          (record { front = []; parts = refl; holds = refl })
    ]

annotation_complete : (t : Option (List ℕ)) (ts rest : List Token) → is_sign signs.At rest ≡ false → IsAnnotation t ts →
    annotation_at (ts ++ rest) ≡ Some (t, rest)
unfolding annotation_at
annotation_complete None ts rest fine h = rw (h, fine) refl
annotation_complete (Some t) ts rest fine (a, b, c, d, e, parts) = rw parts refl

-- ---- classes

-- a class, at most so deep
abbrev DeepClass : Class → List Token → Type 0
DeepClass c us = IsClass c us × (depth_of_decl (ClassDecl c) ≤ 200)

class_sound : (ts : List Token) (x : Class × List Token) → class_at ts ≡ Some x → Takes (DeepClass x.0) ts x.1
unfolding class_at
class_sound ts x e =
    let a = bind_some (annotation_at ts) _ x e in
    let k = bind_some (word_at (codes "class") (after_mods class_words a.0.1)) _ x a.2 in
    let n = bind_some (name_at k.0.1) _ x k.2 in
    let ms = bind_some (members_at n.0.1) _ x n.2 in
    let note = annotation_sound ts a.0 a.1 in
    let mods = mods_front class_words a.0.1 in
    let name = name_is k.0.1 n.0 n.1 in
    let body = members_exact.sound n.0.1 ms.0 ms.1 in
    let (b, g, ws, parts, members, lf, lm) = body.holds in
    let c : Class = record {
      place = n.0.0.0;
      name = n.0.0.1;
      typestate = a.0.0;
      fields = fields_among ms.0.0;
      methods =
          methods_among ms.0.0;
    } in
    let head : List Token = word k.0.0 (codes "class") ∷ word n.0.0.0 n.0.0.1 ∷ body.front in
    let behind_mods : after_mods class_words a.0.1 ≡ head ++ ms.0.1 = after (word_is (codes "class") (after_mods class_words a.0.1) k.0 k.1)
    (after name.0 body.parts) in
    subst (λ (y : Class × List Token). Takes (DeepClass y.0) ts y.1) (some_is (c, ms.0.1) x ms.2)
    (record {
      front = note.front ++ (mods.0 ++ head);
      parts = glue note.front (mods.0 ++ head) ms.0.1 note.parts (glue mods.0 head ms.0.1 mods.1 behind_mods);
      holds = (
        (
          name.1,
          k.0.0,
          b,
          g,
          note.front,
          mods.0,
          ws,
          ap (λ (z : List Token). note.front ++ (mods.0 ++ word k.0.0 (codes "class") ∷ word n.0.0.0 n.0.0.1 ∷ z)) parts,
          note.holds,
          mods.2,
          ms.0.0,
          members,
          refl,
          refl,
        ),
        omega (arith, lf, lm),
      );
    })

class_complete : (c : Class) (ts rest : List Token) → DeepClass c ts → class_at (ts ++ rest) ≡ Some (c, rest)
unfolding class_at
class_complete c ts rest ((name, a, b, g, us, vs, ws, parts, note, mods, ms, members, fields, methods), le) =
    let body : List Token = sign b signs.OpenBrace ∷ (ws ++ sign g signs.CloseBrace ∷ []) in
    let back : List Token = word a (codes "class") ∷ word c.place c.name ∷ (body ++ rest) in
    let unmarked : is_sign signs.At (vs ++ back) ≡ false = mods_words class_words signs.At vs back mods refl in
    let first = annotation_complete c.typestate us (vs ++ back) unmarked note in
    let second = (mods_again class_words vs back mods refl refl).0 in
    let lf : depth_of_fields (fields_among ms) ≤ 200 = omega (arith, ap depth_of_fields fields) in
    let lm : depth_of_methods (methods_among ms) ≤ 200 = omega (arith, ap depth_of_methods methods) in
    let third = members_exact.complete ms body rest tt (b, g, ws, refl, members, lf, lm) in
    rw (parts, append_assoc, append_assoc, first, second, name, third, fields, methods) refl

-- ---- enums

more_names_exact : IsExact next_name_at (λ n us. IsName n × (a b : Place) × (us ≡ sign a signs.Comma ∷ word b n ∷ [])) Anything
unfolding next_name_at
more_names_exact = record { sound = sound; complete = complete } where
  sound : (ts : List Token) (x : Name × List Token) → next_name_at ts ≡ Some x →
      Takes (λ us. IsName x.0 × (a b : Place) × (us ≡ sign a signs.Comma ∷ word b x.0 ∷ [])) ts x.1
  sound ts x e =
      let a = bind_some (sign_at signs.Comma ts) _ x e in
      let n = bind_some (name_at a.0.1) _ x a.2 in
      let name = name_is a.0.1 n.0 n.1 in
      subst (λ (y : Name × List Token). Takes (λ us. IsName y.0 × (a b : Place) × (us ≡ sign a signs.Comma ∷ word b y.0 ∷ [])) ts y.1)
      (some_is (n.0.0.1, n.0.1) x n.2)
      (record {
        front = sign a.0.0 signs.Comma ∷ word n.0.0.0 n.0.0.1 ∷ [];
        parts = after (sign_is signs.Comma ts a.0 a.1) name.0;
        holds =
            (name.1, a.0.0, n.0.0.0, refl);
      })

  complete : (n : Name) (ts rest : List Token) → Anything rest → IsName n × (a b : Place) × (ts ≡ sign a signs.Comma ∷ word b n ∷ []) →
      next_name_at (ts ++ rest) ≡ Some (n, rest)
  complete n ts rest fine (name, a, b, parts) = rw (parts, name) refl

abbrev NextName : Name → List Token → Type 0
NextName n us = IsName n × (a b : Place) × (us ≡ sign a signs.Comma ∷ word b n ∷ [])

name_goes : (n : Name) (ts rest : List Token) → NextName n ts → is_more_names (ts ++ rest) ≡ true
name_goes n ts rest (name, a, b, parts) = rw (parts, name) refl

name_some : (n : Name) (ts : List Token) → NextName n ts → 0 < length ts
name_some n ts (name, a, b, parts) = rw parts (omega arith)

name_starts : Starts is_more_names NextName Anything
name_starts = record { follows = λ n ts rest h. tt; goes = name_goes; nonempty = name_some }

pub next_name_shorter : (ts : List Token) (x : Name × List Token) → next_name_at ts ≡ Some x → length x.1 < length ts
next_name_shorter ts x e =
    let t = more_names_exact.sound ts x e in
    omega (arith, ap length t.parts, length-append t.front x.1, name_some x.0 t.front t.holds)

each_names : (ns : List Name) (us : List Token) → Each NextName ns us → AreMoreNames ns us
each_names [] us h = h
each_names (n ∷ ns) us (ps, qs, parts, (name, a, b, one), more) =
    (name, a, b, qs, parts ∙ ap (λ (z : List Token). z ++ qs) one, each_names ns qs more)

names_each : (ns : List Name) (us : List Token) → AreMoreNames ns us → Each NextName ns us
names_each [] us h = h
names_each (n ∷ ns) us (name, a, b, vs, parts, more) = (
  sign a signs.Comma ∷ word b n ∷ [],
  vs,
  parts,
  (name, a, b, refl),
  names_each ns vs more,
)

names_exact : IsExact names_at AreNames (λ ts. is_more_names ts ≡ false)
unfolding names_at
names_exact = record { sound = sound; complete = complete } where
  sound : (ts : List Token) (x : List Name × List Token) → names_at ts ≡ Some x → Takes (AreNames x.0) ts x.1
  sound ts x e =
      let n = bind_some (name_at ts) _ x e in
      let b = bind_some (all_of is_more_names next_name_at n.0.1) _ x n.2 in
      let name = name_is ts n.0 n.1 in
      let more = all_sound is_more_names next_name_at NextName Anything more_names_exact n.0.1 b.0 b.1 in
      subst (λ (y : List Name × List Token). Takes (AreNames y.0) ts y.1) (some_is (n.0.0.1 ∷ b.0.0, b.0.1) x b.2)
      (record {
        front = word n.0.0.0 n.0.0.1 ∷ more.front;
        parts = after name.0 more.parts;
        holds =
            (name.1, n.0.0.0, more.front, refl, each_names b.0.0 more.front more.holds);
      })

  complete : (ns : List Name) (ts rest : List Token) → is_more_names rest ≡ false → AreNames ns ts → names_at (ts ++ rest) ≡ Some (ns, rest)
  complete [] ts rest fine h = absurd h
  complete (n ∷ ns) ts rest fine (name, a, us, parts, more) =
      rw (
        parts,
        name,
        all_complete is_more_names next_name_at NextName Anything more_names_exact name_starts ns us rest tt fine
            (names_each ns us more),
      ) refl

past_front : (s : Sign) (ts : List Token) → (us : List Token) × (ts ≡ us ++ past s ts) × ((us ≡ []) ⊎ ((a : Place) × (us ≡ sign a s ∷ [])))
past_front s [] = ([], refl, inl refl)
past_front s (t ∷ ts) = by_cases (is_sign s (t ∷ ts)) refl where
  reads : (p : Place) (k : TokenKind) → is_sign_kind s k ≡ true → sign_at s (record { kind = k; place = p } ∷ ts) ≡ Some (p, ts)
  reads p (kinds.Word w) h = absurd cc
  reads p (kinds.Number n) h = absurd cc
  reads p (kinds.Text q) h = absurd cc
  reads p (kinds.Sign q) h = rw h refl

  first_of : List Token → List Token
  first_of [] = []
  first_of (u ∷ us) = u ∷ []

  by_cases : (b : Bool) → is_sign s (t ∷ ts) ≡ b → (us : List Token) × (t ∷ ts ≡ us ++ (if b then ts else t ∷ ts))
      × ((us ≡ []) ⊎ ((a : Place) × (us ≡ sign a s ∷ [])))
  by_cases true e = (t ∷ [], refl, inr (t.place, ap first_of (sign_is s (t ∷ ts) (t.place, ts) (reads t.place t.kind e))))
  by_cases false e = ([], refl, inl refl)

enum_end : (us vs : List Token) → ((us ≡ []) ⊎ ((a : Place) × (us ≡ sign a signs.Comma ∷ []))) →
    ((vs ≡ []) ⊎ ((a : Place) × (vs ≡ sign a signs.Semicolon ∷ []))) → IsEnumEnd (us ++ vs)
enum_end us vs (inl h) (inl k) = inl (rw (h, k) refl)
enum_end us vs (inl h) (inr (b, k)) = inr (inr (inl (b, rw (h, k) refl)))
enum_end us vs (inr (a, h)) (inl k) = inr (inl (a, rw (h, k) refl))
enum_end us vs (inr (a, h)) (inr (b, k)) = inr (inr (inr (a, b, rw (h, k) refl)))

enum_sound : (ts : List Token) (x : Enum × List Token) → enum_at ts ≡ Some x → Takes (IsEnum x.0) ts x.1
unfolding enum_at
enum_sound ts x e =
    let k = bind_some (word_at (codes "enum") (after_mods enum_words ts)) _ x e in
    let n = bind_some (name_at k.0.1) _ x k.2 in
    let b = bind_some (sign_at signs.OpenBrace n.0.1) _ x n.2 in
    let ns = bind_some (names_at b.0.1) _ x b.2 in
    let c = bind_some (sign_at signs.CloseBrace (past signs.Semicolon (past signs.Comma ns.0.1))) _ x ns.2 in
    let mods = mods_front enum_words ts in
    let name = name_is k.0.1 n.0 n.1 in
    let names = names_exact.sound b.0.1 ns.0 ns.1 in
    let comma = past_front signs.Comma ns.0.1 in
    let semicolon = past_front signs.Semicolon (past signs.Comma ns.0.1) in
    let stop : List Token = sign c.0.0 signs.CloseBrace ∷ [] in
    let tail : ns.0.1 ≡ ((comma.0 ++ semicolon.0) ++ stop) ++ c.0.1 =
    glue (comma.0 ++ semicolon.0) stop c.0.1 (glue comma.0 semicolon.0 (past signs.Semicolon (past signs.Comma ns.0.1)) comma.1 semicolon.1)
    (sign_is signs.CloseBrace (past signs.Semicolon (past signs.Comma ns.0.1)) c.0 c.1) in
    let made : Enum = record { place = n.0.0.0; name = n.0.0.1; constants = ns.0.0 } in
    let inside : List Token = names.front ++ ((comma.0 ++ semicolon.0) ++ stop) in
    let head : List Token = word k.0.0 (codes "enum") ∷ word n.0.0.0 n.0.0.1 ∷ sign b.0.0 signs.OpenBrace ∷ inside in
    let behind_mods : after_mods enum_words ts ≡ head ++ c.0.1 =
    after (word_is (codes "enum") (after_mods enum_words ts) k.0 k.1)
    (after name.0 (after (sign_is signs.OpenBrace n.0.1 b.0 b.1) (glue names.front ((comma.0 ++ semicolon.0) ++ stop) c.0.1 names.parts
    tail))) in
    subst (λ (y : Enum × List Token). Takes (IsEnum y.0) ts y.1) (some_is (made, c.0.1) x c.2)
    (record {
      front = mods.0 ++ head;
      parts = glue mods.0 head c.0.1 mods.1 behind_mods;
      holds = (
        name.1,
        k.0.0,
        b.0.0,
        c.0.0,
        mods.0,
        names.front,
        comma.0 ++ semicolon.0,
        refl,
        mods.2,
        names.holds,
        enum_end comma.0 semicolon.0 comma.2 semicolon.2,
      );
    })

enum_complete : (e : Enum) (ts rest : List Token) → IsEnum e ts → enum_at (ts ++ rest) ≡ Some (e, rest)
unfolding enum_at
enum_complete e ts rest (name, a, b, c, us, vs, ws, parts, mods, names, ends) =
    let inside : List Token = vs ++ (ws ++ sign c signs.CloseBrace ∷ []) in
    let back : List Token = word a (codes "enum") ∷ word e.place e.name ∷ sign b signs.OpenBrace ∷ (inside ++ rest) in
    let first = (mods_again enum_words us back mods refl refl).0 in
    let stops = ended ws ends in
    let second = names_exact.complete e.constants vs (ws ++ sign c signs.CloseBrace ∷ rest) stops.0 names in
    rw (parts, append_assoc, first, name, append_assoc, append_assoc, second, stops.1) refl where
      ended : (ws : List Token) → IsEnumEnd ws
          → (is_more_names (ws ++ sign c signs.CloseBrace ∷ rest) ≡ false)
          × (past signs.Semicolon (past signs.Comma (ws ++ sign c signs.CloseBrace ∷ rest)) ≡ sign c signs.CloseBrace ∷ rest)
      ended ws (inl h) = rw h (refl, refl)
      ended ws (inr (inl (p, h))) = rw h (refl, refl)
      ended ws (inr (inr (inl (p, h)))) = rw h (refl, refl)
      ended ws (inr (inr (inr (p, q, h)))) = rw h (refl, refl)

-- ---- declarations

abbrev DeepDecl : Decl → List Token → Type 0
DeepDecl x us = IsDecl x us × (depth_of_decl x ≤ 200)

-- a class is no enum
class_no_enum : (c : Class) (ts rest : List Token) → IsClass c ts → is_enum (ts ++ rest) ≡ false
class_no_enum c ts rest (name, a, b, g, us, vs, ws, parts, note, mods, ms, members, fields, methods) =
    rw (parts, append_assoc) (by_note c.typestate us note) where
      head : List Token
      head = word a (codes "class") ∷ word c.place c.name ∷ sign b signs.OpenBrace ∷ (ws ++ sign g signs.CloseBrace ∷ [])

      by_mods : (vs : List Token) → AreModifiers class_words vs → is_enum (vs ++ (head ++ rest)) ≡ false
      by_mods [] h = refl
      by_mods (t ∷ vs) h =
          let both = and_is (is_kind_among class_words t.kind) (list_all (λ u. is_kind_among class_words u.kind) vs) h in
          by_word t.place t.kind both.0 (by_mods vs both.1) where
            by_word : (p : Place) (k : TokenKind) → is_kind_among class_words k ≡ true → is_enum (vs ++ (head ++ rest)) ≡ false →
                is_enum (record { kind = k; place = p } ∷ (vs ++ (head ++ rest))) ≡ false
            by_word p (kinds.Word w) e more = by_public (bytes_eq (codes "public") w) refl where
              by_final : (f : Bool) → bytes_eq (codes "final") w ≡ f → bytes_eq (codes "public") w ≡ false →
                  is_word (codes "enum") (word p w ∷ (vs ++ (head ++ rest))) ≡ false
              by_final true g q = let same : w ≡ codes "final" = sym ((bytes_eq-Decides (codes "final") w).0 g) in rw same refl
              by_final false g q = absurd (true≢false (sym e ∙ rw (q, g) refl))

              by_public : (f : Bool) → bytes_eq (codes "public") w ≡ f → is_enum (word p w ∷ (vs ++ (head ++ rest))) ≡ false
              by_public true g = rw g more
              by_public false g = rw g (by_final (bytes_eq (codes "final") w) refl g)
            by_word p (kinds.Number n) e more = absurd cc
            by_word p (kinds.Text s) e more = absurd cc
            by_word p (kinds.Sign s) e more = absurd cc

      by_note : (t : Option (List ℕ)) (us : List Token) → IsAnnotation t us → is_enum (us ++ ((vs ++ head) ++ rest)) ≡ false
      by_note None us h = rw (h, append_assoc) (by_mods vs mods)
      by_note (Some t) us (p, q, r, s, u, h) = rw h refl

enum_is_enum : (e : Enum) (ts rest : List Token) → IsEnum e ts → is_enum (ts ++ rest) ≡ true
enum_is_enum e ts rest (name, a, b, c, us, vs, ws, parts, mods, names, ends) =
    let back : List Token = word a (codes "enum") ∷ word e.place e.name ∷ sign b signs.OpenBrace ∷
    ((vs ++ (ws ++ sign c signs.CloseBrace ∷ [])) ++ rest) in
    rw (parts, append_assoc, (mods_again enum_words us back mods refl refl).0) refl

decl_sound : (ts : List Token) (x : Decl × List Token) → decl_at ts ≡ Some x → Takes (DeepDecl x.0) ts x.1
unfolding decl_at
decl_sound ts x e =
    elim (chosen (is_enum ts) _ _ (Some x) e) [
      | inl t ↦
          let d = bind_some (enum_at ts) _ x t.1 in
          let one = enum_sound ts d.0 d.1 in
          subst (λ (y : Decl × List Token). Takes (DeepDecl y.0) ts y.1) (some_is (EnumDecl d.0.0, d.0.1) x d.2)
          (record { front = one.front; parts = one.parts; holds = (one.holds, omega arith) })
      | inr t ↦
          let d = bind_some (class_at ts) _ x t.1 in
          let one = class_sound ts d.0 d.1 in
          subst (λ (y : Decl × List Token). Takes (DeepDecl y.0) ts y.1) (some_is (ClassDecl d.0.0, d.0.1) x d.2)
          (record { front = one.front; parts = one.parts; holds = one.holds })
    ]

decl_complete : (x : Decl) (ts rest : List Token) → Anything rest → DeepDecl x ts → decl_at (ts ++ rest) ≡ Some (x, rest)
unfolding decl_at
decl_complete (ClassDecl c) ts rest fine (h, le) = rw (class_no_enum c ts rest h, class_complete c ts rest (h, le)) refl
decl_complete (EnumDecl e) ts rest fine (h, le) = rw (enum_is_enum e ts rest h, enum_complete e ts rest h) refl

decl_exact : IsExact decl_at DeepDecl Anything
decl_exact = record { sound = decl_sound; complete = decl_complete }

decl_some : (x : Decl) (ts : List Token) → DeepDecl x ts → 0 < length ts
decl_some (ClassDecl c) ts ((name, a, b, g, us, vs, ws, parts, note, mods, ms, members, fields, methods), le) =
    let head : List Token = word a (codes "class") ∷ word c.place c.name ∷ sign b signs.OpenBrace ∷ (ws ++ sign g signs.CloseBrace ∷ []) in
    omega (arith, ap length parts, length-append us (vs ++ head), length-append vs head)
decl_some (EnumDecl e) ts ((name, a, b, c, us, vs, ws, parts, mods, names, ends), le) =
    omega (
      arith,
      ap length parts,
      length-append us (word a (codes "enum") ∷ word e.place e.name ∷ sign b signs.OpenBrace ∷
          (vs ++ (ws ++ sign c signs.CloseBrace ∷ []))),
    )

some_goes : (ts rest : List Token) → 0 < length ts → is_some_token (ts ++ rest) ≡ true
some_goes [] rest h = absurd (omega arith)
some_goes (t ∷ ts) rest h = refl

decl_starts : Starts is_some_token DeepDecl Anything
decl_starts = record { follows = λ x ts rest h. tt; goes = λ x ts rest h. some_goes ts rest (decl_some x ts h); nonempty = decl_some }

pub decl_shorter : (ts : List Token) (x : Decl × List Token) → decl_at ts ≡ Some x → length x.1 < length ts
decl_shorter ts x e =
    let t = decl_sound ts x e in
    omega (arith, ap length t.parts, length-append t.front x.1, decl_some x.0 t.front t.holds)

each_decls : (xs : List Decl) (us : List Token) → Each DeepDecl xs us → AreDecls xs us × (depth_of_file xs ≤ 200)
each_decls [] us h = (h, omega arith)
each_decls (x ∷ xs) us (ps, qs, parts, (h, le), more) = let r = each_decls xs qs more in ((ps, qs, parts, h, r.0), omega (arith, le, r.1))

decls_each : (xs : List Decl) (us : List Token) → AreDecls xs us → depth_of_file xs ≤ 200 → Each DeepDecl xs us
decls_each [] us h le = h
decls_each (x ∷ xs) us (ps, qs, parts, h, more) le = (ps, qs, parts, (h, omega arith), decls_each xs qs more (omega arith))

-- ---- packages and imports

abbrev NextStep : Name → List Token → Type 0
NextStep n us = IsName n × (a b : Place) × (us ≡ sign a signs.Dot ∷ word b n ∷ [])

step_exact : IsExact next_step_at NextStep Anything
unfolding next_step_at
step_exact = record { sound = sound; complete = complete } where
  sound : (ts : List Token) (x : Name × List Token) → next_step_at ts ≡ Some x → Takes (NextStep x.0) ts x.1
  sound ts x e =
      let a = bind_some (sign_at signs.Dot ts) _ x e in
      let n = bind_some (name_at a.0.1) _ x a.2 in
      let name = name_is a.0.1 n.0 n.1 in
      subst (λ (y : Name × List Token). Takes (NextStep y.0) ts y.1) (some_is (n.0.0.1, n.0.1) x n.2)
      (record {
        front = sign a.0.0 signs.Dot ∷ word n.0.0.0 n.0.0.1 ∷ [];
        parts = after (sign_is signs.Dot ts a.0 a.1) name.0;
        holds =
            (name.1, a.0.0, n.0.0.0, refl);
      })

  complete : (n : Name) (ts rest : List Token) → Anything rest → NextStep n ts → next_step_at (ts ++ rest) ≡ Some (n, rest)
  complete n ts rest fine (name, a, b, parts) = rw (parts, name) refl

step_goes : (n : Name) (ts rest : List Token) → NextStep n ts → is_more_steps (ts ++ rest) ≡ true
step_goes n ts rest (name, a, b, parts) = rw (parts, name) refl

step_some : (n : Name) (ts : List Token) → NextStep n ts → 0 < length ts
step_some n ts (name, a, b, parts) = rw parts (omega arith)

step_starts : Starts is_more_steps NextStep Anything
step_starts = record { follows = λ n ts rest h. tt; goes = step_goes; nonempty = step_some }

pub next_step_shorter : (ts : List Token) (x : Name × List Token) → next_step_at ts ≡ Some x → length x.1 < length ts
next_step_shorter ts x e =
    let t = step_exact.sound ts x e in
    omega (arith, ap length t.parts, length-append t.front x.1, step_some x.0 t.front t.holds)

each_steps : (ns : List Name) (us : List Token) → Each NextStep ns us → AreMoreSteps ns us
each_steps [] us h = h
each_steps (n ∷ ns) us (ps, qs, parts, (name, a, b, one), more) =
    (name, a, b, qs, parts ∙ ap (λ (z : List Token). z ++ qs) one, each_steps ns qs more)

steps_each : (ns : List Name) (us : List Token) → AreMoreSteps ns us → Each NextStep ns us
steps_each [] us h = h
steps_each (n ∷ ns) us (name, a, b, vs, parts, more) = (
  sign a signs.Dot ∷ word b n ∷ [],
  vs,
  parts,
  (name, a, b, refl),
  steps_each ns vs more,
)

path_sound : (ts : List Token) (x : List Name × List Token) → path_at ts ≡ Some x → Takes IsPath ts x.1
unfolding path_at
path_sound ts x e =
    let n = bind_some (name_at ts) _ x e in
    let b = bind_some (all_of is_more_steps next_step_at n.0.1) _ x n.2 in
    let name = name_is ts n.0 n.1 in
    let more = all_sound is_more_steps next_step_at NextStep Anything step_exact n.0.1 b.0 b.1 in
    subst (λ (y : List Name × List Token). Takes IsPath ts y.1) (some_is (n.0.0.1 ∷ b.0.0, b.0.1) x b.2)
    (record {
      front = word n.0.0.0 n.0.0.1 ∷ more.front;
      parts = after name.0 more.parts;
      holds =
          (n.0.0.1, b.0.0, name.1, n.0.0.0, more.front, refl, each_steps b.0.0 more.front more.holds);
    })

-- some names, and what follows the path
abbrev PathRead : List Token → List Token → Type 0
PathRead ts rest = (ns : List Name) × (path_at ts ≡ Some (ns, rest))

path_complete : (ts rest : List Token) → is_more_steps rest ≡ false → IsPath ts → PathRead (ts ++ rest) rest
unfolding path_at
path_complete ts rest fine (n, ns, name, a, us, parts, more) = (
  n ∷ ns,
  rw (
    parts,
    name,
    all_complete is_more_steps next_step_at NextStep Anything step_exact step_starts ns us rest tt fine
        (steps_each ns us more),
  ) refl,
)

package_sound : (ts rest : List Token) → package_at ts ≡ Some rest → Takes IsPackage ts rest
unfolding package_at
package_sound ts rest e =
    elim (chosen (is_word (codes "package") ts) _ _ (Some rest) e) [
      | inl t ↦
          let a = bind_some (word_at (codes "package") ts) _ rest t.1 in
          let p = bind_some (path_at a.0.1) _ rest a.2 in
          let c = bind_some (sign_at signs.Semicolon p.0.1) _ rest p.2 in
          let path = path_sound a.0.1 p.0 p.1 in
          let end : List Token = sign c.0.0 signs.Semicolon ∷ [] in
          subst (λ (y : List Token). Takes IsPackage ts y) (some_is c.0.1 rest c.2)
          (record {
            front = word a.0.0 (codes "package") ∷ (path.front ++ end);
            parts = after (word_is (codes "package") ts a.0 a.1)
                (glue path.front end c.0.1 path.parts (sign_is signs.Semicolon p.0.1 c.0 c.1));
            holds = inr (a.0.0, c.0.0, path.front, refl, path.holds);
          })
      | inr t ↦ subst (λ (y : List Token). Takes IsPackage ts y) (some_is ts rest t.1)
          (record { front = []; parts = refl; holds = inl refl })
    ]

package_complete : (ts rest : List Token) → is_word (codes "package") rest ≡ false → IsPackage ts → package_at (ts ++ rest) ≡ Some rest
unfolding package_at
package_complete ts rest fine (inl h) = rw (h, fine) refl
package_complete ts rest fine (inr (a, b, us, parts, path)) =
    let p = path_complete us (sign b signs.Semicolon ∷ rest) refl path in
    rw (parts, append_assoc, p.1) refl

-- [ "." "*" ] ";"
abbrev StarEnd : List Token → Type 0
StarEnd us = (b : Place) × (vs : List Token) × (us ≡ vs ++ sign b signs.Semicolon ∷ []) × IsStar vs

star_sound : (ts rest : List Token) → star_at ts ≡ Some rest → Takes StarEnd ts rest
unfolding star_at
star_sound ts rest e =
    elim (chosen (is_sign signs.Dot ts) _ _ (Some rest) e) [
      | inl t ↦
          let a = bind_some (sign_at signs.Dot ts) _ rest t.1 in
          let b = bind_some (sign_at signs.Star a.0.1) _ rest a.2 in
          let c = bind_some (sign_at signs.Semicolon b.0.1) _ rest b.2 in
          subst (λ (y : List Token). Takes StarEnd ts y) (some_is c.0.1 rest c.2)
          (record {
            front = sign a.0.0 signs.Dot ∷ sign b.0.0 signs.Star ∷ sign c.0.0 signs.Semicolon ∷ [];
            parts = after (sign_is signs.Dot ts a.0 a.1) (after (sign_is signs.Star a.0.1 b.0 b.1) (sign_is signs.Semicolon b.0.1 c.0 c.1));
            holds = (c.0.0, sign a.0.0 signs.Dot ∷ sign b.0.0 signs.Star ∷ [], refl, inr (a.0.0, b.0.0, refl));
          })
      | inr t ↦
          let c = bind_some (sign_at signs.Semicolon ts) _ rest t.1 in
          subst (λ (y : List Token). Takes StarEnd ts y) (some_is c.0.1 rest c.2)
          (record {
            front = sign c.0.0 signs.Semicolon ∷ [];
            parts = sign_is signs.Semicolon ts c.0 c.1;
            holds =
                (c.0.0, [], refl, inl refl);
          })
    ]

import_sound : (ts : List Token) (x : Unit {0} × List Token) → import_at ts ≡ Some x → Takes IsImport ts x.1
unfolding import_at
import_sound ts x e =
    let a = bind_some (word_at (codes "import") ts) _ x e in
    let p = bind_some (path_at a.0.1) _ x a.2 in
    let r = bind_some (star_at p.0.1) _ x p.2 in
    let path = path_sound a.0.1 p.0 p.1 in
    let star = star_sound p.0.1 r.0 r.1 in
    let (b, vs, parts, h) = star.holds in
    subst (λ (y : Unit {0} × List Token). Takes IsImport ts y.1) (some_is (tt, r.0) x r.2)
    (record {
      front = word a.0.0 (codes "import") ∷ (path.front ++ star.front);
      parts = after (word_is (codes "import") ts a.0 a.1) (glue path.front star.front r.0 path.parts star.parts);
      holds = (a.0.0, b, path.front, vs, ap (λ (z : List Token). word a.0.0 (codes "import") ∷ (path.front ++ z)) parts, path.holds, h);
    })

import_complete : (x : Unit {0}) (ts rest : List Token) → Anything rest → IsImport ts → import_at (ts ++ rest) ≡ Some (x, rest)
unfolding import_at star_at
import_complete tt ts rest fine (a, b, us, vs, parts, path, inl h) =
    let p = path_complete us (sign b signs.Semicolon ∷ rest) refl path in
    rw (parts, append_assoc, h, p.1) refl
import_complete tt ts rest fine (a, b, us, vs, parts, path, inr (c, d, h)) =
    let p = path_complete us (sign c signs.Dot ∷ sign d signs.Star ∷ sign b signs.Semicolon ∷ rest) refl path in
    rw (parts, append_assoc, h, p.1) refl

import_exact : IsExact import_at (λ x us. IsImport us) Anything
import_exact = record { sound = import_sound; complete = import_complete }

import_goes : (x : Unit {0}) (ts rest : List Token) → IsImport ts → is_word (codes "import") (ts ++ rest) ≡ true
import_goes x ts rest (a, b, us, vs, parts, path, h) = rw parts refl

import_some : (x : Unit {0}) (ts : List Token) → IsImport ts → 0 < length ts
import_some x ts (a, b, us, vs, parts, path, h) = rw parts (omega arith)

import_starts : Starts {A = Unit {0}} (is_word (codes "import")) (λ x us. IsImport us) Anything
import_starts = record { follows = λ x ts rest h. tt; goes = import_goes; nonempty = import_some }

pub import_shorter : (ts : List Token) (x : Unit {0} × List Token) → import_at ts ≡ Some x → length x.1 < length ts
import_shorter ts x e =
    let t = import_sound ts x e in
    omega (arith, ap length t.parts, length-append t.front x.1, import_some x.0 t.front t.holds)

each_imports : (xs : List (Unit {0})) (us : List Token) → Each (λ x us. IsImport us) xs us → AreImports (length xs) us
each_imports [] us h = h
each_imports (x ∷ xs) us (ps, qs, parts, h, more) = (ps, qs, parts, h, each_imports xs qs more)

units : ℕ → List (Unit {0})
units zero = []
units (suc n) = tt ∷ units n

imports_each : (n : ℕ) (us : List Token) → AreImports n us → Each (λ x us. IsImport us) (units n) us
unfolding units
imports_each zero us h = h
imports_each (suc n) us (ps, qs, parts, h, more) = (ps, qs, parts, h, imports_each n qs more)

-- ---- files

none_left : (ts : List Token) → is_some_token ts ≡ false → ts ≡ []
none_left [] h = refl
none_left (t ∷ ts) h = absurd cc

-- a word that is no modifier does not stand first behind modifiers
mods_no_word : (words : List Name) (w : Name) (us rest : List Token) → AreModifiers words us → is_among words w ≡ false →
    is_word w rest ≡ false → is_word w (us ++ rest) ≡ false
mods_no_word words w [] rest h lacks k = k
mods_no_word words w (t ∷ us) rest h lacks k =
    by_kind t.kind (and_is (is_kind_among words t.kind) (list_all (λ u. is_kind_among words u.kind) us) h).0 where
      by_word : (v : Name) → is_among words v ≡ true → (b : Bool) → bytes_eq v w ≡ b → b ≡ false
      by_word v among false e = refl
      by_word v among true e = absurd (true≢false (sym among ∙ ap (is_among words) ((bytes_eq-Decides v w).0 e) ∙ lacks))

      by_kind : (q : TokenKind) → is_kind_among words q ≡ true → is_word_kind w q ≡ false
      by_kind (kinds.Word v) e = by_word v e (bytes_eq v w) refl
      by_kind (kinds.Number n) e = absurd cc
      by_kind (kinds.Text q) e = absurd cc
      by_kind (kinds.Sign q) e = absurd cc

-- a declaration begins with no other word than its own
decl_led : (w : Name) (x : Decl) (ts rest : List Token) → is_among class_words w ≡ false → is_among enum_words w ≡ false →
    bytes_eq (codes "class") w ≡ false → bytes_eq (codes "enum") w ≡ false → IsDecl x ts
    → is_word w (ts ++ rest) ≡ false
decl_led w (ClassDecl c) ts rest no_class no_enum other another (
  name,
  a,
  b,
  g,
  us,
  vs,
  ws,
  parts,
  note,
  mods,
  ms,
  members,
  fields,
  methods,
) = rw (parts, append_assoc) (by_note c.typestate us note) where
  head : List Token
  head = word a (codes "class") ∷ word c.place c.name ∷ sign b signs.OpenBrace ∷ (ws ++ sign g signs.CloseBrace ∷ [])

  by_note : (t : Option (List ℕ)) (us : List Token) → IsAnnotation t us → is_word w (us ++ ((vs ++ head) ++ rest)) ≡ false
  by_note None us h = rw (h, append_assoc) (mods_no_word class_words w vs (head ++ rest) mods no_class other)
  by_note (Some t) us (p, q, r, s, u, h) = rw h refl
decl_led w (EnumDecl e) ts rest no_class no_enum other another (name, a, b, c, us, vs, ws, parts, mods, names, ends) =
    rw (parts, append_assoc) (mods_no_word enum_words w us (word a (codes "enum") ∷ word e.place e.name ∷ sign b signs.OpenBrace ∷
    ((vs ++ (ws ++ sign c signs.CloseBrace ∷ [])) ++ rest)) mods no_enum another)

decls_led : (w : Name) (xs : List Decl) (ts : List Token) → is_among class_words w ≡ false → is_among enum_words w ≡ false →
    bytes_eq (codes "class") w ≡ false → bytes_eq (codes "enum") w ≡ false → AreDecls xs ts
    → is_word w ts ≡ false
decls_led w [] ts no_class no_enum other another h = rw h refl
decls_led w (x ∷ xs) ts no_class no_enum other another (us, vs, parts, h, more) =
    rw parts (decl_led w x us vs no_class no_enum other another h)

imports_led : (n : ℕ) (us rest : List Token) → AreImports n us → is_word (codes "package") rest ≡ false →
    is_word (codes "package") (us ++ rest) ≡ false
imports_led zero us rest h k = rw h k
imports_led (suc n) us rest (ps, qs, parts, (a, b, vs, ws, starts, path, star), more) k = rw (parts, starts) refl

pub file_sound : (ts : List Token) (f : File) → file_at ts ≡ Some f → Spells f ts
unfolding file_at all_of
file_sound ts f e =
    let p = bind_some (package_at ts) _ f e in
    let i = bind_some (all_of (is_word (codes "import")) import_at p.0) _ f p.2 in
    let d = bind_some (all_of is_some_token decl_at i.0.1) _ f i.2 in
    let front = package_sound ts p.0 p.1 in
    let imports = all_sound (is_word (codes "import")) import_at (λ x us. IsImport us) Anything import_exact p.0 i.0 i.1 in
    let decls = all_sound is_some_token decl_at DeepDecl Anything decl_exact i.0.1 d.0 d.1 in
    let end : d.0.1 ≡ [] = none_left d.0.1 (many_stops is_some_token decl_at (suc (length i.0.1)) i.0.1 d.0 d.1) in
    let r = each_decls d.0.0 decls.front decls.holds in
    let all : i.0.1 ≡ decls.front = decls.parts ∙ ap (λ (z : List Token). decls.front ++ z) end ∙ append-nil decls.front in
    subst (λ (g : File). Spells g ts) (some_is d.0.0 f d.2) (
      (
        length i.0.0,
        front.front,
        imports.front,
        decls.front,
        front.parts ∙ ap (λ (z : List Token). front.front ++ z) (imports.parts ∙ ap (λ (z : List Token). imports.front ++ z) all),
        front.holds,
        each_imports i.0.0 imports.front imports.holds,
        r.0,
      ),
      r.1,
    )

pub file_complete : (f : File) (ts : List Token) → Spells f ts → file_at ts ≡ Some f
unfolding file_at
file_complete f ts ((n, us, vs, ws, parts, in_package, imports, decls), le) =
    let no_package = imports_led n vs ws imports (decls_led (codes "package") f ws refl refl refl refl decls) in
    let no_import = decls_led (codes "import") f ws refl refl refl refl decls in
    let first = package_complete us (vs ++ ws) no_package in_package in
    let second = all_complete (is_word (codes "import")) import_at (λ x us. IsImport us) Anything import_exact import_starts (units n) vs ws
    tt no_import (imports_each n vs imports) in
    let third : all_of is_some_token decl_at ws ≡ Some (f, []) =
    ap (all_of is_some_token decl_at) (sym (append-nil ws)) ∙ all_complete is_some_token decl_at DeepDecl Anything decl_exact decl_starts f
    ws [] tt refl (decls_each f ws decls le) in
    rw (parts, first, second, third) refl

pub file_unique : (f g : File) (ts : List Token) → Spells f ts → Spells g ts → f ≡ g
file_unique f g ts h k = some_is f g (sym (file_complete f ts h) ∙ file_complete g ts k)

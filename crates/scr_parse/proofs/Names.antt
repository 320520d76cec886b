-- Names in a row, module and type declarations are read where the grammar spells them, and nowhere else.
use Rattle.std.proofs.Common.{◌≡◌, ◌<◌, List, [], ◌∷◌, ◌++◌, length, true, false, Some, refl, sym, ap, ◌∙◌, subst, append_assoc, arith, inl}
use Rattle.std.proofs.Common.{inr}
use Rattle.mg_text.specs.Call.{Name}
use Rattle.mg_read.specs.Reader.{all_of}
use Rattle.mg_read.proofs.Steps.{bind_some, some_is, chosen, Takes}
use Rattle.mg_read.proofs.Lists.{IsExact, Starts}
use Rattle.scr_tree.specs.Tok.{Tok, named, quoted, marked}
use Rattle.scr_tree.specs.declared.token.Mark.{Mark}
use Rattle.scr_tree.specs.declared.token.Mark.TheVariants as marks
use Rattle.scr_tree.specs.declared.written.Declaration.{Declaration}
use Rattle.scr_parse.specs.Grammar.{Behind, Listed, IsNaming, IsModule, IsType}
use Rattle.scr_parse.specs.inner.Reading.{mark_at, name_at, quoted_at, is_at, other_name_at, names_at, module_at, after_module, language_at}
use Rattle.scr_parse.specs.inner.Reading.{class_at, type_at}
use Rattle.scr_parse.proofs.Steps.{Anything, after, mark_is, name_is, quoted_is, mark_again, is_at_again}
use Rattle.mg_read.proofs.Turns.{front_sound, front_complete, shorter}

-- ---- names

module _ (m : Mark) where
  other_sound : (ts : List Tok) (x : Name × List Tok) → other_name_at m ts ≡ Some x → Takes (Behind m IsNaming x.0) ts x.1
  unfolding other_name_at
  other_sound ts x e =
      let s = bind_some (mark_at m ts) _ x e in
      let n = bind_some (name_at s.0.1) _ x s.2 in
      let end : List Tok = named n.0.0.0 n.0.0.1 ∷ [] in
      subst (λ (y : Name × List Tok). Takes (Behind m IsNaming y.0) ts y.1) (some_is _ x n.2)
      (record {
        front = marked s.0.0 m ∷ end;
        parts = after (mark_is m ts s.0 s.1) (name_is s.0.1 n.0 n.1);
        holds = (s.0.0, end, refl, (n.0.0.0, refl));
      })

  other_complete : (x : Name) (ts rest : List Tok) → Anything rest → Behind m IsNaming x ts → other_name_at m (ts ++ rest) ≡ Some (x, rest)
  unfolding other_name_at
  other_complete x ts rest fine (a, us, e, (b, f)) = rw (e, f, mark_again m a) refl

  other_exact : IsExact (other_name_at m) (Behind m IsNaming) Anything
  other_exact = record { sound = other_sound; complete = other_complete }

  other_nonempty : (x : Name) (ts : List Tok) → Behind m IsNaming x ts → 0 < length ts
  other_nonempty x ts (a, us, e, h) = rw e (omega arith)

  other_goes : (x : Name) (ts rest : List Tok) → Behind m IsNaming x ts → is_at m (ts ++ rest) ≡ true
  other_goes x ts rest (a, us, e, h) = rw e (is_at_again m a (us ++ rest))

  other_starts : Starts (is_at m) (Behind m IsNaming) Anything
  other_starts = record { follows = λ x ts rest h. tt; goes = other_goes; nonempty = other_nonempty }

  pub other_name_shorter : (ts : List Tok) (x : Name) (us : List Tok) → other_name_at m ts ≡ Some (x, us) → length us < length ts
  other_name_shorter = shorter (other_name_at m) (Behind m IsNaming) Anything other_exact other_nonempty

  pub names_sound : (ts : List Tok) (x : List Name × List Tok) → names_at m ts ≡ Some x → Takes (Listed m IsNaming x.0) ts x.1
  unfolding names_at
  names_sound ts x e =
      let s = bind_some (name_at ts) _ x e in
      let more = front_sound (is_at m) (other_name_at m) (Behind m IsNaming) Anything other_exact (s.0.0.1 ∷ []) s.0.1 x s.2 in
      let first : List Tok = named s.0.0.0 s.0.0.1 ∷ [] in
      record {
        front = first ++ more.2.front;
        parts = after (name_is ts s.0 s.1) more.2.parts;
        holds = subst (λ (l : List Name). Listed m IsNaming l (first ++ more.2.front)) (sym more.1)
            (first, more.2.front, refl, (s.0.0.0, refl), more.2.holds);
      }

  pub names_complete : (x : List Name) (ts rest : List Tok) → is_at m rest ≡ false → Listed m IsNaming x ts
      → names_at m (ts ++ rest) ≡ Some (x, rest)
  unfolding names_at
  names_complete [] ts rest stops h = absurd h
  names_complete (n ∷ ns) ts rest stops (us, vs, e, (a, f), h) =
      let more = front_complete (is_at m) (other_name_at m) (Behind m IsNaming) Anything other_exact other_starts
      (n ∷ []) ns vs rest tt stops h in
      rw (e, f, more) refl

-- ---- the module's name

pub module_sound : (ts us : List Tok) → after_module ts ≡ Some us → Takes IsModule ts us
unfolding after_module module_at
module_sound ts us e =
    elim (chosen (is_at marks.Module ts) (module_at ts) (Some ts) (Some us) e) [
      | inl t ↦ there t.1
      | inr f ↦ subst (Takes IsModule ts) (some_is ts us f.1) (record { front = []; parts = refl; holds = inl refl })
    ]
  where
    there : module_at ts ≡ Some us → Takes IsModule ts us
    there e =
        let s = bind_some (mark_at marks.Module ts) _ us e in
        let n = bind_some (names_at marks.Dot s.0.1) _ us s.2 in
        let d = bind_some (mark_at marks.Semicolon n.0.1) _ us n.2 in
        let names = names_sound marks.Dot s.0.1 n.0 n.1 in
        let end : List Tok = marked d.0.0 marks.Semicolon ∷ [] in
        let inner : s.0.1 ≡ (names.front ++ end) ++ d.0.1 =
        names.parts ∙ ap (λ (r : List Tok). names.front ++ r) (mark_is marks.Semicolon n.0.1 d.0 d.1) ∙ sym
        (append_assoc names.front end d.0.1) in
        subst (Takes IsModule ts) (some_is d.0.1 us d.2)
        (record {
          front = marked s.0.0 marks.Module ∷ (names.front ++ end);
          parts = after (mark_is marks.Module ts s.0 s.1) inner;
          holds = inr (s.0.0, d.0.0, n.0.0, names.front, refl, names.holds);
        })

pub module_complete : (ts rest : List Tok) → is_at marks.Module rest ≡ false → IsModule ts → after_module (ts ++ rest) ≡ Some rest
unfolding after_module module_at
module_complete ts rest stops (inl e) = rw (e, stops) refl
module_complete ts rest stops (inr (a, b, names, us, e, h)) =
    let reads = names_complete marks.Dot names us (marked b marks.Semicolon ∷ rest) refl h in
    rw (e, append_assoc us (marked b marks.Semicolon ∷ []) rest, reads) refl

-- ---- type declarations

type_sound : (ts : List Tok) (x : Declaration × List Tok) → type_at ts ≡ Some x → Takes (IsType x.0) ts x.1
unfolding type_at language_at class_at
type_sound ts x e =
    let l = bind_some (language_at ts) _ x e in
    let a = bind_some (mark_at marks.Type ts) _ l.0 l.1 in
    let b = bind_some (mark_at marks.Less a.0.1) _ l.0 a.2 in
    let c = bind_some (name_at b.0.1) _ l.0 b.2 in
    let d = bind_some (mark_at marks.Greater c.0.1) _ l.0 c.2 in
    let same_l : (c.0.0.1, d.0.1) ≡ l.0 = some_is (c.0.0.1, d.0.1) l.0 d.2 in
    let k = bind_some (class_at l.0.1) _ x l.2 in
    let f = bind_some (quoted_at l.0.1) _ k.0 k.1 in
    let g = bind_some (mark_at marks.From f.0.1) _ k.0 f.2 in
    let h = bind_some (quoted_at g.0.1) _ k.0 g.2 in
    let i = bind_some (mark_at marks.As h.0.1) _ k.0 h.2 in
    let same_k : (f.0.0, i.0.1) ≡ k.0 = some_is (f.0.0, i.0.1) k.0 i.2 in
    let n = bind_some (name_at k.0.1) _ x k.2 in
    let j = bind_some (mark_at marks.Semicolon n.0.1) _ x n.2 in
    let q = quoted_is l.0.1 f.0 f.1 in
    let r = quoted_is g.0.1 h.0 h.1 in
    let language : c.0.0.1 ≡ l.0.0 = ap (λ (y : Name × List Tok). y.0) same_l in
    let class : f.0.0 ≡ k.0.0 = ap (λ (y : Name × List Tok). y.0) same_k in
    let last : i.0.1 ≡ named n.0.0.0 n.0.0.1 ∷ marked j.0.0 marks.Semicolon ∷ j.0.1 =
    ap (λ (y : Name × List Tok). y.1) same_k ∙ after (name_is k.0.1 n.0 n.1) (mark_is marks.Semicolon n.0.1 j.0 j.1) in
    let middle = after q.1 (after (mark_is marks.From f.0.1 g.0 g.1) (after r.1 (after (mark_is marks.As h.0.1 i.0 i.1) last))) in
    let whole = after (mark_is marks.Type ts a.0 a.1) (after (mark_is marks.Less a.0.1 b.0 b.1) (after (name_is b.0.1 c.0 c.1)
    (after (mark_is marks.Greater c.0.1 d.0 d.1) (ap (λ (y : Name × List Tok). y.1) same_l ∙ middle)))) in
    let front : Name → Name → List Tok = λ language class. marked a.0.0 marks.Type ∷ marked b.0.0 marks.Less ∷ named c.0.0.0 language
    ∷ marked d.0.0 marks.Greater ∷ quoted q.0 class ∷ marked g.0.0 marks.From ∷ quoted r.0 h.0.0 ∷ marked i.0.0 marks.As
    ∷ named n.0.0.0 n.0.0.1 ∷ marked j.0.0 marks.Semicolon ∷ [] in
    let parts : ts ≡ front l.0.0 k.0.0 ++ j.0.1 =
    subst (λ (y : Name). ts ≡ front y k.0.0 ++ j.0.1) language (subst (λ (y : Name). ts ≡ front c.0.0.1 y ++ j.0.1) class whole) in
    subst (λ (y : Declaration × List Tok). Takes (IsType y.0) ts y.1) (some_is _ x j.2)
    (record {
      front = front l.0.0 k.0.0;
      parts = parts;
      holds = (a.0.0, b.0.0, c.0.0.0, d.0.0, q.0, g.0.0, r.0, i.0.0, j.0.0, h.0.0, refl);
    })

type_complete : (d : Declaration) (ts rest : List Tok) → Anything rest → IsType d ts → type_at (ts ++ rest) ≡ Some (d, rest)
unfolding type_at language_at class_at
type_complete d ts rest fine (a, b, c, e, f, g, h, i, j, source, parts) = rw parts refl

type_nonempty : (d : Declaration) (ts : List Tok) → IsType d ts → 0 < length ts
type_nonempty d ts (a, b, c, e, f, g, h, i, j, source, parts) = rw parts (omega arith)

type_goes : (d : Declaration) (ts rest : List Tok) → IsType d ts → is_at marks.Type (ts ++ rest) ≡ true
type_goes d ts rest (a, b, c, e, f, g, h, i, j, source, parts) = rw parts refl

pub type_exact : IsExact type_at IsType Anything
type_exact = record { sound = type_sound; complete = type_complete }

pub type_starts : Starts (is_at marks.Type) IsType Anything
type_starts = record { follows = λ x ts rest h. tt; goes = type_goes; nonempty = type_nonempty }

pub type_shorter : (ts : List Tok) (x : Declaration) (us : List Tok) → type_at ts ≡ Some (x, us) → length us < length ts
type_shorter = shorter type_at IsType Anything type_exact type_nonempty

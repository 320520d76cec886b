-- Where statements begin: at the first state in them, where they have one.
use Rattle.std.proofs.Common.{◌≡◌, ℕ, ◌+◌, List, [], ◌∷◌, ◌++◌, length, refl, sym, ap, ◌∙◌, Bool, true, false, ◌||◌, Option}
use Rattle.std.specs.Str.{bytes_eq}
use Rattle.mg_text.specs.Call.{Name}
use Rattle.scr_tree.specs.Tree.{Statements, Nothing, Says, Choice, Rec, Continue, Do}
use Rattle.scr_tree.specs.Meaning.{choices, numbered}
use Rattle.scr_tree.specs.Protocol.{Protocol}
use Rattle.scr_tree.specs.Steps.{Part, BodyOf, Left, Position}
use Rattle.scr_trace.specs.declared.arrow.Hop.TheVariants as hops
use Rattle.scr_trace.specs.Positions.{states_in}
use Rattle.scr_trace.specs.inner.Laying.{Work, Known, lay, lay_in, opened, closed, gathering}
use Rattle.scr_trace.proofs.Parts
use Rattle.scr_trace.proofs.Rules.{Sound, stays}

module _ (me : Name) (entry : Name → Option ℕ) where
  -- they have no states
  abbrev pub HasNone : Statements → Type 0
  HasNone t = (n : ℕ) (part : Part) (around : Position) → states_in part around (numbered me n t) ≡ []

  -- where statements begin in front of w, if u is what is laid out with them
  pub data Begins (t : Statements) (w u : Work) : Type 0 where
    at_first : u.next ≡ hops.State (length u.cells) → Begins t w u
    through : HasNone t → u.cells ≡ w.cells → u.next ≡ w.next → Begins t w u
    back : HasNone t → u.cells ≡ w.cells → stays t ≡ true → Begins t w u

  none_both : (place : _) (name : Name) (body rest : Statements) → HasNone body → HasNone rest → HasNone (Rec place name body rest)
  none_both place name body rest b r n part around =
      let p : Protocol = numbered me n body in
      let q : Protocol = numbered me (n + choices me body) rest in
      λ i. b n (BodyOf name p) (Left q part ∷ around) i ++ r (n + choices me body) part around i

  or_true : (b : Bool) → (b || true) ≡ true
  or_true true = refl
  or_true false = refl

  -- the statements behind a body that is passed
  behind : (place : _) (name : Name) (body rest : Statements) (w v u x : Work) → HasNone body → x.cells ≡ v.cells → x.next ≡ v.next →
      u.cells ≡ x.cells → u.next ≡ x.next →
      Begins rest w v → Begins (Rec place name body rest) w u
  behind place name body rest w v u x none cells next cells' next' (at_first e) =
      at_first (next' ∙ next ∙ e ∙ ap hops.State (sym (ap length (cells' ∙ cells))))
  behind place name body rest w v u x none cells next cells' next' (through b c d) = through (none_both place name body rest none b)
      (cells' ∙ cells ∙ c) (next' ∙ next ∙ d)
  behind place name body rest w v u x none cells next cells' next' (back b c d) = back (none_both place name body rest none b)
      (cells' ∙ cells ∙ c) (ap (λ z. stays body || z) d ∙ or_true (stays body))

  -- a rec, whose body is x in front of o
  in_rec : (known : List Known) (place : _) (name : Name) (body rest : Statements) (w v o x u : Work) → (stays body ≡ true → rest ≡ Nothing)
      → v ≡ lay me entry known w rest →
      o.cells ≡ v.cells → o.next ≡ v.next → u.cells ≡ x.cells → u.next ≡ x.next →
      Begins rest w v → Begins body o x → Begins (Rec place name body rest) w u
  in_rec known place name body rest w v o x u last is oc on uc un r (at_first e) = at_first (un ∙ e ∙ ap hops.State (sym (ap length uc)))
  in_rec known place name body rest w v o x u last is oc on uc un r (through none c d) = behind place name body rest w v u x none (c ∙ oc)
      (d ∙ on) uc un r
  in_rec known place name body rest w v o x u last is oc on uc un r (back none c d) =
      let e : rest ≡ Nothing = last d in
      back (none_both place name body rest none (λ n part around. ap (λ (t : Statements). states_in part around (numbered me n t)) e))
      (uc ∙ c ∙ oc ∙ ap (λ (y : Work). y.cells) is ∙ ap (λ (t : Statements). (lay me entry known w t).cells) e)
      (ap (λ z. z || stays rest) d)

  pub begins : (protocols : List Name) (t : Statements) (names : List Name) → Sound protocols names t → (known : List Known) (w : Work) →
      Begins t w (lay me entry known w t)
  begins protocols Nothing names h known w = through (λ n part around. refl) refl refl
  begins protocols (Says m rest) names h known w =
      at_first (Parts.said_next m (lay me entry known w rest) ∙ ap (λ cs. hops.State (length cs))
      (sym (Parts.said_cells m (lay me entry known w rest))))
  begins protocols (Choice place at bs rest) names h known w =
      let v = lay me entry known w rest in
      let g = lay_in me entry known (bytes_eq at me) v.next (gathering v) bs in
      at_first (Parts.chosen_next (bytes_eq at me) g ∙ ap (λ cs. hops.State (length cs)) (sym (Parts.chosen_cells (bytes_eq at me) g)))
  begins protocols (Rec place name body rest) names h known w =
      let v = lay me entry known w rest in
      let x = lay me entry (record { name = name; number = length v.loops } ∷ known) (opened v) body in
      in_rec known place name body rest w v (opened v) x (closed (length v.loops) x) h.2 refl (Parts.opened_cells v) (Parts.opened_next v)
      (Parts.closed_cells (length v.loops) x) (Parts.closed_next (length v.loops) x)
      (begins protocols rest names h.3 known w)
      (begins protocols body (name ∷ names) h.1 (record { name = name; number = length v.loops } ∷ known) (opened v))
  begins protocols (Continue place name rest) names h known w =
      back (λ n part around. ap (λ (t : Statements). states_in part around (numbered me n t)) h.1)
      (ap (λ (t : Statements). (lay me entry known w t).cells) h.1) refl
  begins protocols (Do place name rest) names h known w =
      back (λ n part around. ap (λ (t : Statements). states_in part around (numbered me n t)) h.1)
      (ap (λ (t : Statements). (lay me entry known w t).cells) h.1) refl

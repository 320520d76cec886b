-- An expression that is well typed has the type that its form tells; `null` alone has none.
use Rattle.std.proofs.Common.{◌≡◌, ℕ, List, Bool, true, false, Option, Some, refl, ap, ap₂, ◌∙◌, option_map, slice_get}
use Rattle.std.specs.Prelude.{◌⊎◌, ◌||◌}
use Rattle.std.proofs.Common.{inl, inr}
use Rattle.jv_tree.specs.declared.tree.Op.{Op}
use Rattle.jv_tree.specs.declared.tree.Op.TheVariants as ops
use Rattle.jv_core.specs.declared.program.CoreType.{CoreType}
use Rattle.jv_core.specs.declared.program.CoreType.TheVariants as types
use Rattle.jv_core.specs.Tree.{Expr, Method, Program}
use Rattle.jv_core.specs.Types as typing
use Rattle.jv_core.specs.Types.{Has, IsArithmetic, IsOrder, IsLogic, IsEquality, IsShown}
use Rattle.jv_core.specs.Meaning.{result_of}
use Rattle.gen_rules.specs.Typed.{is_text, joins, operator_type, type_of}
use Rattle.gen_rules.specs.Laws.{IsWritten, TypesAgree}

-- no object
abbrev IsPlain : CoreType → Type 0
IsPlain (types.Object c) = ⊥
IsPlain _ = Unit {0}

called : (p : Program) (n : ℕ) (k : Method) (t : CoreType) → slice_get p.methods n ≡ Some k → k.result ≡ t → result_of p n ≡ Some t
called p n k t e r = ap (option_map (λ m. m.result)) e ∙ ap (λ x. Some x) r

arithmetic : (o : Op) (j : Bool) → IsArithmetic o → operator_type o j ≡ types.Int
arithmetic ops.Sub j h = refl
arithmetic ops.Mul j h = refl
arithmetic ops.Div j h = refl
arithmetic ops.Rem j h = refl
arithmetic _ j h = absurd h

-- operators of a kind that has no arithmetic give truth values
of_truth : (Is : Op → Type 0) → (Is ops.Add → ⊥) → (Is ops.Sub → ⊥) → (Is ops.Mul → ⊥) → (Is ops.Div → ⊥) → (Is ops.Rem → ⊥) →
    (o : Op) (j : Bool) → Is o → operator_type o j ≡ types.Boolean
of_truth Is a s m d r ops.Add j h = absurd (a h)
of_truth Is a s m d r ops.Sub j h = absurd (s h)
of_truth Is a s m d r ops.Mul j h = absurd (m h)
of_truth Is a s m d r ops.Div j h = absurd (d h)
of_truth Is a s m d r ops.Rem j h = absurd (r h)
of_truth Is a s m d r _ j h = refl

ordered : (o : Op) (j : Bool) → IsOrder o → operator_type o j ≡ types.Boolean
ordered = of_truth IsOrder (λ h. h) (λ h. h) (λ h. h) (λ h. h) (λ h. h)

logical : (o : Op) (j : Bool) → IsLogic o → operator_type o j ≡ types.Boolean
logical = of_truth IsLogic (λ h. h) (λ h. h) (λ h. h) (λ h. h) (λ h. h)

equal : (o : Op) (j : Bool) → IsEquality o → operator_type o j ≡ types.Boolean
equal = of_truth IsEquality (λ h. h) (λ h. h) (λ h. h) (λ h. h) (λ h. h)

text_left : (s t : Option CoreType) → s ≡ Some types.Text → operator_type ops.Add (joins ops.Add s t) ≡ types.Text
text_left s t e = ap (λ x. operator_type ops.Add (joins ops.Add x t)) e

or_true : (b : Bool) → (b || true) ≡ true
or_true true = refl
or_true false = refl

text_right : (s t : Option CoreType) → t ≡ Some types.Text → operator_type ops.Add (joins ops.Add s t) ≡ types.Text
text_right s t e = ap (λ x. operator_type ops.Add (joins ops.Add s x)) e ∙ ap (operator_type ops.Add) (or_true (is_text s))

two_ints : (s t : Option CoreType) → s ≡ Some types.Int → t ≡ Some types.Int → operator_type ops.Add (joins ops.Add s t) ≡ types.Int
two_ints s t e f = ap₂ (λ x y. operator_type ops.Add (joins ops.Add x y)) e f

module _ (p : Program) (m : Method) (scope : List ℕ) where
  abbrev Told : Expr → CoreType → Type 0
  Told e t = (type_of p m e ≡ Some t) ⊎ ((IsWritten e → ⊥) × (IsPlain t → ⊥))

  -- a type that is no object's is told
  plain : (e : Expr) (t : CoreType) → IsPlain t → Told e t → type_of p m e ≡ Some t
  plain e t h (inl x) = x
  plain e t h (inr x) = absurd (x.1 h)

  some : {s t : CoreType} → s ≡ t → Some s ≡ Some t
  some e = ap (λ x. Some x) e

  -- it has the type that its form tells, or is `null` and its type an object's
  pub told : (e : Expr) (t : CoreType) → Has p m scope e t → Told e t
  told e t typing.int = inl refl
  told e t typing.truth = inl refl
  told e t typing.text = inl refl
  told e t typing.null = inr ((λ x. x), (λ x. x))
  told e t (typing.variable x) = inl x.type
  told e t (typing.constant d n) = inl refl
  told e t (typing.negative a) = inl refl
  told e t (typing.opposite a) = inl refl
  told e t (typing.sum {a = a} {b = b} x y) =
      inl (some (two_ints _ _ (plain a types.Int tt (told a types.Int x)) (plain b types.Int tt (told b types.Int y))))
  told e t (typing.text_and {a = a} {b = b} x y s) = inl (some (text_left _ _ (plain a types.Text tt (told a types.Text x))))
  told e t (typing.and_text {a = a} {b = b} x s y) = inl (some (text_right (type_of p m a) _ (plain b types.Text tt
      (told b types.Text y))))
  told e t (typing.computed {o = o} a x y) = inl (some (arithmetic o _ a))
  told e t (typing.ordered {o = o} a x y) = inl (some (ordered o _ a))
  told e t (typing.logic {o = o} a x y) = inl (some (logical o _ a))
  told e t (typing.same {o = o} a c x y) = inl (some (equal o _ a))
  told e t (typing.is_null {o = o} a x) = inl (some (equal o _ a))
  told e t (typing.null_is {o = o} a x) = inl (some (equal o _ a))
  told e t (typing.protocol {n = n} {k = k} v x args r f) = inl (called p n k t x.at r)
  told e t (typing.helper {n = n} {k = k} i x o args r) = inl (called p n k t x.at r)
  told e t (typing.static {n = n} {k = k} x args r) = inl (called p n k t x.at r)
  told e t (typing.equals a b f) = inl refl
  told e t (typing.concat a b f) = inl refl
  told e t (typing.session args r) = inl (some r)
  told e t (typing.new h) = inl refl

  written : (e : Expr) (t : CoreType) → IsWritten e → Told e t → type_of p m e ≡ Some t
  written e t w (inl x) = x
  written e t w (inr x) = absurd (x.0 w)

pub types_agree : TypesAgree
types_agree = record { agree = λ p m scope e t w h. written p m scope e t w (told p m scope e t h) }

-- What is judged at a member.
use Rattle.std.proofs.Common.{◌≡◌, Option, Some, None, Bool, true, false, not, ◌||◌, if◌then◌else◌, refl, sym, ap, subst, ◌∙◌, true≢false}
use Rattle.std.specs.Option.{option_or, is_some}
use Rattle.std.specs.List.{list_any}
use Rattle.std.specs.Str.{bytes_eq}
use Rattle.std.proofs.lemmas.Option.{same_Some}
use Rattle.mg_text.specs.Call.{Name}
use Rattle.mg_text.specs.declared.place.Place.{Place}
use Rattle.mg_read.specs.Culprit.{Culprit, culprit}
use Rattle.jv_tree.specs.Source.{Expr, Int, Truth, Text, Null, This, Variable, Member, Neg, Not, Binary, Call, MethodCall, New, Enum}
use Rattle.jv_tree.specs.Source.{place_of}
use Rattle.jv_meaning.specs.Program.{enum_named}
use Rattle.jv_rules.specs.declared.condition.Condition.{Condition}
use Rattle.jv_rules.specs.declared.condition.Condition.TheVariants as conditions
use Rattle.jv_rules.specs.Types.{ValueType, EnumType}
use Rattle.jv_rules.specs.Scope.{Scope, variable_type}
use Rattle.jv_rules.specs.Typing.{member_type, constant_type}
use Rattle.jv_rules.specs.Spots.{Value, nodes}
use Rattle.jv_rules.specs.inner.Deciding.{told, when, has_constant, names_class}
use Rattle.jv_types.specs.declared.value_type.ValueType.{ValueType as KeptType}
use Rattle.jv_types.specs.inner.View.{type_seen}
use Rattle.jv_types.specs.inner.Judging.{expr_fault, IsChecked, is_this, variable_name}
use Rattle.jv_types.proofs.Faulting.{last_node}

abbrev unknown : Place → Name → Option (Condition × Culprit)
unknown p x = Some (conditions.UnknownName, culprit p x)

-- what a name answers, where it has a type or none
abbrev by_type : Place → Name → Option ValueType → Option (Condition × Culprit)
by_type p x o = told conditions.UnknownName (when (not (is_some o)) (culprit p x)) None

module _ (s : Scope) (p : Place) (n : Name) where
  -- behind a name: that of a variable, of an enum, of a class, or of nothing
  answers : Place → Name → Option ValueType → Option Enum → Bool → Option (Condition × Culprit)
  answers q x v o b =
      option_or (told conditions.UnknownName (when (not (is_some v || (is_some o || b))) (culprit q x)) None)
      (option_or (by_type p n (elim v [
        | None ↦ elim o [
          | None ↦ None
          | Some e ↦ if list_any (bytes_eq n) e.constants then Some (EnumType x)
              else None
        ]
        | Some t ↦ None
      ])) None)

  module _ (q : Place) (x : Name) where
    named_variable : (t : ValueType) → Some t ≡ variable_type s x → expr_fault s (Member p (Variable q x) n) ≡ unknown p n
    unfolding answers
    named_variable t e = ap (λ v. answers q x v (enum_named s.program.files x) (names_class s x)) (sym e)

    by_class : None ≡ variable_type s x → None ≡ enum_named s.program.files x → (b : Bool) → b ≡ names_class s x →
        expr_fault s (Member p (Variable q x) n) ≡ answers q x None None b
    unfolding answers
    by_class e f b g =
        ap (λ v. answers q x v (enum_named s.program.files x) (names_class s x)) (sym e)
        ∙ ap (λ o. answers q x None o (names_class s x)) (sym f) ∙ ap (answers q x None None) (sym g)

    named_nothing : None ≡ variable_type s x → None ≡ enum_named s.program.files x → false ≡ names_class s x →
        expr_fault s (Member p (Variable q x) n) ≡ unknown q x
    unfolding answers
    named_nothing e f g = by_class e f false g

    named_class : None ≡ variable_type s x → None ≡ enum_named s.program.files x → true ≡ names_class s x →
        expr_fault s (Member p (Variable q x) n) ≡ unknown p n
    unfolding answers
    named_class e f g = by_class e f true g

    module _ (e : None ≡ variable_type s x) (m : Enum) (f : Some m ≡ enum_named s.program.files x) where
      constant_is : (b : Bool) → b ≡ list_any (bytes_eq n) m.constants →
          member_type s (Variable q x) n ≡ (if b then Some (EnumType x) else None)
      constant_is b g =
          ap (λ v. elim v [ None ↦ constant_type s.program x n | Some t ↦ None ]) (sym e)
          ∙ ap (λ o. elim o [ None ↦ None | Some k ↦ if list_any (bytes_eq n) k.constants then Some (EnumType x) else None ]) (sym f) ∙
          ap (λ c. if c then Some (EnumType x) else None) (sym g)

      fault_is : (b : Bool) → b ≡ list_any (bytes_eq n) m.constants → expr_fault s (Member p (Variable q x) n) ≡ option_or
          (by_type p n (if b then Some (EnumType x) else None)) None
      unfolding answers
      fault_is b g =
          ap (λ v. answers q x v (enum_named s.program.files x) (names_class s x)) (sym e)
          ∙ ap (λ o. answers q x None o (names_class s x)) (sym f) ∙
          ap (λ c. option_or (by_type p n (if c then Some (EnumType x) else None)) None) (sym g)

      named_constant : true ≡ list_any (bytes_eq n) m.constants → (ty : KeptType) → type_seen ty ≡ EnumType x →
          IsChecked s (Member p (Variable q x) n) (record { ty = ty; helper = false })
      named_constant g ty h = record { fine = fault_is true g; typed = constant_is true g ∙ ap Some (sym h); helper = refl }

      named_other : false ≡ list_any (bytes_eq n) m.constants → expr_fault s (Member p (Variable q x) n) ≡ unknown p n
      named_other g = fault_is false g

  -- the same of an expression that is a name
  module _ (e : Expr) (x : Name) (is : variable_name e ≡ Some x) where
    pub is_named : e ≡ Variable (place_of e) x
    is_named = go e is
      where
        go : (e : Expr) → variable_name e ≡ Some x → e ≡ Variable (place_of e) x
        go (Variable q y) h = ap (Variable q) (same_Some y x h)
        go (Int q z) h = let no : ⊥ = cc in absurd no
        go (Truth q b) h = let no : ⊥ = cc in absurd no
        go (Text q t') h = let no : ⊥ = cc in absurd no
        go (Null q) h = let no : ⊥ = cc in absurd no
        go (This q) h = let no : ⊥ = cc in absurd no
        go (Member q r m) h = let no : ⊥ = cc in absurd no
        go (Neg q r) h = let no : ⊥ = cc in absurd no
        go (Not q r) h = let no : ⊥ = cc in absurd no
        go (Binary q o l r) h = let no : ⊥ = cc in absurd no
        go (Call q m args) h = let no : ⊥ = cc in absurd no
        go (MethodCall q r m args) h = let no : ⊥ = cc in absurd no
        go (New q m) h = let no : ⊥ = cc in absurd no

    pub at_variable : (t : ValueType) → Some t ≡ variable_type s x → expr_fault s (Member p e n) ≡ unknown p n
    at_variable t h = ap (λ z. expr_fault s (Member p z n)) is_named ∙ named_variable (place_of e) x t h

    pub at_nothing : None ≡ variable_type s x → None ≡ enum_named s.program.files x → false ≡ names_class s x →
        expr_fault s (Member p e n) ≡ unknown (place_of e) x
    at_nothing h f g = ap (λ z. expr_fault s (Member p z n)) is_named ∙ named_nothing (place_of e) x h f g

    pub at_class : None ≡ variable_type s x → None ≡ enum_named s.program.files x → true ≡ names_class s x →
        expr_fault s (Member p e n) ≡ unknown p n
    at_class h f g = ap (λ z. expr_fault s (Member p z n)) is_named ∙ named_class (place_of e) x h f g

    pub at_constant : None ≡ variable_type s x → (m : Enum) → Some m ≡ enum_named s.program.files x → true ≡ has_constant (Some m) n →
        (ty : KeptType) → type_seen ty ≡ EnumType x →
        IsChecked s (Member p e n) (record { ty = ty; helper = false })
    at_constant h m f g ty k = subst (λ z. IsChecked s (Member p z n) (record { ty = ty; helper = false })) (sym is_named)
        (named_constant (place_of e) x h m f g ty k)

    pub at_other : None ≡ variable_type s x → (m : Enum) → Some m ≡ enum_named s.program.files x → false ≡ has_constant (Some m) n →
        expr_fault s (Member p e n) ≡ unknown p n
    at_other h m f g = ap (λ z. expr_fault s (Member p z n)) is_named ∙ named_other (place_of e) x h m f g

  -- behind another expression
  pub other_member : (e : Expr) → is_this e ≡ false → None ≡ variable_name e → expr_fault s (Member p e n) ≡ option_or (expr_fault s e)
      (unknown p n)
  other_member (This q) t v = absurd (true≢false t)
  other_member (Variable q x') t v = let no : ⊥ = cc in absurd no
  other_member (Int q z) t v = last_node s (nodes (Int q z)) (Value (Member p (Int q z) n))
  other_member (Truth q b) t v = last_node s (nodes (Truth q b)) (Value (Member p (Truth q b) n))
  other_member (Text q t') t v = last_node s (nodes (Text q t')) (Value (Member p (Text q t') n))
  other_member (Null q) t v = last_node s (nodes (Null q)) (Value (Member p (Null q) n))
  other_member (Member q r m) t v = last_node s (nodes (Member q r m)) (Value (Member p (Member q r m) n))
  other_member (Neg q r) t v = last_node s (nodes (Neg q r)) (Value (Member p (Neg q r) n))
  other_member (Not q r) t v = last_node s (nodes (Not q r)) (Value (Member p (Not q r) n))
  other_member (Binary q o l r) t v = last_node s (nodes (Binary q o l r)) (Value (Member p (Binary q o l r) n))
  other_member (Call q m args) t v = last_node s (nodes (Call q m args)) (Value (Member p (Call q m args) n))
  other_member (MethodCall q r m args) t v = last_node s (nodes (MethodCall q r m args)) (Value (Member p (MethodCall q r m args) n))
  other_member (New q m) t v = last_node s (nodes (New q m)) (Value (Member p (New q m) n))

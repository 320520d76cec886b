-- What holds at a spot where nothing is at fault.
use Rattle.std.proofs.Common.{◌≡◌, ◌≢◌, ⊎_elim, List, [], ◌∷◌, length, Option, Some, None, Bool, true, false, ◌==◌, Contains, Decides, refl}
use Rattle.std.proofs.Common.{sym, ap, subst, ◌∙◌, true≢false}
use Rattle.std.proofs.lemmas.Bool.Decides.{Decides-eqb}
use Rattle.std.proofs.lemmas.Option.{same_Some}
use Rattle.mg_text.specs.Call.{Name}
use Rattle.mg_text.specs.declared.place.Place.{Place}
use Rattle.mg_read.specs.Culprit.{Culprit, culprit}
use Rattle.mg_read.specs.First.{Clean}
use Rattle.mg_read.proofs.Judging.{judged-clean}
use Rattle.jv_tree.specs.Source.{Expr, Exprs, Variable, Member, Call, MethodCall, place_of}
use Rattle.jv_rules.specs.declared.condition.Condition.{Condition}
use Rattle.jv_rules.specs.declared.condition.Condition.TheVariants as conditions
use Rattle.jv_rules.specs.Types.{ValueType, Signature}
use Rattle.jv_rules.specs.Scope.{Scope, variable_type}
use Rattle.jv_rules.specs.Typing.{type_of, called, called_on}
use Rattle.jv_rules.specs.Spots.{Spot, AtNode, Value}
use Rattle.jv_rules.specs.Taking.{Taken, Takes, Suits, taken_at, count_of}
use Rattle.jv_rules.specs.Conditions as says
use Rattle.jv_rules.specs.Faults.{AtSpot, on_methods, IsAtFault}
use Rattle.jv_rules.specs.inner.Deciding.{suits, fault_at, first_kind, answer, told}
use Rattle.jv_rules.proofs.Tests.{nothing_in, in_cases, in_first, in_later}
use Rattle.jv_rules.proofs.Deciding.{Answers, answer-right, fault_at-right, suits-Decides}

-- no element of a clean list is at fault
pub clean_at : {X C : Type 0} (At : X → C → Type 0) (xs : List X) → Clean At xs → (x : X) → Contains xs x → (c : C) → At x c → ⊥
clean_at At [] h x has c a = nothing_in x has
clean_at At (y ∷ xs) h x has c a =
    ⊎_elim (λ same. h.0 c (subst (λ z. At z c) (sym same) a)) (λ more. clean_at At xs h.1 x more c a) (in_cases xs y x has)

-- nothing is told at a spot without a fault
pub fault_at-None : (s : Spot) → ((f : Condition × Culprit) → IsAtFault s f → ⊥) → fault_at s ≡ None
fault_at-None s h = go (fault_at s) refl
  where
    go : (r : Option (Condition × Culprit)) → fault_at s ≡ r → r ≡ None
    go None e = refl
    go (Some f) e = absurd (h f (subst (λ r. Answers (IsAtFault s) r) e (fault_at-right s)))

told_none : {K C : Type 0} (k : K) (o : Option C) (r : Option (K × C)) → told k o r ≡ None → (o ≡ None) × (r ≡ None)
told_none k None r e = (refl, e)
told_none k (Some c) r e = let no : ⊥ = cc in absurd no

-- each of the conditions has no culprit there
pub none_of : {K C : Type 0} (f : K → Option C) (ks : List K) → first_kind f ks ≡ None → (k : K) → Contains ks k → f k ≡ None
none_of f [] e k has = absurd (nothing_in k has)
none_of f (j ∷ ks) e k has =
    let h = told_none j (f j) (first_kind f ks) e in ⊎_elim (λ same. sym (ap f same) ∙ h.0) (λ more. none_of f ks h.1 k more)
    (in_cases ks j k has)

-- there is a value, where there isn't none
pub some_of : {X : Type 0} (o : Option X) → (o ≡ None → ⊥) → (x : X) × (o ≡ Some x)
some_of None n = absurd (n refl)
some_of (Some x) n = (x, refl)

abbrev behind_arity : List Condition
behind_arity = conditions.BadLabel ∷ conditions.MissingReturn ∷ conditions.SelfCall ∷ conditions.ThisAsValue ∷ conditions.ArgsMayMove ∷ []

abbrev behind_locals : List Condition
behind_locals = conditions.TypeMismatch ∷ conditions.Arity ∷ behind_arity

mismatch_counts : Contains on_methods conditions.TypeMismatch
mismatch_counts =
    in_later (conditions.DuplicateLocal ∷ behind_locals) conditions.UnknownName conditions.TypeMismatch
    (in_later behind_locals conditions.DuplicateLocal conditions.TypeMismatch
    (in_first (conditions.Arity ∷ behind_arity) conditions.TypeMismatch))

name_counts : Contains on_methods conditions.UnknownName
name_counts = in_first (conditions.DuplicateLocal ∷ behind_locals) conditions.UnknownName

arity_counts : Contains on_methods conditions.Arity
arity_counts =
    in_later (conditions.DuplicateLocal ∷ behind_locals) conditions.UnknownName conditions.Arity
    (in_later behind_locals conditions.DuplicateLocal conditions.Arity
    (in_later (conditions.Arity ∷ behind_arity) conditions.TypeMismatch conditions.Arity (in_first behind_arity conditions.Arity)))

module _ (s : Spot) (fine : (f : Condition × Culprit) → IsAtFault s f → ⊥) where
  pub no_answer : (k : Condition) → Contains on_methods k → answer s k ≡ None
  no_answer k has = none_of (answer s) on_methods (fault_at-None s fine) k has

  -- no culprit of a condition
  pub nothing_wrong : (k : Condition) → Contains on_methods k → AtSpot s k None
  nothing_wrong k has = subst (AtSpot s k) (no_answer k has) (answer-right s k)

  -- Each value that is taken has a type, and it is what is wanted.
  pub suited : (scope : Scope) (t : Taken) → Contains (taken_at s) (Takes scope t) →
      (type : ValueType) × (type_of scope t.value ≡ Some type) × Suits t.wanted t.value type
  suited scope t has = go (type_of scope t.value) refl
    where
      wrong : ((type : ValueType) → type_of scope t.value ≡ Some type → Suits t.wanted t.value type → ⊥) → ⊥
      wrong n =
          clean_at says.TypeMismatch (taken_at s) (judged-clean (nothing_wrong conditions.TypeMismatch mismatch_counts)) (Takes scope t) has
          (culprit (place_of t.value) []) (refl, n)

      fitting : (g : ValueType) → type_of scope t.value ≡ Some g → (b : Bool) → Decides b (Suits t.wanted t.value g) →
          (type : ValueType) × (type_of scope t.value ≡ Some type) × Suits t.wanted t.value type
      fitting g e true d = (g, e, d.0 refl)
      fitting g e false d =
          absurd (wrong (λ type f q. true≢false (sym (d.1 (subst (Suits t.wanted t.value) (same_Some type g (sym f ∙ e)) q)))))

      go : (o : Option ValueType) → type_of scope t.value ≡ o → (type : ValueType) × (type_of scope t.value ≡ Some type) × Suits t.wanted
          t.value type
      go None e = absurd (wrong (λ type f q. none_is type (sym e ∙ f)))
        where
          none_is : (type : ValueType) → None ≡ Some type → ⊥
          none_is type f = cc
      go (Some g) e = fitting g e (suits t.wanted t.value g) (suits-Decides t.wanted t.value g)

module _ (scope : Scope) where
  -- a name that is at no fault names something
  module _ (p : Place) (x : Name) (fine : (f : Condition × Culprit) → IsAtFault (AtNode scope (Value (Variable p x))) f → ⊥) where
    pub known_variable : (type : ValueType) × (variable_type scope x ≡ Some type)
    known_variable = some_of (variable_type scope x) (λ n. (judged-clean (nothing_wrong _ fine conditions.UnknownName name_counts)).0
        (culprit p x) (refl, n))

  module _ (p : Place) (e : Expr) (x : Name) (fine : (f : Condition × Culprit) → IsAtFault (AtNode scope (Value (Member p e x))) f → ⊥)
    where
      pub known_member : (type : ValueType) × (type_of scope (Member p e x) ≡ Some type)
      known_member = some_of (type_of scope (Member p e x)) (λ n. (judged-clean (nothing_wrong _ fine conditions.UnknownName name_counts)).0
          (culprit p x) (refl, n))

  module _ (p : Place) (name : Name) (args : Exprs) (fine : (f : Condition × Culprit) → IsAtFault (AtNode scope (Value (Call p name args)))
      f → ⊥) where
    pub known_call : (g : Signature) × (called scope name ≡ Some g)
    known_call = some_of (called scope name) (λ n. (judged-clean (nothing_wrong _ fine conditions.UnknownName name_counts)).0
        (culprit p name) (refl, n))

    pub counted_call : (g : Signature) → called scope name ≡ Some g → count_of args ≡ length g.params
    counted_call g e =
        equal (count_of args == length g.params) (Decides-eqb (count_of args) (length g.params))
        (λ n. (judged-clean (nothing_wrong _ fine conditions.Arity arity_counts)).0 (culprit p []) (refl, g, e, n))
      where
        equal : (b : Bool) → Decides b (count_of args ≡ length g.params) → ((count_of args ≢ length g.params) → ⊥) →
            count_of args ≡ length g.params
        equal true d n = d.0 refl
        equal false d n = absurd (n (λ k. true≢false (sym (d.1 k))))

  module _ (p : Place) (e : Expr) (name : Name) (args : Exprs) (fine : (f : Condition × Culprit) →
      IsAtFault (AtNode scope (Value (MethodCall p e name args))) f → ⊥) where
    pub known_method : (g : Signature) × (called_on scope e (type_of scope e) name ≡ Some g)
    known_method =
        some_of (called_on scope e (type_of scope e) name) (λ n. (judged-clean (nothing_wrong _ fine conditions.UnknownName name_counts)).0
        (culprit p name) (refl, n))

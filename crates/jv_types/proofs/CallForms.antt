-- Each form of call.
use Rattle.std.proofs.Common.{◌≡◌, List, [], ◌∷◌, ◌++◌, Option, Some, None, true, false, not, ◌||◌, refl, sym, ap, subst, ◌∙◌, true≢false}
use Rattle.std.specs.Option.{option_or, is_some, option_map}
use Rattle.mg_text.specs.Call.{Name}
use Rattle.mg_text.specs.declared.place.Place.{Place}
use Rattle.mg_read.specs.Culprit.{Culprit, culprit}
use Rattle.jv_tree.specs.Source.{Expr, Int, Truth, Text, Null, This, Variable, Member, Neg, Not, Binary, Call, MethodCall, New, Exprs}
use Rattle.jv_tree.specs.Source.{place_of}
use Rattle.jv_tree.specs.View.{field_of as field_seen}
use Rattle.jv_rules.specs.declared.condition.Condition.{Condition}
use Rattle.jv_rules.specs.declared.condition.Condition.TheVariants as conditions
use Rattle.jv_rules.specs.Types.{ValueType, NoValue, IntType, BooleanType, TextType, EnumType, ClassType, NullType, Signature}
use Rattle.jv_rules.specs.Scope.{Scope, variable_type, field_of}
use Rattle.jv_rules.specs.Typing.{type_of, called, called_on, called_on_this, called_on_class, called_on_value}
use Rattle.jv_rules.specs.Spots.{Value, AtNode, nodes, nodes_in, at_nodes}
use Rattle.jv_rules.specs.Taking.{ClassVariable, Taken, all_taken, receiver, arguments}
use Rattle.jv_rules.specs.inner.Deciding.{when, told, first_by, type_mismatch, count_differs, is_protocol, is_helper, is_receiver}
use Rattle.jv_rules.specs.inner.Deciding.{self_call, calls_helper, calls_helper_in, fault_in}
use Rattle.jv_types.specs.declared.calls.Site.{Site}
use Rattle.jv_types.specs.inner.Judging.{expr_fault, args_fault, at_place, is_this, variable_name}
use Rattle.jv_types.specs.inner.Calls.{moved, moves_told, IsSite, receiver_misfit, field_named_by, called_on_named}
use Rattle.jv_types.proofs.Faulting.{last_node, nodes-append, alone_taken}
use Rattle.jv_types.proofs.CallSteps.{taken_append, node_told, built}
use Rattle.jv_types.proofs.MemberSteps.{is_named}

module _ (s : Scope) (site : Site) (args : Exprs) where
  abbrev p : Place
  p = site.place

  abbrev n : Name
  n = site.name.now

  no_receiver : site.receiver ≡ None → option_map at_place site.receiver ≡ None
  no_receiver h = ap (option_map at_place) h

  no_field : site.field ≡ None → moves_told site (calls_helper_in s args) ≡ None
  no_field h = ap (λ o. moved p (option_map (λ f. field_seen f.now) o) (calls_helper_in s args)) h

  -- `name(..)`
  pub plain_site : site.receiver ≡ None → site.is_own ≡ is_protocol s n → site.field ≡ None → site.helper ≡ is_helper s n →
      IsSite s (Call p n args) site (called s n) args
  plain_site r own f helper =
      built s (Call p n args) site (called s n) args None (when (is_protocol s n) (culprit p n)) None
      (last_node s (nodes_in args) (Value (Call p n args))) refl
      (ap (λ b. b || calls_helper_in s args) (sym helper)) (no_receiver r) (ap (λ b. when b (culprit p n)) own) (no_field f)

  -- `this.name(..)`
  pub own_site : (e : Expr) → is_this e ≡ true → site.receiver ≡ None → site.is_own ≡ is_protocol s n → site.field ≡ None →
      site.helper ≡ is_helper s n →
      IsSite s (MethodCall p e n args) site (called_on_this s n) args
  own_site (This q) t r own f helper =
      built s (MethodCall p (This q) n args) site (called_on_this s n) args None (when (is_protocol s n) (culprit p n)) None
      (last_node s (nodes_in args) (Value (MethodCall p (This q) n args))) refl
      (ap (λ b. b || calls_helper_in s args) (sym helper)) (no_receiver r) (ap (λ b. when b (culprit p n)) own) (no_field f)
  own_site (Int q z) t r own f helper = absurd (true≢false (sym t))
  own_site (Truth q b) t r own f helper = absurd (true≢false (sym t))
  own_site (Text q t') t r own f helper = absurd (true≢false (sym t))
  own_site (Null q) t r own f helper = absurd (true≢false (sym t))
  own_site (Variable q x) t r own f helper = absurd (true≢false (sym t))
  own_site (Member q e m) t r own f helper = absurd (true≢false (sym t))
  own_site (Neg q e) t r own f helper = absurd (true≢false (sym t))
  own_site (Not q e) t r own f helper = absurd (true≢false (sym t))
  own_site (Binary q o l e) t r own f helper = absurd (true≢false (sym t))
  own_site (Call q m more) t r own f helper = absurd (true≢false (sym t))
  own_site (MethodCall q e m more) t r own f helper = absurd (true≢false (sym t))
  own_site (New q m) t r own f helper = absurd (true≢false (sym t))

  -- what the node answers, where the misfits of the receiver are known
  abbrev raw : Option Signature → List Taken → (own moves : Option Culprit) → Option (Condition × Culprit)
  raw o ts own moves =
      told conditions.UnknownName (when (not (is_some o)) (culprit p n))
      (told conditions.TypeMismatch (first_by type_mismatch (all_taken s (ts ++ arguments o args)))
      (told conditions.Arity (count_differs p o args) (told conditions.SelfCall own (told conditions.ArgsMayMove moves None))))

  raw_told : (o : Option Signature) (ts : List Taken) (r own moves : Option Culprit) → first_by type_mismatch (all_taken s ts) ≡ r →
      raw o ts own moves ≡ node_told s p n o r args own moves
  raw_told o ts r own moves e =
      ap (λ m. told conditions.UnknownName (when (not (is_some o)) (culprit p n))
      (told conditions.TypeMismatch m
      (told conditions.Arity (count_differs p o args) (told conditions.SelfCall own (told conditions.ArgsMayMove moves None)))))
      (taken_append s ts (arguments o args) ∙ ap (λ z. option_or z (first_by type_mismatch (all_taken s (arguments o args)))) e)

  -- a variable is one
  variable_fits : (q : Place) (x : Name) (o : Option ValueType) → variable_type s x ≡ o →
      first_by type_mismatch (all_taken s (receiver o (Variable q x))) ≡ None
  variable_fits q x None e = refl
  variable_fits q x (Some NoValue) e = refl
  variable_fits q x (Some IntType) e = refl
  variable_fits q x (Some BooleanType) e = refl
  variable_fits q x (Some TextType) e = refl
  variable_fits q x (Some (EnumType m)) e = refl
  variable_fits q x (Some (ClassType m)) e = alone_taken s (Variable q x) (ClassType m) e ClassVariable
  variable_fits q x (Some NullType) e = refl

  named_is : (q : Place) (x : Name) (o : Option ValueType) →
      called_on s (Variable q x) o n ≡ elim o [ None ↦ called_on_class s.program x n | Some type ↦ called_on_value s.program type n ]
  named_is q x None = refl
  named_is q x (Some t) = refl

  -- `x.name(..)`
  module _ (q : Place) (x : Name) (known : is_receiver s x ≡ true) where
    named_whole : expr_fault s (MethodCall p (Variable q x) n args)
        ≡ option_or (args_fault s args) (node_told s p n (called_on_named s x n) None args None
        (moved p (field_named_by s x) (calls_helper_in s args)))
    named_whole =
        ap (λ b. option_or (told conditions.UnknownName (when (not b) (culprit q x)) None)
        (fault_in (at_nodes s (nodes_in args ++ Value (MethodCall p (Variable q x) n args) ∷ [])))) known
        ∙ last_node s (nodes_in args) (Value (MethodCall p (Variable q x) n args))
        ∙ ap (option_or (args_fault s args))
        (raw_told (called_on s (Variable q x) (variable_type s x) n) (receiver (variable_type s x) (Variable q x)) None None
        (moved p (field_named_by s x) (calls_helper_in s args)) (variable_fits q x (variable_type s x) refl)
        ∙ ap (λ o. node_told s p n o None args None (moved p (field_named_by s x) (calls_helper_in s args)))
        (named_is q x (variable_type s x)))

    named_site : site.receiver ≡ None → site.is_own ≡ false → option_map (λ f. field_seen f.now) site.field ≡ field_named_by s x →
        site.helper ≡ false →
        IsSite s (MethodCall p (Variable q x) n args) site (called_on_named s x n) args
    named_site r own f helper =
        built s (MethodCall p (Variable q x) n args) site (called_on_named s x n) args None None
        (moved p (field_named_by s x) (calls_helper_in s args)) named_whole
        (ap (option_map (λ z. z.result)) (named_is q x (variable_type s x))) (ap (λ b. b || calls_helper_in s args) (sym helper))
        (no_receiver r) (ap (λ b. when b (culprit p n)) own)
        (ap (λ o. moved p o (calls_helper_in s args)) f)

  pub behind_name : (e : Expr) (x : Name) → variable_name e ≡ Some x → is_receiver s x ≡ true → site.receiver ≡ None → site.is_own ≡ false →
      option_map (λ f. field_seen f.now) site.field ≡ field_named_by s x → site.helper ≡ false → IsSite s (MethodCall p e n args) site
      (called_on_named s x n) args
  behind_name e x is known r own f helper =
      subst (λ z. IsSite s (MethodCall p z n args) site (called_on_named s x n) args) (sym (is_named s p n e x is))
      (named_site (place_of e) x known r own f helper)

  -- what a receiver of this type has
  receiver_fits : (e : Expr) (t : ValueType) → type_of s e ≡ Some t → first_by type_mismatch (all_taken s (receiver (Some t) e)) ≡
      receiver_misfit t e
  receiver_fits e NoValue h = refl
  receiver_fits e IntType h = refl
  receiver_fits e BooleanType h = refl
  receiver_fits e TextType h = refl
  receiver_fits e (EnumType m) h = refl
  receiver_fits e (ClassType m) h = alone_taken s e (ClassType m) h ClassVariable
  receiver_fits e NullType h = refl

  -- `e.name(..)`
  module _ (t : ValueType) where
    other_form : (e : Expr) → expr_fault s e ≡ None → type_of s e ≡ Some t →
        nodes (MethodCall p e n args) ≡ nodes e ++ (nodes_in args ++ Value (MethodCall p e n args) ∷ []) →
        self_call (AtNode s (Value (MethodCall p e n args))) ≡ None →
        called_on s e (Some t) n ≡ called_on_value s.program t n → calls_helper s (MethodCall p e n args) ≡
        (calls_helper s e || calls_helper_in s args) →
        option_map at_place site.receiver ≡ receiver_misfit t e → site.is_own ≡ false → option_map (λ f. field_seen f.now) site.field ≡
        field_of s e → site.helper ≡ calls_helper s e →
        IsSite s (MethodCall p e n args) site (called_on_value s.program t n) args
    other_form e fine typed laid own_none called_is helps r own f helper =
        built s (MethodCall p e n args) site (called_on_value s.program t n) args (receiver_misfit t e) None
        (moved p (field_of s e) (calls_helper_in s args))
        (ap (λ ns. fault_in (at_nodes s ns)) laid ∙ nodes-append s (nodes e) (nodes_in args ++ Value (MethodCall p e n args) ∷ []) ∙
        ap (λ z. option_or z (fault_in (at_nodes s (nodes_in args ++ Value (MethodCall p e n args) ∷ [])))) fine
        ∙ last_node s (nodes_in args) (Value (MethodCall p e n args))
        ∙ ap (option_or (args_fault s args))
        (ap (λ o. raw (called_on s e o n) (receiver o e) (self_call (AtNode s (Value (MethodCall p e n args))))
        (moved p (field_of s e) (calls_helper_in s args))) typed
        ∙ ap (λ z. raw (called_on s e (Some t) n) (receiver (Some t) e) z (moved p (field_of s e) (calls_helper_in s args))) own_none
        ∙ ap (λ o. raw o (receiver (Some t) e) None (moved p (field_of s e) (calls_helper_in s args))) called_is
        ∙ raw_told (called_on_value s.program t n) (receiver (Some t) e) (receiver_misfit t e) None
        (moved p (field_of s e) (calls_helper_in s args)) (receiver_fits e t typed)))
        (ap (λ o. option_map (λ z. z.result) (called_on s e o n)) typed ∙ ap (option_map (λ z. z.result)) called_is)
        (helps ∙ ap (λ b. b || calls_helper_in s args) (sym helper)) r (ap (λ b. when b (culprit p n)) own)
        (ap (λ o. moved p o (calls_helper_in s args)) f)

    pub other_site : (e : Expr) → is_this e ≡ false → None ≡ variable_name e → expr_fault s e ≡ None → type_of s e ≡ Some t →
        option_map at_place site.receiver ≡ receiver_misfit t e → site.is_own ≡ false → option_map (λ f. field_seen f.now) site.field ≡
        field_of s e → site.helper ≡ calls_helper s e →
        IsSite s (MethodCall p e n args) site (called_on_value s.program t n) args
    other_site (This q) i v fine typed = absurd (true≢false i)
    other_site (Variable q x) i v fine typed = let no : ⊥ = cc in absurd no
    other_site (Int q z) i v fine typed = other_form (Int q z) fine typed refl refl refl refl
    other_site (Truth q b) i v fine typed = other_form (Truth q b) fine typed refl refl refl refl
    other_site (Text q t') i v fine typed = other_form (Text q t') fine typed refl refl refl refl
    other_site (Null q) i v fine typed = other_form (Null q) fine typed refl refl refl refl
    other_site (Member q e m) i v fine typed = other_form (Member q e m) fine typed refl refl refl refl
    other_site (Neg q e) i v fine typed = other_form (Neg q e) fine typed refl refl refl refl
    other_site (Not q e) i v fine typed = other_form (Not q e) fine typed refl refl refl refl
    other_site (Binary q o l r) i v fine typed = other_form (Binary q o l r) fine typed refl refl refl refl
    other_site (Call q m more) i v fine typed = other_form (Call q m more) fine typed refl refl refl refl
    other_site (MethodCall q e m more) i v fine typed = other_form (MethodCall q e m more) fine typed refl refl refl refl
    other_site (New q m) i v fine typed = other_form (New q m) fine typed refl refl refl refl

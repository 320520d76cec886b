-- The fault of the declarations is computed.
use Rattle.std.proofs.Common.{◌≡◌, ℕ, List, [], ◌∷◌, map, Option, Some, None, refl, ap, subst, ◌∙◌}
use Rattle.std.specs.Option.{option_or}
use Rattle.mg_read.specs.Culprit.{Culprit}
use Rattle.mg_read.specs.First.{Judged, clean, here, later}
use Rattle.ts_tree.specs.Typestate as protocols
use Rattle.jv_tree.specs.Source.{Class}
use Rattle.jv_meaning.specs.Program.{classes_of}
use Rattle.jv_rules.specs.declared.condition.Condition.{Condition}
use Rattle.jv_rules.specs.declared.condition.Condition.TheVariants as conditions
use Rattle.jv_rules.specs.Program.{Program, decls_of, typestate_of, offers_in}
use Rattle.jv_rules.specs.Members.{members_of, mentions_in_class}
use Rattle.jv_rules.specs.Declarations.{UnknownClass, demands_on, MissingMethod, owned_methods, SignatureDiffers, LabelsDiffer}
use Rattle.jv_rules.specs.Declarations.{FieldNeedsValue, InstanceInPlain}
use Rattle.jv_rules.specs.Faults.{standing_in, Of, on_declarations, IsTableFault}
use Rattle.jv_rules.specs.inner.Deciding.{first_by, first_kind, told}
use Rattle.jv_rules.proofs.Deciding.{Answers, judged_by, first_kind-FirstOf}
use Rattle.jv_types.specs.declared.entry.ClassEntry.{ClassEntry}
use Rattle.jv_types.specs.declared.demands.Demand.TheVariants as demands
use Rattle.jv_types.specs.inner.Kept.{typestate_in}
use Rattle.jv_types.specs.inner.Tabled.{class_in, AreEntriesOf}
use Rattle.jv_types.specs.inner.Declaring.{unknown_class, unknown_in_class, unknown_typestate, offers_of, missing_method, missing_in_class}
use Rattle.jv_types.specs.inner.Declaring.{broken_method, broken_in_class, field_needs_value, fields_need_values, plain_member}
use Rattle.jv_types.specs.inner.Declaring.{plain_in_class}
use Rattle.jv_types.specs.inner.Deciding.{declared_answer, declared_fault, early_found, later_found, later_conditions}
use Rattle.jv_types.proofs.Repeating.{names_judged, all_members_judged, parts_judged}
use Rattle.jv_types.proofs.Declaring.{unknown_class-right, typestate-right, missing_method-right, signature-right, labels-right}
use Rattle.jv_types.proofs.Declaring.{field-right, plain-right}

-- the same, where each element is seen in another way
judged_map_by : {X Y C : Type 0} {At : Y → C → Type 0} (g : X → Y) (f : X → Option C) → ((x : X) → Answers (At (g x)) (f x)) → (xs : List X)
    → Judged At (map g xs) (first_by f xs)
judged_map_by g f each [] = clean
judged_map_by {X} {Y} {C} {At} g f each (x ∷ xs) = go (f x) (each x) (judged_map_by g f each xs)
  where
    go : (r : Option C) → Answers (At (g x)) r → Judged At (map g xs) (first_by f xs) →
        Judged At (g x ∷ map g xs) (option_or r (first_by f xs))
    go None a j = later a j
    go (Some c) a j = here a

missing_judged : (c : Class) (o : Option protocols.Typestate) →
    Judged MissingMethod (elim o [ None ↦ [] | Some t ↦ map (λ m. (c, m)) (offers_in t.states) ])
    (first_by (missing_method c) (offers_of o))
missing_judged c None = clean
missing_judged c (Some t) = judged_map_by (λ m. (c, m)) (missing_method c) (missing_method-right c) (offers_in t.states)

module _ (program : Program) (origins : List ℕ) where
  answer-right : (k : Condition) → Of program origins k (declared_answer program origins k)
  answer-right conditions.DuplicateName = names_judged (decls_of program.files) program.typestates origins
  answer-right conditions.DuplicateMember = all_members_judged (decls_of program.files)
  answer-right conditions.UnknownClass =
      parts_judged (UnknownClass program) mentions_in_class (unknown_in_class program)
      (λ c. judged_by (unknown_class program) (unknown_class-right program) (mentions_in_class c)) (classes_of program.files)
  answer-right conditions.UnknownTypestate = judged_by (λ c. unknown_typestate (typestate_of program c) c)
      (λ c. typestate-right program c c.typestate refl) (classes_of program.files)
  answer-right conditions.MissingMethod =
      parts_judged MissingMethod (demands_on program) (λ c. missing_in_class (typestate_of program c) c)
      (λ c. missing_judged c (typestate_of program c)) (classes_of program.files)
  answer-right conditions.SignatureDiffers =
      parts_judged (SignatureDiffers program) owned_methods (λ c. broken_in_class program demands.OfSignature (typestate_of program c) c)
      (λ c. judged_map_by (λ m. record { owner = c; method = m })
      (broken_method program demands.OfSignature (offers_of (typestate_of program c))) (signature-right program c) c.methods)
      (classes_of program.files)
  answer-right conditions.LabelsDiffer =
      parts_judged (LabelsDiffer program) owned_methods (λ c. broken_in_class program demands.OfLabels (typestate_of program c) c)
      (λ c. judged_map_by (λ m. record { owner = c; method = m })
      (broken_method program demands.OfLabels (offers_of (typestate_of program c))) (labels-right program c) c.methods)
      (classes_of program.files)
  answer-right conditions.FieldNeedsValue =
      parts_judged (FieldNeedsValue program) (λ c. c.fields) (fields_need_values program)
      (λ c. judged_by (field_needs_value program) (field-right program) c.fields) (classes_of program.files)
  answer-right conditions.InstanceInPlain =
      parts_judged InstanceInPlain standing_in plain_in_class
      (λ c. judged_map_by (λ m. record { typestate = c.typestate; member = m }) (plain_member c.typestate) (plain-right c.typestate)
      (members_of c)) (classes_of program.files)
  answer-right conditions.UnknownName = refl
  answer-right conditions.DuplicateLocal = refl
  answer-right conditions.TypeMismatch = refl
  answer-right conditions.Arity = refl
  answer-right conditions.BadLabel = refl
  answer-right conditions.MissingReturn = refl
  answer-right conditions.SelfCall = refl
  answer-right conditions.ThisAsValue = refl
  answer-right conditions.ArgsMayMove = refl

  pub declared_fault-right : IsTableFault program origins (declared_fault program origins)
  declared_fault-right = first_kind-FirstOf (declared_answer program origins) answer-right on_declarations

-- ---- early and later conditions

module _ (program : Program) (origins : List ℕ) where
  abbrev pub left_to : Option (Condition × Culprit)
  left_to = first_kind (declared_answer program origins) later_conditions

  two_told : (a b : Option Culprit) (r : Option (Condition × Culprit)) (f : Condition × Culprit) →
      told conditions.DuplicateName a (told conditions.DuplicateMember b None) ≡ Some f →
      told conditions.DuplicateName a (told conditions.DuplicateMember b r) ≡ Some f
  two_told (Some c) b r f e = e
  two_told None (Some c) r f e = e
  two_told None None r f e = let no : ⊥ = cc in absurd no

  none_told : (a b : Option Culprit) (r : Option (Condition × Culprit)) →
      told conditions.DuplicateName a (told conditions.DuplicateMember b None) ≡ None →
      (a ≡ None) × (b ≡ None) × (told conditions.DuplicateName a (told conditions.DuplicateMember b r) ≡ r)
  none_told (Some c) b r e = let no : ⊥ = cc in absurd no
  none_told None (Some c) r e = let no : ⊥ = cc in absurd no
  none_told None None r e = (refl, refl, refl)

  pub early_fault : (f : Condition × Culprit) → early_found program origins ≡ Some f → IsTableFault program origins (Some f)
  early_fault f e =
      subst (IsTableFault program origins) (two_told (declared_answer program origins conditions.DuplicateName)
      (declared_answer program origins conditions.DuplicateMember) left_to f e)
      (declared_fault-right program origins)

  pub later_fault : early_found program origins ≡ None → IsTableFault program origins left_to
  later_fault e =
      subst (IsTableFault program origins) (none_told (declared_answer program origins conditions.DuplicateName)
      (declared_answer program origins conditions.DuplicateMember) left_to e).2
      (declared_fault-right program origins)

  pub no_repeats : early_found program origins ≡ None → (declared_answer program origins conditions.DuplicateName ≡ None)
      × (declared_answer program origins conditions.DuplicateMember ≡ None)
  no_repeats e =
      let h = none_told (declared_answer program origins conditions.DuplicateName)
      (declared_answer program origins conditions.DuplicateMember) None e in (h.0, h.1)

-- ---- entries and classes

by_typestate : (program : Program) (f : Option protocols.Typestate → Class → Option Culprit) (es : List ClassEntry) →
    map typestate_in es ≡ map (λ e. typestate_of program (class_in e)) es →
    first_by (λ e. f (typestate_in e) (class_in e)) es ≡ first_by (λ c. f (typestate_of program c) c) (map class_in es)
by_typestate program f [] h = refl
by_typestate program f (e ∷ es) h =
    let first : typestate_in e ≡ typestate_of program (class_in e) = cc in
    let more : map typestate_in es ≡ map (λ x. typestate_of program (class_in x)) es = cc in
    ap (λ t. option_or (f t (class_in e)) (first_by (λ x. f (typestate_in x) (class_in x)) es)) first
    ∙ ap (option_or (f (typestate_of program (class_in e)) (class_in e))) (by_typestate program f es more)

module _ (program : Program) (es : List ClassEntry) (all : map class_in es ≡ classes_of program.files) (h : AreEntriesOf program es) where
  by_class : (f : Class → Option Culprit) → first_by f (map class_in es) ≡ first_by f (classes_of program.files)
  by_class f = ap (first_by f) all

  by_entry : (f : Option protocols.Typestate → Class → Option Culprit) → first_by (λ e. f (typestate_in e) (class_in e)) es ≡ first_by
      (λ c. f (typestate_of program c) c) (classes_of program.files)
  by_entry f = by_typestate program f es h.follow ∙ ap (first_by (λ c. f (typestate_of program c) c)) all

  told-same : (k : Condition) (a b : Option Culprit) (r s : Option (Condition × Culprit)) → a ≡ b → r ≡ s → told k a r ≡ told k b s
  told-same k a b r s e f = ap (λ o. told k o r) e ∙ ap (told k b) f

  pub later_by : (origins : List ℕ) → later_found program es ≡ left_to program origins
  later_by origins =
      told-same conditions.UnknownClass _ _ _ _ (by_class (unknown_in_class program))
      (told-same conditions.UnknownTypestate _ _ _ _ (by_entry unknown_typestate)
      (told-same conditions.MissingMethod _ _ _ _ (by_entry missing_in_class)
      (told-same conditions.SignatureDiffers _ _ _ _ (by_entry (broken_in_class program demands.OfSignature))
      (told-same conditions.LabelsDiffer _ _ _ _ (by_entry (broken_in_class program demands.OfLabels))
      (told-same conditions.FieldNeedsValue _ _ _ _ (by_class (fields_need_values program))
      (told-same conditions.InstanceInPlain _ _ None None (by_class plain_in_class) refl))))))

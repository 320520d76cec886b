-- The type fault of a program: which condition is at fault, where, and with which name.
use Rattle.std.specs.Prelude.{◌≡◌, ℕ, List, [], ◌∷◌, map, length, Option, Some, None}
use Rattle.std.specs.List.{flat_map}
use Rattle.mg_read.specs.Culprit.{Culprit}
use Rattle.mg_read.specs.First.{Judged, FirstOf, with_earlier}
use Rattle.jv_rules.specs.declared.condition.Condition.{Condition}
use Rattle.jv_rules.specs.declared.condition.Condition.TheVariants as conditions
use Rattle.jv_tree.specs.Source.{Class}
use Rattle.jv_meaning.specs.Program.{classes_of}
use Rattle.jv_rules.specs.Program.{Program}
use Rattle.jv_rules.specs.Members.{entries, member_entries, mentions_in_class, members_of}
use Rattle.jv_rules.specs.Declarations as declared
use Rattle.jv_rules.specs.Declarations.{demands_on, owned_methods, Standing}
use Rattle.jv_rules.specs.Conditions as says
use Rattle.jv_rules.specs.Taking.{taken_at}
use Rattle.jv_rules.specs.Spots.{Spot, spots}

-- the members of a class in the order of the text
abbrev pub standing_in : Class → List Standing
standing_in c = map (λ m. record { typestate = c.typestate; member = m }) (members_of c)

-- What each condition on the declarations answers, in file and text order.
abbrev pub Of : Program → List ℕ → Condition → Option Culprit → Type 0
Of program origins conditions.DuplicateName = Judged declared.DuplicateName (with_earlier (entries program origins))
Of program origins conditions.DuplicateMember = Judged declared.DuplicateMember (member_entries program)
Of program origins conditions.UnknownClass = Judged (declared.UnknownClass program) (flat_map mentions_in_class (classes_of program.files))
Of program origins conditions.UnknownTypestate = Judged (declared.UnknownTypestate program) (classes_of program.files)
Of program origins conditions.MissingMethod = Judged declared.MissingMethod (flat_map (demands_on program) (classes_of program.files))
Of program origins conditions.SignatureDiffers = Judged (declared.SignatureDiffers program)
    (flat_map owned_methods (classes_of program.files))
Of program origins conditions.LabelsDiffer = Judged (declared.LabelsDiffer program) (flat_map owned_methods (classes_of program.files))
Of program origins conditions.FieldNeedsValue = Judged (declared.FieldNeedsValue program)
    (flat_map (λ c. c.fields) (classes_of program.files))
Of program origins conditions.InstanceInPlain = Judged declared.InstanceInPlain (flat_map standing_in (classes_of program.files))
Of program origins _ = λ r. r ≡ None

-- the conditions on declarations, in the order of their numbers
abbrev pub on_declarations : List Condition
on_declarations =
    conditions.DuplicateName ∷ conditions.DuplicateMember ∷ conditions.UnknownClass ∷ conditions.UnknownTypestate ∷ conditions.MissingMethod
    ∷ conditions.SignatureDiffers ∷ conditions.LabelsDiffer ∷ conditions.FieldNeedsValue ∷ conditions.InstanceInPlain ∷ []

-- The fault of the declarations, or none: the lowest number, and there the first in file and text order.
abbrev pub IsTableFault : Program → List ℕ → Option (Condition × Culprit) → Type 0
IsTableFault program origins = FirstOf (Of program origins) on_declarations

-- What each condition on methods answers at one spot.
abbrev pub AtSpot : Spot → Condition → Option Culprit → Type 0
AtSpot spot conditions.UnknownName = Judged says.UnknownName (spot ∷ [])
AtSpot spot conditions.DuplicateLocal = Judged says.DuplicateLocal (spot ∷ [])
AtSpot spot conditions.TypeMismatch = Judged says.TypeMismatch (taken_at spot)
AtSpot spot conditions.Arity = Judged says.Arity (spot ∷ [])
AtSpot spot conditions.BadLabel = Judged says.BadLabel (says.labelled_at spot)
AtSpot spot conditions.MissingReturn = Judged says.MissingReturn (spot ∷ [])
AtSpot spot conditions.SelfCall = Judged says.SelfCall (spot ∷ [])
AtSpot spot conditions.ThisAsValue = Judged says.ThisAsValue (spot ∷ [])
AtSpot spot conditions.ArgsMayMove = Judged says.ArgsMayMove (spot ∷ [])
AtSpot spot _ = λ r. r ≡ None

-- the conditions on methods, in the order of their numbers
abbrev pub on_methods : List Condition
on_methods =
    conditions.UnknownName ∷ conditions.DuplicateLocal ∷ conditions.TypeMismatch ∷ conditions.Arity ∷ conditions.BadLabel
    ∷ conditions.MissingReturn ∷ conditions.SelfCall ∷ conditions.ThisAsValue ∷ conditions.ArgsMayMove ∷ []

-- a spot is at fault, with the lowest number
abbrev pub IsAtFault : Spot → Condition × Culprit → Type 0
IsAtFault spot fault = FirstOf (AtSpot spot) on_methods (Some fault)

-- The fault of the methods, or none: that of the first spot that has one.
abbrev pub IsFault : Program → Option (Condition × Culprit) → Type 0
IsFault program = Judged IsAtFault (spots program)

-- None of the conditions is at fault. Where the typestates' files stand matters to the place of a fault alone.
pub record IsWellTyped (program : Program) : Type 0 where
  pub origins : List ℕ
  pub numbered : length origins ≡ length program.typestates
  pub declarations : IsTableFault program origins None
  pub methods : IsFault program None

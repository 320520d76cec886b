-- The fault of the declarations, by computing.
use Rattle.std.specs.Prelude.{◌≡◌, ℕ, List, [], ◌∷◌, map, Option, None}
use Rattle.std.specs.Option.{option_or}
use Rattle.mg_read.specs.Culprit.{Culprit}
use Rattle.ts_tree.specs.Typestate as protocols
use Rattle.jv_tree.specs.Source.{Decl}
use Rattle.jv_meaning.specs.Program.{classes_of}
use Rattle.jv_rules.specs.declared.condition.Condition.{Condition}
use Rattle.jv_rules.specs.declared.condition.Condition.TheVariants as conditions
use Rattle.jv_rules.specs.Program.{Program, decls_of, typestate_of}
use Rattle.jv_rules.specs.Faults.{on_declarations}
use Rattle.jv_rules.specs.inner.Deciding.{first_by, first_kind, told}
use Rattle.jv_types.specs.declared.entry.ClassEntry.{ClassEntry}
use Rattle.jv_types.specs.declared.demands.Demand.TheVariants as demands
use Rattle.jv_types.specs.declared.declarations.Found.{Found}
use Rattle.jv_types.specs.inner.Blaming.{blamed_of}
use Rattle.jv_types.specs.inner.Repeating.{repeat_type, repeat_typestate, repeat_in}
use Rattle.jv_types.specs.inner.Declaring.{unknown_in_class, unknown_typestate, missing_in_class, broken_in_class, fields_need_values}
use Rattle.jv_types.specs.inner.Declaring.{plain_in_class}
use Rattle.jv_types.specs.inner.Kept.{typestate_in}
use Rattle.jv_types.specs.inner.Tabled.{class_in, AreEntriesOf}

abbrev pub found_of : Found → Condition × Culprit
found_of f = (f.condition, blamed_of f.blamed)

abbrev pub declared_answer : Program → List ℕ → Condition → Option Culprit
declared_answer program origins conditions.DuplicateName = option_or (repeat_type [] (decls_of program.files))
    (repeat_typestate [] program.typestates origins)
declared_answer program origins conditions.DuplicateMember = first_by repeat_in (decls_of program.files)
declared_answer program origins conditions.UnknownClass = first_by (unknown_in_class program) (classes_of program.files)
declared_answer program origins conditions.UnknownTypestate = first_by (λ c. unknown_typestate (typestate_of program c) c)
    (classes_of program.files)
declared_answer program origins conditions.MissingMethod = first_by (λ c. missing_in_class (typestate_of program c) c)
    (classes_of program.files)
declared_answer program origins conditions.SignatureDiffers =
    first_by (λ c. broken_in_class program demands.OfSignature (typestate_of program c) c) (classes_of program.files)
declared_answer program origins conditions.LabelsDiffer =
    first_by (λ c. broken_in_class program demands.OfLabels (typestate_of program c) c) (classes_of program.files)
declared_answer program origins conditions.FieldNeedsValue = first_by (fields_need_values program) (classes_of program.files)
declared_answer program origins conditions.InstanceInPlain = first_by plain_in_class (classes_of program.files)
declared_answer program origins _ = None

abbrev pub declared_fault : Program → List ℕ → Option (Condition × Culprit)
declared_fault program origins = first_kind (declared_answer program origins) on_declarations

-- of names alone: of these declarations, and of typestates
abbrev pub early_in : List Decl → List protocols.Typestate → List ℕ → Option (Condition × Culprit)
early_in ds typestates origins =
    told conditions.DuplicateName (option_or (repeat_type [] ds) (repeat_typestate [] typestates origins))
    (told conditions.DuplicateMember (first_by repeat_in ds) None)

abbrev pub early_found : Program → List ℕ → Option (Condition × Culprit)
early_found program origins = early_in (decls_of program.files) program.typestates origins

-- of what the tables tell
abbrev pub later_conditions : List Condition
later_conditions =
    conditions.UnknownClass ∷ conditions.UnknownTypestate ∷ conditions.MissingMethod
    ∷ conditions.SignatureDiffers ∷ conditions.LabelsDiffer ∷ conditions.FieldNeedsValue ∷ conditions.InstanceInPlain ∷ []

-- the same by the entries of the classes
abbrev pub fields_found : Program → List ClassEntry → Option (Condition × Culprit)
fields_found program es =
    told conditions.FieldNeedsValue (first_by (fields_need_values program) (map class_in es))
    (told conditions.InstanceInPlain (first_by plain_in_class (map class_in es)) None)

abbrev pub demands_found : Program → List ClassEntry → Option (Condition × Culprit)
demands_found program es =
    told conditions.MissingMethod (first_by (λ e. missing_in_class (typestate_in e) (class_in e)) es)
    (told conditions.SignatureDiffers (first_by (λ e. broken_in_class program demands.OfSignature (typestate_in e) (class_in e)) es)
    (told conditions.LabelsDiffer (first_by (λ e. broken_in_class program demands.OfLabels (typestate_in e) (class_in e)) es)
    (fields_found program es)))

abbrev pub later_found : Program → List ClassEntry → Option (Condition × Culprit)
later_found program es =
    told conditions.UnknownClass (first_by (unknown_in_class program) (map class_in es))
    (told conditions.UnknownTypestate (first_by (λ e. unknown_typestate (typestate_in e) (class_in e)) es)
    (demands_found program es))

-- what the entries of some tables of a program tell
pub record IsLater (program : Program) (told : Option (Condition × Culprit)) : Type 0 where
  pub entries : List ClassEntry
  pub classes : map class_in entries ≡ classes_of program.files
  pub each : AreEntriesOf program entries
  pub is : told ≡ later_found program entries

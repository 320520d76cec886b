-- The core of files is one whose class files can be written, where no size is too large.
use Rattle.std.proofs.Common.{◌≡◌, ℕ, suc, List, [], ◌∷◌, length, map, None, refl, sym, ap, ◌∙◌, subst}
use Rattle.std.specs.List.{AllByRecursion}
use Rattle.std.proofs.lemmas.List.{length-map}
use Rattle.cls_tree.specs.Tree as file
use Rattle.cls_tree.specs.View.{class_of as file_of}
use Rattle.cls_tree.specs.declared.class.Class.{Class as KeptFile}
use Rattle.jv_rules.specs.Program.{Program}
use Rattle.jv_rules.specs.Shape.{IsShaped}
use Rattle.jv_rules.specs.Faults.{IsWellTyped}
use Rattle.jv_resolve_law.specs.ShapedLaws.{SpelledIsShaped}
use Rattle.jv_names.specs.KeptLaws.{CoreIsKept}
use Rattle.jv_names.specs.Resolves.{AreBounded}
use Rattle.jv_resolve_law.specs.Members.{resolving}
use Rattle.jv_core.specs.Tree as Core
use Rattle.jv_core.specs.Conditions.{IsCore}
use Rattle.jv_core.specs.View.{class_of}
use Rattle.jv_core.specs.declared.program.CoreClass.{CoreClass}
use Rattle.gen_rules.specs.Classes.{AreClasses, class_files}
use Rattle.gen_rules.specs.inner.Files.{generated_classes}
use Rattle.gen_rules.proofs.Files.{only_files}
use Rattle.gen_rules.specs.Limits.{IsFirstExcess}
use Rattle.gen_links.specs.Spelled.{IsSpelled, CoresFit, CoresAreSmall}
use Rattle.gen_held.specs.Laws.{CanBeHeld, WrittenCoresAreHeld}
use Rattle.mg_sources.specs.Files.{Source}
use Rattle.mg_accepted.specs.Program.{AreWellTyped, HaveCore}
use Rattle.mg_accepted.proofs.Grammatical.{shaped, numbered}
use Rattle.mg_compile.specs.View.{IsOfFiles}

pub well_typed : (files : List Source) (program : Program) → AreWellTyped files program → IsWellTyped program
well_typed files program h = record {
  origins = h.sourced.origins;
  numbered = numbered h.are.spell ∙ ap (λ (z : Program). length z.typestates) h.is;
  declarations = h.declarations;
  methods = h.methods;
}

-- the core of files meets the conditions of cores
pub is_core : SpelledIsShaped → CoreIsKept → (files : List Source) (core : Core.Program) → HaveCore files core → IsCore core
is_core law kept files core h =
    kept h.program core (well_typed files h.program h.are) (subst IsShaped h.are.is (shaped law h.are.are.spell)) h.stands

-- and a class file can hold its names, texts and numbers
pub is_held : WrittenCoresAreHeld → (files : List Source) (core : Core.Program) → HaveCore files core → CanBeHeld core
is_held held files core h =
    held files h.are.sourced core h.are.are (ap resolving h.are.is ∙ h.resolved)
    (subst (λ (z : Program). AreBounded z core) (sym h.are.is) h.stands.bounded)

pub all_spelled : SpelledIsShaped → CoreIsKept → WrittenCoresAreHeld → CoresAreSmall → CoresFit → (core : Core.Program) → IsOfFiles core →
    (classes : List file.Class) → AreClasses core classes → IsFirstExcess core None → AllByRecursion IsSpelled classes
all_spelled law kept held small fit core (files, h) classes are fine =
    let is = is_core law kept files core h in
    let can = is_held held files core h in
    fit.spelled core is can.plain can.held (small.few core is fine) fine classes are

-- ---- there are as many class files as classes

as_many : (core : Core.Program) (ks : List Core.Class) (c : ℕ) → length (class_files core ks (generated_classes core c ks)) ≡ length ks
as_many core [] c = refl
as_many core (k ∷ ks) c = ap suc (as_many core ks (suc c))

pub one_each : (core : Core.Program) (own : List CoreClass) (classes : List KeptFile) → map class_of own ≡ core.classes →
    AreClasses core (map file_of classes) → length own ≡ length classes
one_each core own classes are h =
    sym (length-map own class_of) ∙ ap length are ∙ sym (as_many core core.classes 0)
    ∙ sym (ap length (only_files core (map file_of classes) h)) ∙ length-map classes file_of

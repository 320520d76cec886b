-- A program has one core, and files that are refused are no well typed program.
use Rattle.std.proofs.Common.{◌≡◌, ℕ, List, Option, None, Some, sym, ap, ◌∙◌, subst}
use Rattle.mg_read.specs.Culprit.{Culprit}
use Rattle.mg_read.proofs.Judging.{no_both, no_both_first}
use Rattle.jv_core.specs.Tree as Core
use Rattle.jv_resolve_law.specs.Members.{resolving}
use Rattle.jv_rules.specs.Program.{Program}
use Rattle.jv_rules.specs.Faults.{Of, IsTableFault, IsFault}
use Rattle.jv_rules.specs.declared.condition.Condition.{Condition}
use Rattle.jv_rules.specs.declared.condition.Condition.TheVariants as conditions
use Rattle.mg_refusal.specs.Refusals.{Refusal}
use Rattle.mg_refusal.proofs.Orders.{then_never}
use Rattle.mg_sources.specs.Files.{Source}
use Rattle.mg_sources.specs.Sources.{Sourced}
use Rattle.mg_sources.proofs.Together.{not_both, one_program}
use Rattle.mg_accepted.specs.Program.{AreWellTyped, HaveCore, TypeRefusal, FirstRefusal}

-- no condition answers twice
never : (program : Program) (origins : List ℕ) (k : Condition) (c : Culprit) → Of program origins k None → Of program origins k (Some c) → ⊥
never program origins conditions.DuplicateName c n e = no_both n e
never program origins conditions.DuplicateMember c n e = no_both n e
never program origins conditions.UnknownClass c n e = no_both n e
never program origins conditions.UnknownTypestate c n e = no_both n e
never program origins conditions.MissingMethod c n e = no_both n e
never program origins conditions.SignatureDiffers c n e = no_both n e
never program origins conditions.LabelsDiffer c n e = no_both n e
never program origins conditions.FieldNeedsValue c n e = no_both n e
never program origins conditions.InstanceInPlain c n e = no_both n e
never program origins conditions.UnknownName c n e = let no : ⊥ = cc in no
never program origins conditions.DuplicateLocal c n e = let no : ⊥ = cc in no
never program origins conditions.TypeMismatch c n e = let no : ⊥ = cc in no
never program origins conditions.Arity c n e = let no : ⊥ = cc in no
never program origins conditions.BadLabel c n e = let no : ⊥ = cc in no
never program origins conditions.MissingReturn c n e = let no : ⊥ = cc in no
never program origins conditions.SelfCall c n e = let no : ⊥ = cc in no
never program origins conditions.ThisAsValue c n e = let no : ⊥ = cc in no
never program origins conditions.ArgsMayMove c n e = let no : ⊥ = cc in no

-- ---- there is one core

same_core : {a b : Core.Program} → ◌≡◌ {A = Option Core.Program} (Some a) (Some b) → a ≡ b
same_core e = cc

-- files have one core at most
pub one_core : (files : List Source) (a b : Core.Program) → HaveCore files a → HaveCore files b → a ≡ b
one_core files a b h k =
    let sourced : h.are.sourced ≡ k.are.sourced = one_program files h.are.sourced k.are.sourced h.are.are k.are.are in
    let same : h.program ≡ k.program = sym h.are.is ∙ ap (λ (s : Sourced). s.program) sourced ∙ k.are.is in
    same_core (sym h.resolved ∙ ap resolving same ∙ k.resolved)

-- ---- what is refused has none

-- a program without a fault isn't refused
well_typed : (s : Sourced) → IsTableFault s.program s.origins None → IsFault s.program None → (r : Refusal) → TypeRefusal s r → ⊥
well_typed s declarations methods = then_never
    (λ r found. no_both_first (never s.program s.origins) declarations found.1)
    (λ done clean r found. no_both methods found.1)

-- files that are refused are no well typed program
pub no_refusal : (files : List Source) (program : Program) (r : Refusal) → AreWellTyped files program → FirstRefusal files r → ⊥
no_refusal files program r well = then_never (λ r first. not_both well.are first) (λ sourced are r found.
    let same : sourced ≡ well.sourced = one_program files sourced well.sourced are well.are in
    well_typed well.sourced (subst (λ (z : Program). IsTableFault z well.sourced.origins None) (sym well.is) well.declarations)
    (subst (λ (z : Program). IsFault z None) (sym well.is) well.methods) r (subst (λ (z : Sourced). TypeRefusal z r) same found)) r

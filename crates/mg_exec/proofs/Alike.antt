-- Two first refusals of class files are one.
use Rattle.std.proofs.Common.{◌≡◌, List, [], ◌∷◌, ◌++◌, Some, sym, ap, ◌∙◌, subst, inl, arith}
use Rattle.mg_read.specs.FirstLaws.{IsSingle}
use Rattle.mg_read.proofs.Judging.{one_answer, no_both}
use Rattle.cls_bytes.proofs.Single.{one_fault}
use Rattle.vm_model.specs.Program.{Program}
use Rattle.vm_model.specs.Links.{IsUnlinked}
use Rattle.vm_step.specs.Main.{HasMain}
use Rattle.vm_world_law.specs.declared.role.RoleMain.{RoleMain}
use Rattle.mg_refusal.specs.Refusals.{Refusal, AreAlike}
use Rattle.mg_refusal.specs.Order.{Then}
use Rattle.mg_refusal.proofs.Orders.{then_alike, finds_alike}
use Rattle.mg_runs.specs.Commanded.{no_main}
use Rattle.mg_sources.specs.Files.{Source}
use Rattle.mg_exec.specs.Files.{Refuses, large, field, class_refusal}
use Rattle.mg_exec.specs.Runs.{IsProgram, HaveMains, NoProgram, LacksMain, FirstRefusal, flaw_refusal}
use Rattle.mg_exec.proofs.FilesRead.{none_refused}
use Rattle.mg_exec.proofs.Apart.{one_files, one_program, program_not_refused}

same_some : {A : Type 0} (a b : A) → Some a ≡ Some b → a ≡ b
same_some a b e = cc

-- a file is refused in one way
refused_once : IsSingle Refuses
refused_once source r q (large a says) (large b says') = says ∙ sym says'
refused_once source r q (large a says) (field few f is) = let no : ⊥ = omega (arith, a, few) in absurd no
refused_once source r q (field few f is) (large a says) = let no : ⊥ = omega (arith, a, few) in absurd no
refused_once source r q (field {fault = a} few f is) (field {fault = b} few' g is') =
    same_some r q (sym is ∙ ap (class_refusal source.number) (one_fault source.bytes a b f g) ∙ is')

files_alike : (files : List Source) (r q : Refusal) → NoProgram files r → NoProgram files q → AreAlike r q
files_alike files = then_alike (λ r q h k. inl (same_some r q (one_answer refused_once h k)))
    (λ r classes judged are. no_both (none_refused files classes are) judged) (one_files files)
    (λ classes are. finds_alike (IsUnlinked classes) flaw_refusal (λ f g is is'. same_some f g (sym is ∙ is')))

-- the first role whose class has no `main` is one
first_lacking : (program : Program) (front others : List RoleMain) (main other : RoleMain) (rest behind : List RoleMain) →
    front ++ main ∷ rest ≡ others ++ other ∷ behind → HaveMains program front → HaveMains program others →
    (HasMain program main.class → ⊥) → (HasMain program other.class → ⊥) → main ≡ other
first_lacking program [] [] main other rest behind e h g a b = cc
first_lacking program [] (y ∷ others) main other rest behind e h g a b =
    let same : y ≡ main = cc in absurd (a (subst (λ (z : RoleMain). HasMain program z.class) same g.0))
first_lacking program (x ∷ front) [] main other rest behind e h g a b =
    let same : x ≡ other = cc in absurd (b (subst (λ (z : RoleMain). HasMain program z.class) same h.0))
first_lacking program (x ∷ front) (y ∷ others) main other rest behind e h g a b =
    let same : front ++ main ∷ rest ≡ others ++ other ∷ behind = cc in
    first_lacking program front others main other rest behind same h.1 g.1 a b

lacks_alike : (program : Program) (mains : List RoleMain) (r q : Refusal) → LacksMain program mains r → LacksMain program mains q →
    AreAlike r q
lacks_alike program mains r q h k =
    let one : h.main ≡ k.main = first_lacking program h.front k.front h.main k.main h.rest k.rest (sym h.parts ∙ k.parts) h.have k.have
    h.none k.none in
    inl (h.said ∙ ap (λ (m : RoleMain). no_main m.class) one ∙ sym k.said)

-- two refusals of files and of what comes behind are alike where the latter are
pub program_alike : (Next : Program → Refusal → Type 0) → ((program : Program) (r q : Refusal) → Next program r → Next program q → AreAlike r q)
    → (files : List Source) (r q : Refusal) → Then (NoProgram files) (IsProgram files) Next r → Then (NoProgram files) (IsProgram files) Next q
    → AreAlike r q
program_alike Next next files = then_alike (files_alike files) (λ r program refused is. program_not_refused files program is r refused)
    (one_program files) (λ program is. next program)

pub same_refusal : (files : List Source) (mains : List RoleMain) (r q : Refusal) → FirstRefusal files mains r → FirstRefusal files mains q →
    AreAlike r q
same_refusal files mains = program_alike (λ program. LacksMain program mains) (λ program. lacks_alike program mains) files

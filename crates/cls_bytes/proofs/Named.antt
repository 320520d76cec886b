-- Bytes that were read spell the class where its numbers name what they need, and else none.
use Rattle.std.proofs.Common.{◌≡◌, ℕ, List, sym, ap, subst, ◌∙◌, Bool, true, false, cond, Some, None}
use Rattle.std.proofs.lemmas.Bool.{true≢false}
use Rattle.cls_tree.specs.Tree.{Class}
use Rattle.cls_layout.specs.declared.ClassFault.{ClassFault}
use Rattle.cls_layout.specs.Faults.{Fails}
use Rattle.cls_bytes.specs.Naming.{class_names}
use Rattle.cls_bytes.specs.Reading.{class_at}
use Rattle.cls_bytes.specs.Spelling.{ClassSpells, IsSpelled}
use Rattle.cls_bytes.proofs.Steps.{IsBytes}
use Rattle.cls_bytes.proofs.Whole.{class_sound, only_one, one_spelled}
use Rattle.cls_bytes.proofs.WellNamed.{well_formed, names_all}
use Rattle.cls_bytes.proofs.SpelledClasses.{spelled_right}
use Rattle.cls_bytes.proofs.Single.{no_fault}

pub spelled_if : (bytes : List ℕ) (class : Class) (b : Bool) → class_names class ≡ b → IsBytes bytes → class_at bytes ≡ Some class →
    IsSpelled bytes (cond b (Some class) None)
spelled_if bytes class true e fits r =
    let s = class_sound bytes class fits r in record { file = s.0; well_formed = well_formed class s.0 e; layout = s.1 }
spelled_if bytes class false e fits r = λ other s.
    let same : class ≡ other = only_one bytes class other r s.file s.layout in
    absurd (true≢false (sym (ap class_names same ∙ names_all other s.well_formed) ∙ e))

pub same_spelled : (bytes : List ℕ) (a b : Class) → ClassSpells bytes a → ClassSpells bytes b → a ≡ b
same_spelled bytes a b s t = one_spelled a b s.file t.file (sym s.layout ∙ t.layout)

pub no_fault_spelled : (bytes : List ℕ) (class : Class) (fault : ClassFault) → IsBytes bytes → ClassSpells bytes class → Fails bytes fault → ⊥
no_fault_spelled bytes class fault fits s f = no_fault bytes fault (spelled_right bytes class fits s) f

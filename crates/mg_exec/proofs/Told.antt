-- A fault that is told is one of the bytes, and a flaw one of the files.
use Rattle.std.proofs.Common.{◌≡◌, ℕ, List, Option, Some, None, Err, ◌∙◌}
use Rattle.cls_tree.specs.Tree.{Class as File}
use Rattle.cls_tree.specs.declared.class.Class.{Class}
use Rattle.cls_layout.specs.declared.ClassFault.{ClassFault}
use Rattle.cls_layout.specs.declared.ClassFault.TheVariants as faults
use Rattle.cls_layout.specs.Faults.{Fails}
use Rattle.cls_bytes.specs.Spelling.{IsTheirFault}
use Rattle.vm_model.specs.Links.{Flaw, IsUnlinked}
use Rattle.vm_load.specs.Faults.{flaw_of, IsRefused}
use Rattle.vm_load.specs.declared.fault.LoadFault.{LoadFault}
use Rattle.vm_load.specs.declared.fault.LoadFault.TheVariants as load_faults
use Rattle.mg_refusal.specs.Refusals.{Refusal}
use Rattle.mg_exec.specs.Files.{class_refusal}

nothing_said : {A P : Type 0} (x : A) → ◌≡◌ {A = Option A} None (Some x) → P
nothing_said x e = absurd cc

-- a fault of which something is said is one of the bytes, and not want of memory
pub theirs : (bytes : List ℕ) (fault : ClassFault) (file : ℕ) (said : Refusal) → IsTheirFault {A = Class} bytes (Err fault) →
    class_refusal file fault ≡ Some said →
    Fails bytes fault
theirs bytes (faults.BadMagic n) file said h e = h
theirs bytes (faults.Version n) file said h e = h
theirs bytes (faults.Short n) file said h e = h
theirs bytes (faults.TrailingBytes n) file said h e = h
theirs bytes (faults.BadTag n) file said h e = h
theirs bytes (faults.BadIndex n) file said h e = h
theirs bytes (faults.BadText n) file said h e = h
theirs bytes (faults.BadAttribute n) file said h e = h
theirs bytes (faults.Unsupported n) file said h e = h
theirs bytes (faults.Code f) file said h e = h
theirs bytes faults.Memory file said h e = nothing_said said e

-- ---- flaws

-- a flaw of which something is said is that of the files
pub flaw_told : (fault : LoadFault) (cs : List File) (flaw : Flaw) → IsRefused fault cs → flaw_of fault ≡ Some flaw → IsUnlinked cs flaw
flaw_told (load_faults.DuplicateClass name) cs flaw h e = h ∙ e
flaw_told (load_faults.UnknownClass name) cs flaw h e = h ∙ e
flaw_told (load_faults.UnknownMember name) cs flaw h e = h ∙ e
flaw_told (load_faults.BadDescriptor name) cs flaw h e = h ∙ e
flaw_told (load_faults.NoCode name) cs flaw h e = h ∙ e
flaw_told load_faults.Memory cs flaw h e = nothing_said flaw e

-- What a refusal judges.
use Rattle.std.proofs.Common.{ℕ, List, Option, Result, Err, refl}
use Rattle.cls_tree.specs.Pool.{Reference}
use Rattle.vm_model.specs.Program.{Args}
use Rattle.vm_model.specs.View.{args_of, instr_of}
use Rattle.vm_model.specs.Links.{Flaw, Outline, judged_member, with_op}
use Rattle.vm_load.specs.declared.fault.LoadFault.{LoadFault}
use Rattle.vm_load.specs.declared.fault.LoadFault.TheVariants as faults
use Rattle.vm_load.specs.Faults.{IsFlaw, Tells, Judges}

pub judged_flaw : {X Y : Type 0} (view : X → Y) (fault : LoadFault) (flaw : Flaw) → IsFlaw fault flaw → Judges view (Err fault) (Err flaw)
judged_flaw view (faults.DuplicateClass name) flaw h = cc
judged_flaw view (faults.UnknownClass name) flaw h = cc
judged_flaw view (faults.UnknownMember name) flaw h = cc
judged_flaw view (faults.BadDescriptor name) flaw h = cc
judged_flaw view (faults.NoCode name) flaw h = cc
judged_flaw view faults.Memory flaw h = tt

-- what is wrong with a descriptor is wrong with its reference
pub judged_told : {X : Type 0} (view : X → Args) (os : List Outline) (op : ℕ) (r : Reference) (fault : LoadFault) (flaw : Option Flaw) →
    Tells (Err fault) flaw →
    Judges view (Err fault) (judged_member os op r flaw)
judged_told view os op r (faults.DuplicateClass name) flaw h = rw h refl
judged_told view os op r (faults.UnknownClass name) flaw h = rw h refl
judged_told view os op r (faults.UnknownMember name) flaw h = rw h refl
judged_told view os op r (faults.BadDescriptor name) flaw h = rw h refl
judged_told view os op r (faults.NoCode name) flaw h = rw h refl
judged_told view os op r faults.Memory flaw h = tt

-- an instruction is wrong where what it works with is
pub judged_instr_of : (count op : ℕ) (fault : LoadFault) (wanted : Result Args Flaw) → Judges args_of (Err fault) wanted →
    Judges instr_of (Err fault) (with_op count op wanted)
judged_instr_of count op (faults.DuplicateClass name) wanted h = rw h refl
judged_instr_of count op (faults.UnknownClass name) wanted h = rw h refl
judged_instr_of count op (faults.UnknownMember name) wanted h = rw h refl
judged_instr_of count op (faults.BadDescriptor name) wanted h = rw h refl
judged_instr_of count op (faults.NoCode name) wanted h = rw h refl
judged_instr_of count op faults.Memory wanted h = tt

pub ruleset with_ops = (judged_instr_of)

pub ruleset judges = (judged_flaw, judged_told)

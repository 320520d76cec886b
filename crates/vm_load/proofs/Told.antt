-- What a refusal tells.
use Rattle.std.proofs.Common.{Some, Err, sym}
use Rattle.vm_model.specs.Links.{Flaw}
use Rattle.vm_load.specs.declared.fault.LoadFault.{LoadFault}
use Rattle.vm_load.specs.declared.fault.LoadFault.TheVariants as faults
use Rattle.vm_load.specs.Faults.{IsFlaw, Tells}

pub told : (fault : LoadFault) (flaw : Flaw) → IsFlaw fault flaw → Tells (Err fault) (Some flaw)
told (faults.DuplicateClass name) flaw h = sym h
told (faults.UnknownClass name) flaw h = sym h
told (faults.UnknownMember name) flaw h = sym h
told (faults.BadDescriptor name) flaw h = sym h
told (faults.NoCode name) flaw h = sym h
told faults.Memory flaw h = tt

pub ruleset tells = (told)

use Rattle.std.proofs.Common.{◌≡◌, drop}
use Rattle.std.specs.List.{find}
use Rattle.vm_model.specs.Links.{is_named, built_in, built_members}
use Rattle.vm_load.specs.Declaring.{member_of}
use Rattle.vm_load.proofs.member.built_in.Given as goal

abbrev pub invariant-loop-built : goal.invariant-loop-built
invariant-loop-built l =
    find (is_named l.op (member_of l.reference)) (drop l.built-index built_members) ≡ built_in l.op (member_of l.reference) built_members

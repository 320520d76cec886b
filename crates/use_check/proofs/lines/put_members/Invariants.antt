use Rattle.std.proofs.Common.{◌≡◌, ◌++◌, drop, string_bytes}
use Rattle.std.specs.Prelude.{option_map}
use Rattle.std.specs.List.{flat_map}
use Rattle.mg_sets.specs.Sets.{members, members_from}
use Rattle.use_elements.specs.Mappings.{typestate_or_end}
use Rattle.use_check.specs.Report.{member_text}
use Rattle.use_check.proofs.lines.put_members.Given as goal

abbrev pub invariant-loop-element : goal.invariant-loop-element
invariant-loop-element l =
    let t = typestate_or_end (option_map (λ t. t.now) l.typestate) in
    string_bytes l.out ++ flat_map (member_text t) (members_from l.element (drop l.element l.set))
    ≡ string_bytes l.initial.out ++ flat_map (member_text t) (members l.set)

use Rattle.std.proofs.Common.{◌≡◌, map}
use Rattle.lsp_notes.specs.inner.Groups.{groups_of}
use Rattle.lsp_notes.proofs.homes.groups_of.Given as goal

abbrev pub invariant-loop-refusal : goal.invariant-loop-refusal
invariant-loop-refusal l = map (λ g. g.items) l.groups.items ≡ groups_of l.count l.yielded

use Rattle.std.proofs.Common.{◌≡◌, [], map, replicate}
use Rattle.lsp_notes.proofs.homes.no_groups.Given as goal

abbrev pub invariant-loop-number : goal.invariant-loop-number
invariant-loop-number l = map (λ g. g.items) l.groups.items ≡ replicate l._number []

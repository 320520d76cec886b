use Rattle.std.proofs.Common.{◌≡◌, ◌++◌, length, map, string_bytes}
use Rattle.mg_runs.specs.Lines.{role_lines}
use Rattle.mg_runs.specs.Runs.{names_of}
use Rattle.mg_top.proofs.run.push_roles.Given as goal

abbrev pub invariant-loop-main : goal.invariant-loop-main
invariant-loop-main l =
    string_bytes l.said ++ role_lines (names_of l.named) (map (λ r. r.instructions) l.rest) (map (λ r. r.stand) l.rest)
    ≡ string_bytes l.initial.said ++ role_lines (names_of l.mains) (map (λ r. r.instructions) l.roles) (map (λ r. r.stand) l.roles)

abbrev pub decreases-loop-main : goal.decreases-loop-main
decreases-loop-main l = length l.named

use Rattle.std.proofs.Common.{◌≡◌, ◌++◌, drop, flat_map}
use Rattle.lsp_offers.specs.Attempts.{attempts_of, attempts}
use Rattle.lsp_offers.proofs.attempts.attempts.Given as goal

abbrev pub invariant-loop-typestate : goal.invariant-loop-typestate
invariant-loop-typestate l = l.out.items ++ flat_map attempts_of (drop l.typestate-index l.typestates) ≡ attempts l.typestates

use Rattle.std.proofs.Common.{◌≡◌, take}
use Rattle.lsp_serving.specs.Speaking.{spoken}
use Rattle.lsp_serving.proofs.speaking.speak.Given as goal

abbrev pub invariant-loop-message : goal.invariant-loop-message
invariant-loop-message l = l.out ≡ spoken (take l.message-index l.told)

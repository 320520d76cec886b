use Rattle.std.proofs.Common.{◌≡◌, take}
use Rattle.stm_api.specs.inner.View.{names_of}
use Rattle.stm_api.proofs.files.copies.Given as goal

abbrev pub invariant-loop-text : goal.invariant-loop-text
invariant-loop-text l = l.copies.items ≡ names_of (take l.text-index l.texts)

use Rattle.std.proofs.Common.{◌≡◌, ◌++◌, drop, flat_map}
use Rattle.lsp_offers.specs.Attempts.{forms_of}
use Rattle.lsp_offers.specs.inner.Seen.{seen}
use Rattle.lsp_offers.proofs.attempts.put_forms.Given as goal

abbrev pub invariant-loop-method : goal.invariant-loop-method
invariant-loop-method l =
    l.out.items ++ flat_map forms_of (seen (drop l.method-index l.methods)) ≡ l.initial.out.items ++ flat_map forms_of (seen l.methods)

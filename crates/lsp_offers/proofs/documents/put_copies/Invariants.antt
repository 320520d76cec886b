use Rattle.std.proofs.Common.{◌≡◌, ◌++◌, take}
use Rattle.lsp_offers.proofs.documents.put_copies.Given as goal

abbrev pub invariant-loop-bytes : goal.invariant-loop-bytes
invariant-loop-bytes l = l.out.items ≡ l.initial.out.items ++ take l.bytes-index l.contents

use Rattle.std.proofs.Common.{List, drop}
use Rattle.lsp_messages.specs.declared.outgoing.Item.{Item}
use Rattle.lsp_offers.specs.inner.Typed.{AllOffered}
use Rattle.lsp_offers.proofs.typing.Typing.offered.Given as goal

abbrev pub invariant-loop-attempt : goal.invariant-loop-attempt
invariant-loop-attempt l =
    (items : List Item) → AllOffered l.self (drop l.attempt-index l.attempts) items → AllOffered l.self l.attempts items

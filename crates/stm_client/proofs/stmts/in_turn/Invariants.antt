use Rattle.std.proofs.Common.{◌≡◌, ◌+◌, map, length}
use Rattle.jv_tree.specs.View.{stmt_of}
use Rattle.stm_client.specs.Client.{in_turn}
use Rattle.stm_client.proofs.Turns.{turned}
use Rattle.stm_client.proofs.stmts.in_turn.Given as goal

abbrev pub invariant-loop-block : goal.invariant-loop-block
invariant-loop-block l = record {
  turned : in_turn l.place l.choice l.count 1 (map stmt_of l.fn.blocks.items)
      ≡ turned l.place l.choice l.count 1 (map stmt_of l.blocks.items) (stmt_of l.last);
  branch : l.branch ≡ length l.blocks.items + 1;
}

abbrev pub decreases-loop-block : goal.decreases-loop-block
decreases-loop-block l = length l.blocks.items

use Rattle.std.proofs.Common.{◌-◌, ◌∙◌, sym, arith}
use Rattle.jv_tree.specs.View.{stmt_of}
use Rattle.stm_client.proofs.Turns.{turns-start, turns-more, one-less}
use Rattle.stm_client.proofs.stmts.in_turn.Goals as goal

pub loop-block-init : goal.loop-block-init
loop-block-init c =
    let here = sym c.into_vec-blocks.ensures ∙ c.in-Some.ensures.items in
    let less = one-less c.args.blocks.items c.pop.new.self.items c.in-Some.last here in
    record {
      turned =
          turns-start stmt_of c.args.place c.args.choice c.len-count.result c.args.blocks.items c.pop.new.self.items c.in-Some.last here;
      branch = omega arith;
    }

pub loop-block-preserved : goal.loop-block-preserved
loop-block-preserved c =
    let here = c.in-Some-pop.ensures.items in
    let less = one-less c.loop-block.blocks.items c.pop-in-loop-block.new.self.items c.in-Some-pop.block here in
    record {
      turned =
          c.loop-block.invariant.turned
          ∙ turns-more stmt_of c.args.place c.args.choice c.len-count.result c.loop-block.blocks.items c.pop-in-loop-block.new.self.items
          c.in-Some-pop.block (stmt_of c.loop-block.last) (stmt_of c.in_ok-last.last) (c.loop-block.branch - 1) here (omega arith)
          c.in_ok-last.ensures;
      branch = omega arith;
    }

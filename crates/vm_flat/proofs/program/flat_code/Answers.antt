use Rattle.vm_model.specs.View.{instr_of}
use Rattle.vm_flat.specs.Flat.{IsFlatInstr}
use Rattle.vm_flat.proofs.Rows.{one_more}
use Rattle.vm_flat.proofs.program.flat_code.Goals as goal

pub loop-instr-preserved : goal.loop-instr-preserved
loop-instr-preserved c =
    one_more IsFlatInstr instr_of _ _ c.args.code.now c.loop-instr.instr-index _ c.instr-item.result c.loop-instr-test.true c.instr-item.is
    c.in_ok-push.ensures.ok c.loop-instr.invariant c.flat_instr.ensures

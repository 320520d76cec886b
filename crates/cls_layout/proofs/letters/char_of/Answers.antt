use Rattle.cls_layout.proofs.Modified.{code_fits}
use Rattle.cls_layout.proofs.letters.char_of.Goals as goal

pub unreachable-requires : goal.unreachable-requires
unreachable-requires c = c.in-None.ensures.value (code_fits c.args.bytes.now c.in_ok-code.rest.now c.in_ok-code.code c.in_ok-code.ensures)

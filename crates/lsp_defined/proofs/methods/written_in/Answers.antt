use Rattle.std.proofs.Common.{◌≡◌, Some, ap}
use Rattle.mg_read.specs.declared.fault.ParseFault.TheVariants as faults
use Rattle.ts_parse.specs.Written.{WFile}
use Rattle.lsp_defined.proofs.Spelling.{respelled}
use Rattle.lsp_defined.proofs.methods.written_in.Goals as goal

pub returns-in-Err-BadByte : goal.returns-in-Err-BadByte
returns-in-Err-BadByte c = λ w s. absurd (rw c.in-Err-BadByte.field-0-is at (c.in-Err-BadByte.ensures.only s.tokens s.cut))

pub returns-in-Ok-read_written : goal.returns-in-Ok-read_written
returns-in-Ok-read_written c = λ w s.
    ap (λ (x : WFile). Some x) (c.in-Ok-read_written.ensures.only w
    (respelled w s.tokens _ c.as_slice.result.now c.as_slice.ensures.items (c.in-Ok.ensures.only s.tokens s.cut) s.spelled))

pub returns-in-Err-Syntax : goal.returns-in-Err-Syntax
returns-in-Err-Syntax c = λ w s.
    let e : c.in-Err-Syntax.field-0 ≡ faults.Memory = c.in-Err-Syntax.ensures.only w
    (respelled w s.tokens _ c.as_slice.result.now c.as_slice.ensures.items (c.in-Ok.ensures.only s.tokens s.cut) s.spelled) in
    cc (e, c.in-Err-Syntax.field-0-is)

use Rattle.std.proofs.Common.{arith}
use Rattle.mg_sources.specs.Files.{source_of}
use Rattle.mg_exec.specs.Files.{large}
use Rattle.mg_exec.proofs.FilesRead.{read_right, read_failed}
use Rattle.mg_exec.proofs.reading.read_one.Goals as goal

pub returns-then-bytes-gt-MOST_BYTES : goal.returns-then-bytes-gt-MOST_BYTES
returns-then-bytes-gt-MOST_BYTES c = λ name. large (omega (arith, c.if-bytes-gt-MOST_BYTES.true)) c.in_bytes.ensures

pub returns-in-Ok : goal.returns-in-Ok
returns-in-Ok c = λ name.
    read_right (source_of c.args.number name c.args.bytes.now) c.in-Ok.class (λ i. omega (arith, c.type_inv.bytes i))
    (omega (arith, c.if-bytes-gt-MOST_BYTES.false)) c.in-Ok.ensures.found

pub returns-in-Err : goal.returns-in-Err
returns-in-Err c = λ name.
    read_failed (source_of c.args.number name c.args.bytes.now) c.in-Err.fault c.stop_of_class.result
    (omega (arith, c.if-bytes-gt-MOST_BYTES.false)) c.in-Err.ensures.fault c.stop_of_class.ensures

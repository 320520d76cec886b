use Rattle.ts_parse.specs.Written.{wfile_of}
use Rattle.ts_read.proofs.Composed.{large_told, meant_told}
use Rattle.ts_read.proofs.reading.read_of.Goals as goal

pub returns-then-bytes-gt-MAX_BYTES : goal.returns-then-bytes-gt-MAX_BYTES
returns-then-bytes-gt-MAX_BYTES c = large_told c.args.file c.args.bytes.now c.start.result c.if-bytes-gt-MAX_BYTES.true c.start.ensures

pub returns : goal.returns
returns c = meant_told c.args.file c.args.bytes.now
    (wfile_of c.in_ok-written.written) c.meant_by.result c.in_ok-written.ensures c.meant_by.ensures

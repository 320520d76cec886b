use Rattle.ts_read.proofs.Composed.{bad_of, bad_within, bad_told}
use Rattle.ts_read.proofs.reading.tokens_of.Goals as goal

pub place_of-requires-clause-within : goal.place_of-requires-clause-within
place_of-requires-clause-within c =
    let fault = c.in-Err-BadByte in
    bad_within c.args.bytes.now fault.offset (bad_of fault.field-0 fault.offset c.args.bytes.now fault.field-0-is fault.ensures.bad)

pub returns-in-Err-BadByte : goal.returns-in-Err-BadByte
returns-in-Err-BadByte c =
    let fault = c.in-Err-BadByte in
    bad_told c.args.file c.args.bytes.now fault.offset c.place_of.result c.requires
    (bad_of fault.field-0 fault.offset c.args.bytes.now fault.field-0-is fault.ensures.bad) c.place_of.ensures

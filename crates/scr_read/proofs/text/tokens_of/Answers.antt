use Rattle.std.proofs.Common.{sym, subst}
use Rattle.mg_text.specs.declared.place.Place.{Place}
use Rattle.scr_read.specs.Outcome.{Outcome, BadByte, bad_byte}
use Rattle.scr_read.proofs.Staged.{told, bad_within, bad_of}
use Rattle.scr_read.proofs.text.tokens_of.Goals as goal

pub place_of-requires-clause-within : goal.place_of-requires-clause-within
place_of-requires-clause-within c =
    let fault = c.in-Err-BadByte in
    bad_within fault.offset c.args.bytes.now (bad_of fault.field-0 fault.offset c.args.bytes.now fault.field-0-is
    c.in-Err-BadByte.ensures.bad)

pub returns-in-Err-BadByte : goal.returns-in-Err-BadByte
returns-in-Err-BadByte c =
    let fault = c.in-Err-BadByte in
    let bad = bad_of fault.field-0 fault.offset c.args.bytes.now fault.field-0-is c.in-Err-BadByte.ensures.bad in
    told (Outcome c.args.file c.args.bytes.now) (BadByte c.place_of.result)
    (subst (λ (p : Place). Outcome c.args.file c.args.bytes.now (BadByte p)) (sym c.place_of.ensures)
    (bad_byte fault.offset c.requires bad))

use Rattle.std.proofs.Common.{sym, subst}
use Rattle.mg_text.specs.declared.place.Place.{Place}
use Rattle.scr_global_read.specs.Outcome.{Outcome, TooLarge, too_large}
use Rattle.scr_read.proofs.Staged.{told}
use Rattle.scr_global_read.proofs.read_of.Goals as goal

pub returns-then-bytes-gt-MAX_BYTES : goal.returns-then-bytes-gt-MAX_BYTES
returns-then-bytes-gt-MAX_BYTES c =
    told (Outcome c.args.file c.args.bytes.now) (TooLarge c.start-place.result)
    (subst (λ (p : Place). Outcome c.args.file c.args.bytes.now (TooLarge p)) (sym c.start-place.ensures)
    (too_large c.if-bytes-gt-MAX_BYTES.true))

use Rattle.std.proofs.Common.{map, subst, sym}
use Rattle.mg_read.specs.First.{Judged}
use Rattle.scr_tree.specs.Listing.{PayloadCount}
use Rattle.scr_tree.specs.Written.{carries_of}
use Rattle.scr_judge.proofs.Tables.{payload_count}
use Rattle.scr_judge.proofs.typed.find_payload_count.Goals as goal

pub returns : goal.returns
returns c = subst (Judged PayloadCount (map carries_of c.args.carries.now)) (sym c.find_many.ensures) (payload_count c.args.carries.now)

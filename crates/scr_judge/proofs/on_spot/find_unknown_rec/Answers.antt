use Rattle.scr_tree.specs.View.{statements}
use Rattle.scr_tree.specs.Conditions.{UnknownRec}
use Rattle.scr_judge.specs.inner.OnSpot.{unknown_rec}
use Rattle.scr_judge.proofs.SpotWalk.{first_asked}
use Rattle.scr_judge.proofs.Asking.{rec_right}
use Rattle.scr_judge.proofs.on_spot.find_unknown_rec.Goals as goal

pub returns : goal.returns
returns c = first_asked UnknownRec (λ begins. unknown_rec) rec_right (statements c.args.body.now) _ c.find_all.ensures

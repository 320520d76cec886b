use Rattle.scr_tree.specs.View.{statements}
use Rattle.scr_tree.specs.Conditions.{DuplicateRec}
use Rattle.scr_judge.specs.inner.OnSpot.{duplicate_rec}
use Rattle.scr_judge.proofs.SpotWalk.{first_asked}
use Rattle.scr_judge.proofs.Asking.{twice_right}
use Rattle.scr_judge.proofs.on_spot.find_duplicate_rec.Goals as goal

pub returns : goal.returns
returns c = first_asked DuplicateRec (λ begins. duplicate_rec) twice_right (statements c.args.body.now) _ c.find_all.ensures

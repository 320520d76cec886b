use Rattle.scr_tree.specs.View.{statements}
use Rattle.scr_tree.specs.Conditions.{MixedChoice}
use Rattle.scr_judge.specs.inner.OnSpot.{mixed_choice}
use Rattle.scr_judge.proofs.SpotWalk.{first_asked}
use Rattle.scr_judge.proofs.Asking.{mixed_right}
use Rattle.scr_judge.proofs.on_spot.find_mixed_choice.Goals as goal

pub returns : goal.returns
returns c = first_asked (MixedChoice c.args.me.now) (λ begins around. mixed_choice c.args.me.now) (mixed_right c.args.me.now)
    (statements c.args.body.now) _ c.find_all.ensures

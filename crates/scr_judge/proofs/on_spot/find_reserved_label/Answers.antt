use Rattle.scr_tree.specs.View.{statements}
use Rattle.scr_tree.specs.Conditions.{ReservedLabel}
use Rattle.scr_judge.specs.inner.OnSpot.{reserved_label}
use Rattle.scr_judge.proofs.SpotWalk.{first_asked}
use Rattle.scr_judge.proofs.Asking.{label_right}
use Rattle.scr_judge.proofs.on_spot.find_reserved_label.Goals as goal

pub returns : goal.returns
returns c = first_asked (ReservedLabel c.args.me.now) (λ begins around. reserved_label c.args.me.now begins) (label_right c.args.me.now)
    (statements c.args.body.now) _ c.find_all.ensures

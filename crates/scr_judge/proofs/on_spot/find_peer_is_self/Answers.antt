use Rattle.scr_tree.specs.View.{statements}
use Rattle.scr_tree.specs.Conditions.{PeerIsSelf}
use Rattle.scr_judge.specs.inner.OnSpot.{peer_is_self}
use Rattle.scr_judge.proofs.SpotWalk.{first_asked}
use Rattle.scr_judge.proofs.Asking.{self_right}
use Rattle.scr_judge.proofs.on_spot.find_peer_is_self.Goals as goal

pub returns : goal.returns
returns c = first_asked (PeerIsSelf c.args.me.now) (λ begins around. peer_is_self c.args.me.now) (self_right c.args.me.now)
    (statements c.args.body.now) _ c.find_all.ensures

use Rattle.std.proofs.Common.{◌≡◌, length, map, arith}
use Rattle.jv_core.specs.View.{group_of, groups_of}
use Rattle.use_rules.specs.Flow.{all_labels}
use Rattle.use_flow.specs.inner.Followed.{seen}
use Rattle.use_flow.proofs.Choosing.{rest_chosen, past_chosen}
use Rattle.use_flow.proofs.scene.Scene.choose.Goals as goal

pub returns-clause-rest : goal.returns-clause-rest
returns-clause-rest c =
    rest_chosen (seen c.args.self.now) (all_labels (groups_of (map group_of c.args.groups.now))) c.in_ok-branches.branches
    c.in_ok-labels.labels c.len.result
    (let k : c.len.result ≡ length c.in_ok-branches.branches.sets.items = omega (arith, c.len.ensures) in k) c.in_ok-labels.ensures
    c.in_ok-rest.rest c.in_ok-rest.ensures

pub returns-clause-past : goal.returns-clause-past
returns-clause-past c =
    past_chosen (seen c.args.self.now) (all_labels (groups_of (map group_of c.args.groups.now))) c.in_ok-branches.branches
    c.in_ok-labels.labels c.len.result
    (let k : c.len.result ≡ length c.in_ok-branches.branches.sets.items = omega (arith, c.len.ensures) in k) c.in_ok-labels.ensures
    c.in_ok-rest.rest c.in_ok-rest.ensures

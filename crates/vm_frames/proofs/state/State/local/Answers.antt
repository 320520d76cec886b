-- The locals are the first cells.
use Rattle.vm_frames.proofs.States.{has_local, held_within, held_differs, held_set, held_says}
use Rattle.vm_frames.proofs.state.State.local.Goals as goal

pub at-requires : goal.at-requires
at-requires c =
    has_local c.self.inside c.args.self.now c.self.view_is c.self.invariant c.args.local
    (held_within c.self.inside c.args.self.now c.self.view_is c.self.invariant c.args.local c.requires)

pub returns-clause-value : goal.returns-clause-value
returns-clause-value c =
    let within = held_within c.self.inside c.args.self.now c.self.view_is c.self.invariant c.args.local c.requires in
    held_says c.self.inside c.args.self.now c.self.view_is c.self.invariant c.args.local c.at.result within c.at.ensures
    (held_differs c.self.inside c.args.self.now c.self.view_is c.self.invariant c.args.local c.at.result within c.at.ensures c.requires)

pub returns-clause-set : goal.returns-clause-set
returns-clause-set c =
    let within = held_within c.self.inside c.args.self.now c.self.view_is c.self.invariant c.args.local c.requires in
    held_set c.self.inside c.args.self.now c.self.view_is c.self.invariant c.args.local c.at.result within c.at.ensures
    (held_differs c.self.inside c.args.self.now c.self.view_is c.self.invariant c.args.local c.at.result within c.at.ensures c.requires)

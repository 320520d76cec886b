-- The locals are the first cells.
use Rattle.std.proofs.Common.{arith}
use Rattle.vm_frames.proofs.States.{has_local, unset_held, held_set, held_says}
use Rattle.vm_frames.proofs.state.State.held.Goals as goal

pub at-requires : goal.at-requires
at-requires c = has_local c.self.inside c.args.self.now c.self.view_is c.self.invariant c.args.local (omega (arith, c.from.ensures))

pub returns-in-Unset-clause-value : goal.returns-in-Unset-clause-value
returns-in-Unset-clause-value c =
    unset_held c.self.inside c.args.self.now c.self.view_is c.self.invariant c.args.local c.at.result
    (omega (arith, c.from.ensures)) c.at.ensures
    c.in-Unset.is

pub returns-in_default-clause-value : goal.returns-in_default-clause-value
returns-in_default-clause-value c =
    held_says c.self.inside c.args.self.now c.self.view_is c.self.invariant c.args.local c.at.result
    (omega (arith, c.from.ensures)) c.at.ensures
    c.in_default.not-Unset

pub returns-in_default-clause-set : goal.returns-in_default-clause-set
returns-in_default-clause-set c =
    held_set c.self.inside c.args.self.now c.self.view_is c.self.invariant c.args.local c.at.result
    (omega (arith, c.from.ensures)) c.at.ensures
    c.in_default.not-Unset

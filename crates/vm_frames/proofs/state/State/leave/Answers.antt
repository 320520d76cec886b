-- The nearest of the frames that wait runs again.
use Rattle.std.proofs.Common.{refl, arith}
use Rattle.vm_frames.proofs.Leaving.{nothing_popped, alone, has_room, none-kept, none_left, some-kept, some_left}
use Rattle.vm_frames.proofs.Same.{same-seen, same-kept}
use Rattle.vm_frames.proofs.state.State.leave.Goals as goal

pub invariant_of-self : goal.invariant_of-self
invariant_of-self c =
    let s = c.self.inside in
    same-kept s c.args.self.now c.self.view_is c.self.invariant (record s { heads = c.pop.new.self }) refl
    (nothing_popped s c.args.self.now c.self.view_is c.self.invariant c.pop.new.self.items c.pop.result c.pop.ensures.items c.in_default.is)
    refl refl (omega arith) refl refl

pub returns-in_default-clause-no : goal.returns-in_default-clause-no
returns-in_default-clause-no c =
    let s = c.self.inside in (
      alone s c.args.self.now c.self.view_is c.self.invariant c.pop.new.self.items c.pop.result c.pop.ensures.items c.in_default.is
          (omega (arith, c.in_default.ensures.cases, s.heads.ok.0)),
      same-seen s c.args.self.now c.self.view_is c.self.invariant (record s { heads = c.pop.new.self }) refl
          (nothing_popped s c.args.self.now c.self.view_is c.self.invariant c.pop.new.self.items c.pop.result c.pop.ensures.items
          c.in_default.is)
          refl refl refl refl,
    )

-- one waits

pub push-requires : goal.push-requires
push-requires c =
    let s = c.self.inside in
    has_room s c.args.self.now c.self.view_is c.self.invariant c.pop.new.self.items c.pop.result c.pop.ensures.items c.in-Some.head
    c.in-Some.is
    c.leave-left.new.self c.leave-left.result c.leave-left.ensures.yes c.leave-left.ensures.no

pub invariant_of-self-in-Some-value : goal.invariant_of-self-in-Some-value
invariant_of-self-in-Some-value c =
    let s = c.self.inside in
    some-kept s c.args.self.now c.self.view_is c.self.invariant c.pop.new.self.items c.pop.result c.pop.ensures.items c.in-Some.head
    c.in-Some.is
    c.leave-left.new.self c.leave-left.result c.leave-left.ensures.yes c.leave-left.ensures.no
    c.args.value c.in-Some-value.cell c.in-Some-value.is c.push.new.self c.push.ensures.running c.push.ensures.callers
    (record s { cells = c.push.new.self; head = c.in-Some.head; heads = c.pop.new.self })
    refl refl refl refl refl refl c.push.ensures.spare c.requires

pub returns-in-Some-value-clause-yes : goal.returns-in-Some-value-clause-yes
returns-in-Some-value-clause-yes c =
    let s = c.self.inside in
    some_left s c.args.self.now c.self.view_is c.self.invariant c.pop.new.self.items c.pop.result c.pop.ensures.items c.in-Some.head
    c.in-Some.is
    c.leave-left.new.self c.leave-left.result c.leave-left.ensures.yes c.leave-left.ensures.no
    c.args.value c.in-Some-value.cell c.in-Some-value.is c.push.new.self c.push.ensures.running c.push.ensures.callers
    (record s { cells = c.push.new.self; head = c.in-Some.head; heads = c.pop.new.self })
    refl refl refl refl refl refl

pub invariant_of-self-in-None : goal.invariant_of-self-in-None
invariant_of-self-in-None c =
    let s = c.self.inside in
    none-kept s c.args.self.now c.self.view_is c.self.invariant c.pop.new.self.items c.pop.result c.pop.ensures.items c.in-Some.head
    c.in-Some.is
    c.leave-left.new.self c.leave-left.result c.leave-left.ensures.yes c.leave-left.ensures.no
    c.args.value c.in-None.is
    (record s { cells = c.leave-left.new.self; head = c.in-Some.head; heads = c.pop.new.self })
    refl refl refl refl refl

pub returns-in-None-clause-yes : goal.returns-in-None-clause-yes
returns-in-None-clause-yes c =
    let s = c.self.inside in
    none_left s c.args.self.now c.self.view_is c.self.invariant c.pop.new.self.items c.pop.result c.pop.ensures.items c.in-Some.head
    c.in-Some.is
    c.leave-left.new.self c.leave-left.result c.leave-left.ensures.yes c.leave-left.ensures.no
    c.args.value c.in-None.is
    (record s { cells = c.leave-left.new.self; head = c.in-Some.head; heads = c.pop.new.self })
    refl refl refl refl refl

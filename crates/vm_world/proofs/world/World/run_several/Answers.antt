use Rattle.std.proofs.Common.{◌<◌, ◌≤◌, ℕ, get_or, length, inl, inr, refl, ap, ◌∙◌, subst, arith}
use Rattle.vm_world.specs.Alone.{Counts}
use Rattle.vm_world.proofs.Going.{zero_is}
use Rattle.vm_world.proofs.Several.{begin_several, several_stopped, within_ahead, within_roles, taken_several, idle_several, room_several}
use Rattle.vm_world.proofs.Several.{come_several, come_within, lt}
use Rattle.vm_world.proofs.AtOnce.{cycles_several}
use Rattle.vm_world.proofs.Asked.{none_asked, asked_less, asked_again, asked_still, asked_counted}
use Rattle.vm_world_law.proofs.Lists.{set_long}
use Rattle.std.proofs.lemmas.List.{length-replicate}
use Rattle.vm_world.proofs.world.World.run_several.Goals as goal

pub loop-left-init : goal.loop-left-init
loop-left-init c = record {
  several = begin_several c.args.self.now.program c.args.self.now.world c.args.order.now c.args.limit c.args.self.now c.args.ahead.now
      refl refl c.requires.fresh c.requires.ahead;
  asked = none_asked c.args.self.now c.args.asked.now (length c.args.self.now.world.roles) c.args.limit c.requires.asked;
  long = ap length c.requires.asked ∙ length-replicate (length c.args.self.now.world.roles) 0;
}

pub bounds-ahead-place : goal.bounds-ahead-place
bounds-ahead-place c =
    within_ahead c.args.self.now.program c.args.self.now.world c.args.order.now c.args.limit c.loop-left.self c.loop-left.ahead
    c.loop-left.left c.loop-left.idle c.loop-left.next c.loop-left.invariant.several c.if-idle-order.true c.requires.numbers
    (get_or c.args.order.now c.loop-left.next 0) refl

pub overflow_sub-left : goal.overflow_sub-left
overflow_sub-left c =
    let turns = c.count_cycles-left.ensures.turns in
    let within = c.cycles_at_once-cycles.ensures.within in
    omega (arith, turns, within)

pub loop-left-preserved-then-cycles-gt0 : goal.loop-left-preserved-then-cycles-gt0
loop-left-preserved-then-cycles-gt0 c = record {
  several = cycles_several c.args.self.now.program c.args.self.now.world c.args.order.now c.args.limit c.loop-left.self
      c.requires.numbers c.loop-left.ahead c.loop-left.left c.loop-left.idle c.loop-left.next c.loop-left.invariant.several
      c.if-idle-order.true c.if-next-eq0.true c.cycles_at_once-cycles.result c.count_cycles-left.result _ c.if-cycles-gt0.true
      c.count_cycles-left.ensures.turns c.cycles_at_once-cycles.ensures.within c.cycles_at_once-cycles.ensures.ahead
      c.count_cycles-left.ensures.long c.count_cycles-left.ensures.each;
  asked = asked_less c.loop-left.self c.loop-left.asked c.loop-left.version c.loop-left.left c.args.limit c.loop-left.invariant.asked
      c.count_cycles-left.result;
  long = c.loop-left.invariant.long;
}

pub loop-left-preserved-then-ahead-place-gt0 : goal.loop-left-preserved-then-ahead-place-gt0
loop-left-preserved-then-ahead-place-gt0 c = record {
  several = come_several c.args.self.now.program c.args.self.now.world c.args.order.now c.args.limit c.loop-left.self c.requires.numbers
      c.loop-left.next (get_or c.args.order.now c.loop-left.next 0) refl c.loop-left.ahead c.loop-left.left c.loop-left.idle
      c.loop-left.invariant.several c.if-idle-order.true c.loop-left-test.true c.if-ahead-place-gt0.true c.come_at_once-come.result
      c.come_at_once-come.ensures.come c.following-next.result c.following-next.ensures;
  asked = asked_less c.loop-left.self c.loop-left.asked c.loop-left.version c.loop-left.left c.args.limit c.loop-left.invariant.asked
      c.come_at_once-come.result;
  long = c.loop-left.invariant.long;
}

pub overflow_sub-left-then-ahead-place-gt0 : goal.overflow_sub-left-then-ahead-place-gt0
overflow_sub-left-then-ahead-place-gt0 c =
    come_within c.args.self.now.program c.args.self.now.world c.args.order.now c.args.limit c.loop-left.self c.requires.numbers
    c.loop-left.next (get_or c.args.order.now c.loop-left.next 0) refl c.loop-left.ahead c.loop-left.left c.loop-left.idle
    c.loop-left.invariant.several c.if-idle-order.true c.loop-left-test.true c.if-ahead-place-gt0.true c.come_at_once-come.result
    c.come_at_once-come.ensures.come

pub bounds-asked-place : goal.bounds-asked-place
bounds-asked-place c =
    let le : get_or c.args.order.now c.loop-left.next 0 < length c.args.self.now.world.roles =
    lt c.args.self.now.program c.args.self.now.world c.args.order.now c.args.limit c.loop-left.self c.loop-left.ahead
    c.loop-left.left c.loop-left.idle c.loop-left.next c.loop-left.invariant.several c.if-idle-order.true c.requires.numbers
    (get_or c.args.order.now c.loop-left.next 0) refl in
    omega (arith, le, c.loop-left.invariant.long)

pub loop-left-preserved-then-asked-place : goal.loop-left-preserved-then-asked-place
loop-left-preserved-then-asked-place c = record {
  several = idle_several c.args.self.now.program c.args.self.now.world c.args.order.now c.args.limit c.loop-left.self c.loop-left.ahead
      c.loop-left.left c.loop-left.idle c.loop-left.next c.loop-left.invariant.several c.if-idle-order.true c.requires.numbers
      (get_or c.args.order.now c.loop-left.next 0) refl c.loop-left.self refl c.following-next.result c.following-next.ensures
      (zero_is (get_or c.loop-left.ahead (get_or c.args.order.now c.loop-left.next 0) 0) c.if-ahead-place-gt0.false)
      (asked_again c.loop-left.self c.loop-left.asked c.loop-left.version c.loop-left.left c.args.limit c.loop-left.invariant.asked
      (get_or c.args.order.now c.loop-left.next 0) c.if-asked-place.true);
  asked = c.loop-left.invariant.asked;
  long = c.loop-left.invariant.long;
}

pub take_at_once-requires-clause-number : goal.take_at_once-requires-clause-number
take_at_once-requires-clause-number c =
    within_roles c.args.self.now.program c.args.self.now.world c.args.order.now c.args.limit c.loop-left.self c.loop-left.ahead
    c.loop-left.left c.loop-left.idle c.loop-left.next c.loop-left.invariant.several c.if-idle-order.true c.requires.numbers
    (get_or c.args.order.now c.loop-left.next 0) refl

pub take_at_once-requires-clause-room : goal.take_at_once-requires-clause-room
take_at_once-requires-clause-room c =
    room_several c.args.self.now.program c.args.self.now.world c.args.order.now c.args.limit c.loop-left.self c.loop-left.ahead
    c.loop-left.left c.loop-left.idle c.loop-left.next c.loop-left.invariant.several c.if-idle-order.true c.requires.numbers
    (get_or c.args.order.now c.loop-left.next 0) refl
    (zero_is (get_or c.loop-left.ahead (get_or c.args.order.now c.loop-left.next 0) 0) c.if-ahead-place-gt0.false) c.ranges.limit.fits

pub loop-left-preserved-then-counted-eq0 : goal.loop-left-preserved-then-counted-eq0
loop-left-preserved-then-counted-eq0 c =
    let still = subst (λ (k : ℕ). Counts c.loop-left.self.program c.loop-left.self.world (get_or c.args.order.now c.loop-left.next 0) k
    c.take_at_once.new.self.world) c.if-counted-eq0.true c.in_ok-counted.ensures.turns in
    let le : get_or c.args.order.now c.loop-left.next 0 < length c.args.self.now.world.roles =
    lt c.args.self.now.program c.args.self.now.world c.args.order.now c.args.limit c.loop-left.self c.loop-left.ahead
    c.loop-left.left c.loop-left.idle c.loop-left.next c.loop-left.invariant.several c.if-idle-order.true c.requires.numbers
    (get_or c.args.order.now c.loop-left.next 0) refl in
    let here : get_or c.args.order.now c.loop-left.next 0 < length c.loop-left.asked = omega (arith, le, c.loop-left.invariant.long) in
    record {
      several = idle_several c.args.self.now.program c.args.self.now.world c.args.order.now c.args.limit c.loop-left.self c.loop-left.ahead
          c.loop-left.left c.loop-left.idle c.loop-left.next c.loop-left.invariant.several c.if-idle-order.true c.requires.numbers
          (get_or c.args.order.now c.loop-left.next 0) refl c.take_at_once.new.self c.in_ok-counted.ensures.program
          c.following-next.result c.following-next.ensures
          (zero_is (get_or c.loop-left.ahead (get_or c.args.order.now c.loop-left.next 0) 0) c.if-ahead-place-gt0.false) still;
      asked = asked_still c.loop-left.self c.loop-left.asked c.loop-left.version c.loop-left.left c.args.limit
          c.loop-left.invariant.asked c.take_at_once.new.self c.in_ok-counted.ensures.program
          (get_or c.args.order.now c.loop-left.next 0) here still;
      long = set_long c.loop-left.asked (get_or c.args.order.now c.loop-left.next 0) c.loop-left.version ∙ c.loop-left.invariant.long;
    }

pub bounds-ahead-place-in-loop-left : goal.bounds-ahead-place-in-loop-left
bounds-ahead-place-in-loop-left c =
    within_ahead c.args.self.now.program c.args.self.now.world c.args.order.now c.args.limit c.loop-left.self c.loop-left.ahead
    c.loop-left.left c.loop-left.idle c.loop-left.next c.loop-left.invariant.several c.if-idle-order.true c.requires.numbers
    (get_or c.args.order.now c.loop-left.next 0) refl

pub bounds-ahead-place-in-loop-left-2 : goal.bounds-ahead-place-in-loop-left-2
bounds-ahead-place-in-loop-left-2 c =
    within_ahead c.args.self.now.program c.args.self.now.world c.args.order.now c.args.limit c.loop-left.self c.loop-left.ahead
    c.loop-left.left c.loop-left.idle c.loop-left.next c.loop-left.invariant.several c.if-idle-order.true c.requires.numbers
    (get_or c.args.order.now c.loop-left.next 0) refl

pub loop-left-preserved : goal.loop-left-preserved
loop-left-preserved c =
    let some : 0 < c.in_ok-counted.counted = omega (arith, c.if-counted-eq0.false) in
    record {
      several = taken_several c.args.self.now.program c.args.self.now.world c.args.order.now c.args.limit c.loop-left.self
          c.loop-left.ahead c.loop-left.left c.loop-left.idle c.loop-left.next c.loop-left.invariant.several c.if-idle-order.true
          c.requires.numbers (get_or c.args.order.now c.loop-left.next 0) refl c.take_at_once.new.self c.in_ok-counted.ensures.program
          c.following-next.result c.following-next.ensures c.in_ok-counted.counted
          (zero_is (get_or c.loop-left.ahead (get_or c.args.order.now c.loop-left.next 0) 0) c.if-ahead-place-gt0.false)
          c.loop-left-test.true c.in_ok-counted.ensures.turns some c.in_ok-counted.ensures.come;
      asked = asked_counted c.loop-left.self c.loop-left.asked c.loop-left.version c.loop-left.left c.args.limit
          c.loop-left.invariant.asked c.take_at_once.new.self c.in_ok-counted.ensures.program
          (get_or c.args.order.now c.loop-left.next 0) c.version_behind-version.result c.if-asked-place.false c.loop-left-test.true
          c.in_ok-counted.counted c.last_moved.result some c.version_behind-version.ensures c.last_moved.ensures
          c.in_ok-counted.ensures.turns;
      long = c.loop-left.invariant.long;
    }

pub returns-else-idle-order-clause-run : goal.returns-else-idle-order-clause-run
returns-else-idle-order-clause-run c =
    let enough : length c.args.order.now ≤ c.loop-left.idle = c.if-idle-order.false in
    several_stopped c.args.self.now.program c.args.self.now.world c.args.order.now c.args.limit c.loop-left.self c.loop-left.ahead
    c.loop-left.left c.loop-left.idle c.loop-left.next c.loop-left.invariant.several c.requires.named (inr enough)

pub returns-after-loop-left-clause-run : goal.returns-after-loop-left-clause-run
returns-after-loop-left-clause-run c =
    several_stopped c.args.self.now.program c.args.self.now.world c.args.order.now c.args.limit c.loop-left.self c.loop-left.ahead
    c.loop-left.left c.loop-left.idle c.loop-left.next c.loop-left.invariant.several c.requires.named
    (inl (zero_is c.loop-left.left c.loop-left-test.false))

pub bounds-asked-place-then-counted-eq0 : goal.bounds-asked-place-then-counted-eq0
bounds-asked-place-then-counted-eq0 c =
    let le : get_or c.args.order.now c.loop-left.next 0 < length c.args.self.now.world.roles =
    lt c.args.self.now.program c.args.self.now.world c.args.order.now c.args.limit c.loop-left.self c.loop-left.ahead
    c.loop-left.left c.loop-left.idle c.loop-left.next c.loop-left.invariant.several c.if-idle-order.true c.requires.numbers
    (get_or c.args.order.now c.loop-left.next 0) refl in
    omega (arith, le, c.loop-left.invariant.long)

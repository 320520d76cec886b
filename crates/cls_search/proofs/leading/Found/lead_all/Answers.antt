use Rattle.std.proofs.Common.{get_or, refl, arith}
use Rattle.cls_rows.specs.Frames.{kinds_at}
use Rattle.cls_search.proofs.LedLemmas.{led_none, led_next, led_more, led_as, led_not, led_all}
use Rattle.cls_search.proofs.leading.Found.lead_all.Goals as goal

pub loop-place-init : goal.loop-place-init
loop-place-init c = λ s l. led_none s c.args.self.now c.args.left.now c.args.places.now c.args.self.now refl l

pub lead-requires : goal.lead-requires
lead-requires c =
    let s = c.requires.0 in
    let l = c.requires.1 in (
      s,
      led_next s c.args.self.now c.args.left.now c.args.places.now c.loop-place.self c.loop-place.place-index l
          (c.loop-place.invariant s l)
          c.loop-place-test.true,
    )

pub returns-then-not-is_led : goal.returns-then-not-is_led
returns-then-not-is_led c = λ s l.
    led_not s c.loop-place.self c.lead.new.self (kinds_at s.names s.rest c.loop-place.self.stacks c.args.left.now)
    (get_or c.args.places.now c.loop-place.place-index 0) c.in_ok-is_led.is_led
    (c.in_ok-is_led.ensures s (led_next s c.args.self.now c.args.left.now c.args.places.now c.loop-place.self c.loop-place.place-index l
    (c.loop-place.invariant s l) c.loop-place-test.true))
    c.if-not-is_led.true

pub loop-place-preserved : goal.loop-place-preserved
loop-place-preserved c = λ s l.
    led_more s c.args.self.now c.args.left.now c.args.places.now c.loop-place.self c.lead.new.self c.loop-place.place-index l
    (c.loop-place.invariant s l)
    (led_as s c.loop-place.self c.lead.new.self (kinds_at s.names s.rest c.loop-place.self.stacks c.args.left.now)
    (get_or c.args.places.now c.loop-place.place-index 0) c.in_ok-is_led.is_led
    (c.in_ok-is_led.ensures s (led_next s c.args.self.now c.args.left.now c.args.places.now c.loop-place.self c.loop-place.place-index l
    (c.loop-place.invariant s l) c.loop-place-test.true))
    c.if-not-is_led.false)

pub returns : goal.returns
returns c = λ s l. led_all s c.args.self.now c.args.left.now c.args.places.now c.loop-place.self c.loop-place.place-index
    (c.loop-place.invariant s l) (omega (arith, c.loop-place-test.false))

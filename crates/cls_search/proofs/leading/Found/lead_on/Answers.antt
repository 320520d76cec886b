use Rattle.std.proofs.Common.{◌++◌, ap}
use Rattle.std.specs.Prelude.{option_to_list}
use Rattle.cls_search.proofs.LedLemmas.{led_first, further_then, further_given, both_given, both_then, first_not}
use Rattle.cls_search.proofs.leading.Found.lead_on.Goals as goal

pub lead_all-requires : goal.lead_all-requires
lead_all-requires c = (
  c.requires.0,
  further_given c.requires.0 c.args.self.now c.args.left.now _ c.args.jumps.further.now
      (ap (λ t. option_to_list t ++ c.args.jumps.further.now) c.in_default.is) c.requires.1,
)

pub returns-in_default : goal.returns-in_default
returns-in_default c = further_then c.args.self.now c.lead_all.new.self c.args.left.now _ c.args.jumps.further.now c.lead_all.result
    (ap (λ t. option_to_list t ++ c.args.jumps.further.now) c.in_default.is) c.lead_all.ensures

pub lead-requires : goal.lead-requires
lead-requires c = (
  c.requires.0,
  led_first c.requires.0 c.args.self.now c.args.left.now c.in-Some.target c.args.jumps.further.now
      (further_given c.requires.0 c.args.self.now c.args.left.now _ _ (ap (λ t. option_to_list t ++ c.args.jumps.further.now) c.in-Some.is)
      c.requires.1),
)

pub returns-then-not-is_led : goal.returns-then-not-is_led
returns-then-not-is_led c = λ s l. first_not s c.args.self.now c.lead.new.self c.args.left.now c.in-Some.target c.args.jumps.further.now _
    c.in_ok-is_led.is_led
    (ap (λ t. option_to_list t ++ c.args.jumps.further.now) c.in-Some.is) c.in_ok-is_led.ensures c.if-not-is_led.true l

pub lead_all-requires-2 : goal.lead_all-requires-2
lead_all-requires-2 c = (
  c.requires.0,
  both_given c.requires.0 c.args.self.now c.lead.new.self c.args.left.now c.in-Some.target
      c.args.jumps.further.now _
      c.in_ok-is_led.is_led (ap (λ t. option_to_list t ++ c.args.jumps.further.now) c.in-Some.is) c.in_ok-is_led.ensures
      c.if-not-is_led.false
      c.requires.1,
)

pub returns : goal.returns
returns c = both_then c.args.self.now c.lead.new.self c.lead_all-2.new.self c.args.left.now c.in-Some.target c.args.jumps.further.now _
    c.in_ok-is_led.is_led
    c.lead_all-2.result (ap (λ t. option_to_list t ++ c.args.jumps.further.now) c.in-Some.is) c.in_ok-is_led.ensures c.if-not-is_led.false
    c.lead_all-2.ensures

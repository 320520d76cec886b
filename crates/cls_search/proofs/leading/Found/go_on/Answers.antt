use Rattle.cls_search.proofs.Striding.{on_all, on_fails, on_leads, on_ends, on_goes, on_next, next_fails, next_joins}
use Rattle.cls_search.proofs.leading.Found.go_on.Goals as goal

pub lead_on-requires : goal.lead_on-requires
lead_on-requires c =
    let s = c.requires.leaves.0 in
    let a = c.requires.leaves.1.0 in
    (s, on_all s c.args.self.now c.args.body c.args.place a c.args.jumps c.args.left c.requires.leaves.1.1)

pub returns-then-not-are_led : goal.returns-then-not-are_led
returns-then-not-are_led c = λ s a l. on_fails s c.args.self.now c.args.body c.args.place a c.args.jumps c.args.left l c.lead_on.new.self
    c.in_ok-are_led.are_led
    (c.in_ok-are_led.ensures s (on_all s c.args.self.now c.args.body c.args.place a c.args.jumps c.args.left l)) c.if-not-are_led.true

pub returns-then-not-jumps : goal.returns-then-not-jumps
returns-then-not-jumps c = λ s a l.
    on_ends s c.args.self.now c.args.body c.args.place a c.args.jumps c.args.left l c.lead_on.new.self
    (on_leads s c.args.self.now c.args.body c.args.place a c.args.jumps c.args.left l c.lead_on.new.self c.in_ok-are_led.are_led
    (c.in_ok-are_led.ensures s (on_all s c.args.self.now c.args.body c.args.place a c.args.jumps c.args.left l)) c.if-not-are_led.false)
    c.if-not-jumps.true

pub returns-then-not-is_join : goal.returns-then-not-is_join
returns-then-not-is_join c = λ s a l.
    on_goes s c.args.self.now c.args.body c.args.place a c.args.jumps c.args.left l c.lead_on.new.self c.is_join.result
    (on_leads s c.args.self.now c.args.body c.args.place a c.args.jumps c.args.left l c.lead_on.new.self c.in_ok-are_led.are_led
    (c.in_ok-are_led.ensures s (on_all s c.args.self.now c.args.body c.args.place a c.args.jumps c.args.left l)) c.if-not-are_led.false)
    c.if-not-jumps.false c.is_join.ensures c.if-not-is_join.true

pub lead-requires : goal.lead-requires
lead-requires c =
    let s = c.requires.leaves.0 in
    let a = c.requires.leaves.1.0 in
    let l = c.requires.leaves.1.1 in (
      s,
      on_next s c.args.self.now c.args.body c.args.place a c.args.jumps c.args.left l c.lead_on.new.self
          (on_leads s c.args.self.now c.args.body c.args.place a c.args.jumps c.args.left l c.lead_on.new.self c.in_ok-are_led.are_led
          (c.in_ok-are_led.ensures s (on_all s c.args.self.now c.args.body c.args.place a c.args.jumps c.args.left l))
          c.if-not-are_led.false)
          c.if-not-jumps.false,
    )

pub returns-then-not-is_led : goal.returns-then-not-is_led
returns-then-not-is_led c = λ s a l.
    let all = on_leads s c.args.self.now c.args.body c.args.place a c.args.jumps c.args.left l c.lead_on.new.self c.in_ok-are_led.are_led
    (c.in_ok-are_led.ensures s (on_all s c.args.self.now c.args.body c.args.place a c.args.jumps c.args.left l)) c.if-not-are_led.false in
    next_fails s c.args.self.now c.args.body c.args.place a c.args.jumps c.args.left l c.lead_on.new.self c.lead.new.self
    c.in_ok-is_led.is_led
    (c.in_ok-is_led.ensures s (on_next s c.args.self.now c.args.body c.args.place a c.args.jumps c.args.left l c.lead_on.new.self all
    c.if-not-jumps.false))
    c.if-not-is_led.true

pub returns : goal.returns
returns c = λ s a l.
    let all = on_leads s c.args.self.now c.args.body c.args.place a c.args.jumps c.args.left l c.lead_on.new.self c.in_ok-are_led.are_led
    (c.in_ok-are_led.ensures s (on_all s c.args.self.now c.args.body c.args.place a c.args.jumps c.args.left l)) c.if-not-are_led.false in
    next_joins s c.args.self.now c.args.body c.args.place a c.args.jumps c.args.left l c.lead_on.new.self c.lead.new.self c.is_join.result
    c.in_ok-is_led.is_led all c.is_join.ensures c.if-not-is_join.false
    (c.in_ok-is_led.ensures s (on_next s c.args.self.now c.args.body c.args.place a c.args.jumps c.args.left l c.lead_on.new.self all
    c.if-not-jumps.false))
    c.if-not-is_led.false

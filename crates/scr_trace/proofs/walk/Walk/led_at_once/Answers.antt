use Rattle.std.proofs.Common.{sym, ap, refl, ◌∙◌}
use Rattle.mg_text.specs.Call.{Name}
use Rattle.scr_trace.specs.Walking.{call_said}
use Rattle.scr_trace.specs.inner.Search.{is_called}
use Rattle.scr_trace.specs.inner.View.{work_of}
use Rattle.scr_trace.proofs.Walks.{at_among}
use Rattle.scr_trace.proofs.walk.Walk.led_at_once.Goals as goal

pub returns-then-branch : goal.returns-then-branch
returns-then-branch c = record {
  arrow = c.in-Some-get.arrow.now;
  among = at_among c.args.exits.now.arrows.items c.as_slice-arrows.result.now c.in-Some-noted.place c.in-Some-get.arrow.now _
      c.in-Some-get.ensures.lookup.0 c.in-Some-get.ensures.lookup.1 c.as_slice-arrows.ensures.items;
  called = ap (λ (me : Name). is_called me (work_of c.args.self.now.laid) c.args.exits.now.number (call_said c.args.call.now).method
      (call_said c.args.call.now).answer c.in-Some-get.arrow.now) (sym (c.as_str-me.ensures ∙ c.me.ensures))
      ∙ sym c.in_ok-has_call.ensures ∙ c.if-branch.true;
  leads = refl;
}

use Rattle.std.proofs.Common.{◌∙◌, ap, sym}
use Rattle.mg_text.specs.Call.{Name}
use Rattle.scr_trace.specs.inner.View.{work_of}
use Rattle.scr_tree.specs.Local.{tree_of}
use Rattle.scr_trace.specs.inner.Search.{led_if, HasArrow}
use Rattle.scr_trace.specs.Walking.{call_said}
use Rattle.scr_trace.proofs.Walks.{goes_at_once, goes_some, goes_none, some_has}
use Rattle.scr_trace.proofs.walk.Walk.led.Goals as goal

pub returns-in-Some-2 : goal.returns-in-Some-2
returns-in-Some-2 c =
    goes_at_once c.args.self.now c.in-State.number c.in-Some.exits.now (call_said c.args.call.now) c.in-Some-2.hop c.standing.result
    c.in-State.is c.in-Some.ensures
    (some_has (HasArrow (tree_of c.args.self.now.local.now).me (work_of c.args.self.now.laid) c.in-Some.exits.now.number
    c.in-Some.exits.now.arrows.items (call_said c.args.call.now)) c.in_ok-hop.field-0 c.in-Some-2.hop c.in-Some-2.is c.in_ok-hop.ensures)
    c.standing.ensures

pub returns-in-Some-3 : goal.returns-in-Some-3
returns-in-Some-3 c =
    goes_some c.args.self.now c.in-State.number c.in-Some.exits.now (call_said c.args.call.now) c.in-Some-3.hop
    c.standing-in-Some-3.result c.in-State.is c.in-Some.ensures
    (ap (λ (me : Name). led_if me (work_of c.args.self.now.laid) c.in-Some.exits.now.number c.in-Some.exits.now.arrows.items
    (call_said c.args.call.now).method (call_said c.args.call.now).answer) (sym (c.as_str-me.ensures ∙ c.me.ensures))
    ∙ sym c.in_ok-hop-2.ensures ∙ c.in-Some-3.is)
    c.standing-in-Some-3.ensures

pub returns-in-None : goal.returns-in-None
returns-in-None c =
    goes_none c.args.self.now c.in-State.number c.in-Some.exits.now (call_said c.args.call.now) c.in-State.is c.in-Some.ensures
    (ap (λ (me : Name). led_if me (work_of c.args.self.now.laid) c.in-Some.exits.now.number c.in-Some.exits.now.arrows.items
    (call_said c.args.call.now).method (call_said c.args.call.now).answer) (sym (c.as_str-me.ensures ∙ c.me.ensures))
    ∙ sym c.in_ok-hop-2.ensures ∙ c.in-None.is)

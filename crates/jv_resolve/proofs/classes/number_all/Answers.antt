use Rattle.std.proofs.Common.{sym, ap, ◌∙◌}
use Rattle.jv_resolve_law.specs.Tables.{interned}
use Rattle.jv_resolve_law.specs.Members.{all_interned}
use Rattle.jv_resolve.specs.inner.Naming.{numbered}
use Rattle.jv_resolve.proofs.Threads.{loop_start, loop_more, loop_done}
use Rattle.jv_resolve.proofs.MemberSteps.{same_interned, number_made}
use Rattle.jv_resolve.proofs.classes.number_all.Goals as goal

pub loop-text-init : goal.loop-text-init
loop-text-init c =
    loop_start numbered (λ x. x) (λ n. n.0) (all_interned c.args.names.now c.args.texts.now) c.args.names.now c.args.texts.now
    c.new-numbers.result.items (same_interned c.args.names.now c.args.texts.now) c.new-numbers.ensures

pub loop-text-preserved : goal.loop-text-preserved
loop-text-preserved c =
    loop_more numbered (λ x. x) (λ n. n.0) (all_interned c.args.names.now c.args.texts.now) c.loop-text.numbers.items c.loop-text.names
    c.args.texts.now c.loop-text.text-index c.loop-text.invariant c.text-item.result c.loop-text-test.true c.text-item.is
    c.in_ok-number.number c.push.new.self.items c.add_name.new.names
    (number_made c.loop-text.names c.add_name.new.names c.text-item.result c.in_ok-number.number.0
    (ap (interned c.loop-text.names) (sym c.as_str.ensures) ∙ c.in_ok-number.ensures.number)) c.in_ok-push.ensures.ok

pub returns : goal.returns
returns c = loop_done numbered (λ x. x) (λ n. n.0) (all_interned c.args.names.now c.args.texts.now) c.loop-text.numbers.items
    c.loop-text.names c.args.texts.now c.loop-text.text-index c.loop-text.invariant c.loop-text-test.false

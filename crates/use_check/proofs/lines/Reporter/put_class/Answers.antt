use Rattle.std.proofs.Common.{◌≡◌, ◌<◌, ◌≤◌, ◌++◌, true, false, length, rules, sym, ap, ◌∙◌, arith, string_bytes}
use Rattle.std.specs.List.{flat_map}
use Rattle.jv_core.specs.View.{class_of}
use Rattle.use_check.specs.Report.{state_lines}
use Rattle.use_check.specs.inner.Reported.{seen}
use Rattle.use_check.proofs.Listed.{member_skip, member_take, member_end}
use Rattle.use_check.proofs.lines.Reporter.put_class.Goals as goal

pub loop-state-preserved-then-not-has : goal.loop-state-preserved-then-not-has
loop-state-preserved-then-not-has c =
    let lt : c.loop-state.state < length c.in-Some.states.now = omega (arith, c.width-state-end.ensures) in
    let absent : c.has.result ≡ false = search rules in
    member_skip (state_lines (seen c.args.self.now) c.args.number (class_of c.args.class.now)) c.loop-state.state c.in-Some.states.now
    (string_bytes c.loop-state.out) _
    lt (sym c.has.ensures ∙ absent) c.loop-state.invariant

pub loop-state-preserved : goal.loop-state-preserved
loop-state-preserved c =
    let lt : c.loop-state.state < length c.in-Some.states.now = omega (arith, c.width-state-end.ensures) in
    let there : c.has.result ≡ true = search rules in
    member_take (state_lines (seen c.args.self.now) c.args.number (class_of c.args.class.now)) c.loop-state.state c.in-Some.states.now
    (string_bytes c.loop-state.out) _ _
    lt (sym c.has.ensures ∙ there) c.in_ok-put_in_state.ensures c.loop-state.invariant

pub returns : goal.returns
returns c =
    let end : length c.in-Some.states.now ≤ c.loop-state.state = omega (arith, c.width-state-end.ensures) in
    member_end (state_lines (seen c.args.self.now) c.args.number (class_of c.args.class.now)) c.loop-state.state c.in-Some.states.now
    (string_bytes c.loop-state.out) _
    end c.loop-state.invariant
    ∙ ap (λ xs. string_bytes c.args.out.now ++ flat_map (state_lines (seen c.args.self.now) c.args.number (class_of c.args.class.now)) xs)
    c.in-Some.ensures

use Rattle.std.proofs.Common.{◌≡◌, ◌<◌, ◌≤◌, true, false, length, rules, sym, ◌∙◌, arith, string_bytes}
use Rattle.std.specs.Prelude.{option_map}
use Rattle.use_elements.specs.Mappings.{typestate_or_end}
use Rattle.use_check.specs.Report.{member_text}
use Rattle.use_check.proofs.Listed.{member_skip, member_take, member_end}
use Rattle.use_check.proofs.lines.put_members.Goals as goal

pub loop-element-preserved-then-not-has : goal.loop-element-preserved-then-not-has
loop-element-preserved-then-not-has c =
    let lt : c.loop-element.element < length c.args.set.now = omega (arith, c.width-element-end.ensures) in
    let absent : c.has.result ≡ false = search rules in
    member_skip (member_text (typestate_or_end (option_map (λ t. t.now) c.args.typestate))) c.loop-element.element c.args.set.now
    (string_bytes c.loop-element.out) _
    lt (sym c.has.ensures ∙ absent) c.loop-element.invariant

pub loop-element-preserved : goal.loop-element-preserved
loop-element-preserved c =
    let lt : c.loop-element.element < length c.args.set.now = omega (arith, c.width-element-end.ensures) in
    let there : c.has.result ≡ true = search rules in
    member_take (member_text (typestate_or_end (option_map (λ t. t.now) c.args.typestate))) c.loop-element.element c.args.set.now
    (string_bytes c.loop-element.out) _ _
    lt (sym c.has.ensures ∙ there) c.in_ok-put_member.ensures c.loop-element.invariant

pub returns : goal.returns
returns c =
    let end : length c.args.set.now ≤ c.loop-element.element = omega (arith, c.width-element-end.ensures) in
    member_end (member_text (typestate_or_end (option_map (λ t. t.now) c.args.typestate))) c.loop-element.element c.args.set.now
    (string_bytes c.loop-element.out) _
    end c.loop-element.invariant

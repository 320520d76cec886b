-- By `grind` at once, which is shorter than a search.
use Rattle.std.proofs.Common.{arith}
use Rattle.jv_grammar.specs.Files.{member_at, member_with}
use Rattle.jv_parse.proofs.MemberTurns.{field_is, method_is}
use Rattle.jv_parse.proofs.members.member_of.Goals as goal

pub returns : goal.returns
unfolding member_at member_with
returns c = grind (arith, method_is, field_is)

pub returns-in_err-behind : goal.returns-in_err-behind
unfolding member_at member_with
returns-in_err-behind c = grind (arith, method_is, field_is)

pub returns-in_err-value : goal.returns-in_err-value
unfolding member_at member_with
returns-in_err-value c = grind (arith, method_is, field_is)

pub returns-then-is_sign : goal.returns-then-is_sign
unfolding member_at member_with
returns-then-is_sign c = grind (arith, method_is, field_is)

pub returns-then-is_static : goal.returns-then-is_static
unfolding member_at member_with
returns-then-is_static c = grind (arith, method_is, field_is)

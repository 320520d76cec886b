use Rattle.std.proofs.Common.{sym, ap, ◌∙◌}
use Rattle.std.specs.Prelude.{map, not}
use Rattle.std.proofs.lemmas.Result.{err_from_is_err_and}
use Rattle.mg_read.specs.Reader.{all_of}
use Rattle.jv_tree.specs.View.{field_of, method_of}
use Rattle.jv_grammar.specs.Files.{not_closed, member_at}
use Rattle.jv_parse.specs.inner.Members.{member_of}
use Rattle.jv_parse.proofs.MemberTurns.{sorting_start, sorting_more, sorting_fails, sorting_done, member_at_shorter}
use Rattle.jv_parse.proofs.members.sorted_of.Goals as goal

pub turns-init : goal.turns-init
turns-init c = rw (c.new.ensures, c.new-2.ensures) (sorting_start c.args.tokens.now)

pub returns-in_err-member : goal.returns-in_err-member
returns-in_err-member c =
    let p = err_from_is_err_and c.from_residual.result c.from_residual.ensures.1 in
    rw (p.1, p.2)
    (sorting_fails c.in_err-member.field-0.0 (map field_of c.turns.members.fields.items) (map method_of c.turns.members.methods.items)
    c.turns.rest.now
    (all_of not_closed member_at c.args.tokens.now) (ap not (sym c.is_sign.ensures ∙ c.turns-test.true)) c.in_err-member.ensures
    c.turns.invariant)

pub turns-smaller : goal.turns-smaller
turns-smaller c = member_at_shorter c.turns.rest.now (member_of c.in_ok-member.member) c.in_ok-member.after.now c.in_ok-member.ensures

pub turns-preserved : goal.turns-preserved
turns-preserved c =
    sorting_more (map field_of c.turns.members.fields.items) (map field_of c.add_member.new.members.fields.items)
    (map method_of c.turns.members.methods.items)
    (map method_of c.add_member.new.members.methods.items) c.turns.rest.now c.in_ok-member.after.now (member_of c.in_ok-member.member)
    (all_of not_closed member_at c.args.tokens.now)
    (ap not (sym c.is_sign.ensures ∙ c.turns-test.true)) c.in_ok-member.ensures c.in_ok-add_member.ensures.fields
    c.in_ok-add_member.ensures.methods
    c.turns.invariant

pub returns : goal.returns
returns c =
    sorting_done (map field_of c.turns.members.fields.items) (map method_of c.turns.members.methods.items) c.turns.rest.now
    (all_of not_closed member_at c.args.tokens.now)
    (ap not (sym c.is_sign.ensures ∙ c.turns-test.false)) c.turns.invariant

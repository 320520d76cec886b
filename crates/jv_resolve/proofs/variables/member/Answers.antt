use Rattle.std.proofs.Common.{sym, ap, ◌∙◌}
use Rattle.jv_tree.specs.View.{expr_of}
use Rattle.jv_resolve.specs.inner.HeadsSeen.{head_seen}
use Rattle.jv_resolve.specs.inner.Seen.{tables_seen, standing_seen, resolved_seen}
use Rattle.jv_resolve.proofs.Chains.{gives_as}
use Rattle.jv_resolve.proofs.ByHead.{member-this, member-name, member-other}
use Rattle.jv_resolve.proofs.variables.member.Goals as goal

pub returns-in-This : goal.returns-in-This
returns-in-This c = gives_as resolved_seen c.own_member.result _ _ (member-this (tables_seen c.args.scope.now.table.now)
    (standing_seen c.args.scope.now) c.args.locals.now c.args.place c.args.name.now (expr_of c.args.of.now)
    (sym c.head_of.ensures ∙ ap head_seen c.in-This.is)) c.own_member.ensures

pub returns-in-Name : goal.returns-in-Name
returns-in-Name c =
    gives_as resolved_seen c.named_member.result _ _ (member-name (tables_seen c.args.scope.now.table.now) (standing_seen c.args.scope.now)
    c.args.locals.now c.args.place c.args.name.now (expr_of c.args.of.now) c.in-Name.first.now
    (sym c.head_of.ensures ∙ ap head_seen c.in-Name.is))
    c.named_member.ensures

pub returns-in-Other : goal.returns-in-Other
returns-in-Other c = member-other (tables_seen c.args.scope.now.table.now) (standing_seen c.args.scope.now) c.args.locals.now c.args.place
    c.args.name.now (expr_of c.args.of.now) (sym c.head_of.ensures ∙ ap head_seen c.in-Other.is)

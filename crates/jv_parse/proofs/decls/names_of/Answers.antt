use Rattle.std.proofs.Common.{◌≡◌, ◌∷◌, [], refl, sym}
use Rattle.std.proofs.lemmas.Result.{err_from_is_err_and}
use Rattle.mg_read.proofs.Loop.{Left-more, Left-done}
use Rattle.jv_grammar.specs.Files.{is_more_names, next_name_at, names_at}
use Rattle.jv_grammar.proofs.Decls.{next_name_shorter}
use Rattle.jv_parse.proofs.FileTurns.{names_start, names_fail}
use Rattle.jv_parse.proofs.decls.names_of.Goals as goal

pub returns-in_err-first : goal.returns-in_err-first
returns-in_err-first c =
    let p = err_from_is_err_and c.from_residual.result c.from_residual.ensures.1 in
    rw (p.1, p.2) (names_fail c.in_err-first.field-0.0 c.args.tokens.now c.in_err-first.ensures)

pub more-init : goal.more-init
more-init c =
    let e : c.push.new.self.items ≡ c.in_ok-first.first ∷ [] = rw (c.in_ok-push.ensures.ok, c.new-names.ensures) refl in
    rw e (names_start c.args.tokens.now c.in_ok-first.field-0-0 c.in_ok-first.first c.in_ok-first.rest.now c.in_ok-first.ensures)

pub more-smaller : goal.more-smaller
more-smaller c = next_name_shorter c.more.rest.now (c.in-Some.name.now, c.in-Some.after.now) c.in-Some.ensures.it

pub more-preserved : goal.more-preserved
more-preserved c =
    let shorter = next_name_shorter c.more.rest.now (c.in-Some.name.now, c.in-Some.after.now) c.in-Some.ensures.it in
    rw (c.in_ok-push-2.ensures.ok, c.in_ok-copied.ensures)
    (Left-more is_more_names next_name_at c.more.names.items c.more.rest.now c.in-Some.name.now c.in-Some.after.now
    (names_at c.args.tokens.now) (sym c.in-Some.ensures.comes) c.in-Some.ensures.it shorter c.more.invariant)

pub returns : goal.returns
returns c =
    Left-done is_more_names next_name_at c.more.names.items c.more.rest.now (names_at c.args.tokens.now)
    (sym c.in_default.ensures.comes) c.more.invariant

use Rattle.std.proofs.Common.{◌≡◌, ◌++◌, ◌∷◌, [], sym, ◌∙◌}
use Rattle.std.specs.Prelude.{map}
use Rattle.std.proofs.lemmas.Result.{err_from_is_err_and}
use Rattle.std.proofs.lemmas.List.{map_push}
use Rattle.mg_read.proofs.Loop.{Left-more, Left-done}
use Rattle.jv_tree.specs.View.{decl_of}
use Rattle.jv_grammar.specs.Files.{is_some_token, decl_at}
use Rattle.jv_grammar.proofs.Decls.{decl_shorter}
use Rattle.jv_parse.specs.inner.Rests.{decls_at}
use Rattle.jv_parse.proofs.ExprTurns.{Left-fails}
use Rattle.jv_parse.proofs.FileTurns.{decls_start, tokens_left, none_left}
use Rattle.jv_parse.proofs.files.decls_of.Goals as goal

pub turns-init : goal.turns-init
turns-init c = rw c.new-decls.ensures (decls_start c.args.tokens.now)

pub returns-in_err-decl : goal.returns-in_err-decl
returns-in_err-decl c =
    let p = err_from_is_err_and c.from_residual.result c.from_residual.ensures.1 in
    rw (p.1, p.2)
    (Left-fails is_some_token decl_at c.in_err-decl.field-0.0 (map decl_of c.turns.decls.items) c.turns.rest.now
    (decls_at c.args.tokens.now)
    (tokens_left c.turns.rest.now (sym c.is_empty.ensures ∙ c.turns-test.true)) c.in_err-decl.ensures c.turns.invariant)

pub turns-smaller : goal.turns-smaller
turns-smaller c = decl_shorter c.turns.rest.now (decl_of c.in_ok-decl.decl, c.in_ok-decl.after.now) c.in_ok-decl.ensures

pub turns-preserved : goal.turns-preserved
turns-preserved c =
    let one = c.in_ok-decl.decl in
    let shorter = decl_shorter c.turns.rest.now (decl_of one, c.in_ok-decl.after.now) c.in_ok-decl.ensures in
    let e : map decl_of c.push.new.self.items ≡ map decl_of c.turns.decls.items ++ decl_of one ∷ [] =
    rw c.in_ok-push.ensures.ok (map_push _ c.turns.decls.items one) in
    rw e
    (Left-more is_some_token decl_at (map decl_of c.turns.decls.items) c.turns.rest.now (decl_of one) c.in_ok-decl.after.now
    (decls_at c.args.tokens.now)
    (tokens_left c.turns.rest.now (sym c.is_empty.ensures ∙ c.turns-test.true)) c.in_ok-decl.ensures shorter c.turns.invariant)

pub returns : goal.returns
returns c =
    Left-done is_some_token decl_at (map decl_of c.turns.decls.items) c.turns.rest.now (decls_at c.args.tokens.now)
    (none_left c.turns.rest.now (sym c.is_empty.ensures ∙ c.turns-test.false)) c.turns.invariant

use Rattle.std.proofs.Common.{sym, ◌∙◌, arith}
use Rattle.std.proofs.lemmas.Result.{err_from_is_err_and}
use Rattle.scr_tree.specs.Tok.{toks}
use Rattle.mg_read.proofs.Loop.{Left-init, Left-more, Left-done}
use Rattle.mg_read.specs.Reader.{all_of}
use Rattle.scr_tree.specs.declared.token.Mark.TheVariants as marks
use Rattle.scr_parse.specs.inner.Reading.{is_at, type_at}
use Rattle.scr_parse.proofs.Names.{type_shorter}
use Rattle.scr_parse.proofs.Steps.{length_toks}
use Rattle.scr_parse.proofs.Turns.{Left-refused}
use Rattle.scr_parse.proofs.types.types_of.Goals as goal

pub types-init : goal.types-init
types-init c = rw c.new-declared.ensures (Left-init (is_at marks.Type) type_at (toks c.args.tokens.now))

pub returns-in_err-declaration : goal.returns-in_err-declaration
returns-in_err-declaration c =
    let p = err_from_is_err_and c.from_residual.result c.from_residual.ensures.1 in
    let goes = sym c.is_mark.ensures ∙ c.types-test.true in
    rw (p.1, p.2) (Left-refused (is_at marks.Type) (type_at) c.in_err-declaration.field-0.0 c.types.declared.items (toks c.types.rest.now)
    (all_of (is_at marks.Type) type_at (toks c.args.tokens.now)) goes c.in_err-declaration.ensures c.types.invariant)

pub types-smaller : goal.types-smaller
types-smaller c =
    let h = type_shorter (toks c.types.rest.now) c.in_ok-declaration.declaration
    (toks c.in_ok-declaration.after.now) c.in_ok-declaration.ensures in
    omega (arith, h, length_toks c.types.rest.now, length_toks c.in_ok-declaration.after.now)

pub types-preserved : goal.types-preserved
types-preserved c =
    let s = c.in_ok-declaration.declaration in
    let goes = sym c.is_mark.ensures ∙ c.types-test.true in
    let less = type_shorter (toks c.types.rest.now) s (toks c.in_ok-declaration.after.now) c.in_ok-declaration.ensures in
    rw c.in_ok-push.ensures.ok (Left-more (is_at marks.Type) (type_at) c.types.declared.items (toks c.types.rest.now) s
    (toks c.in_ok-declaration.after.now) (all_of (is_at marks.Type) type_at (toks c.args.tokens.now))
    goes c.in_ok-declaration.ensures less c.types.invariant)

pub returns : goal.returns
returns c = Left-done (is_at marks.Type) (type_at) c.types.declared.items (toks c.types.rest.now)
    (all_of (is_at marks.Type) type_at (toks c.args.tokens.now)) (sym c.is_mark.ensures ∙ c.types-test.false) c.types.invariant

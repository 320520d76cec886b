use Rattle.std.proofs.Common.{◌≡◌, ◌++◌, ◌∷◌, [], sym, ◌∙◌, arith}
use Rattle.std.proofs.lemmas.Result.{err_from_is_err_and}
use Rattle.std.proofs.lemmas.List.{map_push}
use Rattle.scr_tree.specs.Tok.{toks}
use Rattle.scr_tree.specs.Written.{part_written}
use Rattle.mg_read.proofs.Loop.{Left-init, Left-more, Left-done}
use Rattle.mg_read.specs.Reader.{all_of}
use Rattle.scr_parse.specs.inner.View.{all_parts}
use Rattle.scr_parse.specs.inner.Reading.{is_more, part_at}
use Rattle.scr_parse.proofs.Whole.{part_shorter, more_goes, more_stops}
use Rattle.scr_parse.proofs.Steps.{length_toks}
use Rattle.scr_parse.proofs.Turns.{Left-refused}
use Rattle.scr_parse.proofs.part.parts_of.Goals as goal

pub parts-init : goal.parts-init
parts-init c = rw c.new-parts.ensures (Left-init is_more (part_at c.args.types.now.declared.items) (toks c.args.tokens.now))

pub returns-in_err-part : goal.returns-in_err-part
returns-in_err-part c =
    let p = err_from_is_err_and c.from_residual.result c.from_residual.ensures.1 in
    let f = part_at c.args.types.now.declared.items in
    let goes = more_goes c.is_empty.result c.parts.rest.now c.is_empty.ensures c.parts-test.true in
    rw (p.1, p.2) (Left-refused is_more f c.in_err-part.field-0.0 (all_parts c.parts.parts.items) (toks c.parts.rest.now)
    (all_of is_more f (toks c.args.tokens.now)) goes c.in_err-part.ensures c.parts.invariant)

pub parts-smaller : goal.parts-smaller
parts-smaller c =
    let h = part_shorter c.args.types.now.declared.items (toks c.parts.rest.now) (part_written c.in_ok-part.part)
    (toks c.in_ok-part.after.now) c.in_ok-part.ensures in
    omega (arith, h, length_toks c.parts.rest.now, length_toks c.in_ok-part.after.now)

pub parts-preserved : goal.parts-preserved
parts-preserved c =
    let p = c.in_ok-part.part in
    let f = part_at c.args.types.now.declared.items in
    let goes = more_goes c.is_empty.result c.parts.rest.now c.is_empty.ensures c.parts-test.true in
    let e : all_parts c.push.new.self.items ≡ all_parts c.parts.parts.items ++ part_written p ∷ [] = rw c.in_ok-push.ensures.ok
    (map_push _ c.parts.parts.items p) in
    let less = part_shorter c.args.types.now.declared.items (toks c.parts.rest.now) (part_written p) (toks c.in_ok-part.after.now)
    c.in_ok-part.ensures in
    rw e (Left-more is_more f (all_parts c.parts.parts.items) (toks c.parts.rest.now) (part_written p) (toks c.in_ok-part.after.now)
    (all_of is_more f (toks c.args.tokens.now)) goes c.in_ok-part.ensures less c.parts.invariant)

pub returns : goal.returns
returns c =
    let stops = more_stops c.is_empty.result c.parts.rest.now c.is_empty.ensures c.parts-test.false in
    Left-done is_more (part_at c.args.types.now.declared.items) (all_parts c.parts.parts.items) (toks c.parts.rest.now)
    (all_of is_more (part_at c.args.types.now.declared.items) (toks c.args.tokens.now)) stops c.parts.invariant

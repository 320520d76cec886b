use Rattle.std.proofs.Common.{sym, ◌∙◌, ap, Some}
use Rattle.std.specs.Prelude.{string_bytes}
use Rattle.std.proofs.lemmas.Result.{err_from_is_err_and}
use Rattle.cls_layout.proofs.Modified.{heard_first, heard_more, heard_last, heard_fails, char_shorter}
use Rattle.cls_layout.proofs.letters.spelled_text.Goals as goal

pub letters-init : goal.letters-init
letters-init c = heard_first c.args.bytes.now (string_bytes c.new-text.result) c.new-text.ensures.bytes

pub letters-smaller : goal.letters-smaller
letters-smaller c = char_shorter c.letters.rest.now c.in_ok-character.after.now c.in_ok-character.character c.in_ok-character.ensures

pub letters-preserved : goal.letters-preserved
letters-preserved c =
    heard_more c.args.bytes.now (string_bytes c.letters.text) (string_bytes c.push.new.self) c.letters.rest.now c.in_ok-character.after.now
    c.in_ok-character.character
    (sym c.is_empty.ensures ∙ c.letters-test.true) c.in_ok-character.ensures c.in_ok-push.ensures.bytes c.letters.invariant

pub returns : goal.returns
returns c = heard_last c.args.bytes.now (string_bytes c.letters.text) c.letters.rest.now (sym c.is_empty.ensures ∙ c.letters-test.false)
    c.letters.invariant ∙ ap Some (sym c.from_string.ensures)

pub returns-in_err-character : goal.returns-in_err-character
returns-in_err-character c =
    let p = err_from_is_err_and c.from_residual.result c.from_residual.ensures.1 in
    rw (p.1, p.2) (heard_fails c.args.bytes.now c.in_err-character.field-0.0 (string_bytes c.letters.text) c.letters.rest.now
    (sym c.is_empty.ensures ∙ c.letters-test.true) c.in_err-character.ensures c.letters.invariant)

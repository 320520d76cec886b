use Rattle.jv_lex.proofs.Told.{ok_where, digits_utf8, too_great}
use Rattle.jv_lex.proofs.front.value_of.Goals as goal

pub unwrap-text-requires : goal.unwrap-text-requires
unwrap-text-requires c = ok_where c.from_utf8.result _ _ c.from_utf8.ensures.cases
    (λ e q. q.0 (digits_utf8 c.args.digits.now c.requires.passes))

pub returns-in-Err : goal.returns-in-Err
returns-in-Err c =
    let text = rw c.unwrap-text.ensures at c.from_utf8.ensures.cases in
    let parsed = rw text.0 at c.parse.ensures.value.0 in
    too_great c.args.digits.now c.parse.result c.in-Err.field-0 c.in-Err.is parsed c.requires.passes c.requires.some

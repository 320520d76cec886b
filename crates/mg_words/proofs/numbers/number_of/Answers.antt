use Rattle.std.proofs.Common.{refl}
use Rattle.mg_words.proofs.WordsLemmas.{refuted}
use Rattle.mg_words.proofs.NumberLemmas.{zero_number, not_started, not_read, read_whole}
use Rattle.mg_words.proofs.numbers.number_of.Goals as goal

pub returns-then-is_word : goal.returns-then-is_word
returns-then-is_word c = zero_number c.args.word.now (c.if-is_word.ensures.0 refl)

pub returns-then-not-starts_number : goal.returns-then-not-starts_number
returns-then-not-starts_number c =
    not_started _ _ c.args.word.now c.as_bytes.ensures.value c.as_str-text.ensures (refuted c.if-is_word.ensures.1)
    (refuted c.if-not-starts_number.ensures.1)

pub returns-in-Err : goal.returns-in-Err
returns-in-Err c = not_read _ c.args.word.now _ _ c.as_str-text.ensures c.parse.ensures.value.0 c.in-Err.is

pub returns-in-Ok : goal.returns-in-Ok
returns-in-Ok c =
    read_whole _ _ c.args.word.now _ c.in-Ok.number c.as_bytes.ensures.value c.as_str-text.ensures (c.if-not-starts_number.ensures.0 refl)
    c.parse.ensures.value.0 c.in-Ok.is

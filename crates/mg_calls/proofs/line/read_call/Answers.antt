use Rattle.std.proofs.Common.{◌<◌, length, subst, sym, refl, ◌∙◌}
use Rattle.mg_calls.specs.Calls.{IsWord}
use Rattle.mg_calls.proofs.LineLemmas.{front_passes, whole_method, shape, no_label, with_label, tail_is, within_is, refuted}
use Rattle.mg_calls.proofs.line.read_call.Goals as goal

pub word-method-requires : goal.word-method-requires
word-method-requires c = front_passes c.args.line.now c.word_end-end.result c.word_end-end.ensures.value c.requires

pub returns-then-end-line : goal.returns-then-end-line
returns-then-end-line c = whole_method c.args.line.now c.word_end-end.result c.word_end-end.ensures.value c.requires
    c.word-method.result.now c.if-end-line.true c.word-method.ensures

pub returns-then-line-end-ne32 : goal.returns-then-line-end-ne32
returns-then-line-end-ne32 c = λ what says. c.if-line-end-ne32.true
    (shape c.args.line.now c.word_end-end.result c.word_end-end.ensures.value c.requires what says c.if-end-line.false).0

pub returns-then-not-is_word : goal.returns-then-not-is_word
returns-then-not-is_word c =
    no_label c.args.line.now c.word_end-end.result c.word_end-end.ensures.value c.requires c.if-end-line.false _
    (tail_is c.args.line.now c.word_end-end.result) (refuted c.if-not-is_word.ensures.1)

pub returns : goal.returns
returns c =
    let within : c.word_end-end.result < length c.args.line.now = within_is c.word_end-end.result (length c.args.line.now)
    c.word_end-end.ensures.bound c.if-end-line.false in
    with_label c.args.line.now c.word_end-end.result c.word_end-end.ensures.value c.requires c.word-method.result.now c.word.result.now
    within c.if-line-end-ne32.false c.word-method.ensures (c.word.ensures ∙ tail_is c.args.line.now c.word_end-end.result)
    (subst IsWord (sym c.word.ensures) (c.if-not-is_word.ensures.0 refl))

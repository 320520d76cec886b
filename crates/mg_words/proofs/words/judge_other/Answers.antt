use Rattle.mg_words.proofs.WordsLemmas.{wrong_command, refuted}
use Rattle.mg_words.proofs.words.judge_other.Goals as goal

pub returns-else-is_word-12 : goal.returns-else-is_word-12
returns-else-is_word-12 c =
    wrong_command c.args.command.now c.args.rest.now c.requires (refuted c.if-is_word.ensures.1) (refuted c.if-is_word-2.ensures.1)
    (refuted c.if-is_word-3.ensures.1) (refuted c.if-is_word-4.ensures.1) (refuted c.if-is_word-5.ensures.1)
    (refuted c.if-is_word-6.ensures.1) (refuted c.if-is_word-7.ensures.1) (refuted c.if-is_word-8.ensures.1)
    (refuted c.if-is_word-9.ensures.1) (refuted c.if-is_word-10.ensures.1) (refuted c.if-is_word-11.ensures.1)
    (refuted c.if-is_word-12.ensures.1)

use Rattle.std.proofs.Common.{None, Some, codes, sym, ◌∙◌, eqb-true, length}
use Rattle.mg_words.specs.Words.{all_words}
use Rattle.mg_words.proofs.WordsLemmas.{placed_at}
use Rattle.mg_words.proofs.CheckLemmas.{few_check, wrong_check}
use Rattle.mg_words.proofs.checks.judge_check.Goals as goal

pub returns-in-Some : goal.returns-in-Some
returns-in-Some c =
    let split = c.split_all-split.result in
    placed_at (codes "check") c.args.words.now (all_words split.all) split.files.now (Some c.in-Some.word.now) c.split_all-split.ensures.0
    (wrong_check split.all split.files.now c.in-Some.word.now c.split_all-split.ensures.1 c.in-Some.ensures)

pub returns-then-is_empty : goal.returns-then-is_empty
returns-then-is_empty c =
    let split = c.split_all-split.result in
    placed_at (codes "check") c.args.words.now (all_words split.all) split.files.now None c.split_all-split.ensures.0
    (few_check split.all split.files.now (eqb-true (length split.files.now) 0 (sym c.is_empty.ensures ∙ c.if-is_empty.true)))

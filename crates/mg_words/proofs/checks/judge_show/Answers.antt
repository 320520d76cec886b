use Rattle.std.proofs.Common.{sym, ◌∙◌, eqb-true, length}
use Rattle.mg_words.proofs.CheckLemmas.{few_show, wrong_show}
use Rattle.mg_words.proofs.checks.judge_show.Goals as goal

pub returns-in-Some : goal.returns-in-Some
returns-in-Some c = wrong_show c.args.files.now c.in-Some.word.now c.in-Some.ensures

pub returns-then-is_empty : goal.returns-then-is_empty
returns-then-is_empty c = few_show c.args.files.now (eqb-true (length c.args.files.now) 0 (sym c.is_empty.ensures ∙ c.if-is_empty.true))

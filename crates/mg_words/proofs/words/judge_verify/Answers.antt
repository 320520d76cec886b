use Rattle.std.proofs.Common.{sym, ◌∙◌, eqb-true, length}
use Rattle.mg_words.proofs.VerifyLemmas.{few_verify, wrong_class_file}
use Rattle.mg_words.proofs.words.judge_verify.Goals as goal

pub returns-in-Some : goal.returns-in-Some
returns-in-Some c = wrong_class_file c.args.files.now c.in-Some.word.now c.in-Some.ensures

pub returns-then-is_empty : goal.returns-then-is_empty
returns-then-is_empty c = few_verify c.args.files.now (eqb-true (length c.args.files.now) 0 (sym c.is_empty.ensures ∙ c.if-is_empty.true))

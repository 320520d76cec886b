use Rattle.std.proofs.Common.{arith}
use Rattle.std.proofs.lemmas.Grind.{common_steps}
use Rattle.std.proofs.Common.{refl}
use Rattle.mg_words.proofs.WordsLemmas.{few_conform, few_protocol, wrong_protocol, wrong_calls, wrong_third, refuted}
use Rattle.mg_words.proofs.words.judge_conform.Goals as goal

pub returns-in-None : goal.returns-in-None
returns-in-None c = few_conform _ c.in-None.ensures.cases

pub returns-then-not-is_file : goal.returns-then-not-is_file
returns-then-not-is_file c = wrong_protocol _ _ _ c.in-Some.ensures.cases.0 (refuted c.if-not-is_file.ensures.1)

pub returns-in-None-split_first : goal.returns-in-None-split_first
returns-in-None-split_first c = few_protocol _ _ _ c.in-Some.ensures.cases.0 (c.if-not-is_file.ensures.0 refl)
    c.in-None-split_first.ensures.cases

pub returns-then-not-is_file_name : goal.returns-then-not-is_file_name
returns-then-not-is_file_name c =
    wrong_calls _ _ _ _ _ c.in-Some.ensures.cases.0 c.in-Some-split_first.ensures.cases.0 (c.if-not-is_file.ensures.0 refl)
    (refuted c.if-not-is_file_name.ensures.1)

pub returns-in-Some-split_first-2 : goal.returns-in-Some-split_first-2
returns-in-Some-split_first-2 c =
    wrong_third _ _ _ _ _ _ _ c.in-Some.ensures.cases.0 c.in-Some-split_first.ensures.cases.0 c.in-Some-split_first-2.ensures.cases.0
    (c.if-not-is_file.ensures.0 refl) (c.if-not-is_file_name.ensures.0 refl)

pub returns-in-None-split_first-2 : goal.returns-in-None-split_first-2
returns-in-None-split_first-2 c = grind (arith, common_steps)

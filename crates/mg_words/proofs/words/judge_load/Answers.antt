use Rattle.std.proofs.Common.{arith}
use Rattle.std.proofs.lemmas.Grind.{common_steps}
use Rattle.mg_words.proofs.LoadLemmas.{few_load, few_branches, wrong_branches, wrong_seed, wrong_surplus}
use Rattle.mg_words.proofs.words.judge_load.Goals as goal

pub returns-in-None : goal.returns-in-None
returns-in-None c = few_load _ c.in-None.ensures.cases

pub returns-in_default : goal.returns-in_default
returns-in_default c = wrong_branches _ _ _ c.in-Some.ensures.cases.0 c.in_default.ensures

pub returns-in-None-split_first : goal.returns-in-None-split_first
returns-in-None-split_first c =
    few_branches _ _ _ c.in-Some-number_up_to.branches c.in-Some.ensures.cases.0 c.in-Some-number_up_to.ensures
    c.in-None-split_first.ensures.cases

pub returns-in_default-number_of : goal.returns-in_default-number_of
returns-in_default-number_of c =
    wrong_seed _ _ _ _ _ c.in-Some-number_up_to.branches c.in-Some.ensures.cases.0 c.in-Some-split_first.ensures.cases.0
    c.in-Some-number_up_to.ensures c.in_default-number_of.ensures

pub returns-in-Some-split_first-2 : goal.returns-in-Some-split_first-2
returns-in-Some-split_first-2 c =
    wrong_surplus _ _ _ _ _ _ _ c.in-Some-number_up_to.branches c.in-Some-number_of.seed c.in-Some.ensures.cases.0
    c.in-Some-split_first.ensures.cases.0 c.in-Some-split_first-2.ensures.cases.0 c.in-Some-number_up_to.ensures c.in-Some-number_of.ensures

pub returns-in-None-split_first-2 : goal.returns-in-None-split_first-2
returns-in-None-split_first-2 c = grind (arith, common_steps)

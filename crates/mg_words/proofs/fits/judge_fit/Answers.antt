use Rattle.std.proofs.lemmas.Grind.{common_steps}
use Rattle.std.proofs.Common.{refl, ap, arith}
use Rattle.mg_words.specs.Words.{RoleClass}
use Rattle.mg_words.proofs.WordsLemmas.{refuted}
use Rattle.mg_words.proofs.FittingLemmas.{begun, plain_at, fitting_at, few_at, wrong_at, more_at, end_at}
use Rattle.mg_words.proofs.fits.judge_fit.Goals as goal

pub loop-word-init : goal.loop-word-init
loop-word-init c = begun c.args.words.now _ c.new-names.ensures

pub slice_bounds-cast-count : goal.slice_bounds-cast-count
slice_bounds-cast-count c = grind (arith, common_steps)

pub judge_fitting-requires : goal.judge_fitting-requires
judge_fitting-requires c = plain_at _ _ _ c.in-Some.ensures.cases.0 (refuted c.if-not-is_word.ensures.1)

pub returns-then-not-is_word : goal.returns-then-not-is_word
returns-then-not-is_word c = fitting_at c.args.words.now _ _ _ _ c.loop-word.invariant refl c.judge_fitting.ensures

pub returns-in_default-split_first : goal.returns-in_default-split_first
returns-in_default-split_first c =
    few_at c.args.words.now _ _ _ _ c.loop-word.invariant (omega arith) c.in-Some.ensures.cases.0 (c.if-not-is_word.ensures.0 refl)
    c.in_default-split_first.ensures.cases

pub returns-then-not-can_be_named : goal.returns-then-not-can_be_named
returns-then-not-can_be_named c =
    wrong_at c.args.words.now _ _ _ _ _ _ c.loop-word.invariant (omega arith) c.in-Some.ensures.cases.0
    (c.if-not-is_word.ensures.0 refl) c.in-Some-split_first.ensures.cases.0 (refuted c.if-not-can_be_named.ensures.1)

pub loop-word-preserved : goal.loop-word-preserved
loop-word-preserved c =
    more_at c.args.words.now _ _ _ _ _ _ _ _ c.loop-word.invariant c.in-Some.ensures.cases.0 (c.if-not-is_word.ensures.0 refl)
    c.in-Some-split_first.ensures.cases.0 (c.if-not-can_be_named.ensures.0 refl) (ap (λ (r : RoleClass). r.role) c.role_of.ensures)
    c.in_ok-add.ensures.ok

pub returns : goal.returns
returns c = end_at c.args.words.now _ _ c.loop-word.invariant (rw c.in_default.is at c.split_first.ensures.cases)

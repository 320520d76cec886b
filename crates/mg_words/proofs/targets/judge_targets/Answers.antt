use Rattle.std.proofs.Common.{refl, sym, ap, ◌∙◌}
use Rattle.api_package.specs.Package.{is_package}
use Rattle.mg_words.proofs.WordsLemmas.{refuted}
use Rattle.mg_words.proofs.TranslateLemmas.{begun, package_at, folder_at, package_twice, folder_twice, few_package, few_folder}
use Rattle.mg_words.proofs.TranslateLemmas.{wrong_package, wrong_folder, end_at, other_word}
use Rattle.mg_words.proofs.targets.judge_targets.Goals as goal

pub loop-word-init : goal.loop-word-init
loop-word-init c = begun c.args.words.now

pub returns-then-is_some : goal.returns-then-is_some
returns-then-is_some c =
    package_twice c.args.made c.args.words.now c.loop-word.package_name c.loop-word.folder _ _ _ c.loop-word.invariant
    (sym c.is_some.ensures ∙ c.if-is_some.true) c.in-Some.ensures.cases.0 (c.if-is_word.ensures.0 refl)

pub returns-in_default-split_first : goal.returns-in_default-split_first
returns-in_default-split_first c =
    few_package c.args.made c.args.words.now c.loop-word.package_name c.loop-word.folder _ _ _ c.loop-word.invariant
    c.in-Some.ensures.cases.0
    (sym c.is_some.ensures ∙ c.if-is_some.false) (c.if-is_word.ensures.0 refl) c.in_default-split_first.ensures.cases

pub returns-then-not-is_package : goal.returns-then-not-is_package
returns-then-not-is_package c =
    wrong_package c.args.made c.args.words.now c.loop-word.package_name c.loop-word.folder _ _ _ c.loop-word.invariant
    c.in-Some.ensures.cases.0
    c.in-Some-split_first.value.now _ (sym c.is_some.ensures ∙ c.if-is_some.false) (c.if-is_word.ensures.0 refl)
    c.in-Some-split_first.ensures.cases.0
    (refuted (λ h. c.if-not-is_package.ensures ∙ ap is_package c.as_str.ensures ∙ h))

pub returns-then-is_some-2 : goal.returns-then-is_some-2
returns-then-is_some-2 c =
    folder_twice c.args.made c.args.words.now c.loop-word.package_name c.loop-word.folder _ _ _ c.loop-word.invariant
    (sym c.is_some-then-is_word-2.ensures ∙ c.if-is_some-2.true) c.in-Some.ensures.cases.0 (c.if-is_word-2.ensures.0 refl)

pub returns-in_default-split_first-2 : goal.returns-in_default-split_first-2
returns-in_default-split_first-2 c =
    few_folder c.args.made c.args.words.now c.loop-word.package_name c.loop-word.folder _ _ _ c.loop-word.invariant
    c.in-Some.ensures.cases.0
    (sym c.is_some-then-is_word-2.ensures ∙ c.if-is_some-2.false) (c.if-is_word-2.ensures.0 refl) c.in_default-split_first-2.ensures.cases

pub returns-then-not-is_file_name : goal.returns-then-not-is_file_name
returns-then-not-is_file_name c =
    wrong_folder c.args.made c.args.words.now c.loop-word.package_name c.loop-word.folder _ _ _ c.loop-word.invariant
    c.in-Some.ensures.cases.0
    c.in-Some-split_first-2.value.now _ (sym c.is_some-then-is_word-2.ensures ∙ c.if-is_some-2.false) (c.if-is_word-2.ensures.0 refl)
    c.in-Some-split_first-2.ensures.cases.0 (refuted c.if-not-is_file_name.ensures.1)

pub judge_files-requires-clause-packaged : goal.judge_files-requires-clause-packaged
judge_files-requires-clause-packaged c = other_word _ _ _ _ c.in-Some.ensures.cases.0 (refuted c.if-is_word.ensures.1)

pub judge_files-requires-clause-placed : goal.judge_files-requires-clause-placed
judge_files-requires-clause-placed c = other_word _ _ _ _ c.in-Some.ensures.cases.0 (refuted c.if-is_word-2.ensures.1)

pub returns : goal.returns
returns c = end_at c.args.made c.args.words.now _ _ _ c.loop-word.invariant (rw c.in_default.is at c.split_first.ensures.cases)

pub loop-word-preserved-then-is_word : goal.loop-word-preserved-then-is_word
loop-word-preserved-then-is_word c =
    package_at c.args.words.now c.loop-word.package_name c.loop-word.folder _ _ _ _ _ c.loop-word.invariant
    (sym c.is_some.ensures ∙ c.if-is_some.false) c.in-Some.ensures.cases.0 (c.if-is_word.ensures.0 refl)
    c.in-Some-split_first.ensures.cases.0 (sym (c.if-not-is_package.ensures ∙ ap is_package c.as_str.ensures))

pub loop-word-preserved : goal.loop-word-preserved
loop-word-preserved c =
    folder_at c.args.words.now c.loop-word.package_name c.loop-word.folder _ _ _ _ _ c.loop-word.invariant
    (sym c.is_some-then-is_word-2.ensures ∙ c.if-is_some-2.false) c.in-Some.ensures.cases.0 (c.if-is_word-2.ensures.0 refl)
    c.in-Some-split_first-2.ensures.cases.0 (c.if-not-is_file_name.ensures.0 refl)

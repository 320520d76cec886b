use Rattle.std.proofs.Common.{refl, sym, ◌∙◌, eqb-true}
use Rattle.mg_words.proofs.WordsLemmas.{refuted}
use Rattle.mg_words.proofs.FittingLemmas.{lacks_files, lacks_roles, other_global, other_source_at, lacks_sources, known_fit}
use Rattle.mg_words.proofs.fits.judge_fitting.Goals as goal

pub returns-in_default : goal.returns-in_default
returns-in_default c = lacks_files c.args.cast.words.now c.args.files.now c.in_default.ensures.cases

pub returns-then-is_empty : goal.returns-then-is_empty
returns-then-is_empty c =
    lacks_roles c.args.cast.words.now c.args.files.now _ _ c.in-Some.ensures.cases.0 c.requires (sym c.is_empty.ensures ∙ c.if-is_empty.true)

pub returns-then-not-is_file : goal.returns-then-not-is_file
returns-then-not-is_file c =
    other_global c.args.cast.words.now c.args.files.now _ _ c.in-Some.ensures.cases.0 c.requires (refuted c.if-not-is_file.ensures.1)

pub returns-in-Some-other_source : goal.returns-in-Some-other_source
returns-in-Some-other_source c =
    other_source_at c.args.cast.words.now c.args.files.now _ _ c.in-Some-other_source.word.now c.in-Some.ensures.cases.0 c.requires
    (sym c.is_empty.ensures ∙ c.if-is_empty.false) (c.if-not-is_file.ensures.0 refl) c.in-Some-other_source.ensures

pub returns-then-is_empty-2 : goal.returns-then-is_empty-2
returns-then-is_empty-2 c =
    lacks_sources c.args.cast.words.now c.args.files.now _ _ c.in-Some.ensures.cases.0 c.requires
    (sym c.is_empty.ensures ∙ c.if-is_empty.false) (c.if-not-is_file.ensures.0 refl)
    (eqb-true _ 0 (sym c.is_empty-2.ensures ∙ c.if-is_empty-2.true))

pub returns : goal.returns
returns c =
    known_fit c.args.cast.words.now c.args.files.now _ _ c.in-Some.ensures.cases.0 (sym c.is_empty.ensures ∙ c.if-is_empty.false)
    (c.if-not-is_file.ensures.0 refl) c.in_default-other_source.ensures (sym c.is_empty-2.ensures ∙ c.if-is_empty-2.false)

use Rattle.std.proofs.Common.{eqb-true, length, sym, ◌∙◌, subst, ◌∷◌, ◌++◌, flat_map}
use Rattle.mg_words.specs.Words.{Command, target_words, IsCommand}
use Rattle.mg_words.specs.inner.Judging.{word_for}
use Rattle.mg_words.proofs.TranslateLemmas.{wrong_file, lacks_files, are_making}
use Rattle.mg_words.proofs.targets.judge_files.Goals as goal

pub returns-in-Some : goal.returns-in-Some
returns-in-Some c =
    λ o h. wrong_file c.args.made o _ _ c.args.files.now c.in-Some.word.now h (c.requires.packaged, c.requires.placed) c.in-Some.ensures

pub returns-then-is_empty : goal.returns-then-is_empty
returns-then-is_empty c = λ o h.
    lacks_files c.args.made o _ _ c.args.files.now h
    (eqb-true (length c.args.files.now) 0 (sym c.is_empty.ensures ∙ c.if-is_empty.true))

pub returns : goal.returns
returns c = λ o h.
    subst (λ (z : Command). IsCommand z (word_for c.args.made ∷ (flat_map target_words o ++ c.args.files.now))) (sym c.command.ensures)
    (are_making c.args.made o _ _ c.args.files.now h (sym c.is_empty.ensures ∙ c.if-is_empty.false) c.in_default.ensures)

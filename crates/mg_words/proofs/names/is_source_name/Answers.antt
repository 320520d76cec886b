use Rattle.std.proofs.Common.{refl}
use Rattle.mg_sources.specs.Files.{Scribble, Typestates}
use Rattle.mg_words.proofs.WordsLemmas.{source_of_kind, other_kinds, refuted}
use Rattle.mg_words.proofs.names.is_source_name.Goals as goal

pub returns-then-is_file : goal.returns-then-is_file
returns-then-is_file c = (λ t. source_of_kind Scribble c.args.word.now (c.if-is_file.ensures.0 refl), λ h. refl)

pub returns-then-is_file-2 : goal.returns-then-is_file-2
returns-then-is_file-2 c = (λ t. source_of_kind Typestates c.args.word.now (c.if-is_file-2.ensures.0 refl), λ h. refl)

pub returns : goal.returns
returns c = other_kinds c.is_file-3.result c.args.word.now (refuted c.if-is_file.ensures.1) (refuted c.if-is_file-2.ensures.1)
    c.is_file-3.ensures

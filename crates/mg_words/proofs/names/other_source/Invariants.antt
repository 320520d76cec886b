use Rattle.std.proofs.Common.{All, take}
use Rattle.mg_words.specs.Words.{IsSourceName}
use Rattle.mg_words.proofs.names.other_source.Given as goal

abbrev pub invariant-loop-word : goal.invariant-loop-word
invariant-loop-word l = All IsSourceName (take l.word-index l.words)

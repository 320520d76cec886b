use Rattle.std.proofs.Common.{All, take}
use Rattle.mg_words.specs.Words.{IsFileOf}
use Rattle.mg_words.proofs.names.other_file.Given as goal

abbrev pub invariant-loop-word : goal.invariant-loop-word
invariant-loop-word l = All (IsFileOf l.suffix) (take l.word-index l.words)

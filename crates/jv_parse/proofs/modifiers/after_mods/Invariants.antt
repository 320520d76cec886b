use Rattle.std.proofs.Common.{◌≡◌, length}
use Rattle.jv_grammar.specs.Files.{after_mods}
use Rattle.jv_parse.specs.inner.Modifiers.{words_of}
use Rattle.jv_parse.proofs.modifiers.after_mods.Given as goal

abbrev pub invariant-words : goal.invariant-words
invariant-words l = after_mods (words_of l.mods) l.rest ≡ after_mods (words_of l.mods) l.fn.tokens

abbrev pub decreases-words : goal.decreases-words
decreases-words l = length l.rest

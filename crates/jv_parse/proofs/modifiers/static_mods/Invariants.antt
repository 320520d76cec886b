use Rattle.std.proofs.Common.{◌≡◌, length}
use Rattle.jv_tree.specs.Files.{modifiers}
use Rattle.jv_grammar.specs.Files.{static_mods}
use Rattle.jv_parse.proofs.modifiers.static_mods.Given as goal

abbrev pub invariant-words : goal.invariant-words
invariant-words l = static_mods modifiers l.rest ≡ static_mods modifiers l.fn.tokens

abbrev pub decreases-words : goal.decreases-words
decreases-words l = length l.rest

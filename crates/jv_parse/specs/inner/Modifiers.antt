-- Which modifiers may stand in front of what.
use Rattle.std.specs.Prelude.{List, [], ◌∷◌, codes}
use Rattle.mg_text.specs.Call.{Name}
use Rattle.jv_tree.specs.Files.{modifiers}
use Rattle.jv_grammar.specs.Files.{class_words, enum_words}
use Rattle.jv_parse.specs.declared.modifiers.Modifiers.{Modifiers}
use Rattle.jv_parse.specs.declared.modifiers.Modifiers.TheVariants as kept

abbrev pub words_of : Modifiers → List Name
words_of kept.OfMember = modifiers
words_of kept.OfClass = class_words
words_of kept.OfEnum = enum_words
words_of kept.Static = codes "static" ∷ []

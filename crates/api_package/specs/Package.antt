-- Which words name a package of Java.
use Rattle.std.specs.Prelude.{◌≡◌, List, [], ◌∷◌, Bool, true, false, ◌&&◌, ◌==◌}
use Rattle.std.specs.List.{list_all, slice_split}
use Rattle.mg_text.specs.Call.{Name}
use Rattle.jv_tree.specs.Tokens.{is_name}
use Rattle.jv_lex.specs.Letters.{is_word_start, is_word_byte}

abbrev pub begins_word : Name → Bool
begins_word [] = false
begins_word (c ∷ cs) = is_word_start c

-- a name of Java: it is written as a word, and is none of those that Java reserves
abbrev pub is_java_name : Name → Bool
is_java_name name = begins_word name && (list_all is_word_byte name && is_name name)

-- the names of a word, between which "." stands
abbrev pub steps_of : Name → List Name
steps_of = slice_split (λ b. b == 46)

-- one or more names with "." between
abbrev pub is_package : Name → Bool
is_package word = list_all is_java_name (steps_of word)

abbrev pub IsPackage : Name → Type 0
IsPackage word = is_package word ≡ true

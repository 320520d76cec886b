-- What is shown of a refusal: its kind, what is named, the sentence on it, and what to do about it.
use Rattle.std.specs.Prelude.{ℕ, ◌==◌, List, [], ◌∷◌, ◌++◌, Option, Some, None, codes, if◌then◌else◌}
use Rattle.std.specs.List.{flat_map, before_first, after_first}
use Rattle.std.specs.Str.{bytes_eq}
use Rattle.mg_text.specs.Call.{Name}
use Rattle.mg_refusal.specs.Refusals.{Refusal, name_or_none}
use Rattle.lsp_sentences.specs.Table.{sentences}
use Rattle.lsp_sentences.specs.Repairs.{repairs}

-- the sentence that stands beside a kind
abbrev pub sentence_in : List (Name × Name) → (kind : Name) → Option Name
sentence_in [] kind = None
sentence_in (row ∷ rows) kind = if bytes_eq kind row.0 then Some row.1 else sentence_in rows kind

abbrev pub sentence_of : (kind : Name) → Option Name
sentence_of = sentence_in sentences

-- what to do about it
abbrev pub repair_of : (kind : Name) → Option Name
repair_of = sentence_in repairs

-- what is named is a word, and behind a blank a state of it, where one is told
abbrev pub first_word : Name → Name
first_word = before_first (λ b. b == 32)

abbrev pub behind_word : Name → Name
behind_word = after_first (λ b. b == 32)

-- the state that is named, in words
abbrev pub state_words : (state : Name) → Name
state_words state = if bytes_eq state (codes "end") then codes "its end" else state

-- what is written for a byte of a sentence: @ stands for the word, and # for the state
abbrev pub put_for : (word state : Name) → ℕ → Name
put_for word state b = if b == 64 then word else (if b == 35 then state else b ∷ [])

-- a sentence on what is named
abbrev pub filled : (name sentence : Name) → Name
filled name sentence = flat_map (put_for (first_word name) (state_words (first_word (behind_word name)))) sentence

abbrev pub named_text : Option Name → Name
named_text None = []
named_text (Some name) = codes " " ++ name

abbrev pub sentence_text : (name : Name) → Option Name → Name
sentence_text name None = []
sentence_text name (Some sentence) = codes ": " ++ filled name sentence

-- on a line of its own
abbrev pub repair_text : (name : Name) → Option Name → Name
repair_text name None = []
repair_text name (Some repair) = codes "\nRepair: " ++ filled name repair

-- what is said behind the kind and what is named
abbrev pub said_text : (name kind : Name) → Name
said_text name kind = sentence_text name (sentence_of kind) ++ repair_text name (repair_of kind)

-- what is shown of a refusal
abbrev pub message_of : Refusal → Name
message_of r = r.kind ++ (named_text r.name ++ said_text (name_or_none r.name) r.kind)

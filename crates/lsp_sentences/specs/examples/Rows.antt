-- Worked rows of what is shown of refusals.
use Rattle.std.specs.Prelude.{◌≡◌, ◌++◌, [], codes}
use Rattle.mg_text.specs.Places.{start_of}
use Rattle.mg_refusal.specs.Refusals.{refusal_at, refusal_nowhere}
use Rattle.lsp_sentences.specs.Sentences.{message_of}

pub record Rows : Type 0 where
  -- a word and a state
  pub state : message_of (refusal_at (codes "NotOffered") (start_of 0) (codes "x State1"))
      ≡ codes "NotOffered x State1: the object of x may be in State1 here, which does not offer this method"
      ++ codes "\nRepair: call first what leads to a state that offers it, or delete the call; behind the end make a new object"
  -- the end
  pub finished : message_of (refusal_at (codes "NotOffered") (start_of 0) (codes "x end"))
      ≡ codes "NotOffered x end: the object of x may be in its end here, which does not offer this method"
      ++ codes "\nRepair: call first what leads to a state that offers it, or delete the call; behind the end make a new object"
  -- a state in what to do about it
  pub left : message_of (refusal_at (codes "LeftOpen") (start_of 0) (codes "x Live"))
      ≡ codes "LeftOpen x Live: the object of x may be in Live here, and is dropped before it is finished"
      ++ codes "\nRepair: finish the object on each way out, or hand it on; in a typestate of your own Live may have drop: end"
  -- a word in it
  pub declared : message_of (refusal_at (codes "UnknownName") (start_of 0) (codes "j"))
      ≡ codes "UnknownName j: j names nothing here: no variable, class or method that can be used"
      ++ codes "\nRepair: declare j where all of its uses see it, or mend the name"
  -- a word that stands in its sentence twice
  pub twice : message_of (refusal_at (codes "MaybeNull") (start_of 0) (codes "x"))
      ≡ codes "MaybeNull x: x may hold null here: test it with if (x != null)"
      ++ codes "\nRepair: make the test in the if or while itself, since one that a boolean keeps tells nothing"
  -- nothing is named
  pub bare : message_of (refusal_at (codes "Syntax") (start_of 0) []) ≡ codes "Syntax: the text does not follow the grammar"
      ++ codes "\nRepair: mend this token or the one before it: docs/LANGUAGE.md has the grammar"
  -- the first and the last of the table
  pub first : message_of (refusal_at (codes "BadByte") (start_of 0) [])
      ≡ codes "BadByte: no token begins here, a comment, text or name has no end, or the file is not UTF-8"
      ++ codes "\nRepair: delete this byte, or close the comment, text or name that begins here, and save the file as UTF-8"
  pub escape : message_of (refusal_at (codes "BadEscape") (start_of 0) [])
      ≡ codes "BadEscape: known escapes are \\b \\t \\n \\f \\r \\\" \\' and \\\\"
      ++ codes "\nRepair: write the character itself, since sources are UTF-8"
  -- a kind without a sentence
  pub none : message_of (refusal_nowhere (codes "NoMain") (codes "Main")) ≡ codes "NoMain Main"

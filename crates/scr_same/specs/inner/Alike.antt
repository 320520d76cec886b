-- For private clauses: the test of sameness.
use Rattle.std.specs.Prelude.{Bool, true, false, ◌&&◌}
use Rattle.std.specs.Str.{bytes_eq}
use Rattle.scr_tree.specs.Meaning.{message_of}
use Rattle.scr_tree.specs.Tree.{Statements, Nothing, Says, Choice, Rec, Continue, Do, Branches, NoBranch, Branch}
use Rattle.scr_global.specs.Projecting.{same_message}

abbrev mutual
  pub is_alike : Statements → Statements → Bool
  is_alike Nothing Nothing = true
  is_alike (Says m rest) (Says n other) = same_message (message_of m) (message_of n) && is_alike rest other
  is_alike (Choice p at bs rest) (Choice q by cs other) = bytes_eq at by && (are_alike bs cs && is_alike rest other)
  is_alike (Rec p name b rest) (Rec q word c other) = bytes_eq name word && (is_alike b c && is_alike rest other)
  is_alike (Continue p name rest) (Continue q word other) = bytes_eq name word && is_alike rest other
  is_alike (Do p name rest) (Do q word other) = bytes_eq name word && is_alike rest other
  is_alike _ _ = false

  pub are_alike : Branches → Branches → Bool
  are_alike NoBranch NoBranch = true
  are_alike (Branch b more) (Branch c others) = is_alike b c && are_alike more others
  are_alike _ _ = false

-- The line that is said of each role of a run.
use Rattle.std.specs.Prelude.{ℕ, List, [], ◌∷◌, ◌++◌, codes}
use Rattle.std.specs.Fmt.{decimal}
use Rattle.mg_text.specs.Call.{Name}
use Rattle.mg_text.specs.declared.event.BadKind.{BadKind}
use Rattle.mg_text.specs.declared.event.BadKind.TheVariants as kinds
use Rattle.mg_text.specs.declared.event.Ending.TheVariants as endings
use Rattle.vm_world_law.specs.declared.stand.Stand.{Stand}
use Rattle.vm_world_law.specs.declared.stand.Stand.TheVariants as stands

-- what is wrong with code, in a word
abbrev pub kind_word : BadKind → List ℕ
kind_word kinds.FellOff = codes "FellOff"
kind_word kinds.Underflow = codes "Underflow"
kind_word kinds.Kind = codes "Kind"
kind_word kinds.Local = codes "Local"
kind_word kinds.Member = codes "Member"
kind_word kinds.Return = codes "Return"
kind_word kinds.Overflow = codes "Overflow"

-- how a role stands, in words
abbrev pub stand_words : Stand → List ℕ
stand_words (stands.Ended endings.Done) = codes "done"
stand_words (stands.Ended endings.Zero) = codes "zero divisor"
stand_words (stands.Ended endings.Null) = codes "null"
stand_words (stands.Ended (endings.Mismatch peer found)) = codes "mismatch " ++ peer ++ codes " " ++ found
stand_words (stands.Ended (endings.NoPeer peer)) = codes "no peer " ++ peer
stand_words (stands.Ended (endings.Bad which)) = codes "bad " ++ kind_word which
stand_words (stands.Waits peer) = codes "waits " ++ peer
stand_words stands.Bound = codes "bound"

-- how a role went, with so many instructions
abbrev pub role_line : Name → (count : ℕ) → Stand → List ℕ
role_line name count stand = name ++ codes ": " ++ decimal count ++ codes " instructions, " ++ stand_words stand ++ 10 ∷ []

-- a line for each role, in their order
abbrev pub role_lines : List Name → (counts : List ℕ) → List Stand → List ℕ
role_lines (name ∷ names) (count ∷ counts) (stand ∷ more) = role_line name count stand ++ role_lines names counts more
role_lines _ _ _ = []

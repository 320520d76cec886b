-- Counting states, up to one too many.
use Rattle.std.specs.Prelude.{ℕ, List, [], ◌∷◌, ◌+◌, nat_lt, Bool, false, if◌then◌else◌}
use Rattle.std.specs.Str.{bytes_eq}
use Rattle.mg_text.specs.Call.{Name}
use Rattle.scr_tree.specs.View.{statements}
use Rattle.scr_tree.specs.declared.written.WrittenPart.{WrittenPart as Part}
use Rattle.scr_tree.specs.Tree.{Statements, Nothing, Says, Choice, Rec, Continue, Do, Branches, NoBranch, Branch}

-- one more, up to one too many
abbrev pub up : ℕ → ℕ
up n = if nat_lt n 1001 then n + 1 else n

abbrev mutual
  -- how many states there are, up to one too many, behind n others; `first` says that a branch of a choice at self begins here
  pub counted : Name → Bool → ℕ → Statements → ℕ
  counted me first n Nothing = n
  counted me first n (Says m rest) = counted me false (if first then n else up n) rest
  counted me first n (Choice place at branches rest) = counted me false (counted_in me (bytes_eq at me) (up n) branches) rest
  counted me first n (Rec place name body rest) = counted me false (counted me false n body) rest
  counted me first n (Continue place name rest) = counted me false n rest
  counted me first n (Do place name rest) = counted me false n rest

  pub counted_in : Name → Bool → ℕ → Branches → ℕ
  counted_in me self n NoBranch = n
  counted_in me self n (Branch b more) = counted_in me self (counted me self n b) more

-- the same of protocols, behind n others
abbrev pub counted_parts : ℕ → List Part → ℕ
counted_parts n [] = n
counted_parts n (p ∷ ps) = counted_parts (counted p.me.name false n (statements p.body.items)) ps

-- Where `break` and `continue` lead.
use Rattle.std.specs.Prelude.{ℕ, List, [], ◌∷◌, Option, Some, None, nat_eq, if◌then◌else◌}

-- what stands around a statement: a loop by its number, or a switch
pub data Around : Type 0 where
  Loop : (number : ℕ) → (break continue : ℕ) → Around
  Switch : (break : ℕ) → Around

-- `break` leaves the loop of its number, or the innermost switch; the innermost is the first in the list
abbrev pub break_to : List Around → (loop : Option ℕ) → ℕ
break_to [] loop = 0
break_to (Loop number break continue ∷ more) None = break_to more None
break_to (Loop number break continue ∷ more) (Some l) = if nat_eq number l then break else break_to more (Some l)
break_to (Switch break ∷ more) None = break
break_to (Switch break ∷ more) (Some l) = break_to more (Some l)

abbrev pub continue_to : List Around → (loop : ℕ) → ℕ
continue_to [] l = 0
continue_to (Loop number break continue ∷ more) l = if nat_eq number l then continue else continue_to more l
continue_to (Switch break ∷ more) l = continue_to more l

-- Where the table of a switch leads.
use Rattle.std.specs.Prelude.{ℕ, List, [], ◌∷◌, length, map, max}
use Rattle.std.specs.Prelude.{Bool, Option, Some, None, unwrap_or, option_and_then, slice_get, if◌then◌else◌}
use Rattle.jv_values.specs.Statements.{is_default, case_at, any_label}
use Rattle.jv_core.specs.declared.program.CoreType.{CoreType}
use Rattle.jv_core.specs.Tree.{Groups, NoGroup, Group, Enum, Program}
use Rattle.jv_core.specs.Numbering.{numbers_from}
use Rattle.jv_core.specs.Meaning.{enum_in}

-- where the group with such a label begins, if there is one; the groups begin at these places
abbrev pub group_at : (wanted : Option ℕ → Bool) → Groups → (starts : List ℕ) → Option ℕ
group_at wanted NoGroup starts = None
group_at wanted (Group labels body end more) [] = None
group_at wanted (Group labels body end more) (start ∷ starts) =
    if any_label wanted labels then Some start else group_at wanted more starts

-- where a constant without a case leads: to `default`, or behind the switch
abbrev pub default_at : Groups → (starts : List ℕ) → (behind : ℕ) → ℕ
default_at groups starts behind = unwrap_or (group_at is_default groups starts) behind

-- where the constant at a position leads
abbrev pub constant_at : Groups → (starts : List ℕ) → (behind position : ℕ) → ℕ
constant_at groups starts behind position = unwrap_or (group_at (case_at position) groups starts) (default_at groups starts behind)

abbrev pub constants_in : Option Enum → ℕ
constants_in None = 0
constants_in (Some e) = length e.constants

-- how many constants the enum has whose constants a switch tells apart
abbrev pub constants_of : Program → Option CoreType → ℕ
constants_of p type = constants_in (option_and_then (slice_get p.enums) (option_and_then enum_in type))

-- The positions that stand in the table, one for each constant. No table is empty, so one stands there for an enum without constants,
-- of which there is no value.
abbrev pub positions : Program → Option CoreType → List ℕ
positions p type = numbers_from 0 (max 1 (constants_of p type))

-- where each of them leads
abbrev pub targets : Groups → (starts : List ℕ) → (behind : ℕ) → List ℕ → List ℕ
targets groups starts behind positions = map (constant_at groups starts behind) positions

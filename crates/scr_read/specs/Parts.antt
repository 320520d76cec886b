-- What making a local protocol of its parts answers, without a file of text.
use Rattle.std.specs.Prelude.{◌≡◌, ℕ, [], map, Some, None, Result, Ok, Err}
use Rattle.mg_text.specs.Call.{Name}
use Rattle.mg_text.specs.Places.{start_of}
use Rattle.mg_text.specs.declared.place.Place.{Place}
use Rattle.mg_read.specs.Culprit.{culprit}
use Rattle.scr_tree.specs.declared.condition.Condition.{Condition}
use Rattle.scr_tree.specs.declared.local.Local.{Local}
use Rattle.scr_tree.specs.declared.written.Role.{Role}
use Rattle.scr_tree.specs.Local.{tree_of}
use Rattle.scr_tree.specs.Tree.{LocalTree}
use Rattle.scr_tree.specs.Written.{WrittenTree}
use Rattle.scr_tree.specs.Faults.{IsFault}
use Rattle.scr_read.specs.Outcome.{Answer, Refused, fault_answer}
use Rattle.scr_read.specs.declared.fault.ScrFault.{ScrFault}

-- a role that has no place of its own is listed where the file begins
abbrev pub listed : ℕ → Name → Role
listed file name = record { place = start_of file; name = name }

-- the file that says these parts, and no other protocol: types are named in none of them, and a `do` is given no roles
abbrev pub parts : LocalTree → WrittenTree
parts t = record {
  file = t.file;
  types = [];
  first = record {
    place = start_of t.file;
    name = t.name;
    me = listed t.file t.me;
    roles = map (listed t.file) t.roles;
    carries = [];
    arguments = [];
    body = t.body;
  };
  others = [];
}

-- the parts don't meet a condition
pub data IsRefused (w : WrittenTree) : Answer → Type 0 where
  refused : {condition : Condition} {place : Place} {name : Name} → IsFault w (Some (condition, culprit place name))
      → IsRefused w (Refused condition place name)

-- the protocol of the parts, which meet all conditions, or the fault of those that don't; want of memory says nothing
abbrev pub Makes : LocalTree → Result Local ScrFault → Type 0
Makes t (Ok local) = (tree_of local ≡ t) × IsFault (parts t) None
Makes t (Err fault) = (a : Answer) → fault_answer fault ≡ Some a → IsRefused (parts t) a

-- What a role does, from the tree of its text; and the doings with new calls, one by one.
use Rattle.std.specs.Prelude.{ℕ, Bool, List, [], ◌∷◌, ◌++◌, Option, Some, None, option_map, if◌then◌else◌, is_some, position}
use Rattle.std.specs.Str.{bytes_eq}
use Rattle.mg_text.specs.Call.{Name}
use Rattle.scr_tree.specs.declared.syntax.Message.{Message as Said}
use Rattle.scr_tree.specs.Meaning.{message_of}
use Rattle.scr_tree.specs.Tree.{PartTree, Statements, Nothing, Says, Choice, Rec, Continue, Do, Branches, NoBranch, Branch}
pub use Rattle.scr_tree.specs.Said.{first_said}
use Rattle.scr_tree.specs.Actions.{opened, next, next_in}
use Rattle.stm_api.specs.Doings.{Doing, Passes, Asks, call_of}

abbrev pub peer_in : Branches → Option Name
peer_in NoBranch = None
peer_in (Branch b more) = option_map (λ (m : Said). m.peer) (first_said b)

abbrev pub label_before : Option Said → List Name → List Name
label_before None labels = labels
label_before (Some m) labels = m.label ∷ labels

abbrev pub labels_in : Branches → List Name
labels_in NoBranch = []
labels_in (Branch b more) = label_before (first_said b) (labels_in more)

-- the look at branches
abbrev pub look_at : ℕ → Option Name → List Name → List Doing
look_at n None labels = []
look_at n (Some peer) labels = Asks n peer labels ∷ []

abbrev pub look_unless : Bool → ℕ → Branches → List Doing
look_unless self n branches = if self then [] else look_at n (peer_in branches) (labels_in branches)

abbrev mutual
  -- what is done; choices elsewhere are numbered from n on
  pub does : Name → ℕ → Statements → List Doing
  does me n Nothing = []
  does me n (Says m rest) = Passes (message_of m) ∷ does me n rest
  does me n (Choice place at branches rest) =
      look_unless (bytes_eq at me) n branches ++ (does_in me (opened (bytes_eq at me) n) branches
      ++ does me (next_in me (opened (bytes_eq at me) n) branches) rest)
  does me n (Rec place name body rest) = does me n body ++ does me (next me n body) rest
  does me n (Continue place name rest) = does me n rest
  does me n (Do place name rest) = does me n rest

  pub does_in : Name → ℕ → Branches → List Doing
  does_in me n NoBranch = []
  does_in me n (Branch b more) = does me n b ++ does_in me (next me n b) more

abbrev pub part_body : PartTree → Statements
part_body p = p.body

-- what is done in protocols of a role, one after another
abbrev pub all_does : Name → ℕ → List Statements → List Doing
all_does me n [] = []
all_does me n (body ∷ bodies) = does me n body ++ all_does me (next me n body) bodies

-- one more doing, unless its call was seen
abbrev pub first_before : Bool → Doing → List Doing → List Doing → List Doing
first_before seen doing firsts others = if seen then firsts else doing ∷ others

-- the doings whose calls weren't seen before
abbrev pub firsts_of : Name → List Name → List Doing → List Doing
firsts_of me seen [] = []
firsts_of me seen (doing ∷ more) =
    first_before (is_some (position (bytes_eq (call_of me doing)) seen)) doing (firsts_of me seen more)
    (firsts_of me (seen ++ call_of me doing ∷ []) more)

-- Protocols that go on as one another with no message, as a graph of the numbers of their names.
use Rattle.std.specs.Prelude.{◌≡◌, ◌≤◌, ℕ, Bool, true, false, ◌&&◌, if◌then◌else◌, List, [], ◌∷◌, ◌++◌, map, get_or, set, Option, Some}
use Rattle.std.specs.Prelude.{None, Contains, position}
use Rattle.std.specs.Str.{bytes_eq}
use Rattle.mg_text.specs.Call.{Name}
use Rattle.mg_text.specs.Interned.{with_text}
use Rattle.mg_read.specs.Culprit.{Culprit}
use Rattle.mg_read.specs.First.{Judged}
use Rattle.scr_tree.specs.declared.written.WrittenPart.{WrittenPart as Part}
use Rattle.scr_tree.specs.Tree.{Titled, Statements, Nothing, Says, Choice, Rec, Continue, Do, Branches, NoBranch, Branch}
use Rattle.scr_tree.specs.Control.{passes, some_passes}
use Rattle.scr_tree.specs.Going.{Unguarded}
use Rattle.scr_tree.specs.Spots.{spots}
use Rattle.scr_tree.specs.View.{statements}
use Rattle.scr_tree.specs.Written.{part_written, title_of}

abbrev mutual
  -- the names of the `do`s to which control can come with no message; `at_once` says that it can come to the statements so
  pub gone : Bool → Statements → List Name
  gone at_once Nothing = []
  gone at_once (Says m rest) = gone false rest
  gone at_once (Choice place at branches rest) = gone_in at_once branches ++ gone (some_passes branches && at_once) rest
  gone at_once (Rec place name body rest) = gone at_once body ++ gone (passes body && at_once) rest
  gone at_once (Continue place name rest) = gone false rest
  gone at_once (Do place name rest) = (if at_once then name ∷ [] else []) ++ gone false rest

  pub gone_in : Bool → Branches → List Name
  gone_in at_once NoBranch = []
  gone_in at_once (Branch b more) = gone at_once b ++ gone_in at_once more

-- of each number those to which an edge leads
abbrev pub Graph : Type 0
Graph = List (List ℕ)

abbrev pub HasEdge : Graph → ℕ → ℕ → Type 0
HasEdge g v w = Contains (get_or g v []) w

-- edges lead from the one to the other
pub data Reaches (g : Graph) : ℕ → ℕ → Type 0 where
  there : {v : ℕ} → Reaches g v v
  onward : {v w x : ℕ} → HasEdge g v w → Reaches g w x → Reaches g v x

-- no edge leads to a higher rank
abbrev pub Falls : Graph → List ℕ → Type 0
Falls g ranks = (v w : ℕ) → HasEdge g v w → get_or ranks w 0 ≤ get_or ranks v 0

-- ---- the graph of a file

-- texts with more, each where it is new
abbrev pub with_texts : List Name → List Name → List Name
with_texts [] names = names
with_texts (text ∷ texts) names = with_texts texts (with_text names text)

abbrev pub number_of : Option ℕ → List ℕ
number_of None = []
number_of (Some n) = n ∷ []

-- the numbers of those that have one
abbrev pub numbers_of : List Name → List Name → List ℕ
numbers_of names [] = []
numbers_of names (name ∷ sought) = number_of (position (bytes_eq name) names) ++ numbers_of names sought

-- where a protocol goes on with no message
abbrev pub leaves_to : List Name → Part → List ℕ
leaves_to names p = numbers_of names (gone true (statements p.body.items))

abbrev pub edges_at : Option ℕ → List ℕ → Graph → Graph
edges_at None more g = g
edges_at (Some v) more g = set g v (get_or g v [] ++ more)

-- a graph with the edges of a protocol
abbrev pub with_edges : List Name → Part → Graph → Graph
with_edges names p g = edges_at (position (bytes_eq p.name) names) (leaves_to names p) g

abbrev pub all_edges : List Name → List Part → Graph → Graph
all_edges names [] g = g
all_edges names (p ∷ ps) g = all_edges names ps (with_edges names p g)

-- the protocols by their names
abbrev pub titles : List Part → List Titled
titles ps = map title_of (map part_written ps)

-- what is found of one name among those that a protocol goes on to: it, where it is bad
abbrev pub FoundBad : (Name → Type 0) → Name → Option Name → Type 0
FoundBad Bad name None = Bad name → ⊥
FoundBad Bad name (Some found) = (found ≡ name) × Bad name

-- a protocol of these is judged
abbrev pub IsGuarded : List Part → Part → Option Culprit → Type 0
IsGuarded ps p r = Judged (λ s c. Unguarded (titles ps) (title_of (part_written p), s) c) (spots [] (statements p.body.items)) r

-- ---- the first `do` that is on a cycle

abbrev pub is_goal : Option Name → Name → Bool
is_goal None name = false
is_goal (Some goal) name = bytes_eq name goal

abbrev pub kept_goal : Bool → Option Name → Option Name
kept_goal quiet goal = if quiet then goal else None

-- What the program's values say.
use Rattle.std.specs.Prelude.{ℕ, ◌-◌, String, Option, Some, None, List, [], ◌∷◌, map, reverse, length, slice_index_or}
use Rattle.std.specs.HashMap.{HashMap, get_by_text}
use Rattle.mg_text.specs.Call.{Name}
use Rattle.mg_text.specs.Row.{Row}
use Rattle.scr_tree.specs.declared.syntax.Message.{Message as Said}
use Rattle.scr_tree.specs.Tree.{Branches}
use Rattle.scr_tree.specs.Meaning.{message_of}
use Rattle.scr_tree.specs.Steps.{Act, Moves, Looks}
use Rattle.scr_tree.specs.View.{statements, branches_of}
use Rattle.scr_tree.specs.declared.syntax.Statement.{Statement}
use Rattle.scr_trace.specs.declared.arrow.Arrow.{Arrow}
use Rattle.scr_trace.specs.declared.arrow.Exits.{Exits}
use Rattle.scr_trace.specs.declared.arrow.Hop.{Hop}
use Rattle.scr_trace.specs.declared.arrow.Hop.TheVariants as hops
use Rattle.scr_trace.specs.declared.standing.Standing.{Standing}
use Rattle.scr_trace.specs.declared.standing.Standing.TheVariants as standings
use Rattle.scr_trace.specs.Graph.{Edge, Graph}
use Rattle.scr_trace.specs.declared.laying.Laying.{Laying}
use Rattle.scr_trace.specs.declared.laying.Around.{Around}
use Rattle.scr_trace.specs.declared.laying.Around.TheVariants.{Outside, Inside'}
use Rattle.scr_trace.specs.inner.Laying.{Draft, Cell, Work, Known, Gathered, entry_at}

abbrev pub draft_of : Arrow → Draft
draft_of a = record { message = a.message.now; to = a.to }

abbrev pub drafts_of : List Arrow → List Draft
drafts_of arrows = reverse (map draft_of arrows)

abbrev pub cell_of : Exits → Cell
cell_of e = record { number = e.number; drafts = drafts_of e.arrows.items }

abbrev pub cells_of : List Exits → List Cell
cells_of exits = reverse (map cell_of exits)

abbrev pub work_of : Laying → Work
work_of l = record { cells = cells_of l.exits.items; loops = l.loops.items; entries = l.entries.items; choices = l.choices; next = l.next }

abbrev pub gathered : Laying → Row Arrow → Gathered
gathered l arrows = record { work = work_of l; drafts = drafts_of arrows.items }

abbrev pub known_of : Around → List Known
known_of Outside = []
known_of (Inside' name number p around) = record { name = name.now; number = number } ∷ known_of around

-- the numbers of protocols, by their names
unfoldable pub number_by : {A S : Type 0} → HashMap (String A) ℕ S → Name → Option ℕ
number_by numbers name = get_by_text numbers name

abbrev pub bodies : List (Row Statement) → Branches
bodies branches = branches_of (map (λ b. statements b.items) branches)

-- ---- the automaton that is laid out

-- where a hop leads that isn't to a protocol, where so many states are laid out
abbrev pub plain_standing : Work → Hop → Standing
plain_standing w (hops.State n) = standings.State (length w.cells - n)
plain_standing w (hops.Loop k) = standings.State (length w.cells - slice_index_or w.loops k 0)
plain_standing w (hops.Part k) = standings.End
plain_standing w hops.End = standings.End

-- where a hop leads; no entry of a protocol leads to another one
abbrev pub standing_of : Work → Hop → Standing
standing_of w (hops.Part k) = plain_standing w (entry_at k w.entries)
standing_of w hop = plain_standing w hop

-- what is seen of a step by this message, of a state with this number
abbrev pub act_of : Work → Option ℕ → Said → Act
act_of w None m = Moves (message_of m)
act_of w (Some n) m = Looks (w.choices - n) m.peer m.label

abbrev pub edge_of : Work → Option ℕ → Draft → Edge
edge_of w number d = record { act = act_of w number d.message; to = standing_of w d.to }

abbrev pub edges_of : Work → Cell → List Edge
edges_of w c = map (edge_of w c.number) c.drafts

abbrev pub graph_of_work : Work → Graph
graph_of_work w = record { initial = standing_of w w.next; states = map (edges_of w) w.cells }

-- What the program's values say.
use Rattle.std.specs.Prelude.{List, map, ◌&&◌, ◌||◌}
use Rattle.mg_text.specs.Call.{Name}
use Rattle.scr_tree.specs.Local.{tree_of}
use Rattle.scr_tree.specs.Tree.{Statements, Branches}
use Rattle.scr_tree.specs.Control.{falls, some_falls}
use Rattle.stm_client.specs.Counting.{behind, behind_in}
use Rattle.stm_client.specs.Client.{Making, Loop}
use Rattle.stm_client.specs.declared.points.About.{About}
use Rattle.stm_client.specs.declared.points.End.{End}
use Rattle.stm_client.specs.declared.points.Numbers.{Numbers}
use Rattle.stm_client.specs.declared.labels.Around.{Around}

-- what a client is made with
abbrev pub making : About → Making
making a = record { place = a.place; me = (tree_of a.local.now).me; counters = a.counters.now }

abbrev pub loop_of : Around → Loop
loop_of l = record { name = l.name; label = l.label }

abbrev pub loops_of : List Around → List Loop
loops_of = map loop_of

-- the end of statements, and that of branches
abbrev pub end_of : Name → Numbers → Statements → End
end_of me at body = record { numbers = behind me at body; falls = falls body }

abbrev pub end_of_branches : Name → Numbers → Branches → End
end_of_branches me at branches = record { numbers = behind_in me at branches; falls = some_falls branches }

-- the end of statements, of which the last one ends so; and that of branches
abbrev pub past : End → End → End
past e last = record { numbers = last.numbers; falls = e.falls && last.falls }

abbrev pub either : End → End → End
either e last = record { numbers = last.numbers; falls = e.falls || last.falls }

-- The lines of worked programs with given tables.
use Rattle.std.specs.Prelude.{◌≡◌, ◌++◌, List, Bool, codes, [], ◌∷◌, Contains}
use Rattle.mg_text.specs.Call.{Name}
use Rattle.mg_sets.specs.Sets.{IsSubset}
use Rattle.jv_core.specs.Tree.{Program}
use Rattle.use_rules.specs.Keys.{Tables}
use Rattle.use_rules.specs.State.{Out}
use Rattle.use_rules.specs.Tables.{all_outs}
use Rattle.use_rules.specs.examples.Holder.{both_reached, holder_tables, may_be_null, swaps, swap_tables}
use Rattle.use_sights.specs.Calls.{all_sites}
use Rattle.mg_shown.specs.Shown.{AreListed, shown_text}
use Rattle.mg_shown.specs.examples.Adder as adder
use Rattle.mg_shown.specs.examples.Turns.{names, reached, turns, turns_tables, once, once_tables}

-- the calls stand in the text as they are listed, all that flows out is within the tables, and the lines are these
pub record Shows (files : List Name) (p : Program) (reached : List (List Bool)) (t : Tables) (text : Name) : Type 0 where
  pub listed : AreListed p (all_sites p)
  pub shown : shown_text files p reached t (all_sites p) ≡ text
  pub takes : (o : Out) → Contains (all_outs p reached t) o → IsSubset o.set (t o.key)

abbrev pub holder_files : List Name
holder_files = codes "Counter.java" ∷ codes "P.protocol" ∷ codes "Holder.java" ∷ []

pub record ExamplesShow : Type 0 where
  pub client : Shows adder.client_names adder.client adder.reached adder.client_tables
      (codes "CMain.java:8:13: c.send_addIntToS State0 -> State1\n" ++ (codes "CMain.java:9:17: c.receive_totalIntFromS State1 -> State0\n"
      ++ codes "CMain.java:13:9: c.send_byeToS State0 -> end\n"))
  -- the call that isn't offered leads nowhere
  pub bad : Shows adder.bad_names adder.bad adder.reached adder.bad_tables
      (codes "Bad.java:4:9: c.send_addIntToS State0 -> State1\n" ++ codes "Bad.java:5:9: c.send_byeToS State1 -> -\n")
  -- a loop whose head has two states
  pub turns : Shows names turns reached turns_tables
      (codes "Main.java:5:17: k.m A B -> A B\n" ++ codes "Main.java:6:5: k.q A B -> end\n")
  -- behind a call that fails nothing is left; a method that nobody calls has nothing in its parameters, and has the objects that it makes
  pub once : Shows names once reached once_tables
      (codes "Main.java:4:5: k.m A -> B\n" ++ (codes "Main.java:4:12: k.m B -> -\n" ++ (codes "Main.java:4:19: k.q - -> -\n"
      ++ (codes "Main.java:6:27: x.q - -> -\n" ++ codes "Main.java:6:49: k.m A -> B\n"))))
  -- fields
  pub holder : Shows holder_files may_be_null both_reached holder_tables (codes "Holder.java:5:5: c.stop null Live -> end\n")
  pub swaps : Shows holder_files swaps both_reached swap_tables
      (codes "Holder.java:6:5: c.add Live -> Live\n" ++ codes "Holder.java:7:5: c.stop Live -> end\n")

-- Worked rows: what is said of calls of the client of an adder, and of one that fails.
use Rattle.std.specs.Prelude.{◌≡◌, ℕ, ◌++◌, codes}
use Rattle.jv_core.specs.declared.tree.Var.TheVariants.{Slot}
use Rattle.use_rules.specs.examples.Counter.{at}
use Rattle.use_sights.specs.declared.site.Site.{Site}
use Rattle.mg_shown.specs.examples.Adder.{client, client_tables, bad, bad_tables, reached}
use Rattle.mg_shown.specs.examples.Turns as turns
use Rattle.lsp_sights.specs.Texts.{hint_text, hover_text}

-- a call of a method on the first variable of another, at this line and column of the second file
abbrev pub site : (within line column method : ℕ) → Site
site n l c k = record { place = at 1 l c; within = n; variable = Slot 0; method = k }

pub record Rows : Type 0 where
  pub add : hint_text client reached client_tables (site 3 8 13 0) ≡ codes ": State1"
  pub total : hint_text client reached client_tables (site 3 9 17 1) ≡ codes ": State0"
  pub bye : hint_text client reached client_tables (site 3 13 9 2) ≡ codes ": end"
  -- what isn't offered leads nowhere
  pub bad_bye : hint_text bad reached bad_tables (site 3 5 9 2) ≡ codes ": -"
  -- a loop whose head has two states
  pub both : hint_text turns.turns turns.reached turns.turns_tables (site 2 5 17 0) ≡ codes ": A B"
  pub add_said : hover_text client reached client_tables (site 3 8 13 0)
      ≡ codes "c.send_addIntToS State0 -> State1\n" ++ codes "State0: send_addIntToS send_byeToS\n"
  pub bad_said : hover_text bad reached bad_tables (site 3 5 9 2)
      ≡ codes "c.send_byeToS State1 -> -\n" ++ codes "State1: receive_totalIntFromS\n"
  pub both_said : hover_text turns.turns turns.reached turns.turns_tables (site 2 6 5 1)
      ≡ codes "k.q A B -> end\n" ++ (codes "A: m q\n" ++ codes "B: m q\n")

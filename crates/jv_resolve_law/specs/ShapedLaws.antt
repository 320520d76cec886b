-- What the grammar fixes of trees.
use Rattle.std.specs.Prelude.{List}
use Rattle.std.specs.List.{AllByRecursion}
use Rattle.jv_tree.specs.declared.token.Token.{Token}
use Rattle.jv_tree.specs.Source.{File}
use Rattle.jv_tree.specs.Files.{Spells}
use Rattle.jv_rules.specs.Program.{Program}
use Rattle.jv_rules.specs.Shape.{IsShaped}
use Rattle.jv_resolve_law.specs.Targets.{OnlyVariablesAreAssigned}

-- a file has a text
pub record IsSpelled (file : File) : Type 0 where
  pub tokens : List Token
  pub spelled : Spells file tokens

-- a program is as the grammar has it
pub record IsGrammatical (program : Program) : Type 0 where
  pub shaped : IsShaped program
  pub assigns : OnlyVariablesAreAssigned program

-- A program whose files have texts is as the grammar has it.
abbrev pub SpelledIsShaped : Type 0
SpelledIsShaped = (program : Program) → AllByRecursion IsSpelled program.files → IsGrammatical program

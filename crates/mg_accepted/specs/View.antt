-- What judging the files of a command may answer.
use Rattle.std.specs.Prelude.{List}
use Rattle.use_verdict.specs.Verdict.{AreAnswer}
use Rattle.mg_sources.specs.Files.{Source}
use Rattle.mg_accepted.specs.declared.accepted.AcceptedProgram.{AcceptedProgram}
use Rattle.mg_accepted.specs.Accepted.{AreAccepted}

-- the core of accepted files, with its least tables
pub record IsProgramOf (files : List Source) (a : AcceptedProgram) : Type 0 where
  pub files_are : AreAccepted files a.core
  pub tables_are : AreAnswer a.core a.accepted.tables

use Rattle.mg_sources.specs.Files.{sources}
use Rattle.mg_verified.proofs.Apart.{only_line, refused_line, never_badly}
use Rattle.mg_verified.proofs.verified.verify_files.Goals as goal

pub returns-clause-only : goal.returns-clause-only
returns-clause-only c = λ names same. only_line (sources names c.args.contents.now) c.tried.result (c.tried.ensures names same)

pub returns-clause-refused : goal.returns-clause-refused
returns-clause-refused c = λ names same. refused_line (sources names c.args.contents.now) c.tried.result (c.tried.ensures names same)

pub returns-clause-sound : goal.returns-clause-sound
returns-clause-sound c = λ names same. never_badly (sources names c.args.contents.now) c.tried.result (c.tried.ensures names same)

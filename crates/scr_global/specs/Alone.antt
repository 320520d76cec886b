-- Steps of a protocol that goes on as no other: what projection gives holds no `do`.
use Rattle.std.specs.Prelude.{List, []}
use Rattle.scr_tree.specs.Steps.{Act, Position, Silent as SilentIn, Step as StepIn, Run as RunIn, Finished as FinishedIn}

abbrev pub Silent : Position → Position → Type 0
Silent = SilentIn []

abbrev pub Step : Position → Act → Position → Type 0
Step = StepIn []

abbrev pub Run : Position → List Act → Position → Type 0
Run = RunIn []

abbrev pub Finished : Position → Type 0
Finished = FinishedIn []

-- The law: files that are accepted keep to their typestates.
use Rattle.std.specs.Prelude.{◌≢◌, ℕ, List, None}
use Rattle.mg_text.specs.Call.{Name}
use Rattle.jv_values.specs.Values.{Inputs}
use Rattle.jv_meaning.specs.Meaning.{mean}
use Rattle.jv_core.specs.Tree as Core
use Rattle.jv_core.specs.Meaning.{main_of}
use Rattle.use_meant_law.specs.Laws.{KeepsTo}
use Rattle.mg_sources.specs.Files.{Source}
use Rattle.mg_accepted.specs.Accepted.{AreAccepted}

-- For each class with `main`, whatever the other roles sent and whatever the budget.
abbrev pub AcceptedKeepTypestates : Type 0
AcceptedKeepTypestates = (files : List Source) (core : Core.Program) (accepted : AreAccepted files core) (class : Name) →
    main_of core class ≢ None →
    (inputs : Inputs) (budget : ℕ) → KeepsTo accepted.have.program (mean accepted.have.program.files class inputs budget)

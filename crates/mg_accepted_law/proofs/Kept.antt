-- Accepted files are a well typed program whose core some tables solve.
use Rattle.std.proofs.Common.{List, length, ap, ◌∙◌, subst}
use Rattle.jv_rules.specs.Faults.{IsWellTyped}
use Rattle.jv_rules.specs.Program.{Program}
use Rattle.jv_rules.specs.Shape.{IsShaped}
use Rattle.jv_names.specs.Laws.{MainsAreTheSame}
use Rattle.jv_resolve_law.specs.ShapedLaws.{SpelledIsShaped}
use Rattle.use_meant_law.specs.Laws.{SourcesKeepTypestates}
use Rattle.mg_sources.specs.Files.{Source}
use Rattle.mg_accepted.specs.Program.{AreWellTyped}
use Rattle.mg_accepted.proofs.Grammatical.{shaped, numbered}
use Rattle.mg_accepted_law.specs.KeptLaws.{AcceptedKeepTypestates}

pub well_typed : (files : List Source) (program : Program) → AreWellTyped files program → IsWellTyped program
well_typed files program h = record {
  origins = h.sourced.origins;
  numbered = numbered h.are.spell ∙ ap (λ (z : Program). length z.typestates) h.is;
  declarations = h.declarations;
  methods = h.methods;
}

pub accepted_keep : SpelledIsShaped → MainsAreTheSame → SourcesKeepTypestates → AcceptedKeepTypestates
accepted_keep law mains kept files core accepted class has =
    let have = accepted.have in
    let some = accepted.solved in
    kept have.program core (well_typed files have.program have.are) (subst IsShaped have.are.is (shaped law have.are.are.spell)) have.stands
    some.reached some.are some.tables some.solves class (λ none. has ((mains have.program core have.stands class).none_there none))

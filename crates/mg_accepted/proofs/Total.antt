-- Files that are a well typed program have a core, where it is within the bounds.
use Rattle.std.proofs.Common.{◌≡◌, ◌≢◌, ◌∙◌, List, length, Option, Some, None, refl, ap, subst}
use Rattle.jv_core.specs.Tree as Core
use Rattle.jv_resolve_law.specs.Laws.{ResolvingIsRight, ResolvingIsTotal}
use Rattle.jv_resolve_law.specs.Members.{resolving}
use Rattle.jv_resolve_law.specs.Targets.{OnlyVariablesAreAssigned}
use Rattle.jv_rules.specs.Faults.{IsWellTyped}
use Rattle.jv_rules.specs.Program.{Program}
use Rattle.jv_resolve_law.specs.ShapedLaws.{SpelledIsShaped}
use Rattle.mg_sources.specs.Files.{Source}
use Rattle.mg_accepted.specs.Laws.{WellTypedIsResolved}
use Rattle.mg_accepted.specs.Program.{AreWellTyped}
use Rattle.mg_accepted.proofs.Grammatical.{assigns, numbered}

well_typed : (files : List Source) (program : Program) → AreWellTyped files program → IsWellTyped program
well_typed files program h = record {
  origins = h.sourced.origins;
  numbered = numbered h.are.spell ∙ ap (λ (p : Program). length p.typestates) h.is;
  declarations = h.declarations;
  methods = h.methods;
}

given : (core : Option Core.Program) → core ≢ None → (c : Core.Program) × (core ≡ Some c)
given (Some c) h = (c, refl)
given None h = absurd (h refl)

pub resolved : SpelledIsShaped → ResolvingIsRight → ResolvingIsTotal → WellTypedIsResolved
resolved spelled right total files program h =
    let typed = well_typed files program h in
    let only : OnlyVariablesAreAssigned program = subst OnlyVariablesAreAssigned h.is (assigns spelled h.are.spell) in
    let core = given (resolving program) (total program typed only) in (
      core.0,
      core.1,
      λ bounded. record {
        program = program;
        are = h;
        stands = right program core.0 typed core.1 bounded;
        resolved =
            core.1;
      },
    )

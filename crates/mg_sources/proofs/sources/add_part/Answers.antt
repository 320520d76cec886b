use Rattle.std.proofs.Common.{refl, sym, subst}
use Rattle.std.specs.Prelude.{OnOk}
use Rattle.mg_sources.specs.View.{sourced_of}
use Rattle.mg_sources.specs.declared.part.Part.{Part as KeptPart}
use Rattle.mg_sources.specs.declared.sources.Sources.{Sources as KeptSources}
use Rattle.mg_sources.specs.Parts.{part_of}
use Rattle.mg_sources.specs.inner.Answers.{Appends}
use Rattle.mg_sources.proofs.Programs.{adds_typestate, adds_file}
use Rattle.mg_sources.proofs.sources.add_part.Goals as goal

pub returns-in-States : goal.returns-in-States
returns-in-States c =
    subst (λ (z : KeptPart). OnOk c.add_typestate.result (Appends c.args.number (part_of z) (sourced_of c.args.sources.now)
    (sourced_of c.add_typestate.new.sources)))
    (sym c.in-States.is)
    (adds_typestate c.add_typestate.result c.args.number c.in-States.typestate c.args.sources.now c.add_typestate.new.sources
    c.add_typestate.ensures.files
    c.add_typestate.ensures.typestates c.add_typestate.ensures.origins)

pub returns-in-Classes : goal.returns-in-Classes
returns-in-Classes c =
    let after : KeptSources = record {
      files = c.push.new.self;
      typestates = c.args.sources.now.typestates;
      origins =
          c.args.sources.now.origins;
    } in
    subst (λ (z : KeptPart). OnOk c.push.result (Appends c.args.number (part_of z) (sourced_of c.args.sources.now) (sourced_of after)))
    (sym c.in-Classes.is)
    (adds_file c.push.result c.args.number c.in-Classes.file c.args.sources.now after c.push.ensures.ok refl refl)

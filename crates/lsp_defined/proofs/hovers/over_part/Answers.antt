use Rattle.std.proofs.Common.{Some, subst}
use Rattle.mg_sources.specs.Files.{source_of}
use Rattle.mg_sources.specs.Parts.{part_of}
use Rattle.mg_sources.specs.declared.part.Part.{Part as KeptPart}
use Rattle.lsp_defined.specs.Files.{IsPartOf}
use Rattle.lsp_defined.proofs.Hovering.{part_written}
use Rattle.lsp_defined.proofs.hovers.over_part.Goals as goal

pub over_states-requires : goal.over_states-requires
over_states-requires c =
    part_written (source_of c.args.file c.requires.0 c.args.text.now) _
    (subst (λ (p : KeptPart). IsPartOf (source_of c.args.file c.requires.0 c.args.text.now) (Some (part_of p))) c.in-States.is
    c.requires.1)

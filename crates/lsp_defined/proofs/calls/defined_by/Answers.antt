use Rattle.std.proofs.Common.{◌∙◌, List, option_map, subst}
use Rattle.std.proofs.lemmas.Result.{IfOk-weaker}
use Rattle.mg_text.specs.declared.place.Place.{Place}
use Rattle.mg_sources.specs.Parts.{part_of}
use Rattle.lsp_defined.specs.Locations.{AreLocated}
use Rattle.lsp_defined.proofs.calls.defined_by.Goals as goal

pub returns : goal.returns
returns c =
    IfOk-weaker c.locations_in.result _ _ (λ v are.
    record {
      part = option_map part_of c.in_ok-part.part;
      spells = c.in_ok-part.ensures;
      are = subst (λ (ps : List Place). AreLocated c.args.encoding c.args.file.name.now c.args.file.bytes.now ps v.items)
          (c.as_slice.ensures.value ∙ c.in_ok-places.ensures) are;
    }) c.locations_in.ensures

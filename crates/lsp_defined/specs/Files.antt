-- What a file of a program spells.
use Rattle.std.specs.Prelude.{Option, Some, None}
use Rattle.mg_refusal.specs.Refusals.{Refusal}
use Rattle.mg_sources.specs.Files.{Source}
use Rattle.mg_sources.specs.Reading.{Part, Reads, Refuses}

-- the part that the file spells; none where its reader refuses it
pub data IsPartOf (source : Source) : Option Part → Type 0 where
  reads : {part : Part} → Reads source part → IsPartOf source (Some part)
  refused : {r : Refusal} → Refuses source r → IsPartOf source None

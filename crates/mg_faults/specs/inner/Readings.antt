-- What is found of a file by its reader.
use Rattle.std.specs.Prelude.{Option, Some, None}
use Rattle.mg_refusal.specs.Refusals.{Refusal}
use Rattle.mg_sources.specs.Files.{Source}
use Rattle.mg_sources.specs.Reading.{Part, Reads, Refuses}

-- its refusal, where it is refused
abbrev pub IsRefusal : Source → Option Refusal → Type 0
IsRefusal source None = (part : Part) × Reads source part
IsRefusal source (Some r) = Refuses source r

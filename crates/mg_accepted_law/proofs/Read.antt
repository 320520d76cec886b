-- Protocols that are read are valid.
use Rattle.std.proofs.lemmas.Grind.{merely}
use Rattle.scr_tree.specs.Tree.{LocalTree}
use Rattle.scr_tree.specs.Valid.{IsValid}
use Rattle.scr_read.specs.Outcome as scribble
use Rattle.scr_read.proofs.Named.{can_be_written}
use Rattle.scr_judge.proofs.Faultless.{faultless}
use Rattle.mg_sources.specs.Files.{Source}
use Rattle.mg_sources.specs.Reading.{Protocol, Reads, protocol}

pub valid_read : (source : Source) (local : LocalTree) → Reads source (Protocol local) → ∥ IsValid local ∥₁
valid_read source local (protocol kind (scribble.found {w = w} spells fine)) =
    merely (faultless w fine (can_be_written source.number source.bytes w spells))

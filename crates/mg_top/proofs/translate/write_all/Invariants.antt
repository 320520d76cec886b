use Rattle.std.proofs.Common.{map, take}
use Rattle.mg_sources.specs.Parts.{part_of}
use Rattle.mg_top.specs.inner.Preparing.{target_of, EachIsWritten, locals_in}
use Rattle.mg_top.proofs.translate.write_all.Given as goal

abbrev pub invariant-loop-part : goal.invariant-loop-part
invariant-loop-part l = EachIsWritten (target_of l.to) (locals_in (map part_of (take l.part-index l.parts)))
    l.writes.items

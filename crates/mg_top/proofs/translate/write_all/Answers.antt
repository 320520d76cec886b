use Rattle.std.proofs.Common.{List, [], map, sym, subst, arith}
use Rattle.std.proofs.lemmas.List.{take_all}
use Rattle.mg_sources.specs.Parts.{part_of}
use Rattle.mg_sources.specs.declared.part.Part.{Part as KeptPart}
use Rattle.mg_top.specs.inner.Preparing.{target_of, EachIsWritten, none, locals_in}
use Rattle.mg_top.proofs.SourceLemmas.{written_more}
use Rattle.mg_top.proofs.translate.write_all.Goals as goal

pub loop-part-init : goal.loop-part-init
loop-part-init c = subst (EachIsWritten (target_of c.args.to.now) []) (sym c.new-writes.ensures) none

pub loop-part-preserved : goal.loop-part-preserved
loop-part-preserved c =
    written_more c.args.parts.now c.loop-part.part-index c.part-item.result c.loop-part-test.true c.part-item.is c.loop-part.invariant
    c.in_ok-add_part.ensures

pub returns : goal.returns
returns c =
    subst (λ (z : List KeptPart). EachIsWritten (target_of c.args.to.now) (locals_in (map part_of z))
    c.loop-part.writes.items)
    (take_all c.loop-part.part-index c.args.parts.now (omega arith)) c.loop-part.invariant

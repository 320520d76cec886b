use Rattle.std.proofs.Common.{arith}
use Rattle.std.proofs.lemmas.Grind.{common_steps}
use Rattle.jv_types.specs.inner.Kept.{enum_kept}
use Rattle.jv_types.proofs.Building.{none_here, none_later, kept_more}
use Rattle.jv_types.proofs.build.enum_entries.Goals as goal

pub add_enum-requires : goal.add_enum-requires
add_enum-requires c = none_here c.args.decls.now c.loop-decl.decl-index c.decl-item.result c.loop-decl-test.true c.decl-item.is
    c.loop-decl.invariant.members

pub loop-decl-preserved : goal.loop-decl-preserved
loop-decl-preserved c = record {
  members = none_later c.args.decls.now c.loop-decl.decl-index c.decl-item.result c.loop-decl-test.true c.decl-item.is
      c.loop-decl.invariant.members;
  enums = kept_more c.args.decls.now c.loop-decl.decl-index c.decl-item.result c.loop-decl-test.true c.decl-item.is enum_kept _ _ _
      c.loop-decl.invariant.enums c.in_ok-add_enum.ensures;
}

pub returns : goal.returns
returns c = grind (arith, common_steps)

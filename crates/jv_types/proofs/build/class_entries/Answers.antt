use Rattle.std.proofs.Common.{arith}
use Rattle.std.proofs.lemmas.Grind.{common_steps}
use Rattle.jv_types.specs.inner.Kept.{class_kept}
use Rattle.jv_types.proofs.Building.{none_here, none_later, kept_more}
use Rattle.jv_types.proofs.build.class_entries.Goals as goal

pub add_class-requires-clause-member : goal.add_class-requires-clause-member
add_class-requires-clause-member c = none_here c.args.decls.now c.loop-decl.decl-index c.decl-item.result c.loop-decl-test.true
    c.decl-item.is c.loop-decl.invariant.members

pub loop-decl-preserved : goal.loop-decl-preserved
loop-decl-preserved c =
    let h = c.in_ok-add_class.ensures.numbers (record { each = c.loop-decl.invariant.numbers; all = c.loop-decl.invariant.methods }) in
    record {
      members = none_later c.args.decls.now c.loop-decl.decl-index c.decl-item.result c.loop-decl-test.true c.decl-item.is
          c.loop-decl.invariant.members;
      classes = kept_more c.args.decls.now c.loop-decl.decl-index c.decl-item.result c.loop-decl-test.true c.decl-item.is class_kept _ _ _
          c.loop-decl.invariant.classes c.in_ok-add_class.ensures.classes;
      follow = c.in_ok-add_class.ensures.follow c.loop-decl.invariant.follow;
      numbers = h.each;
      methods = h.all;
    }

pub returns-clause-numbers : goal.returns-clause-numbers
returns-clause-numbers c = c.loop-decl.invariant.numbers

pub returns-clause-classes : goal.returns-clause-classes
returns-clause-classes c = grind (arith, common_steps)

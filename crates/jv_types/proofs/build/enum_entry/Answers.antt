use Rattle.jv_types.proofs.Building.{constants_named}
use Rattle.jv_types.proofs.build.enum_entry.Goals as goal

pub invariant_of-result : goal.invariant_of-result
invariant_of-result c = record {
  named = constants_named c.args.of.now c.requires c.in_ok-constants.constants c.as_slice.result.now c.as_slice.ensures.items
      c.in_ok-constants.ensures;
}

-- What the program's tests say.
use Rattle.std.specs.Prelude.{List, map, option_map}
use Rattle.vm_model.specs.Descriptors.{type_view}
use Rattle.vm_model.specs.Tests as tests
use Rattle.vm_step.specs.declared.needs.Want.{Want}
use Rattle.vm_step.specs.declared.needs.Want.TheVariants as wants
use Rattle.vm_step.specs.declared.needs.Needs.{Needs}
use Rattle.vm_actions.specs.Table.{sort_of}

abbrev pub want_of : Want → tests.Want
want_of wants.Any = tests.Any
want_of (wants.Sorted sort) = tests.Sorted (sort_of sort)
want_of (wants.Typed type) = tests.Typed (type_view type)
want_of (wants.Returned sort result) = tests.Returned (sort_of sort) (option_map type_view result)

abbrev pub wants_of : List Want → List tests.Want
wants_of wants = map want_of wants

abbrev pub needs_of : Needs → tests.Needs
needs_of n = record {
  takes = wants_of n.takes.now;
  reads = option_map (λ r. (r.0, sort_of r.1)) n.reads;
  locals = n.locals;
  of_locals = n.of_locals;
  returns = n.returns;
  operands = n.operands;
  max_stack = n.max_stack;
}

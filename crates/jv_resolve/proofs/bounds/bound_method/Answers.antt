use Rattle.std.proofs.Common.{◌≤◌, ◌+◌, ◌-◌, ◌^◌, map, length}
use Rattle.std.specs.Prelude.{slice_get}
use Rattle.jv_core.specs.Tree as Core
use Rattle.jv_core.specs.View.{class_of, method_of}
use Rattle.jv_resolve.proofs.Bounding.{none_there, ok_there}
use Rattle.jv_resolve.proofs.bounds.bound_method.Goals as goal

pub returns-in-None : goal.returns-in-None
returns-in-None c = λ k h. none_there (slice_get (map class_of c.args.classes.now) c.args.method.now.class) k c.in-None.ensures h

pub returns-in-Some : goal.returns-in-Some
returns-in-Some c =
    ok_there (λ (k : Core.Class). length (method_of c.args.method.now).slots + length k.fields ≤ 2 ^ 32 - 1) c.bound_variables.result
    (slice_get (map class_of c.args.classes.now) c.args.method.now.class) (class_of c.in-Some.class.now) c.in-Some.ensures
    c.bound_variables.ensures

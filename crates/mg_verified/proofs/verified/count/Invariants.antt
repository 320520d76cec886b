use Rattle.std.proofs.Common.{◌≡◌, ◌+◌, drop}
use Rattle.vm_model.specs.View.{classes_of}
use Rattle.mg_verified.specs.Verified.{methods_of}
use Rattle.mg_verified.proofs.verified.count.Given as goal

abbrev pub invariant-loop-class : goal.invariant-loop-class
invariant-loop-class l = l.count + methods_of (classes_of (drop l.class-index l.classes)) ≡ methods_of (classes_of l.classes)

use Rattle.std.proofs.Common.{map, drop}
use Rattle.cls_tree.specs.View.{member_of}
use Rattle.jv_core.specs.Tree.{Class}
use Rattle.gen_rules.specs.Classes.{method_in_file}
use Rattle.gen_rules.specs.Limits.{OfMethod}
use Rattle.gen_members.specs.Parts.{compiled_of}
use Rattle.gen_members.proofs.Filing.{AreLeft}
use Rattle.gen_members.proofs.classes.methods.Given as goal

-- the methods so far and those that are left are all, and nothing was too large
abbrev pub invariant-loop-making : goal.invariant-loop-making
invariant-loop-making l = (k : Class) →
    AreLeft l.fn.core k method_in_file OfMethod
    (map (compiled_of l.fn.core) (drop l.making-index l.fn.makings)) (map member_of l.members.items) l.pool
    (map (compiled_of l.fn.core) l.fn.makings) l.fn.pool

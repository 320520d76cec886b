use Rattle.std.proofs.Common.{sym, ◌∙◌}
use Rattle.vm_model.specs.Links.{is_named, built_members}
use Rattle.vm_load.specs.Declaring.{member_of}
use Rattle.vm_load.proofs.Sought.{passed_over}
use Rattle.vm_load.proofs.member.built_in.Goals as goal

pub loop-built-preserved : goal.loop-built-preserved
loop-built-preserved c =
    passed_over (is_named c.args.op (member_of c.args.reference)) built_members c.loop-built.built-index _ c.loop-built-test.true
    (sym c.is_named.ensures ∙ c.if-is_named.false)
    ∙ c.loop-built.invariant

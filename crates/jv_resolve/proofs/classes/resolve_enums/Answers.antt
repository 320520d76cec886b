use Rattle.std.proofs.Common.{map}
use Rattle.jv_tree.specs.View.{enum_of as source_enum}
use Rattle.jv_core.specs.View.{enum_of}
use Rattle.jv_resolve_law.specs.Members.{enum, enums}
use Rattle.jv_resolve.proofs.Threads.{loop_start, loop_more, loop_done}
use Rattle.jv_resolve.proofs.MemberSteps.{same_enums}
use Rattle.jv_resolve.proofs.classes.resolve_enums.Goals as goal

pub loop-entry-init : goal.loop-entry-init
loop-entry-init c =
    loop_start enum (λ e. source_enum e.of.now) (enum_of) (enums c.args.names.now (map (λ e. source_enum e.of.now) c.args.entries.now))
    c.args.names.now c.args.entries.now c.new-resolved.result.items
    (same_enums c.args.names.now (map (λ e. source_enum e.of.now) c.args.entries.now)) c.new-resolved.ensures

pub loop-entry-preserved : goal.loop-entry-preserved
loop-entry-preserved c =
    loop_more enum (λ e. source_enum e.of.now) (enum_of) (enums c.args.names.now (map (λ e. source_enum e.of.now) c.args.entries.now))
    c.loop-entry.resolved.items c.loop-entry.names c.args.entries.now c.loop-entry.entry-index c.loop-entry.invariant
    c.entry-item.result c.loop-entry-test.true c.entry-item.is c.in_ok-one.one c.push.new.self.items c.resolve_enum.new.names
    (c.in_ok-one.ensures) c.in_ok-push.ensures.ok

pub returns : goal.returns
returns c = loop_done enum (λ e. source_enum e.of.now) (enum_of)
    (enums c.args.names.now (map (λ e. source_enum e.of.now) c.args.entries.now)) c.loop-entry.resolved.items c.loop-entry.names
    c.args.entries.now c.loop-entry.entry-index c.loop-entry.invariant c.loop-entry-test.false

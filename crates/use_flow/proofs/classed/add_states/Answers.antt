use Rattle.std.proofs.Common.{◌++◌, map, ap, ◌∙◌, arith}
use Rattle.jv_core.specs.View.{field_of}
use Rattle.use_rules.specs.declared.key.TableKey.TheVariants as keys
use Rattle.use_flow.specs.inner.Listing.{field_entries}
use Rattle.use_flow.proofs.Adding.{state_listed}
use Rattle.use_flow.proofs.classed.add_states.Goals as goal

pub loop-place-preserved : goal.loop-place-preserved
loop-place-preserved c =
    state_listed c.args.class (map field_of c.args.fields.now) c.loop-place.place c.args.states.now c.loop-place.entries.items
    c.add_fields.new.entries.items _ (omega arith)
    (c.in_ok-add_fields.ensures
    ∙ ap (λ q. c.loop-place.entries.items ++ field_entries (keys.Field c.args.class q) (map field_of c.args.fields.now))
    c.in_ok-state.ensures) c.loop-place.invariant

use Rattle.std.proofs.Common.{map}
use Rattle.ts_tree.specs.View.{state_of}
use Rattle.ts_read.proofs.Meant.{broken_told, proper_states, typestate_meant}
use Rattle.ts_read.proofs.reading.meant_by.Goals as goal

pub returns-in-Some : goal.returns-in-Some
returns-in-Some c =
    broken_told c.as_slice-listed.result.now c.in_ok-names.names c.in_ok-broken.field-0 c.in_ok-names.ensures c.in_ok-broken.ensures
    c.args.file c.args.written.now.name c.args.written.now.states.items c.in-Some.broken c.fault_for.result
    c.as_slice-listed.ensures.items c.if-listed-gt-MAX_STATES.false c.in-Some.is c.fault_for.ensures

pub invariant_of-result : goal.invariant_of-result
invariant_of-result c =
    proper_states c.as_slice-listed.result.now c.in_ok-names.names c.in_ok-broken.field-0 c.in_ok-names.ensures c.in_ok-broken.ensures
    (map state_of c.in_ok-states-in-None.states.items) c.in-None.is c.in_ok-states-in-None.ensures

pub returns : goal.returns
returns c =
    typestate_meant c.as_slice-listed.result.now c.in_ok-names.names c.in_ok-broken.field-0 c.in_ok-names.ensures c.in_ok-broken.ensures
    c.args.written.now.name c.in_ok-name-in-None.name c.args.written.now.states.items (map state_of c.in_ok-states-in-None.states.items)
    c.as_slice-listed.ensures.items c.if-listed-gt-MAX_STATES.false c.in-None.is c.in_ok-name-in-None.ensures c.in_ok-states-in-None.ensures

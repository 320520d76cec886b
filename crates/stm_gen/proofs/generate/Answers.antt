use Rattle.std.proofs.Common.{◌≤◌, ◌++◌, ◌∙◌, ◌<◌, ◌^◌, List, map, length, sym, ap, subst, arith}
use Rattle.std.specs.Prelude.{codes}
use Rattle.std.proofs.lemmas.List.{length-map}
use Rattle.mg_text.specs.Call.{Name}
use Rattle.scr_tree.specs.Tree.{LocalTree}
use Rattle.scr_tree.specs.Local.{tree_of}
use Rattle.scr_tree.specs.Meaning.{protocol_of}
use Rattle.scr_tree.specs.Steps.{Position}
use Rattle.scr_trace.specs.Positions.{state_positions}
use Rattle.scr_trace.specs.Graph.{Graph}
use Rattle.scr_trace.specs.inner.View.{edges_of, graph_of_work, work_of}
use Rattle.scr_trace.proofs.Automaton.{first_state}
use Rattle.scr_trace.proofs.Telling.{valid_told}
use Rattle.ts_tree.specs.Typestate.{State, Typestate}
use Rattle.ts_tree.specs.View.{state_of}
use Rattle.ts_tree.specs.Proper.{IsProper}
use Rattle.stm_gen.specs.Laid.{AreLaid}
use Rattle.stm_gen.specs.Numbered.{placed, entry}
use Rattle.stm_gen.proofs.Proper.{HaveOneSignature, proper}
use Rattle.stm_gen.proofs.Acting.{one_signature}
use Rattle.stm_gen.proofs.Agree.{agrees, laid}
use Rattle.stm_gen.proofs.Numbering.{numbered_states}
use Rattle.stm_gen.proofs.Few.{few}
use Rattle.stm_gen.proofs.generate.Goals as goal

pub invariant_of-result : goal.invariant_of-result
invariant_of-result c =
    let tree : LocalTree = tree_of c.args.local.now in
    let all : List Position = state_positions (protocol_of tree) in
    let g : Graph = graph_of_work (work_of c.in_ok-laid.laid) in
    let told = valid_told tree c.args.local.now.valid in
    let along = c.in_ok-laid.ensures.automaton in
    let few : length g.states < 2 ^ 64 = omega (
      arith,
      c.in_ok-states.ensures.few,
      length-map (work_of c.in_ok-laid.laid).cells
          (edges_of (work_of c.in_ok-laid.laid)),
    ) in
    subst IsProper (sym c.in_ok-states.ensures.made) (proper tree.me (protocol_of tree) all g.states few along.states told
    (one_signature tree c.args.local.now.valid told g.states along.states))

pub returns-clause-numbered : goal.returns-clause-numbered
returns-clause-numbered c =
    let tree : LocalTree = tree_of c.args.local.now in
    let name = c.in_ok-name.ensures ∙ ap (λ (me : Name). me ++ codes "Protocol") c.me.ensures in
    let states = c.in_ok-states.ensures.made ∙ numbered_states tree c.args.local.now.valid (work_of c.in_ok-laid.laid)
    c.in_ok-laid.ensures.laid in
    λ i. record { name = name i; states = states i }

pub returns-clause-few : goal.returns-clause-few
returns-clause-few c =
    let tree : LocalTree = tree_of c.args.local.now in
    let states = c.in_ok-states.ensures.made ∙ numbered_states tree c.args.local.now.valid (work_of c.in_ok-laid.laid)
    c.in_ok-laid.ensures.laid in
    subst (λ (ss : List State). length ss ≤ 1000) (sym states) (few tree c.args.local.now.valid (entry (placed 0 (protocol_of tree))))

pub returns-clause-laid : goal.returns-clause-laid
returns-clause-laid c =
    let tree : LocalTree = tree_of c.args.local.now in
    let all : List Position = state_positions (protocol_of tree) in
    record {
      name = c.in_ok-name.ensures ∙ ap (λ (me : Name). me ++ codes "Protocol") c.me.ensures;
      states = subst (λ (ss : List State). AreLaid tree.me (protocol_of tree) all all 0 ss) (sym c.in_ok-states.ensures.made)
          (laid tree.me (protocol_of tree) all 0 all (graph_of_work (work_of c.in_ok-laid.laid)).states
          c.in_ok-laid.ensures.automaton.states);
    }

pub returns-clause-agrees : goal.returns-clause-agrees
returns-clause-agrees c =
    let tree : LocalTree = tree_of c.args.local.now in
    let g : Graph = graph_of_work (work_of c.in_ok-laid.laid) in
    let along = c.in_ok-laid.ensures.automaton in
    let told = valid_told tree c.args.local.now.valid in
    let t : Typestate = record { name = c.in_ok-name.name; states = map state_of c.in_ok-states.states.items } in
    agrees tree g along told t c.in_ok-states.ensures.made
    (subst (λ (ss : List State). HaveOneSignature tree.me ss) (sym c.in_ok-states.ensures.made)
    (one_signature tree c.args.local.now.valid told g.states along.states))
    (first_state tree c.args.local.now.valid (work_of c.in_ok-laid.laid) c.in_ok-laid.ensures.laid)

use Rattle.std.proofs.Common.{◌≡◌, ◌∙◌, ap, sym, refl, subst}
use Rattle.scr_tree.specs.Local.{tree_of}
use Rattle.scr_tree.specs.Meaning.{protocol_of}
use Rattle.scr_tree.specs.Steps.{start}
use Rattle.scr_tree.specs.Tree.{LocalTree}
use Rattle.scr_trace.specs.declared.arrow.Hop.{Hop}
use Rattle.scr_trace.specs.declared.walk.Walk.{Walk}
use Rattle.scr_trace.specs.declared.standing.Standing.{Standing}
use Rattle.scr_trace.specs.Positions.{state_positions, ComesTo}
use Rattle.scr_trace.specs.inner.View.{work_of, standing_of}
use Rattle.scr_trace.proofs.Walks.{starts}
use Rattle.scr_trace.proofs.walk.Walk.new.Goals as goal

pub returns-clause-stands : goal.returns-clause-stands
returns-clause-stands c =
    let tree : LocalTree = tree_of c.args.local.now in
    let at : c.standing-standing.result ≡ standing_of (work_of c.in_ok-laid.laid) c.in_ok-laid.laid.next = c.standing-standing.ensures ∙
    ap (λ (h : Hop). standing_of (work_of c.in_ok-laid.laid) h) c.start.ensures in
    record {
      of = refl;
      along = c.in_ok-laid.ensures.automaton;
      comes = subst (λ (s : Standing). ComesTo (protocol_of tree) (state_positions (protocol_of tree)) (start (protocol_of tree)) s)
          (sym at) c.in_ok-laid.ensures.automaton.initial;
    }

pub returns-clause-taken : goal.returns-clause-taken
returns-clause-taken c =
    let walk : Walk = record {
      alloc = c.args.alloc;
      local = c.args.local;
      laid = c.in_ok-laid.laid;
      tables = c.in_ok-tables.tables;
      standing = c.standing-standing.result;
    } in
    starts (tree_of c.args.local.now) walk (returns-clause-stands c)

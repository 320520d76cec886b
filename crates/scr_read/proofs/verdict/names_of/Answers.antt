use Rattle.std.proofs.Common.{◌≡◌, List, [], ◌++◌, map, length, sym, ap, ◌∙◌, arith, append_assoc}
use Rattle.std.proofs.lemmas.List.{append-nil}
use Rattle.std.specs.Vec.Iter.{into_iter_items}
use Rattle.mg_text.specs.Call.{Name}
use Rattle.scr_tree.specs.Written.{role_name}
use Rattle.scr_tree.specs.declared.written.Role.{Role}
use Rattle.scr_read.proofs.Moved.{nothing_left}
use Rattle.scr_read.proofs.verdict.names_of.Goals as goal

pub loop-role-init : goal.loop-role-init
loop-role-init c =
    let began = c.into_iter-role-iterator.ensures.into_iter_gives in
    record {
      count = let same = ap length began.0 in omega (arith, began.1, c.into_vec-role-items.result.ok.0, same);
      moved = rw c.new-names.ensures (ap (map role_name) (began.0 ∙ c.into_vec-role-items.ensures));
    }

pub loop-role-preserved : goal.loop-role-preserved
loop-role-preserved c =
    let step = c.in-Some.ensures.steps in
    let was = c.loop-role.invariant in
    let some = ap length step.0 in
    record {
      count = let count = was.count in omega (arith, count, some, step.1);
      moved =
          ap (λ (z : List Name). z ++ map role_name (into_iter_items c.next.new.self)) c.in_ok-push.ensures.ok
          ∙ append_assoc c.loop-role.names.items _ (map role_name (into_iter_items c.next.new.self))
          ∙ ap (λ (z : List Role). c.loop-role.names.items ++ map role_name z) (sym step.0)
          ∙ was.moved;
    }

pub returns : goal.returns
returns c =
    let was = c.loop-role.invariant in
    let none : into_iter_items c.loop-role.role-iterator ≡ [] = nothing_left _ (sym was.count ∙ c.in-None.ensures.steps.0) in
    sym (append-nil c.loop-role.names.items)
    ∙ ap (λ (z : List Role). c.loop-role.names.items ++ map role_name z) (sym none)
    ∙ was.moved

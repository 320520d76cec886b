use Rattle.std.proofs.Common.{◌≡◌, List, [], ◌∷◌, ◌++◌, map, length, sym, ap, ◌∙◌, arith, append_assoc}
use Rattle.std.proofs.lemmas.List.{append-nil}
use Rattle.std.specs.Vec.Iter.{into_iter_items}
use Rattle.mg_text.specs.Call.{Name}
use Rattle.mg_text.specs.declared.place.Place.{Place}
use Rattle.scr_tree.specs.declared.written.Role.{Role}
use Rattle.scr_read.specs.Parts.{listed}
use Rattle.scr_read.proofs.Moved.{nothing_left}
use Rattle.scr_read.proofs.parts.roles_of.Goals as goal

pub loop-name-init : goal.loop-name-init
loop-name-init c =
    let began = c.into_iter-name-iterator.ensures.into_iter_gives in
    record {
      count = let same = ap length began.0 in omega (arith, began.1, c.into_vec-name-items.result.ok.0, same);
      moved = rw c.new-roles.ensures (ap (map (listed c.args.file)) (began.0 ∙ c.into_vec-name-items.ensures));
    }

pub loop-name-preserved : goal.loop-name-preserved
loop-name-preserved c =
    let step = c.in-Some.ensures.steps in
    let was = c.loop-name.invariant in
    let some = ap length step.0 in
    record {
      count = let count = was.count in omega (arith, count, some, step.1);
      moved =
          ap (λ (z : List Role). z ++ map (listed c.args.file) (into_iter_items c.next.new.self)) c.in_ok-push.ensures.ok
          ∙ append_assoc c.loop-name.roles.items _ (map (listed c.args.file) (into_iter_items c.next.new.self))
          ∙ ap (λ (p : Place). c.loop-name.roles.items ++ (record { place = p; name = c.in-Some.name } ∷ map (listed c.args.file)
          (into_iter_items c.next.new.self))) c.start-place.ensures
          ∙ ap (λ (z : List Name). c.loop-name.roles.items ++ map (listed c.args.file) z) (sym step.0)
          ∙ was.moved;
    }

pub returns : goal.returns
returns c =
    let was = c.loop-name.invariant in
    let none : into_iter_items c.loop-name.name-iterator ≡ [] = nothing_left _ (sym was.count ∙ c.in-None.ensures.steps.0) in
    sym (append-nil c.loop-name.roles.items)
    ∙ ap (λ (z : List Name). c.loop-name.roles.items ++ map (listed c.args.file) z) (sym none)
    ∙ was.moved

-- The value stands in the place of the lowest that goes.
use Rattle.std.proofs.Common.{◌≡◌, ◌+◌, ◌-◌, ◌≤◌, ◌++◌, ◌∷◌, [], List, length, take, refl, ◌∙◌, subst, arith, length-take}
use Rattle.raw_stack.specs.Frames.{Frames}
use Rattle.vm_frames.specs.declared.cell.Cell.{Cell}
use Rattle.vm_frames.specs.Seen.{IsSet}
use Rattle.vm_frames.proofs.Rows.{put_at_end}
use Rattle.vm_frames.proofs.States.{depth_is, puts, put-kept, texts_is}
use Rattle.vm_frames.proofs.state.State.put.Goals as goal

pub drop_top-requires : goal.drop_top-requires
drop_top-requires c = omega (arith, c.requires.within, depth_is c.self.inside c.args.self.now c.self.view_is c.self.invariant)

pub put_top-requires : goal.put_top-requires
put_top-requires c =
    let row : List Cell = c.self.inside.cells.running in
    let within : c.args.count ≤ length row =
    omega (arith, c.requires.within, depth_is c.self.inside c.args.self.now c.self.view_is c.self.invariant) in
    let left : length c.drop_top.new.self.running ≡ length (take (length row - (c.args.count - 1)) row) =
    (λ i. length (c.drop_top.ensures.running i)) in
    omega (arith, left, length-take (length row - (c.args.count - 1)) row, within, c.requires.some)

pub invariant_of-self : goal.invariant_of-self
invariant_of-self c =
    let old : Frames Cell = c.self.inside.cells in
    let left : List Cell = take (length old.running - c.args.count) old.running in
    let mid : Frames Cell = record c.drop_top.new.self { running = left; spare = old.spare + c.args.count } in
    let within : c.args.count ≤ length old.running =
    omega (arith, c.requires.within, depth_is c.self.inside c.args.self.now c.self.view_is c.self.invariant) in
    let is : c.put_top.new.self.running ≡ left ++ c.args.cell ∷ [] =
    put_at_end old.running c.drop_top.new.self.running c.put_top.new.self.running c.args.count c.args.cell c.requires.some within
    c.drop_top.ensures.running c.put_top.ensures.running in
    put-kept c.self.inside c.args.self.now c.self.view_is c.self.invariant c.put_top.new.self
    (c.put_top.ensures.callers ∙ c.drop_top.ensures.callers)
    mid c.args.place c.args.count c.args.cell c.requires.within refl is
    c.requires.some
    (omega (arith, c.put_top.ensures.spare, c.drop_top.ensures.spare, c.requires.some)) refl
    (subst (λ t. IsSet (length t) c.args.cell) (texts_is c.self.inside c.args.self.now c.self.view_is c.self.invariant) c.requires.set)

pub returns-clause-machine : goal.returns-clause-machine
returns-clause-machine c =
    let old : Frames Cell = c.self.inside.cells in
    let left : List Cell = take (length old.running - c.args.count) old.running in
    let mid : Frames Cell = record c.drop_top.new.self { running = left; spare = old.spare + c.args.count } in
    let within : c.args.count ≤ length old.running =
    omega (arith, c.requires.within, depth_is c.self.inside c.args.self.now c.self.view_is c.self.invariant) in
    let is : c.put_top.new.self.running ≡ left ++ c.args.cell ∷ [] =
    put_at_end old.running c.drop_top.new.self.running c.put_top.new.self.running c.args.count c.args.cell c.requires.some within
    c.drop_top.ensures.running c.put_top.ensures.running in
    puts c.self.inside c.args.self.now c.self.view_is c.self.invariant c.put_top.new.self
    (c.put_top.ensures.callers ∙ c.drop_top.ensures.callers)
    mid c.args.place c.args.count c.args.cell c.requires.within refl is

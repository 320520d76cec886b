-- The object is the last.
use Rattle.std.proofs.Common.{length, reverse, refl, subst, arith}
use Rattle.std.specs.Prelude.{All}
use Rattle.vm_frames.specs.Seen.{IsSet}
use Rattle.vm_frames.proofs.Heaps.{count_is, makes}
use Rattle.vm_frames.proofs.Same.{on_err, same-seen, same-kept, made-kept}
use Rattle.vm_frames.proofs.States.{texts_is}
use Rattle.vm_frames.proofs.state.State.make.Goals as goal

pub invariant_of-self : goal.invariant_of-self
invariant_of-self c =
    same-kept c.self.inside c.args.self.now c.self.view_is c.self.invariant
    (record c.self.inside { heap = c.push.new.self }) refl refl refl refl
    (omega arith) refl c.in_err-push.ensures.items

pub returns-in_err-push-clause-err : goal.returns-in_err-push-clause-err
returns-in_err-push-clause-err c =
    on_err c.from_residual.result
    (same-seen c.self.inside c.args.self.now c.self.view_is c.self.invariant
    (record c.self.inside { heap = c.push.new.self }) refl refl refl refl
    refl c.in_err-push.ensures.items)

pub invariant_of-self-2 : goal.invariant_of-self-2
invariant_of-self-2 c =
    made-kept c.self.inside c.args.self.now c.self.view_is c.self.invariant
    (record c.self.inside { heap = c.push.new.self }) refl refl refl refl
    (omega arith) (record { class = c.args.class; fields = c.args.fields }) refl c.in_ok-push.ensures.items
    (subst (λ t. All (IsSet (length t)) c.args.fields.items)
    (texts_is c.self.inside c.args.self.now c.self.view_is c.self.invariant) c.requires)

pub returns-clause-number : goal.returns-clause-number
returns-clause-number c =
    let s = c.self.inside in
    omega (
      arith,
      c.len-count.ensures,
      s.heap.ok.0,
      count_is s.texts.items s.head (reverse s.heads.items) s.cells.running s.cells.callers s.heap.items c.args.self.now c.self.view_is,
    )

pub returns-clause-ok : goal.returns-clause-ok
returns-clause-ok c =
    let s = c.self.inside in
    makes s.texts.items s.head (reverse s.heads.items) s.cells.running s.cells.callers s.heap.items c.args.self.now c.self.view_is
    c.push.new.self.items (record { class = c.args.class; fields = c.args.fields }) c.in_ok-push.ensures.items

-- The frame that waits lies below the running one.
use Rattle.std.proofs.Common.{◌≡◌, ◌-◌, List, length, Some, sym, ap, ◌∙◌, arith}
use Rattle.std.specs.Prelude.{slice_get}
use Rattle.std.specs.Option.{option_map}
use Rattle.vm_frames.specs.declared.cell.Head.{Head}
use Rattle.vm_frames.proofs.Entering.{none_waits}
use Rattle.vm_frames.proofs.Nearest.{none_last, must_lie, enough, nearest}
use Rattle.vm_frames.proofs.state.State.waiting.Goals as goal

pub returns-in_default-clause-nearest : goal.returns-in_default-clause-nearest
returns-in_default-clause-nearest c =
    let s = c.self.inside in
    none_waits s c.args.self.now c.self.view_is c.self.invariant
    (none_last s.heads.items
    (ap (λ (l : List Head). slice_get l (length l - 1)) (sym c.deref.ensures.value) ∙ sym c.last.ensures.value
    ∙ ap (option_map (λ h. h.now)) c.in_default.is))

pub returns-in_default-depth_below-clause-nearest : goal.returns-in_default-depth_below-clause-nearest
returns-in_default-depth_below-clause-nearest c =
    let s = c.self.inside in
    let last : slice_get s.heads.items (length s.heads.items - 1) ≡ Some c.in-Some.head.now =
    ap (λ (l : List Head). slice_get l (length l - 1)) (sym c.deref.ensures.value) ∙ sym c.last.ensures.value
    ∙ ap (option_map (λ h. h.now)) c.in-Some.is in
    absurd
    (must_lie s c.args.self.now c.self.view_is c.self.invariant c.in-Some.head.now last
    (sym c.in_default-depth_below.is ∙ c.depth_below.ensures.value))

pub overflow_sub-result : goal.overflow_sub-result
overflow_sub-result c =
    let s = c.self.inside in
    let last : slice_get s.heads.items (length s.heads.items - 1) ≡ Some c.in-Some.head.now =
    ap (λ (l : List Head). slice_get l (length l - 1)) (sym c.deref.ensures.value) ∙ sym c.last.ensures.value
    ∙ ap (option_map (λ h. h.now)) c.in-Some.is in
    omega (
      arith,
      c.from.ensures,
      enough s c.args.self.now c.self.view_is c.self.invariant c.in-Some.head.now last c.in-Some-depth_below.depth
          (sym c.in-Some-depth_below.is ∙ c.depth_below.ensures.value),
    )

pub returns-clause-nearest : goal.returns-clause-nearest
returns-clause-nearest c =
    let s = c.self.inside in
    let last : slice_get s.heads.items (length s.heads.items - 1) ≡ Some c.in-Some.head.now =
    ap (λ (l : List Head). slice_get l (length l - 1)) (sym c.deref.ensures.value) ∙ sym c.last.ensures.value
    ∙ ap (option_map (λ h. h.now)) c.in-Some.is in
    let near = nearest s c.args.self.now c.self.view_is c.self.invariant c.in-Some.head.now last c.in-Some-depth_below.depth
    (sym c.in-Some-depth_below.is ∙ c.depth_below.ensures.value) in
    rw c.from.ensures near

use Rattle.std.proofs.Common.{◌≡◌, ◌<◌, ◌≤◌, ◌-◌, ◌^◌, ℕ, Bool, true, false, get_or, length, inl, refl, subst, arith, IfSome, slice_get}
use Rattle.vm_world_law.specs.Turns.{Advances}
use Rattle.vm_world.proofs.Going.{Going, room, row_alone, following_row, still_row, stopped}
use Rattle.vm_world.proofs.Told.{one_less_room, is_false, is_true}
use Rattle.vm_world.proofs.world.World.run_one.Goals as goal

pub turns_alone-alone-requires-clause-count : goal.turns_alone-alone-requires-clause-count
turns_alone-alone-requires-clause-count c =
    let le : c.loop-left.left ≤ c.loop-left.left = omega arith in
    room c.args.self.now.program c.args.self.now.world c.args.order.now c.args.limit c.loop-left.self c.loop-left.left 0 0
    (get_or c.args.order.now 0 0) c.loop-left.left c.loop-left.invariant le c.ranges.limit.fits

pub returns-then-left-eq0-clause-run : goal.returns-then-left-eq0-clause-run
returns-then-left-eq0-clause-run c =
    let more : 0 < length c.args.order.now = omega (arith, c.requires.one) in
    let row = row_alone c.args.self.now.program c.args.self.now.world c.args.order.now c.args.limit c.loop-left.self c.loop-left.left 0 0
    c.loop-left.invariant more (get_or c.args.order.now 0 0) refl c.requires.one c.turns_alone-alone.result c.turns_alone-alone.new.self
    c.turns_alone-alone.ensures.program c.turns_alone-alone.ensures.turns c.turns_alone-alone.ensures.most refl in
    stopped c.args.self.now.program c.args.self.now.world c.args.order.now c.args.limit c.turns_alone-alone.new.self
    (c.loop-left.left - c.turns_alone-alone.result) 0 0 row c.requires.named (inl c.if-left-eq0.true)

pub go_on-requires-clause-number : goal.go_on-requires-clause-number
go_on-requires-clause-number c =
    let more : 0 < length c.args.order.now = omega (arith, c.requires.one) in
    let row = row_alone c.args.self.now.program c.args.self.now.world c.args.order.now c.args.limit c.loop-left.self c.loop-left.left 0 0
    c.loop-left.invariant more (get_or c.args.order.now 0 0) refl c.requires.one c.turns_alone-alone.result c.turns_alone-alone.new.self
    c.turns_alone-alone.ensures.program c.turns_alone-alone.ensures.turns c.turns_alone-alone.ensures.most refl in
    let lt : get_or c.args.order.now 0 0 < length c.args.self.now.world.roles = c.requires.numbers 0 (get_or c.args.order.now 0 0)
    (Rattle.std.proofs.lemmas.Option.slice_get-get_or c.args.order.now 0 0 more) in
    subst (λ n. get_or c.args.order.now 0 0 < n) (Rattle.std.proofs.Common.sym row.long) lt

pub go_on-requires-clause-count : goal.go_on-requires-clause-count
go_on-requires-clause-count c =
    let more : 0 < length c.args.order.now = omega (arith, c.requires.one) in
    let row = row_alone c.args.self.now.program c.args.self.now.world c.args.order.now c.args.limit c.loop-left.self c.loop-left.left 0 0
    c.loop-left.invariant more (get_or c.args.order.now 0 0) refl c.requires.one c.turns_alone-alone.result c.turns_alone-alone.new.self
    c.turns_alone-alone.ensures.program c.turns_alone-alone.ensures.turns c.turns_alone-alone.ensures.most refl in
    let some : 1 ≤ c.loop-left.left - c.turns_alone-alone.result = omega (arith, c.if-left-eq0.false) in
    one_less_room (slice_get c.turns_alone-alone.new.self.world.roles (get_or c.args.order.now 0 0))
    (room c.args.self.now.program c.args.self.now.world c.args.order.now c.args.limit c.turns_alone-alone.new.self
    (c.loop-left.left - c.turns_alone-alone.result) 0 0 (get_or c.args.order.now 0 0) 1 row some c.ranges.limit.fits)

pub returns-then-not-counted-clause-run : goal.returns-then-not-counted-clause-run
returns-then-not-counted-clause-run c =
    let more : 0 < length c.args.order.now = omega (arith, c.requires.one) in
    let row = row_alone c.args.self.now.program c.args.self.now.world c.args.order.now c.args.limit c.loop-left.self c.loop-left.left 0 0
    c.loop-left.invariant more (get_or c.args.order.now 0 0) refl c.requires.one c.turns_alone-alone.result c.turns_alone-alone.new.self
    c.turns_alone-alone.ensures.program c.turns_alone-alone.ensures.turns c.turns_alone-alone.ensures.most refl in
    let still = is_false (λ (b : Bool). Advances c.turns_alone-alone.new.self.program c.turns_alone-alone.new.self.world
    (get_or c.args.order.now 0 0) c.go_on.new.self.world b) c.in_ok-counted.counted c.if-not-counted.true c.in_ok-counted.ensures.advances
    in
    still_row c.args.self.now.program c.args.self.now.world c.args.order.now c.args.limit c.turns_alone-alone.new.self
    (c.loop-left.left - c.turns_alone-alone.result) 0 0 row more (get_or c.args.order.now 0 0) refl c.requires.one c.go_on.new.self
    c.go_on.ensures.program still c.requires.named

pub loop-left-preserved : goal.loop-left-preserved
loop-left-preserved c =
    let more : 0 < length c.args.order.now = omega (arith, c.requires.one) in
    let row = row_alone c.args.self.now.program c.args.self.now.world c.args.order.now c.args.limit c.loop-left.self c.loop-left.left 0 0
    c.loop-left.invariant more (get_or c.args.order.now 0 0) refl c.requires.one c.turns_alone-alone.result c.turns_alone-alone.new.self
    c.turns_alone-alone.ensures.program c.turns_alone-alone.ensures.turns c.turns_alone-alone.ensures.most refl in
    let counts = is_true (λ (b : Bool). Advances c.turns_alone-alone.new.self.program c.turns_alone-alone.new.self.world
    (get_or c.args.order.now 0 0) c.go_on.new.self.world b) c.in_ok-counted.counted c.if-not-counted.false
    c.in_ok-counted.ensures.advances in
    let one : 0 < 1 = omega arith in
    let some : 1 ≤ c.loop-left.left - c.turns_alone-alone.result = omega (arith, c.if-left-eq0.false) in
    following_row c.args.self.now.program c.args.self.now.world c.args.order.now c.args.limit c.turns_alone-alone.new.self
    (c.loop-left.left - c.turns_alone-alone.result) 0 0 row more (get_or c.args.order.now 0 0) refl c.requires.one 1 c.go_on.new.self
    c.go_on.ensures.program counts one some

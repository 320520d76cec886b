-- Where nothing was told nothing has changed, and the role takes its turn by the general step.
use Rattle.std.proofs.Common.{◌≡◌, ◌<◌, ◌^◌, ◌-◌, length, slice_get, IfSome, sym, ap, ◌∙◌, subst}
use Rattle.vm_world_law.specs.Turns.{over_in}
use Rattle.vm_world.specs.Seen.{Seen}
use Rattle.vm_world.proofs.Told.{told_none, told_so, advances_same}
use Rattle.vm_world.proofs.world.World.go_on.Goals as goal

pub returns-then-told-clause-advances : goal.returns-then-told-clause-advances
returns-then-told-clause-advances c =
    told_so c.args.self.now c.tell.new.self c.args.role c.in_ok-told.told c.in_ok-told.ensures.told c.if-told.true

pub count_turn-requires-clause-number : goal.count_turn-requires-clause-number
count_turn-requires-clause-number c =
    let same : c.tell.new.self ≡ c.args.self.now =
    told_none c.args.self.now c.tell.new.self c.args.role c.in_ok-told.told c.tell.ensures.program c.in_ok-told.ensures.told
    c.if-told.false in
    subst (λ (s : Seen). c.args.role < length s.world.roles) (sym same) c.requires.number

pub count_turn-requires-clause-count : goal.count_turn-requires-clause-count
count_turn-requires-clause-count c =
    let same : c.tell.new.self ≡ c.args.self.now =
    told_none c.args.self.now c.tell.new.self c.args.role c.in_ok-told.told c.tell.ensures.program c.in_ok-told.ensures.told
    c.if-told.false in
    subst (λ (s : Seen). IfSome (slice_get s.world.roles c.args.role) (λ r. r.count < 2 ^ 32 - 1)) (sym same) c.requires.count

pub returns-clause-advances : goal.returns-clause-advances
returns-clause-advances c =
    let same : c.tell.new.self ≡ c.args.self.now =
    told_none c.args.self.now c.tell.new.self c.args.role c.in_ok-told.told c.tell.ensures.program c.in_ok-told.ensures.told
    c.if-told.false in
    advances_same c.args.self.now c.tell.new.self c.args.role c.count_turn.new.self.world c.count_turn.result same c.count_turn.ensures.advances

pub count_turn-requires-clause-runs : goal.count_turn-requires-clause-runs
count_turn-requires-clause-runs c =
    let same : c.tell.new.self ≡ c.args.self.now =
    told_none c.args.self.now c.tell.new.self c.args.role c.in_ok-told.told c.tell.ensures.program c.in_ok-told.ensures.told
    c.if-told.false in
    ap (λ (s : Seen). over_in s.world c.args.role) same ∙ sym c.is_over.ensures ∙ c.if-is_over.false

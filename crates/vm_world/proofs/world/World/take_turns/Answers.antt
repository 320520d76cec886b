-- Where no turn was taken alone nothing has changed, and the role takes its turn by the general tests.
use Rattle.std.proofs.Common.{◌≡◌, ◌<◌, ◌^◌, ◌-◌, length, slice_get, IfSome, sym, subst}
use Rattle.vm_world.specs.Seen.{Seen}
use Rattle.vm_world.proofs.Alone.{counts_some, counts_one, counts_none, none_taken, still_room}
use Rattle.vm_world.proofs.world.World.take_turns.Goals as goal

pub returns-then-taken-gt0-clause-turns : goal.returns-then-taken-gt0-clause-turns
returns-then-taken-gt0-clause-turns c =
    counts_some c.args.self.now.program c.args.self.now.world c.turns_alone-taken.new.self.world c.args.role c.turns_alone-taken.result
    c.if-taken-gt0.true
    c.turns_alone-taken.ensures.turns

pub go_on-requires-clause-number : goal.go_on-requires-clause-number
go_on-requires-clause-number c =
    let same : c.turns_alone-taken.new.self ≡ c.args.self.now =
    none_taken c.args.self.now c.turns_alone-taken.new.self c.args.role c.turns_alone-taken.result c.turns_alone-taken.ensures.program
    c.turns_alone-taken.ensures.turns c.if-taken-gt0.false in
    subst (λ (s : Seen). c.args.role < length s.world.roles) (sym same) c.requires.number

pub go_on-requires-clause-count : goal.go_on-requires-clause-count
go_on-requires-clause-count c =
    let same : c.turns_alone-taken.new.self ≡ c.args.self.now =
    none_taken c.args.self.now c.turns_alone-taken.new.self c.args.role c.turns_alone-taken.result c.turns_alone-taken.ensures.program
    c.turns_alone-taken.ensures.turns c.if-taken-gt0.false in
    subst (λ (s : Seen). IfSome (slice_get s.world.roles c.args.role) (λ r. r.count < 2 ^ 32 - 1)) (sym same)
    (still_room (slice_get c.args.self.now.world.roles c.args.role) c.args.most c.requires.some c.requires.count)

pub returns-then-counted-clause-turns : goal.returns-then-counted-clause-turns
returns-then-counted-clause-turns c =
    let same : c.turns_alone-taken.new.self ≡ c.args.self.now =
    none_taken c.args.self.now c.turns_alone-taken.new.self c.args.role c.turns_alone-taken.result c.turns_alone-taken.ensures.program
    c.turns_alone-taken.ensures.turns c.if-taken-gt0.false in
    counts_one c.args.self.now c.turns_alone-taken.new.self c.args.role c.go_on.new.self.world c.in_ok-counted.counted same
    c.if-counted.true
    c.in_ok-counted.ensures.advances

pub returns-else-counted-clause-turns : goal.returns-else-counted-clause-turns
returns-else-counted-clause-turns c =
    let same : c.turns_alone-taken.new.self ≡ c.args.self.now =
    none_taken c.args.self.now c.turns_alone-taken.new.self c.args.role c.turns_alone-taken.result c.turns_alone-taken.ensures.program
    c.turns_alone-taken.ensures.turns c.if-taken-gt0.false in
    counts_none c.args.self.now c.turns_alone-taken.new.self c.args.role c.go_on.new.self.world c.in_ok-counted.counted same
    c.if-counted.false
    c.in_ok-counted.ensures.advances

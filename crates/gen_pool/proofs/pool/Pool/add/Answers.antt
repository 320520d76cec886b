use Rattle.std.proofs.Common.{◌∙◌, sym, arith}
use Rattle.std.proofs.lemmas.Bool.{false≢true}
use Rattle.gen_pool.specs.Keys.{const_of}
use Rattle.gen_pool.proofs.Numbered.{has_room}
use Rattle.gen_pool.proofs.pool.Pool.add.Goals as goal

pub overflow_cast-result : goal.overflow_cast-result
overflow_cast-result c =
    let room = has_room (const_of c.in_ok-key.key) c.args.self.now c.requires.room
    (λ f. false≢true (sym c.if-is_full_for.false ∙ (c.is_full_for.ensures).1 f)) in
    let is = c.in_ok-number.ensures.made.value in
    let few = room.0 in
    omega arith

pub returns-clause-room : goal.returns-clause-room
returns-clause-room c =
    let room = has_room (const_of c.in_ok-key.key) c.args.self.now c.requires.room
    (λ f. false≢true (sym c.if-is_full_for.false ∙ (c.is_full_for.ensures).1 f)) in
    rw c.in_ok-number.ensures.made.left room.1

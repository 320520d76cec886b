use Rattle.std.proofs.Common.{◌<◌, sym, subst}
use Rattle.vm_world_law.proofs.Once.{begun_many, begun_counted}
use Rattle.mg_runs.proofs.Roles.{names_stay}
use Rattle.mg_runs.proofs.going.played.Goals as goal

pub run-requires-clause-numbers : goal.run-requires-clause-numbers
run-requires-clause-numbers c = λ i r at.
    let w = c.args.world.now in
    subst (λ n. r < n) (sym (begun_many w.program c.args.mains.now w.world.roles c.requires.begun.roles))
    (c.requires.order.numbers i r at)

pub run-requires-clause-named : goal.run-requires-clause-named
run-requires-clause-named c = λ r lt.
    let w = c.args.world.now in
    c.requires.order.named r (subst (λ n. r < n) (begun_many w.program c.args.mains.now w.world.roles c.requires.begun.roles) lt)

pub run-requires-clause-fresh : goal.run-requires-clause-fresh
run-requires-clause-fresh c =
    begun_counted c.args.world.now.program c.args.mains.now c.args.world.now.world c.requires.begun

pub roles_ran-requires : goal.roles_ran-requires
roles_ran-requires c = record {
  names = names_stay c.args.world.now.program c.args.mains.now c.args.world.now.world c.args.order.now c.args.limit
      c.run.new.self.world
      c.requires.begun c.in_ok-run.ensures.run;
}

use Rattle.std.proofs.Common.{ap, subst, ◌∙◌}
use Rattle.vm_world_law.specs.World.{IsBegun}
use Rattle.vm_world_law.specs.Turns.{IsRun, stands_in}
use Rattle.mg_runs.proofs.going.go.Goals as goal

pub returns-in-Ok : goal.returns-in-Ok
returns-in-Ok c =
    let w = c.in_ok-world.world in
    let last = c.played.new.world.world in
    let begun = c.in_ok-world.ensures.program in
    let same = c.played.ensures.program ∙ begun in
    record {
      first = w.world;
      program_is = same;
      begins = subst (λ p. IsBegun p c.args.mains.now w.world) begun c.in_ok-world.ensures.begun;
      runs = subst (λ p. IsRun p w.world c.args.order.now c.args.limit last) begun c.in-Ok.ensures.runs;
      names_are = c.in-Ok.ensures.names;
      counts = c.in-Ok.ensures.counts;
      stands = c.in-Ok.ensures.stands ∙ ap (λ p. stands_in p last) same;
      printed_is = c.in-Ok.ensures.printed;
    }

use Rattle.std.proofs.Common.{subst}
use Rattle.gen_pool.specs.Made.{IsFrontOf}
use Rattle.gen_pool.proofs.Fronts.{front_made}
use Rattle.gen_code.proofs.pool.Pool.add.Goals as goal

pub keep_up-requires : goal.keep_up-requires
keep_up-requires c = record {
  front = subst (λ x. IsFrontOf x c.add.new.self) c.self.invariant.0 (front_made c.args.entry c.self.inside.keys c.add.new.self
      c.in_ok-number.number c.in_ok-number.ensures.made);
}

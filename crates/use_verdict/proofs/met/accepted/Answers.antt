use Rattle.std.proofs.Common.{◌≡◌, length, refl, arith}
use Rattle.use_verdict.proofs.Meeting.{no_demand}
use Rattle.use_verdict.proofs.met.accepted.Goals as goal

pub invariant_of-result : goal.invariant_of-result
invariant_of-result c = record {
  answer = ∣ record {
    program = c.requires.0;
    answer = no_demand c.requires.0 c.args.usages c.requires.1 (let e : length c.args.usages.failed.items ≡ 0 = omega arith in e);
  } ∣₁;
}

pub returns-then-len-eq0-clause-accepted : goal.returns-then-len-eq0-clause-accepted
returns-then-len-eq0-clause-accepted c = λ p are. (
  refl,
  no_demand p c.args.usages are (let e : length c.args.usages.failed.items ≡ 0 = omega arith in e),
)

use Rattle.std.proofs.Common.{◌+◌, map, ap, ◌∙◌, add-one}
use Rattle.gen_pool.specs.Keys.{const_of}
use Rattle.gen_pool.proofs.Numbered.{numbered}
use Rattle.gen_pool.proofs.pool.Pool.number_of.Goals as goal

pub returns-clause-made : goal.returns-clause-made
returns-clause-made c = rw (← c.self.view_is, numbered) (record {
  value = ap (λ n. n + 1) c.in_ok-index.ensures.index ∙ add-one _;
  left =
      ap (map const_of) c.in_ok-index.ensures.keys;
})

use Rattle.std.proofs.Common.{rules, subst}
use Rattle.std.specs.List.Sorted.{IsPermutation, IsStableBy}
use Rattle.std.proofs.lemmas.List.Sorted.{answers_always}
use Rattle.mg_faults.specs.Demands.{stands_before}
use Rattle.mg_faults.proofs.Order.{key, demands_sorted, demands_stable}
use Rattle.mg_faults.proofs.said.sorted.Goals as goal

pub returns : goal.returns
returns c = record {
  moves = subst (λ xs. IsPermutation xs c.sort_by_key.new.self.items) c.into_vec-demands.ensures c.sort_by_key.ensures.permutation;
  sorted = demands_sorted _ (c.in_ok-sort_by_key.ensures.sorted key (answers_always _ _ _ (λ f a r g h. search rules)));
  stable = subst (λ xs. IsStableBy stands_before xs c.sort_by_key.new.self.items) c.into_vec-demands.ensures
      (demands_stable _ _ (c.sort_by_key.ensures.stable key (answers_always _ _ _ (λ f a r g h. search rules))));
}

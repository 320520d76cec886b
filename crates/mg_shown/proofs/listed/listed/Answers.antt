use Rattle.std.proofs.Common.{rules, subst}
use Rattle.std.specs.List.Sorted.{IsPermutation, IsStableBy}
use Rattle.std.proofs.lemmas.List.Sorted.{answers_always}
use Rattle.mg_shown.specs.Shown.{is_listed_before}
use Rattle.mg_shown.proofs.Ordering.{key, sites_sorted, sites_stable}
use Rattle.mg_shown.proofs.listed.listed.Goals as goal

pub returns : goal.returns
returns c = record {
  all = subst (λ xs. IsPermutation xs c.sort_by_key.new.self.items) c.in_ok-sites.ensures c.sort_by_key.ensures.permutation;
  sorted = sites_sorted _ (c.in_ok-sort_by_key.ensures.sorted key (answers_always _ _ _ (λ f a r g h. search rules)));
  stable = subst (λ xs. IsStableBy is_listed_before xs c.sort_by_key.new.self.items) c.in_ok-sites.ensures
      (sites_stable _ _ (c.sort_by_key.ensures.stable key (answers_always _ _ _ (λ f a r g h. search rules))));
}

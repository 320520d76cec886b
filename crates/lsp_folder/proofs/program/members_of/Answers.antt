use Rattle.std.proofs.Common.{rules, List, subst}
use Rattle.std.specs.Cmp.Lexicographic.{nat_list_cmp_total}
use Rattle.std.specs.List.Sorted.{IsPermutation}
use Rattle.std.proofs.lemmas.Fn.{always_returns_same}
use Rattle.std.proofs.lemmas.List.Sorted.{ranks_by}
use Rattle.lsp_folder.specs.declared.program.Member.{Member}
use Rattle.lsp_folder.specs.Programs.{stands_before}
use Rattle.lsp_folder.proofs.program.members_of.Goals as goal

pub returns : goal.returns
returns c = record {
  all = subst (λ (xs : List Member). IsPermutation xs c.sort_by.new.self.items) c.in_ok-members.ensures c.sort_by.ensures.permutation;
  sorted = c.in_ok-sort_by.ensures.sorted stands_before (ranks_by nat_list_cmp_total (λ (m : Member). m.name))
      (always_returns_same _ _ _ (λ a r f k. search rules));
}

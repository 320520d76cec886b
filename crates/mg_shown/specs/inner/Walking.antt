-- The calls of a body, as the code finds them.
use Rattle.std.specs.Prelude.{ℕ, List}
use Rattle.std.specs.List.{flat_map}
use Rattle.jv_core.specs.Tree.{Expr, Exprs, Stmt, Stmts, Groups}
use Rattle.use_sights.specs.declared.site.Site.{Site}
use Rattle.use_sights.specs.Calls.{site_in, uses_in, uses_in_args, uses_of, uses_of_all, uses_of_groups}

abbrev pub sites_in : (within : ℕ) → Expr → List Site
sites_in n e = flat_map site_in (uses_in n e)

abbrev pub sites_in_args : (within : ℕ) → Exprs → List Site
sites_in_args n es = flat_map site_in (uses_in_args n es)

abbrev pub sites_of : (within : ℕ) → Stmt → List Site
sites_of n s = flat_map site_in (uses_of n s)

abbrev pub sites_of_all : (within : ℕ) → Stmts → List Site
sites_of_all n ss = flat_map site_in (uses_of_all n ss)

abbrev pub sites_of_groups : (within : ℕ) → Groups → List Site
sites_of_groups n gs = flat_map site_in (uses_of_groups n gs)

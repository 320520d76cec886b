-- Which comparisons are null tests.
use Rattle.std.proofs.Common.{◌≡◌, true, false, None, refl, sym}
use Rattle.std.proofs.lemmas.Bool.{false≢true}
use Rattle.jv_core.specs.Tree.{Expr, Null, Variable}
use Rattle.std.proofs.lemmas.Grind.{common_steps}
use Rattle.jv_core.proofs.ViewLaws.{views}
use Rattle.use_rules.specs.Flow.{tested}
use Rattle.use_flow.specs.inner.Values.{variable_in, is_null}

pub ruleset seen = (common_steps, views)

pub tested-right : (l r : Expr) → is_null r ≡ true → variable_in l ≡ tested l r
tested-right (Variable q x) (Null r) h = refl
tested-right _ (Null r) h = refl
tested-right _ _ h = absurd (false≢true h)

pub tested-left : (l r : Expr) → is_null r ≡ false → is_null l ≡ true → variable_in r ≡ tested l r
tested-left (Null q) (Variable r x) a b = refl
tested-left (Null q) (Null r) a b = absurd (false≢true (sym a))
tested-left (Null q) _ a b = refl
tested-left _ _ a b = absurd (false≢true b)

pub tested-none : (l r : Expr) → is_null r ≡ false → is_null l ≡ false → None ≡ tested l r
tested-none (Null q) _ a b = absurd (false≢true (sym b))
tested-none _ (Null r) a b = absurd (false≢true (sym a))
tested-none _ _ a b = refl

pub ruleset tests = (tested-right, tested-left, tested-none)

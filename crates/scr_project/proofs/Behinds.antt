-- What is found of lists of statements and of branches, one behind another.
use Rattle.std.proofs.Common.{◌≡◌, ℕ, max, List, [], ◌∷◌, ◌++◌, length, Bool, true, false, ◌||◌, Option, Some, None, refl, sym, ap, ◌∙◌}
use Rattle.std.proofs.Common.{arith}
use Rattle.std.specs.Option.{option_or}
use Rattle.scr_tree.specs.Tree.{Statements, Nothing, Branches, NoBranch}
use Rattle.scr_global.specs.Projecting.{both}
use Rattle.scr_global.specs.Texts.{behind}
use Rattle.scr_global_tree.proofs.Appends.{behind_nothing, behind_both, beside, beside_none, beside_both}
use Rattle.scr_project.specs.inner.Walk.{Found, FoundEach, nothing, no_branch, followed, followed_each}

-- ---- what is found

or_false : (b : Bool) → (b || false) ≡ b
or_false true = refl
or_false false = refl

or_or : (a b c : Bool) → ((a || b) || c) ≡ (a || (b || c))
or_or true b c = refl
or_or false b c = refl

max_zero : (n : ℕ) → max n 0 ≡ n
max_zero n = omega arith

zero_max : (n : ℕ) → max 0 n ≡ n
zero_max n = omega arith

max_max : (a b c : ℕ) → max (max a b) c ≡ max a (max b c)
max_max a b c = omega arith

pub option_none : {A : Type 0} (o : Option A) → option_or o None ≡ o
option_none None = refl
option_none (Some a) = refl

option_both : {A : Type 0} (a b c : Option A) → option_or (option_or a b) c ≡ option_or a (option_or b c)
option_both None b c = refl
option_both (Some a) b c = refl

abbrev pub some_behind : Statements → Statements → Option Statements
some_behind s t = Some (behind s t)

abbrev pub some_beside : Branches → Branches → Option Branches
some_beside s t = Some (beside s t)

says_nothing : (o : Option Statements) → both some_behind o (Some Nothing) ≡ o
says_nothing None = refl
says_nothing (Some s) = ap Some (behind_nothing s)

nothing_says : (o : Option Statements) → both some_behind (Some Nothing) o ≡ o
nothing_says None = refl
nothing_says (Some s) = refl

says_both : (a b c : Option Statements) → both some_behind (both some_behind a b) c ≡ both some_behind a (both some_behind b c)
says_both None b c = refl
says_both (Some a) None c = refl
says_both (Some a) (Some b) None = refl
says_both (Some a) (Some b) (Some c) = ap Some (behind_both a b c)

say_none : (o : Option Branches) → both some_beside o (Some NoBranch) ≡ o
say_none None = refl
say_none (Some s) = ap Some (beside_none s)

none_say : (o : Option Branches) → both some_beside (Some NoBranch) o ≡ o
none_say None = refl
none_say (Some s) = refl

say_both : (a b c : Option Branches) → both some_beside (both some_beside a b) c ≡ both some_beside a (both some_beside b c)
say_both None b c = refl
say_both (Some a) None c = refl
say_both (Some a) (Some b) None = refl
say_both (Some a) (Some b) (Some c) = ap Some (beside_both a b c)

pub found_is : {a b : Found} → a.named ≡ b.named → a.reach ≡ b.reach → a.first ≡ b.first → a.says ≡ b.says → a ≡ b
found_is e f g h = λ i. record { named = e i; reach = f i; first = g i; says = h i }

pub each_is : {a b : FoundEach} → a.named ≡ b.named → a.reach ≡ b.reach → a.first ≡ b.first → a.says ≡ b.says → a ≡ b
each_is e f g h = λ i. record { named = e i; reach = f i; first = g i; says = h i }

pub followed_nothing : (a : Found) → followed a nothing ≡ a
followed_nothing a = found_is (or_false a.named) (max_zero a.reach) (option_none a.first) (says_nothing a.says)

pub nothing_followed : (a : Found) → followed nothing a ≡ a
nothing_followed a = found_is refl (zero_max a.reach) refl (nothing_says a.says)

pub followed_both : (a b c : Found) → followed (followed a b) c ≡ followed a (followed b c)
followed_both a b c = found_is (or_or a.named b.named c.named) (max_max a.reach b.reach c.reach) (option_both a.first b.first c.first)
    (says_both a.says b.says c.says)

pub followed_none : (a : FoundEach) → followed_each a no_branch ≡ a
followed_none a = each_is (or_false a.named) (max_zero a.reach) (option_none a.first) (say_none a.says)

pub none_followed : (a : FoundEach) → followed_each no_branch a ≡ a
none_followed a = each_is refl (zero_max a.reach) refl (none_say a.says)

pub each_both : (a b c : FoundEach) → followed_each (followed_each a b) c ≡ followed_each a (followed_each b c)
each_both a b c = each_is (or_or a.named b.named c.named) (max_max a.reach b.reach c.reach) (option_both a.first b.first c.first)
    (say_both a.says b.says c.says)

pub nothing_left : {X : Type 0} (xs : List X) → length xs ≡ 0 → xs ≡ []
nothing_left [] e = refl
nothing_left (x ∷ xs) e = absurd (omega (arith, e))

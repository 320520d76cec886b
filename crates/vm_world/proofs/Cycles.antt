-- Whole cycles of turns that are counted at once: how often a role is named, and what is left of what each is ahead.
use Rattle.std.proofs.Common.{◌≡◌, ◌≢◌, ◌⊎◌, inl, inr, ◌<◌, ◌≤◌, ◌+◌, ◌-◌, ◌*◌, ◌/◌, ℕ, zero, suc, List, [], ◌∷◌, length, get_or, set}
use Rattle.std.proofs.Common.{Contains, true, false, cond, drop, drop-cons, refl, sym, ap, ◌∙◌, arith}
use Rattle.std.specs.Prelude.{◌==◌, count_by, slice_index_or}
use Rattle.std.proofs.lemmas.Bool.Decides.{eqb_tells}
use Rattle.std.proofs.lemmas.List.{get_or-set_other, drop_all}
use Rattle.std.proofs.lemmas.List.Sums.{sum_by-cons}
use Rattle.std.proofs.Math.Nat.{div-mul-le_self, mul-le-mul_left, mul-le-mul_right}

-- how often a role is named
abbrev pub times : ℕ → List ℕ → ℕ
times r order = count_by (λ x. x == r) order

times_cons : (r x : ℕ) (order : List ℕ) → times r (x ∷ order) ≡ cond (x == r) 1 0 + times r order
times_cons r x order = sum_by-cons (λ y. cond (y == r) 1 0) x order

pub times_on : (r x : ℕ) (order : List ℕ) → (x == r) ≡ true → times r (x ∷ order) ≡ times r order + 1
times_on r x order e =
    times_cons r x order ∙ ap (λ b. cond b 1 0 + times r order) e ∙ (let e : 1 + times r order ≡ times r order + 1 = omega arith in e)

pub times_off : (r x : ℕ) (order : List ℕ) → (x == r) ≡ false → times r (x ∷ order) ≡ times r order
times_off r x order e =
    times_cons r x order ∙ ap (λ b. cond b 1 0 + times r order) e ∙ (let e : 0 + times r order ≡ times r order = omega arith in e)

pub named_times : (order : List ℕ) (r : ℕ) → Contains order r → 0 < times r order
named_times [] r (k, lt, e) = absurd (omega (arith, lt))
named_times (x ∷ order) r (k, lt, e) = go (λ h. named_times order r h) k lt e (eqb_tells x r)
  where
    go : (Contains order r → 0 < times r order) → (k : ℕ) → k < suc (length order) → slice_index_or (x ∷ order) k r ≡ r →
        ((x == r) ≡ true) × (x ≡ r) ⊎ ((x == r) ≡ false) × (x ≢ r) → 0 < times r (x ∷ order)
    go on k lt e (inl is) = let t : times r (x ∷ order) ≡ times r order + 1 = times_on r x order is.0 in omega (arith, t)
    go on zero lt e (inr not) = absurd (not.1 e)
    go on (suc k) lt e (inr not) =
        let t : times r (x ∷ order) ≡ times r order = times_off r x order not.0 in
        let h : 0 < times r order = on (k, omega (arith, lt), e) in omega (arith, t, h)

pub times_named : (order : List ℕ) (r : ℕ) → 0 < times r order → Contains order r
times_named [] r some = absurd (omega (arith, some))
times_named (x ∷ order) r some = go (λ h. times_named order r h) (eqb_tells x r)
  where
    go : (0 < times r order → Contains order r) → ((x == r) ≡ true) × (x ≡ r) ⊎ ((x == r) ≡ false) × (x ≢ r) → Contains (x ∷ order) r
    go on (inl is) = (0, omega arith, is.1)
    go on (inr not) =
        let t : times r (x ∷ order) ≡ times r order = times_off r x order not.0 in
        let h = on (omega (arith, t, some)) in (suc h.0, omega (arith, h.1), h.2)

-- An order that names each role names none oftener than it is longer than so many roles, and once more.

-- how often it names the first so many roles
abbrev sums : ℕ → List ℕ → ℕ
sums zero order = 0
sums (suc n) order = sums n order + times n order

sums_none : (n : ℕ) → sums n [] ≡ 0
sums_none zero = refl
sums_none (suc n) = ap (λ k. k + 0) (sums_none n)

sums_apart : (n x : ℕ) (order : List ℕ) → n ≤ x → sums n (x ∷ order) ≡ sums n order
sums_apart zero x order le = refl
sums_apart (suc n) x order le = go (sums_apart n x order (omega (arith, le))) (eqb_tells x n)
  where
    go : sums n (x ∷ order) ≡ sums n order → ((x == n) ≡ true) × (x ≡ n) ⊎ ((x == n) ≡ false) × (x ≢ n) →
        sums (suc n) (x ∷ order) ≡ sums (suc n) order
    go s (inl is) = absurd (omega (arith, is.1, le))
    go s (inr not) =
        ap (λ k. sums n (x ∷ order) + k) (times_off n x order not.0)
        ∙ ap (λ k. k + times n order) s

sums_cons : (n x : ℕ) (order : List ℕ) → sums n (x ∷ order) ≤ sums n order + 1
sums_cons zero x order = omega arith
sums_cons (suc n) x order = go (sums_cons n x order) (eqb_tells x n)
  where
    go : sums n (x ∷ order) ≤ sums n order + 1 → ((x == n) ≡ true) × (x ≡ n) ⊎ ((x == n) ≡ false) × (x ≢ n) →
        sums (suc n) (x ∷ order) ≤ sums (suc n) order + 1
    go h (inl is) =
        let t : times n (x ∷ order) ≡ times n order + 1 = times_on n x order is.0 in
        let s : sums n (x ∷ order) ≡ sums n order = sums_apart n x order (omega (arith, is.1)) in
        omega (arith, t, s)
    go h (inr not) =
        let t : times n (x ∷ order) ≡ times n order = times_off n x order not.0 in
        omega (arith, t, h)

sums_within : (n : ℕ) (order : List ℕ) → sums n order ≤ length order
sums_within n [] = let e : sums n [] ≡ 0 = sums_none n in omega (arith, e)
sums_within n (x ∷ order) =
    let s : sums n (x ∷ order) ≤ sums n order + 1 = sums_cons n x order in
    let h : sums n order ≤ length order = sums_within n order in
    omega (arith, s, h)

sums_all : (n : ℕ) (order : List ℕ) → ((r : ℕ) → r < n → Contains order r) → n ≤ sums n order
sums_all zero order named = omega arith
sums_all (suc n) order named =
    let h : n ≤ sums n order = sums_all n order (λ r lt. named r (omega (arith, lt))) in
    let t : 0 < times n order = named_times order n (named n (omega arith)) in
    omega (arith, h, t)

sums_one : (n r : ℕ) (order : List ℕ) → ((r : ℕ) → r < n → Contains order r) → r < n → times r order + n ≤ sums n order + 1
sums_one zero r order named lt = absurd (omega (arith, lt))
sums_one (suc n) r order named lt = go (sums_one n r order (λ s h. named s (omega (arith, h)))) (eqb_tells n r)
  where
    fewer : (r : ℕ) → r < n → Contains order r
    fewer r lt = named r (omega (arith, lt))

    go : (r < n → times r order + n ≤ sums n order + 1) → ((n == r) ≡ true) × (n ≡ r) ⊎ ((n == r) ≡ false) × (n ≢ r) →
        times r order + suc n ≤ sums (suc n) order + 1
    go on (inl is) =
        let t : times n order ≡ times r order = ap (λ k. times k order) is.1 in
        let h : n ≤ sums n order = sums_all n order fewer in
        omega (arith, t, h)
    go on (inr not) =
        let h : times r order + n ≤ sums n order + 1 = on (omega (arith, lt, not.1)) in
        let t : 0 < times n order = named_times order n (named n (omega arith)) in
        omega (arith, h, t)

sums_more : (n m : ℕ) (order : List ℕ) → n ≤ m → sums n order ≤ sums m order
sums_more n zero order le = omega (arith, ap (λ k. sums k order) (let e : n ≡ 0 = omega (arith, le) in e))
sums_more n (suc m) order le = go (λ h. sums_more n m order h) (eqb_tells n (suc m))
  where
    go : (n ≤ m → sums n order ≤ sums m order) → ((n == suc m) ≡ true) × (n ≡ suc m) ⊎ ((n == suc m) ≡ false) × (n ≢ suc m) →
        sums n order ≤ sums (suc m) order
    go on (inl is) = let e : sums n order ≡ sums (suc m) order = ap (λ k. sums k order) is.1 in omega (arith, e)
    go on (inr not) = let h : sums n order ≤ sums m order = on (omega (arith, le, not.1)) in omega (arith, h)

pub named_long : (n : ℕ) (order : List ℕ) → ((r : ℕ) → r < n → Contains order r) → n ≤ length order
named_long n order named =
    let a : n ≤ sums n order = sums_all n order named in
    let b : sums n order ≤ length order = sums_within n order in
    omega (arith, a, b)

le_or_lt : (a b : ℕ) → (a ≤ b) ⊎ (b < a)
le_or_lt zero b = inl (omega arith)
le_or_lt (suc a) zero = inr (omega arith)
le_or_lt (suc a) (suc b) = more (le_or_lt a b)
  where
    more : (a ≤ b) ⊎ (b < a) → (suc a ≤ suc b) ⊎ (suc b < suc a)
    more (inl le) = inl (omega (arith, le))
    more (inr lt) = inr (omega (arith, lt))

pub named_often : (n r : ℕ) (order : List ℕ) → ((r : ℕ) → r < n → Contains order r) → times r order ≤ length order - n + 1
named_often n r order named = go (le_or_lt n r)
  where
    go : (n ≤ r) ⊎ (r < n) → times r order ≤ length order - n + 1
    go (inr lt) =
        let a : times r order + n ≤ sums n order + 1 = sums_one n r order named lt in
        let b : sums n order ≤ length order = sums_within n order in
        omega (arith, a, b)
    go (inl le) =
        let a : n ≤ sums n order = sums_all n order named in
        let b : sums n order ≤ sums r order = sums_more n r order le in
        let d : sums (suc r) order ≤ length order = sums_within (suc r) order in
        let e : sums (suc r) order ≡ sums r order + times r order = refl in
        omega (arith, a, b, d, e)

-- What is left of what each is ahead, behind turns of these roles.

abbrev pub turned : List ℕ → List ℕ → List ℕ
turned [] ahead = ahead
turned (r ∷ roles) ahead = turned roles (set ahead r (get_or ahead r 0 - 1))

pub less_here : (ahead : List ℕ) (r k : ℕ) → get_or (set ahead r (get_or ahead r 0 - k)) r 0 ≡ get_or ahead r 0 - k
less_here [] r k = omega arith
less_here (x ∷ ahead) zero k = refl
less_here (x ∷ ahead) (suc r) k = less_here ahead r k

pub long_set : (ahead : List ℕ) (r k : ℕ) → length (set ahead r k) ≡ length ahead
long_set [] r k = refl
long_set (x ∷ ahead) zero k = refl
long_set (x ∷ ahead) (suc r) k = ap suc (long_set ahead r k)

long_turned : (roles ahead : List ℕ) → length (turned roles ahead) ≡ length ahead
long_turned [] ahead = refl
long_turned (r ∷ roles) ahead =
    long_turned roles (set ahead r (get_or ahead r 0 - 1)) ∙ long_set ahead r (get_or ahead r 0 - 1)

-- one turn of a role, and then those of a list
less_step : (ahead : List ℕ) (x r k : ℕ) (roles : List ℕ) →
    get_or (set ahead x (get_or ahead x 0 - k)) r 0 - k * times r roles ≡ get_or ahead r 0 - k * times r (x ∷ roles)
less_step ahead x r k roles = go (eqb_tells x r)
  where
    go : ((x == r) ≡ true) × (x ≡ r) ⊎ ((x == r) ≡ false) × (x ≢ r) →
        get_or (set ahead x (get_or ahead x 0 - k)) r 0 - k * times r roles ≡ get_or ahead r 0 - k * times r (x ∷ roles)
    go (inl is) =
        let a : get_or (set ahead x (get_or ahead x 0 - k)) r 0 ≡ get_or ahead r 0 - k =
        ap (λ y. get_or (set ahead y (get_or ahead y 0 - k)) r 0) is.1 ∙ less_here ahead r k in
        let t : k * times r (x ∷ roles) ≡ k * times r roles + k =
        ap (λ n. k * n) (times_on r x roles is.0) ∙ (let e : k * (times r roles + 1) ≡ k * times r roles + k = grind arith in e) in
        omega (arith, a, t)
    go (inr not) =
        let a : get_or (set ahead x (get_or ahead x 0 - k)) r 0 ≡ get_or ahead r 0 =
        get_or-set_other ahead x r (get_or ahead x 0 - k) 0 (λ e. not.1 (sym e)) in
        let t : k * times r (x ∷ roles) ≡ k * times r roles = ap (λ n. k * n) (times_off r x roles not.0) in
        omega (arith, a, t)

-- where one of these comes first, what is left is enough for the others
pub less_enough : (ahead : List ℕ) (x r : ℕ) (roles : List ℕ) → times r (x ∷ roles) ≤ get_or ahead r 0 →
    times r roles ≤ get_or (set ahead x (get_or ahead x 0 - 1)) r 0
less_enough ahead x r roles enough = go (eqb_tells x r)
  where
    go : ((x == r) ≡ true) × (x ≡ r) ⊎ ((x == r) ≡ false) × (x ≢ r) → times r roles ≤ get_or (set ahead x (get_or ahead x 0 - 1)) r 0
    go (inl is) =
        let a : get_or (set ahead x (get_or ahead x 0 - 1)) r 0 ≡ get_or ahead r 0 - 1 =
        ap (λ y. get_or (set ahead y (get_or ahead y 0 - 1)) r 0) is.1 ∙ less_here ahead r 1 in
        let t : times r (x ∷ roles) ≡ times r roles + 1 = times_on r x roles is.0 in
        omega (arith, a, t, enough)
    go (inr not) =
        let a : get_or (set ahead x (get_or ahead x 0 - 1)) r 0 ≡ get_or ahead r 0 =
        get_or-set_other ahead x r (get_or ahead x 0 - 1) 0 (λ e. not.1 (sym e)) in
        let t : times r (x ∷ roles) ≡ times r roles = times_off r x roles not.0 in
        omega (arith, a, t, enough)

pub get_turned : (roles ahead : List ℕ) (r : ℕ) → get_or (turned roles ahead) r 0 ≡ get_or ahead r 0 - 1 * times r roles
get_turned [] ahead r = omega arith
get_turned (x ∷ roles) ahead r =
    get_turned roles (set ahead x (get_or ahead x 0 - 1)) r ∙ less_step ahead x r 1 roles

-- and behind so many cycles
abbrev pub cycled : ℕ → List ℕ → List ℕ → List ℕ
cycled zero order ahead = ahead
cycled (suc k) order ahead = cycled k order (turned order ahead)

long_cycled : (k : ℕ) (order ahead : List ℕ) → length (cycled k order ahead) ≡ length ahead
long_cycled zero order ahead = refl
long_cycled (suc k) order ahead = long_cycled k order (turned order ahead) ∙ long_turned order ahead

get_cycled : (k : ℕ) (order ahead : List ℕ) (r : ℕ) → get_or (cycled k order ahead) r 0 ≡ get_or ahead r 0 - k * times r order
get_cycled zero order ahead r = let e : 0 * times r order ≡ 0 = grind arith in omega (arith, e)
get_cycled (suc k) order ahead r =
    let a : get_or (cycled k order (turned order ahead)) r 0 ≡ get_or (turned order ahead) r 0 - k * times r order =
    get_cycled k order (turned order ahead) r in
    let b : get_or (turned order ahead) r 0 ≡ get_or ahead r 0 - 1 * times r order = get_turned order ahead r in
    let e : suc k * times r order ≡ k * times r order + 1 * times r order = grind arith in
    omega (arith, a, b, e)

same_lists : (xs ys : List ℕ) → length xs ≡ length ys → ((r : ℕ) → get_or xs r 0 ≡ get_or ys r 0) → xs ≡ ys
same_lists [] [] long each = refl
same_lists [] (y ∷ ys) long each = absurd (omega (arith, long))
same_lists (x ∷ xs) [] long each = absurd (omega (arith, long))
same_lists (x ∷ xs) (y ∷ ys) long each =
    let e : x ≡ y = each 0 in
    let t : xs ≡ ys = same_lists xs ys (omega (arith, long)) (λ r. each (suc r)) in
    cc

-- it is the list that was counted down
pub is_cycled : (k : ℕ) (order ahead later : List ℕ) → length later ≡ length ahead →
    ((r : ℕ) → get_or later r 0 ≡ get_or ahead r 0 - k * times r order) → cycled k order ahead ≡ later
is_cycled k order ahead later long each =
    same_lists (cycled k order ahead) later (long_cycled k order ahead ∙ sym long) (λ r. get_cycled k order ahead r ∙ sym (each r))

-- The loops.

pub step_down : (order ahead : List ℕ) (i r k : ℕ) → i < length order →
    get_or (set ahead (get_or order i 0) (get_or ahead (get_or order i 0) 0 - k)) r 0 - k * times r (drop (i + 1) order)
    ≡ get_or ahead r 0 - k * times r (drop i order)
step_down order ahead i r k lt =
    let next : drop (i + 1) order ≡ drop (suc i) order = ap (λ j. drop j order) (let e : i + 1 ≡ suc i = omega arith in e) in
    ap (λ l. get_or (set ahead (get_or order i 0) (get_or ahead (get_or order i 0) 0 - k)) r 0 - k * times r l) next
    ∙ less_step ahead (get_or order i 0) r k (drop (suc i) order)
    ∙ ap (λ l. get_or ahead r 0 - k * times r l) (sym (drop-cons order i 0 lt))

pub all_down : (order : List ℕ) (i r k n : ℕ) → length order ≤ i → n - k * times r (drop i order) ≡ n
all_down order i r k n le =
    ap (λ l. n - k * times r l) (drop_all i order le) ∙ (let e : k * 0 ≡ 0 = grind arith in omega (arith, e))

-- each of the first so many is ahead by as much at least
abbrev pub AheadSoFar : (order ahead : List ℕ) → (i least : ℕ) → Type 0
AheadSoFar order ahead i least = (j : ℕ) → j < i → least ≤ get_or ahead (get_or order j 0) 0

-- as many cycles as are within what each is ahead
pub cycles_within : (order ahead : List ℕ) (least often cycles r : ℕ) → ((r : ℕ) → Contains order r → least ≤ get_or ahead r 0) →
    times r order ≤ often → cycles ≤ least / often → cycles * times r order ≤ get_or ahead r 0
cycles_within order ahead least often cycles r each most within = go (times r order) refl
  where
    go : (n : ℕ) → times r order ≡ n → cycles * times r order ≤ get_or ahead r 0
    go zero none = let e : cycles * times r order ≡ 0 = ap (λ n. cycles * n) none ∙ (let z : cycles * 0 ≡ 0 = grind arith in z) in omega (arith, e)
    go (suc n) some =
        let h : least ≤ get_or ahead r 0 = each r (times_named order r (omega (arith, some))) in
        let a : cycles * times r order ≤ cycles * often = mul-le-mul_left cycles most in
        let b : cycles * often ≤ least / often * often = mul-le-mul_right often within in
        let d : least / often * often ≤ least = div-mul-le_self least often in
        omega (arith, h, a, b, d)

pub fewer_than : (cycles n m : ℕ) → 0 < cycles → cycles * n < m → n < m
fewer_than cycles n m some lt =
    let h : 1 * n ≤ cycles * n = mul-le-mul_right n (let one : 1 ≤ cycles = omega (arith, some) in one) in
    let e : 1 * n ≡ n = grind arith in
    omega (arith, lt, h, e)

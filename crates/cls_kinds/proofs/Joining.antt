-- What is joined is raised, or it stays the same.
use Rattle.std.proofs.Common.{◌≡◌, ℕ, ◌+◌, ◌<◌, ◌≤◌, Bool, true, false, not, ◌||◌, List, [], ◌∷◌, ◌++◌, length, get_or, take, drop, reverse}
use Rattle.std.proofs.Common.{refl, sym, ap, ap₂, ◌∙◌, arith}
use Rattle.std.specs.Prelude.{if◌then◌else◌, ◌==◌, nat_eq}
use Rattle.std.proofs.lemmas.Bool.Decides.{nat_tests}
use Rattle.std.proofs.lemmas.List.{append_assoc, append-nil, length_push, drop_more, drop_all, reverse-append}
use Rattle.cls_kinds.specs.declared.kind.Kind.{Kind}
use Rattle.cls_kinds.specs.Numbers.{is_plain, joined_number, joined, joined_all, room_of, room_in, is_raised}

equal_itself : (n : ℕ) → nat_eq n n ≡ true
equal_itself n = grind (arith, nat_tests)

equal_true : (a b : ℕ) → nat_eq a b ≡ true → a ≡ b
equal_true a b e = grind (arith, nat_tests)

pub equal_not : (a b : ℕ) → (a ≡ b → ⊥) → nat_eq a b ≡ false
equal_not a b ne = grind (arith, nat_tests)

pub equal_is : (a b : ℕ) → a ≡ b → nat_eq a b ≡ true
equal_is a b e = grind (arith, nat_tests)

-- what two kinds are joined to, by how four tests end
abbrev pub chain : (k l : ℕ) (a b c d : Bool) → ℕ
chain k l a b c d = if a then k else if b then 3 else if c then l else if d then k else 4

pub chain_is : (k l : ℕ) (a b c d : Bool) → nat_eq k l ≡ a → (is_plain k || is_plain l) ≡ b → nat_eq k 2 ≡ c → nat_eq l 2 ≡ d →
    joined_number k l ≡ chain k l a b c d
chain_is k l a b c d e f g h = rw (e, f, g, h) refl

-- a kind joined to itself
pub joined_itself : (k : Kind) → joined k k ≡ k
joined_itself k =
    ap (λ b. record {
      0 = if b then k.0 else if is_plain k.0 || is_plain k.0 then 3 else if k.0 == 2 then k.0 else if k.0 == 2 then k.0 else
          4;
    })
    (equal_itself k.0)

pub joined_all_itself : (ks : List Kind) → joined_all ks ks ≡ ks
joined_all_itself [] = refl
joined_all_itself (k ∷ ks) = ap₂ (λ x xs. x ∷ xs) (joined_itself k) (joined_all_itself ks)

pub never_raised : (ks : List Kind) → is_raised ks ks ≡ false
never_raised [] = refl
never_raised (k ∷ ks) =
    ap₂ (λ b c. not b || c) (ap (λ (x : Kind). nat_eq x.0 k.0) (joined_itself k) ∙ equal_itself k.0) (never_raised ks)

-- what isn't raised stays
pub raised_not : (ks ls : List Kind) → length ks ≡ length ls → is_raised ks ls ≡ false → joined_all ks ls ≡ ks
raised_not [] ls n e = refl
raised_not (k ∷ ks) [] n e = absurd (omega (arith, n))
raised_not (k ∷ ks) (l ∷ ls) n e = go (λ g. raised_not ks ls (omega (arith, n)) g) (nat_eq (joined_number k.0 l.0) k.0) refl e
  where
    go : (is_raised ks ls ≡ false → joined_all ks ls ≡ ks) → (b : Bool) → nat_eq (joined_number k.0 l.0) k.0 ≡ b →
        (not b || is_raised ks ls) ≡ false →
        joined_all (k ∷ ks) (l ∷ ls) ≡ k ∷ ks
    go others true f g = ap₂ (λ x xs. x ∷ xs) (ap (λ j. record { 0 = j }) (equal_true (joined_number k.0 l.0) k.0 f)) (others g)
    go others false f g = absurd (cc g)

-- which of two comes first doesn't matter
equal_either : (k l : ℕ) → nat_eq l k ≡ nat_eq k l
equal_either k l = grind (arith, nat_tests)

or_either : (a b : Bool) → (b || a) ≡ (a || b)
or_either true true = refl
or_either true false = refl
or_either false true = refl
or_either false false = refl

chain_either : (k l : ℕ) (a b c d : Bool) → (a ≡ true → k ≡ l) → (c ≡ true → d ≡ true → k ≡ l) → chain k l a b c d ≡ chain l k a b d c
chain_either k l true b c d p q = p refl
chain_either k l false true c d p q = refl
chain_either k l false false true true p q = sym (q refl refl)
chain_either k l false false true false p q = refl
chain_either k l false false false true p q = refl
chain_either k l false false false false p q = refl

joined_number_either : (k l : ℕ) → joined_number k l ≡ joined_number l k
joined_number_either k l = go (nat_eq k l) refl (is_plain k || is_plain l) refl (nat_eq k 2) refl (nat_eq l 2) refl
  where
    go : (a : Bool) → nat_eq k l ≡ a → (b : Bool) → (is_plain k || is_plain l) ≡ b → (c : Bool) → nat_eq k 2 ≡ c → (d : Bool) →
        nat_eq l 2 ≡ d → joined_number k l ≡ joined_number l k
    go a e b f c g d h =
        chain_is k l a b c d e f g h
        ∙ chain_either k l a b c d (λ t. equal_true k l (e ∙ t)) (λ t u. equal_true k 2 (g ∙ t) ∙ sym (equal_true l 2 (h ∙ u)))
        ∙ sym (chain_is l k a b d c (equal_either k l ∙ e) (or_either (is_plain k) (is_plain l) ∙ f) h g)

joined_all_either : (ks ls : List Kind) → joined_all ks ls ≡ joined_all ls ks
joined_all_either [] [] = refl
joined_all_either [] (l ∷ ls) = refl
joined_all_either (k ∷ ks) [] = refl
joined_all_either (k ∷ ks) (l ∷ ls) =
    ap₂ (λ n xs. record { 0 = n } ∷ xs) (joined_number_either k.0 l.0) (joined_all_either ks ls)

-- a second list that isn't raised by the first is what both are joined to
pub raised_not_second : (ks ls : List Kind) → length ks ≡ length ls → is_raised ls ks ≡ false → joined_all ks ls ≡ ls
raised_not_second ks ls n e = joined_all_either ks ls ∙ raised_not ls ks (sym n) e

-- what both fit, the first joined once more
number_itself : (k : ℕ) → joined_number k k ≡ k
number_itself k = ap (λ (x : Kind). x.0) (joined_itself (record { 0 = k }))

or_true : (a : Bool) → (a || true) ≡ true
or_true true = refl
or_true false = refl

or_left : (a b : Bool) → (a || b) ≡ false → a ≡ false
or_left true b e = cc e
or_left false b e = refl

number_any : (k : ℕ) → joined_number k 3 ≡ 3
number_any k = go (nat_eq k 3) refl (nat_eq k 2) refl
  where
    go : (a : Bool) → nat_eq k 3 ≡ a → (c : Bool) → nat_eq k 2 ≡ c → joined_number k 3 ≡ 3
    go true e c g = chain_is k 3 true true c false e (or_true (is_plain k)) g refl ∙ equal_true k 3 e
    go false e c g = chain_is k 3 false true c false e (or_true (is_plain k)) g refl

number_four : (k : ℕ) → is_plain k ≡ false → nat_eq k 2 ≡ false → joined_number k 4 ≡ 4
number_four k p g = go (nat_eq k 4) refl
  where
    go : (a : Bool) → nat_eq k 4 ≡ a → joined_number k 4 ≡ 4
    go true e = chain_is k 4 true false false false e (ap (λ b. b || false) p) g refl ∙ equal_true k 4 e
    go false e = chain_is k 4 false false false false e (ap (λ b. b || false) p) g refl

number_again : (k l : ℕ) → joined_number k (joined_number k l) ≡ joined_number k l
number_again k l = go (nat_eq k l) refl (is_plain k || is_plain l) refl (nat_eq k 2) refl (nat_eq l 2) refl
  where
    at : (a b c d : Bool) → nat_eq k l ≡ a → (is_plain k || is_plain l) ≡ b → nat_eq k 2 ≡ c → nat_eq l 2 ≡ d →
        joined_number k (chain k l a b c d) ≡ chain k l a b c d
    at true b c d e f g h = number_itself k
    at false true c d e f g h = number_any k
    at false false true d e f g h = chain_is k l false false true d e f g h
    at false false false true e f g h = number_itself k
    at false false false false e f g h = number_four k (or_left (is_plain k) (is_plain l) f) g

    go : (a : Bool) → nat_eq k l ≡ a → (b : Bool) → (is_plain k || is_plain l) ≡ b → (c : Bool) → nat_eq k 2 ≡ c → (d : Bool) →
        nat_eq l 2 ≡ d → joined_number k (joined_number k l) ≡ joined_number k l
    go a e b f c g d h =
        ap (joined_number k) (chain_is k l a b c d e f g h) ∙ at a b c d e f g h ∙ sym (chain_is k l a b c d e f g h)

pub raised_to : (ks ls : List Kind) → is_raised ks (joined_all ks ls) ≡ is_raised ks ls
raised_to [] ls = refl
raised_to (k ∷ ks) [] = refl
raised_to (k ∷ ks) (l ∷ ls) = ap₂ (λ n b. not (nat_eq n k.0) || b) (number_again k.0 l.0) (raised_to ks ls)

pub never_back : (ks ls : List Kind) → is_raised (joined_all ks ls) ks ≡ false
never_back [] ls = refl
never_back (k ∷ ks) [] = refl
never_back (k ∷ ks) (l ∷ ls) =
    let n = joined_number k.0 l.0 in
    ap₂ (λ a b. not a || b) (equal_is (joined_number n k.0) n (joined_number_either n k.0 ∙ number_again k.0 l.0)) (never_back ks ls)

pub joined_more : (row xs ys : List Kind) (i : ℕ) (d e : Kind) → i < length xs → length xs ≡ length ys →
    row ++ joined_all (drop i xs) (drop i ys) ≡ joined_all xs ys →
    (row ++ joined (get_or xs i d) (get_or ys i e) ∷ []) ++ joined_all (drop (i + 1) xs) (drop (i + 1) ys) ≡ joined_all xs ys
joined_more row xs ys i d e h n inv =
    append_assoc row (joined (get_or xs i d) (get_or ys i e) ∷ []) (joined_all (drop (i + 1) xs) (drop (i + 1) ys))
    ∙ ap (λ l. row ++ l) (sym (ap₂ joined_all (drop_more xs i d h) (drop_more ys i e (omega (arith, h, n)))))
    ∙ inv

pub joined_none : (row xs ys : List Kind) (i : ℕ) → length xs ≤ i → row ++ joined_all (drop i xs) (drop i ys) ≡ joined_all xs ys →
    row ≡ joined_all xs ys
joined_none row xs ys i h inv = sym (ap (λ l. row ++ joined_all l (drop i ys)) (drop_all i xs h) ∙ append-nil row) ∙ inv

-- one more element on top of two lists
pub raised_on_top : (xs ys : List Kind) (x y : Kind) → length xs ≡ length ys →
    is_raised (xs ++ x ∷ []) (ys ++ y ∷ []) ≡ (is_raised xs ys || not (joined_number x.0 y.0 == x.0))
raised_on_top [] [] x y n = or_none (not (joined_number x.0 y.0 == x.0))
  where
    or_none : (b : Bool) → (b || false) ≡ b
    or_none true = refl
    or_none false = refl
raised_on_top [] (l ∷ ys) x y n = absurd (omega (arith, n))
raised_on_top (k ∷ xs) [] x y n = absurd (omega (arith, n))
raised_on_top (k ∷ xs) (l ∷ ys) x y n =
    ap (λ b. not (joined_number k.0 l.0 == k.0) || b) (raised_on_top xs ys x y (omega (arith, n)))
    ∙ or_assoc (not (joined_number k.0 l.0 == k.0)) (is_raised xs ys) (not (joined_number x.0 y.0 == x.0))
  where
    or_assoc : (a b c : Bool) → (a || (b || c)) ≡ ((a || b) || c)
    or_assoc true b c = refl
    or_assoc false b c = refl

pub joined_on_top : (xs ys : List Kind) (x y : Kind) → length xs ≡ length ys →
    joined_all (xs ++ x ∷ []) (ys ++ y ∷ []) ≡ joined_all xs ys ++ joined x y ∷ []
joined_on_top [] [] x y n = refl
joined_on_top [] (l ∷ ys) x y n = absurd (omega (arith, n))
joined_on_top (k ∷ xs) [] x y n = absurd (omega (arith, n))
joined_on_top (k ∷ xs) (l ∷ ys) x y n = ap (λ l'. joined k l ∷ l') (joined_on_top xs ys x y (omega (arith, n)))

-- Each raise takes room.

abbrev pub room_chain : (a b c : Bool) → ℕ
room_chain a b c = if a then 0 else if b then 1 else if c then 3 else 2

room_is : (k : ℕ) (a b c : Bool) → nat_eq k 3 ≡ a → (nat_eq k 0 || nat_eq k 4) ≡ b → nat_eq k 2 ≡ c → room_of k ≡ room_chain a b c
room_is k a b c e f g = rw (e, f, g) refl

room_some : (k : ℕ) → (k ≡ 3 → ⊥) → 0 < room_of k
room_some k ne = go (nat_eq k 0 || nat_eq k 4) refl (nat_eq k 2) refl
  where
    go : (b : Bool) → (nat_eq k 0 || nat_eq k 4) ≡ b → (c : Bool) → nat_eq k 2 ≡ c → 0 < room_of k
    go true f c g = let r = room_is k false true c (equal_not k 3 ne) f g in omega (arith, r)
    go false f true g = let r = room_is k false false true (equal_not k 3 ne) f g in omega (arith, r)
    go false f false g = let r = room_is k false false false (equal_not k 3 ne) f g in omega (arith, r)

room_small : (k : ℕ) → (k ≡ 2 → ⊥) → room_of k < 3
room_small k ne = go (nat_eq k 3) refl (nat_eq k 0 || nat_eq k 4) refl
  where
    go : (a : Bool) → nat_eq k 3 ≡ a → (b : Bool) → (nat_eq k 0 || nat_eq k 4) ≡ b → room_of k < 3
    go true e b f = let r = room_is k true b false e f (equal_not k 2 ne) in omega (arith, r)
    go false e true f = let r = room_is k false true false e f (equal_not k 2 ne) in omega (arith, r)
    go false e false f = let r = room_is k false false false e f (equal_not k 2 ne) in omega (arith, r)

plain_not : (k l : ℕ) → (is_plain k || is_plain l) ≡ false → (nat_eq k 0 ≡ false) × (nat_eq k 3 ≡ false)
plain_not k l e = go (nat_eq k 0) (nat_eq k 3) refl refl e
  where
    go : (a b : Bool) → nat_eq k 0 ≡ a → nat_eq k 3 ≡ b → ((a || b) || is_plain l) ≡ false → (nat_eq k 0 ≡ false) × (nat_eq k 3 ≡ false)
    go false false f g h = (f, g)
    go true b f g h = absurd (cc h)
    go false true f g h = absurd (cc h)

-- what is raised has less room than before
room_falls_number : (k l : ℕ) → (joined_number k l ≡ k → ⊥) → room_of (joined_number k l) < room_of k
room_falls_number k l ne = go (nat_eq k l) refl (is_plain k || is_plain l) refl (nat_eq k 2) refl (nat_eq l 2) refl
  where
    go : (a : Bool) → nat_eq k l ≡ a → (b : Bool) → (is_plain k || is_plain l) ≡ b → (c : Bool) → nat_eq k 2 ≡ c → (d : Bool) →
        nat_eq l 2 ≡ d →
        room_of (joined_number k l) < room_of k
    go true e b f c g d h = absurd (ne (chain_is k l true b c d e f g h))
    go false e true f c g d h =
        let j : joined_number k l ≡ 3 = chain_is k l false true c d e f g h in
        let r = room_some k (λ s. ne (j ∙ sym s)) in
        let z : room_of (joined_number k l) ≡ 0 = ap room_of j in
        omega (arith, r, z)
    go false e false f true g d h =
        let j : joined_number k l ≡ l = chain_is k l false false true d e f g h in
        let two : k ≡ 2 = equal_true k 2 g in
        let r = room_small l (λ s. ne (j ∙ s ∙ sym two)) in
        let z : room_of (joined_number k l) ≡ room_of l = ap room_of j in
        let y : room_of k ≡ 3 = ap room_of two in
        omega (arith, r, z, y)
    go false e false f false g true h = absurd (ne (chain_is k l false false false true e f g h))
    go false e false f false g false h =
        let j : joined_number k l ≡ 4 = chain_is k l false false false false e f g h in
        let n = plain_not k l f in
        let four : nat_eq k 4 ≡ false = equal_not k 4 (λ s. ne (j ∙ sym s)) in
        let z : room_of (joined_number k l) ≡ 1 = ap room_of j in
        let y : room_of k ≡ 2 = room_is k false false false n.1 (ap₂ (λ a b. a || b) n.0 four) g in
        omega (arith, z, y)

room_less_number : (k l : ℕ) → room_of (joined_number k l) ≤ room_of k
room_less_number k l = go (nat_eq (joined_number k l) k) refl
  where
    go : (b : Bool) → nat_eq (joined_number k l) k ≡ b → room_of (joined_number k l) ≤ room_of k
    go true e = let r : room_of (joined_number k l) ≡ room_of k = ap room_of (equal_true (joined_number k l) k e) in omega (arith, r)
    go false e = let r = room_falls_number k l (λ s. absurd (let t = equal_is (joined_number k l) k s in cc (t, e))) in omega (arith, r)

pub room_less : (ks ls : List Kind) → length ks ≡ length ls → room_in (joined_all ks ls) ≤ room_in ks
room_less [] ls n = omega arith
room_less (k ∷ ks) [] n = absurd (omega (arith, n))
room_less (k ∷ ks) (l ∷ ls) n =
    let h = room_less_number k.0 l.0 in let r = room_less ks ls (omega (arith, n)) in omega (arith, h, r)

pub room_falls : (ks ls : List Kind) → length ks ≡ length ls → is_raised ks ls ≡ true → room_in (joined_all ks ls) < room_in ks
room_falls [] ls n e = absurd (cc e)
room_falls (k ∷ ks) [] n e = absurd (omega (arith, n))
room_falls (k ∷ ks) (l ∷ ls) n e = go (λ g. room_falls ks ls (omega (arith, n)) g) (nat_eq (joined_number k.0 l.0) k.0) refl e
  where
    go : (is_raised ks ls ≡ true → room_in (joined_all ks ls) < room_in ks) → (b : Bool) → nat_eq (joined_number k.0 l.0) k.0 ≡ b →
        (not b || is_raised ks ls) ≡ true →
        room_in (joined_all (k ∷ ks) (l ∷ ls)) < room_in (k ∷ ks)
    go others true f g =
        let h = room_less_number k.0 l.0 in let r = others g in omega (arith, h, r)
    go others false f g =
        let h = room_falls_number k.0 l.0 (λ s. absurd (let t = equal_is (joined_number k.0 l.0) k.0 s in cc (t, f))) in
        let r = room_less ks ls (omega (arith, n)) in omega (arith, h, r)

-- where a walk down two lists stops
pub stopped_same : (stacks : List (List Kind)) (a b : ℕ) → a ≡ b → is_raised (get_or stacks a []) (get_or stacks b []) ≡ false
stopped_same stacks a b e = ap (λ x. is_raised (get_or stacks a []) (get_or stacks x [])) (sym e) ∙ never_raised (get_or stacks a [])

-- a step down two lists
pub raised_step : (ks ls xs ys : List Kind) (x y : Kind) → ks ≡ xs ++ x ∷ [] → ls ≡ ys ++ y ∷ [] → length ks ≡ length ls →
    (joined x y).0 ≡ x.0 → is_raised xs ys ≡ is_raised ks ls
raised_step ks ls xs ys x y e f n s =
    let a = length_push xs x in let b = length_push ys y in let c = ap length e in let d = ap length f in
    let even : length xs ≡ length ys = omega (arith, a, b, c, d, n) in
    sym (ap₂ is_raised e f ∙ raised_on_top xs ys x y even
    ∙ ap (λ t. is_raised xs ys || not t) (equal_is (joined_number x.0 y.0) x.0 s) ∙ or_none (is_raised xs ys))
  where
    or_none : (b : Bool) → (b || false) ≡ b
    or_none true = refl
    or_none false = refl

pub raised_here : (ks ls xs ys : List Kind) (x y : Kind) → ks ≡ xs ++ x ∷ [] → ls ≡ ys ++ y ∷ [] → length ks ≡ length ls →
    ((joined x y).0 ≡ x.0 → ⊥) → is_raised ks ls ≡ true
raised_here ks ls xs ys x y e f n s =
    let a = length_push xs x in let b = length_push ys y in let c = ap length e in let d = ap length f in
    let even : length xs ≡ length ys = omega (arith, a, b, c, d, n) in
    ap₂ is_raised e f ∙ raised_on_top xs ys x y even
    ∙ ap (λ t. is_raised xs ys || not t) (equal_not (joined_number x.0 y.0) x.0 s) ∙ or_all (is_raised xs ys)
  where
    or_all : (b : Bool) → (b || true) ≡ true
    or_all true = refl
    or_all false = refl

pub joined_step : (ks ls xs ys : List Kind) (x y : Kind) (more : List Kind) → ks ≡ xs ++ x ∷ [] → ls ≡ ys ++ y ∷ [] → length ks ≡ length ls
    →
    joined_all xs ys ++ reverse (more ++ joined x y ∷ []) ≡ joined_all ks ls ++ reverse more
joined_step ks ls xs ys x y more e f n =
    let a = length_push xs x in let b = length_push ys y in let c = ap length e in let d = ap length f in
    let even : length xs ≡ length ys = omega (arith, a, b, c, d, n) in
    ap (λ l. joined_all xs ys ++ l) (reverse-append more (joined x y ∷ []))
    ∙ sym (append_assoc (joined_all xs ys) (joined x y ∷ []) (reverse more))
    ∙ ap (λ l. l ++ reverse more) (sym (ap₂ joined_all e f ∙ joined_on_top xs ys x y even))

pub even_step : (ks ls xs ys : List Kind) (x y : Kind) → ks ≡ xs ++ x ∷ [] → ls ≡ ys ++ y ∷ [] → length ks ≡ length ls →
    length xs ≡ length ys
even_step ks ls xs ys x y e f n =
    let a = length_push xs x in let b = length_push ys y in let c = ap length e in let d = ap length f in omega (arith, a, b, c, d, n)

pub itself_joined : (stacks : List (List Kind)) (a b : ℕ) → a ≡ b → get_or stacks a [] ≡ joined_all (get_or stacks a [])
    (get_or stacks b [])
itself_joined stacks a b e = sym (ap (λ x. joined_all (get_or stacks a []) (get_or stacks x [])) (sym e) ∙ joined_all_itself
    (get_or stacks a []))

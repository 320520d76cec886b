-- How many messages there are, by how many name each role.
use Rattle.std.proofs.Common.{◌≡◌, ℕ, suc, ◌+◌, ◌<◌, ◌≤◌, List, [], ◌∷◌, length, refl, sym, subst, ⊎_elim, Bool, true, false, arith}
use Rattle.std.specs.Prelude.{Contains}
use Rattle.std.specs.Str.{bytes_eq}
use Rattle.mg_text.specs.Call.{Name}
use Rattle.scr_global.specs.Global.{Passing}
use Rattle.scr_global.specs.Laws.{named, named_in}
use Rattle.scr_global.proofs.Names.{same, first_or_later, none_contained, first_in, later_in}
use Rattle.scr_global.proofs.Between.{AllBetween}

abbrev pub sum : (Name → ℕ) → List Name → ℕ
sum f [] = 0
sum f (q ∷ qs) = f q + sum f qs

pub sum_same : (f g : Name → ℕ) (qs : List Name) → ((q : Name) → Contains qs q → f q ≡ g q) → sum f qs ≡ sum g qs
sum_same f g [] h = refl
sum_same f g (q ∷ qs) h =
    let a = h q (first_in q qs q refl) in
    let b = sum_same f g qs (λ p c. h p (later_in q qs p c)) in
    omega arith

sum_le : (f g : Name → ℕ) (qs : List Name) → ((q : Name) → f q ≤ g q) → sum f qs ≤ sum g qs
sum_le f g [] h = omega arith
sum_le f g (q ∷ qs) h = let a = h q in let b = sum_le f g qs h in omega arith

pub sum_lt : (f g : Name → ℕ) (qs : List Name) → ((q : Name) → f q ≤ g q) → (p : Name) → Contains qs p → f p < g p → sum f qs < sum g qs
sum_lt f g [] h p c l = absurd (none_contained p c)
sum_lt f g (q ∷ qs) h p c l = ⊎_elim first (λ d. later (sum_lt f g qs h p d l)) (first_or_later q qs p c)
  where
    first : q ≡ p → f q + sum f qs < g q + sum g qs
    first e =
        let a : f q < g q = subst (λ x. f x < g x) (sym e) l in
        let b = sum_le f g qs h in
        omega arith

    later : sum f qs < sum g qs → f q + sum f qs < g q + sum g qs
    later b = let a = h q in omega arith

-- how many name a role
abbrev pub count : List Passing → Name → ℕ
count ms q = length (named q ms)

one_more : (m : Passing) (ms : List Passing) (q : Name) → count ms q ≤ count (m ∷ ms) q
one_more m ms q = go (bytes_eq m.from q) (bytes_eq m.to q)
  where
    go : (b d : Bool) → length (named q ms) ≤ length (named_in b d m (named q ms))
    go true d = omega arith
    go false true = omega arith
    go false false = omega arith

the_sender : (m : Passing) (ms : List Passing) → count ms m.from < count (m ∷ ms) m.from
the_sender m ms =
    subst (λ b. length (named m.from ms) < length (named_in b (bytes_eq m.to m.from) m (named m.from ms)))
    (sym (same {x = m.from} {y = m.from} refl)) (omega arith)

pub bounded : (roles : List Name) (ms : List Passing) → AllBetween roles ms → length ms ≤ sum (count ms) roles
bounded roles [] a = omega arith
bounded roles (m ∷ ms) a =
    let ih = bounded roles ms a.1 in
    let l = sum_lt (count ms) (count (m ∷ ms)) roles (one_more m ms) m.from a.0.0 (the_sender m ms) in
    omega arith

-- not more messages name a role than there are
pub named_short : (q : Name) (ms : List Passing) → length (named q ms) ≤ length ms
named_short q [] = omega arith
named_short q (m ∷ ms) = go (bytes_eq m.from q) (bytes_eq m.to q) (named_short q ms)
  where
    go : (b d : Bool) → length (named q ms) ≤ length ms → length (named_in b d m (named q ms)) ≤ suc (length ms)
    go true d h = omega arith
    go false true h = omega arith
    go false false h = omega arith

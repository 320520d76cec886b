-- How far statements lead says whether a `continue` in a rec names a rec opened outside it.
use Rattle.std.proofs.Common.{◌≡◌, ℕ, suc, ◌+◌, ◌-◌, ◌<◌, ◌≤◌, max, nat_le, length, List, [], ◌∷◌, ◌++◌, Bool, true, false, ◌&&◌, ◌||◌}
use Rattle.std.proofs.Common.{if◌then◌else◌, refl, sym, ap, ◌∙◌, arith}
use Rattle.std.specs.Str.{bytes_eq}
use Rattle.std.proofs.lemmas.Bool.Decides.{nat_tests}
use Rattle.mg_text.specs.Call.{Name}
use Rattle.scr_global.specs.Tree.{Statements, Nothing, Says, Choice, Rec, Continue, Branches, NoBranch, Branch, said, said_each}
use Rattle.scr_global.specs.Projecting.{is_among, is_closed, are_closed}
use Rattle.scr_project.specs.inner.Walk.{far, reached, reached_in}

max_le : (a b n : ℕ) → (nat_le a n && nat_le b n) ≡ nat_le (max a b) n
max_le a b n = grind (arith, nat_tests)

zero_le : (n : ℕ) → true ≡ nat_le 0 n
zero_le n = grind (arith, nat_tests)

less_le : (a n : ℕ) → nat_le a (suc n) ≡ nat_le (a - 1) n
less_le a n = grind (arith, nat_tests)

more_le : (a n : ℕ) → nat_le a n ≡ nat_le (suc a) (suc n)
more_le a n = grind (arith, nat_tests)

one_le : (n : ℕ) → true ≡ nat_le 1 (suc n)
one_le n = grind (arith, nat_tests)

none_le : (a : ℕ) → 1 ≤ a → false ≡ nat_le a 0
none_le a h = grind (arith, nat_tests)

far_positive : (name : Name) (around : List Name) → 1 ≤ far name around
far_positive name [] = omega arith
far_positive name (other ∷ around) = go (bytes_eq other name) (far_positive name around)
  where
    go : (b : Bool) → 1 ≤ far name around → 1 ≤ (if b then 1 else suc (far name around))
    go true h = omega arith
    go false h = omega arith

far_le : (name : Name) (inner outer : List Name) → is_among inner name ≡ nat_le (far name (inner ++ outer)) (length inner)
far_le name [] outer = none_le (far name outer) (far_positive name outer)
far_le name (other ∷ inner) outer = go (bytes_eq other name) (far_le name inner outer)
  where
    go : (b : Bool) → is_among inner name ≡ nat_le (far name (inner ++ outer)) (length inner) →
        (b || is_among inner name) ≡ nat_le (if b then 1 else suc (far name (inner ++ outer))) (suc (length inner))
    go true h = one_le (length inner)
    go false h = h ∙ more_le (far name (inner ++ outer)) (length inner)

both_le : (p q : Bool) (a b n : ℕ) → p ≡ nat_le a n → q ≡ nat_le b n → (p && q) ≡ nat_le (max a b) n
both_le p q a b n e f = (λ i. e i && f i) ∙ max_le a b n

mutual
  pub closed_reach : (inner outer : List Name) (s : Statements) → is_closed inner (said s) ≡ nat_le (reached (inner ++ outer) s)
      (length inner)
  closed_reach inner outer Nothing = zero_le (length inner)
  closed_reach inner outer (Says m rest) = closed_reach inner outer rest
  closed_reach inner outer (Choice place at branches rest) =
      both_le (are_closed inner (said_each branches)) (is_closed inner (said rest)) (reached_in (inner ++ outer) branches)
      (reached (inner ++ outer) rest) (length inner)
      (closed_reach_in inner outer branches) (closed_reach inner outer rest)
  closed_reach inner outer (Rec place name body rest) =
      both_le (is_closed (name ∷ inner) (said body)) (is_closed inner (said rest)) (reached (name ∷ (inner ++ outer)) body - 1)
      (reached (inner ++ outer) rest) (length inner)
      (closed_reach (name ∷ inner) outer body ∙ less_le (reached (name ∷ (inner ++ outer)) body) (length inner))
      (closed_reach inner outer rest)
  closed_reach inner outer (Continue place name rest) =
      both_le (is_among inner name) (is_closed inner (said rest)) (far name (inner ++ outer)) (reached (inner ++ outer) rest) (length inner)
      (far_le name inner outer) (closed_reach inner outer rest)

  closed_reach_in : (inner outer : List Name) (bs : Branches) → are_closed inner (said_each bs) ≡ nat_le (reached_in (inner ++ outer) bs)
      (length inner)
  closed_reach_in inner outer NoBranch = zero_le (length inner)
  closed_reach_in inner outer (Branch b more) =
      both_le (is_closed inner (said b)) (are_closed inner (said_each more)) (reached (inner ++ outer) b) (reached_in (inner ++ outer) more)
      (length inner)
      (closed_reach inner outer b) (closed_reach_in inner outer more)

-- a rec's body leads out of it exactly where it reaches further than the rec itself
pub rec_closed : (name : Name) (around : List Name) (body : Statements) → is_closed (name ∷ []) (said body) ≡ nat_le
    (reached (name ∷ around) body) 1
rec_closed name around body = closed_reach (name ∷ []) around body

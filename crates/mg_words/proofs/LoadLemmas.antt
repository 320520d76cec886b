-- Which words are the command `load`, and which can't follow.
use Rattle.std.proofs.Common.{◌≡◌, ℕ, ◌<◌, ◌≤◌, ◌^◌, List, [], ◌∷◌, length, Some, None, refl, sym, ap, ◌∙◌, subst, arith}
use Rattle.std.specs.Fmt.{decimal}
use Rattle.std.proofs.lemmas.Fmt.{decimal_injective}
use Rattle.mg_words.specs.Words.{Word, Command, Load, IsWorkload, IsBehind}
use Rattle.mg_words.specs.Words.{IsCommand, AreCommand, CanBegin, AreWrong}
use Rattle.mg_words.specs.inner.Judging.{IsNumber, IsUpTo}
use Rattle.mg_words.proofs.Verbs.{load, mark}
use Rattle.mg_words.proofs.WordsLemmas.{head_is, tail_is, filled, few, wrong_at}

-- ---- what can begin the command

begins_seed : (n seed : ℕ) → IsWorkload n seed → CanBegin AreCommand (load ∷ decimal n ∷ decimal seed ∷ [])
begins_seed n seed h = ([], (Load n seed, (decimal n ∷ decimal seed ∷ [], refl, (refl, h))))

of_zero : (n : ℕ) → 1 ≤ n → n ≤ 400 → IsWorkload n 0
of_zero n low high = record { some = low; most = high; picks = omega arith }

begins_branches : (n : ℕ) → 1 ≤ n → n ≤ 400 → CanBegin AreCommand (load ∷ decimal n ∷ [])
begins_branches n low high = let b = begins_seed n 0 (of_zero n low high) in (decimal 0 ∷ b.0, b.1)

begins_load : CanBegin AreCommand (load ∷ [])
begins_load = let b = begins_branches 1 (omega arith) (omega arith) in (decimal 1 ∷ b.0, b.1)

-- ---- what stands behind the word

pub is_load : (command : Command) (rest : List Word) → IsCommand command (load ∷ rest)
    → (n : ℕ) × (seed : ℕ) × (command ≡ Load n seed) × IsBehind (Load n seed) rest
is_load (Load n seed) rest (r, e, b) = (n, seed, refl, subst (IsBehind (Load n seed)) (sym (tail_is e)) b)
is_load other rest (r, e, b) = absurd (omega (arith, ap mark (head_is e)))

first_word : (command : Command) (p : Word) (more : List Word) → IsCommand command (load ∷ p ∷ more) → (n : ℕ) × (p ≡ decimal n) × (1 ≤ n)
    × (n ≤ 400)
first_word command p more is = let (n, seed, same, (e, h)) = is_load command (p ∷ more) is in (n, head_is e, h.some, h.most)

second_word : (command : Command) (p q : Word) (more : List Word) → IsCommand command (load ∷ p ∷ q ∷ more)
    → (seed : ℕ) × (q ≡ decimal seed) × (seed < 2 ^ 64) × (more ≡ [])
second_word command p q more is =
    let (n, seed, same, (e, h)) = is_load command (p ∷ q ∷ more) is in
    let picks = h.picks in
    (seed, head_is (tail_is e), omega arith, tail_is (tail_is e))

load_is_none : (command : Command) → IsCommand command (load ∷ []) → ⊥
load_is_none command is = let (n, seed, same, (e, h)) = is_load command [] is in filled e

branches_is_none : (first : Word) (command : Command) → IsCommand command (load ∷ first ∷ []) → ⊥
branches_is_none first command is = let (n, seed, same, (e, h)) = is_load command (first ∷ []) is in filled (tail_is e)

-- ---- what is judged

pub few_load : (rest : List Word) → length rest ≡ 0 → AreWrong (load ∷ rest) None
few_load rest e = few (load ∷ []) rest e begins_load load_is_none

-- the first word names so many branches
begins_named : (first : Word) (n : ℕ) → IsUpTo 400 first (Some n) → CanBegin AreCommand (load ∷ first ∷ [])
begins_named first n (named, low, high) = subst (λ (w : Word). CanBegin AreCommand (load ∷ w ∷ [])) (sym named) (begins_branches n low high)

pub few_branches : (rest : List Word) (first : Word) (more : List Word) (n : ℕ) → rest ≡ first ∷ more → IsUpTo 400 first (Some n)
    → length more ≡ 0 → AreWrong (load ∷ rest) None
few_branches rest first more n is h e =
    subst (λ (z : List Word). AreWrong (load ∷ z) None) (sym is) (few (load ∷ first ∷ []) more e (begins_named first n h)
    (branches_is_none first))

pub wrong_branches : (rest : List Word) (word : Word) (more : List Word) → rest ≡ word ∷ more → IsUpTo 400 word None
    → AreWrong (load ∷ rest) (Some word)
wrong_branches rest word more e isnt =
    wrong_at (load ∷ []) rest word more e begins_load
    (λ b. let (n, named, low, high) = first_word b.1.0 word b.0 b.1.1 in isnt n low high named)

pub wrong_seed : (rest : List Word) (first word : Word) (more more' : List Word) (n : ℕ) → rest ≡ first ∷ more → more ≡ word ∷ more'
    → IsUpTo 400 first (Some n) → IsNumber word None → AreWrong (load ∷ rest) (Some word)
wrong_seed rest first word more more' n e e' h isnt =
    subst (λ (ws : List Word). AreWrong (load ∷ ws) (Some word)) (sym e)
    (wrong_at (load ∷ first ∷ []) more word more' e' (begins_named first n h)
    (λ b. let (seed, named, below, none) = second_word b.1.0 first word b.0 b.1.1 in isnt seed below named))

-- two words name a workload
two_numbers : (first second : Word) (n seed : ℕ) → IsUpTo 400 first (Some n) → IsNumber second (Some seed) →
    IsBehind (Load n seed) (first ∷ second ∷ [])
two_numbers first second n seed (named, low, high) (named', below) =
    ((λ i. named i ∷ named' i ∷ []), record { some = low; most = high; picks = omega arith })

pub wrong_surplus : (rest : List Word) (first second word : Word) (more more' more'' : List Word) (n seed : ℕ) → rest ≡ first ∷ more
    → more ≡ second ∷ more' → more' ≡ word ∷ more'' → IsUpTo 400 first (Some n) → IsNumber second (Some seed)
    → AreWrong (load ∷ rest) (Some word)
wrong_surplus rest first second word more more' more'' n seed e e' e'' h h' =
    subst (λ (ws : List Word). AreWrong (load ∷ ws) (Some word)) (sym (e ∙ ap (λ (z : List Word). first ∷ z) e'))
    (wrong_at (load ∷ first ∷ second ∷ []) more' word more'' e''
    ([], (Load n seed, (first ∷ second ∷ [], refl, two_numbers first second n seed h h')))
    (λ b. filled (sym (second_word b.1.0 first second (word ∷ b.0) b.1.1).3)))

pub same_load : (command : Command) (n seed : ℕ) (rest : List Word) → IsBehind (Load n seed) rest → IsCommand command (load ∷ rest)
    → Load n seed ≡ command
same_load command n seed rest (e, h) is =
    let (m, other, same, (e', h')) = is_load command rest is in
    let both : decimal n ∷ decimal seed ∷ [] ≡ decimal m ∷ decimal other ∷ [] = sym e ∙ e' in
    let most = h.most in
    let most' = h'.most in
    let picks = h.picks in
    let picks' = h'.picks in
    let one : n ≡ m = decimal_injective n m (omega arith) (omega arith) (head_is both) in
    let two : seed ≡ other = decimal_injective seed other (omega arith) (omega arith) (head_is (tail_is both)) in
    (λ i. Load (one i) (two i)) ∙ sym same

-- the workload of the command is one that there is
pub workload_of : (words : List Word) (n seed : ℕ) → IsCommand (Load n seed) words → IsWorkload n seed
workload_of words n seed (r, e, (behind, h)) = h

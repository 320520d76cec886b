-- What is in scope and around in a source, and in what is resolved of it.
use Rattle.std.proofs.Common.{◌≡◌, ℕ, zero, suc, ◌+◌, ◌<◌, List, [], ◌∷◌, ◌++◌, map, reverse, Option, Some, None, refl, sym, ap, ◌∙◌, arith}
use Rattle.std.specs.Prelude.{Contains}
use Rattle.std.proofs.lemmas.List.{reverse-append}
use Rattle.mg_text.specs.Call.{Name}
use Rattle.jv_rules.specs.Scope.{Declared, Target}
use Rattle.jv_core.specs.Statements.{LoopOf, ASwitch, MayBreak}
use Rattle.jv_core.specs.Statements as resolved
use Rattle.jv_core.specs.Numbering.{numbers_from}
use Rattle.jv_names.specs.Resolves.{HasSlot, BreakLeads, ContinueLeads, first_slots}
use Rattle.jv_names.specs.Resolves as is

-- the loops and switches around, by their numbers
abbrev pub target : Option ℕ → resolved.Target
target (Some l) = LoopOf l
target None = ASwitch

in_first : {A : Type 0} (x : A) (xs : List A) → Contains (x ∷ xs) x
in_first x xs = (zero, omega arith, refl)

within_more : {k n : ℕ} → k < n → suc k < suc n
within_more e = omega arith

in_others : {A : Type 0} (y x : A) (xs : List A) → Contains xs x → Contains (y ∷ xs) x
in_others y x xs c = (suc c.0, within_more c.1, c.2)

-- a `continue` goes on with a loop around it
pub may_continue : {ts : List Target} {ks : List (Option ℕ)} {l : Option Name} {k : ℕ} → ContinueLeads ts ks l k →
    Contains (map target ks) (LoopOf k)
may_continue (is.goes_on {k = k} {ks = ks}) = in_first (LoopOf k) (map target ks)
may_continue (is.goes_on_named {k = k} {ks = ks}) = in_first (LoopOf k) (map target ks)
may_continue (is.goes_on_other {j = j} {k = k} {ks = ks} n d c) = in_others (LoopOf j) (LoopOf k) (map target ks) (may_continue c)
may_continue (is.goes_on_out {k = k} {ks = ks} c) = in_others ASwitch (LoopOf k) (map target ks) (may_continue c)

-- a `break` leaves a loop around it, or the innermost switch
pub may_break : {ts : List Target} {ks : List (Option ℕ)} {l : Option Name} {k : Option ℕ} → BreakLeads ts ks l k →
    MayBreak (map target ks) k
may_break (is.breaks_loop {k = k} {ks = ks}) = in_first (LoopOf k) (map target ks)
may_break is.breaks_switch = tt
may_break (is.breaks_named {k = k} {ks = ks}) = in_first (LoopOf k) (map target ks)
may_break (is.breaks_other {j = j} {k = k} {ks = ks} n d b) = in_others (LoopOf j) (LoopOf k) (map target ks) (may_break b)
may_break (is.breaks_out {k = k} {ks = ks} b) = in_others ASwitch (LoopOf k) (map target ks) (may_break b)

-- the slot of a local is in scope
pub slot_in : {name : Name} {ds : List Declared} {ks : List ℕ} {k : ℕ} → HasSlot name ds ks k → Contains ks k
slot_in (is.here {k = k} {ks = ks} e) = in_first k ks
slot_in (is.there {j = j} {k = k} {ks = ks} n d h) = in_others j k ks (slot_in h)

-- the parameters are in scope, the last innermost
numbers_snoc : (a n : ℕ) → numbers_from a (suc n) ≡ numbers_from a n ++ (a + n) ∷ []
numbers_snoc a zero = ap (λ b. b ∷ []) (omega arith)
numbers_snoc a (suc n) =
    let next : suc a + n ≡ a + suc n = omega arith in
    ap (λ ns. a ∷ ns) (numbers_snoc (suc a) n ∙ ap (λ b. numbers_from (suc a) n ++ b ∷ []) next)

pub first_slots_are : (n : ℕ) → first_slots n ≡ reverse (numbers_from 0 n)
first_slots_are zero = refl
first_slots_are (suc n) =
    let last : n ≡ 0 + n = omega arith in
    ap (λ ks. n ∷ ks) (first_slots_are n)
    ∙ ap (λ k. k ∷ reverse (numbers_from 0 n)) last
    ∙ sym (ap reverse (numbers_snoc 0 n) ∙ reverse-append (numbers_from 0 n) ((0 + n) ∷ []))

-- The first flaw of the lowest number, as more is judged.
use Rattle.std.proofs.Common.{◌≡◌, ℕ, suc, ◌+◌, Bool, true, false, List, [], ◌∷◌, ◌++◌, map, Option, Some, None, Result, Ok, Err, nat_lt}
use Rattle.std.proofs.Common.{if◌then◌else◌, refl, sym, ap, ◌∙◌, arith, append-nil, append_assoc}
use Rattle.std.proofs.lemmas.Bool.Decides.{nat_tests}
use Rattle.vm_model.specs.View.{instr_of}
use Rattle.vm_model.specs.Program.{Instr}
use Rattle.vm_model.specs.Links.{Flaw, number_of, lower, least, right_in, wrong_in}
use Rattle.vm_load.specs.declared.fault.LoadFault.{LoadFault}
use Rattle.vm_load.specs.declared.fault.LoadFault.TheVariants as faults
use Rattle.vm_load.specs.Faults.{Judges, flaw_of}

pub lower-none : (b : Option Flaw) → lower b None ≡ b
lower-none None = refl
lower-none (Some f) = refl

-- the choice between two, twice
pick : {A : Type 0} (n m k : ℕ) (x y z : A) →
    (if nat_lt k (if nat_lt m n then m else n) then z else (if nat_lt m n then y else x))
    ≡ (if nat_lt (if nat_lt k m then k else m) n then (if nat_lt k m then z else y) else x)
pick n m k x y z = grind (arith, nat_tests)

number-if : (b : Bool) (f g : Flaw) → number_of (if b then g else f) ≡ (if b then number_of g else number_of f)
number-if true f g = refl
number-if false f g = refl

some-if : (b : Bool) (f g : Flaw) → (if b then Some g else Some f) ≡ Some (if b then g else f)
some-if true f g = refl
some-if false f g = refl

three : (f g h : Flaw) → lower (lower (Some f) (Some g)) (Some h) ≡ lower (Some f) (lower (Some g) (Some h))
three f g h =
    ap (λ o. lower o (Some h)) (some-if (nat_lt (number_of g) (number_of f)) f g)
    ∙ some-if (nat_lt (number_of h) (number_of (if nat_lt (number_of g) (number_of f) then g else f)))
    (if nat_lt (number_of g) (number_of f) then g else f) h
    ∙ ap (λ n. Some (if nat_lt (number_of h) n then h else (if nat_lt (number_of g) (number_of f) then g else f)))
    (number-if (nat_lt (number_of g) (number_of f)) f g)
    ∙ ap Some (pick (number_of f) (number_of g) (number_of h) f g h)
    ∙ sym (ap (λ o. lower (Some f) o) (some-if (nat_lt (number_of h) (number_of g)) g h)
    ∙ some-if (nat_lt (number_of (if nat_lt (number_of h) (number_of g) then h else g)) (number_of f)) f
    (if nat_lt (number_of h) (number_of g) then h else g)
    ∙ ap (λ n. Some (if nat_lt n (number_of f) then (if nat_lt (number_of h) (number_of g) then h else g) else f))
    (number-if (nat_lt (number_of h) (number_of g)) g h))

pub lower-assoc : (a b c : Option Flaw) → lower (lower a b) c ≡ lower a (lower b c)
lower-assoc None b c = refl
lower-assoc (Some f) None c = refl
lower-assoc (Some f) (Some g) None = ap (λ o. o) (lower-none (lower (Some f) (Some g)))
lower-assoc (Some f) (Some g) (Some h) = three f g h

-- the flaws of two lists
pub least-append : (fs gs : List Flaw) → least (fs ++ gs) ≡ lower (least fs) (least gs)
least-append [] gs = refl
least-append (f ∷ fs) gs = ap (λ o. lower (Some f) o) (least-append fs gs) ∙ sym (lower-assoc (Some f) (least fs) (least gs))

-- one more that was judged, before what is left
pub wrong-more : {A : Type 0} (best : Option Flaw) (r : Result A Flaw) (rs : List (Result A Flaw)) →
    lower (lower best (least (wrong_in (r ∷ [])))) (least (wrong_in rs)) ≡ lower best (least (wrong_in (r ∷ rs)))
wrong-more best (Ok a) rs = ap (λ o. lower o (least (wrong_in rs))) (lower-none best)
wrong-more best (Err f) rs = lower-assoc best (Some f) (least (wrong_in rs))

pub right-more : {A : Type 0} (front : List A) (r : Result A Flaw) (rs : List (Result A Flaw)) →
    (front ++ right_in (r ∷ [])) ++ right_in rs ≡ front ++ right_in (r ∷ rs)
right-more front (Ok a) rs = append_assoc front (a ∷ []) (right_in rs)
right-more front (Err f) rs = ap (λ l. l ++ right_in rs) (append-nil front)

-- what an instruction that isn't right leaves
pub none_right : (fault : LoadFault) (wanted : Result Instr Flaw) → Judges instr_of (Err fault) wanted → (fault ≡ faults.Memory → ⊥) →
    (right_in (wanted ∷ []) ≡ []) × (least (wrong_in (wanted ∷ [])) ≡ flaw_of fault)
none_right (faults.DuplicateClass name) wanted h m = rw h (refl, refl)
none_right (faults.UnknownClass name) wanted h m = rw h (refl, refl)
none_right (faults.UnknownMember name) wanted h m = rw h (refl, refl)
none_right (faults.BadDescriptor name) wanted h m = rw h (refl, refl)
none_right (faults.NoCode name) wanted h m = rw h (refl, refl)
none_right faults.Memory wanted h m = absurd (m refl)

pub ruleset kept = (lower-none, append-nil, none_right)

-- What instructions that push an int, or read and write a local, are linked to.
use Rattle.std.proofs.Common.{◌≡◌, ℕ, zero, suc, ◌+◌, ◌≤◌, Bool, true, false, ℤ, pos, negsuc, List, Option, Some, refl, ap, arith}
use Rattle.std.specs.Prelude.{nat_le, if◌then◌else◌}
use Rattle.cls_tree.specs.Pool.{Int}
use Rattle.jv_core.specs.declared.program.CoreType.{CoreType}
use Rattle.jv_core.specs.declared.program.CoreType.TheVariants as types
use Rattle.vm_model.specs.declared.value.Value.{Value as Held}
use Rattle.vm_model.specs.declared.value.Value.TheVariants as held
use Rattle.vm_model.specs.Links.{Outline}
use Rattle.vm_model.specs.Actions.{Push, plain_action, Sort, Number, Reference, Load, Store}
use Rattle.gen_rules.specs.Symbolic as symbolic
use Rattle.gen_rules.specs.Symbolic.{Instr, plain, iconst, push, lies_within, load, iload, aload, is_reference, store, istore, astore}
use Rattle.gen_sound.specs.Related.{action_of}

-- an int is pushed, by one instruction or another
short : (n : ℕ) → n ≤ 5 → plain_action (3 + n) ≡ Some (Push (held.Int (pos n)))
short zero h = refl
short (suc zero) h = refl
short (suc (suc zero)) h = refl
short (suc (suc (suc zero))) h = refl
short (suc (suc (suc (suc zero)))) h = refl
short (suc (suc (suc (suc (suc zero))))) h = refl
short (suc (suc (suc (suc (suc (suc n)))))) h = absurd (omega (arith, h))

at_most_five : (n : ℕ) → lies_within (negsuc 0) (pos 5) (pos n) ≡ true → n ≤ 5
at_most_five n h = grind (arith, h)

not_below : (n : ℕ) → lies_within (negsuc 0) (pos 5) (negsuc (suc n)) ≡ true → ⊥
not_below n h = grind (arith, h)

one_of : (os : List Outline) (a b c : Bool) (v : Held) (i j k l : Instr) → (a ≡ true → action_of os i ≡ Some (Push v)) →
    action_of os j ≡ Some (Push v) → action_of os k ≡ Some (Push v) → action_of os l ≡ Some (Push v) →
    action_of os (if a then i else if b then j else if c then k else l) ≡ Some (Push v)
one_of os true b c v i j k l f g h e = f refl
one_of os false true c v i j k l f g h e = g
one_of os false false true v i j k l f g h e = h
one_of os false false false v i j k l f g h e = e

pushed_by : (os : List Outline) (z : ℤ) → (lies_within (negsuc 0) (pos 5) z ≡ true → plain_action (iconst z) ≡ Some (Push (held.Int z))) →
    action_of os (push z) ≡ Some (Push (held.Int z))
pushed_by os z f = one_of os (lies_within (negsuc 0) (pos 5) z) (lies_within (negsuc 127) (pos 127) z) (lies_within (negsuc 32767) (pos
    32767) z)
    (held.Int z) (plain (iconst z)) (record { op = 16; operand = symbolic.Number z }) (record { op = 17; operand = symbolic.Number z })
    (record { op = 18; operand = symbolic.Constant (Int z) }) f refl refl refl

pub push_does : (os : List Outline) (z : ℤ) → action_of os (push z) ≡ Some (Push (held.Int z))
push_does os (pos n) = pushed_by os (pos n) (λ h. short n (at_most_five n h))
push_does os (negsuc zero) = refl
push_does os (negsuc (suc n)) = pushed_by os (negsuc (suc n)) (λ h. absurd (not_below n h))

-- Locals: the first four have instructions of their own.

-- the sort of the values of a type
abbrev pub sort_of : CoreType → Sort
sort_of type = if is_reference type then Reference else Number

first_four : (P : ℕ → Type 0) → P 0 → P 1 → P 2 → P 3 → ((k : ℕ) → P (suc (suc (suc (suc k))))) → (k : ℕ) → P k
first_four P a b c d more zero = a
first_four P a b c d more (suc zero) = b
first_four P a b c d more (suc (suc zero)) = c
first_four P a b c d more (suc (suc (suc zero))) = d
first_four P a b c d more (suc (suc (suc (suc k)))) = more k

beyond : (k : ℕ) → nat_le (suc (suc (suc (suc k)))) 3 ≡ false
beyond k = grind arith

load_number : (os : List Outline) (k : ℕ) → action_of os (iload k) ≡ Some (Load Number k)
load_number os = first_four (λ k. action_of os (iload k) ≡ Some (Load Number k)) refl refl refl refl
    (λ k. let n : ℕ = suc (suc (suc (suc k))) in
    ap (λ b. action_of os (if b then plain (26 + n) else record { op = 21; operand = symbolic.Local n })) (beyond k))

load_reference : (os : List Outline) (k : ℕ) → action_of os (aload k) ≡ Some (Load Reference k)
load_reference os = first_four (λ k. action_of os (aload k) ≡ Some (Load Reference k)) refl refl refl refl
    (λ k. let n : ℕ = suc (suc (suc (suc k))) in
    ap (λ b. action_of os (if b then plain (42 + n) else record { op = 25; operand = symbolic.Local n })) (beyond k))

pub load_does : (os : List Outline) (type : CoreType) (k : ℕ) → action_of os (load type k) ≡ Some (Load (sort_of type) k)
load_does os types.Int k = load_number os k
load_does os types.Boolean k = load_number os k
load_does os types.Void k = load_number os k
load_does os (types.Enum e) k = load_number os k
load_does os types.Text k = load_reference os k
load_does os (types.Object c) k = load_reference os k

store_number : (os : List Outline) (k : ℕ) → action_of os (istore k) ≡ Some (Store Number k)
store_number os = first_four (λ k. action_of os (istore k) ≡ Some (Store Number k)) refl refl refl refl
    (λ k. let n : ℕ = suc (suc (suc (suc k))) in
    ap (λ b. action_of os (if b then plain (59 + n) else record { op = 54; operand = symbolic.Local n })) (beyond k))

store_reference : (os : List Outline) (k : ℕ) → action_of os (astore k) ≡ Some (Store Reference k)
store_reference os = first_four (λ k. action_of os (astore k) ≡ Some (Store Reference k)) refl refl refl refl
    (λ k. let n : ℕ = suc (suc (suc (suc k))) in
    ap (λ b. action_of os (if b then plain (75 + n) else record { op = 58; operand = symbolic.Local n })) (beyond k))

pub store_does : (os : List Outline) (type : CoreType) (k : ℕ) → action_of os (store type k) ≡ Some (Store (sort_of type) k)
store_does os types.Int k = store_number os k
store_does os types.Boolean k = store_number os k
store_does os types.Void k = store_number os k
store_does os (types.Enum e) k = store_number os k
store_does os types.Text k = store_reference os k
store_does os (types.Object c) k = store_reference os k

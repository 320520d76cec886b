-- Members and classes, judged one after another.
use Rattle.std.proofs.Common.{◌≡◌, ℕ, ◌+◌, ◌<◌, ◌≤◌, List, [], ◌∷◌, ◌++◌, length, map, drop, get_or, Option, Some, None, Result, Ok, Err}
use Rattle.std.proofs.Common.{IfOk, OnOk, zero, suc, refl, sym, ap, ◌∙◌, add-one, arith}
use Rattle.std.proofs.lemmas.List.{append_assoc, length-map}
use Rattle.std.proofs.Math.Seq.{drop-cons}
use Rattle.std.specs.List.{flat_map}
use Rattle.mg_text.specs.declared.memory.Memory.{Memory}
use Rattle.vm_model.specs.Program.{MethodOf, ClassOf}
use Rattle.vm_model.specs.Links.{Flaw, Declared, Outline, field_made, lower, least, some_in}
use Rattle.vm_load.specs.declared.fault.LoadFault.{LoadFault}
use Rattle.vm_load.specs.declared.fault.LoadFault.TheVariants as faults
use Rattle.vm_load.specs.Faults.{Tells, flaw_of}
use Rattle.vm_load.proofs.Codes.{drop_whole}
use Rattle.vm_load.proofs.Lower.{lower-none, lower-assoc, least-append}

-- what a fault tells
told_flaw : (f : LoadFault) (wanted : Option Flaw) → Tells (Err f) wanted → (f ≡ faults.Memory → ⊥) → flaw_of f ≡ wanted
told_flaw (faults.DuplicateClass name) wanted h m = sym h
told_flaw (faults.UnknownClass name) wanted h m = sym h
told_flaw (faults.UnknownMember name) wanted h m = sym h
told_flaw (faults.BadDescriptor name) wanted h m = sym h
told_flaw (faults.NoCode name) wanted h m = sym h
told_flaw faults.Memory wanted h m = absurd (m refl)

-- what is noted of it
pub noted_told : (r : Result (Unit {0}) Memory) (f : LoadFault) (best new wanted : Option Flaw) → Tells (Err f) wanted →
    OnOk r (new ≡ lower best (flaw_of f)) → IfOk r (λ _. f ≡ faults.Memory → ⊥) → OnOk r (new ≡ lower best wanted)
noted_told (Ok b) f best new wanted h e m = e ∙ ap (λ o. lower best o) (told_flaw f wanted h m)
noted_told (Err x) f best new wanted h e m = tt

pub noted_none : (best wanted : Option Flaw) → wanted ≡ None → best ≡ lower best wanted
noted_none best wanted h = sym (lower-none best) ∙ ap (λ o. lower best o) (sym h)

module _ {A : Type 0} (xs : List A) (k : ℕ) (d : A) (lt : k < length xs) where
  cut : drop k xs ≡ get_or xs k d ∷ drop (k + 1) xs
  cut = drop-cons xs k d lt ∙ ap (λ n. get_or xs k d ∷ drop n xs) (sym (add-one k))

  some-first : (f : Option Flaw) (fs : List (Option Flaw)) (best : Option Flaw) → lower (lower best f) (least (some_in fs)) ≡ lower best
      (least (some_in (f ∷ fs)))
  some-first None fs best = ap (λ b. lower b (least (some_in fs))) (lower-none best)
  some-first (Some f) fs best = lower-assoc best (Some f) (least (some_in fs))

  -- one more flaw that may be there
  pub some_next : (flaw : A → Option Flaw) (best more total : Option Flaw) → lower best (least (some_in (map flaw (drop k xs)))) ≡ total →
      more ≡ lower best (flaw (get_or xs k d)) → lower more (least (some_in (map flaw (drop (k + 1) xs)))) ≡ total
  some_next flaw best more total e noted =
      ap (λ b. lower b (least (some_in (map flaw (drop (k + 1) xs))))) noted
      ∙ some-first (flaw (get_or xs k d)) (map flaw (drop (k + 1) xs)) best
      ∙ ap (λ l. lower best (least (some_in (map flaw l)))) (sym cut) ∙ e

  -- one more list of flaws, and one more list of what is right
  pub flaws_next : (flaws : A → List Flaw) (best more total : Option Flaw) → lower best (least (flat_map flaws (drop k xs))) ≡ total →
      more ≡ lower best (least (flaws (get_or xs k d))) → lower more (least (flat_map flaws (drop (k + 1) xs))) ≡ total
  flaws_next flaws best more total e noted =
      ap (λ b. lower b (least (flat_map flaws (drop (k + 1) xs)))) noted
      ∙ lower-assoc best (least (flaws (get_or xs k d))) (least (flat_map flaws (drop (k + 1) xs)))
      ∙ ap (λ o. lower best o) (sym (least-append (flaws (get_or xs k d)) (flat_map flaws (drop (k + 1) xs))))
      ∙ ap (λ l. lower best (least (flat_map flaws l))) (sym cut) ∙ e

  pub rights_next : {B : Type 0} (right : A → List B) (front more total : List B) → front ++ flat_map right (drop k xs) ≡ total →
      more ≡ front ++ right (get_or xs k d) → more ++ flat_map right (drop (k + 1) xs) ≡ total
  rights_next right front more total e added =
      ap (λ l. l ++ flat_map right (drop (k + 1) xs)) added
      ∙ append_assoc front (right (get_or xs k d)) (flat_map right (drop (k + 1) xs))
      ∙ ap (λ l. front ++ flat_map right l) (sym cut) ∙ e

-- no flaws are left
pub flaws_whole : {A : Type 0} (xs : List A) (k : ℕ) → length xs ≤ k → (flaws : A → List Flaw) (best total : Option Flaw) →
    lower best (least (flat_map flaws (drop k xs))) ≡ total → best ≡ total
flaws_whole xs k past flaws best total e =
    sym (lower-none best) ∙ ap (λ l. lower best (least (flat_map flaws l))) (sym (drop_whole xs k past)) ∙ e

-- a class: the super class, the fields, the methods and their codes
pub class_noted : (b0 b1 b2 b3 b4 s : Option Flaw) (fs ms bs : List Flaw) → b1 ≡ lower b0 s → b2 ≡ lower b1 (least fs) →
    b3 ≡ lower b2 (least ms) → b4 ≡ lower b3 (least bs) →
    b4 ≡ lower b0 (least (some_in (s ∷ []) ++ (fs ++ (ms ++ bs))))
class_noted b0 b1 b2 b3 b4 s fs ms bs e1 e2 e3 e4 =
    e4 ∙ ap (λ b. lower b (least bs)) e3 ∙ ap (λ b. lower (lower b (least ms)) (least bs)) e2 ∙
    ap (λ b. lower (lower (lower b (least fs)) (least ms)) (least bs)) e1
    ∙ lower-assoc (lower (lower b0 s) (least fs)) (least ms) (least bs) ∙ lower-assoc (lower b0 s) (least fs) (lower (least ms) (least bs))
    ∙ lower-assoc b0 s (lower (least fs) (lower (least ms) (least bs)))
    ∙ ap (λ o. lower b0 o) (
    ap (λ o. lower s (lower (least fs) o)) (sym (least-append ms bs)) ∙ ap (λ o. lower s o) (sym (least-append fs (ms ++ bs)))
    ∙ single s (fs ++ (ms ++ bs)))
  where
    single : (f : Option Flaw) (rest : List Flaw) → lower f (least rest) ≡ least (some_in (f ∷ []) ++ rest)
    single None rest = refl
    single (Some f) rest = refl

-- a class is made of its outline and its methods
abbrev pub class_by : Outline → List MethodOf → ClassOf
class_by o ms = record { name = o.name; fields = map field_made o.own; methods = ms }

pub class_right : (o p : Outline) (ms ns : List MethodOf) → o ≡ p → ms ≡ ns → class_by o ms ≡ class_by p ns
class_right o p ms ns e f = ap (λ (x : Outline). class_by x ms) e ∙ ap (class_by p) f

-- and what is wrong with it
pub class_wrong : (field method : Declared → Option Flaw) (o p : Outline) (b0 b1 b2 b3 b4 s : Option Flaw) (bs : List Flaw) →
    b1 ≡ lower b0 s → b2 ≡ lower b1 (least (some_in (map field o.fields))) → b3 ≡ lower b2 (least (some_in (map method o.methods))) →
    o ≡ p → b4 ≡ lower b3 (least bs) →
    b4 ≡ lower b0 (least (some_in (s ∷ []) ++ (some_in (map field p.fields) ++ (some_in (map method p.methods) ++ bs))))
class_wrong field method o p b0 b1 b2 b3 b4 s bs e1 e2 e3 same e4 =
    class_noted b0 b1 b2 b3 b4 s (some_in (map field p.fields)) (some_in (map method p.methods)) bs e1
    (e2 ∙ ap (λ (x : Outline). lower b1 (least (some_in (map field x.fields)))) same)
    (e3 ∙ ap (λ (x : Outline). lower b2 (least (some_in (map method x.methods)))) same) e4

-- the outlines are those of the classes
pub outlined_many : {X Y : Type 0} (f : X → Outline) (g : Y → Outline) (os : List X) (cs : List Y) → map f os ≡ map g cs →
    length os ≡ length cs
outlined_many f g os cs e = sym (length-map os f) ∙ ap length e ∙ length-map cs g

pub outlined_at : {X Y : Type 0} (f : X → Outline) (g : Y → Outline) (os : List X) (cs : List Y) (k : ℕ) (o : X) (c : Y) →
    k < length os → map f os ≡ map g cs → o ≡ get_or os k o → c ≡ get_or cs k c → f o ≡ g c
outlined_at f g [] cs k o c lt e h i = absurd (omega arith)
outlined_at f g (x ∷ os) [] k o c lt e h i = absurd cc
outlined_at f g (x ∷ os) (y ∷ cs) zero o c lt e h i = ap f h ∙ heads e ∙ ap g (sym i)
  where
    heads : {a b : Outline} {xs ys : List Outline} → a ∷ xs ≡ b ∷ ys → a ≡ b
    heads e = cc
outlined_at f g (x ∷ os) (y ∷ cs) (suc k) o c lt e h i = outlined_at f g os cs k o c (omega arith) (tails e) h i
  where
    tails : {a b : Outline} {xs ys : List Outline} → a ∷ xs ≡ b ∷ ys → xs ≡ ys
    tails e = cc

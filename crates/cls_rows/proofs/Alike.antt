-- What operands must be in kinds by numbers, and what the machine's table says that they must be.
use Rattle.std.proofs.Common.{◌≡◌, ℕ, zero, suc, ◌<◌, Bool, true, false, not, ◌&&◌, List, [], ◌∷◌, ◌++◌, length, refl, ap, ap₂, subst}
use Rattle.std.proofs.Common.{arith}
use Rattle.std.specs.Prelude.{nat_eq}
use Rattle.std.proofs.lemmas.Bool.Decides.{nat_tests}
use Rattle.mg_text.specs.Call.{Name}
use Rattle.vm_model.specs.Types.{FieldType}
use Rattle.vm_model.specs.Actions.{Number, Reference}
use Rattle.vm_model.specs.Tests.{Sorted, Typed, Returned, number, text}
use Rattle.vm_model.specs.Tests as tests
use Rattle.vm_actions.specs.declared.action.Sort.{Sort}
use Rattle.vm_actions.specs.declared.action.Sort.TheVariants as sorts
use Rattle.vm_actions.specs.Table.{sort_of}
use Rattle.cls_verify.specs.Kinds.{kind_of_type, HasSort, Fits, Passes, AllPass}
use Rattle.cls_verify.specs.Kinds as model
use Rattle.cls_verify.specs.Typing.{Kinds}
use Rattle.cls_kinds.specs.declared.kind.Kind.{Kind}
use Rattle.cls_kinds.specs.Numbers.{is_plain, fits_in}
use Rattle.cls_kinds.specs.Named.{AreNames, numbered, kind_of, kinds_of}
use Rattle.cls_kinds.proofs.Naming.{Says, fits_in_is}
use Rattle.cls_rows.specs.declared.want.Want.{Want}
use Rattle.cls_rows.specs.declared.want.Want.TheVariants as wants
use Rattle.cls_rows.specs.Wants.{sorted, passes_in, all_pass}

-- the kinds of these locals and operands
abbrev pub kinds_with : List model.Kind → List model.Kind → Kinds
kinds_with locals operands = record { locals = locals; operands = operands }

yes_it : {P : Type 0} (b : Bool) → b ≡ true → P → Says b P
yes_it b e p = (λ f. p, λ q. e)

no_it : {P : Type 0} (b : Bool) → b ≡ false → (P → ⊥) → Says b P
no_it b e n = (λ f. absurd (cc (e, f)), λ p. absurd (n p))

four_not : (i c : ℕ) → c < 4 → nat_eq (suc (suc (suc (suc i)))) c ≡ false
four_not i c h = grind (arith, nat_tests)

four_plain : (i : ℕ) → is_plain (suc (suc (suc (suc i)))) ≡ false
four_plain i = rw (four_not i 0 (omega arith), four_not i 3 (omega arith)) refl

pub both_say : {P Q : Type 0} (a b : Bool) → Says a P → Says b Q → Says (a && b) (P × Q)
both_say true b s t = (λ e. (s.0 refl, t.0 e), λ h. t.1 h.1)
both_say false b s t = (λ e. absurd (cc e), λ h. absurd (let f = s.1 h.0 in cc f))

module _ (names : List Name) where
  number_says : (k : ℕ) → Says (nat_eq k 0) (HasSort Number (numbered names k))
  number_says zero = yes_it (nat_eq 0 0) refl tt
  number_says (suc zero) = no_it (nat_eq 1 0) refl (λ f. f)
  number_says (suc (suc zero)) = no_it (nat_eq 2 0) refl (λ f. f)
  number_says (suc (suc (suc zero))) = no_it (nat_eq 3 0) refl (λ f. f)
  number_says (suc (suc (suc (suc i)))) = no_it (nat_eq (suc (suc (suc (suc i)))) 0) (four_not i 0 (omega arith)) (λ f. f)

  reference_says : (k : ℕ) → Says (not (is_plain k)) (HasSort Reference (numbered names k))
  reference_says zero = no_it (not (is_plain 0)) refl (λ f. f)
  reference_says (suc zero) = yes_it (not (is_plain 1)) refl tt
  reference_says (suc (suc zero)) = yes_it (not (is_plain 2)) refl tt
  reference_says (suc (suc (suc zero))) = no_it (not (is_plain 3)) refl (λ f. f)
  reference_says (suc (suc (suc (suc i)))) = yes_it (not (is_plain (suc (suc (suc (suc i)))))) (ap not (four_plain i)) tt

  pub sorted_says : (sort : Sort) (k : Kind) → Says (sorted sort k) (HasSort (sort_of sort) (kind_of names k))
  sorted_says sorts.Number k = number_says k.0
  sorted_says sorts.Reference k = reference_says k.0

  abbrev pub Alike : Want → tests.Want → Type 0
  Alike w v = (k : Kind) → Says (passes_in w k) (Passes v (kind_of names k))

  abbrev pub AllAlike : List Want → List tests.Want → Type 0
  AllAlike [] [] = Unit {0}
  AllAlike (w ∷ ws) (v ∷ vs) = Alike w v × AllAlike ws vs
  AllAlike _ _ = ⊥

  pub all_alike : (ws : List Want) (vs : List tests.Want) → AllAlike ws vs → (ks : List Kind) →
      Says (all_pass ws ks) (AllPass vs (kinds_of names ks))
  all_alike [] [] a [] = yes_it true refl tt
  all_alike [] [] a (k ∷ ks) = no_it false refl (λ f. f)
  all_alike [] (v ∷ vs) a ks = absurd a
  all_alike (w ∷ ws) [] a ks = absurd a
  all_alike (w ∷ ws) (v ∷ vs) a [] = no_it false refl (λ f. f)
  all_alike (w ∷ ws) (v ∷ vs) a (k ∷ ks) = both_say (passes_in w k) (all_pass ws ks) (a.0 k) (all_alike ws vs a.1 ks)

  pub any_alike : Alike wants.Any tests.Any
  any_alike k = yes_it true refl tt

  pub sort_alike : (sort : Sort) → Alike (wants.Sorted sort) (Sorted (sort_of sort))
  sort_alike sort k = sorted_says sort k

  pub kind_alike : AreNames names → (w : Kind) (type : FieldType) → kind_of names w ≡ kind_of_type type → Alike (wants.Of w) (Typed type)
  kind_alike n w type e k = subst (λ x. Says (fits_in k w) (Fits (kind_of names k) x)) e (fits_in_is names n k w)

-- lists of kinds by numbers fall apart as what they say does
pub split_kinds : (names : List Name) (ks : List Kind) (below taken : List model.Kind) → kinds_of names ks ≡ below ++ taken →
    (b : List Kind) × ((t : List Kind) × ((ks ≡ b ++ t) × ((kinds_of names b ≡ below) × (kinds_of names t ≡ taken))))
split_kinds names ks [] taken e = ([], (ks, (refl, (refl, e))))
split_kinds names [] (x ∷ below) taken e = absurd (let n = ap length e in omega (arith, n))
split_kinds names (k ∷ ks) (x ∷ below) taken e =
    let heads : kind_of names k ≡ x = cc e in
    let tails : kinds_of names ks ≡ below ++ taken = cc e in
    let (b, (t, (s, (f, g)))) = split_kinds names ks below taken tails in
    (k ∷ b, (t, (ap (λ l. k ∷ l) s, (ap₂ (λ y ys. y ∷ ys) heads f, g))))

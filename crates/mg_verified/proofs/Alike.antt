-- Two first refusals of class files that are verified are one.
use Rattle.std.proofs.Common.{◌≡◌, ◌⊎◌, ◌<◌, ℕ, zero, suc, List, Option, Some, refl, sym, ap, ap₂, ◌∙◌, subst, inl, inr, arith}
use Rattle.vm_model.specs.Program.{Program, MethodOf, class_name, method_at}
use Rattle.cls_search.specs.Verified.{IsBefore, FirstAt, FirstUntypable}
use Rattle.mg_refusal.specs.Refusals.{Refusal, AreAlike}
use Rattle.mg_sources.specs.Files.{Source}
use Rattle.mg_exec.proofs.Alike.{program_alike}
use Rattle.mg_verified.specs.Verified.{Member, unverified, LacksTyping, FirstRefusal}

order : (i j : ℕ) → (i < j) ⊎ ((i ≡ j) ⊎ (j < i))
order zero zero = inr (inl refl)
order zero (suc j) = inl (omega arith)
order (suc i) zero = inr (inr (omega arith))
order (suc i) (suc j) = elim (order i j) [
  | inl less ↦ inl (omega (arith, less))
  | inr (inl e) ↦ inr (inl (ap suc e))
  | inr (inr more) ↦ inr (inr (omega (arith, more)))
]

module _ (p : Program) where
  -- no method in front of the first one that has no typing lacks one
  none_before : (c m d n : ℕ) → FirstAt p c m → FirstAt p d n → IsBefore c m d n → ⊥
  none_before c m d n a b before = a.untypable (b.before c m a.found a.there before)

  -- the first method that has no typing is one
  first_untypable : (c m d n : ℕ) (a : FirstAt p c m) (b : FirstAt p d n) → (c ≡ d) × (m ≡ n)
  first_untypable c m d n a b = elim (order c d) [
    | inl less ↦ absurd (none_before c m d n a b (inl less))
    | inr (inl e) ↦ elim (order m n) [
      | inl less ↦ absurd (none_before c m d n a b (inr (e, less)))
      | inr (inl f) ↦ (e, f)
      | inr (inr more) ↦ absurd (none_before d n c m b a (inr (sym e, more)))
    ]
    | inr (inr more) ↦ absurd (none_before d n c m b a (inl more))
  ]

  same_found : (c m d n : ℕ) (a : FirstAt p c m) (b : FirstAt p d n) → a.found ≡ b.found
  same_found c m d n a b =
      let same = first_untypable c m d n a b in
      let there : ◌≡◌ {A = Option MethodOf} (Some a.found) (Some b.found) = sym a.there ∙ ap₂ (method_at p) same.0 same.1 ∙ b.there in cc

  one_member : (a b : Member) → FirstUntypable p a.class a.method → FirstUntypable p b.class b.method → a ≡ b
  one_member a b h k =
      let class : a.class ≡ b.class
      = h.class_named ∙ ap (class_name p) (first_untypable h.class h.method k.class k.method h.first k.first).0 ∙ sym k.class_named in
      let method : a.method ≡ b.method
      = h.method_named ∙ ap (λ (m : MethodOf). m.name) (same_found h.class h.method k.class k.method h.first k.first) ∙ sym k.method_named in
      λ i. record { class = class i; method = method i }

  lacks_alike : (r q : Refusal) → LacksTyping p r → LacksTyping p q → AreAlike r q
  lacks_alike r q h k = inl (h.said ∙ ap unverified (one_member h.member k.member h.first k.first) ∙ sym k.said)

pub same_refusal : (files : List Source) (r q : Refusal) → FirstRefusal files r → FirstRefusal files q → AreAlike r q
same_refusal = program_alike LacksTyping lacks_alike

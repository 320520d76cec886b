-- What is made larger, a step after another, is read exactly.
use Rattle.std.proofs.Common.{◌≡◌, ℕ, zero, suc, ◌<◌, List, [], ◌++◌, length, Bool, true, false, Option, Some, refl, sym, ap, ◌∙◌, subst}
use Rattle.std.proofs.Common.{append_assoc, append-nil, arith, inl, inr}
use Rattle.mg_read.specs.Reader.{Reader, ◌>>=◌}
use Rattle.mg_read.proofs.Steps.{bind_some, some_is, none_is_not, chosen, Takes}
use Rattle.jv_grammar.specs.Grow.{grow, grown}

module _ {T A : Type 0} (go : List T → Bool) (step : A → Reader T A) where
  -- What holds of the start and is kept by a step holds at the end.
  pub grow_sound : (P : A → List T → Type 0)
      → ((acc : A) (us ts : List T) (x : A × List T) → P acc us → step acc ts ≡ Some x → Takes (λ vs. P x.0 (us ++ vs)) ts x.1)
      → (n : ℕ) (acc : A) (us ts : List T) (x : A × List T) → P acc us → grow go step n acc ts ≡ Some x →
      Takes (λ vs. P x.0 (us ++ vs)) ts x.1
  unfolding grow
  grow_sound P kept zero acc us ts x p e = absurd (none_is_not x e)
  grow_sound P kept (suc n) acc us ts x p e =
      elim (chosen (go ts) (step acc ts >>= λ y. grow go step n y.0 y.1) (Some (acc, ts)) (Some x) e) [
        | inl t ↦
            let y = bind_some (step acc ts) (λ y. grow go step n y.0 y.1) x t.1 in
            let one = kept acc us ts y.0 p y.1 in
            let more = grow_sound P kept n y.0.0 (us ++ one.front) y.0.1 x one.holds y.2 in
            record {
              front = one.front ++ more.front;
              parts = one.parts ∙ ap (λ (r : List T). one.front ++ r) more.parts ∙ sym (append_assoc one.front more.front x.1);
              holds = subst (P x.0) (append_assoc us one.front more.front) more.holds;
            }
        | inr h ↦ subst (λ (z : A × List T). Takes (λ vs. P z.0 (us ++ vs)) ts z.1) (some_is (acc, ts) x h.1)
            (record { front = []; parts = refl; holds = subst (P acc) (sym (append-nil us)) p })
      ]

  -- from one point of reading, another one is reached
  pub record Reaches (acc : A) (ts : List T) (x : A) (us : List T) : Type 0 where
    pub reached : (n : ℕ) → length ts < n → (k : ℕ) × (length us < k) × (grow go step n acc ts ≡ grow go step k x us)

  pub Reaches-here : (acc : A) (ts : List T) → Reaches acc ts acc ts
  Reaches-here acc ts = record { reached = λ n h. (n, h, refl) }

  pub Reaches-step : (acc b x : A) (ts vs us : List T) → go vs ≡ true → step b vs ≡ Some (x, us) → length us < length vs →
      Reaches acc ts b vs → Reaches acc ts x us
  unfolding grow
  Reaches-step acc b x ts vs us goes h shorter r = record { reached = λ n enough. next (r.reached n enough) } where
    next : {g : Option (A × List T)} → (k : ℕ) × (length vs < k) × (g ≡ grow go step k b vs) → (k : ℕ) × (length us < k)
        × (g ≡ grow go step k x us)
    next (zero, less, e) = absurd (omega arith)
    next (suc k, less, e) = let one : grow go step (suc k) b vs ≡ grow go step k x us = rw (goes, h) refl in (k, omega arith, e ∙ one)

  pub Reaches-end : (acc x : A) (ts us : List T) → go us ≡ false → Reaches acc ts x us → grown go step acc ts ≡ Some (x, us)
  unfolding grow grown
  Reaches-end acc x ts us stops r = last (r.reached (suc (length ts)) (omega arith)) where
    last : {g : Option (A × List T)} → (k : ℕ) × (length us < k) × (g ≡ grow go step k x us) → g ≡ Some (x, us)
    last (zero, less, e) = absurd (omega arith)
    last (suc k, less, e) = let one : grow go step (suc k) x us ≡ Some (x, us) = rw stops refl in e ∙ one

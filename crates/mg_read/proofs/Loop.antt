-- A turn of a loop that reads a list.
use Rattle.std.proofs.Common.{◌≡◌, ℕ, zero, suc, ◌<◌, List, [], ◌∷◌, ◌++◌, length, Bool, true, false, Option, Some, None, refl, sym, ap}
use Rattle.std.proofs.Common.{◌∙◌, append_assoc, append-nil, arith}
use Rattle.mg_read.specs.declared.ReadError.{ReadError}
use Rattle.mg_read.specs.declared.ReadError.TheVariants as errors
use Rattle.mg_read.specs.Reader.{Reader, ◌>>=◌, Fails, many, all_of}

abbrev pub with_front : {T A : Type 0} → List A → Option (List A × List T) → Option (List A × List T)
with_front front read = read >>= λ x. Some (front ++ x.0, x.1)

-- what is left to read makes up the whole
pub record Left {T A : Type 0} (go : List T → Bool) (f : Reader T A) (front : List A) (rest : List T)
    (total : Option (List A × List T)) : Type 0 where
  pub fuel : ℕ
  pub enough : length rest < fuel
  pub whole : with_front front (many go f fuel rest) ≡ total

module _ {T A : Type 0} (go : List T → Bool) (f : Reader T A) where
  pub Left-start : (front : List A) (ts : List T) (total : Option (List A × List T)) → with_front front (all_of go f ts) ≡ total →
      Left go f front ts total
  unfolding all_of
  Left-start front ts total whole = record { fuel = suc (length ts); enough = omega arith; whole = whole }

  pub Left-init : (ts : List T) → Left go f [] ts (all_of go f ts)
  Left-init ts = Left-start [] ts (all_of go f ts) (same (all_of go f ts)) where
    same : (r : Option (List A × List T)) → with_front [] r ≡ r
    same None = refl
    same (Some x) = refl

  step : (front : List A) (n : ℕ) (ts : List T) (x : A) (us : List T) → go ts ≡ true → f ts ≡ Some (x, us)
      → with_front (front ++ x ∷ []) (many go f n us) ≡ with_front front (many go f (suc n) ts)
  unfolding many
  step front n ts x us goes h = rw (goes, h) (grow (many go f n us)) where
    grow : (r : Option (List A × List T)) → with_front (front ++ x ∷ []) r ≡ with_front front (r >>= λ xs. Some (x ∷ xs.0, xs.1))
    grow None = refl
    grow (Some y) = ap (λ (zs : List A). Some (zs, y.1)) (append_assoc front (x ∷ []) y.0)

  pub Left-more : (front : List A) (ts : List T) (x : A) (us : List T) (total : Option (List A × List T)) → go ts ≡ true →
      f ts ≡ Some (x, us) → length us < length ts
      → Left go f front ts total → Left go f (front ++ x ∷ []) us total
  Left-more front ts x us total goes h shorter l = by_fuel l.fuel l.enough l.whole where
    by_fuel : (n : ℕ) → length ts < n → with_front front (many go f n ts) ≡ total → Left go f (front ++ x ∷ []) us total
    by_fuel zero enough whole = absurd (omega arith)
    by_fuel (suc n) enough whole = record { fuel = n; enough = omega arith; whole = step front n ts x us goes h ∙ whole }

  pub Left-none : (front : List A) (ts : List T) (total : Option (List A × List T)) → go ts ≡ true → f ts ≡ None → Left go f front ts total
      → total ≡ None
  unfolding many
  Left-none front ts total goes h l = by_fuel l.fuel l.enough l.whole where
    by_fuel : (n : ℕ) → length ts < n → with_front front (many go f n ts) ≡ total → total ≡ None
    by_fuel zero enough whole = absurd (omega arith)
    by_fuel (suc n) enough whole = let e : with_front front (many go f (suc n) ts) ≡ None = rw (goes, h) refl in sym whole ∙ e

  pub Left-done : (front : List A) (ts : List T) (total : Option (List A × List T)) → go ts ≡ false → Left go f front ts total →
      total ≡ Some (front, ts)
  unfolding many
  Left-done front ts total stops l = by_fuel l.fuel l.enough l.whole where
    by_fuel : (n : ℕ) → length ts < n → with_front front (many go f n ts) ≡ total → total ≡ Some (front, ts)
    by_fuel zero enough whole = absurd (omega arith)
    by_fuel (suc n) enough whole = let e : with_front front (many go f (suc n) ts) ≡ Some (front, ts) =
        rw stops (ap (λ (zs : List A). Some (zs, ts)) (append-nil front)) in sym whole ∙ e

  pub Left-fails : (err : ReadError) (front : List A) (ts : List T) (total : Option (List A × List T)) → go ts ≡ true → Fails err (f ts) →
      Left go f front ts total → Fails err total
  Left-fails errors.Memory front ts total goes h l = tt
  Left-fails errors.Syntax front ts total goes h l = Left-none front ts total goes h l

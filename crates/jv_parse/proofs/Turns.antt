-- A turn of a loop that makes one thing larger.
use Rattle.std.proofs.Common.{◌≡◌, ℕ, zero, suc, ◌<◌, List, length, Bool, true, false, Option, Some, None, refl, sym, ◌∙◌, arith}
use Rattle.mg_read.specs.Reader.{Reader}
use Rattle.jv_parse.specs.declared.halt.Halt.{Halt}
use Rattle.jv_parse.specs.declared.halt.Halt.TheVariants as halts
use Rattle.jv_parse.specs.inner.Gives.{Fails}
use Rattle.jv_grammar.specs.Grow.{grow, grown}

-- what is left to read makes up the whole
pub record Growing {T A : Type 0} (go : List T → Bool) (step : A → Reader T A) (acc : A) (rest : List T)
    (total : Option (A × List T)) : Type 0 where
  pub fuel : ℕ
  pub enough : length rest < fuel
  pub whole : grow go step fuel acc rest ≡ total

module _ {T A : Type 0} (go : List T → Bool) (step : A → Reader T A) where
  pub Growing-start : (acc : A) (ts : List T) → Growing go step acc ts (grown go step acc ts)
  unfolding grown
  Growing-start acc ts = record { fuel = suc (length ts); enough = omega arith; whole = refl }

  pub Growing-more : (acc : A) (ts : List T) (x : A) (us : List T) (total : Option (A × List T)) → go ts ≡ true → step acc ts ≡ Some (x, us)
      → length us < length ts
      → Growing go step acc ts total → Growing go step x us total
  unfolding grow
  Growing-more acc ts x us total goes h shorter l = by_fuel l.fuel l.enough l.whole where
    by_fuel : (n : ℕ) → length ts < n → grow go step n acc ts ≡ total → Growing go step x us total
    by_fuel zero enough whole = absurd (omega arith)
    by_fuel (suc n) enough whole = record { fuel = n; enough = omega arith; whole = sym one ∙ whole } where
      one : grow go step (suc n) acc ts ≡ grow go step n x us
      one = rw (goes, h) refl

  pub Growing-none : (acc : A) (ts : List T) (total : Option (A × List T)) → go ts ≡ true → step acc ts ≡ None →
      Growing go step acc ts total → total ≡ None
  unfolding grow
  Growing-none acc ts total goes h l = by_fuel l.fuel l.enough l.whole where
    by_fuel : (n : ℕ) → length ts < n → grow go step n acc ts ≡ total → total ≡ None
    by_fuel zero enough whole = absurd (omega arith)
    by_fuel (suc n) enough whole = let e : grow go step (suc n) acc ts ≡ None = rw (goes, h) refl in sym whole ∙ e

  pub Growing-done : (acc : A) (ts : List T) (total : Option (A × List T)) → go ts ≡ false → Growing go step acc ts total →
      total ≡ Some (acc, ts)
  unfolding grow
  Growing-done acc ts total stops l = by_fuel l.fuel l.enough l.whole where
    by_fuel : (n : ℕ) → length ts < n → grow go step n acc ts ≡ total → total ≡ Some (acc, ts)
    by_fuel zero enough whole = absurd (omega arith)
    by_fuel (suc n) enough whole = let e : grow go step (suc n) acc ts ≡ Some (acc, ts) = rw stops refl in sym whole ∙ e

  pub Growing-fails : (err : Halt) (acc : A) (ts : List T) (total : Option (A × List T)) → go ts ≡ true → Fails err (step acc ts) →
      Growing go step acc ts total → Fails err total
  Growing-fails halts.Memory acc ts total goes h l = tt
  Growing-fails (halts.Syntax left) acc ts total goes h l = Growing-none acc ts total goes h l

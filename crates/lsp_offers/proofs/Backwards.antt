-- The run that ends at an offset, one byte further back.
use Rattle.std.proofs.Common.{◌≡◌, ℕ, zero, suc, ◌-◌, List, Bool, true, false, cond, Option, Some, None, refl, ap, ◌∙◌, arith}
use Rattle.lsp_offers.specs.declared.spots.Spot.{Spot}
use Rattle.lsp_offers.specs.Spots.{begin_of, is_spot, spot_before, spot_behind}

module _ (text : List ℕ) (d : ℕ) where
  abbrev pub spot_from : ℕ → Option Spot
  spot_from s = Some (record { start = s; dot = d })

  pub spot_there : (s : ℕ) → s ≡ begin_of true text d → true ≡ is_spot text d s → spot_from s ≡ spot_before text d
  spot_there s is there =
      ap spot_from is
      ∙ ap (λ (b : Bool). cond b (spot_from (begin_of true text d)) None) (there ∙ ap (is_spot text d) is)

  pub spot_nowhere : (s : ℕ) → s ≡ begin_of true text d → false ≡ is_spot text d s → None ≡ spot_before text d
  spot_nowhere s is there = ap (λ (b : Bool). cond b (spot_from (begin_of true text d)) None) (there ∙ ap (is_spot text d) is)

pub behind_some : (text : List ℕ) (b : ℕ) → (b ≡ 0 → ⊥) → spot_before text (b - 1) ≡ spot_behind text b
behind_some text zero some = absurd (some refl)
behind_some text (suc d) some = let less : suc d - 1 ≡ d = omega arith in ap (spot_before text) less

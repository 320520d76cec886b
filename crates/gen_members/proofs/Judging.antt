-- The limits, one after another.
use Rattle.std.proofs.Common.{◌≡◌, ℕ, ◌≤◌, ◌-◌, List, length, map, drop, take, nat_lt, Bool, true, false, Some, None, refl, sym, ap, ◌∙◌}
use Rattle.std.proofs.Common.{arith}
use Rattle.std.specs.List.{list_any}
use Rattle.std.proofs.lemmas.List.{drop-map, drop_all, length-drop, take_all}
use Rattle.std.proofs.lemmas.Bool.Decides.{nat_tests}
use Rattle.cls_tree.specs.declared.class.Const.{Const}
use Rattle.gen_rules.specs.Limits.{TextTooLong, is_long, exceeded}
use Rattle.gen_pool.specs.declared.key.Key.{Key}
use Rattle.gen_pool.specs.Keys.{const_of}

module _ (keys : List Key) (pool : List Const) (old : ℕ) (seen : map const_of keys ≡ pool) where
  pub nothing_behind : length keys ≤ old → false ≡ list_any is_long (drop old pool)
  nothing_behind past = sym (ap (list_any is_long) (ap (drop old) (sym seen) ∙ drop-map const_of old keys ∙ ap (map const_of)
      (drop_all old keys past)))

  -- all that stands behind them
  rest : take (length keys - old) (drop old keys) ≡ drop old keys
  rest = take_all (length keys - old) (drop old keys) (let e = length-drop old keys in omega (arith, e))

  pub some_behind : (r : Bool) → r ≡ list_any is_long (map const_of (take (length keys - old) (drop old keys))) →
      r ≡ list_any is_long (drop old pool)
  some_behind r e =
      e ∙ ap (λ ks. list_any is_long (map const_of ks)) rest
      ∙ ap (list_any is_long) (sym (drop-map const_of old keys) ∙ ap (drop old) seen)

-- where no size is too large before the texts
module _ (size locals : ℕ) (pool more : List Const) (short : size ≤ 32767) (few : locals ≤ 255) (fits : length pool ≤ 65534) where
  size_fits : nat_lt 32767 size ≡ false
  size_fits = grind (arith, nat_tests, short)

  locals_fit : nat_lt 255 locals ≡ false
  locals_fit = grind (arith, nat_tests, few)

  pool_fits : nat_lt 65534 (length pool) ≡ false
  pool_fits = grind (arith, nat_tests, fits)

  pub text_told : list_any is_long more ≡ true → Some TextTooLong ≡ exceeded size locals pool more
  text_told long = rw (size_fits, locals_fit, pool_fits, long) refl

  pub nothing_told : list_any is_long more ≡ false → None ≡ exceeded size locals pool more
  nothing_told none = rw (size_fits, locals_fit, pool_fits, none) refl

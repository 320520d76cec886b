-- The step of a loop that looks for an element whose key an earlier one has that does otherwise.
use Rattle.std.proofs.Common.{◌≡◌, ◌≢◌, ◌<◌, ◌+◌, ℕ, cond, List, [], ◌∷◌, ◌++◌, length, get_or, take, String, string_bytes, None, Some, sym}
use Rattle.std.proofs.Common.{ap, subst, ◌∙◌, arith}
use Rattle.std.proofs.lemmas.List.{take_more, length-take-le, get_or-take}
use Rattle.std.proofs.lemmas.Map.Text.{hash_map_updates_text}
use Rattle.std.specs.HashMap.{HashMap, get_by_text, UpdatesBy}
use Rattle.std.specs.Str.{bytes_eq}
use Rattle.std.specs.String.{string_eq}
use Rattle.mg_text.specs.Call.{Name}
use Rattle.scr_judge.specs.inner.Listed.{Differs}
use Rattle.scr_judge.proofs.KeyTable.{Indexes, new_fine, new_indexes, seen_before, seen_clash, seen_fine, seen_indexes}

module _ {X D : Type 0} (key : X → Name) (deed : X → D) {A S : Type 0} (firsts : HashMap (String A) ℕ S) (xs : List X) (i : ℕ) (x : X)
    (within : i < length xs) (is : x ≡ get_or xs i x)
    (h : Indexes key deed firsts (take i xs)) where
  pushed : take i xs ++ x ∷ [] ≡ take (i + 1) xs
  pushed = ap (λ y. take i xs ++ y ∷ []) is ∙ sym (take_more xs i x within)

  taken : length (take i xs) ≡ i
  taken = length-take-le i xs (omega (arith, within))

  -- an element at an index has the key
  module _ (k : ℕ) (seen : get_by_text firsts (key x) ≡ Some k) where
    earlier : k < i
    earlier = omega (arith, seen_before key deed firsts (take i xs) x h k seen, taken)

    pub below : k < length xs
    below = omega (arith, earlier, within)

    module _ (y : X) (at : y ≡ get_or xs k y) where
      at_taken : y ≡ get_or (take i xs) k y
      at_taken = at ∙ sym (get_or-take i xs k y earlier)

      pub differs : (deed y ≢ deed x) → Differs key deed (take i xs) x
      differs d = seen_clash key deed firsts (take i xs) x h k seen y at_taken d

      pub same_fine : deed y ≡ deed x → Differs key deed (take i xs) x → ⊥
      same_fine e = seen_fine key deed firsts (take i xs) x h k seen y at_taken e

      pub same_indexes : deed y ≡ deed x → Indexes key deed firsts (take (i + 1) xs)
      same_indexes e = subst (Indexes key deed firsts) pushed (seen_indexes key deed firsts (take i xs) x h k seen y at_taken e)

  -- the key is new
  module _ (none : get_by_text firsts (key x) ≡ None) where
    pub none_fine : Differs key deed (take i xs) x → ⊥
    none_fine = new_fine key deed firsts (take i xs) x h none

    pub new_indexed : (after : HashMap (String A) ℕ S) (text : String A) → string_bytes text ≡ key x →
        UpdatesBy string_eq (λ k. bytes_eq (string_bytes text) (string_bytes k)) firsts after (Some i) →
        Indexes key deed after (take (i + 1) xs)
    new_indexed after text name u = subst (Indexes key deed after) pushed (new_indexes key deed firsts (take i xs) x h none after
        (λ q. hash_map_updates_text (string_bytes text) firsts after (Some i) u q
        ∙ ap (λ n. cond (bytes_eq n q) (Some i) (get_by_text firsts q)) name
        ∙ ap (λ n. cond (bytes_eq (key x) q) (Some n) (get_by_text firsts q)) (sym taken)))

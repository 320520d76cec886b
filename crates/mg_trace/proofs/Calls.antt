-- The calls of an object that weren't left, in a row whose last was entered last.
use Rattle.std.proofs.Common.{◌≡◌, ◌-◌, ◌+◌, take, ℕ, suc, List, [], ◌∷◌, ◌++◌, map, length, Option, None, Some, refl, sym, ap, ◌∙◌, arith}
use Rattle.std.specs.Prelude.{MatchOption, reverse, slice_get}
use Rattle.std.specs.Option.{option_to_list}
use Rattle.std.proofs.lemmas.List.{map-append, reverse-append}
use Rattle.mg_text.specs.Call.{Name}
use Rattle.mg_trace.specs.Trace.{last_call, other_calls}

module _ {A : Type 0} (f : A → Name) where
  abbrev pub calls_of : List A → List Name
  calls_of xs = reverse (map f xs)

  pub call_more : (xs : List A) (x : A) → calls_of (xs ++ x ∷ []) ≡ f x ∷ calls_of xs
  call_more xs x = ap reverse (map-append f xs (x ∷ [])) ∙ reverse-append (map f xs) (f x ∷ [])

  record IsLast (xs : List A) (place : ℕ) : Type 0 where
    front : List A
    last : A
    is : xs ≡ front ++ last ∷ []
    at : slice_get xs place ≡ Some last

  a_last : (x : A) (xs : List A) → IsLast (x ∷ xs) (length xs)
  a_last x [] = record { front = []; last = x; is = refl; at = refl }
  a_last x (y ∷ xs) = let h = a_last y xs in record { front = x ∷ h.front; last = h.last; is = ap (λ l. x ∷ l) h.is; at = h.at }

  abbrev pub name_in : Option A → Name
  name_in None = []
  name_in (Some x) = f x

  -- the last of the row
  pub last_is : (xs : List A) (o : Option A) → o ≡ slice_get xs (length xs - 1) → name_in o ≡ last_call (calls_of xs)
  last_is [] o is = ap name_in is
  last_is (x ∷ xs) o is =
      let before : suc (length xs) - 1 ≡ length xs = omega arith in
      let h = a_last x xs in
      ap name_in (is ∙ ap (slice_get (x ∷ xs)) before ∙ h.at)
      ∙ sym (ap (λ l. last_call (calls_of l)) h.is ∙ ap last_call (call_more h.front h.last))

  -- the row without it
  pub popped : (xs ys : List A) (o : Option A) (n m : ℕ) → xs ≡ ys ++ option_to_list o →
      MatchOption o ((n ≡ 0) × (m ≡ 0)) (λ x. m + 1 ≡ n) → ys ≡ take (n - 1) xs → calls_of ys ≡ other_calls (calls_of xs)
  popped xs ys (Some x) n m is h rest = sym (ap (λ l. other_calls (calls_of l)) is ∙ ap other_calls (call_more ys x))
  popped xs ys None n m is h rest =
      let less : n - 1 ≡ 0 = omega (arith, h.0) in
      let none : ys ≡ [] = rest ∙ ap (λ k. take k xs) less in
      ap calls_of none ∙ sym (ap (λ l. other_calls (calls_of l)) (is ∙ ap (λ l. l ++ []) none))

-- Runs of bytes at the front, and the end of a comment.
use Rattle.std.proofs.Common.{◌≡◌, ℕ, suc, ◌+◌, List, [], ◌∷◌, ◌++◌, length, take, drop, Bool, true, false, eqb, Option, Some, None, refl}
use Rattle.std.proofs.Common.{sym, ap, ◌∙◌, subst, inl, inr, ◌⊎◌, add-one}
use Rattle.std.specs.Prelude.{option_map, ◌&&◌}
use Rattle.std.proofs.lemmas.Bool.{eqb-true}
use Rattle.std.proofs.lemmas.List.Sums.{take_while-cons}
use Rattle.mg_read.specs.Passes.{StopsAt, AllPasses, span}
use Rattle.mg_read.specs.Pieces.{HasNoClose}
use Rattle.mg_read.specs.inner.Fronts.{is_close, close_at}
use Rattle.mg_read.proofs.Steps.{some_is, chosen}

-- the mapped answer was one
pub map_some : {A B : Type 0} (o : Option A) (f : A → B) (y : B) → option_map f o ≡ Some y → (x : A) × (o ≡ Some x) × (f x ≡ y)
map_some None f y e = absurd cc
map_some (Some x) f y e = (x, refl, let h : ◌≡◌ {A = Option _} (Some (f x)) (Some y) = e in cc)

-- a test passes or fails
pub either : (b : Bool) → (b ≡ true) ⊎ (b ≡ false)
either true = inl refl
either false = inr refl

-- ---- runs

-- n is the length of the longest run at the front that passes p
pub record IsSpan (p : ℕ → Bool) (bytes : List ℕ) (n : ℕ) : Type 0 where
  pub passes : AllPasses p (take n bytes)
  pub stops : StopsAt p (drop n bytes)
  pub parts : bytes ≡ take n bytes ++ drop n bytes

-- a byte that passes makes the run longer
span-true : (p : ℕ → Bool) (c : ℕ) (cs : List ℕ) → p c ≡ true → span p (c ∷ cs) ≡ suc (span p cs)
span-true p c cs h = ap length (take_while-cons p c cs) ∙ rw h refl

-- a byte that fails ends the run
span-false : (p : ℕ → Bool) (c : ℕ) (cs : List ℕ) → p c ≡ false → span p (c ∷ cs) ≡ 0
span-false p c cs h = ap length (take_while-cons p c cs) ∙ rw h refl

-- what is measured is such a run
pub span_is : (p : ℕ → Bool) (bytes : List ℕ) → IsSpan p bytes (span p bytes)
span_is p [] = record { passes = tt; stops = tt; parts = refl }
span_is p (c ∷ cs) =
    elim (either (p c)) [
      | inl t ↦ let r = span_is p cs in subst (IsSpan p (c ∷ cs)) (sym (span-true p c cs t))
          (record { passes = (t, r.passes); stops = r.stops; parts = ap (λ (z : List ℕ). c ∷ z) r.parts })
      | inr f ↦ subst (IsSpan p (c ∷ cs)) (sym (span-false p c cs f)) (record { passes = tt; stops = f; parts = refl })
    ]

-- such a run is what is measured
pub span_again : (p : ℕ → Bool) (xs ys : List ℕ) → AllPasses p xs → StopsAt p ys → span p (xs ++ ys) ≡ length xs
span_again p [] [] h s = refl
span_again p [] (y ∷ ys) h s = span-false p y ys s
span_again p (x ∷ xs) ys h s = span-true p x (xs ++ ys) h.0 ∙ ap suc (span_again p xs ys h.1 s)

-- ---- the end of a comment

-- the first "*/" begins at n
pub record IsClose (bytes : List ℕ) (n : ℕ) : Type 0 where
  pub parts : bytes ≡ take n bytes ++ 42 ∷ 47 ∷ drop (suc (suc n)) bytes
  pub first : HasNoClose (take n bytes)

-- what the test of a "*/" says
is_close-true : (bytes : List ℕ) → is_close bytes ≡ true → (r : List ℕ) × (bytes ≡ 42 ∷ 47 ∷ r)
is_close-true [] e = absurd cc
is_close-true (c ∷ []) e = absurd cc
is_close-true (c ∷ d ∷ cs) e =
    let a : eqb c 42 ≡ true = both (eqb c 42) (eqb d 47) e in
    let b : eqb d 47 ≡ true = other (eqb c 42) (eqb d 47) e in
    (cs, rw (eqb-true c 42 a, eqb-true d 47 b) refl) where
      both : (x y : Bool) → (x && y) ≡ true → x ≡ true
      both true y h = refl
      both false y h = h

      other : (x y : Bool) → (x && y) ≡ true → y ≡ true
      other true y h = h
      other false true h = refl
      other false false h = h

-- an empty body has no "*/"
nothing_closes : HasNoClose []
nothing_closes [] v e = absurd cc
nothing_closes (u ∷ []) v e = absurd cc
nothing_closes (u ∷ w ∷ us) v e = absurd cc

-- one more byte in front makes no "*/"
more_no_close : (c : ℕ) (body : List ℕ) → is_close (c ∷ (body ++ 42 ∷ [])) ≡ false → HasNoClose body → HasNoClose (c ∷ body)
more_no_close c body quiet h [] v e = let f : is_close (42 ∷ 47 ∷ v) ≡ false = sym (ap is_close e) ∙ quiet in absurd cc
more_no_close c body quiet h (u ∷ us) v e = h us v cc

-- whether a close begins here depends on two bytes
close_front : (c : ℕ) (body rest : List ℕ) → is_close (c ∷ (body ++ 42 ∷ rest)) ≡ is_close (c ∷ (body ++ 42 ∷ []))
close_front c [] rest = refl
close_front c (b ∷ body) rest = refl

-- what is found is the first "*/"
pub close_is : (bytes : List ℕ) (n : ℕ) → close_at bytes ≡ Some n → IsClose bytes n
close_is [] n e = absurd cc
close_is (c ∷ cs) n e =
    elim (chosen (is_close (c ∷ cs)) (Some 0) (option_map (λ k. k + 1) (close_at cs)) (Some n) e) [
      | inl t ↦
          let r = is_close-true (c ∷ cs) t.0 in
          subst (IsClose (c ∷ cs)) (some_is 0 n t.1) (at_front (c ∷ cs) r.0 r.1)
      | inr f ↦
          let k = map_some (close_at cs) (λ k. k + 1) n f.1 in
          let r = close_is cs k.0 k.1 in
          let e : suc k.0 ≡ n = sym (add-one k.0) ∙ k.2 in
          subst (IsClose (c ∷ cs)) e (record {
            parts = ap (λ (z : List ℕ). c ∷ z) r.parts;
            first = more_no_close c (take k.0 cs) (sym (close_front c (take k.0 cs) (47 ∷ drop (suc (suc k.0)) cs)) ∙
                ap (λ (z : List ℕ). is_close (c ∷ z)) (sym r.parts) ∙ f.0) r.first;
          })
    ] where
      at_front : (bytes r : List ℕ) → bytes ≡ 42 ∷ 47 ∷ r → IsClose bytes 0
      at_front bytes r e = subst (λ (z : List ℕ). IsClose z 0) (sym e) (record { parts = refl; first = nothing_closes })

-- the rest of a body has no "*/" either
tail_no_close : (c : ℕ) (body : List ℕ) → HasNoClose (c ∷ body) → HasNoClose body
tail_no_close c body h u v e = h (c ∷ u) v (ap (λ (z : List ℕ). c ∷ z) e)

-- no "*/" begins at the front of a body
no_close_here : (c : ℕ) (body : List ℕ) → HasNoClose (c ∷ body) → is_close (c ∷ (body ++ 42 ∷ [])) ≡ false
no_close_here c body h = elim (either (is_close (c ∷ (body ++ 42 ∷ [])))) [
  | inl t ↦ let r = is_close-true (c ∷ (body ++ 42 ∷ [])) t in absurd (h [] r.0 r.1)
  | inr f ↦ f
]

-- the first "*/" is what is found
pub close_again : (body rest : List ℕ) → HasNoClose body → close_at (body ++ 42 ∷ 47 ∷ rest) ≡ Some (length body)
close_again [] rest h = refl
close_again (c ∷ body) rest h =
    let quiet : is_close (c ∷ (body ++ 42 ∷ 47 ∷ rest)) ≡ false = close_front c body (47 ∷ rest) ∙ no_close_here c body h in
    let inner = close_again body rest (tail_no_close c body h) in
    rw (quiet, inner) (ap (λ (z : ℕ). Some z) (add-one (length body)))

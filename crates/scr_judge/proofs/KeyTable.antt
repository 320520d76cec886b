-- Which element of a list has a key first.
use Rattle.std.proofs.Common.{◌≡◌, ◌≢◌, ◌<◌, ℕ, Bool, true, false, cond, List, [], ◌∷◌, ◌++◌, length, get_or, Contains, String, Option}
use Rattle.std.proofs.Common.{None, Some, MatchOption, Decides, refl, sym, ap, subst, ◌∙◌, ⊎_elim, true≢false, arith, length-append}
use Rattle.std.proofs.lemmas.List.{get_or_append_left}
use Rattle.std.proofs.Math.Seq.{get_or-append_seam}
use Rattle.std.proofs.lemmas.List.Elements.{Contains-push_cases, Contains-get_or}
use Rattle.std.proofs.lemmas.Slice.Eq.{bytes_eq-Decides}
use Rattle.std.specs.HashMap.{HashMap, get_by_text}
use Rattle.std.specs.Str.{bytes_eq}
use Rattle.mg_text.specs.Call.{Name}
use Rattle.scr_judge.specs.inner.Listed.{Differs}

module _ {X D : Type 0} (key : X → Name) (deed : X → D) where
  -- no element has this key
  abbrev pub NoKey : List X → Name → Type 0
  NoKey xs name = (a : X) → Contains xs a → key a ≡ name → ⊥

  -- the element at an index has this key, and each with the key does the same
  abbrev pub IsKeyAt : List X → Name → ℕ → Type 0
  IsKeyAt xs name k = (k < length xs) × ((d : X) → key (get_or xs k d) ≡ name) × ((a d : X) → Contains xs a → key a ≡ name →
      deed a ≡ deed (get_or xs k d))

  -- a map has the keys of elements, each with the index of an element that has it
  pub record Indexes {A S : Type 0} (firsts : HashMap (String A) ℕ S) (xs : List X) : Type 0 where
    pub each : (name : Name) → MatchOption (get_by_text firsts name) (NoKey xs name) (IsKeyAt xs name)

  pub no_keys : {A S : Type 0} (firsts : HashMap (String A) ℕ S) → ((name : Name) → get_by_text firsts name ≡ None) → Indexes firsts []
  no_keys firsts e = record {
    each = λ name. subst (λ o. MatchOption o (NoKey [] name) (IsKeyAt [] name)) (sym (e name))
        (λ a has same. omega (arith, has.1));
  }

  -- what is known of a key, after an element that has another one
  other_pushed : (o : Option ℕ) (xs : List X) (m : X) (name : Name) → MatchOption o (NoKey xs name) (IsKeyAt xs name) →
      (key m ≡ name → ⊥) → MatchOption o (NoKey (xs ++ m ∷ []) name) (IsKeyAt (xs ++ m ∷ []) name)
  other_pushed None xs m name h other = λ x has same. ⊎_elim (λ old. h x old same) (λ is. other (ap key is ∙ same))
      (Contains-push_cases xs m x has)
  other_pushed (Some k) xs m name h other = (
    omega (arith, h.0, length-append xs (m ∷ [])),
    λ d. ap key (get_or_append_left xs (m ∷ []) d k h.0) ∙ h.1 d,
    λ a d has same. ⊎_elim (λ old. h.2 a d old same ∙ sym (ap deed (get_or_append_left xs (m ∷ []) d k h.0)))
        (λ is. absurd (other (ap key is ∙ same))) (Contains-push_cases xs m a has),
  )

  module _ {A S : Type 0} (firsts : HashMap (String A) ℕ S) (xs : List X) (x : X) (h : Indexes firsts xs) where
    known : (o : Option ℕ) → get_by_text firsts (key x) ≡ o → MatchOption o (NoKey xs (key x)) (IsKeyAt xs (key x))
    known o e = subst (λ p. MatchOption p (NoKey xs (key x)) (IsKeyAt xs (key x))) e (h.each (key x))

    -- the key is new
    module _ (none : get_by_text firsts (key x) ≡ None) where
      pub new_fine : Differs key deed xs x → ⊥
      new_fine a = known None none a.0 a.1 a.2

      new_at : (t : Bool) (o : Option ℕ) (q : Name) → Decides t (key x ≡ q) → o ≡ cond t (Some (length xs)) (get_by_text firsts q) →
          MatchOption o (NoKey (xs ++ x ∷ []) q) (IsKeyAt (xs ++ x ∷ []) q)
      new_at true o q d e = subst (λ p. MatchOption p (NoKey (xs ++ x ∷ []) q) (IsKeyAt (xs ++ x ∷ []) q)) (sym e) (
        omega (arith, length-append xs (x ∷ [])),
        λ z. ap key (get_or-append_seam xs x [] z) ∙ d.0 refl,
        λ a z has same. ⊎_elim (λ old. absurd (known None none a old (same ∙ sym (d.0 refl))))
            (λ is. ap deed (sym is) ∙ sym (ap deed (get_or-append_seam xs x [] z))) (Contains-push_cases xs x a has),
      )
      new_at false o q d e = subst (λ p. MatchOption p (NoKey (xs ++ x ∷ []) q) (IsKeyAt (xs ++ x ∷ []) q)) (sym e)
          (other_pushed (get_by_text firsts q) xs x q (h.each q) (λ same. true≢false (sym (d.1 same))))

      pub new_indexes : (after : HashMap (String A) ℕ S) →
          ((q : Name) → get_by_text after q ≡ cond (bytes_eq (key x) q) (Some (length xs)) (get_by_text firsts q)) →
          Indexes after (xs ++ x ∷ [])
      new_indexes after e = record { each = λ q. new_at (bytes_eq (key x) q) (get_by_text after q) q (bytes_eq-Decides (key x) q) (e q) }

    -- an element at an index has the key
    module _ (k : ℕ) (seen : get_by_text firsts (key x) ≡ Some k) where
      pub seen_before : k < length xs
      seen_before = (known (Some k) seen).0

      module _ (y : X) (at : y ≡ get_or xs k y) where
        pub seen_clash : (deed y ≢ deed x) → Differs key deed xs x
        seen_clash differ = (
          y,
          subst (Contains xs) (sym at) (Contains-get_or xs k y seen_before),
          ap key at ∙ (known (Some k) seen).1 y,
          differ,
        )

        module _ (same : deed y ≡ deed x) where
          pub seen_fine : Differs key deed xs x → ⊥
          seen_fine a = a.3 ((known (Some k) seen).2 a.0 y a.1 a.2 ∙ ap deed (sym at) ∙ same)

          kept_at : (t : Bool) (q : Name) → Decides t (key x ≡ q) → MatchOption (get_by_text firsts q) (NoKey (xs ++ x ∷ []) q)
              (IsKeyAt (xs ++ x ∷ []) q)
          kept_at true q d =
              let is = known (Some k) seen in
              subst (λ p. MatchOption (get_by_text firsts p) (NoKey (xs ++ x ∷ []) p) (IsKeyAt (xs ++ x ∷ []) p)) (d.0 refl)
              (subst (λ o. MatchOption o (NoKey (xs ++ x ∷ []) (key x)) (IsKeyAt (xs ++ x ∷ []) (key x))) (sym seen) (
                omega (arith, is.0, length-append xs (x ∷ [])),
                λ z. ap key (get_or_append_left xs (x ∷ []) z k is.0) ∙ is.1 z,
                λ a z has e. ⊎_elim (λ old. is.2 a z old e ∙ sym (ap deed (get_or_append_left xs (x ∷ []) z k is.0)))
                    (λ new. ap deed (sym new) ∙ sym same ∙ is.2 y z (subst (Contains xs) (sym at) (Contains-get_or xs k y is.0))
                    (ap key at ∙ is.1 y) ∙ sym (ap deed (get_or_append_left xs (x ∷ []) z k is.0)))
                    (Contains-push_cases xs x a has),
              ))
          kept_at false q d = other_pushed (get_by_text firsts q) xs x q (h.each q) (λ e. true≢false (sym (d.1 e)))

          pub seen_indexes : Indexes firsts (xs ++ x ∷ [])
          seen_indexes = record { each = λ q. kept_at (bytes_eq (key x) q) q (bytes_eq-Decides (key x) q) }

-- That one way through the text finds what a file has.
use Rattle.std.proofs.Common.{◌≡◌, ℕ, ◌+◌, ◌≤◌, Bool, true, false, List, [], ◌∷◌, refl, sym, ap, ◌∙◌, arith, if◌then◌else◌}
use Rattle.std.specs.Prelude.{◌||◌, max}
use Rattle.std.specs.Str.{bytes_eq}
use Rattle.mg_text.specs.Call.{Name}
use Rattle.scr_tree.specs.Tree.{Statements, Nothing, Says, Choice, Rec, Continue, Do, Branches, NoBranch, Branch, Titled}
use Rattle.stm_client.specs.declared.points.Survey.{Survey}
use Rattle.stm_client.specs.Counting.{next_own, next_own_in, own_choices, deeper, deepest, deepest_in, deepest_of_all}
use Rattle.stm_client.specs.Counting.{goes_on, some_goes_on, any_goes_on}
use Rattle.stm_client.specs.inner.Surveyed.{nothing_yet, counted, seen, going_on, survey, survey_in, survey_all}

-- ---- one more choice

counted-own : (own : Bool) (s : Survey) → (counted own s).own ≡ (if own then s.own + 1 else s.own)
counted-own true s = refl
counted-own false s = refl

counted-levels : (own : Bool) (s : Survey) → (counted own s).levels ≡ s.levels
counted-levels true s = refl
counted-levels false s = refl

counted-goes : (own : Bool) (s : Survey) → (counted own s).goes_on ≡ s.goes_on
counted-goes true s = refl
counted-goes false s = refl

or-assoc : (a b c : Bool) → ((a || b) || c) ≡ (a || (b || c))
or-assoc true b c = refl
or-assoc false b c = refl

or-false : (b : Bool) → (b || false) ≡ b
or-false true = refl
or-false false = refl

or-true : (b : Bool) → (b || true) ≡ true
or-true true = refl
or-true false = refl

module _ (me : Name) where
  -- ---- how many own choices

  mutual
    own-is : (l : ℕ) (s : Survey) (body : Statements) → (survey me l s body).own ≡ next_own me s.own body
    own-is l s Nothing = refl
    own-is l s (Says m rest) = own-is l s rest
    own-is l s (Choice p by bs rest) =
        let own : Bool = bytes_eq by me in
        own-is l (survey_in me own l (counted own s) bs) rest
        ∙ ap (λ k. next_own me k rest) (own-in-is own l (counted own s) bs ∙ ap (λ k. next_own_in me k bs) (counted-own own s))
    own-is l s (Rec p name body rest) = own-is l (survey me l s body) rest ∙ ap (λ k. next_own me k rest) (own-is l s body)
    own-is l s (Continue p name rest) = own-is l s rest
    own-is l s (Do p name rest) = own-is l (going_on s) rest

    own-in-is : (own : Bool) (l : ℕ) (s : Survey) (bs : Branches) → (survey_in me own l s bs).own ≡ next_own_in me s.own bs
    own-in-is own l s NoBranch = refl
    own-in-is own l s (Branch b more) =
        let d : ℕ = deeper own l in
        own-in-is own d (survey me d (seen d s) b) more ∙ ap (λ k. next_own_in me k more) (own-is d (seen d s) b)

  -- ---- whether there is a `do`

  mutual
    goes-is : (l : ℕ) (s : Survey) (body : Statements) → (survey me l s body).goes_on ≡ (s.goes_on || goes_on body)
    goes-is l s Nothing = sym (or-false s.goes_on)
    goes-is l s (Says m rest) = goes-is l s rest
    goes-is l s (Choice p by bs rest) =
        let own : Bool = bytes_eq by me in
        goes-is l (survey_in me own l (counted own s) bs) rest
        ∙ ap (λ b. b || goes_on rest) (goes-in-is own l (counted own s) bs ∙ ap (λ b. b || some_goes_on bs) (counted-goes own s))
        ∙ or-assoc s.goes_on (some_goes_on bs) (goes_on rest)
    goes-is l s (Rec p name body rest) =
        goes-is l (survey me l s body) rest ∙ ap (λ b. b || goes_on rest) (goes-is l s body)
        ∙ or-assoc s.goes_on (goes_on body) (goes_on rest)
    goes-is l s (Continue p name rest) = goes-is l s rest
    goes-is l s (Do p name rest) = goes-is l (going_on s) rest ∙ sym (or-true s.goes_on)

    goes-in-is : (own : Bool) (l : ℕ) (s : Survey) (bs : Branches) →
        (survey_in me own l s bs).goes_on ≡ (s.goes_on || some_goes_on bs)
    goes-in-is own l s NoBranch = sym (or-false s.goes_on)
    goes-in-is own l s (Branch b more) =
        let d : ℕ = deeper own l in
        goes-in-is own d (survey me d (seen d s) b) more ∙ ap (λ x. x || some_goes_on more) (goes-is d (seen d s) b)
        ∙ or-assoc s.goes_on (goes_on b) (some_goes_on more)

  -- ---- how deep branches stand

  mutual
    levels-is : (l : ℕ) (s : Survey) (body : Statements) → l ≤ s.levels → (survey me l s body).levels ≡ max s.levels (deepest me l body)
    levels-is l s Nothing h = omega arith
    levels-is l s (Says m rest) h = levels-is l s rest h
    levels-is l s (Choice p by bs rest) h =
        let own : Bool = bytes_eq by me in
        let t : Survey = survey_in me own l (counted own s) bs in
        let e : (counted own s).levels ≡ s.levels = counted-levels own s in
        let f : t.levels ≡ max (counted own s).levels (deepest_in me own l bs) = levels-in-is own l (counted own s) bs (omega arith) in
        let g : (survey me l t rest).levels ≡ max t.levels (deepest me l rest) = levels-is l t rest (omega arith) in
        omega arith
    levels-is l s (Rec p name body rest) h =
        let t : Survey = survey me l s body in
        let f : t.levels ≡ max s.levels (deepest me l body) = levels-is l s body h in
        let g : (survey me l t rest).levels ≡ max t.levels (deepest me l rest) = levels-is l t rest (omega arith) in
        omega arith
    levels-is l s (Continue p name rest) h = levels-is l s rest h
    levels-is l s (Do p name rest) h = levels-is l (going_on s) rest h

    levels-in-is : (own : Bool) (l : ℕ) (s : Survey) (bs : Branches) → l ≤ s.levels →
        (survey_in me own l s bs).levels ≡ max s.levels (deepest_in me own l bs)
    levels-in-is own l s NoBranch h = omega arith
    levels-in-is own l s (Branch b more) h =
        let d : ℕ = deeper own l in
        let t : Survey = survey me d (seen d s) b in
        let least : d ≤ deepest me d b = deepest-least d b in
        let f : t.levels ≡ max (max s.levels d) (deepest me d b) = levels-is d (seen d s) b (omega arith) in
        let g : (survey_in me own d t more).levels ≡ max t.levels (deepest_in me own d more) = levels-in-is own d t more (omega arith) in
        omega arith

    deepest-least : (l : ℕ) (body : Statements) → l ≤ deepest me l body
    deepest-least l Nothing = omega arith
    deepest-least l (Says m rest) = deepest-least l rest
    deepest-least l (Choice p by bs rest) = let h : l ≤ deepest me l rest = deepest-least l rest in omega arith
    deepest-least l (Rec p name body rest) = let h : l ≤ deepest me l rest = deepest-least l rest in omega arith
    deepest-least l (Continue p name rest) = deepest-least l rest
    deepest-least l (Do p name rest) = deepest-least l rest

  -- ---- of all protocols of a file

  survey-from : (s : Survey) (ts : List Titled) → survey_all me s ts ≡ record {
    own = own_choices me s.own ts;
    levels = max s.levels (deepest_of_all me ts);
    goes_on = s.goes_on || any_goes_on ts;
  }
  survey-from s [] =
      let e : s.levels ≡ max s.levels 0 = omega arith in λ k. record { own = s.own; levels = e k; goes_on = sym (or-false s.goes_on) k }
  survey-from s (t ∷ ts) =
      let here : Survey = survey me 0 s t.body in
      let f : here.levels ≡ max s.levels (deepest me 0 t.body) = levels-is 0 s t.body (omega arith) in
      let g : max here.levels (deepest_of_all me ts) ≡ max s.levels (max (deepest me 0 t.body) (deepest_of_all me ts)) = omega arith in
      survey-from here ts
      ∙ (λ k. record {
        own = own_choices me (own-is 0 s t.body k) ts;
        levels = g k;
        goes_on =
            (ap (λ b. b || any_goes_on ts) (goes-is 0 s t.body) ∙ or-assoc s.goes_on (goes_on t.body) (any_goes_on ts)) k;
      })

  pub survey-is : (ts : List Titled) → survey_all me nothing_yet ts ≡ record {
    own = own_choices me 0 ts;
    levels = deepest_of_all me ts;
    goes_on = any_goes_on ts;
  }
  survey-is ts =
      let e : max 0 (deepest_of_all me ts) ≡ deepest_of_all me ts = omega arith in
      survey-from nothing_yet ts ∙ (λ k. record { own = own_choices me 0 ts; levels = e k; goes_on = any_goes_on ts })

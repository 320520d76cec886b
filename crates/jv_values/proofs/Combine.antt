-- How related runs combine, for every relation that goes on through `give` and `>>=`: one lemma a combinator.
use Rattle.std.proofs.Common.{◌≡◌, Bool, true, false, Option, subst}
use Rattle.std.specs.Prelude.{if◌then◌else◌}
use Rattle.jv_values.specs.Values.{Lives}
use Rattle.jv_values.specs.Doing.{Run, ◌>>=◌}
use Rattle.jv_values.specs.Statements.{Completion, Normal, Breaks, Continues, Returns, Does, next_do, Mine, after_body, while_turn, do_turn}
use Rattle.jv_values.specs.Statements.{is_default, after_switch}
use Rattle.jv_values.specs.Alike.{Relation, Closed, Meet, Completes}

module _ {S S' : Type 0} (R : Relation S S') (c : Closed R) where
  pub bind_same : {A B B' : Type 0} {W : B → B' → Type 0} {m : Run S A} {n : Run S' A} {f : A → Run S B} {g : A → Run S' B'} →
      R A A ◌≡◌ m n → ((a : A) → R B B' W (f a) (g a)) → R B B' W (m >>= f) (n >>= g)
  bind_same {B} {B'} {W} {f} {g} h k = c.bind h (λ a b e. subst (λ x. R B B' W (f a) (g x)) e (k a))

  pub if_alike : {A A' : Type 0} {V : A → A' → Type 0} (b : Bool) {m m' : Run S A} {n n' : Run S' A'} →
      R A A' V m n → R A A' V m' n' → R A A' V (if b then m else m') (if b then n else n')
  if_alike true h k = h
  if_alike false h k = k

  pub meet_alike : {A A' : Type 0} {V : A → A' → Type 0} {rest : Type 0} (t u : Bool) {m m' : Run S A} {n n' : Run S' A'} →
      Meet t u rest → R A A' V m n → (rest → R A A' V m' n') → R A A' V (if t then m else m') (if u then n else n')
  meet_alike true true w h k = h
  meet_alike false false w h k = k w
  meet_alike true false w h k = absurd w
  meet_alike false true w h k = absurd w

-- Statements.

module _ {K K' : Type 0} (R : Relation (Lives K) (Lives K')) (c : Closed R) (B C : Option K → Option K' → Type 0) where
  abbrev DoAlike : Does K → Does K' → Type 0
  DoAlike = R (Completion K) (Completion K') (Completes B C)

  pub next_alike : {m : Does K} {n : Does K'} → DoAlike m n → (x : Completion K) (y : Completion K') → Completes B C x y →
      DoAlike (next_do m x) (next_do n y)
  next_alike h Normal Normal w = h
  next_alike h (Breaks l) (Breaks k) w = c.give w
  next_alike h (Continues l) (Continues k) w = c.give w
  next_alike h (Returns v) (Returns u) w = c.give w
  next_alike h _ _ w = absurd w

  pub switch_alike : (B' C' : Option K → Option K' → Type 0) →
      ((l : Option K) (k : Option K') → B' l k → Meet (is_default l) (is_default k) (B l k)) →
      ((l : Option K) (k : Option K') → C' l k → C l k) →
      (x : Completion K) (y : Completion K') → Completes B' C' x y → DoAlike (after_switch x) (after_switch y)
  switch_alike B' C' breaks continues Normal Normal w = c.give tt
  switch_alike B' C' breaks continues (Breaks l) (Breaks k) w =
      meet_alike R c (is_default l) (is_default k) (breaks l k w) (c.give tt) (λ r. c.give r)
  switch_alike B' C' breaks continues (Continues l) (Continues k) w = c.give (continues l k w)
  switch_alike B' C' breaks continues (Returns v) (Returns u) w = c.give w
  switch_alike B' C' breaks continues _ _ w = absurd w

  -- loops: the exits of the body are the loop's own, or those of what is around it
  module _ (b c₁ : Mine K) (b' c₁' : Mine K') (B' C' : Option K → Option K' → Type 0)
      (breaks : (l : Option K) (k : Option K') → B' l k → Meet (b l) (b' k) (B l k))
      (continues : (l : Option K) (k : Option K') → C' l k → Meet (c₁ l) (c₁' k) (C l k)) where
    pub after_alike : {m : Does K} {n : Does K'} → DoAlike m n → (x : Completion K) (y : Completion K') → Completes B' C' x y →
        DoAlike (after_body b c₁ m x) (after_body b' c₁' n y)
    after_alike h Normal Normal w = h
    after_alike h (Breaks l) (Breaks k) w = meet_alike R c (b l) (b' k) (breaks l k w) (c.give tt) (λ r. c.give r)
    after_alike h (Continues l) (Continues k) w = meet_alike R c (c₁ l) (c₁' k) (continues l k w) h (λ r. c.give r)
    after_alike h (Returns v) (Returns u) w = c.give w
    after_alike h _ _ w = absurd w

    pub while_alike : {test : Run (Lives K) Bool} {test' : Run (Lives K') Bool} {body again : Does K} {body' again' : Does K'} →
        R Bool Bool ◌≡◌ test test' → R (Completion K) (Completion K') (Completes B' C') body body' → DoAlike again again' →
        DoAlike (while_turn b c₁ test body again) (while_turn b' c₁' test' body' again')
    while_alike t h k = bind_same R c t (λ x. if_alike R c x (c.bind h (after_alike k)) (c.give tt))

    pub do_alike : {test : Run (Lives K) Bool} {test' : Run (Lives K') Bool} {body again : Does K} {body' again' : Does K'} →
        R Bool Bool ◌≡◌ test test' → R (Completion K) (Completion K') (Completes B' C') body body' → DoAlike again again' →
        DoAlike (do_turn b c₁ body test again) (do_turn b' c₁' body' test' again')
    do_alike t h k = c.bind h (after_alike (bind_same R c t (λ x. if_alike R c x k (c.give tt))))

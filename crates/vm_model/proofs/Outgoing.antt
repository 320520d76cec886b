-- The lists to all roles, of those that a map has.
use Rattle.std.proofs.Common.{◌≡◌, ◌≢◌, ℕ, zero, suc, ◌<◌, ◌≤◌, List, [], ◌∷◌, length, replicate, Option, Some, None, slice_get, set}
use Rattle.std.proofs.Common.{get_or, nat_eq, Bool, true, false, cond, refl, sym, ap, ◌∙◌, arith}
use Rattle.std.specs.Prelude.{option_map}
use Rattle.std.specs.Borrow.{Bor}
use Rattle.std.specs.Slice.{IsItemAt}
use Rattle.std.proofs.lemmas.Bool.{ne_eqb, eqb-true}
use Rattle.std.proofs.lemmas.Option.{slice_get_past, slice_get_read}
use Rattle.std.proofs.lemmas.List.{set_past, set-get_or}
use Rattle.std.specs.HashMap.{HashMap, get, Updates}
use Rattle.vm_model.specs.Messages.{or_nothing}
use Rattle.vm_model.specs.Outboxes.{list_in, list_to, lists_below, ChangesList}

module _ {X : Type 0} where
  pub many_below : (n : ℕ) (lists : ℕ → List X) → length (lists_below n lists) ≡ n
  many_below zero lists = refl
  many_below (suc n) lists = let more = many_below n (λ to. lists (suc to)) in omega arith

  -- the list to a role that there is
  pub below_at : (n to : ℕ) (lists : ℕ → List X) → to < n → or_nothing (slice_get (lists_below n lists) to) ≡ lists to
  below_at zero to lists h = absurd (omega arith)
  below_at (suc n) zero lists h = refl
  below_at (suc n) (suc to) lists h = below_at n to (λ role. lists (suc role)) (omega arith)

  -- and to one that there isn't
  pub below_past : (n to : ℕ) (lists : ℕ → List X) → n ≤ to → or_nothing (slice_get (lists_below n lists) to) ≡ []
  below_past n to lists h =
      let past : length (lists_below n lists) ≤ to = rw (many_below n lists) h in
      ap or_nothing (slice_get_past (lists_below n lists) to past)

  pub below_same : (n : ℕ) (old new : ℕ → List X) → ((role : ℕ) → new role ≡ old role) → lists_below n new ≡ lists_below n old
  below_same zero old new same = refl
  below_same (suc n) old new same =
      let first = same zero in
      let more = below_same n (λ role. old (suc role)) (λ role. new (suc role)) (λ role. same (suc role)) in
      cc

  pub below_none : (n : ℕ) (lists : ℕ → List X) → ((role : ℕ) → lists role ≡ []) → lists_below n lists ≡ replicate n []
  below_none zero lists none = refl
  below_none (suc n) lists none =
      let first = none zero in
      let more = below_none n (λ role. lists (suc role)) (λ role. none (suc role)) in
      cc

  -- the list to one role changes
  pub below_changed : (n to : ℕ) (old new : ℕ → List X) (list : List X) → to < n → new to ≡ list →
      ((role : ℕ) → role ≢ to → new role ≡ old role) → lists_below n new ≡ set (lists_below n old) to list
  below_changed zero to old new list h there others = absurd (omega arith)
  below_changed (suc n) zero old new list h there others =
      let more = below_same n (λ role. old (suc role)) (λ role. new (suc role)) (λ role. others (suc role) (λ e. omega arith)) in
      cc
  below_changed (suc n) (suc to) old new list h there others =
      let first = others zero (λ e. omega arith) in
      let more = below_changed n to (λ role. old (suc role)) (λ role. new (suc role)) list (omega arith) there
      (λ role apart. others (suc role) (λ e. apart (omega arith))) in
      cc

  -- and nothing where there is no such role
  pub below_kept : (n to : ℕ) (lists : ℕ → List X) (list : List X) → n ≤ to → lists_below n lists ≡ set (lists_below n lists) to list
  below_kept n to lists list h =
      let past : length (lists_below n lists) ≤ to = rw (many_below n lists) h in
      sym (set_past (lists_below n lists) to list past)

  -- a change, as the lists of all roles show it
  pub lists_changed : (n to : ℕ) (old new : ℕ → List X) (change : List X → List X) → to < n → ChangesList old new to (change (old to)) →
      lists_below n new ≡ set (lists_below n old) to (change (or_nothing (slice_get (lists_below n old) to)))
  lists_changed n to old new change h c =
      below_changed n to old new (change (old to)) h c.there c.others
      ∙ ap (λ list. set (lists_below n old) to (change list)) (sym (below_at n to old h))

module _ {Q X S : Type 0} (f : Q → List X) where
  -- a queue of a map is another one
  pub queue_changed : (old new : HashMap ℕ Q S) (to : ℕ) (queue : Q) (list : List X) → Updates nat_eq old new to (Some queue) →
      f queue ≡ list → ChangesList (list_to f old) (list_to f new) to list
  queue_changed old new to queue list h is = record {
    there = ap (list_in f) h.1 ∙ is;
    others = λ role apart. ap (list_in f) (h.2 role (ne_eqb to role (λ e. apart (sym e))));
  }

  -- and says the same
  pub queue_kept : (old new : HashMap ℕ Q S) (to : ℕ) (queue : Q) → Updates nat_eq old new to (Some queue) →
      f queue ≡ list_to f old to → (role : ℕ) → list_to f new role ≡ list_to f old role
  queue_kept old new to queue h is role = go (nat_eq to role) refl
    where
      at : (b : Bool) → nat_eq to role ≡ b → list_to f new role ≡ list_in f (cond b (Some queue) (get nat_eq old role))
      at b e = ap (list_in f) (h.0 role ∙ ap (λ v. cond v (Some queue) (get nat_eq old role)) e)

      go : (b : Bool) → nat_eq to role ≡ b → list_to f new role ≡ list_to f old role
      go true e = at true e ∙ is ∙ ap (list_to f old) (eqb-true to role e)
      go false e = at false e

-- the list of a sender, where there is one
pub row_at : {X : Type 0} (rows : List (List (List X))) (i : ℕ) (old : List (List X)) → i < length rows → old ≡ get_or rows i old →
    or_nothing (slice_get rows i) ≡ old
row_at [] i old h e = absurd (omega arith)
row_at (x ∷ rows) zero old h e = sym e
row_at (x ∷ rows) (suc i) old h e = row_at rows i old (omega arith) e

-- a sender's lists are changed at one receiver
pub row_changed : {X : Type 0} (rows : List (List (List X))) (i to : ℕ) (old row : List (List X)) (change : List X → List X) →
    i < length rows → old ≡ get_or rows i old → row ≡ set old to (change (or_nothing (slice_get old to))) →
    set rows i row ≡ set rows i (set (or_nothing (slice_get rows i)) to (change (or_nothing (slice_get (or_nothing (slice_get rows i)) to))))
row_changed rows i to old row change h e same =
    ap (set rows i) (same ∙ ap (λ lists. set lists to (change (or_nothing (slice_get lists to)))) (sym (row_at rows i old h e)))

-- and kept
pub row_kept : {X : Type 0} (rows : List (List (List X))) (i : ℕ) (old row : List (List X)) → old ≡ get_or rows i old → row ≡ old →
    set rows i row ≡ rows
row_kept rows i old row e same = ap (set rows i) (same ∙ e) ∙ set-get_or rows i old

-- what `front` lends is the first of the queue, where it has one
pub front_given : {X : Type 0} (xs : List X) (r : Option (Bor X)) → IsItemAt xs 0 r → option_map (λ x. x.now) r ≡ slice_get xs 0
front_given xs None h = sym (slice_get_past xs 0 h.3)
front_given xs (Some x) h = sym (slice_get_read xs (length xs) 0 x.now refl h.3.0 h.1)

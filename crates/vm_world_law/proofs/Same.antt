-- Worlds whose roles show the same events have the same messages on their way.
use Rattle.std.proofs.Common.{◌≡◌, ◌⊎◌, inl, inr, leb, ℕ, ◌<◌, ◌≤◌, true, false, List, ◌++◌, length, Some, sym, ap, ◌∙◌, subst}
use Rattle.std.specs.Prelude.{slice_get}
use Rattle.std.proofs.lemmas.Bool.Decides.{leb_tells}
use Rattle.std.proofs.lemmas.List.{append_cancel_left}
use Rattle.std.proofs.lemmas.Option.{slice_get_past}
use Rattle.mg_text.specs.declared.event.Sent.{Sent}
use Rattle.vm_model.specs.Program.{Program}
use Rattle.vm_model.specs.Messages.{Messages, or_nothing, on_way}
use Rattle.vm_world_law.specs.World.{World, events_of, sent, took, sent_to, taken_from, name_of}
use Rattle.vm_world_law.proofs.Lists.{get_within, same_at_each}
use Rattle.vm_world_law.proofs.Ways.{IsSquare}
use Rattle.vm_world_law.proofs.Alone.{Kept}

-- lists of the same length that are the same at each place within
pub same_within : {A : Type 0} (xs ys : List A) (n : ℕ) → length xs ≡ n → length ys ≡ n →
    ((i : ℕ) → i < n → slice_get xs i ≡ slice_get ys i) → xs ≡ ys
same_within {A} xs ys n long long' h = same_at_each xs ys (λ i. go i (leb_tells n i))
  where
    go : (i : ℕ) → (leb n i ≡ true) × (n ≤ i) ⊎ (leb n i ≡ false) × (i < n) → slice_get xs i ≡ slice_get ys i
    go i (inl past) = slice_get_past xs i (subst (λ k. k ≤ i) (sym long) past.1) ∙
        sym (slice_get_past ys i (subst (λ k. k ≤ i) (sym long') past.1))
    go i (inr there) = h i there.1

-- messages are known by their lists
pub messages_by : (q r : Messages) → IsSquare q → IsSquare r → q.roles ≡ r.roles →
    ((from to : ℕ) → from < length r.roles → to < length r.roles → on_way q from to ≡ on_way r from to) → q ≡ r
messages_by q r square square' roles ways =
    let n : ℕ = length r.roles in
    let lists : q.lists ≡ r.lists = same_within q.lists r.lists (length r.roles) (square.rows ∙ ap length roles) square'.rows each in
    whole q.roles r.roles q.lists r.lists roles lists
  where
    whole : (a b : _) (l m : List (List (List Sent))) → a ≡ b → l ≡ m → ◌≡◌ {A = Messages} (record { roles = a; lists = l })
        (record { roles = b; lists = m })
    whole a b l m e f = cc

    got : (l m : List (List Sent)) (to : ℕ) → to < length l → to < length m → or_nothing (slice_get l to) ≡ or_nothing (slice_get m to) →
        slice_get l to ≡ slice_get m to
    got l m to a b e =
        let x = get_within l to a in
        let y = get_within m to b in
        x.1 ∙ ap (λ z. Some z) (sym (ap or_nothing x.1) ∙ e ∙ ap or_nothing y.1) ∙ sym y.1

    each : (from : ℕ) → from < length r.roles → slice_get q.lists from ≡ slice_get r.lists from
    each from lt =
        let x = get_within q.lists from (subst (λ n. from < n) (sym (square.rows ∙ ap length roles)) lt) in
        let y = get_within r.lists from (subst (λ n. from < n) (sym square'.rows) lt) in
        let long : length x.0 ≡ length r.roles =
        sym (ap (λ o. length (or_nothing o)) x.1) ∙ square.row from (subst (λ l. from < length l) (sym roles) lt) ∙ ap length roles in
        let long' : length y.0 ≡ length r.roles = sym (ap (λ o. length (or_nothing o)) y.1) ∙ square'.row from lt in
        let row : x.0 ≡ y.0 = same_within x.0 y.0 (length r.roles) long long' (λ to tt.
        got x.0 y.0 to (subst (λ n. to < n) (sym long) tt) (subst (λ n. to < n) (sym long') tt)
        (sym (ap (λ o. or_nothing (slice_get (or_nothing o) to)) x.1) ∙ ways from to lt tt ∙
        ap (λ o. or_nothing (slice_get (or_nothing o) to)) y.1)) in
        x.1 ∙ ap (λ z. Some z) row ∙ sym y.1

module _ (p : Program) (first : World) (v : World) (kept' : Kept p first v) (w : World) (kept : Kept p first w) where
  names_same : v.messages.roles ≡ w.messages.roles
  names_same = kept'.names ∙ sym kept.names

  pub roles_same : ((r : ℕ) → r < length w.messages.roles → slice_get v.roles r ≡ slice_get w.roles r) → v.roles ≡ w.roles
  roles_same h = same_within v.roles w.roles (length w.messages.roles) (kept'.as_many ∙ ap length names_same) kept.as_many h

  module _ (same : (r : ℕ) → r < length w.roles → events_of r v.events ≡ events_of r w.events) where
    pub same_sent : (from to : ℕ) → from < length w.messages.roles → sent v from to ≡ sent w from to
    same_sent from to lt =
        ap (λ es. sent_to (name_of v to) es) (same from (subst (λ n. from < n) (sym kept.as_many) lt))
        ∙ ap (λ l. sent_to (or_nothing (slice_get l to)) (events_of from w.events)) names_same

    same_took : (to from : ℕ) → to < length w.messages.roles → took v to from ≡ took w to from
    same_took to from lt =
        ap (λ es. taken_from (name_of v from) es) (same to (subst (λ n. to < n) (sym kept.as_many) lt))
        ∙ ap (λ l. taken_from (or_nothing (slice_get l from)) (events_of to w.events)) names_same

    same_way : (from to : ℕ) → from < length w.messages.roles → to < length w.messages.roles → on_way v.messages from to ≡ on_way w.messages
        from to
    same_way from to lf lt =
        append_cancel_left (took w to from) (on_way v.messages from to) (on_way w.messages from to)
        (ap (λ l. l ++ on_way v.messages from to) (sym (same_took to from lt))
        ∙ sym (kept'.delivers from to (subst (λ l. from < length l) (sym names_same) lf) (subst (λ l. to < length l) (sym names_same) lt))
        ∙ same_sent from to lf
        ∙ kept.delivers from to lf lt)

    pub messages_same : v.messages ≡ w.messages
    messages_same = messages_by v.messages w.messages kept'.square kept.square names_same same_way

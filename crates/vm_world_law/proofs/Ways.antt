-- The lists of messages between roles as one of them changes.
use Rattle.std.proofs.Common.{◌≡◌, ◌≢◌, ◌⊎◌, inl, inr, ℕ, ◌<◌, Bool, true, false, true≢false, List, [], ◌∷◌, length, replicate, Option}
use Rattle.std.proofs.Common.{Some, None, refl, sym, ap, ◌∙◌, subst, arith, position}
use Rattle.std.specs.Prelude.{slice_get, slice_set, ◌==◌, if◌then◌else◌}
use Rattle.std.proofs.lemmas.List.{length-replicate}
use Rattle.std.proofs.lemmas.Bool.{eq-eqb}
use Rattle.std.proofs.lemmas.Bool.Decides.{eqb_tells}
use Rattle.std.specs.Str.{bytes_eq}
use Rattle.std.proofs.lemmas.List.Quantifiers.{position-Some}
use Rattle.mg_text.specs.Call.{Name}
use Rattle.mg_text.specs.declared.event.Sent.{Sent}
use Rattle.vm_model.specs.Messages.{Messages, or_nothing, sent_by, on_way, with_list, no_messages}
use Rattle.vm_model.specs.Step.{other_role}
use Rattle.vm_world_law.proofs.Lists.{some_is, set_here, set_there, set_long, got_within, in_range, nothing_in, replicate_there}

-- the lists of another sender stay, and so do those to another receiver
pub still_by : (q : Messages) (from to sender receiver : ℕ) (list : List Sent) → from ≢ sender →
    on_way (with_list q sender receiver list) from to ≡ on_way q from to
still_by q from to sender receiver list apart =
    ap (λ o. or_nothing (slice_get (or_nothing o) to)) (set_there q.lists sender from (slice_set (sent_by q sender) receiver list) apart)

none_past : (q : Messages) (from receiver : ℕ) (list : List Sent) → slice_get q.lists from ≡ None →
    slice_get (slice_set q.lists from (slice_set (sent_by q from) receiver list)) from ≡ None
none_past q from receiver list none = go q.lists from (slice_set (sent_by q from) receiver list) none
  where
    go : (xs : List (List (List Sent))) (i : ℕ) (x : List (List Sent)) → slice_get xs i ≡ None → slice_get (slice_set xs i x) i ≡ None
    go [] i x e = refl
    go (y ∷ xs) ℕ.zero x e = absurd (cc)
    go (y ∷ xs) (ℕ.suc i) x e = go xs i x e

-- the row of a sender whose list was set
row_set : (q : Messages) (sender receiver to : ℕ) (list : List Sent) → to ≢ receiver →
    slice_get (sent_by (with_list q sender receiver list) sender) to ≡ slice_get (sent_by q sender) to
row_set q sender receiver to list apart = go (slice_get q.lists sender) refl
  where
    go : (o : Option (List (List Sent))) → slice_get q.lists sender ≡ o →
        slice_get (sent_by (with_list q sender receiver list) sender) to ≡ slice_get (sent_by q sender) to
    go None is = ap (λ o. slice_get (or_nothing o) to) (none_past q sender receiver list is) ∙
        sym (ap (λ o. slice_get (or_nothing o) to) is)
    go (Some row) is =
        ap (λ o. slice_get (or_nothing o) to)
        (set_here q.lists sender (slice_set (sent_by q sender) receiver list) (got_within q.lists sender row is))
        ∙ set_there (sent_by q sender) receiver to list apart

pub still_to : (q : Messages) (from to sender receiver : ℕ) (list : List Sent) → to ≢ receiver →
    on_way (with_list q sender receiver list) from to ≡ on_way q from to
still_to q from to sender receiver list apart = go (eqb_tells from sender)
  where
    go : ((from == sender) ≡ true) × (from ≡ sender) ⊎ ((from == sender) ≡ false) × (from ≢ sender) →
        on_way (with_list q sender receiver list) from to ≡ on_way q from to
    go (inl is) =
        ap (λ k. on_way (with_list q sender receiver list) k to) is.1
        ∙ ap or_nothing (row_set q sender receiver to list apart)
        ∙ sym (ap (λ k. on_way q k to) is.1)
    go (inr is) = still_by q from to sender receiver list is.1

-- the list that was set
pub set_within : (q : Messages) (from to : ℕ) (list : List Sent) → from < length q.lists → to < length (sent_by q from) →
    on_way (with_list q from to list) from to ≡ list
set_within q from to list outer inner =
    ap (λ o. or_nothing (slice_get (or_nothing o) to)) (set_here q.lists from (slice_set (sent_by q from) to list) outer)
    ∙ ap or_nothing (set_here (sent_by q from) to list inner)

-- a list with messages is there
pub set_some : (q : Messages) (from to : ℕ) (list : List Sent) (x : Sent) (more : List Sent) → on_way q from to ≡ x ∷ more →
    on_way (with_list q from to list) from to ≡ list
set_some q from to list x more e =
    let some : 0 < length (on_way q from to) = subst (λ xs. 0 < length xs) (sym e) (omega arith) in
    let inner : to < length (sent_by q from) = in_range (sent_by q from) to 0 some in
    set_within q from to list (in_range q.lists from to inner) inner

-- Each role has a list to each.
pub record IsSquare (q : Messages) : Type 0 where
  pub rows : length q.lists ≡ length q.roles
  pub row : (i : ℕ) → i < length q.roles → length (sent_by q i) ≡ length q.roles

pub none_square : (roles : List Name) → IsSquare (no_messages roles)
none_square roles = record {
  rows = length-replicate (length roles) (replicate (length roles) []);
  row = λ i h.
      ap (λ o. length (or_nothing o)) (replicate_there (length roles) i (replicate (length roles) []) h)
      ∙ length-replicate (length roles) [];
}

pub none_on_way : (roles : List Name) (from to : ℕ) → on_way (no_messages roles) from to ≡ []
none_on_way roles from to = go (slice_get (replicate (length roles) (replicate (length roles) [])) from) refl
  where
    go : (o : Option (List (List Sent))) → slice_get (replicate (length roles) (replicate (length roles) [])) from ≡ o →
        on_way (no_messages roles) from to ≡ []
    go None is = ap (λ o. or_nothing (slice_get (or_nothing o) to)) is
    go (Some row) is =
        ap (λ o. or_nothing (slice_get (or_nothing o) to)) is
        ∙ ap (λ r. or_nothing (slice_get r to))
        (Rattle.vm_world_law.proofs.Lists.get_replicate (length roles) from (replicate (length roles) []) row is)
        ∙ nothing_in Sent (length roles) to

pub set_square : (q : Messages) (sender receiver : ℕ) (list : List Sent) → IsSquare q → IsSquare (with_list q sender receiver list)
set_square q sender receiver list h = record {
  rows = set_long q.lists sender (slice_set (sent_by q sender) receiver list) ∙ h.rows;
  row = λ i lt. go i lt (eqb_tells i sender);
}
  where
    go : (i : ℕ) → i < length q.roles → ((i == sender) ≡ true) × (i ≡ sender) ⊎ ((i == sender) ≡ false) × (i ≢ sender) →
        length (sent_by (with_list q sender receiver list) i) ≡ length q.roles
    go i lt (inl is) =
        let within : sender < length q.lists = subst (λ n. sender < n) (sym h.rows) (subst (λ k. k < length q.roles) is.1 lt) in
        ap (λ k. length (sent_by (with_list q sender receiver list) k)) is.1
        ∙ ap (λ o. length (or_nothing o)) (set_here q.lists sender (slice_set (sent_by q sender) receiver list) within)
        ∙ set_long (sent_by q sender) receiver list
        ∙ h.row sender (subst (λ k. k < length q.roles) is.1 lt)
    go i lt (inr is) =
        ap (λ o. length (or_nothing o)) (set_there q.lists sender i (slice_set (sent_by q sender) receiver list) is.1) ∙ h.row i lt

pub set_square_way : (q : Messages) (from to : ℕ) (list : List Sent) → IsSquare q → from < length q.roles → to < length q.roles →
    on_way (with_list q from to list) from to ≡ list
set_square_way q from to list h outer inner =
    set_within q from to list (subst (λ n. from < n) (sym h.rows) outer) (subst (λ n. to < n) (sym (h.row from outer)) inner)

-- Other roles.

pub record Other (me : ℕ) (o : Option ℕ) (peer : ℕ) : Type 0 where
  pub is : o ≡ Some peer
  pub apart : peer ≢ me

pub other_is : (me : ℕ) (o : Option ℕ) (peer : ℕ) → other_role me o ≡ Some peer → Other me o peer
other_is me None peer e = absurd (cc)
other_is me (Some k) peer e = go (k == me) refl e
  where
    go : (b : Bool) → (k == me) ≡ b → (if b then None else Some k) ≡ Some peer → Other me (Some k) peer
    go true is f = absurd (cc)
    go false is f = record { is = f; apart = λ g. absurd (true≢false (sym (eq-eqb k me (some_is f ∙ g)) ∙ is)) }

-- a role with a name is one of the roles
pub named_within : (roles : List Name) (name : Name) (k : ℕ) → position (bytes_eq name) roles ≡ Some k → k < length roles
named_within roles name k e = (position-Some (bytes_eq name) roles k name e).0

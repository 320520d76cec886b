-- What the others sent to a role, by their names, is what the lists hold.
use Rattle.std.proofs.Common.{◌≡◌, ◌≢◌, ◌⊎◌, inl, inr, ◌<◌, ◌+◌, ℕ, zero, suc, Bool, true, false, List, [], ◌∷◌, length, Option, Some, None}
use Rattle.std.proofs.Common.{position, slice_get, ◌||◌, if◌then◌else◌, ◌==◌, refl, sym, ap, ◌∙◌, subst, arith}
use Rattle.std.specs.List.{IsDistinct, list_any, AllByRecursion}
use Rattle.std.specs.Str.{bytes_eq}
use Rattle.std.proofs.lemmas.Bool.{eq-eqb, ne_eqb}
use Rattle.std.proofs.lemmas.Bool.Decides.{eqb_tells}
use Rattle.mg_text.specs.Call.{Name}
use Rattle.mg_text.proofs.Numbered.{list_any-from_None}
use Rattle.jv_values.specs.Messages.{messages_of}
use Rattle.vm_model.specs.Step.{other_role}
use Rattle.vm_world_law.specs.World.{World, sent}
use Rattle.vm_world_law.proofs.Lists.{same_name, names_differ, one_place, stands_at}
use Rattle.vm_world_law.proofs.Ways.{named_within}
use Rattle.vm_world_law.proofs.Order.{held, on_held}
use Rattle.vm_world_law.specs.Meant.{PeerHolds, unknown, known, Holds}
use Rattle.vm_world_law.specs.Worlds.{inputs_from, inputs_of}

both_false : (a b : Bool) → (a || b) ≡ false → (a ≡ false) × (b ≡ false)
both_false true b h = absurd (cc h)
both_false false b h = (refl, h)

module _ (w : World) (r : ℕ) (peer : Name) where
  -- the role of another name, whether it is left out or not
  passed : (k : ℕ) (name : Name) (names : List Name) (b : Bool) → bytes_eq peer name ≡ false →
      messages_of (if b then inputs_from w r (suc k) names else (name, sent w k r) ∷ inputs_from w r (suc k) names) peer
      ≡ messages_of (inputs_from w r (suc k) names) peer
  passed k name names true is = refl
  passed k name names false is =
      ap (λ (b : Bool). if b then Some (sent w k r) else messages_of (inputs_from w r (suc k) names) peer) is

  -- nobody has this name
  pub no_inputs : (k : ℕ) (names : List Name) → list_any (bytes_eq peer) names ≡ false → messages_of (inputs_from w r k names) peer ≡ None
  no_inputs k [] h = refl
  no_inputs k (name ∷ names) h =
      let both = both_false (bytes_eq peer name) (list_any (bytes_eq peer) names) h in
      passed k name names (k == r) both.0 ∙ no_inputs (suc k) names both.1

  -- the role of this name is another
  pub its_inputs : (k : ℕ) (names : List Name) (i : ℕ) → IsDistinct bytes_eq names → slice_get names i ≡ Some peer → k + i ≢ r →
      messages_of (inputs_from w r k names) peer ≡ Some (sent w (k + i) r)
  unfolding IsDistinct
  its_inputs k [] i d at apart = absurd (cc at)
  its_inputs k (name ∷ names) zero d at apart =
      ap (λ (b : Bool). messages_of (if b then inputs_from w r (suc k) names else (name, sent w k r) ∷ inputs_from w r (suc k) names) peer)
      (ne_eqb k r (λ e. apart (let z : k + 0 ≡ k = omega arith in z ∙ e)))
      ∙ ap (λ (b : Bool). if b then Some (sent w k r) else messages_of (inputs_from w r (suc k) names) peer)
      (subst (λ n. bytes_eq peer n ≡ true) (let e : peer ≡ name = cc in e) (same_name peer))
      ∙ ap (λ z. Some (sent w z r)) (let z : k ≡ k + 0 = omega arith in z)
  its_inputs k (name ∷ names) (suc i) d at apart =
      let z : suc k + i ≡ k + suc i = omega arith in
      passed k name names (k == r) (names_differ peer name (λ e. differs name names i d at e))
      ∙ its_inputs (suc k) names i d.1 at (λ e. apart (sym z ∙ e))
      ∙ ap (λ x. Some (sent w x r)) z
    where
      differs : (name : Name) (names : List Name) (i : ℕ) → IsDistinct bytes_eq (name ∷ names) → slice_get names i ≡ Some peer → peer ≡ name
          → ⊥
      differs name names i d at e =
          let same : 0 ≡ suc i = one_place (name ∷ names) 0 (suc i) peer d (ap (λ x. Some x) (sym e)) at in
          absurd (omega (arith, same))

  -- the role itself has this name
  pub own_inputs : (k : ℕ) (names : List Name) (i : ℕ) → IsDistinct bytes_eq names → slice_get names i ≡ Some peer → k + i ≡ r →
      messages_of (inputs_from w r k names) peer ≡ None
  unfolding IsDistinct
  own_inputs k [] i d at same = absurd (cc at)
  own_inputs k (name ∷ names) zero d at same =
      ap (λ (b : Bool). messages_of (if b then inputs_from w r (suc k) names else (name, sent w k r) ∷ inputs_from w r (suc k) names) peer)
      (eq-eqb k r (let z : k ≡ k + 0 = omega arith in z ∙ same))
      ∙ no_inputs (suc k) names (none_here name names d at)
    where
      none_of : (names : List Name) → AllByRecursion (λ y. bytes_eq peer y ≡ false) names → list_any (bytes_eq peer) names ≡ false
      none_of [] h = refl
      none_of (y ∷ ys) h = ap (λ (b : Bool). b || list_any (bytes_eq peer) ys) h.0 ∙ none_of ys h.1

      none_here : (name : Name) (names : List Name) → IsDistinct bytes_eq (name ∷ names) → Some name ≡ Some peer →
          list_any (bytes_eq peer) names ≡ false
      none_here name names d e = none_of names (subst (λ n. AllByRecursion (λ y. bytes_eq n y ≡ false) names)
          (let f : name ≡ peer = cc in f) d.0)
  own_inputs k (name ∷ names) (suc i) d at same =
      let z : suc k + i ≡ k + suc i = omega arith in
      passed k name names (k == r) (names_differ peer name (λ e. differs name names i d at e))
      ∙ own_inputs (suc k) names i d.1 at (z ∙ same)
    where
      differs : (name : Name) (names : List Name) (i : ℕ) → IsDistinct bytes_eq (name ∷ names) → slice_get names i ≡ Some peer → peer ≡ name
          → ⊥
      differs name names i d at e =
          let same : 0 ≡ suc i = one_place (name ∷ names) 0 (suc i) peer d (ap (λ x. Some x) (sym e)) at in
          absurd (omega (arith, same))

-- lists that hold what the others sent hold these inputs
pub held_holds : (w : World) (r : ℕ) → IsDistinct bytes_eq w.messages.roles → r < length w.messages.roles →
    Holds (inputs_of w r) (held w r) r []
held_holds w r distinct within = record { peers = λ peer. at_peer peer (position (bytes_eq peer) w.messages.roles) refl }
  where
    roles_held : (held w r).roles ≡ w.messages.roles
    roles_held = Rattle.vm_world_law.proofs.Order.held_roles w r

    by_role : (peer : Name) (i : ℕ) → position (bytes_eq peer) w.messages.roles ≡ Some i → ((i == r) ≡ true) × (i ≡ r) ⊎ ((i == r) ≡ false)
        × (i ≢ r) →
        PeerHolds (inputs_of w r) (held w r) r [] peer
    by_role peer i is (inl same) =
        unknown (own_inputs w r peer 0 w.messages.roles i distinct (stands_at w.messages.roles peer i is)
        (let z : 0 + i ≡ i = omega arith in z ∙ same.1))
        (ap (λ names. other_role r (position (bytes_eq peer) names)) roles_held
        ∙ ap (other_role r) is ∙ ap (λ (b : Bool). if b then None else Some i) same.0)
    by_role peer i is (inr apart) =
        let z : 0 + i ≡ i = omega arith in
        known (sent w i r) i
        (its_inputs w r peer 0 w.messages.roles i distinct (stands_at w.messages.roles peer i is) (λ e. apart.1 (sym z ∙ e)) ∙
        ap (λ k. Some (sent w k r)) z)
        (ap (λ names. other_role r (position (bytes_eq peer) names)) roles_held
        ∙ ap (other_role r) is ∙ ap (λ (b : Bool). if b then None else Some i) apart.0)
        (on_held w r i within (named_within w.messages.roles peer i is))

    at_peer : (peer : Name) (o : Option ℕ) → position (bytes_eq peer) w.messages.roles ≡ o → PeerHolds (inputs_of w r) (held w r) r [] peer
    at_peer peer None is =
        unknown (no_inputs w r peer 0 w.messages.roles (list_any-from_None (bytes_eq peer) w.messages.roles is))
        (ap (λ names. other_role r (position (bytes_eq peer) names)) roles_held ∙ ap (other_role r) is)
    at_peer peer (Some i) is = by_role peer i is (eqb_tells i r)

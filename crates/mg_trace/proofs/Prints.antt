-- What is printed by one event more.
use Rattle.std.proofs.Common.{◌≡◌, ◌+◌, take, Option, Some, None, ℕ, List, [], ◌∷◌, ◌++◌, Bool, refl, sym, ap, subst, ◌∙◌}
use Rattle.std.proofs.Common.{append-nil}
use Rattle.std.specs.Prelude.{slice_get, IsSomeAnd}
use Rattle.std.proofs.lemmas.Grind.{flat_map-append}
use Rattle.mg_text.specs.Call.{Name}
use Rattle.vm_world_law.specs.declared.role.RoleEvent.{RoleEvent}
use Rattle.mg_trace.specs.Trace.{name_at, printed, printed_line}
use Rattle.mg_trace.proofs.Telling.{up_to_seen}

printed_more : (named : Bool) (names : List Name) (events : List RoleEvent) (k : ℕ) (e : RoleEvent) →
    Some e ≡ slice_get events k → (name : Name) → name ≡ name_at names e.role → (old new : List ℕ) →
    old ≡ printed named names (take k events) → new ≡ old ++ printed_line named name e.event → new ≡ printed named names (take (k + 1) events)
printed_more named names events k e is name same old new h line =
    line
    ∙ ap (λ l. l ++ printed_line named name e.event) h
    ∙ ap (λ n. printed named names (take k events) ++ printed_line named n e.event) same
    ∙ ap (λ l. printed named names (take k events) ++ l) (sym (append-nil (printed_line named (name_at names e.role) e.event)))
    ∙ sym (flat_map-append (λ (x : RoleEvent). printed_line named (name_at names x.role) x.event) (take k events) (e ∷ []))
    ∙ ap (printed named names) (sym (up_to_seen events k e is))

module _ (named : Bool) (names : List Name) (events : List RoleEvent) (k : ℕ) where
  -- the line of the event at a place is appended
  abbrev IsNext : (old new : List ℕ) → Type 0
  IsNext old new = IsSomeAnd (slice_get events k) (λ e. new ≡ old ++ printed_line named (name_at names e.role) e.event)

  pub line_next : (e : RoleEvent) → Some e ≡ slice_get events k → (name : Name) → name ≡ name_at names e.role → (old new : List ℕ) →
      new ≡ old ++ printed_line named name e.event → IsNext old new
  line_next e is name same old new line =
      subst (λ (o : Option RoleEvent). IsSomeAnd o (λ x. new ≡ old ++ printed_line named (name_at names x.role) x.event)) is
      (line ∙ ap (λ n. old ++ printed_line named n e.event) same)

  -- what is printed by the events up to the next
  pub printed_next : (old new : List ℕ) → old ≡ printed named names (take k events) → IsNext old new →
      new ≡ printed named names (take (k + 1) events)
  printed_next old new before next = at (slice_get events k) refl next
    where
      at : (o : Option RoleEvent) → slice_get events k ≡ o →
          IsSomeAnd o (λ e. new ≡ old ++ printed_line named (name_at names e.role) e.event) →
          new ≡ printed named names (take (k + 1) events)
      at None there line = absurd line
      at (Some e) there line = printed_more named names events k e (sym there) (name_at names e.role) refl old new before line

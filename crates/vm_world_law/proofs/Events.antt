-- The events of a role, and the messages that they send and take, where one event more is seen.
use Rattle.std.proofs.Common.{◌≡◌, ◌≢◌, ℕ, ◌<◌, Bool, true, false, List, [], ◌∷◌, ◌++◌, length, map, Option, Some, None, position, refl}
use Rattle.std.proofs.Common.{sym, ap, ◌∙◌, append-nil}
use Rattle.std.specs.Prelude.{if◌then◌else◌, ◌==◌, slice_get}
use Rattle.std.specs.List.{IsDistinct}
use Rattle.std.specs.Str.{bytes_eq}
use Rattle.std.proofs.lemmas.Bool.{eq-eqb, ne_eqb}
use Rattle.std.proofs.lemmas.Grind.{flat_map-append}
use Rattle.mg_text.specs.Call.{Name}
use Rattle.mg_text.specs.declared.event.Event.{Event}
use Rattle.mg_text.specs.declared.event.Event.TheVariants as seen
use Rattle.mg_text.specs.declared.event.Sent.{Sent}
use Rattle.vm_model.specs.Messages.{or_nothing}
use Rattle.vm_model.specs.Machine.{noted}
use Rattle.vm_world_law.specs.declared.role.RoleEvent.{RoleEvent}
use Rattle.vm_world_law.specs.World.{of_role, events_of, message_to, message_from, sent_to, taken_from}
use Rattle.vm_world_law.proofs.Lists.{named_there}
use Rattle.vm_world_law.proofs.Moves.{IsStill}

pub events-append : (r : ℕ) (xs ys : List RoleEvent) → events_of r (xs ++ ys) ≡ events_of r xs ++ events_of r ys
events-append r [] ys = refl
events-append r (x ∷ xs) ys = go (x.role == r) (events-append r xs ys)
  where
    go : (b : Bool) → events_of r (xs ++ ys) ≡ events_of r xs ++ events_of r ys →
        (if b then x.event ∷ events_of r (xs ++ ys) else events_of r (xs ++ ys))
        ≡ (if b then x.event ∷ events_of r xs else events_of r xs) ++ events_of r ys
    go true e = ap (λ l. x.event ∷ l) e
    go false e = e

own : (r : ℕ) (es : List Event) → events_of r (map (of_role r) es) ≡ es
own r [] = refl
own r (e ∷ es) =
    ap (λ b. if b then e ∷ events_of r (map (of_role r) es) else events_of r (map (of_role r) es)) (eq-eqb r r refl) ∙
    ap (λ l. e ∷ l) (own r es)

others : (r s : ℕ) (es : List Event) → r ≢ s → events_of r (map (of_role s) es) ≡ []
others r s [] n = refl
others r s (e ∷ es) n =
    ap (λ b. if b then e ∷ events_of r (map (of_role s) es) else events_of r (map (of_role s) es)) (ne_eqb s r (λ same. n (sym same)))
    ∙ others r s es n

-- what was seen of a role is behind its other events
pub own_more : (r : ℕ) (before : List RoleEvent) (es : List Event) → events_of r (before ++ map (of_role r) es) ≡ events_of r before ++ es
own_more r before es = events-append r before (map (of_role r) es) ∙ ap (λ l. events_of r before ++ l) (own r es)

-- and is none of another's
pub others_more : (r s : ℕ) (before : List RoleEvent) (es : List Event) → r ≢ s → events_of r (before ++ map (of_role s) es) ≡ events_of r
    before
others_more r s before es n =
    events-append r before (map (of_role s) es) ∙ ap (λ l. events_of r before ++ l) (others r s es n) ∙ append-nil (events_of r before)

-- One event more.

pub sent_more : (name : Name) (es : List Event) (e : Event) → sent_to name (es ++ e ∷ []) ≡ sent_to name es ++ message_to name e
sent_more name es e = flat_map-append (message_to name) es (e ∷ []) ∙ ap (λ l. sent_to name es ++ l) (append-nil (message_to name e))

pub taken_more : (name : Name) (es : List Event) (e : Event) → taken_from name (es ++ e ∷ []) ≡ taken_from name es ++ message_from name e
taken_more name es e = flat_map-append (message_from name) es (e ∷ []) ∙ ap (λ l. taken_from name es ++ l)
    (append-nil (message_from name e))

still_sends : (name : Name) (e : Event) → IsStill (Some e) → message_to name e ≡ []
still_sends name (seen.Print text) h = refl
still_sends name (seen.Made object class) h = refl
still_sends name (seen.Enter object method) h = refl
still_sends name (seen.Leave object answer) h = refl
still_sends name (seen.Send peer label payload) h = absurd h
still_sends name (seen.Look peer label) h = refl
still_sends name (seen.Take peer label payload) h = absurd h

still_takes : (name : Name) (e : Event) → IsStill (Some e) → message_from name e ≡ []
still_takes name (seen.Print text) h = refl
still_takes name (seen.Made object class) h = refl
still_takes name (seen.Enter object method) h = refl
still_takes name (seen.Leave object answer) h = refl
still_takes name (seen.Send peer label payload) h = absurd h
still_takes name (seen.Look peer label) h = refl
still_takes name (seen.Take peer label payload) h = absurd h

pub sent_still : (name : Name) (es : List Event) (e : Option Event) → IsStill e → sent_to name (es ++ noted e) ≡ sent_to name es
sent_still name es None h = ap (sent_to name) (append-nil es)
sent_still name es (Some e) h = sent_more name es e ∙ ap (λ l. sent_to name es ++ l) (still_sends name e h) ∙ append-nil (sent_to name es)

pub taken_still : (name : Name) (es : List Event) (e : Option Event) → IsStill e → taken_from name (es ++ noted e) ≡ taken_from name es
taken_still name es None h = ap (taken_from name) (append-nil es)
taken_still name es (Some e) h = taken_more name es e ∙ ap (λ l. taken_from name es ++ l) (still_takes name e h) ∙
    append-nil (taken_from name es)

-- a take sends nothing, and a send takes nothing
pub take_sends_none : (name : Name) (es : List Event) (peer label : Name) (payload : _) →
    sent_to name (es ++ seen.Take peer label payload ∷ []) ≡ sent_to name es
take_sends_none name es peer label payload = sent_more name es (seen.Take peer label payload) ∙ append-nil (sent_to name es)

pub send_takes_none : (name : Name) (es : List Event) (peer label : Name) (payload : _) →
    taken_from name (es ++ seen.Send peer label payload ∷ []) ≡ taken_from name es
send_takes_none name es peer label payload = taken_more name es (seen.Send peer label payload) ∙ append-nil (taken_from name es)

-- To whom a message goes, and from whom it comes.
module _ (roles : List Name) (distinct : IsDistinct bytes_eq roles) (k : ℕ) (peer : Name) (message : Sent)
    (named : position (bytes_eq peer) roles ≡ Some k) where
  pub sent_here : (es : List Event) → k < length roles →
      sent_to (or_nothing (slice_get roles k)) (es ++ seen.Send peer message.label message.payload ∷ [])
      ≡ sent_to (or_nothing (slice_get roles k)) es ++ message ∷ []
  sent_here es lt =
      sent_more (or_nothing (slice_get roles k)) es (seen.Send peer message.label message.payload)
      ∙ ap (λ b. sent_to (or_nothing (slice_get roles k)) es ++ (if b then message ∷ [] else []))
      (named_there roles peer k k distinct named lt ∙ eq-eqb k k refl)

  pub sent_elsewhere : (es : List Event) (i : ℕ) → i < length roles → i ≢ k →
      sent_to (or_nothing (slice_get roles i)) (es ++ seen.Send peer message.label message.payload ∷ [])
      ≡ sent_to (or_nothing (slice_get roles i)) es
  sent_elsewhere es i lt n =
      sent_more (or_nothing (slice_get roles i)) es (seen.Send peer message.label message.payload)
      ∙ ap (λ b. sent_to (or_nothing (slice_get roles i)) es ++ (if b then message ∷ [] else []))
      (named_there roles peer k i distinct named lt ∙ ne_eqb i k n)
      ∙ append-nil (sent_to (or_nothing (slice_get roles i)) es)

  pub taken_here : (es : List Event) → k < length roles →
      taken_from (or_nothing (slice_get roles k)) (es ++ seen.Take peer message.label message.payload ∷ [])
      ≡ taken_from (or_nothing (slice_get roles k)) es ++ message ∷ []
  taken_here es lt =
      taken_more (or_nothing (slice_get roles k)) es (seen.Take peer message.label message.payload)
      ∙ ap (λ b. taken_from (or_nothing (slice_get roles k)) es ++ (if b then message ∷ [] else []))
      (named_there roles peer k k distinct named lt ∙ eq-eqb k k refl)

  pub taken_elsewhere : (es : List Event) (i : ℕ) → i < length roles → i ≢ k →
      taken_from (or_nothing (slice_get roles i)) (es ++ seen.Take peer message.label message.payload ∷ [])
      ≡ taken_from (or_nothing (slice_get roles i)) es
  taken_elsewhere es i lt n =
      taken_more (or_nothing (slice_get roles i)) es (seen.Take peer message.label message.payload)
      ∙ ap (λ b. taken_from (or_nothing (slice_get roles i)) es ++ (if b then message ∷ [] else []))
      (named_there roles peer k i distinct named lt ∙ ne_eqb i k n)
      ∙ append-nil (taken_from (or_nothing (slice_get roles i)) es)

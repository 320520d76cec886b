-- How many messages are sent by one event more.
use Rattle.std.proofs.Common.{◌≡◌, ◌+◌, ℕ, List, [], ◌∷◌, Bool, true, false, cond, Option, Some, None, length, take, sym, ap, ◌∙◌, refl}
use Rattle.std.proofs.Common.{length-append}
use Rattle.std.specs.Prelude.{slice_get, filter, option_map}
use Rattle.std.proofs.lemmas.List.Elements.{filter-append}
use Rattle.vm_world_law.specs.declared.role.RoleEvent.{RoleEvent}
use Rattle.vm_world_law.proofs.Lists.{some_is}
use Rattle.mg_text.specs.declared.event.Event.{Event}
use Rattle.mg_text.specs.declared.event.Event.TheVariants as seen
use Rattle.vm_events.specs.Seen.{kind_of}
use Rattle.vm_events.specs.declared.kind.Kind.{Kind}
use Rattle.mg_trace.proofs.Telling.{up_to_seen}
use Rattle.mg_runs.specs.Runs.{is_send, messages_in}
use Rattle.mg_runs.specs.inner.Sent.{sends}

one_more : (b : Bool) (e : RoleEvent) → length (cond b (e ∷ []) []) ≡ cond b 1 0
one_more true e = refl
one_more false e = refl

sent_more : (events : List RoleEvent) (k : ℕ) (e : RoleEvent) → Some e ≡ slice_get events k →
    messages_in (take (k + 1) events) ≡ messages_in (take k events) + cond (is_send e.event) 1 0
sent_more events k e is =
    let sends : RoleEvent → Bool = λ x. is_send x.event in
    ap messages_in (up_to_seen events k e is)
    ∙ ap (λ (l : List RoleEvent). length l) (filter-append sends (take k events) (e ∷ []))
    ∙ length-append (filter sends (take k events)) (cond (sends e) (e ∷ []) [])
    ∙ ap (λ n. messages_in (take k events) + n) (one_more (sends e) e)

-- one event more is counted
counted_more : (events : List RoleEvent) (k : ℕ) (e : RoleEvent) → Some e ≡ slice_get events k → (count next : ℕ) (b : Bool) →
    b ≡ is_send e.event → next ≡ count + cond b 1 0 → count ≡ messages_in (take k events) → next ≡ messages_in (take (k + 1) events)
counted_more events k e is count next b sends counted before =
    counted
    ∙ ap (λ (x : Bool). count + cond x 1 0) sends
    ∙ ap (λ n. n + cond (is_send e.event) 1 0) before
    ∙ sym (sent_more events k e is)

-- an event is of a kind that sends where it sends
kind_sends : (e : Event) → sends (kind_of e) ≡ is_send e
kind_sends (seen.Print text) = refl
kind_sends (seen.Made o class) = refl
kind_sends (seen.Enter o method) = refl
kind_sends (seen.Leave o answer) = refl
kind_sends (seen.Send peer label payload) = refl
kind_sends (seen.Look peer label) = refl
kind_sends (seen.Take peer label payload) = refl

-- it is counted by its kind
pub counted_kind : (events : List RoleEvent) (k : ℕ) (kind : Kind) →
    Some kind ≡ option_map (λ (e : RoleEvent). kind_of e.event) (slice_get events k) → (count next : ℕ) (b : Bool) →
    b ≡ sends kind → next ≡ count + cond b 1 0 → count ≡ messages_in (take k events) → next ≡ messages_in (take (k + 1) events)
counted_kind events k kind is count next b by counted before = at (slice_get events k) refl is
  where
    at : (o : Option RoleEvent) → slice_get events k ≡ o → Some kind ≡ option_map (λ (e : RoleEvent). kind_of e.event) o →
        next ≡ messages_in (take (k + 1) events)
    at None there same = absurd (let no : ⊥ = cc in no)
    at (Some e) there same =
        counted_more events k e (sym there) count next b (by ∙ ap sends (some_is same) ∙ kind_sends e.event) counted before

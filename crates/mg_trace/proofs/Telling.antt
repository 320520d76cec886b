-- The lines of one event more.
use Rattle.std.proofs.Common.{◌≡◌, ◌==◌, ◌+◌, take, zero, suc, ℕ, ℤ, List, [], ◌∷◌, ◌++◌, Bool, true, false, if◌then◌else◌}
use Rattle.std.proofs.Common.{Option, Some, arith, codes, refl, sym, ap, ◌∙◌, append_assoc, append-nil}
use Rattle.std.specs.Prelude.{Vec, slice_get}
use Rattle.std.specs.Option.{unwrap_or}
use Rattle.std.specs.Global.{Global}
use Rattle.mg_text.specs.Call.{Name}
use Rattle.mg_text.specs.declared.event.Event.{Event}
use Rattle.mg_text.specs.declared.event.Event.TheVariants as seen
use Rattle.vm_world_law.specs.declared.role.RoleEvent.{RoleEvent}
use Rattle.vm_world_law.specs.World.{events_of}
use Rattle.vm_world_law.proofs.Events.{events-append}
use Rattle.mg_trace.specs.Trace.{Telling, Known, unknown, last_call, known_more, known_from, known_in, told_answer, object_words}
use Rattle.mg_trace.specs.Trace.{event_words, line_of, name_at, object_of, event_line, lines_from}
use Rattle.mg_trace.specs.declared.objects.Tracked.{Tracked}
use Rattle.mg_trace.specs.inner.Kept.{known_at, objects_at, AreKnown, KeepMore}

-- the lines of events behind others
lines_append : (t : Telling) (names : List Name) (before es fs : List RoleEvent) →
    lines_from t names before (es ++ fs) ≡ lines_from t names before es ++ lines_from t names (before ++ es) fs
lines_append t names before [] fs = ap (λ b. lines_from t names b fs) (sym (append-nil before))
lines_append t names before (e ∷ es) fs =
    ap (λ l. event_line t names before e ++ l)
    (lines_append t names (before ++ e ∷ []) es fs
    ∙ ap (λ b. lines_from t names (before ++ e ∷ []) es ++ lines_from t names b fs) (append_assoc before (e ∷ []) es))
    ∙ sym (append_assoc (event_line t names before e) (lines_from t names (before ++ e ∷ []) es) (lines_from t names (before ++ e ∷ es) fs))

-- one event more
lines_more : (t : Telling) (names : List Name) (events : List RoleEvent) (e : RoleEvent) →
    lines_from t names [] (events ++ e ∷ []) ≡ lines_from t names [] events ++ event_line t names events e
lines_more t names events e =
    lines_append t names [] events (e ∷ []) ∙ ap (λ l. lines_from t names [] events ++ l) (append-nil (event_line t names events e))

-- what is known of an object behind one event more of its role
known_behind : (k : Known) (events : List Event) (e : Event) (o : ℕ) →
    known_from k (events ++ e ∷ []) o ≡ known_more o (known_from k events o) e
known_behind k [] e o = refl
known_behind k (x ∷ events) e o = known_behind (known_more o k x) events e o

-- the events up to the next
up_to_more : (events : List RoleEvent) (k : ℕ) (e : RoleEvent) → Some e ≡ slice_get events k →
    take (suc k) events ≡ take k events ++ e ∷ []
up_to_more [] k e is = absurd (let no : ⊥ = cc in no)
up_to_more (x ∷ events) zero e is = ap (λ (o : Option RoleEvent). unwrap_or o e ∷ []) (sym is)
up_to_more (x ∷ events) (suc k) e is = ap (λ l. x ∷ l) (up_to_more events k e is)

pub up_to_seen : (events : List RoleEvent) (k : ℕ) (e : RoleEvent) → Some e ≡ slice_get events k →
    take (k + 1) events ≡ take k events ++ e ∷ []
up_to_seen events k e is =
    let next : k + 1 ≡ suc k = omega arith in
    ap (λ n. take n events) next ∙ up_to_more events k e is

-- what is kept of each object behind one event more
pub are_known_more : (before after : List (Vec Tracked Global)) (events : List RoleEvent) (e : RoleEvent) → AreKnown before events →
    KeepMore before after e → AreKnown after (events ++ e ∷ [])
are_known_more before after events e h more =
    record { each = λ r o. more r o ∙ go r o (e.role == r) ∙ ap (λ es. known_in es o) (sym (events-append r events (e ∷ []))) }
  where
    go : (r o : ℕ) (b : Bool) →
        (if b then known_more o (known_at (objects_at before r) o) e.event else known_at (objects_at before r) o)
        ≡ known_in (events_of r events ++ (if b then e.event ∷ [] else [])) o
    go r o true = ap (λ k. known_more o k e.event) (h.each r o) ∙ sym (known_behind unknown (events_of r events) e.event o)
    go r o false = h.each r o ∙ ap (λ es. known_in es o) (sym (append-nil (events_of r events)))

-- room for a role changes nothing
pub are_known_same : (before after : List (Vec Tracked Global)) (events : List RoleEvent) → AreKnown before events →
    ((r : ℕ) → objects_at after r ≡ objects_at before r) → AreKnown after events
are_known_same before after events h same = record { each = λ r o. ap (λ l. known_at l o) (same r) ∙ h.each r o }

-- the lines of one event more
pub told_more : (t : Telling) (names : List Name) (roles : List (Vec Tracked Global)) (events : List RoleEvent) (e : RoleEvent)
    (name : Name) (objects : List Tracked) (old new : List ℕ) → AreKnown roles events → name ≡ name_at names e.role →
    objects ≡ objects_at roles e.role → old ≡ lines_from t names [] events →
    new ≡ old ++ line_of t name (known_at objects (object_of e.event)) e.event → new ≡ lines_from t names [] (events ++ e ∷ [])
told_more t names roles events e name objects old new known named own h line =
    line
    ∙ ap (λ l. l ++ line_of t name (known_at objects (object_of e.event)) e.event) h
    ∙ ap (λ n. lines_from t names [] events ++ line_of t n (known_at objects (object_of e.event)) e.event) named
    ∙ ap (λ os. lines_from t names [] events ++ line_of t (name_at names e.role) (known_at os (object_of e.event)) e.event) own
    ∙ ap (λ k. lines_from t names [] events ++ line_of t (name_at names e.role) k e.event) (known.each e.role (object_of e.event))
    ∙ sym (lines_more t names events e)

-- the words of an object that left a method
pub left : (t : Telling) (objects : List Tracked) (event : Event) (o : ℕ) (answer : Option ℤ) → event ≡ seen.Leave o answer →
    (class method : Name) → class ≡ (known_at objects o).class → method ≡ last_call (known_at objects o).calls →
    (old mid new word : List ℕ) → mid ≡ old ++ (codes "leave " ++ object_words class o ++ (codes " " ++ method)) → new ≡ mid ++ word →
    word ≡ told_answer t class method answer →
    new ≡ old ++ event_words t (known_at objects (object_of event)) event
left t objects event o answer is class method class_is method_is old mid new word call line told =
    line ∙ ap (λ (l : List ℕ). mid ++ l) told
    ∙ ap (λ (l : List ℕ). l ++ told_answer t class method answer)
    (call ∙ ap (λ (l : List ℕ). old ++ l) (sym (append_assoc (codes "leave " ++ object_words class o) (codes " ") method)))
    ∙ append_assoc old (codes "leave " ++ object_words class o ++ codes " " ++ method) (told_answer t class method answer)
    ∙ ap (λ (c : Name). old ++ words c method) class_is
    ∙ ap (λ (m : Name). old ++ words (known_at objects o).class m) method_is
    ∙ ap (λ (e : Event). old ++ event_words t (known_at objects (object_of e)) e) (sym is)
  where
    words : (class method : Name) → List ℕ
    words class method = (codes "leave " ++ object_words class o ++ codes " " ++ method) ++ told_answer t class method answer

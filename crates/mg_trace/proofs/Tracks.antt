-- What is kept of the objects of each role.
use Rattle.std.proofs.Common.{◌≡◌, ◌==◌, ◌<◌, ◌+◌, ◌-◌, take, vec_len, ℕ, List, [], ◌∷◌, ◌++◌, Option, Some, None, Bool, true, false}
use Rattle.std.proofs.Common.{if◌then◌else◌, Decides, length, get_or, refl, sym, ap, ◌∙◌}
use Rattle.std.specs.Prelude.{Vec, MatchOption, slice_set}
use Rattle.std.specs.Borrow.{Bor}
use Rattle.std.specs.Global.{Global}
use Rattle.std.specs.Option.{option_to_list}
use Rattle.std.proofs.lemmas.Bool.Decides.{Decides-eqb}
use Rattle.mg_text.specs.Call.{Name}
use Rattle.mg_text.specs.declared.event.Event.{Event}
use Rattle.mg_text.specs.declared.event.Event.TheVariants as seen
use Rattle.vm_world_law.specs.declared.role.RoleEvent.{RoleEvent}
use Rattle.mg_trace.specs.declared.objects.Tracked.{Tracked}
use Rattle.mg_trace.specs.Trace.{Known, unknown, other_calls, known_more}
use Rattle.mg_trace.specs.inner.Kept.{known_of, known_at, objects_at, object_in, changed, KeepsMore, KeepMore}
use Rattle.mg_trace.proofs.Calls.{calls_of, call_more, popped}
use Rattle.mg_trace.proofs.Images.{here, there, image_is, padded}

differ : (i o : ℕ) → Decides false (i ≡ o) → i ≡ o → ⊥
differ i o d e = let no : false ≡ true = d.1 e in absurd cc

-- more is known of one object
pub known_changed : (old objects : List Tracked) (i : ℕ) → i < length objects → ((o : ℕ) → known_at objects o ≡ known_at old o) →
    (t : Tracked) (f : Known → Known) → known_of t ≡ f (known_at objects i) → (o : ℕ) →
    known_at (slice_set objects i t) o ≡ (if i == o then f (known_at old o) else known_at old o)
known_changed old objects i within same t f is o = go (i == o) (Decides-eqb i o)
  where
    go : (b : Bool) → Decides b (i ≡ o) → known_at (slice_set objects i t) o ≡ (if b then f (known_at old o) else known_at old o)
    go true d =
        ap (λ n. known_at (slice_set objects i t) n) (sym (d.0 refl)) ∙ here known_of unknown objects i t within ∙ is
        ∙ ap f (ap (λ n. known_at objects n) (d.0 refl) ∙ same o)
    go false d = there known_of unknown objects i o t (differ i o d) ∙ same o

-- what is kept of an object that is there
pub known_is : (objects : List Tracked) (i : ℕ) (t : Tracked) → i < length objects → t ≡ get_or objects i t →
    known_of t ≡ known_at objects i
known_is = image_is known_of unknown

abbrev now : Bor Name → Name
now method = method.now

-- an object was made
pub known_new : (name : Bor Name) (calls : Vec (Bor Name) Global) (class : Name) → name.now ≡ class → calls.items ≡ [] →
    known_of (record { class = name; calls = calls }) ≡ record { class = class; calls = [] }
known_new name calls class is none =
    ap (λ (l : List (Bor Name)). record { class = name.now; calls = calls_of now l }) none
    ∙ ap (λ (x : Name). record { class = x; calls = [] }) is

-- nothing is known of an object without a class and calls
pub none_tracked : (calls : Vec (Bor Name) Global) → calls.items ≡ [] →
    ◌≡◌ {A = Known} (record { class = []; calls = calls_of now calls.items }) unknown
none_tracked calls none = ap (λ (l : List (Bor Name)). record { class = []; calls = calls_of now l }) none

-- an object entered a method
pub known_entered : (t : Tracked) (calls : Vec (Bor Name) Global) (method : Bor Name) (k : Known) → known_of t ≡ k →
    calls.items ≡ t.calls.items ++ method ∷ [] →
    known_of (record t { calls = calls }) ≡ record { class = k.class; calls = method.now ∷ k.calls }
known_entered t calls method k known is =
    ap (λ (l : List Name). record { class = t.class.now; calls = l }) (ap (calls_of now) is ∙ call_more now t.calls.items method)
    ∙ ap (λ (x : Known). record { class = x.class; calls = method.now ∷ x.calls }) known

-- an object left the method that it entered last
pub known_left : (t : Tracked) (calls : Vec (Bor Name) Global) (method : Option (Bor Name)) (k : Known) → known_of t ≡ k →
    t.calls.items ≡ calls.items ++ option_to_list method →
    MatchOption method ((vec_len t.calls ≡ 0) × (vec_len calls ≡ 0)) (λ m. vec_len calls + 1 ≡ vec_len t.calls) →
    calls.items ≡ take (vec_len t.calls - 1) t.calls.items →
    known_of (record t { calls = calls }) ≡ record { class = k.class; calls = other_calls k.calls }
known_left t calls method k known is cases rest =
    ap (λ (l : List Name). record { class = t.class.now; calls = l })
    (popped now t.calls.items calls.items method (vec_len t.calls) (vec_len calls) is cases rest)
    ∙ ap (λ (x : Known). record { class = x.class; calls = other_calls x.calls }) known

abbrev items : Vec Tracked Global → List Tracked
items objects = objects.items

-- more is known of the objects of one role
pub role_changed : (roles : List (Vec Tracked Global)) (e : RoleEvent) → e.role < length roles →
    (before after : Vec Tracked Global) → before ≡ get_or roles e.role before →
    KeepsMore before.items after.items e.event → KeepMore roles (slice_set roles e.role after) e
role_changed roles e within before after is more r o = go (e.role == r) (Decides-eqb e.role r)
  where
    was : before.items ≡ objects_at roles e.role
    was = image_is items [] roles e.role before within is

    go : (b : Bool) → Decides b (e.role ≡ r) → known_at (objects_at (slice_set roles e.role after) r) o
        ≡ (if b then known_more o (known_at (objects_at roles r) o) e.event else known_at (objects_at roles r) o)
    go true d =
        ap (λ n. known_at (objects_at (slice_set roles e.role after) n) o) (sym (d.0 refl))
        ∙ ap (λ l. known_at l o) (here items [] roles e.role after within)
        ∙ more o
        ∙ ap (λ l. known_more o (known_at l o) e.event) (was ∙ ap (objects_at roles) (d.0 refl))
    go false d = ap (λ l. known_at l o) (there items [] roles e.role r after (differ e.role r d))

abbrev number_in : Option ℕ → ℕ
number_in None = 0
number_in (Some n) = n

-- an event of no object tells nothing of any
pub told_of_none : (e : Event) → None ≡ object_in e → (k : Known) (o : ℕ) → k ≡ known_more o k e
told_of_none (seen.Made n class) none k o = absurd (let no : ⊥ = cc in no)
told_of_none (seen.Enter n method) none k o = absurd (let no : ⊥ = cc in no)
told_of_none (seen.Leave n answer) none k o = absurd (let no : ⊥ = cc in no)
told_of_none (seen.Print text) none k o = refl
told_of_none (seen.Send peer label payload) none k o = refl
told_of_none (seen.Look peer label) none k o = refl
told_of_none (seen.Take peer label payload) none k o = refl

-- an event of an object tells of that alone
pub told_of_one : (e : Event) (n : ℕ) → Some n ≡ object_in e → (k : Known) (o : ℕ) →
    (if n == o then changed k e else k) ≡ known_more o k e
told_of_one (seen.Made m class) n is k o = ap (λ (z : Option ℕ). if number_in z == o then record { class = class; calls = [] } else k) is
told_of_one (seen.Enter m method) n is k o =
    ap (λ (z : Option ℕ). if number_in z == o then record k { calls = method ∷ k.calls } else k) is
told_of_one (seen.Leave m answer) n is k o =
    ap (λ (z : Option ℕ). if number_in z == o then record k { calls = other_calls k.calls } else k) is
told_of_one (seen.Print text) n is k o = absurd (let no : ⊥ = cc in no)
told_of_one (seen.Send peer label payload) n is k o = absurd (let no : ⊥ = cc in no)
told_of_one (seen.Look peer label) n is k o = absurd (let no : ⊥ = cc in no)
told_of_one (seen.Take peer label payload) n is k o = absurd (let no : ⊥ = cc in no)

-- nothing is known of more objects
pub known_padded : (objects : List Tracked) (t : Tracked) (o : ℕ) → known_of t ≡ unknown →
    known_at (objects ++ t ∷ []) o ≡ known_at objects o
known_padded = padded known_of unknown

-- roles without objects
pub roles_padded : (roles : List (Vec Tracked Global)) (more : Vec Tracked Global) (r : ℕ) → more.items ≡ [] →
    objects_at (roles ++ more ∷ []) r ≡ objects_at roles r
roles_padded = padded items []

-- What the lists of messages hold while messages are sent, looked at and taken.
use Rattle.std.proofs.Common.{◌≡◌, ◌≢◌, ℕ, zero, suc, ◌<◌, Bool, true, false, true≢false, List, [], ◌∷◌, ◌++◌, length, drop, get_or, Option}
use Rattle.std.proofs.Common.{Some, None, position, refl, sym, ap, ◌∙◌, subst, arith}
use Rattle.std.specs.Prelude.{slice_get, slice_set, if◌then◌else◌, ◌==◌}
use Rattle.std.specs.List.{filter}
use Rattle.std.specs.Str.{bytes_eq}
use Rattle.std.proofs.lemmas.Bool.{eq-eqb}
use Rattle.std.proofs.lemmas.Slice.Eq.{bytes_eq-Decides}
use Rattle.std.proofs.lemmas.List.Quantifiers.{position-Some}
use Rattle.mg_text.specs.Call.{Name}
use Rattle.mg_text.specs.declared.event.Event.{Event}
use Rattle.mg_text.specs.declared.event.Event.TheVariants as seen
use Rattle.mg_text.specs.declared.event.Sent.{Sent}
use Rattle.jv_values.specs.Values.{Inputs}
use Rattle.jv_values.specs.Messages.{taken, takes_from}
use Rattle.vm_model.specs.Messages.{Messages, or_nothing, sent_by, on_way, with_list, sending, role_named}
use Rattle.vm_model.specs.Step.{other_role}
use Rattle.jv_sound.proofs.Lists.{some_is}
use Rattle.vm_world_law.specs.Meant.{PeerHolds, Holds}
use Rattle.vm_world_law.specs.Meant as meaning
use Rattle.vm_world_law.proofs.Lists.{set_here, set_there}

-- What was taken.

pub taken_still : (peer : Name) (es : List Event) (e : Event) → takes_from peer e ≡ false → taken peer (es ++ e ∷ []) ≡ taken peer es
taken_still peer [] e h = ap (λ b. length (if b then e ∷ [] else [])) h
taken_still peer (x ∷ es) e h = go (takes_from peer x) (taken_still peer es e h)
  where
    go : (b : Bool) → length (filter (takes_from peer) (es ++ e ∷ [])) ≡ length (filter (takes_from peer) es) →
        length (if b then x ∷ filter (takes_from peer) (es ++ e ∷ []) else filter (takes_from peer) (es ++ e ∷ []))
        ≡ length (if b then x ∷ filter (takes_from peer) es else filter (takes_from peer) es)
    go true i = ap suc i
    go false i = i

taken_next : (peer : Name) (es : List Event) (e : Event) → takes_from peer e ≡ true → taken peer (es ++ e ∷ []) ≡ suc (taken peer es)
taken_next peer [] e h = ap (λ b. length (if b then e ∷ [] else [])) h
taken_next peer (x ∷ es) e h = go (takes_from peer x) (taken_next peer es e h)
  where
    go : (b : Bool) → length (filter (takes_from peer) (es ++ e ∷ [])) ≡ suc (length (filter (takes_from peer) es)) →
        length (if b then x ∷ filter (takes_from peer) (es ++ e ∷ []) else filter (takes_from peer) (es ++ e ∷ []))
        ≡ suc (length (if b then x ∷ filter (takes_from peer) es else filter (takes_from peer) es))
    go true i = ap suc i
    go false i = i

drop_next : {A : Type 0} (k : ℕ) (xs : List A) (x : A) (more : List A) → drop k xs ≡ x ∷ more → drop (suc k) xs ≡ more
drop_next zero [] x more e = absurd (cc)
drop_next zero (y ∷ xs) x more e = cc
drop_next (suc k) [] x more e = absurd (cc)
drop_next (suc k) (y ∷ xs) x more e = drop_next k xs x more e

-- Other roles.

pub record Other (me : ℕ) (o : Option ℕ) (from : ℕ) : Type 0 where
  pub is : o ≡ Some from
  pub apart : from ≢ me

pub other_is : (me : ℕ) (o : Option ℕ) (from : ℕ) → other_role me o ≡ Some from → Other me o from
other_is me None from e = absurd (cc)
other_is me (Some k) from e = go (k == me) refl e
  where
    go : (b : Bool) → (k == me) ≡ b → (if b then None else Some k) ≡ Some from → Other me (Some k) from
    go true is f = absurd (cc)
    go false is f = record {
      is = f;
      apart = λ g. absurd (true≢false (sym (eq-eqb k me (some_is f ∙ g)) ∙ is));
    }

in_range : {A : Type 0} (xs : List (List A)) (i k : ℕ) → k < length (or_nothing (slice_get xs i)) → i < length xs
in_range [] i k h = absurd (omega (arith, h))
in_range (x ∷ xs) zero k h = omega arith
in_range (x ∷ xs) (suc i) k h = let g = in_range xs i k h in omega (arith, g)

-- the lists of another sender stay
still_on_way : (q : Messages) (from sender receiver to : ℕ) (list : List Sent) → from ≢ sender →
    on_way (with_list q sender receiver list) from to ≡ on_way q from to
still_on_way q from sender receiver to list apart =
    ap (λ o. or_nothing (slice_get (or_nothing o) to)) (set_there q.lists sender from (slice_set (sent_by q sender) receiver list) apart)

-- the list that was set
now_on_way : (q : Messages) (from to : ℕ) (list : List Sent) (x : Sent) (more : List Sent) → on_way q from to ≡ x ∷ more →
    on_way (with_list q from to list) from to ≡ list
now_on_way q from to list x more e =
    let some : 0 < length (on_way q from to) = subst (λ xs. 0 < length xs) (sym e) (omega arith) in
    let inner : to < length (sent_by q from) = in_range (sent_by q from) to 0 some in
    let outer : from < length q.lists = in_range q.lists from to inner in
    ap (λ o. or_nothing (slice_get (or_nothing o) to)) (set_here q.lists from (slice_set (sent_by q from) to list) outer)
    ∙ ap or_nothing (set_here (sent_by q from) to list inner)

name_at : (roles : List Name) (name : Name) (i : ℕ) → position (bytes_eq name) roles ≡ Some i → name ≡ get_or roles i name
name_at roles name i e = (bytes_eq-Decides name (get_or roles i name)).0 (position-Some (bytes_eq name) roles i name e).1

same_default : (roles : List Name) (i : ℕ) (a b : Name) → i < length roles → get_or roles i a ≡ get_or roles i b
same_default [] i a b h = absurd (omega (arith, h))
same_default (r ∷ roles) zero a b h = refl
same_default (r ∷ roles) (suc i) a b h = same_default roles i a b (omega (arith, h))

-- a number is that of one name
one_name : (q : Messages) (a b : Name) (i : ℕ) → role_named q a ≡ Some i → role_named q b ≡ Some i → a ≡ b
one_name q a b i e f =
    name_at q.roles a i e ∙ same_default q.roles i a b (position-Some (bytes_eq a) q.roles i a e).0 ∙ sym (name_at q.roles b i f)

-- Lists.

still_held : (inputs : Inputs) (q r : Messages) (me : ℕ) (es : List Event) (e : Event) → r.roles ≡ q.roles →
    ((from : ℕ) → from ≢ me → on_way r from me ≡ on_way q from me) → ((peer : Name) → takes_from peer e ≡ false) →
    (peer : Name) → PeerHolds inputs q me es peer → PeerHolds inputs r me (es ++ e ∷ []) peer
still_held inputs q r me es e roles ways no_take peer (meaning.unknown a b) =
    meaning.unknown a (ap (λ names. other_role me (position (bytes_eq peer) names)) roles ∙ b)
still_held inputs q r me es e roles ways no_take peer (meaning.known sent from a b c) =
    meaning.known sent from a (ap (λ names. other_role me (position (bytes_eq peer) names)) roles ∙ b)
    (ways from (other_is me (role_named q peer) from b).apart ∙ c ∙ ap (λ k. drop k sent) (sym (taken_still peer es e (no_take peer))))

-- an event that takes nothing, where no list changes
pub seen_holds : (inputs : Inputs) (q : Messages) (me : ℕ) (es : List Event) (e : Event) → ((peer : Name) → takes_from peer e ≡ false) →
    Holds inputs q me es → Holds inputs q me (es ++ e ∷ [])
seen_holds inputs q me es e no_take h =
    record { peers = λ peer. still_held inputs q q me es e refl (λ from apart. refl) no_take peer (h.peers peer) }

-- what this role sends is in its own lists
pub sent_holds : (inputs : Inputs) (q : Messages) (me to : ℕ) (message : Sent) (es : List Event) (e : Event) →
    ((peer : Name) → takes_from peer e ≡ false) → Holds inputs q me es → Holds inputs (sending q me to message) me (es ++ e ∷ [])
sent_holds inputs q me to message es e no_take h = record {
  peers = λ peer. still_held inputs q (sending q me to message) me es e refl
      (λ from apart. still_on_way q from me to me (on_way q me to ++ message ∷ []) apart) no_take peer (h.peers peer);
}

-- the first message of a peer is taken
pub took_holds : (inputs : Inputs) (q : Messages) (me from : ℕ) (peer label : Name) (payload : _) (x : Sent) (more : List Sent)
    (es : List Event) → other_role me (role_named q peer) ≡ Some from → on_way q from me ≡ x ∷ more → Holds inputs q me es →
    Holds inputs (with_list q from me more) me (es ++ seen.Take peer label payload ∷ [])
took_holds inputs q me from peer label payload x more es named way h =
    record { peers = λ name. go name (bytes_eq name peer) refl (h.peers name) }
  where
    go : (name : Name) (b : Bool) → bytes_eq name peer ≡ b → PeerHolds inputs q me es name → PeerHolds inputs (with_list q from me more) me
        (es ++ seen.Take peer label payload ∷ []) name
    go name b is (meaning.unknown a k) = meaning.unknown a k
    go name true is (meaning.known sent other a k c) =
        let same : name ≡ peer = (bytes_eq-Decides name peer).0 is in
        let number : other ≡ from = some_is (sym k ∙ ap (λ n. other_role me (role_named q n)) same ∙ named) in
        meaning.known sent other a k
        (ap (λ i. on_way (with_list q from me more) i me) number ∙ now_on_way q from me more x more way
        ∙ sym (ap (λ i. drop i sent) (taken_next name es (seen.Take peer label payload) is)
        ∙ drop_next (taken name es) sent x more (sym c ∙ ap (λ i. on_way q i me) number ∙ way)))
    go name false is (meaning.known sent other a k c) =
        let there = other_is me (role_named q name) other k in
        let here = other_is me (role_named q peer) from named in
        let apart : other ≢ from = (λ g. absurd (true≢false (sym ((bytes_eq-Decides name peer).1
        (one_name q name peer from (there.is ∙ ap (λ i. Some i) g) here.is)) ∙ is))) in
        meaning.known sent other a k
        (still_on_way q other from me me more apart ∙ c ∙ ap (λ i. drop i sent)
        (sym (taken_still name es (seen.Take peer label payload) is)))

-- A world is a system that steps reach: the roles stand at the ends of runs that have their deeds, and the lists are the messages on their
-- way.
use Rattle.std.proofs.Common.{◌≡◌, ◌≢◌, ◌⊎◌, inl, inr, ⊎_elim, ℕ, suc, ◌<◌, Bool, true, false, true≢false, List, [], ◌∷◌, ◌++◌, map, length}
use Rattle.std.proofs.Common.{Option, Some, None, refl, sym, ap, ◌∙◌, subst, position, arith, append_assoc}
use Rattle.std.specs.Prelude.{◌==◌, if◌then◌else◌, slice_get, slice_set, Contains}
use Rattle.std.specs.List.{IsDistinct}
use Rattle.std.specs.Str.{bytes_eq}
use Rattle.std.proofs.lemmas.Bool.Decides.{eqb_tells}
use Rattle.std.proofs.lemmas.List.{map-append, append-nil}
use Rattle.mg_text.specs.Call.{Name}
use Rattle.mg_text.specs.declared.event.Event.{Event}
use Rattle.mg_text.specs.declared.event.Event.TheVariants as seen
use Rattle.mg_text.specs.declared.event.Sent.{Sent}
use Rattle.scr_tree.specs.declared.syntax.Payload.{Payload}
use Rattle.scr_tree.specs.Protocol.{Send, Take, Protocol}
use Rattle.scr_tree.specs.Steps.{Act, Moves, Looks, Position}
use Rattle.scr_global.specs.Alone.{Step}
use Rattle.scr_global.specs.Systems.{Parcel, parcel, System, if_same, put, put_list, Moved, Reaches, here, after, initial}
use Rattle.scr_global.specs.Systems as systems
use Rattle.scr_global.specs.Laws as global_law
use Rattle.scr_faithful.specs.Faithful.{acts_on}
use Rattle.scr_faithful.proofs.Doing.{messages_both}
use Rattle.stm_acts.specs.Acts as act
use Rattle.stm_acts.specs.Acts.{Deed, Looked, unnumbered, deed_of, kind_of}
use Rattle.vm_model.specs.Program.{Program}
use Rattle.vm_model.specs.Messages.{Messages, or_nothing, on_way, with_list, sending}
use Rattle.vm_model.specs.Machine.{Machine, noted}
use Rattle.vm_model.specs.Step.{other_role}
use Rattle.vm_world_law.specs.Doing.{Answer, Looks as LooksAt, Takes, Refuses, Doing, Goes, Ends, Sends, Receives, answers, receives, done}
use Rattle.vm_world_law.specs.Doing.{IsQuiet, IsDoing}
use Rattle.vm_world_law.specs.declared.role.RoleEvent.{RoleEvent}
use Rattle.vm_world_law.specs.World.{State, Runs, Over, Role, World, stepped, turn, turn_at, turn_in, turns, events_of, of_role, IsFresh}
use Rattle.vm_world_law.proofs.Doing.{does_one}
use Rattle.vm_world_law.proofs.Delivering.{behind}
use Rattle.vm_world_law.proofs.Events.{own_more, others_more}
use Rattle.vm_world_law.proofs.Lists.{some_is, set_long, get_within, same_name, names_differ, one_place, stands_at}
use Rattle.vm_world_law.proofs.Ways.{still_by, still_to, set_some, set_square_way, IsSquare, none_square, none_on_way, other_is}
use Rattle.vm_world_law.proofs.Ways.{named_within, set_square}
use Rattle.stm_acts.specs.Ends.{deeds}
use Rattle.fit_law.specs.Conversed.{passed, parcel_of}
use Rattle.fit_law.proofs.Deeds.{one_more, none_more, nothing_ends, same_end, Walked, LastDeed, did, but_looked, last_deed}
use Rattle.fit_law.proofs.Deeds.{start_walked, moved_is, looked_is}

quiet_deeds : (e : Option Event) → IsQuiet e → (es : List Event) → deeds (es ++ noted e) ≡ deeds es
quiet_deeds None h es = ap deeds (Rattle.std.proofs.Common.append-nil es)
quiet_deeds (Some (seen.Print text)) h es = none_more es (seen.Print text) refl
quiet_deeds (Some (seen.Made object class)) h es = none_more es (seen.Made object class) refl
quiet_deeds (Some (seen.Enter object method)) h es = none_more es (seen.Enter object method) refl
quiet_deeds (Some (seen.Leave object answer)) h es = none_more es (seen.Leave object answer) refl
quiet_deeds (Some (seen.Send peer label payload)) h es = absurd h
quiet_deeds (Some (seen.Look peer label)) h es = absurd h
quiet_deeds (Some (seen.Take peer label payload)) h es = absurd h

passed_both : (xs ys : List Deed) → passed (xs ++ ys) ≡ passed xs ++ passed ys
passed_both [] ys = refl
passed_both (act.Moved m ∷ xs) ys = ap (λ ms. m ∷ ms) (passed_both xs ys)
passed_both (Looked peer label ∷ xs) ys = passed_both xs ys

abbrev Tells : (i k : ℕ) → Type 0
Tells i k = ((i == k) ≡ true) × (i ≡ k) ⊎ ((i == k) ≡ false) × (i ≢ k)

module _ (roles : List Name) (protocols : Name → Protocol) (names : List Name) (distinct : IsDistinct bytes_eq names)
    (listed : (i : ℕ) → i < length names → Contains roles (or_nothing (slice_get names i))) where
  abbrev pub name : ℕ → Name
  name i = or_nothing (slice_get names i)

  name_at : (i : ℕ) → i < length names → slice_get names i ≡ Some (name i)
  name_at i h = let g = get_within names i h in g.1 ∙ ap Some (sym (ap or_nothing g.1))

  same_names : (i k : ℕ) → i ≡ k → bytes_eq (name i) (name k) ≡ true
  same_names i k e = subst (λ x. bytes_eq (name i) (name x) ≡ true) e (same_name (name i))

  other_names : (i k : ℕ) → i < length names → k < length names → i ≢ k → bytes_eq (name i) (name k) ≡ false
  other_names i k hi hk n = names_differ (name i) (name k)
      (λ e. n (one_place names i k (name i) distinct (name_at i hi) (name_at k hk ∙ ap Some (sym e))))

  -- where each role stands
  pub record Walks (exact : Bool) (w : World) : Type 0 where
    pub ends : ℕ → Position
    pub walks : (i : ℕ) → i < length names → Walked exact (protocols (name i)) (deeds (events_of i w.events)) (ends i)

  pub record Stands (exact : Bool) (w : World) (ends : ℕ → Position) : Type 0 where
    pub system : System
    pub reached : Reaches roles (initial protocols) system
    pub at : (i : ℕ) → i < length names → system.at (name i) ≡ ends i
    pub lists : (i k : ℕ) → i < length names → k < length names → system.lists (name i) (name k) ≡ map parcel_of (on_way w.messages i k)
    -- the messages of each role are those on the path
    pub said : (i : ℕ) → i < length names → global_law.messages_of (acts_on reached (name i)) ≡ passed (deeds (events_of i w.events))
    -- so are all its deeds, where the walks have them all
    pub did : exact ≡ true → (i : ℕ) → i < length names → map unnumbered (acts_on reached (name i)) ≡ deeds (events_of i w.events)

  -- the first message from a peer has this label
  pub record Heads (w : World) (i : ℕ) (peer label : Name) : Type 0 where
    pub from : ℕ
    pub within : from < length names
    pub named : name from ≡ peer
    pub message : Sent
    pub more : List Sent
    pub is : on_way w.messages from i ≡ message ∷ more
    pub labelled : message.label ≡ label

  abbrev Looked_is : World → Type 0
  Looked_is w = (i : ℕ) → i < length names → (ds : List Deed) (peer label : Name) →
      deeds (events_of i w.events) ≡ ds ++ Looked peer label ∷ [] → Heads w i peer label

  pub record Good (w : World) : Type 0 where
    pub named : w.messages.roles ≡ names
    pub as_many : length w.roles ≡ length names
    pub square : IsSquare w.messages
    pub stands : (exact : Bool) (walks : Walks exact w) → Stands exact w walks.ends
    -- where the last deed was a look, the message is still there
    pub looked : Looked_is w

  -- ---- nothing was done

  pub fresh_is_good : (w : World) → IsFresh w → w.messages.roles ≡ names → Good w
  fresh_is_good w fresh e = record {
    named = e;
    as_many = fresh.as_many ∙ ap length e;
    square = subst IsSquare (sym fresh.no_message) (none_square w.messages.roles);
    stands = λ exact walks. record {
      system = initial protocols;
      reached = here;
      at = λ i h. sym (start_walked (protocols (name i)) (subst (λ ds. Walked exact (protocols (name i)) ds (walks.ends i)) (none i)
          (walks.walks i h)));
      lists = λ i k hi hk. sym (ap (map parcel_of) (ap (λ q. on_way q i k) fresh.no_message ∙ none_on_way w.messages.roles i k));
      said = λ i h. sym (ap passed (none i));
      did = λ is_exact i h. sym (none i);
    };
    looked = λ i h ds peer label f. absurd (nothing_ends ds (Looked peer label) (sym f ∙ none i));
  }
    where
      none : (i : ℕ) → deeds (events_of i w.events) ≡ []
      none i = ap (λ es. deeds (events_of i es)) fresh.unseen

  -- the deeds stay, and so do the messages
  same_deeds : (w : World) (rs : List Role) (es : List RoleEvent) → length rs ≡ length w.roles →
      ((i : ℕ) → deeds (events_of i es) ≡ deeds (events_of i w.events)) → Good w →
      Good (record { roles = rs; messages = w.messages; events = es })
  same_deeds w rs es long e g = record {
    named = g.named;
    as_many = long ∙ g.as_many;
    square = g.square;
    stands = λ exact walks.
        let s = g.stands exact (record {
          ends = walks.ends;
          walks = λ i h. subst (λ ds. Walked exact (protocols (name i)) ds (walks.ends i)) (e i) (walks.walks i h);
        }) in
        record {
          system = s.system;
          reached = s.reached;
          at = s.at;
          lists = s.lists;
          said = λ i h. s.said i h ∙ ap passed (sym (e i));
          did = λ is_exact i h. s.did is_exact i h ∙ sym (e i);
        };
    looked = λ i h ds peer label f.
        let l = g.looked i h ds peer label (sym (e i) ∙ f) in
        record { from = l.from; within = l.within; named = l.named; message = l.message; more = l.more; is = l.is; labelled = l.labelled };
  }

  -- ---- one deed more

  module _ (w : World) (g : Good w) (r : ℕ) (within : r < length names) (rs : List Role) (long : length rs ≡ length w.roles) (e : Event)
      (d : Deed) (deed : deed_of e ≡ d ∷ []) where
    abbrev v_of : Messages → World
    v_of q = behind w r rs q (Some e)

    mine : deeds (events_of r (w.events ++ of_role r e ∷ [])) ≡ deeds (events_of r w.events) ++ d ∷ []
    mine = ap deeds (own_more r w.events (e ∷ [])) ∙ one_more (events_of r w.events) e d deed

    theirs : (i : ℕ) → i ≢ r → deeds (events_of i (w.events ++ of_role r e ∷ [])) ≡ deeds (events_of i w.events)
    theirs i n = ap deeds (others_more i r w.events (e ∷ []) n)

    -- the messages on the path
    said_at : (acts : Name → List Act) (a : Act) → global_law.messages_of (a ∷ []) ≡ passed (d ∷ []) →
        ((i : ℕ) → i < length names → global_law.messages_of (acts (name i)) ≡ passed (deeds (events_of i w.events))) →
        (i : ℕ) → i < length names → global_law.messages_of (put (name r) (acts (name r) ++ a ∷ []) acts (name i)) ≡
        passed (deeds (events_of i (w.events ++ of_role r e ∷ [])))
    said_at acts a f said i h = go (eqb_tells i r)
      where
        go : Tells i r → global_law.messages_of (if_same (bytes_eq (name i) (name r)) (acts (name r) ++ a ∷ []) (acts (name i))) ≡
            passed (deeds (events_of i (w.events ++ of_role r e ∷ [])))
        go (inl is) =
            ap (λ (b : Bool). global_law.messages_of (if_same b (acts (name r) ++ a ∷ []) (acts (name i)))) (same_names i r is.1)
            ∙ messages_both (acts (name r)) (a ∷ [])
            ∙ ap (λ ms. ms ++ global_law.messages_of (a ∷ [])) (said r within)
            ∙ ap (λ ms. passed (deeds (events_of r w.events)) ++ ms) f
            ∙ sym (passed_both (deeds (events_of r w.events)) (d ∷ []))
            ∙ ap passed (sym mine)
            ∙ ap (λ x. passed (deeds (events_of x (w.events ++ of_role r e ∷ [])))) (sym is.1)
        go (inr is) =
            ap (λ (b : Bool). global_law.messages_of (if_same b (acts (name r) ++ a ∷ []) (acts (name i)))) (other_names i r h within is.1)
            ∙ said i h ∙ ap passed (sym (theirs i is.1))

    -- the acts on the path
    did_at : (acts : Name → List Act) (a : Act) → unnumbered a ≡ d →
        ((i : ℕ) → i < length names → map unnumbered (acts (name i)) ≡ deeds (events_of i w.events)) →
        (i : ℕ) → i < length names → map unnumbered (put (name r) (acts (name r) ++ a ∷ []) acts (name i)) ≡
        deeds (events_of i (w.events ++ of_role r e ∷ []))
    did_at acts a f before_it i h = go (eqb_tells i r)
      where
        go : Tells i r → map unnumbered (if_same (bytes_eq (name i) (name r)) (acts (name r) ++ a ∷ []) (acts (name i))) ≡
            deeds (events_of i (w.events ++ of_role r e ∷ []))
        go (inl is) =
            ap (λ (b : Bool). map unnumbered (if_same b (acts (name r) ++ a ∷ []) (acts (name i)))) (same_names i r is.1)
            ∙ map-append unnumbered (acts (name r)) (a ∷ [])
            ∙ ap (λ ds. ds ++ unnumbered a ∷ []) (before_it r within)
            ∙ ap (λ x. deeds (events_of r w.events) ++ x ∷ []) f
            ∙ sym mine
            ∙ ap (λ x. deeds (events_of x (w.events ++ of_role r e ∷ []))) (sym is.1)
        go (inr is) =
            ap (λ (b : Bool). map unnumbered (if_same b (acts (name r) ++ a ∷ []) (acts (name i)))) (other_names i r h within is.1)
            ∙ before_it i h ∙ sym (theirs i is.1)

    said_no_more : passed (d ∷ []) ≡ [] → (i : ℕ) → i < length names → passed (deeds (events_of i w.events)) ≡
        passed (deeds (events_of i (w.events ++ of_role r e ∷ [])))
    said_no_more f i h = go (eqb_tells i r)
      where
        go : Tells i r → passed (deeds (events_of i w.events)) ≡ passed (deeds (events_of i (w.events ++ of_role r e ∷ [])))
        go (inl is) =
            ap (λ x. passed (deeds (events_of x w.events))) is.1
            ∙ sym (append-nil (passed (deeds (events_of r w.events))))
            ∙ ap (λ ms. passed (deeds (events_of r w.events)) ++ ms) (sym f)
            ∙ sym (passed_both (deeds (events_of r w.events)) (d ∷ []))
            ∙ ap passed (sym mine)
            ∙ ap (λ x. passed (deeds (events_of x (w.events ++ of_role r e ∷ [])))) (sym is.1)
        go (inr is) = ap passed (sym (theirs i is.1))

    -- where the roles stood before
    walked_before : (exact : Bool) (q : Messages) (walks : Walks exact (v_of q)) (at : Position) →
        Walked exact (protocols (name r)) (deeds (events_of r w.events)) at →
        (i : ℕ) → i < length names → Walked exact (protocols (name i)) (deeds (events_of i w.events)) (if i == r then at else walks.ends i)
    walked_before exact q walks at x i h = go i h (eqb_tells i r)
      where
        go : (i : ℕ) → i < length names → Tells i r →
            Walked exact (protocols (name i)) (deeds (events_of i w.events)) (if i == r then at else walks.ends i)
        go i h (inl is) =
            subst (Walked exact (protocols (name i)) (deeds (events_of i w.events)))
            (sym (ap (λ (b : Bool). if b then at else walks.ends i) is.0))
            (subst (λ k. Walked exact (protocols (name k)) (deeds (events_of k w.events)) at) (sym is.1) x)
        go i h (inr is) =
            subst (Walked exact (protocols (name i)) (deeds (events_of i w.events)))
            (sym (ap (λ (b : Bool). if b then at else walks.ends i) is.0))
            (subst (λ ds. Walked exact (protocols (name i)) ds (walks.ends i)) (theirs i is.1) (walks.walks i h))

    abbrev before : (exact : Bool) (q : Messages) (walks : Walks exact (v_of q)) (at : Position) →
        Walked exact (protocols (name r)) (deeds (events_of r w.events)) at →
        Walks exact w
    before exact q walks at x = record { ends = λ i. if i == r then at else walks.ends i; walks = walked_before exact q walks at x }

    -- the position of the role that did it, and those of the others
    moved_at : (exact : Bool) (q : Messages) (walks : Walks exact (v_of q)) (at : Position) (c : System) →
        ((i : ℕ) → i < length names → c.at (name i) ≡ (if i == r then at else walks.ends i)) →
        (i : ℕ) → i < length names → put (name r) (walks.ends r) c.at (name i) ≡ walks.ends i
    moved_at exact q walks at c stood i h = go (eqb_tells i r)
      where
        go : Tells i r → put (name r) (walks.ends r) c.at (name i) ≡ walks.ends i
        go (inl is) =
            ap (λ (b : Bool). if_same b (walks.ends r) (c.at (name i))) (same_names i r is.1) ∙ ap walks.ends (sym is.1)
        go (inr is) =
            ap (λ (b : Bool). if_same b (walks.ends r) (c.at (name i))) (other_names i r h within is.1)
            ∙ stood i h ∙ ap (λ (b : Bool). if b then at else walks.ends i) is.0

    stood_at : (exact : Bool) (q : Messages) (walks : Walks exact (v_of q)) (at : Position) (c : System) →
        ((i : ℕ) → i < length names → c.at (name i) ≡ (if i == r then at else walks.ends i)) → c.at (name r) ≡ at
    stood_at exact q walks at c stood = stood r within ∙ ap (λ (b : Bool). if b then at else walks.ends r) (self (eqb_tells r r))
      where
        self : Tells r r → (r == r) ≡ true
        self (inl is) = is.0
        self (inr is) = absurd (is.1 refl)

    -- a list that is put, and what is on its way
    put_way : (c : System) (a b : ℕ) (ys : List Sent) → a < length names → b < length names →
        ((i k : ℕ) → i < length names → k < length names → c.lists (name i) (name k) ≡ map parcel_of (on_way w.messages i k)) →
        on_way (with_list w.messages a b ys) a b ≡ ys →
        (i k : ℕ) → i < length names → k < length names →
        put_list (name a) (name b) (map parcel_of ys) c.lists (name i) (name k) ≡ map parcel_of (on_way (with_list w.messages a b ys) i k)
    put_way c a b ys ha hb lists set i k hi hk = go (eqb_tells i a) (eqb_tells k b)
      where
        xs : List Parcel
        xs = map parcel_of ys

        go : Tells i a → Tells k b →
            put_list (name a) (name b) xs c.lists (name i) (name k) ≡ map parcel_of (on_way (with_list w.messages a b ys) i k)
        go (inl is) (inl ks) =
            ap (λ (b1 : Bool). if_same b1 (if_same (bytes_eq (name k) (name b)) xs (c.lists (name i) (name k))) (c.lists (name i) (name k)))
            (same_names i a is.1)
            ∙ ap (λ (b1 : Bool). if_same b1 xs (c.lists (name i) (name k))) (same_names k b ks.1)
            ∙ ap (map parcel_of) (sym set)
            ∙ ap (λ x. map parcel_of (on_way (with_list w.messages a b ys) x b)) (sym is.1)
            ∙ ap (λ x. map parcel_of (on_way (with_list w.messages a b ys) i x)) (sym ks.1)
        go (inl is) (inr ks) =
            ap (λ (b1 : Bool). if_same b1 (if_same (bytes_eq (name k) (name b)) xs (c.lists (name i) (name k))) (c.lists (name i) (name k)))
            (same_names i a is.1)
            ∙ ap (λ (b1 : Bool). if_same b1 xs (c.lists (name i) (name k))) (other_names k b hk hb ks.1)
            ∙ lists i k hi hk
            ∙ ap (map parcel_of) (sym (still_to w.messages i k a b ys ks.1))
        go (inr is) ks =
            ap (λ (b1 : Bool). if_same b1 (if_same (bytes_eq (name k) (name b)) xs (c.lists (name i) (name k))) (c.lists (name i) (name k)))
            (other_names i a hi ha is.1)
            ∙ lists i k hi hk
            ∙ ap (map parcel_of) (sym (still_by w.messages i k a b ys is.1))

  -- ---- a message is sent

  module _ (w : World) (g : Good w) (r : ℕ) (within : r < length names) (rs : List Role) (long : length rs ≡ length w.roles)
      (peer : Name) (message : Sent) where
    named_so : (k : ℕ) → other_role r (position (bytes_eq peer) w.messages.roles) ≡ Some k → (name k ≡ peer) × (k < length names)
    named_so k other =
        let place = (other_is r (position (bytes_eq peer) w.messages.roles) k other).is in (
          ap (λ (l : List Name). or_nothing (slice_get l k)) (sym g.named) ∙ ap or_nothing (stands_at w.messages.roles peer k place),
          subst (λ (l : List Name). k < length l) g.named (named_within w.messages.roles peer k place),
        )

    abbrev kind : Payload
    kind = kind_of message.payload

    module _ (to : ℕ) (other : other_role r (position (bytes_eq peer) w.messages.roles) ≡ Some to) where
      abbrev sent_event : Event
      sent_event = seen.Send peer message.label message.payload

      abbrev sent_list : List Sent
      sent_list = on_way w.messages r to ++ message ∷ []

      abbrev behind_sent : Messages
      behind_sent = sending w.messages r to message

      abbrev sent_deed : Deed
      sent_deed = act.Moved (Send peer message.label kind)

      to_within : to < length names
      to_within = (named_so to other).1

      set_sent : on_way (with_list w.messages r to sent_list) r to ≡ sent_list
      set_sent = set_square_way w.messages r to sent_list g.square
          (subst (λ (l : List Name). r < length l) (sym g.named) within) (subst (λ (l : List Name). to < length l) (sym g.named) to_within)

      sent_stands : (exact : Bool) (walks : Walks exact (behind w r rs behind_sent (Some sent_event))) →
          LastDeed exact (protocols (name r)) (deeds (events_of r w.events)) sent_deed (walks.ends r) →
          Stands exact (behind w r rs behind_sent (Some sent_event)) walks.ends
      sent_stands exact walks (but_looked not_exact pk lk h x) = absurd (let f : sent_deed ≡ Looked pk lk = h in cc)
      sent_stands exact walks (did at a u x did_step) =
          let s = g.stands exact (before w g r within rs long sent_event sent_deed refl exact behind_sent walks at x) in
          let c = s.system in
          let stood = stood_at w g r within rs long sent_event sent_deed refl exact behind_sent walks at c s.at in
          let is : a ≡ Moves (Send (name to) message.label kind) =
          moved_is a (Send peer message.label kind) u ∙ ap (λ q. Moves (Send q message.label kind)) (sym (named_so to other).0) in
          let st : Step (c.at (name r)) (Moves (Send (name to) message.label kind)) (walks.ends r) =
          subst (λ p. Step p (Moves (Send (name to) message.label kind)) (walks.ends r)) (sym stood)
          (subst (λ b. Step at b (walks.ends r)) is did_step) in
          record {
            system = record {
              at = put (name r) (walks.ends r) c.at;
              lists = put_list (name r) (name to) (c.lists (name r) (name to) ++ parcel message.label kind ∷ []) c.lists;
            };
            reached = after s.reached (listed r within) (systems.sends st);
            at = moved_at w g r within rs long sent_event sent_deed refl exact behind_sent walks at c s.at;
            lists = λ i k hi hk.
                ap (λ xs. put_list (name r) (name to) xs c.lists (name i) (name k))
                (ap (λ xs. xs ++ parcel message.label kind ∷ []) (s.lists r to within to_within)
                ∙ sym (map-append parcel_of (on_way w.messages r to) (message ∷ [])))
                ∙ put_way w g r within rs long sent_event sent_deed refl c r to sent_list within to_within s.lists set_sent i k hi hk;
            said = said_at w g r within rs long sent_event sent_deed refl (acts_on s.reached) (Moves (Send (name to) message.label kind))
                (ap (λ q. Send q message.label kind ∷ []) (named_so to other).0) s.said;
            did = λ is_exact. did_at w g r within rs long sent_event sent_deed refl (acts_on s.reached)
                (Moves (Send (name to) message.label kind)) (ap (λ q. act.Moved (Send q message.label kind)) (named_so to other).0)
                (s.did is_exact);
          }

      sent_looked : Looked_is (behind w r rs behind_sent (Some sent_event))
      sent_looked i h ds p l f = go (eqb_tells i r)
        where
          grown : (hd : Heads w i p l) → Tells hd.from r → Tells i to → Heads (behind w r rs behind_sent (Some sent_event)) i p l
          grown hd (inl fs) (inl ts) = record {
            from = hd.from;
            within = hd.within;
            named = hd.named;
            message = hd.message;
            more = hd.more ++ message ∷ [];
            is =
                ap (λ x. on_way behind_sent x i) fs.1 ∙ ap (λ x. on_way behind_sent r x) ts.1 ∙ set_sent
                ∙ ap (λ xs. xs ++ message ∷ [])
                (ap (λ x. on_way w.messages r x) (sym ts.1) ∙ ap (λ x. on_way w.messages x i) (sym fs.1) ∙ hd.is);
            labelled = hd.labelled;
          }
          grown hd (inl fs) (inr ts) = record {
            from = hd.from;
            within = hd.within;
            named = hd.named;
            message = hd.message;
            more = hd.more;
            is = still_to w.messages hd.from i r to sent_list ts.1 ∙ hd.is;
            labelled = hd.labelled;
          }
          grown hd (inr fs) ts = record {
            from = hd.from;
            within = hd.within;
            named = hd.named;
            message = hd.message;
            more = hd.more;
            is = still_by w.messages hd.from i r to sent_list fs.1 ∙ hd.is;
            labelled = hd.labelled;
          }

          go : Tells i r → Heads (behind w r rs behind_sent (Some sent_event)) i p l
          go (inl is) =
              let e : deeds (events_of r w.events) ++ sent_deed ∷ [] ≡ ds ++ Looked p l ∷ [] =
              sym (mine w g r within rs long sent_event sent_deed refl)
              ∙ ap (λ x. deeds (events_of x (w.events ++ of_role r sent_event ∷ []))) (sym is.1) ∙ f in
              let e' = (same_end (deeds (events_of r w.events)) ds sent_deed (Looked p l) e).last in
              absurd (cc)
          go (inr is) =
              let hd = g.looked i h ds p l (sym (theirs w g r within rs long sent_event sent_deed refl i is.1) ∙ f) in
              grown hd (eqb_tells hd.from r) (eqb_tells i to)

      sent_good : Good (behind w r rs behind_sent (Some sent_event))
      sent_good = record {
        named = g.named;
        as_many = long ∙ g.as_many;
        square = set_square w.messages r to sent_list g.square;
        stands = λ exact walks. sent_stands exact walks
            (last_deed (subst (λ ds. Walked exact (protocols (name r)) ds (walks.ends r)) (mine w g r within rs long sent_event sent_deed refl)
            (walks.walks r within)));
        looked = sent_looked;
      }

    -- ---- a message is taken, or looked at

    module _ (from : ℕ) (other : other_role r (position (bytes_eq peer) w.messages.roles) ≡ Some from) (rest : List Sent)
        (way : on_way w.messages from r ≡ message ∷ rest) where
      from_within : from < length names
      from_within = (named_so from other).1

      in_front : (c : System) →
          ((i k : ℕ) → i < length names → k < length names → c.lists (name i) (name k) ≡ map parcel_of (on_way w.messages i k)) →
          c.lists (name from) (name r) ≡ parcel message.label kind ∷ map parcel_of rest
      in_front c lists = lists from r from_within within ∙ ap (map parcel_of) way

      abbrev taken_event : Event
      taken_event = seen.Take peer message.label message.payload

      abbrev taken_deed : Deed
      taken_deed = act.Moved (Take peer message.label kind)

      abbrev behind_taken : Messages
      behind_taken = with_list w.messages from r rest

      taken_stands : (exact : Bool) (walks : Walks exact (behind w r rs behind_taken (Some taken_event))) →
          LastDeed exact (protocols (name r)) (deeds (events_of r w.events)) taken_deed (walks.ends r) →
          Stands exact (behind w r rs behind_taken (Some taken_event)) walks.ends
      taken_stands exact walks (but_looked not_exact pk lk h x) = absurd (let f : taken_deed ≡ Looked pk lk = h in cc)
      taken_stands exact walks (did at a u x did_step) =
          let s = g.stands exact (before w g r within rs long taken_event taken_deed refl exact behind_taken walks at x) in
          let c = s.system in
          let stood = stood_at w g r within rs long taken_event taken_deed refl exact behind_taken walks at c s.at in
          let is : a ≡ Moves (Take (name from) message.label kind) =
          moved_is a (Take peer message.label kind) u ∙ ap (λ q. Moves (Take q message.label kind)) (sym (named_so from other).0) in
          let st : Step (c.at (name r)) (Moves (Take (name from) message.label kind)) (walks.ends r) =
          subst (λ p. Step p (Moves (Take (name from) message.label kind)) (walks.ends r)) (sym stood)
          (subst (λ b. Step at b (walks.ends r)) is did_step) in
          record {
            system = record {
              at = put (name r) (walks.ends r) c.at;
              lists = put_list (name from) (name r) (map parcel_of rest) c.lists;
            };
            reached = after s.reached (listed r within) (systems.takes st (in_front c s.lists));
            at = moved_at w g r within rs long taken_event taken_deed refl exact behind_taken walks at c s.at;
            lists = put_way w g r within rs long taken_event taken_deed refl c from r rest from_within within s.lists
                (set_some w.messages from r rest message rest way);
            said = said_at w g r within rs long taken_event taken_deed refl (acts_on s.reached)
                (Moves (Take (name from) message.label kind)) (ap (λ q. Take q message.label kind ∷ []) (named_so from other).0) s.said;
            did = λ is_exact. did_at w g r within rs long taken_event taken_deed refl (acts_on s.reached)
                (Moves (Take (name from) message.label kind)) (ap (λ q. act.Moved (Take q message.label kind)) (named_so from other).0)
                (s.did is_exact);
          }

      taken_looked : Looked_is (behind w r rs behind_taken (Some taken_event))
      taken_looked i h ds p l f = go (eqb_tells i r)
        where
          go : Tells i r → Heads (behind w r rs behind_taken (Some taken_event)) i p l
          go (inl is) =
              let e : deeds (events_of r w.events) ++ taken_deed ∷ [] ≡ ds ++ Looked p l ∷ [] =
              sym (mine w g r within rs long taken_event taken_deed refl)
              ∙ ap (λ x. deeds (events_of x (w.events ++ of_role r taken_event ∷ []))) (sym is.1) ∙ f in
              let e' = (same_end (deeds (events_of r w.events)) ds taken_deed (Looked p l) e).last in
              absurd (cc)
          go (inr is) =
              let hd = g.looked i h ds p l (sym (theirs w g r within rs long taken_event taken_deed refl i is.1) ∙ f) in
              record {
                from = hd.from;
                within = hd.within;
                named = hd.named;
                message = hd.message;
                more = hd.more;
                is = still_to w.messages hd.from i from r rest is.1 ∙ hd.is;
                labelled = hd.labelled;
              }

      taken_good : Good (behind w r rs behind_taken (Some taken_event))
      taken_good = record {
        named = g.named;
        as_many = long ∙ g.as_many;
        square = set_square w.messages from r rest g.square;
        stands = λ exact walks. taken_stands exact walks
            (last_deed (subst (λ ds. Walked exact (protocols (name r)) ds (walks.ends r)) (mine w g r within rs long taken_event taken_deed refl)
            (walks.walks r within)));
        looked = taken_looked;
      }

      abbrev look_event : Event
      look_event = seen.Look peer message.label

      abbrev look_deed : Deed
      look_deed = Looked peer message.label

      look_stands : (exact : Bool) (walks : Walks exact (behind w r rs w.messages (Some look_event))) →
          LastDeed exact (protocols (name r)) (deeds (events_of r w.events)) look_deed (walks.ends r) →
          Stands exact (behind w r rs w.messages (Some look_event)) walks.ends
      look_stands exact walks (but_looked not_exact pk lk h x) =
          let s = g.stands exact (before w g r within rs long look_event look_deed refl exact w.messages walks (walks.ends r) x) in
          record {
            system = s.system;
            reached = s.reached;
            at = λ i h. s.at i h ∙ either i (eqb_tells i r);
            lists = s.lists;
            said = λ i h. s.said i h ∙ said_no_more w g r within rs long look_event look_deed refl refl i h;
            did = λ is_exact. absurd (true≢false (sym is_exact ∙ not_exact));
          }
        where
          either : (i : ℕ) → Tells i r → (if i == r then walks.ends r else walks.ends i) ≡ walks.ends i
          either i (inl is) = ap (λ (b : Bool). if b then walks.ends r else walks.ends i) is.0 ∙ ap walks.ends (sym is.1)
          either i (inr is) = ap (λ (b : Bool). if b then walks.ends r else walks.ends i) is.0
      look_stands exact walks (did at a u x did_step) =
          let s = g.stands exact (before w g r within rs long look_event look_deed refl exact w.messages walks at x) in
          let c = s.system in
          let stood = stood_at w g r within rs long look_event look_deed refl exact w.messages walks at c s.at in
          let n = looked_is a peer message.label u in
          let is : a ≡ Looks n.0 (name from) message.label = n.1 ∙ ap (λ q. Looks n.0 q message.label) (sym (named_so from other).0) in
          let st : Step (c.at (name r)) (Looks n.0 (name from) message.label) (walks.ends r) =
          subst (λ p. Step p (Looks n.0 (name from) message.label) (walks.ends r)) (sym stood)
          (subst (λ b. Step at b (walks.ends r)) is did_step) in
          record {
            system = record { at = put (name r) (walks.ends r) c.at; lists = c.lists };
            reached = after s.reached (listed r within) (systems.looks st (in_front c s.lists));
            at = moved_at w g r within rs long look_event look_deed refl exact w.messages walks at c s.at;
            lists = s.lists;
            said = said_at w g r within rs long look_event look_deed refl (acts_on s.reached) (Looks n.0 (name from) message.label) refl
                s.said;
            did = λ is_exact. did_at w g r within rs long look_event look_deed refl (acts_on s.reached)
                (Looks n.0 (name from) message.label) (ap (λ q. Looked q message.label) (named_so from other).0) (s.did is_exact);
          }

      look_looked : Looked_is (behind w r rs w.messages (Some look_event))
      look_looked i h ds p l f = go (eqb_tells i r)
        where
          peers : {p q l k : Name} → Looked p l ≡ Looked q k → p ≡ q
          peers e = cc

          labels : {p q l k : Name} → Looked p l ≡ Looked q k → l ≡ k
          labels e = cc

          go : Tells i r → Heads (behind w r rs w.messages (Some look_event)) i p l
          go (inl is) =
              let e : deeds (events_of r w.events) ++ look_deed ∷ [] ≡ ds ++ Looked p l ∷ [] =
              sym (mine w g r within rs long look_event look_deed refl)
              ∙ ap (λ x. deeds (events_of x (w.events ++ of_role r look_event ∷ []))) (sym is.1) ∙ f in
              let last = (same_end (deeds (events_of r w.events)) ds look_deed (Looked p l) e).last in
              record {
                from = from;
                within = from_within;
                named = (named_so from other).0 ∙ peers last;
                message = message;
                more = rest;
                is = ap (λ x. on_way w.messages from x) is.1 ∙ way;
                labelled = labels last;
              }
          go (inr is) =
              let hd = g.looked i h ds p l (sym (theirs w g r within rs long look_event look_deed refl i is.1) ∙ f) in
              record {
                from = hd.from;
                within = hd.within;
                named = hd.named;
                message = hd.message;
                more = hd.more;
                is = hd.is;
                labelled = hd.labelled;
              }

      look_good : Good (behind w r rs w.messages (Some look_event))
      look_good = record {
        named = g.named;
        as_many = long ∙ g.as_many;
        square = g.square;
        stands = λ exact walks. look_stands exact walks
            (last_deed (subst (λ ds. Walked exact (protocols (name r)) ds (walks.ends r)) (mine w g r within rs long look_event look_deed refl)
            (walks.walks r within)));
        looked = look_looked;
      }

  -- ---- turns

  module _ (p : Program) (w : World) (g : Good w) (r : ℕ) (within : r < length names) (count : ℕ) where
    abbrev set_to : State → List Role
    set_to s = slice_set w.roles r (record { state = s; count = suc count })

    long_so : (s : State) → length (set_to s) ≡ length w.roles
    long_so s = set_long w.roles r (record { state = s; count = suc count })

    ended_good : (s : State) → Good (record w { roles = set_to s })
    ended_good s = same_deeds w (set_to s) w.events (long_so s) (λ i. refl) g

    quiet_good : (m : Machine) (e : Option Event) → IsQuiet e → Good (behind w r (set_to (Runs m)) w.messages e)
    quiet_good m e h = same_deeds w (set_to (Runs m)) (w.events ++ map (of_role r) (noted e)) (long_so (Runs m))
        (λ i. go i (eqb_tells i r)) g
      where
        go : (i : ℕ) → Tells i r → deeds (events_of i (w.events ++ map (of_role r) (noted e))) ≡ deeds (events_of i w.events)
        go i (inl is) =
            subst (λ k. deeds (events_of k (w.events ++ map (of_role r) (noted e))) ≡ deeds (events_of k w.events)) (sym is.1)
            (ap deeds (own_more r w.events (noted e)) ∙ quiet_deeds e h (events_of r w.events))
        go i (inr is) = ap deeds (others_more i r w.events (noted e) is.1)

    answer_good : (from : ℕ) (peer : Name) (message : Sent) (rest : List Sent) →
        other_role r (position (bytes_eq peer) w.messages.roles) ≡ Some from → on_way w.messages from r ≡ message ∷ rest →
        (a : Answer) → Good (stepped w r count (answers w.messages r from peer message rest a))
    answer_good from peer message rest other way (LooksAt m) =
        look_good w g r within (set_to (Runs m)) (long_so (Runs m)) peer message from other rest way
    answer_good from peer message rest other way (Takes m) =
        taken_good w g r within (set_to (Runs m)) (long_so (Runs m)) peer message from other rest way
    answer_good from peer message rest other way Refuses = ended_good (Over _)

    receive_good : (from : ℕ) (peer : Name) (a : Sent → Answer) → other_role r (position (bytes_eq peer) w.messages.roles) ≡ Some from →
        (list : List Sent) → on_way w.messages from r ≡ list → Good (stepped w r count (receives w.messages r from peer a list))
    receive_good from peer a other [] way = g
    receive_good from peer a other (message ∷ rest) way = answer_good from peer message rest other way (a message)

    done_good : (d : Doing) → IsDoing w.messages.roles r d → Good (stepped w r count (done w.messages r d))
    done_good (Goes m event) right = quiet_good m event right
    done_good (Ends ending) right = ended_good (Over ending)
    done_good (Sends m to peer message) right = sent_good w g r within (set_to (Runs m)) (long_so (Runs m)) peer message to right
    done_good (Receives from peer a) right = receive_good from peer a right (on_way w.messages from r) refl

    state_good : (s : State) → Good (turn_in p w r count s)
    state_good (Over ending) = g
    state_good (Runs m) =
        let one = does_one w.messages.roles r p m in
        subst (λ s. Good (stepped w r count s)) (sym (one.is w.messages refl)) (done_good one.doing one.right)

  pub turn_good : (p : Program) (w : World) → Good w → (r : ℕ) → Good (turn p w r)
  turn_good p w g r = go (slice_get w.roles r) refl
    where
      go : (o : Option Role) → slice_get w.roles r ≡ o → Good (turn_at p w r o)
      go None e = g
      go (Some role) e =
          state_good p w g r (subst (λ n. r < n) g.as_many (Rattle.vm_world_law.proofs.Lists.got_within w.roles r role e)) role.count
          role.state

  pub turns_good : (p : Program) (w : World) → Good w → (taken : List ℕ) → Good (turns p w taken)
  turns_good p w g [] = g
  turns_good p w g (r ∷ taken) = turns_good p (turn p w r) (turn_good p w g r) taken

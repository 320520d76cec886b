-- The law: the system that a world is isn't stuck.
use Rattle.std.proofs.Common.{◌≡◌, ◌≢◌, ◌⊎◌, inl, inr, ⊎_elim, ℕ, suc, ◌+◌, ◌<◌, true, false, List, [], ◌∷◌, ◌++◌}
use Rattle.std.proofs.Common.{map, length, Some, None, refl, sym, ap, ◌∙◌, subst, arith, append-nil}
use Rattle.std.specs.Prelude.{◌==◌, slice_get, Contains}
use Rattle.std.proofs.lemmas.List.Elements.{Contains-append_left}
use Rattle.mg_text.specs.declared.event.Event.TheVariants as seen
use Rattle.std.specs.List.{IsDistinct}
use Rattle.std.specs.Str.{bytes_eq}
use Rattle.std.proofs.lemmas.Bool.Decides.{eqb_tells}
use Rattle.mg_text.specs.Call.{Name}
use Rattle.mg_text.specs.declared.event.Event.{Event}
use Rattle.mg_text.specs.declared.event.Sent.{Sent}
use Rattle.mg_text.specs.declared.event.Ending.{Ending}
use Rattle.mg_text.specs.declared.event.Ending.TheVariants as endings
use Rattle.scr_tree.specs.declared.syntax.Payload.{Payload}
use Rattle.scr_tree.specs.Tree.{LocalTree}
use Rattle.scr_tree.specs.Valid.{IsValid as LocalIsValid}
use Rattle.scr_tree.specs.Meaning.{first_of, protocol_of}
use Rattle.scr_tree.specs.Protocol.{Take, Protocol}
use Rattle.scr_tree.specs.Steps.{Act, Moves, Looks, Position, whole, stays}
use Rattle.scr_tree.specs.Traces.{Complete}
use Rattle.scr_global.specs.Alone.{Step, Run, Finished}
use Rattle.scr_global.specs.Global.{Passing, Global}
use Rattle.scr_global.specs.Points as conversations
use Rattle.scr_global.specs.Systems.{Parcel, System, Moved, Reaches, initial, waits_for}
use Rattle.scr_global.specs.Laws as global_law
use Rattle.scr_global.specs.Laws.{AreProjections}
use Rattle.scr_global.proofs.Stuck.{messages_are_taken, none_is_stuck}
use Rattle.fit_law.specs.Next.{Alike}
use Rattle.fit_law.proofs.Next.{next_is_alike, finished_stops}
use Rattle.fit_law.proofs.Inside.{Says, IsPeer, says_projected, peer_at}
use Rattle.ts_tree.specs.Typestate.{Typestate}
use Rattle.stm_api.specs.Doings.{Doing, Passes}
use Rattle.stm_acts.specs.Acts.{unnumbered, kind_of, acts}
use Rattle.stm_acts.specs.Played.{role_class, Refuses}
use Rattle.jv_values.specs.Alike.{Prefix}
use Rattle.jv_values.specs.Values.{Inputs, Ended, Finish, Done, Mismatch, NoPeer, Wait}
use Rattle.jv_values.specs.Messages.{messages_of, taken}
use Rattle.jv_values.specs.Seen.{IsMade, told, open_told}
use Rattle.jv_meaning.specs.Program.{Sources}
use Rattle.jv_meaning.specs.Meaning.{mean}
use Rattle.jv_meaning.specs.Calls.{calls}
use Rattle.vm_model.specs.Program.{Program}
use Rattle.vm_model.specs.Messages.{Messages, or_nothing, on_way}
use Rattle.vm_model.specs.Machine.{Machine, Waits}
use Rattle.vm_model.specs.Step.{step}
use Rattle.vm_world_law.specs.declared.role.RoleMain.{RoleMain}
use Rattle.vm_world_law.specs.declared.stand.Stand.{Stand}
use Rattle.vm_world_law.specs.declared.stand.Stand.TheVariants as stands
use Rattle.vm_world_law.specs.Meant.{finish_of, Means}
use Rattle.vm_world_law.specs.World.{State, Runs, Over, Role, World, turns, IsBegun, IsFresh, events_of, name_of, sent, took, taken_from}
use Rattle.vm_world_law.specs.World.{waits_by, IsStill, Rests}
use Rattle.vm_world_law.specs.Turns.{stand_of, waiting_for}
use Rattle.vm_world_law.specs.Worlds.{inputs_of, Shows, IsMeant}
use Rattle.vm_world_law.specs.Laws.{Delivers}
use Rattle.vm_world_law.proofs.Begun.{begun_is_fresh}
use Rattle.vm_world_law.proofs.Inputs.{its_inputs}
use Rattle.vm_world_law.proofs.Alone.{kept_by}
use Rattle.vm_world_law.proofs.Lists.{some_is, got_within}
use Rattle.stm_acts.specs.Ends.{deeds, peer_in, IsOther, IsCut, IsBusy, Halts, waits, misses, mismatches, StandsAt, EndsInCall, cut}
use Rattle.stm_acts.specs.Ends.{halts, refuses, IsDoneByOne, not_yet, by_one}
use Rattle.scr_faithful.specs.Guarded.{IsGuarded}
use Rattle.scr_faithful.specs.Faithful.{CanEnd, CanDoRest, acts_on}
use Rattle.scr_faithful.proofs.Faithful.{complete_is_conversation, each_has_done_its_part}
use Rattle.scr_faithful.specs.Heard.{NoneIsForgotten, CanDoMore}
use Rattle.scr_faithful.proofs.Heard.{each_has_done_a_part}
use Rattle.fit_law.specs.Conversed.{TurnsGoOnInConversation, passed, parcel_of, RestIsConversation, TurnsAreInConversation}
use Rattle.fit_law.specs.Conversed.{IsConfiguration, IsFinished, TurnsAreConfigurations, RestIsFinished, IsPartOfConversation, IsPartOfGoing}
use Rattle.fit_law.specs.Fit.{IsHad, KeepsTo, IsCast, AreMeant, IsWell, IsOfOne, ActsByOne, IsComplete, NoneGetsStuck}
use Rattle.fit_law.specs.Fit.{TurnsAreOfOne}
use Rattle.fit_law.proofs.Deeds.{deeds-append, Walked, walked, but_look}
use Rattle.fit_law.proofs.Worlds.{Stands, Good, fresh_is_good, turns_good}
use Rattle.fit_law.proofs.Objects.{label_known, runs_so, exactly_so, Ahead, ahead, refusal, refused_ahead, completes, at_end}
use Rattle.fit_law.proofs.Moves.{moved_step, moved_finds, alike_waits, alike_take, alike_look, map_nothing, heads, labels_are, taken_long}
use Rattle.fit_law.proofs.Wanted.{no_acts, nothing_first, take_act, look_act, act_wants, peer_same, found_taken, found_looked, wait_is, cut_other}
use Rattle.fit_law.proofs.Wanted.{not_busy, of_one}
use Rattle.fit_law.proofs.Moves.{got_behind, Emptied, step_waits, Chosen, choose, main_at, name_at}

module _ (j : Sources) (typestates : List Typestate) (roles : List Name) (g : Global) (locals : Name → LocalTree)
    (mains : List RoleMain) (cast : IsCast j typestates roles g locals mains) (p : Program) (first : World)
    (begun : IsBegun p mains first) (meant : (taken : List ℕ) → AreMeant j mains p (turns p first taken)) where
  are : AreProjections roles g locals
  are = cast.locals_are.projections

  abbrev names : List Name
  names = map (λ (m : RoleMain). m.role) mains

  abbrev protocols : Name → Protocol
  protocols me = first_of (locals me)

  abbrev name : ℕ → Name
  name i = or_nothing (slice_get names i)

  fresh : IsFresh first
  fresh = (begun_is_fresh p mains first begun).0

  name_is : (i : ℕ) (main : RoleMain) → slice_get mains i ≡ Some main → name i ≡ main.role
  name_is i main at = ap or_nothing (name_at mains i main at)

  listed : (i : ℕ) → i < length names → Contains roles (name i)
  listed i h = let m = main_at mains i h in subst (Contains roles) (sym (ap or_nothing m.named)) (cast.known i m.main m.at)

  -- another role of the protocol is a role of the world
  record Numbered (me : Name) : Type 0 where
    number : ℕ
    within : number < length names
    there : slice_get names number ≡ Some me

  numbered : (me : Name) → Contains roles me → Numbered me
  numbered me l =
      let k = cast.played me l in
      let at : slice_get names k.0 ≡ Some me = name_at mains k.0 k.1 k.2 ∙ ap Some k.3 in
      record { number = k.0; within = got_within names k.0 me at; there = at }

  module _ (so_far : List ℕ) where
    abbrev w : World
    w = turns p first so_far

    good : Good roles protocols names begun.distinct listed w
    good = turns_good roles protocols names begun.distinct listed p first
        (fresh_is_good roles protocols names begun.distinct listed first fresh (ap (λ (q : Messages). q.roles) begun.messages)) so_far

    delivers : Delivers w
    delivers = (kept_by p first fresh so_far).delivers

    abbrev Walk : ℕ → Position → Type 0
    Walk i end = Walked false (protocols (name i)) (deeds (events_of i w.events)) end

    -- a run of the role's protocol that has just its deeds
    abbrev Exactly : ℕ → Position → Type 0
    Exactly i end = (all : List Act) × Run (whole (protocols (name i))) all end × (deeds (events_of i w.events) ≡ map unnumbered all)

    as_walk : (i : ℕ) {end : Position} → Exactly i end → Walked true (protocols (name i)) (deeds (events_of i w.events)) end
    as_walk i x = walked x.0 x.1 x.2

    -- ---- one role

    module _ (r : ℕ) (main : RoleMain) (at_main : slice_get mains r ≡ Some main) where
      abbrev R : Name
      R = main.role

      abbrev L : LocalTree
      L = locals main.role

      l : Contains roles R
      l = cast.known r main at_main

      valid : ∥ LocalIsValid L ∥₁
      valid = cast.locals_are.valid R l

      had : IsHad j typestates L
      had = cast.had R l

      abbrev P : Name → Type 0
      P = IsPeer roles R

      says : Says P (first_of L)
      says = says_projected roles R (are.projected R l) are.valid.between tt

      within : r < length names
      within = got_within names r R (name_at mains r main at_main)

      abbrev role : Role
      role = (meant so_far r main at_main).0

      at_role : slice_get w.roles r ≡ Some role
      at_role = (meant so_far r main at_main).1

      is_meant : IsMeant p (mean j main.class) w r role
      is_meant = (meant so_far r main at_main).2

      abbrev es : List Event
      es = events_of r w.events

      abbrev inputs : Inputs
      inputs = inputs_of w r

      abbrev run : Ended
      run = mean j main.class inputs (suc role.count)

      keeps : KeepsTo j typestates run
      keeps = cast.keeps r main at_main inputs (suc role.count)

      done_so : IsDoneByOne j (roles ++ cast.idle) L.me (protocol_of L) inputs run
      done_so = cast.by_one r main at_main inputs (suc role.count)

      shown : Prefix es run.events
      shown = go (stand_of p w r role.state) is_meant.shows
        where
          go : (s : Stand) → Shows (mean j main.class inputs) role.count es s → Prefix es run.events
          go (stands.Ended ending) h = record { later = []; is = ap (λ (x : Ended). x.events) h.2 ∙ sym (append-nil es) }
          go (stands.Waits peer) h = record { later = []; is = ap (λ (x : Ended). x.events) h ∙ sym (append-nil es) }
          go stands.Bound h = h

      -- a walk to somewhere
      somewhere : (end : Position) × Walk r end
      somewhere = go done_so
        where
          as_named : {end : Position} → Walked false (first_of L) (deeds es) end → Walk r end
          as_named {end} x = subst (λ n. Walked false (protocols n) (deeds es) end) (sym (name_is r main at_main)) x

          go : IsDoneByOne j (roles ++ cast.idle) L.me (protocol_of L) inputs run → (end : Position) × Walk r end
          go (not_yet nobody none busy) = (
            whole (first_of L),
            as_named (walked [] stays (nothing_first (deeds es) (deeds shown.later)
                (sym (deeds-append es shown.later) ∙ ap deeds (sym shown.is) ∙ none))),
          )
          go (by_one o made alone acting ends) =
              let x = runs_so j typestates L valid had P says main.class inputs (suc role.count) keeps o made es shown.later shown.is in
              (x.0, as_named (subst (λ ds. Walked false (first_of L) ds x.0) (sym (acting es shown.later shown.is)) x.1))

      -- one object has done all so far
      acts_so_far : ActsByOne roles es
      acts_so_far = go done_so
        where
          made_then : (other : ℕ) (class : Name) → IsMade es other class → IsMade run.events other class
          made_then other class made =
              subst (λ x. Contains x (seen.Made other class)) (sym shown.is) (Contains-append_left es shown.later (seen.Made other class) made)

          go : IsDoneByOne j (roles ++ cast.idle) L.me (protocol_of L) inputs run → ActsByOne roles es
          go (not_yet nobody none busy) =
              let nothing : deeds es ≡ [] = nothing_first (deeds es) (deeds shown.later)
              (sym (deeds-append es shown.later) ∙ ap deeds (sym shown.is) ∙ none) in
              record {
                object = 0;
                only = λ you other has made.
                    absurd (nobody you other (Contains-append_left roles cast.idle you has) (made_then other (role_class you) made));
                acting = nothing ∙ sym (no_acts 0 false es nothing);
              }
          go (by_one o made alone acting ends) = record {
            object = o;
            only = λ you other has made_so.
                alone you other (Contains-append_left roles cast.idle you has) (made_then other (role_class you) made_so);
            acting = acting es shown.later shown.is;
          }

    -- the walk of each role of a number
    anywhere : (i : ℕ) → i < length names → (end : Position) × Walk i end
    anywhere i h = let m = main_at mains i h in somewhere i m.main m.at

    -- ---- a role that ended badly

    module _ (r : ℕ) (main : RoleMain) (at_main : slice_get mains r ≡ Some main) where
      abbrev me : Name
      me = main.role

      mine : Contains roles me
      mine = l r main at_main

      -- with this walk of the role the world is a system
      record World_is (end : Position) : Type 0 where
        system : System
        reached : Reaches roles (initial protocols) system
        at : system.at me ≡ end
        lists : (i k : ℕ) → i < length names → k < length names → system.lists (name i) (name k) ≡ map parcel_of (on_way w.messages i k)

      abbrev W_of : (end : Position) → (i : ℕ) → Position → Type 0
      W_of end i e = Walk i e × (i ≡ r → e ≡ end)

      world_is : (end : Position) → Walk r end → World_is end
      world_is end x =
          let s = good.stands false (record { ends = chosen.ends; walks = λ i h. (chosen.are i h).0 }) in
          record {
            system = s.system;
            reached = s.reached;
            at = ap (λ n. s.system.at n) (sym (name_is r main at_main)) ∙ s.at r (within r main at_main) ∙
                (chosen.are r (within r main at_main)).1 refl;
            lists = s.lists;
          }
        where
          pick : (i : ℕ) → i < length names → ((i == r) ≡ true) × (i ≡ r) ⊎ ((i == r) ≡ false) × (i ≢ r) → (e : Position) × W_of end i e
          pick i h (inl is) = (end, (subst (λ k. Walk k end) (sym is.1) x, λ f. refl))
          pick i h (inr is) = let a = anywhere i h in (a.0, (a.1, λ f. absurd (is.1 f)))

          chosen : Chosen (length names) (W_of end)
          chosen = choose (length names) (W_of end) (λ i h. pick i h (eqb_tells i r))

      abbrev E : List Event
      E = (run r main at_main).events

      -- where a next act of the role wants a message of a peer whose list begins so, an act that is alike finds it
      record Finds (at : Position) (act : Act) (peer : Name) (x : Sent) : Type 0 where
        other_act : Act
        to : Position
        step : Step at other_act to
        alike : Alike act other_act
        label : Name
        kind : Payload
        is_label : x.label ≡ label
        is_kind : kind_of x.payload ≡ kind
        is : (other_act ≡ Moves (Take peer label kind)) ⊎ ((n : ℕ) × (other_act ≡ Looks n peer label))

      finds : (at : Position) → Walk r at → (act : Act) (to : Position) → Step at act to → (peer : Name) → waits_for act ≡ Some peer →
          (from : ℕ) → from < length names → name from ≡ peer → (x : Sent) (more : List Sent) → on_way w.messages from r ≡ x ∷ more →
          Finds at act peer x
      finds at walk act to step peer wants from lt named x more way =
          let s = world_is at walk in
          let c = s.system in
          let here : c.lists peer me ≡ parcel_of x ∷ map parcel_of more =
          ap (λ n. c.lists n me) (sym named) ∙ ap (λ n. c.lists (name from) n) (sym (name_is r main at_main))
          ∙ s.lists from r lt (within r main at_main) ∙ ap (map parcel_of) way in
          let st : Step (c.at me) act to = subst (λ q. Step q act to) (sym s.at) step in
          let t = messages_are_taken roles g locals are c s.reached me peer mine act to st wants
          (λ e. some_there (parcel_of x) (map parcel_of more) (sym here ∙ e)) in
          let ms = moved_step t.3 in
          let f = moved_finds t.3 t.2 in
          let same_parcel = labels_are (heads (sym here ∙ f.there)) in
          record {
            other_act = t.0;
            to = ms.0;
            step = subst (λ q. Step q t.0 ms.0) s.at ms.1;
            alike = next_is_alike roles g locals are c s.reached me mine act t.0 to ms.0 st ms.1;
            label = f.label;
            kind = f.kind;
            is_label = same_parcel.0;
            is_kind = same_parcel.1;
            is = f.is;
          }
        where
          some_there : (y : Parcel) (ys : List Parcel) → y ∷ ys ≡ [] → ⊥
          some_there y ys e = cc

      -- where the role is at the end of what is meant
      module _ (settled : E ≡ es r main at_main) (o : ℕ) (made : IsMade E o (role_class (L r main at_main).me))
          (only : (so : List Event) → Prefix so E → deeds so ≡ acts o so) where
        all_of_it : Prefix E E
        all_of_it = record { later = []; is = sym (append-nil E) }

        deeds_are : deeds (es r main at_main) ≡ acts o E
        deeds_are = ap deeds (sym settled) ∙ only E all_of_it

        as_named : {end : Position} → Walked false (first_of (L r main at_main)) (acts o E) end → Walk r end
        as_named {end} x =
            subst (λ n. Walked false (protocols n) (deeds (es r main at_main)) end) (sym (name_is r main at_main))
            (subst (λ ds. Walked false (first_of (L r main at_main)) ds end) (sym deeds_are) x)

        exactly_named : {end : Position} (all : List Act) → Run (whole (first_of (L r main at_main))) all end →
            acts o E ≡ map unnumbered all → Exactly r end
        exactly_named {end} all run e =
            (all, subst (λ n. Run (whole (protocols n)) all end) (sym (name_is r main at_main)) run, deeds_are ∙ e)

        ahead_of : (doing : Doing) → StandsAt j (L r main at_main).me (protocol_of (L r main at_main)) o E doing →
            Ahead j typestates (L r main at_main) (valid r main at_main) (had r main at_main) (P r main at_main) (says r main at_main)
            main.class (inputs r main at_main) (suc (role r main at_main).count) (keeps r main at_main) o made doing
        ahead_of doing st =
            ahead j typestates (L r main at_main) (valid r main at_main) (had r main at_main) (P r main at_main) (says r main at_main)
            main.class (inputs r main at_main) (suc (role r main at_main).count) (keeps r main at_main) o made doing st

        -- a peer of the role is another role of the world
        record Peer (peer : Name) : Type 0 where
          number : ℕ
          lower : number < length names
          named : name number ≡ peer
          inputs_are : messages_of (inputs r main at_main) peer ≡ Some (sent w number r)

        peer_is : (peer : Name) → P r main at_main peer → Peer peer
        peer_is peer h = found (numbered peer h.0)
          where
            found : Numbered peer → Peer peer
            found k =
                let z : 0 + k.number ≡ k.number = omega arith in
                let at : slice_get w.messages.roles k.number ≡ Some peer = ap (λ (x : List Name). slice_get x k.number) good.named ∙
                k.there in
                record {
                  number = k.number;
                  lower = k.within;
                  named = ap or_nothing k.there;
                  inputs_are = its_inputs w r peer 0 w.messages.roles k.number (subst (IsDistinct bytes_eq) (sym good.named) begun.distinct)
                      at
                      (λ e. h.1 (some_is (sym k.there ∙ ap (slice_get names) (sym z ∙ e) ∙ name_at mains r main at_main)))
                      ∙ ap (λ n. Some (sent w n r)) z;
                }

        -- the next message is another than that which is taken
        no_mismatch : {peer label : Name} {kind : Payload} {messages : List Sent} {message : Sent} →
            StandsAt j (L r main at_main).me (protocol_of (L r main at_main)) o E (Passes (Take peer label kind)) →
            messages_of (inputs r main at_main) peer ≡ Some messages →
            slice_get messages (taken peer E) ≡ Some message → ((message.label ≡ label) × (kind_of message.payload ≡ kind) → ⊥) → ⊥
        no_mismatch {peer} {label} {kind} {messages} {message} st there next differs =
            let a = ahead_of (Passes (Take peer label kind)) st in
            let act_is : a.next.act ≡ Moves (Take peer label kind) = take_act a.next.act a.next.of in
            let k = peer_is peer (subst (P r main at_main) (ap (peer_at (P r main at_main)) act_is) a.next.peer) in
            let list : messages ≡ sent w k.number r = some_is (sym there ∙ k.inputs_are) in
            let split : sent w k.number r ≡ took w r k.number ++ on_way w.messages k.number r =
            delivers k.number r (subst (λ (x : List Name). k.number < length x) (sym good.named) k.lower)
            (subst (λ (x : List Name). r < length x) (sym good.named) (within r main at_main)) in
            let long : taken peer E ≡ length (took w r k.number) =
            ap (taken peer) settled ∙ sym (taken_long peer (es r main at_main))
            ∙ ap (λ n. length (taken_from n (es r main at_main)))
            (sym (ap (λ (x : List Name). or_nothing (slice_get x k.number)) good.named ∙ k.named)) in
            let front = got_behind (took w r k.number) (on_way w.messages k.number r) message
            (subst (λ n. slice_get (took w r k.number ++ on_way w.messages k.number r) n ≡ Some message) long
            (subst (λ xs. slice_get xs (taken peer E) ≡ Some message) (list ∙ split) next)) in
            let f = finds a.next.at (as_named (walked a.closed a.next.run a.are)) a.next.act a.next.to a.next.step peer
            (ap waits_for act_is) k.number k.lower k.named message front.0 front.1 in
            let other_is_it : f.other_act ≡ Moves (Take peer label kind) = alike_take act_is f.alike in
            differs (found_taken f.is_label f.is_kind other_is_it f.is)

        -- no label is refused
        no_refusal : Refuses (L r main at_main).me (protocol_of (L r main at_main)) (calls j (role_class (L r main at_main).me) o E)
            (open_told (told o E)) (acts o E) E (run r main at_main) → ⊥
        no_refusal s =
            let next = refused_ahead j typestates (L r main at_main) (valid r main at_main) (had r main at_main) (P r main at_main)
            (says r main at_main) main.class (inputs r main at_main) (suc (role r main at_main).count) (keeps r main at_main) o made s in
            let look = look_act s.labels next.act next.of in
            let hd = good.looked r (within r main at_main) (map unnumbered s.closed) s.peer s.label (deeds_are ∙ s.are) in
            let f = finds next.at (as_named (but_look refl s.peer s.label s.closed next.run s.are)) next.act next.to next.step s.peer
            (ap waits_for look.1) hd.from hd.within hd.named hd.message hd.more hd.is in
            let other_is_it = alike_look look.1 f.alike in
            let label_is : other_is_it.0 ≡ s.label = found_looked other_is_it.1 f.is ∙ sym f.is_label ∙ hd.labelled in
            s.no_branch (label_known j typestates (L r main at_main) (valid r main at_main) (had r main at_main) (P r main at_main)
            (says r main at_main) s.closed next.run
            (subst (λ a. Step next.at a f.to) (other_is_it.1 ∙ ap (Looks s.number s.peer) label_is) f.step) s.asked)

        -- each peer is there
        no_miss : (doing : Doing) → StandsAt j (L r main at_main).me (protocol_of (L r main at_main)) o E doing →
            messages_of (inputs r main at_main) (peer_in doing) ≡ None → ⊥
        no_miss doing st none =
            let a = ahead_of doing st in
            let k = peer_is (peer_in doing) (subst (P r main at_main) (peer_same (P r main at_main) doing a.next.act a.next.of) a.next.peer) in
            let e : None ≡ Some (sent w k.number r) = sym none ∙ k.inputs_are in
            cc

      -- no role ends at a message, or without a peer
      not_bad : (finish : Finish) → Means (mean j main.class (inputs r main at_main)) (suc (role r main at_main).count) (es r main at_main)
          finish → (IsOther finish → ⊥) → ((peer : Name) → finish ≢ Wait peer) → ⊥
      not_bad finish is bad no_wait = go (done_so r main at_main)
        where
          settled : E ≡ es r main at_main
          settled = ap (λ (x : Ended). x.events) is

          finish_is : (run r main at_main).finish ≡ finish
          finish_is = ap (λ (x : Ended). x.finish) is

          halted : (o : ℕ) → IsMade E o (role_class (L r main at_main).me) → ((so : List Event) → Prefix so E → deeds so ≡ acts o so) →
              {d : Doing} {f : Finish} → StandsAt j (L r main at_main).me (protocol_of (L r main at_main)) o E d →
              Halts (inputs r main at_main) E d f → f ≡ finish → ⊥
          halted o made only st (waits {doing = d} wants there none) e = no_wait (peer_in d) (sym e)
          halted o made only st (misses {doing = d} none) e = no_miss settled o made only d st none
          halted o made only st (mismatches there next differs) e = no_mismatch settled o made only st there next differs

          ended : (o : ℕ) → IsMade E o (role_class (L r main at_main).me) → ((so : List Event) → Prefix so E → deeds so ≡ acts o so) →
              {f : Finish} → EndsInCall j (L r main at_main).me (protocol_of (L r main at_main)) o E (inputs r main at_main) f →
              (run r main at_main).finish ≡ f → f ≡ finish → ⊥
          ended o made only (cut {finish = f} undone h) s e = bad (subst IsOther e (cut_other f h))
          ended o made only (halts st h) s e = halted o made only st h e
          ended o made only (refuses {peer = q} {label = k} x) s e =
              no_refusal settled o made only (refusal j typestates (L r main at_main) (valid r main at_main) (had r main at_main)
              (P r main at_main) (says r main at_main) main.class (inputs r main at_main) (suc (role r main at_main).count)
              (keeps r main at_main) o made q k x s)

          go : IsDoneByOne j (roles ++ cast.idle) (L r main at_main).me (protocol_of (L r main at_main)) (inputs r main at_main)
              (run r main at_main) → ⊥
          go (not_yet nobody none busy) = bad (subst IsOther finish_is (not_busy _ busy))
          go (by_one o made alone acting ends) =
              ⊎_elim (λ h. bad (subst IsOther finish_is h))
              (λ x. ended o made (λ so prefix. acting so prefix.later prefix.is) x refl finish_is) ends

      -- the run of all its deeds
      exact : (end : Position) × Exactly r end
      exact = go (done_so r main at_main)
        where
          as_named : {end : Position} (all : List Act) → Run (whole (first_of (L r main at_main))) all end →
              deeds (es r main at_main) ≡ map unnumbered all → Exactly r end
          as_named {end} all run e =
              (all, subst (λ n. Run (whole (protocols n)) all end) (sym (name_is r main at_main)) run, e)

          go : IsDoneByOne j (roles ++ cast.idle) (L r main at_main).me (protocol_of (L r main at_main)) (inputs r main at_main)
              (run r main at_main) → (end : Position) × Exactly r end
          go (not_yet nobody none busy) =
              let shown = shown r main at_main in (
                whole (first_of (L r main at_main)),
                as_named [] stays (nothing_first (deeds (es r main at_main)) (deeds shown.later)
                    (sym (deeds-append (es r main at_main) shown.later) ∙ ap deeds (sym shown.is) ∙ none)),
              )
          go (by_one o made alone acting ends) =
              let shown = shown r main at_main in
              ⊎_elim
              (λ x. (x.0, as_named x.1 x.2 (acting (es r main at_main) shown.later shown.is ∙ x.3)))
              (λ s. absurd (no_refusal s.is_all o made (λ so prefix. acting so prefix.later prefix.is)
              (subst (λ xs. Refuses (L r main at_main).me (protocol_of (L r main at_main)) (calls j (role_class (L r main at_main).me) o xs)
              (open_told (told o xs)) (acts o xs) xs (run r main at_main)) (sym s.is_all) s)))
              (exactly_so j typestates (L r main at_main) (valid r main at_main) (had r main at_main) (P r main at_main)
              (says r main at_main) main.class (inputs r main at_main) (suc (role r main at_main).count) (keeps r main at_main) o made
              (es r main at_main) shown.later shown.is)

      well_by : (ending : Ending) → (role r main at_main).state ≡ Over ending → (finish : Finish) × (finish_of ending ≡ Some finish)
          × Means (mean j main.class (inputs r main at_main)) (suc (role r main at_main).count) (es r main at_main) finish →
          IsWell (Over ending)
      well_by endings.Done e h = tt
      well_by endings.Zero e h = tt
      well_by endings.Null e h =
          absurd ((keeps r main at_main).no_null (ap (λ (x : Ended). x.finish) h.2 ∙ sym (some_is h.1)))
      well_by (endings.Bad which) e h = absurd ((is_meant r main at_main).well which e)
      well_by (endings.Mismatch peer found) e h =
          let f : Mismatch peer found ≡ h.0 = some_is h.1 in
          absurd (not_bad h.0 h.2 (λ o. subst IsOther (sym f) o) (λ q e. let x : Mismatch peer found ≡ Wait q = f ∙ e in cc))
      well_by (endings.NoPeer peer) e h =
          let f : NoPeer peer ≡ h.0 = some_is h.1 in
          absurd (not_bad h.0 h.2 (λ o. subst IsOther (sym f) o) (λ q e. let x : NoPeer peer ≡ Wait q = f ∙ e in cc))

      well : IsWell (role r main at_main).state
      well = go (role r main at_main).state refl
        where
          go : (s : State) → (role r main at_main).state ≡ s → IsWell s
          go (Runs m) e = tt
          go (Over ending) e =
              well_by ending e (subst
              (λ s. Shows (mean j main.class (inputs r main at_main)) (role r main at_main).count (es r main at_main)
              (stand_of p w r s)) e (is_meant r main at_main).shows)

    -- ---- rest

    data AtRest (r : ℕ) (state : State) (end : Position) : Type 0 where
      returned : state ≡ Over endings.Done → Finished end → AtRest r state end
      blocked : (act : Act) (to : Position) (peer : Name) (k : ℕ) → Step end act to → waits_for act ≡ Some peer → k < length names →
          name k ≡ peer → on_way w.messages k r ≡ [] → AtRest r state end

    module _ (r : ℕ) (main : RoleMain) (at_main : slice_get mains r ≡ Some main) where
      -- a role that waits, and one that has returned
      waiting : (m : Machine) → (role r main at_main).state ≡ Runs m → (k : ℕ) → step p r m w.messages ≡ Waits k →
          (end : Position) × (Exactly r end × AtRest r (role r main at_main).state end)
      waiting m runs k is = go (done_so r main at_main)
        where
          shows : Shows (mean j main.class (inputs r main at_main)) (role r main at_main).count (es r main at_main)
              (stands.Waits (name_of w k))
          shows = subst (λ s. Shows (mean j main.class (inputs r main at_main)) (role r main at_main).count (es r main at_main) s)
              (ap (stand_of p w r) runs ∙ ap (λ s. waiting_for w (waits_by s)) is) (is_meant r main at_main).shows

          settled : (run r main at_main).events ≡ es r main at_main
          settled = ap (λ (x : Ended). x.events) shows

          finish_is : (run r main at_main).finish ≡ Wait (name_of w k)
          finish_is = ap (λ (x : Ended). x.finish) shows

          emptied : Emptied w.messages r k
          emptied = step_waits p r m w.messages k is

          named_k : name k ≡ name_of w k
          named_k = ap (λ (x : List Name). or_nothing (slice_get x k)) (sym good.named)

          halted : (o : ℕ) → (made : IsMade (run r main at_main).events o (role_class (L r main at_main).me)) →
              ((so : List Event) → Prefix so (run r main at_main).events → deeds so ≡ acts o so) →
              {d : Doing} {f : Finish} →
              StandsAt j (L r main at_main).me (protocol_of (L r main at_main)) o (run r main at_main).events d →
              Halts (inputs r main at_main) (run r main at_main).events d f → f ≡ Wait (name_of w k) → (end : Position) ×
              (Exactly r end × AtRest r (role r main at_main).state end)
          halted o made only st (waits {doing = d} wants there none) e =
              let a = ahead_of r main at_main settled o made only d st in
              let x : peer_in d ≡ name_of w k = wait_is e in (
                a.next.at,
                (
                  exactly_named r main at_main settled o made only a.closed a.next.run a.are,
                  blocked a.next.act a.next.to (name_of w k) k a.next.step (act_wants d a.next.act a.next.of wants ∙ ap Some x)
                      (subst (λ (y : List Name). k < length y) good.named emptied.within) named_k emptied.empty,
                ),
              )
          halted o made only st (misses {doing = d} none) e = absurd (let x : NoPeer (peer_in d) ≡ Wait (name_of w k) = e in cc)
          halted o made only st (mismatches there next differs) e = absurd (cc e)

          ended : (o : ℕ) → (made : IsMade (run r main at_main).events o (role_class (L r main at_main).me)) →
              ((so : List Event) → Prefix so (run r main at_main).events → deeds so ≡ acts o so) →
              {f : Finish} →
              EndsInCall j (L r main at_main).me (protocol_of (L r main at_main)) o (run r main at_main).events (inputs r main at_main) f →
              f ≡ Wait (name_of w k) → (end : Position) × (Exactly r end × AtRest r (role r main at_main).state end)
          ended o made only (cut undone h) e = absurd (subst IsCut e h)
          ended o made only (halts st h) e = halted o made only st h e
          ended o made only (refuses x) e = absurd (cc e)

          go : IsDoneByOne j (roles ++ cast.idle) (L r main at_main).me (protocol_of (L r main at_main)) (inputs r main at_main)
              (run r main at_main) → (end : Position) × (Exactly r end × AtRest r (role r main at_main).state end)
          go (not_yet nobody none busy) = absurd (subst IsBusy finish_is busy)
          go (by_one o made alone acting ends) =
              ⊎_elim (λ h. absurd (subst IsOther finish_is h))
              (λ x. ended o made (λ so prefix. acting so prefix.later prefix.is) x finish_is) ends

      module _ (over : (role r main at_main).state ≡ Over endings.Done) where
        done_shows : (finish : Finish) × (finish_of endings.Done ≡ Some finish)
            × Means (mean j main.class (inputs r main at_main)) (suc (role r main at_main).count) (es r main at_main) finish
        done_shows = subst (λ s. Shows (mean j main.class (inputs r main at_main)) (role r main at_main).count (es r main at_main)
            (stand_of p w r s)) over (is_meant r main at_main).shows

        done_settled : (run r main at_main).events ≡ es r main at_main
        done_settled = ap (λ (x : Ended). x.events) done_shows.2

        done_finish : (run r main at_main).finish ≡ Done
        done_finish = ap (λ (x : Ended). x.finish) done_shows.2 ∙ sym (some_is done_shows.1)

        has_returned : (end : Position) × (Exactly r end × AtRest r (role r main at_main).state end)
        has_returned = go (done_so r main at_main)
          where
            go : IsDoneByOne j (roles ++ cast.idle) (L r main at_main).me (protocol_of (L r main at_main)) (inputs r main at_main)
                (run r main at_main) →
                (end : Position) × (Exactly r end × AtRest r (role r main at_main).state end)
            go (not_yet nobody none busy) = absurd (subst IsBusy done_finish busy)
            go (by_one o made alone acting ends) =
                let a = at_end j typestates (L r main at_main) (valid r main at_main) (had r main at_main) (P r main at_main)
                (says r main at_main) main.class (inputs r main at_main) (suc (role r main at_main).count) (keeps r main at_main) o made
                done_finish in (
                  a.end,
                  (
                    exactly_named r main at_main done_settled o made (λ so prefix. acting so prefix.later prefix.is) a.closed
                        a.run a.are,
                    returned over a.finished,
                  ),
                )

        -- one object has done all
        is_of_one : IsOfOne roles main.role (es r main at_main)
        is_of_one =
            subst (λ n. IsOfOne roles n (es r main at_main)) (cast.locals_are.own main.role (l r main at_main))
            (subst (IsOfOne roles (L r main at_main).me) done_settled (of_one roles cast.idle (done_so r main at_main) done_finish))

        -- its objects are at the end
        is_complete : (o : ℕ) → IsMade (es r main at_main) o (role_class (L r main at_main).me) →
            Complete (L r main at_main).me (protocol_of (L r main at_main))
            (calls j (role_class (L r main at_main).me) o (es r main at_main))
        is_complete o made =
            subst (λ xs. Complete (L r main at_main).me (protocol_of (L r main at_main)) (calls j (role_class (L r main at_main).me) o xs))
            done_settled
            (completes j typestates (L r main at_main) (valid r main at_main) (had r main at_main) (P r main at_main) (says r main at_main)
            main.class (inputs r main at_main) (suc (role r main at_main).count) (keeps r main at_main) o
            (subst (λ xs. IsMade xs o (role_class (L r main at_main).me)) (sym done_settled) made) done_finish)

      stands_still : Rests p w → ((role r main at_main).state ≢ Over endings.Zero) →
          (end : Position) × (Exactly r end × AtRest r (role r main at_main).state end)
      stands_still rests no_zero = go (role r main at_main).state refl (rests r (role r main at_main) (at_role r main at_main))
          (well r main at_main)
        where
          go : (s : State) → (role r main at_main).state ≡ s → IsStill p w r (role r main at_main).state →
              IsWell (role r main at_main).state →
              (end : Position) × (Exactly r end × AtRest r (role r main at_main).state end)
          go (Runs m) e still h = let k = subst (IsStill p w r) e still in waiting m e k.0 k.1
          go (Over endings.Done) e still h = has_returned e
          go (Over endings.Zero) e still h = absurd (no_zero e)
          go (Over endings.Null) e still h = absurd (subst IsWell e h)
          go (Over (endings.Mismatch q f)) e still h = absurd (subst IsWell e h)
          go (Over (endings.NoPeer q)) e still h = absurd (subst IsWell e h)
          go (Over (endings.Bad _)) e still h = absurd (subst IsWell e h)

    -- a configuration, by where each role stands
    abbrev configured : (ends : ℕ → Position) → Stands roles protocols names begun.distinct listed true w ends →
        IsConfiguration roles locals mains w
    configured ends s =
        record {
          system = s.system;
          reached = s.reached;
          done = λ r main at.
              let h : r < length names = got_within names r main.role (name_at mains r main at) in
              sym (s.did refl r h) ∙ ap (λ n. map unnumbered (acts_on s.reached n)) (name_is r main at);
          lists = λ from to sender receiver at_from at_to.
              let hf : from < length names = got_within names from sender.role (name_at mains from sender at_from) in
              let ht : to < length names = got_within names to receiver.role (name_at mains to receiver at_to) in
              ap (λ n. s.system.lists n receiver.role) (sym (name_is from sender at_from))
              ∙ ap (λ n. s.system.lists (name from) n) (sym (name_is to receiver at_to)) ∙ s.lists from to hf ht;
        }

    exactly_at : (i : ℕ) → i < length names → (end : Position) × Exactly i end
    exactly_at i h = let m = main_at mains i h in exact i m.main m.at

    at_once : Chosen (length names) Exactly
    at_once = choose (length names) Exactly exactly_at

    stood : Stands roles protocols names begun.distinct listed true w at_once.ends
    stood = good.stands true (record { ends = at_once.ends; walks = λ i h. as_walk i (at_once.are i h) })

    abbrev is_configuration : IsConfiguration roles locals mains w
    is_configuration = configured at_once.ends stood

    -- what was said so far, and can be said
    started : CanEnd g → IsPartOfConversation roles locals g mains w
    started can =
        let m = each_has_done_its_part roles g locals are can stood.system stood.reached in (
          is_configuration,
          m.0,
          m.1,
          λ r main at.
              let h : r < length names = got_within names r main.role (name_at mains r main at) in
              subst (λ n. CanDoRest (stood.system.at n) (passed (deeds (events_of r w.events))) (global_law.named n m.0)) (name_is r main at)
              (subst (λ ms. CanDoRest (stood.system.at (name r)) ms (global_law.named (name r) m.0)) (stood.said r h)
              (m.2 (name r) (listed r h))),
        )

    -- the same where a conversation needn't come to an end
    gone_on : NoneIsForgotten roles g locals → IsPartOfGoing roles locals g mains w
    gone_on heard =
        let m = each_has_done_a_part roles g locals are heard stood.system stood.reached in (
          is_configuration,
          m.0,
          m.1,
          m.2,
          λ r main at.
              let h : r < length names = got_within names r main.role (name_at mains r main at) in
              subst (λ n. CanDoMore (stood.system.at n) (passed (deeds (events_of r w.events))) (global_law.named n m.0)) (name_is r main at)
              (subst (λ ms. CanDoMore (stood.system.at (name r)) ms (global_law.named (name r) m.0)) (stood.said r h)
              (m.3 (name r) (listed r h))),
        )

    module _ (rests : Rests p w) (no_zero : (r : ℕ) (role : Role) → slice_get w.roles r ≡ Some role → role.state ≢ Over endings.Zero) where
      -- where each stands, whatever its state is
      abbrev Standing : (i : ℕ) → Position → Type 0
      Standing i e = Exactly i e × ((x : Role) → slice_get w.roles i ≡ Some x → AtRest i x.state e)

      stand : (i : ℕ) → i < length names → (e : Position) × Standing i e
      stand i h =
          let m = main_at mains i h in
          let s = stands_still i m.main m.at rests (no_zero i (role i m.main m.at) (at_role i m.main m.at)) in (
            s.0,
            (
              s.1.0,
              λ x at. subst (λ (y : Role). AtRest i y.state s.0) (some_is (sym (at_role i m.main m.at) ∙ at)) s.1.1,
            ),
          )

      chosen : Chosen (length names) Standing
      chosen = choose (length names) Standing stand

      now : Stands roles protocols names begun.distinct listed true w chosen.ends
      now = good.stands true (record { ends = chosen.ends; walks = λ i h. as_walk i (chosen.are i h).0 })

      abbrev c : System
      c = now.system

      rest_at : (i : ℕ) (h : i < length names) → let m = main_at mains i h in AtRest i (role i m.main m.at).state (c.at (name i))
      rest_at i h =
          let m = main_at mains i h in
          subst (AtRest i (role i m.main m.at).state) (sym (now.at i h)) ((chosen.are i h).1 (role i m.main m.at) (at_role i m.main m.at))

      no_step : (me : Name) (act : Act) (d : System) → Contains roles me → Moved me c act d → ⊥
      no_step me act d l moved =
          let k = numbered me l in
          let named : name k.number ≡ me = ap or_nothing k.there in
          let s = moved_step moved in
          go k.number k.within named (rest_at k.number k.within) s.0 s.1
        where
          go : (i : ℕ) → i < length names → name i ≡ me → {state : State} → AtRest i state (c.at (name i)) → (to : Position) →
              Step (c.at me) act to → ⊥
          go i h named (returned e f) to step =
              finished_stops f (subst (λ q. Step q act to) (ap (λ n. c.at n) (sym named)) step)
          go i h named (blocked other_act end peer k other_step wants lt is empty) to step =
              let st : Step (c.at me) other_act end = subst (λ q. Step q other_act end) (ap (λ n. c.at n) named) other_step in
              let alike = next_is_alike roles g locals are c now.reached me l other_act act end to st step in
              let f = moved_finds moved (alike_waits alike wants) in
              let none : c.lists peer me ≡ [] =
              ap (λ n. c.lists n me) (sym is) ∙ ap (λ n. c.lists (name k) n) (sym named) ∙ now.lists k i lt h ∙ ap (map parcel_of) empty in
              nothing_there (sym none ∙ f.there)
            where
              nothing_there : {x : Parcel} {xs : List Parcel} → [] ≡ x ∷ xs → ⊥
              nothing_there e = cc

      stuck_none : global_law.IsComplete roles c
      stuck_none = none_is_stuck roles g locals are c now.reached no_step

      all_returned : (r : ℕ) (x : Role) → slice_get w.roles r ≡ Some x → x.state ≡ Over endings.Done
      all_returned r x at =
          let h : r < length names = subst (λ n. r < n) good.as_many (got_within w.roles r x at) in
          go h (subst (AtRest r x.state) (sym (now.at r h)) ((chosen.are r h).1 x at))
        where
          go : r < length names → AtRest r x.state (c.at (name r)) → x.state ≡ Over endings.Done
          go h (returned e f) = e
          go h (blocked act to peer k step wants lt is empty) = absurd (finished_stops (stuck_none.finished (name r) (listed r h)) step)

      all_over : IsComplete j roles locals mains w
      all_over = record {
        returned = all_returned;
        empty = λ from to lf lt.
            let hf : from < length names = subst (λ (x : List Name). from < length x) good.named lf in
            let ht : to < length names = subst (λ (x : List Name). to < length x) good.named lt in
            map_nothing parcel_of (on_way w.messages from to)
            (sym (now.lists from to hf ht) ∙ stuck_none.empty (name from) (name to) (listed from hf) (listed to ht));
        by_one = λ r main at_main.
            is_of_one r main at_main (all_returned r (role r main at_main) (at_role r main at_main));
        ends = λ r main at_main o made.
            is_complete r main at_main (all_returned r (role r main at_main) (at_role r main at_main)) o made;
      }

      rest_is_configuration : (c : IsConfiguration roles locals mains w) × IsFinished roles c.system
      rest_is_configuration = (configured chosen.ends now, stuck_none.finished)

      conversed : IsGuarded g → (messages : List Passing) × conversations.Complete g messages
          × ((r : ℕ) (main : RoleMain) → slice_get mains r ≡ Some main →
          passed (deeds (events_of r w.events)) ≡ global_law.named main.role messages)
      conversed guarded =
          let m = complete_is_conversation roles g locals are guarded c now.reached stuck_none in (
            m.0,
            m.1,
            λ r main at.
                let h : r < length names = got_within names r main.role (name_at mains r main at) in
                sym (now.said r h) ∙ m.2 (name r) (listed r h) ∙ ap (λ n. global_law.named n m.0) (name_is r main at),
          )

    all_well : (r : ℕ) (x : Role) → slice_get w.roles r ≡ Some x → IsWell x.state
    all_well r x at =
        let h : r < length names = subst (λ n. r < n) good.as_many (got_within w.roles r x at) in
        let m = main_at mains r h in
        subst (λ (y : Role). IsWell y.state) (some_is (sym (at_role r m.main m.at) ∙ at)) (well r m.main m.at)

pub none_gets_stuck : NoneGetsStuck
none_gets_stuck j typestates roles g locals mains cast p first begun meant taken = (
  all_well j typestates roles g locals mains cast p first begun meant taken,
  λ rests no_zero. all_over j typestates roles g locals mains cast p first begun meant taken rests no_zero,
)

pub turns_are_configurations : TurnsAreConfigurations
turns_are_configurations j typestates roles g locals mains cast p first begun meant taken =
    is_configuration j typestates roles g locals mains cast p first begun meant taken

pub turns_are_of_one : TurnsAreOfOne
turns_are_of_one j typestates roles g locals mains cast p first begun meant taken r main at =
    acts_so_far j typestates roles g locals mains cast p first begun meant taken r main at

pub rest_is_finished : RestIsFinished
rest_is_finished j typestates roles g locals mains cast p first begun meant taken rests no_zero =
    rest_is_configuration j typestates roles g locals mains cast p first begun meant taken rests no_zero

pub rest_is_conversation : RestIsConversation
rest_is_conversation j typestates roles g locals mains cast guarded p first begun meant taken rests no_zero =
    conversed j typestates roles g locals mains cast p first begun meant taken rests no_zero guarded

pub turns_are_in_conversation : TurnsAreInConversation
turns_are_in_conversation j typestates roles g locals mains cast can p first begun meant taken =
    started j typestates roles g locals mains cast p first begun meant taken can

pub turns_go_on_in_conversation : TurnsGoOnInConversation
turns_go_on_in_conversation j typestates roles g locals mains cast heard p first begun meant taken =
    gone_on j typestates roles g locals mains cast p first begun meant taken heard

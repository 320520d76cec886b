-- What all role objects do, read for one of them: its calls, its acts, and how the run ends where a call of it is open.
use Rattle.std.proofs.Common.{◌≡◌, ℕ, Bool, true, false, suc, List, [], ◌∷◌, ◌++◌, map, length, Option, Some, None, refl, sym, ap}
use Rattle.std.proofs.Common.{◌∙◌, subst, eqb, append_assoc}
use Rattle.std.specs.Prelude.{if◌then◌else◌, Contains, ◌==◌}
use Rattle.std.proofs.lemmas.Bool.{eq-eqb, eqb-true}
use Rattle.mg_text.specs.Call.{Name}
use Rattle.mg_text.specs.declared.event.Event.{Event}
use Rattle.mg_text.specs.declared.event.Event.TheVariants as seen
use Rattle.scr_tree.specs.Protocol.{Parts}
use Rattle.scr_tree.specs.Steps.{Act, Looks}
use Rattle.scr_tree.specs.CallNames as names
use Rattle.stm_api.specs.Doings.{Doing, Asks, all_doings, call_of}
use Rattle.jv_values.specs.Values.{Finish, Mismatch}
use Rattle.jv_values.specs.Seen.{Results, IsMade, Enters, Leaves, told_by, told, open_told, label_in}
use Rattle.jv_meaning.specs.Calls.{results_of}
use Rattle.stm_acts.specs.Acts.{unnumbered, deed_of, runs_behind, acts_while}
use Rattle.stm_acts.specs.Played.{role_class}
use Rattle.stm_acts.proofs.Standing.{Standing, Own}
use Rattle.stm_acts.proofs.Standing as old
use Rattle.stm_acts.proofs.Reading.{Read, read}
use Rattle.stm_acts.specs.Ends.{IsUndone, StandsAt, EndsInCall, cut, halts, refuses, deeds}
use Rattle.stm_acts.proofs.Stage.{Part, Stage}
use Rattle.stm_acts.proofs.Moments.{At, Out, In, Did, IsOf, Foreign, silent, of_other, Goes, elsewhere, enters, does, leaves, Ran, rests, goes}
use Rattle.stm_acts.proofs.Moments.{EndsAt, out, inside, halted, refused}
use Rattle.stm_acts.proofs.Keeping.{Stops, contains_more, some_is}

pub self_same : (o : ℕ) → eqb o o ≡ true
self_same o = eq-eqb o o refl

-- what tells nothing of the object changes nothing of it
quiet : (o : ℕ) (r : Bool) (e : Event) → told_by o e ≡ [] → runs_behind o r e ≡ r
quiet o r (seen.Enter p m) h = go (p == o) h
  where
    go : (b : Bool) → (if b then Enters m ∷ [] else []) ≡ [] → (if b then true else r) ≡ r
    go true h = absurd (cc)
    go false h = refl
quiet o r (seen.Leave p answer) h = go (p == o) h
  where
    go : (b : Bool) → (if b then Leaves answer ∷ [] else []) ≡ [] → (if b then false else r) ≡ r
    go true h = absurd (cc)
    go false h = refl
quiet o r (seen.Print t) h = refl
quiet o r (seen.Made p c) h = refl
quiet o r (seen.Send p l c) h = refl
quiet o r (seen.Look p l) h = refl
quiet o r (seen.Take p l c) h = refl

none_some : {A : Type 0} {x : A} {y : Option A} → y ≡ None → y ≡ Some x → ⊥
none_some e f = let g : None ≡ Some _ = sym e ∙ f in cc

-- as many acts as calls, and one more
as_many : (me : Name) (closed : List Act) → length (map unnumbered closed ++ []) ≡ length (map (names.call_of me) closed)
as_many me [] = refl
as_many me (act ∷ closed) = ap suc (as_many me closed)

same_length : (me : Name) (closed : List Act) → length (map unnumbered closed) ≡ length (map (names.call_of me) closed)
same_length me [] = refl
same_length me (act ∷ closed) = ap suc (same_length me closed)

module _ (st : Stage) (o : ℕ) (k : Part st.j) (is_role : st.role_of (role_class k.me) ≡ Some k) where
  abbrev results : Results
  results = results_of st.j (role_class k.me)

  -- how the events stand to the one object
  abbrev pub stand : At st → Standing
  stand Out = old.Out
  stand (In p r m) = if p == o then old.In m else old.Out
  stand (Did p r act) = if p == o then old.Did act else old.Out

  -- all that is made with its number is of its class
  abbrev pub Alone : List Event → Type 0
  Alone events = (c : Name) → IsMade events o c → c ≡ role_class k.me

  same_part : (events : List Event) → Alone events → (p : ℕ) (r : Part st.j) → IsOf st events p r → p ≡ o → r ≡ k
  same_part events alone p r of e =
      let same : role_class r.me ≡ role_class k.me = alone (role_class r.me) (subst (λ q. IsMade events q (role_class r.me)) e of.made) in
      some_is (sym of.is_role ∙ ap st.role_of same ∙ is_role)

  step : (before : List Event) {s t : At st} {e : Event} → Alone before → Goes st before s e t →
      old.Goes results k.me k.firsts o (stand s) e (stand t)
  step before alone (elsewhere d (silent q)) = old.elsewhere (q o)
  step before alone (elsewhere d (of_other {p = p} {c = c} made none q)) =
      old.elsewhere (q o (λ e. none_some none (ap st.role_of (alone c (subst (λ q. IsMade before q c) e made)) ∙ is_role)))
  step before alone (enters {p = p} {k = r} {m = m} of) = go (p == o) refl
    where
      go : (b : Bool) → eqb p o ≡ b → old.Goes results k.me k.firsts o old.Out (seen.Enter p m) (if b then old.In m else old.Out)
      go true e = subst (λ q. old.Goes results k.me k.firsts o old.Out (seen.Enter q m) (old.In m)) (sym (eqb-true p o e)) old.enters
      go false e = old.elsewhere (ap (λ (b : Bool). if b then Enters m ∷ [] else []) e)
  step before alone (does {p = p} {k = r} {m = m} {e = f} {act = act} of own is d q) = go (p == o) refl
    where
      go : (b : Bool) → eqb p o ≡ b →
          old.Goes results k.me k.firsts o (if b then old.In m else old.Out) f (if b then old.Did act else old.Out)
      go true e =
          let same : r ≡ k = same_part before alone p r of (eqb-true p o e) in
          old.does (subst (λ (x : Part st.j). Own x.firsts act) same own)
          (subst (λ (x : Part st.j). (names.call_of x.me act).method ≡ m) same is) d (q o)
      go false e = old.elsewhere (q o)
  step before alone (leaves {p = p} {k = r} {act = act} {answer = answer} of h) = go (p == o) refl
    where
      go : (b : Bool) → eqb p o ≡ b →
          old.Goes results k.me k.firsts o (if b then old.Did act else old.Out) (seen.Leave p answer) old.Out
      go true e =
          let same : r ≡ k = same_part before alone p r of (eqb-true p o e) in
          subst (λ q. old.Goes results k.me k.firsts o (old.Did act) (seen.Leave q answer) old.Out) (sym (eqb-true p o e))
          (old.leaves (subst (λ (x : Part st.j).
          label_in (results_of st.j (role_class x.me) (names.call_of x.me act).method) answer ≡ (names.call_of x.me act).answer) same h))
      go false e = old.elsewhere (ap (λ (b : Bool). if b then Leaves answer ∷ [] else []) e)

  project : (es before : List Event) {s t : At st} → Alone (before ++ es) → Ran st before s es t →
      old.Ran results k.me k.firsts o (stand s) es (stand t)
  project [] before alone rests = old.rests
  project (e ∷ es) before alone (goes g r) =
      old.goes (step before (λ c m. alone c (contains_more before (e ∷ es) (seen.Made o c) m)) g)
      (project es (before ++ e ∷ []) (λ c m. alone c (subst (λ l. IsMade l o c) (append_assoc before (e ∷ []) es) m)) r)

  -- its calls and acts
  pub reading : (events : List Event) {s : At st} → Alone events → Ran st [] Out events s →
      Read results k.me k.firsts o events (stand s)
  reading events alone ran = read results k.me k.firsts o events (project events [] alone ran)

  module _ (protocol : Parts) (doings : (d : Doing) → Contains k.firsts d → Contains (all_doings protocol) d) (events : List Event) where
    not_done : (m : Name) → Read results k.me k.firsts o events (old.In m) → IsUndone st.j k.me protocol o events
    not_done m r = ap length r.deeds ∙ as_many k.me r.closed ∙ ap length (sym r.calls)

    pub undone : (m : Name) (d : Doing) → Contains k.firsts d → call_of k.me d ≡ m → Read results k.me k.firsts o events (old.In m) →
        StandsAt st.j k.me protocol o events d
    undone m d c is r = record {
      is_one = doings d c;
      in_call = r.still_open ∙ ap Some (sym is);
      undone = not_done m r;
    }

    -- where a call of it is open
    pub ends_so : {f : Finish} {at : At st} (method : Name) → Alone events → open_told (told o events) ≡ Some method →
        EndsAt st events at f → Read results k.me k.firsts o events (stand at) →
        EndsInCall st.j k.me protocol o events st.inputs f
    ends_so method alone is_open (out h) r = absurd (none_some r.still_open is_open)
    ends_so {f = f} method alone is_open (inside {p = p} {k = r} {m = m} of h) rd = go (p == o) rd
      where
        go : (b : Bool) → Read results k.me k.firsts o events (if b then old.In m else old.Out) →
            EndsInCall st.j k.me protocol o events st.inputs f
        go true rd = cut (not_done m rd) h
        go false rd = absurd (none_some rd.still_open is_open)
    ends_so {f = f} method alone is_open (halted {p = p} {k = r} {m = m} {d = d} of c is h) rd = go (p == o) refl rd
      where
        go : (b : Bool) → eqb p o ≡ b → Read results k.me k.firsts o events (if b then old.In m else old.Out) →
            EndsInCall st.j k.me protocol o events st.inputs f
        go true e rd =
            let same : r ≡ k = same_part events alone p r of (eqb-true p o e) in
            halts (undone m d (subst (λ (x : Part st.j). Contains x.firsts d) same c)
            (subst (λ (x : Part st.j). call_of x.me d ≡ m) same is) rd) h
        go false e rd = absurd (none_some rd.still_open is_open)
    ends_so method alone is_open (refused {p = p} {k = r} {n = n} {q = q} {l = l} {labels = labels} before of looked c none) rd =
        go (p == o) refl rd
      where
        go : (b : Bool) → eqb p o ≡ b → Read results k.me k.firsts o events (if b then old.Did (Looks n q l) else old.Out) →
            EndsInCall st.j k.me protocol o events st.inputs (Mismatch q l)
        go true e rd =
            let same : r ≡ k = same_part events alone p r of (eqb-true p o e) in
            refuses (record {
              number = n;
              labels = labels;
              asked = doings (Asks n q labels) (subst (λ (x : Part st.j). Contains x.firsts (Asks n q labels)) same c);
              no_branch = none;
              in_call = rd.still_open;
              before = before;
              looked = looked;
              closed = map unnumbered rd.closed;
              are = rd.deeds;
              as_many = same_length k.me rd.closed ∙ ap length (sym rd.calls);
            })
        go false e rd = absurd (none_some rd.still_open is_open)

  -- ---- how it stands at an end

  -- what is so at an end of one object
  pub record Ended (f : Finish) (events : List Event) : Type 0 where
    pub at : Standing
    pub ran : old.Ran results k.me k.firsts o old.Out events at
    pub ends : old.EndsAt results k.me k.firsts o at f

  pub ended : {known : ℕ → Option Name} (f : Finish) (events : List Event) → Stops st known f events → IsMade events o (role_class k.me) → Ended f events
  ended f events stop made = record {
    at = stand stop.at;
    ran = project events [] alone stop.ran;
    ends = go stop.ends;
  }
    where
      alone : Alone events
      alone c m = stop.unique o c (role_class k.me) m made

      inside_or_out : (b : Bool) (m : Name) {g : Finish} → old.EndsAt results k.me k.firsts o (if b then old.In m else old.Out) g
      inside_or_out true m = old.inside
      inside_or_out false m = old.out

      go : {at : At st} {g : Finish} → EndsAt st events at g → old.EndsAt results k.me k.firsts o (stand at) g
      go (out h) = old.out
      go (inside {p = p} {m = m} of h) = inside_or_out (p == o) m
      go (halted {p = p} {m = m} of c is h) = inside_or_out (p == o) m
      go (refused {p = p} {k = r} {n = n} {q = q} {l = l} {labels = labels} before of looked c none) = refusing (p == o) refl
        where
          refusing : (b : Bool) → eqb p o ≡ b →
              old.EndsAt results k.me k.firsts o (if b then old.Did (Looks n q l) else old.Out) (Mismatch q l)
          refusing true e = old.refused (subst (λ (x : Part st.j). Contains x.firsts (Asks n q labels))
              (same_part events alone p r of (eqb-true p o e)) c) none
          refusing false e = old.out

  -- ---- where it is the only one

  abbrev running : At st → Bool
  running Out = false
  running (In p r m) = true
  running (Did p r act) = true

  -- all role objects are this one
  abbrev pub Only : List Event → Type 0
  Only events = (p : ℕ) (r : Part st.j) → IsOf st events p r → p ≡ o

  told_nothing : (before : List Event) {e : Event} → Alone before → Foreign st before e → told_by o e ≡ []
  told_nothing before alone (silent q) = q o
  told_nothing before alone (of_other {p = p} {c = c} made none q) =
      q o (λ e. none_some none (ap st.role_of (alone c (subst (λ q. IsMade before q c) e made)) ∙ is_role))

  pub its_acts : (es before : List Event) {s t : At st} → st.Calm → Alone (before ++ es) → Only (before ++ es) → Ran st before s es t →
      deeds es ≡ acts_while o (running s) es
  its_acts [] before calm alone only rests = refl
  its_acts (e ∷ es) before {s} {t} calm alone only (goes g r) = go e g (its_acts es (before ++ e ∷ []) calm
      (λ c m. alone c (subst (λ l. IsMade l o c) (append_assoc before (e ∷ []) es) m))
      (λ p k of. only p k (record {
        made = subst (λ l. IsMade l p (role_class k.me)) (append_assoc before (e ∷ []) es) of.made;
        is_role = of.is_role;
      })) r)
    where
      of_all : {p : ℕ} {r : Part st.j} → IsOf st before p r → eqb p o ≡ true
      of_all {p} {r} of = ap (λ x. eqb x o) (only p r (record {
        made = contains_more before (e ∷ es) (seen.Made p (role_class r.me)) of.made;
        is_role = of.is_role;
      })) ∙ self_same o

      go : {u v : At st} (f : Event) → Goes st before u f v → deeds es ≡ acts_while o (running v) es →
          deeds (f ∷ es) ≡ acts_while o (running u) (f ∷ es)
      go f (elsewhere h q) more =
          ap (λ l. l ++ deeds es) (h calm) ∙ more
          ∙ sym (ap (λ b. acts_while o b es) (quiet o false f (told_nothing before
          (λ c m. alone c (contains_more before (e ∷ es) (seen.Made o c) m)) q)))
      go f (enters of) more = more ∙ sym (ap (λ (b : Bool). acts_while o (if b then true else false) es) (of_all of))
      go f (does of own is d q) more =
          ap (λ l. deed_of f ++ l) (more ∙ sym (ap (λ b. acts_while o b es) (quiet o true f (q o))))
      go f (leaves of h) more = more ∙ sym (ap (λ (b : Bool). acts_while o (if b then false else true) es) (of_all of))

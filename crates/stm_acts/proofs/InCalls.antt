-- The laws: programs with generated role classes are such as the proofs take them, and what was read is said of their runs.
use Rattle.std.proofs.Common.{◌≡◌, ◌⊎◌, inl, inr, ℕ, Bool, true, false, List, [], ◌∷◌, ◌++◌, Option, Some, None, refl, sym, ap, ◌∙◌, subst}
use Rattle.std.proofs.Common.{append-nil, append_assoc, eqb, ⊎_elim}
use Rattle.std.specs.Prelude.{◌≢◌, if◌then◌else◌, codes, Contains}
use Rattle.std.specs.Str.{bytes_eq}
use Rattle.std.proofs.lemmas.Slice.Eq.{bytes_eq-Decides}
use Rattle.std.proofs.lemmas.List.{append_cancel_right}
use Rattle.mg_text.specs.Call.{Name}
use Rattle.mg_text.specs.declared.event.Event.{Event}
use Rattle.mg_text.specs.declared.event.Event.TheVariants as seen
use Rattle.scr_tree.specs.Protocol.{Parts}
use Rattle.scr_tree.specs.Steps.{Moves, Looks}
use Rattle.ts_tree.specs.Typestate.{Typestate}
use Rattle.stm_api.specs.Doings.{Doing, Asks, all_doings}
use Rattle.jv_values.specs.Values.{Inputs, Ended, Finish, Done, Zero, Null, Mismatch, NoPeer, Wait, More, Wrong}
use Rattle.jv_values.specs.Seen.{IsMade, told, open_told}
use Rattle.jv_meaning.specs.Program.{Sources, class_named}
use Rattle.jv_meaning.specs.Meaning.{mean}
use Rattle.jv_meaning.specs.Calls.{results_of}
use Rattle.stm_acts.specs.Acts.{Deed, deed_of, acts}
use Rattle.stm_acts.specs.Played.{role_class, HasRole}
use Rattle.stm_acts.proofs.Standing as old
use Rattle.stm_acts.proofs.Reading.{Read}
use Rattle.stm_acts.proofs.Bodies.{Within, here_it_is, further_on, contained, in_more, is_first}
use Rattle.stm_acts.proofs.Joined.{called_so, there, of_firsts}
use Rattle.stm_acts.specs.Calm.{Scope, declare, behind_it, scope_of, OnlyRolesCall, OnlyMainsPlay, MainPlaysOne, MakesOne}
use Rattle.stm_acts.specs.Calm.{here_it_is as one_here}
use Rattle.stm_acts.specs.Calm.{behind, IsNoRole, EveryInAll}
use Rattle.jv_tree.specs.Source.{Stmts, Method, Class}
use Rattle.jv_meaning.specs.Names.{is_main}
use Rattle.std.specs.List.{AllByRecursion}
use Rattle.stm_acts.specs.Ends.{HasRoles, EndsInCall, IsInCall, IsDoneInCall, IsOther, IsCut, EndsFitCalls, EndsAreInCalls, DeedsAreInCalls}
use Rattle.stm_acts.specs.Ends.{DeedsAreOfOne, PlaysAlone, IsDoneByOne, not_yet, by_one, IsBusy, deeds}
use Rattle.stm_acts.proofs.Stage.{Part, Stage, Fits}
use Rattle.stm_acts.proofs.Everywhere.{Any, NoMain, on_object_no_main, all_calm, all_quiet, in_quiet, in_all_quiet}
use Rattle.stm_acts.proofs.Mains.{Starts, here_so, behind_so, Once, none_made, one_made, nobody, it_alone, made_it, once_so}
use Rattle.stm_acts.proofs.Moments.{At, Out, In, Did, IsOf, Goes, elsewhere, enters, does, leaves, Ran, goes, part, EndsAt, out, inside}
use Rattle.stm_acts.proofs.Moments.{halted}
use Rattle.stm_acts.proofs.Moments.{refused}
use Rattle.stm_acts.proofs.Keeping.{Stops, contains_more, some_is}
use Rattle.stm_acts.proofs.Programs.{stands}
use Rattle.stm_acts.proofs.Single.{self_same, stand, reading, ends_so, undone, its_acts}

cut_is_other : (f : Finish) → IsCut f → IsOther f
cut_is_other More h = tt
cut_is_other Wrong h = tt
cut_is_other Done h = absurd h
cut_is_other Zero h = absurd h
cut_is_other Null h = absurd h
cut_is_other (Mismatch peer found) h = absurd h
cut_is_other (NoPeer peer) h = absurd h
cut_is_other (Wait peer) h = absurd h

busy : (f : Finish) → IsOther f → f ≢ Done → IsBusy f
busy Done h n = n refl
busy Zero h n = tt
busy Null h n = tt
busy More h n = tt
busy Wrong h n = tt
busy (Mismatch peer found) h n = h
busy (NoPeer peer) h n = h
busy (Wait peer) h n = h

one_deed : (e : Event) → (deed_of e ≡ []) ⊎ ((d : Deed) × (deed_of e ≡ d ∷ []))
one_deed (seen.Send p l c) = inr (_, refl)
one_deed (seen.Look p l) = inr (_, refl)
one_deed (seen.Take p l c) = inr (_, refl)
one_deed (seen.Enter p m) = inl refl
one_deed (seen.Leave p answer) = inl refl
one_deed (seen.Print t) = inl refl
one_deed (seen.Made p c) = inl refl

no_deeds : (before es : List Event) → ((so_far : List Event) (e : Event) (later : List Event) → before ++ es ≡ so_far ++ e ∷ later →
    (d : Deed) → deed_of e ≡ d ∷ [] → ⊥) → deeds es ≡ []
no_deeds before [] h = refl
no_deeds before (e ∷ es) h =
    ⊎_elim (λ n. ap (λ l. l ++ deeds es) n ∙ no_deeds (before ++ e ∷ []) es (λ so_far f later is d k.
    h so_far f later (sym (append_assoc before (e ∷ []) es) ∙ is) d k))
    (λ d. absurd (h before e es refl d.0 d.1)) (one_deed e)

deed_or : {d : Deed} → [] ≡ d ∷ [] → ⊥
deed_or e = cc

module _ (j : Sources) (typestates : List Typestate) (roles : List Name) (protocols : Name → Parts)
    (has : HasRoles j typestates roles protocols) (inputs : Inputs) where
  doings_of : (me : Name) (i : Contains roles me) (d : Doing) → Contains (has me i).firsts d → Contains (all_doings (protocols me)) d
  doings_of me i d c =
      let h : HasRole j typestates me (protocols me) = has me i in
      there (all_doings (protocols me)) d (of_firsts h.are_firsts d (contained h.firsts d c))

  abbrev part_of : (me : Name) → Contains roles me → Part j
  part_of me i =
      let h : HasRole j typestates me (protocols me) = has me i in
      record {
        me = me;
        place = h.place;
        firsts = h.firsts;
        class = h.class;
        enums = λ n q labels c. h.enums n q labels (doings_of me i (Asks n q labels) c);
      }

  abbrev found_in : (c : Name) (rs : List Name) → ((me : Name) → Contains rs me → Contains roles me) → Option (Part j)
  found_in c [] h = None
  found_in c (me ∷ rs) h =
      if bytes_eq c (role_class me) then Some (part_of me (h me (is_first me rs)))
      else found_in c rs (λ x i. h x (in_more me x rs i))

  data Found (c : Name) (rs : List Name) : Option (Part j) → Type 0 where
    lacks : ((me : Name) → Within rs me → c ≡ role_class me → ⊥) → Found c rs None
    finds : {me : Name} (i : Contains roles me) → c ≡ role_class me → Found c rs (Some (part_of me i))

  found_so : (c : Name) (rs : List Name) (h : (me : Name) → Contains rs me → Contains roles me) → Found c rs (found_in c rs h)
  found_so c [] h = lacks (λ me w. elim w [ ])
  found_so c (me ∷ rs) h = go (bytes_eq c (role_class me)) refl (found_so c rs (λ x i. h x (in_more me x rs i)))
    where
      later : {x : Option (Part j)} → bytes_eq c (role_class me) ≡ false → Found c rs x → Found c (me ∷ rs) x
      later e (lacks lacking) = lacks (λ you w. elim w [ here_it_is f ↦ differ you f | further_on v ↦ lacking you v ])
        where
          differ : (you : Name) → me ≡ you → c ≡ role_class you → ⊥
          differ you f g =
              let b : true ≡ false = sym ((bytes_eq-Decides c (role_class me)).1 (g ∙ ap role_class (sym f))) ∙ e in cc
      later e (finds i g) = finds i g

      go : (b : Bool) → bytes_eq c (role_class me) ≡ b → {x : Option (Part j)} → Found c rs x →
          Found c (me ∷ rs) (if b then Some (part_of me (h me (is_first me rs))) else x)
      go true e f = finds (h me (is_first me rs)) ((bytes_eq-Decides c (role_class me)).0 e)
      go false e f = later e f

  abbrev role_of : Name → Option (Part j)
  role_of c = found_in c roles (λ me i. i)

  -- what a part that was found is
  record Known (c : Name) (k : Part j) : Type 0 where
    named : c ≡ role_class k.me
    listed : Contains roles k.me
    doings : (d : Doing) → Contains k.firsts d → Contains (all_doings (protocols k.me)) d

  known : (c : Name) (k : Part j) → role_of c ≡ Some k → Known c k
  known c k e = go (found_so c roles (λ me i. i)) e
    where
      go : {x : Option (Part j)} → Found c roles x → x ≡ Some k → Known c k
      go (lacks lacking) e = absurd (cc)
      go (finds {me = me} i g) e = subst (Known c) (some_is e) (record { named = g; listed = i; doings = doings_of me i })

  unknown : (c : Name) → role_of c ≡ None → (me : Name) → Contains roles me → c ≡ role_class me → ⊥
  unknown c e = go (found_so c roles (λ me i. i)) e
    where
      go : {x : Option (Part j)} → Found c roles x → x ≡ None → (me : Name) → Contains roles me → c ≡ role_class me → ⊥
      go (lacks lacking) e me i f = lacking me (contained roles me i) f
      go (finds k g) e me i f = absurd (cc)

  -- what is asked of the bodies of other classes
  record Asking : Type 1 where
    Calm : Type 0
    Few : Type 0
    Plain : Method → Type 0
    on_object : (m : Method) → m.is_static ≡ false → Plain m
    bodies : (c : Name) (class : Class) → class_named j c ≡ Some class → role_of c ≡ None →
        AllByRecursion (λ (m : Method). Plain m → EveryInAll (Fits j Calm Few Plain (λ c. role_of c ≡ None)) (scope_of c m) m.body)
        class.methods

  abbrev stage_of : Asking → Stage
  stage_of a = record {
    j = j;
    inputs = inputs;
    Calm = a.Calm;
    Few = a.Few;
    Plain = a.Plain;
    on_object = a.on_object;
    role_of = role_of;
    named = λ c k e. (known c k e).named;
    bodies = a.bodies;
  }

  -- the part of a role
  record PartOf (me : Name) : Type 0 where
    k : Part j
    is_role : role_of (role_class k.me) ≡ Some k
    same : k.me ≡ me

  its_part : (me : Name) → Contains roles me → PartOf me
  its_part me i = go (role_of (role_class me)) refl
    where
      go : (x : Option (Part j)) → role_of (role_class me) ≡ x → PartOf me
      go None e = absurd (unknown (role_class me) e me i refl)
      go (Some k) e =
          let same : me ≡ k.me = append_cancel_right me k.me (codes "Role") (known (role_class me) k e).named in
          record { k = k; is_role = subst (λ m. role_of (role_class m) ≡ Some k) same e; same = sym same }

  no_role : (c : Name) → IsNoRole roles c → role_of c ≡ None
  no_role c h = go (found_so c roles (λ me i. i))
    where
      go : {x : Option (Part j)} → Found c roles x → x ≡ None
      go (lacks lacking) = refl
      go (finds i g) = absurd (h _ i g)

  module _ (a : Asking) {classes : ℕ → Option Name} (run : Ended) (stop : Stops (stage_of a) classes run.finish run.events) where
    abbrev stage : Stage
    stage = stage_of a

    open_so : (me : Name) → Contains roles me → (o : ℕ) → IsMade run.events o (role_class me) →
        (method : Name) → open_told (told o run.events) ≡ Some method →
        EndsInCall j me (protocols me) o run.events inputs run.finish
    open_so me i o made method is_open =
        let p : PartOf me = its_part me i in
        let now : IsMade run.events o (role_class p.k.me) = subst (λ m. IsMade run.events o (role_class m)) (sym p.same) made in
        let alone : (c : Name) → IsMade run.events o c → c ≡ role_class p.k.me = λ c m. stop.unique o c (role_class p.k.me) m now in
        subst (λ m. EndsInCall j m (protocols m) o run.events inputs run.finish) p.same
        (ends_so stage o p.k p.is_role (protocols p.k.me) (known (role_class p.k.me) p.k p.is_role).doings run.events method alone is_open
        stop.ends (reading stage o p.k p.is_role run.events alone stop.ran))

    -- the reading of an object behind some events
    read_at : (so_far later : List Event) → run.events ≡ so_far ++ later → (at : At stage) → Ran stage [] Out so_far at →
        (p : ℕ) (k : Part j) → (of : IsOf stage so_far p k) →
        Read (results_of j (role_class k.me)) k.me k.firsts p so_far
        (stand stage p k of.is_role at)
    read_at so_far later is at ran p k of =
        reading stage p k of.is_role so_far (λ c m. stop.unique p c (role_class k.me)
        (subst (λ es. IsMade es p c) (sym is) (contains_more so_far later (seen.Made p c) m))
        (subst (λ es. IsMade es p (role_class k.me)) (sym is) (contains_more so_far later (seen.Made p (role_class k.me)) of.made))) ran

    at_itself : {A : Type 0} (P : A → Type 0) (p : ℕ) (x y : A) → P (if eqb p p then x else y) → P x
    at_itself P p x y h = subst (λ (b : Bool). P (if b then x else y)) (self_same p) h

    in_calls : a.Calm → IsOther run.finish ⊎ IsInCall roles run.events
    in_calls calm = go stop.at stop.ran stop.ends
      where
        go : (at : At stage) → Ran stage [] Out run.events at → {f : Finish} → EndsAt stage run.events at f → IsOther f ⊎
            IsInCall roles run.events
        go Out ran (out h) = inl (h calm)
        go (In p k m) ran {f = f} (inside of h) = inl (cut_is_other f h)
        go (In p k m) ran (halted of c is h) =
            let r = at_itself (Read (results_of j (role_class k.me)) k.me k.firsts p run.events) p (old.In m) old.Out
            (read_at run.events [] (sym (append-nil run.events)) (In p k m) ran p k of) in
            inr (record {
              me = k.me;
              is_one = (known (role_class k.me) k of.is_role).listed;
              object = p;
              made = of.made;
              method = m;
              is_open = r.still_open;
            })
        go (Did p k (Moves message)) ran e = elim e [ ]
        go (Did p k (Looks n q l)) ran (refused before of looked c without) =
            let r = at_itself (Read (results_of j (role_class k.me)) k.me k.firsts p run.events) p (old.Did (Looks n q l)) old.Out
            (read_at run.events [] (sym (append-nil run.events)) (Did p k (Looks n q l)) ran p k of) in
            inr (record {
              me = k.me;
              is_one = (known (role_class k.me) k of.is_role).listed;
              object = p;
              made = of.made;
              method = _;
              is_open = r.still_open;
            })

    done_in_call : a.Calm → (so_far : List Event) (event : Event) (later : List Event) →
        run.events ≡ so_far ++ event ∷ later →
        (deed : Deed) → deed_of event ≡ deed ∷ [] →
        IsDoneInCall j roles protocols so_far deed
    done_in_call calm so_far event later is deed d =
        let p = part stage so_far [] (subst (λ es. Ran stage [] Out es stop.at) is stop.ran) in
        go p.at p.before p.behind
      where
        now : (at : At stage) → Ran stage [] Out so_far at → {t : At stage} (f : Event) → deed_of f ≡ deed ∷ [] →
            Goes stage so_far at f t →
            IsDoneInCall j roles protocols so_far deed
        now Out ran f d (elsewhere h q) = absurd (deed_or (sym (h calm) ∙ d))
        now Out ran f d (enters of) = absurd (deed_or d)
        now (In p k m) ran f d (does {act = act} of own same e q) =
            let r = at_itself (Read (results_of j (role_class k.me)) k.me k.firsts p so_far) p (old.In m) old.Out
            (read_at so_far (event ∷ later) is (In p k m) ran p k of) in
            record {
              me = k.me;
              is_one = (known (role_class k.me) k of.is_role).listed;
              object = p;
              made = of.made;
              doing = own.doing;
              stands = undone stage p k of.is_role (protocols k.me) (known (role_class k.me) k of.is_role).doings so_far m own.doing
                  own.is_first (called_so k.me own.doing act own.of ∙ same) r;
              act = act;
              in_call = sym (called_so k.me own.doing act own.of);
              is = first_of (sym d ∙ e);
            }
          where
            first_of : {x y : Deed} → x ∷ [] ≡ y ∷ [] → x ≡ y
            first_of e = cc
        now (Did p k act) ran f d (leaves of h) = absurd (deed_or d)

        go : (at : At stage) → Ran stage [] Out so_far at → {t : At stage} → Ran stage so_far at (event ∷ later) t →
            IsDoneInCall j roles protocols so_far deed
        go at ran (goes g more) = now at ran event d g

    of_one : a.Calm → (me : Name) → Contains roles me → (o : ℕ) → IsMade run.events o (role_class me) →
        ((you : Name) (p : ℕ) → Contains roles you → IsMade run.events p (role_class you) → p ≡ o) →
        (so_far later : List Event) → run.events ≡ so_far ++ later → deeds so_far ≡ acts o so_far
    of_one calm me i o made only so_far later is =
        let p : PartOf me = its_part me i in
        let now : IsMade run.events o (role_class p.k.me) = subst (λ m. IsMade run.events o (role_class m)) (sym p.same) made in
        let cut = part stage so_far [] (subst (λ es. Ran stage [] Out es stop.at) is stop.ran) in
        its_acts stage o p.k p.is_role so_far [] calm
        (λ c m. stop.unique o c (role_class p.k.me) (whole (seen.Made o c) m) now)
        (λ q r of. only r.me q (known (role_class r.me) r of.is_role).listed (whole (seen.Made q (role_class r.me)) of.made)) cut.before
      where
        whole : (e : Event) → Contains so_far e → Contains run.events e
        whole e c = subst (λ es. Contains es e) (sym is) (contains_more so_far later e c)

  -- nothing is asked but that, where only roles' classes call `Session`, others don't
  abbrev loosely : Asking
  loosely = record {
    Calm = OnlyRolesCall j roles;
    Few = ⊥;
    Plain = Any;
    on_object = λ m e. tt;
    bodies = λ c class e none. all_calm j (OnlyRolesCall j roles) (λ c. role_of c ≡ None) c class.methods
        (λ calm. calm.others c class e (unknown c none));
  }

  abbrev all_stands : (class : Name) (budget : ℕ) →
      Stops (stage_of loosely) (λ p. None) (mean j class inputs budget).finish (mean j class inputs budget).events
  all_stands class budget = stands (stage_of loosely) (λ n. tt) class budget

  -- ---- a `main` that makes one object

  module _ (quiet : OnlyMainsPlay j roles) where
    abbrev quietly : Asking
    quietly = record {
      Calm = Unit {0};
      Few = Unit {0};
      Plain = NoMain;
      on_object = on_object_no_main;
      bodies = λ c class e none. all_quiet j roles (λ c. role_of c ≡ None) no_role c class.methods
          (quiet.others c class e (unknown c none));
    }

    module _ (me : Name) (p : PartOf me) where
      starts_so : (sc : Scope) (ss : Stmts) → MakesOne j roles (role_class p.k.me) sc ss → Starts (stage_of quietly) p.k p.is_role sc ss
      starts_so sc _ (one_here {x = x} {rest = rest} k) =
          here_so (in_all_quiet j roles (λ c. role_of c ≡ None) no_role (declare x sc) rest k)
      starts_so sc _ (behind {s = s} {rest = rest} straight k more) =
          behind_so straight (in_quiet j roles (λ c. role_of c ≡ None) no_role sc s k) (starts_so (behind_it s sc) rest more)

      all_start : (c : Name) (ms : List Method) →
          AllByRecursion (λ (m : Method). is_main m ≡ true → MakesOne j roles (role_class me) (scope_of c m) m.body) ms →
          AllByRecursion (λ (m : Method). is_main m ≡ true → Starts (stage_of quietly) p.k p.is_role (scope_of c m) m.body) ms
      all_start c [] k = tt
      all_start c (m ∷ ms) k = (
        (λ e. starts_so (scope_of c m) m.body (subst (λ n. MakesOne j roles (role_class n) (scope_of c m) m.body) (sym p.same) (k.0 e))),
        all_start c ms k.1,
      )

    module _ (me : Name) (i : Contains roles me) (class : Name) (plays : MainPlaysOne j roles me class) (budget : ℕ) where
      abbrev its_run : Ended
      its_run = mean j class inputs budget

      done_by_one : (p : PartOf me) → Once (stage_of quietly) p.k p.is_role its_run →
          IsDoneByOne j roles me (protocols me) inputs its_run
      done_by_one p (none_made unfinished w) =
          not_yet absent (no_deeds [] its_run.events (λ so_far e later is d f.
          let c = done_in_call quietly its_run w tt so_far e later is d f in
          absent c.me c.object c.is_one (subst (λ es. IsMade es c.object (role_class c.me)) (sym is)
          (contains_more so_far (e ∷ later) (seen.Made c.object (role_class c.me)) c.made))))
          (⊎_elim (λ other. busy its_run.finish other unfinished) (λ c. absurd (absent c.me c.object c.is_one c.made))
          (in_calls quietly its_run w tt))
        where
          absent : (you : Name) (q : ℕ) → Contains roles you → IsMade its_run.events q (role_class you) → ⊥
          absent you q at made = unknown (role_class you)
              (nobody (stage_of quietly) p.k p.is_role tt w q (role_class you) made) you at refl
      done_by_one p (one_made o w) =
          by_one o made alone (of_one quietly its_run w tt me i o made alone)
          (⊎_elim inl (λ c. inr (open_so quietly its_run w me i o made c.method
          (subst (λ q. open_told (told q its_run.events) ≡ Some c.method) (alone c.me c.object c.is_one c.made) c.is_open)))
          (in_calls quietly its_run w tt))
        where
          made : IsMade its_run.events o (role_class me)
          made = subst (λ m. IsMade its_run.events o (role_class m)) p.same (made_it (stage_of quietly) p.k p.is_role o w)

          alone : (you : Name) (q : ℕ) → Contains roles you → IsMade its_run.events q (role_class you) → q ≡ o
          alone you q at m = ⊎_elim (λ n. absurd (unknown (role_class you) n you at refl)) (λ e. e)
              (it_alone (stage_of quietly) p.k p.is_role tt o w q (role_class you) m)

      alone_so : IsDoneByOne j roles me (protocols me) inputs its_run
      alone_so =
          let p : PartOf me = its_part me i in
          done_by_one p (once_so (stage_of quietly) p.k p.is_role tt class (no_role class plays.plain)
          (λ c e. all_start me p class c.methods (plays.main c e)) budget)

pub ends_fit_calls : EndsFitCalls
ends_fit_calls j typestates roles protocols has class inputs budget me i o made method is_open =
    open_so j typestates roles protocols has inputs (loosely j typestates roles protocols has inputs) (mean j class inputs budget)
    (all_stands j typestates roles protocols has inputs class budget) me i o made method is_open

pub ends_are_in_calls : EndsAreInCalls
ends_are_in_calls j typestates roles protocols has calm class inputs budget =
    in_calls j typestates roles protocols has inputs (loosely j typestates roles protocols has inputs) (mean j class inputs budget)
    (all_stands j typestates roles protocols has inputs class budget) calm

pub deeds_are_in_calls : DeedsAreInCalls
deeds_are_in_calls j typestates roles protocols has calm class inputs budget so_far event later is deed d =
    done_in_call j typestates roles protocols has inputs (loosely j typestates roles protocols has inputs) (mean j class inputs budget)
    (all_stands j typestates roles protocols has inputs class budget) calm so_far event later is deed d

pub deeds_are_of_one : DeedsAreOfOne
deeds_are_of_one j typestates roles protocols has calm class inputs budget me i o made only so_far later is =
    of_one j typestates roles protocols has inputs (loosely j typestates roles protocols has inputs) (mean j class inputs budget)
    (all_stands j typestates roles protocols has inputs class budget) calm me i o made only so_far later is

pub plays_alone : PlaysAlone
plays_alone j typestates roles protocols has quiet me i class plays inputs budget =
    alone_so j typestates roles protocols has inputs quiet me i class plays budget

-- What the object of a role may do next, where it waits, mismatches or is refused, and that it is at the end where the role has returned.
use Rattle.std.proofs.Common.{◌≡◌, false, ℕ, suc, ◌+◌, List, [], ◌∷◌, ◌++◌, map, length, Option, Some, None, option_and_then, refl}
use Rattle.std.proofs.Common.{sym, ap, ◌∙◌, subst, append-nil, arith, ◌⊎◌, inl, inr}
use Rattle.std.proofs.lemmas.List.{length-append, map-append}
use Rattle.std.specs.Prelude.{Contains}
use Rattle.std.specs.List.{AllByRecursion}
use Rattle.mg_text.specs.Call.{Name, Call}
use Rattle.mg_text.specs.declared.event.Event.{Event}
use Rattle.scr_tree.specs.Tree.{LocalTree}
use Rattle.scr_tree.specs.Valid.{IsValid}
use Rattle.scr_tree.specs.Meaning.{first_of, protocol_of}
use Rattle.scr_tree.specs.Protocol.{Parts}
use Rattle.scr_tree.specs.Steps.{Act, Moves, Looks, Position, whole, start, nothing_left, after_silent, stays, goes}
use Rattle.scr_tree.specs.Steps.{Run as RunIn, Step as StepIn, Finished as FinishedIn}
use Rattle.scr_tree.specs.CallNames as names
use Rattle.scr_tree.specs.CallNames.{label_call}
use Rattle.scr_tree.specs.Traces.{Trace, Complete}
use Rattle.scr_global.specs.Alone.{Step, Run, Finished}
use Rattle.fit_law.proofs.Inside.{Says, SaysAt, silent_says, step_says, run_says, peer_at}
use Rattle.ts_tree.specs.Typestate.{Typestate}
use Rattle.ts_tree.specs.Calls.{Path, Ends}
use Rattle.jv_tree.specs.Source.{Class}
use Rattle.stm_gen.specs.Numbered.{typestate_of}
use Rattle.stm_api.specs.Doings.{Doing, Passes, Asks, all_doings, call_of}
use Rattle.stm_acts.specs.Acts.{Looked, unnumbered, acts}
use Rattle.stm_acts.specs.Played.{role_class, HasRole, OpenActs, none_yet, its_own, Refuses, Played, plays, refuses}
use Rattle.stm_acts.proofs.Joined.{acts_are_steps, called_so}
use Rattle.stm_acts.proofs.Premises.{CallsTellApart}
use Rattle.stm_acts.proofs.Standing.{Of}
use Rattle.stm_acts.proofs.Steps.{OneOf, IsLabelled, run_front, steps_are_doings}
use Rattle.stm_acts.proofs.Valid.{calls_tell_apart, has_one_peers, there}
use Rattle.jv_values.specs.Alike.{Prefix}
use Rattle.jv_values.specs.Values.{Inputs, Ended, Done, Mismatch}
use Rattle.jv_values.specs.Seen.{IsMade, told, open_told}
use Rattle.jv_meaning.specs.Program.{Sources, typestate_named}
use Rattle.jv_meaning.specs.Meaning.{mean}
use Rattle.jv_meaning.specs.Calls as calls_of
use Rattle.jv_meaning.specs.Calls.{calls}
use Rattle.stm_acts.specs.Ends.{StandsAt, HasRefused}
use Rattle.fit_law.specs.Fit.{IsHad, KeepsTo}
use Rattle.fit_law.proofs.Deeds.{Walked, walked, but_look, same_end}
use Rattle.fit_law.proofs.Offered.{generated_sound, on_path, left_ends}

some_is : {A : Type 0} {a b : A} → Some a ≡ Some b → a ≡ b
some_is e = cc

nothing_long : {A : Type 0} (xs : List A) → length xs ≡ 0 → xs ≡ []
nothing_long [] e = refl
nothing_long (x ∷ xs) e = absurd (omega (arith, e))

map_long : {A B : Type 0} (f : A → B) (xs : List A) → length (map f xs) ≡ length xs
map_long f [] = refl
map_long f (x ∷ xs) = ap suc (map_long f xs)

-- acts of one doing with one call are the same
one_act : (me : Name) (d : Doing) (a b : Act) → Of d a → Of d b → names.call_of me a ≡ names.call_of me b → a ≡ b
one_act me (Passes m) (Moves x) (Moves y) h k e = ap Moves (sym h ∙ k)
one_act me (Asks n q labels) (Looks x p l) (Looks y r k) h g e =
    let same : l ≡ k = label (ap (λ (c : Call). c.answer) e) in
    ap (λ z. Looks z p l) (sym h.0 ∙ g.0) ∙ ap (λ z. Looks y z l) (sym h.1 ∙ g.1) ∙ ap (λ z. Looks y r z) same
  where
    label : {l k : Name} → Some l ≡ Some k → l ≡ k
    label e = cc
one_act me (Passes m) (Looks k p l) b h g e = absurd h
one_act me (Passes m) (Moves x) (Looks k p l) h g e = absurd g
one_act me (Asks n q labels) (Moves x) b h g e = absurd h
one_act me (Asks n q labels) (Looks k p l) (Moves x) h g e = absurd g

-- calls that end so
record CallsEnd (me : Name) (xs : List Act) (cs : List Call) (c : Call) : Type 0 where
  front : List Act
  last : Act
  is : xs ≡ front ++ last ∷ []
  before : map (names.call_of me) front ≡ cs
  call : names.call_of me last ≡ c

calls_end : (me : Name) (xs : List Act) (cs : List Call) (c : Call) → map (names.call_of me) xs ≡ cs ++ c ∷ [] → CallsEnd me xs cs c
calls_end me [] [] c e = absurd (cc e)
calls_end me [] (d ∷ cs) c e = absurd (cc e)
calls_end me (x ∷ []) [] c e = record { front = []; last = x; is = refl; before = refl; call = heads e }
  where
    heads : {a b : Call} {as' bs : List Call} → a ∷ as' ≡ b ∷ bs → a ≡ b
    heads e = cc
calls_end me (x ∷ (y ∷ xs)) [] c e = absurd (let f = tails e in cc)
  where
    tails : {a b : Call} {as' bs : List Call} → a ∷ as' ≡ b ∷ bs → as' ≡ bs
    tails e = cc
calls_end me (x ∷ xs) (d ∷ cs) c e =
    let more = calls_end me xs cs c (tails e) in
    record {
      front = x ∷ more.front;
      last = more.last;
      is = ap (λ l. x ∷ l) more.is;
      before = ap (λ l. names.call_of me x ∷ l) more.before ∙ ap (λ h. h ∷ cs) (heads e);
      call = more.call;
    }
  where
    heads : {a b : Call} {as' bs : List Call} → a ∷ as' ≡ b ∷ bs → a ≡ b
    heads e = cc

    tails : {a b : Call} {as' bs : List Call} → a ∷ as' ≡ b ∷ bs → as' ≡ bs
    tails e = cc

-- the last step of a run
record LastIn (parts : Parts) (p : Position) (front : List Act) (last : Act) (q : Position) : Type 0 where
  at : Position
  run : RunIn parts p front at
  step : StepIn parts at last q

last_in : {parts : Parts} {p q : Position} (front : List Act) {last : Act} → RunIn parts p (front ++ last ∷ []) q →
    LastIn parts p front last q
last_in {p = p} [] (goes step stays) = record { at = p; run = stays; step = step }
last_in {p = p} (a ∷ front) (goes step run) =
    let more = last_in front run in
    record { at = more.at; run = goes step more.run; step = more.step }

run_on : {parts : Parts} {p q to : Position} (front : List Act) {last : Act} → RunIn parts p front q → StepIn parts q last to →
    RunIn parts p (front ++ last ∷ []) to
run_on [] stays step = goes step stays
run_on (a ∷ front) (goes first run) step = goes first (run_on front run step)

last_of_all : (P : Act → Type 0) (xs : List Act) (a : Act) → AllByRecursion P (xs ++ a ∷ []) → P a
last_of_all P [] a h = h.0
last_of_all P (x ∷ xs) a h = last_of_all P xs a h.1

front_of_all : (P : Act → Type 0) (xs ys : List Act) → AllByRecursion P (xs ++ ys) → AllByRecursion P xs
front_of_all P [] ys h = tt
front_of_all P (x ∷ xs) ys h = (h.0, front_of_all P xs ys h.1)

module _ (me : Name) (protocol : Parts) (apart : CallsTellApart me protocol) where
  abbrev all : List Doing
  all = all_doings protocol

  same_doing : (a : Act) → (one : OneOf all a) → (doing : Doing) → Contains all doing → call_of me doing ≡ (names.call_of me a).method →
      one.doing ≡ doing
  same_doing a one doing c e = apart one.doing doing (there all one.doing one.is_one) c (called_so me one.doing a one.of ∙ sym e)

  same_acts : (xs ys : List Act) → AllByRecursion (OneOf all) xs → AllByRecursion (OneOf all) ys →
      map (names.call_of me) xs ≡ map (names.call_of me) ys → xs ≡ ys
  same_acts [] [] h k e = refl
  same_acts [] (y ∷ ys) h k e = absurd (cc e)
  same_acts (x ∷ xs) [] h k e = absurd (cc e)
  same_acts (x ∷ xs) (y ∷ ys) h k e =
      let one : names.call_of me x ≡ names.call_of me y = heads e in
      let is : x ≡ y = same_act x y h.0 k.0 one in
      ap (λ a. a ∷ xs) is ∙ ap (λ l. y ∷ l) (same_acts xs ys h.1 k.1 (tails e))
    where
      heads : {a b : Call} {as' bs : List Call} → a ∷ as' ≡ b ∷ bs → a ≡ b
      heads e = cc

      tails : {a b : Call} {as' bs : List Call} → a ∷ as' ≡ b ∷ bs → as' ≡ bs
      tails e = cc

      same_act : (a b : Act) → OneOf all a → OneOf all b → names.call_of me a ≡ names.call_of me b → a ≡ b
      same_act a b h k e =
          let same = same_doing b k h.doing (there all h.doing h.is_one)
          (called_so me h.doing a h.of ∙ ap (λ (c : Call). c.method) e) in
          one_act me h.doing a b h.of (subst (λ d. Of d b) same k.of) e

module _ (j : Sources) (typestates : List Typestate) (L : LocalTree) (valid : ∥ IsValid L ∥₁) (had : IsHad j typestates L)
    (P : Name → Type 0) (says : Says P (first_of L)) where
  abbrev parts : Parts
  parts = protocol_of L

  abbrev has : HasRole j typestates L.me parts
  has = had.role

  says_at : SaysAt P (whole (first_of L))
  says_at = (says, tt, tt)

  apart : CallsTellApart L.me parts
  apart = calls_tell_apart L valid

  are_doings : {q : Position} {xs : List Act} → RunIn parts (start parts) xs q → AllByRecursion (OneOf (all_doings parts)) xs
  are_doings run = steps_are_doings parts (has_one_peers L valid) run

  -- the typestate of the class
  typestate_is : calls_of.typestate_of j typestates (role_class L.me) ≡ Some (typestate_of L)
  typestate_is = ap (λ c. option_and_then (typestate_named typestates) (option_and_then (λ (k : Class). k.typestate) c)) has.class ∙
      had.typestate

  agreed : has.typestate ≡ typestate_of L
  agreed = some_is (sym has.named ∙ had.typestate)

  -- an act of this doing may come next, behind these acts
  pub record NextStep (closed : List Act) (doing : Doing) : Type 0 where
    pub at : Position
    pub run : Run (whole (first_of L)) closed at
    pub act : Act
    pub to : Position
    pub step : Step at act to
    pub of : Of doing act
    pub peer : P (peer_at P act)

  next_of : (closed : List Act) {end : Position} → RunIn parts (start parts) closed end → (cs : List Call) →
      map (names.call_of L.me) closed ≡ cs →
      (doing : Doing) → Contains (all_doings parts) doing → Path (typestate_of L) cs (Some (call_of L.me doing)) → NextStep closed doing
  next_of closed ran cs of_calls doing among path =
      let o = on_path (typestate_of L) (generated_sound L) cs (call_of L.me doing) path in
      let c : Call = record { method = call_of L.me doing; answer = o.answer } in
      let trace : Trace L.me parts (cs ++ c ∷ []) =
      (has.agrees.paths (cs ++ c ∷ [])).1 (subst (λ t. Path t (cs ++ c ∷ []) None) (sym agreed) o.path) in
      let e = calls_end L.me trace.0 cs c trace.3 in
      let run : RunIn parts (start parts) (e.front ++ e.last ∷ []) trace.1 =
      subst (λ xs. RunIn parts (start parts) xs trace.1) e.is trace.2 in
      let ones = are_doings run in
      let same : e.front ≡ closed =
      same_acts L.me parts apart e.front closed (front_of_all (OneOf (all_doings parts)) e.front (e.last ∷ []) ones) (are_doings ran)
      (e.before ∙ sym of_calls) in
      let l = last_in e.front run in
      let alone = run_says P [] l.run says_at in
      let s = step_says P [] l.step alone.1 in
      let one = last_of_all (OneOf (all_doings parts)) e.front e.last ones in
      record {
        at = l.at;
        run = subst (λ xs. Run (whole (first_of L)) xs l.at) same alone.0;
        act = e.last;
        to = trace.1;
        step = s.step;
        of = subst (λ d. Of d e.last)
            (same_doing L.me parts apart e.last one doing among (sym (ap (λ (x : Call). x.method) e.call))) one.of;
        peer = s.peer;
      }

  -- a label that can be looked at is one of the look's
  pub label_known : (closed : List Act) {at to : Position} {n : ℕ} {peer label : Name} {labels : List Name} →
      Run (whole (first_of L)) closed at → Step at (Looks n peer label) to → Contains (all_doings parts) (Asks n peer labels) →
      Contains labels label
  label_known closed {at} {to} {n} {peer} {label} {labels} run step asked =
      let r = run_says P parts run says_at in
      let s = step_says P parts step r.1 in
      let one = last_of_all (OneOf (all_doings parts)) closed (Looks n peer label) (are_doings (run_on closed r.0 s.step)) in
      let same : one.doing ≡ Asks n peer labels =
      same_doing L.me parts apart (Looks n peer label) one (Asks n peer labels) asked refl in
      there labels label (subst (λ d. IsLabelled d (Looks n peer label)) same one.labelled)

  -- what is finished in the parts is so alone
  finished_alone : {p : Position} → FinishedIn parts p → SaysAt P p → Finished p
  finished_alone nothing_left h = nothing_left
  finished_alone (after_silent s f) h = let k = silent_says P [] s h in after_silent k.0 (finished_alone f k.1)

  module _ (class : Name) (inputs : Inputs) (budget : ℕ) where
    abbrev run_of : Ended
    run_of = mean j class inputs budget

    module _ (keeps : KeepsTo j typestates run_of) (o : ℕ) (made : IsMade run_of.events o (role_class L.me)) where
      all_of_it : Prefix run_of.events run_of.events
      all_of_it = record { later = []; is = sym (append-nil run_of.events) }

      played : (so_far later : List Event) → run_of.events ≡ so_far ++ later →
          Played L.me parts (calls j (role_class L.me) o so_far) (open_told (told o so_far)) (acts o so_far) so_far run_of
      played so_far later is =
          acts_are_steps j typestates L valid has class inputs budget (keeps.follows run_of.events all_of_it) o made so_far later is

      -- a run of its acts so far
      pub runs_so : (so_far later : List Event) → run_of.events ≡ so_far ++ later →
          (end : Position) × Walked false (first_of L) (acts o so_far) end
      runs_so so_far later is = go (played so_far later is)
        where
          go : Played L.me parts (calls j (role_class L.me) o so_far) (open_told (told o so_far)) (acts o so_far) so_far run_of →
              (end : Position) × Walked false (first_of L) (acts o so_far) end
          go (plays p) = (p.end, walked (p.closed ++ p.last) (run_says P [] p.run says_at).0 p.are)
          go (refuses s) = (s.end, but_look refl s.peer s.label s.closed (run_says P [] s.run says_at).0 s.are)

      -- all its acts so far are a run, or the last is a look at a label of no branch
      pub exactly_so : (so_far later : List Event) → run_of.events ≡ so_far ++ later →
          ((end : Position) × (all : List Act) × Run (whole (first_of L)) all end × (acts o so_far ≡ map unnumbered all))
          ⊎ Refuses L.me parts (calls j (role_class L.me) o so_far) (open_told (told o so_far)) (acts o so_far) so_far run_of
      exactly_so so_far later is = go (played so_far later is)
        where
          go : Played L.me parts (calls j (role_class L.me) o so_far) (open_told (told o so_far)) (acts o so_far) so_far run_of →
              ((end : Position) × (all : List Act) × Run (whole (first_of L)) all end × (acts o so_far ≡ map unnumbered all))
              ⊎ Refuses L.me parts (calls j (role_class L.me) o so_far) (open_told (told o so_far)) (acts o so_far) so_far run_of
          go (plays p) = inl (p.end, p.closed ++ p.last, (run_says P [] p.run says_at).0, p.are)
          go (refuses s) = inr s

      whole_path : (name : Name) → open_told (told o run_of.events) ≡ Some name →
          Path (typestate_of L) (calls j (role_class L.me) o run_of.events) (Some name)
      whole_path name is =
          let path = (keeps.follows run_of.events all_of_it).path o (role_class L.me) made in
          let same : path.typestate ≡ typestate_of L = some_is (sym path.named ∙ typestate_is) in
          subst (λ t. Path t (calls j (role_class L.me) o run_of.events) (Some name)) same
          (subst (λ m. Path path.typestate (calls j (role_class L.me) o run_of.events) m) is path.path)

      -- where it stands in a call, an act of the call comes next
      pub record Ahead (doing : Doing) : Type 0 where
        pub closed : List Act
        pub are : acts o run_of.events ≡ map unnumbered closed
        pub next : NextStep closed doing

      pub ahead : (doing : Doing) → StandsAt j L.me parts o run_of.events doing → Ahead doing
      ahead doing st = go (played run_of.events [] (sym (append-nil run_of.events)))
        where
          long : (xs : List Act) → length (map unnumbered xs) ≡ length xs
          long xs = map_long unnumbered xs

          go : Played L.me parts (calls j (role_class L.me) o run_of.events) (open_told (told o run_of.events)) (acts o run_of.events)
              run_of.events run_of → Ahead doing
          go (plays p) =
              let a : length (acts o run_of.events) ≡ length (p.closed ++ p.last) = ap length p.are ∙ long (p.closed ++ p.last) in
              let b : length (p.closed ++ p.last) ≡ length p.closed + length p.last = length-append p.closed p.last in
              let c : length p.closed ≡ length (calls j (role_class L.me) o run_of.events) =
              sym (map_long (names.call_of L.me) p.closed) ∙ ap length p.of_calls in
              let u = st.undone in
              let none : p.last ≡ [] = nothing_long p.last (omega (arith, a, b, c, u)) in
              let same : p.closed ++ p.last ≡ p.closed = ap (λ l. p.closed ++ l) none ∙ append-nil p.closed in
              record {
                closed = p.closed;
                are = p.are ∙ ap (map unnumbered) same;
                next = next_of p.closed (subst (λ xs. RunIn parts (start parts) xs p.end) same p.run)
                    (calls j (role_class L.me) o run_of.events) p.of_calls doing st.is_one (whole_path (call_of L.me doing) st.in_call);
              }
          go (refuses s) =
              let a : length (acts o run_of.events) ≡ length s.closed + 1 =
              ap length s.are ∙ length-append (map unnumbered s.closed) (Looked s.peer s.label ∷ []) ∙ ap (λ n. n + 1) (long s.closed) in
              let c : length s.closed ≡ length (calls j (role_class L.me) o run_of.events) =
              sym (map_long (names.call_of L.me) s.closed) ∙ ap length s.of_calls in
              let u = st.undone in
              absurd (omega (arith, a, c, u))

      -- a refused look is the one of its refusals
      pub refusal : (q l : Name) → HasRefused j L.me parts o run_of.events q l → run_of.finish ≡ Mismatch q l →
          Refuses L.me parts (calls j (role_class L.me) o run_of.events) (open_told (told o run_of.events)) (acts o run_of.events)
          run_of.events run_of
      refusal q l x ended = go (played run_of.events [] (sym (append-nil run_of.events)))
        where
          go : Played L.me parts (calls j (role_class L.me) o run_of.events) (open_told (told o run_of.events)) (acts o run_of.events)
              run_of.events run_of →
              Refuses L.me parts (calls j (role_class L.me) o run_of.events) (open_told (told o run_of.events))
              (acts o run_of.events) run_of.events run_of
          go (refuses s) = s
          go (plays p) = by_last p.last refl
            where
              long : length (p.closed ++ p.last) ≡ suc (length p.closed)
              long =
                  let a : length (acts o run_of.events) ≡ length (p.closed ++ p.last) =
                  ap length p.are ∙ map_long unnumbered (p.closed ++ p.last) in
                  let b : length (acts o run_of.events) ≡ length x.closed + 1 = ap length x.are ∙
                  length-append x.closed (Looked q l ∷ []) in
                  let c : length x.closed ≡ length (calls j (role_class L.me) o run_of.events) = x.as_many in
                  let d : length p.closed ≡ length (calls j (role_class L.me) o run_of.events) =
                  sym (map_long (names.call_of L.me) p.closed) ∙ ap length p.of_calls in
                  omega (arith, a, b, c, d)

              by_last : (last : List Act) → p.last ≡ last →
                  Refuses L.me parts (calls j (role_class L.me) o run_of.events) (open_told (told o run_of.events))
                  (acts o run_of.events) run_of.events run_of
              by_last [] e =
                  let a = long in
                  let b : length (p.closed ++ p.last) ≡ length p.closed = ap (λ z. length (p.closed ++ z)) e ∙
                  ap length (append-nil p.closed)
                  in
                  absurd (omega (arith, a, b))
              by_last (act ∷ (other_act ∷ more)) e =
                  let a = long in
                  let b : length (p.closed ++ p.last) ≡ length p.closed + length p.last = length-append p.closed p.last in
                  let c : length p.last ≡ suc (suc (length more)) = ap length e in
                  absurd (omega (arith, a, b, c))
              by_last (act ∷ []) e =
                  let is : acts o run_of.events ≡ map unnumbered p.closed ++ unnumbered act ∷ [] =
                  p.are ∙ ap (λ z. map unnumbered (p.closed ++ z)) e ∙ map-append unnumbered p.closed (act ∷ []) in
                  let same : unnumbered act ≡ Looked q l =
                  (same_end (map unnumbered p.closed) x.closed (unnumbered act) (Looked q l) (sym is ∙ x.are)).last in
                  record {
                    closed = p.closed;
                    end = (run_front p.closed p.last p.run).0;
                    run = (run_front p.closed p.last p.run).1;
                    of_calls = p.of_calls;
                    number = x.number;
                    peer = q;
                    label = l;
                    labels = x.labels;
                    asked = x.asked;
                    no_branch = x.no_branch;
                    of_open = x.in_call;
                    are = is ∙ ap (λ z. map unnumbered p.closed ++ z ∷ []) same;
                    is_all = refl;
                    ends = ended;
                  }

      -- where it refuses a label, an act of the look comes next
      pub refused_ahead : (s : Refuses L.me parts (calls j (role_class L.me) o run_of.events) (open_told (told o run_of.events))
          (acts o run_of.events) run_of.events run_of) → NextStep s.closed (Asks s.number s.peer s.labels)
      refused_ahead s =
          next_of s.closed s.run (calls j (role_class L.me) o run_of.events) s.of_calls (Asks s.number s.peer s.labels) s.asked
          (whole_path (label_call L.me s.number s.peer) s.of_open)

      -- where the role has returned it is at the end
      module _ (done : run_of.finish ≡ Done) where
        pub completes : Complete L.me parts (calls j (role_class L.me) o run_of.events)
        completes =
            let f = (keeps.finished done).ends o (role_class L.me) made in
            let same : f.typestate ≡ typestate_of L = some_is (sym f.named ∙ typestate_is) in
            let e : Ends (typestate_of L) (calls j (role_class L.me) o run_of.events) =
            left_ends (typestate_of L) (generated_sound L) (calls j (role_class L.me) o run_of.events)
            (subst (λ t. Rattle.ts_tree.specs.Calls.MayBeLeft t (calls j (role_class L.me) o run_of.events)) same f.ends) in
            (has.agrees.ends (calls j (role_class L.me) o run_of.events)).1
            (subst (λ t. Ends t (calls j (role_class L.me) o run_of.events)) (sym agreed) e)

        pub record AtEnd : Type 0 where
          pub closed : List Act
          pub end : Position
          pub are : acts o run_of.events ≡ map unnumbered closed
          pub run : Run (whole (first_of L)) closed end
          pub finished : Finished end

        pub at_end : AtEnd
        at_end = go (played run_of.events [] (sym (append-nil run_of.events)))
          where
            none_open : {still_open : Option Name} {last : List Act} → OpenActs L.me still_open last → still_open ≡ None → last ≡ []
            none_open none_yet e = refl
            none_open its_own e = absurd (cc e)

            go : Played L.me parts (calls j (role_class L.me) o run_of.events) (open_told (told o run_of.events)) (acts o run_of.events)
                run_of.events run_of → AtEnd
            go (refuses s) = absurd (let f : Done ≡ Mismatch s.peer s.label = sym done ∙ s.ends in cc)
            go (plays p) =
                let none : p.last ≡ [] = none_open p.of_open ((keeps.finished done).closed o) in
                let same : p.closed ++ p.last ≡ p.closed = ap (λ l. p.closed ++ l) none ∙ append-nil p.closed in
                let ran : RunIn parts (start parts) p.closed p.end = subst (λ xs. RunIn parts (start parts) xs p.end) same p.run in
                let c = completes in
                let is : c.0 ≡ p.closed =
                same_acts L.me parts apart c.0 p.closed (are_doings c.2) (are_doings ran) (c.4 ∙ sym p.of_calls) in
                let alone = run_says P [] c.2 says_at in
                record {
                  closed = p.closed;
                  end = c.1;
                  are = p.are ∙ ap (map unnumbered) same;
                  run = subst (λ xs. Run (whole (first_of L)) xs c.1) is alone.0;
                  finished = finished_alone c.3 alone.1;
                }

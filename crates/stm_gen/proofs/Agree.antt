-- The typestate that is laid out allows exactly the calls of its protocol.
use Rattle.std.proofs.Common.{◌≡◌, ℕ, zero, suc, List, [], ◌∷◌, ◌++◌, map, Some, None, refl, sym, ap, ◌∙◌, subst, ◌⊎◌, ⊎_elim, arith, false}
use Rattle.std.specs.Prelude.{Option, IsSome, slice_get, option_and_then, Contains}
use Rattle.std.specs.List.{AllByRecursion}
use Rattle.std.proofs.lemmas.Option.{option_and_then_some}
use Rattle.mg_text.specs.Call.{Name, Call}
use Rattle.scr_tree.specs.Tree.{LocalTree}
use Rattle.scr_tree.specs.Meaning.{protocol_of}
use Rattle.scr_tree.specs.Protocol.{Message, Send, Take, Parts}
use Rattle.scr_tree.specs.declared.syntax.Payload.TheVariants as payloads
use Rattle.scr_tree.specs.Steps.{Act, Moves, Looks, Plain, Position, Step, Run, stays, goes}
use Rattle.scr_tree.specs.CallNames.{message_call, label_call, call_of}
use Rattle.scr_trace.specs.declared.standing.Standing.{Standing}
use Rattle.scr_trace.specs.declared.standing.Standing.TheVariants as standings
use Rattle.scr_trace.specs.Positions.{states_in, state_positions, ComesTo, at_state, at_end, silently}
use Rattle.scr_trace.specs.Onward.{Onward, steps_at}
use Rattle.scr_trace.specs.Graph.{Edge, Graph, IsStep, AreSteps, AreStates, Automates}
use Rattle.scr_trace.specs.inner.Goes.{Among}
use Rattle.scr_trace.proofs.Following.{AllSettled, states_settled, step_listed, listed_step, settled_at, edges_there, edge_of_step}
use Rattle.scr_trace.proofs.Following.{step_of_edge, steps_from, steps_to, finished_end, end_finished}
use Rattle.scr_trace.proofs.Telling.{AllDiffer, calls_from, Told, AllTold}
use Rattle.ts_tree.specs.declared.parts.TypeName.TheVariants as types
use Rattle.ts_tree.specs.declared.parts.To.{To}
use Rattle.ts_tree.specs.declared.parts.To.TheVariants as tos
use Rattle.ts_tree.specs.Typestate.{Method, State, Typestate}
use Rattle.ts_tree.specs.Proper.{IsOffered}
use Rattle.ts_tree.specs.Calls.{initial, led_by, offered_in, next, next_from, led, Fits}
use Rattle.stm_gen.specs.Laid.{result_of, to_of, method_of, branches_of, label_method, methods_of, state_name, choice_enum, AreLaid}
use Rattle.stm_gen.specs.inner.States.{states_from}
use Rattle.stm_gen.specs.Agreement.{Agrees}
use Rattle.stm_gen.proofs.Paths.{AllMessages, AllLooks, OneKind, messages, looks, one_kind, calls, methods-message, methods-look, leads}
use Rattle.stm_gen.proofs.Paths.{edge_leads, leads_edge}
use Rattle.stm_gen.proofs.Proper.{HaveOneSignature}

-- ---- lists

get_contains : {A : Type 0} (xs : List A) (k : ℕ) (x : A) → slice_get xs k ≡ Some x → Contains xs x
get_contains [] k x e = cc
get_contains (y ∷ ys) zero x e = (0, omega arith, cc e)
get_contains (y ∷ ys) (suc k) x e = let r = get_contains ys k x e in (suc r.0, omega (arith, r.1), r.2)

first_contains : {A : Type 0} (x y : A) (ys : List A) → y ≡ x → Contains (y ∷ ys) x
first_contains x y ys e = (0, omega arith, e)

later_contains : {A : Type 0} (x y : A) (ys : List A) → Contains ys x → Contains (y ∷ ys) x
later_contains x y ys c = (suc c.0, omega (arith, c.1), c.2)

some_same : {A : Type 0} {a b : A} {o : Option A} → o ≡ Some a → o ≡ Some b → a ≡ b
some_same e f = cc

some_inside : {A : Type 0} {a b : A} → Some a ≡ Some b → a ≡ b
some_inside e = cc

-- ---- the states of the typestate

state_there : (me : Name) (k : ℕ) (gs : List (List Edge)) (j : ℕ) (edges : List Edge) → slice_get gs j ≡ Some edges →
    (s : State) × (slice_get (states_from me k gs) j ≡ Some s) × (s.methods ≡ methods_of me edges)
state_there me k [] j edges e = cc
state_there me k (g ∷ gs) zero edges e =
    let f : g ≡ edges = cc e in (record { name = state_name k; methods = methods_of me g; drops = false }, refl, ap (methods_of me) f)
state_there me k (g ∷ gs) (suc j) edges e = state_there me (suc k) gs j edges e

-- no message is answered by a value of a named type
unnamed : (m : Message) (type : Name) → result_of m ≡ types.Named type → ⊥
unnamed (Send peer label kind) type e = cc
unnamed (Take peer label payloads.Nothing) type e = cc
unnamed (Take peer label payloads.Int) type e = cc
unnamed (Take peer label payloads.Boolean) type e = cc
unnamed (Take peer label payloads.Text) type e = cc

to_end : (s : Standing) → to_of s ≡ tos.End → s ≡ standings.End
to_end (standings.State k) e = cc
to_end standings.End e = refl

-- the states of all parts
settled_parts : (parts : Parts) (ps qs : List Position) → AllSettled parts ps → AllSettled parts qs → AllSettled parts (ps ++ qs)
settled_parts parts [] qs a b = b
settled_parts parts (p ∷ ps) qs a b = (a.0, settled_parts parts ps qs a.1 b)

parts_settled : (parts some : Parts) → AllSettled parts (state_positions some)
parts_settled parts [] = tt
parts_settled parts (p ∷ ps) = settled_parts parts (states_in Plain [] p.body) (state_positions ps) (states_settled parts p.body Plain [])
    (parts_settled parts ps)

module _ (me : Name) (parts : Parts) where
  -- the method of an edge that is a message stands there
  message_method : (edges : List Edge) → AllMessages edges → (e : Edge) → Among edges e → (m : Message) → e.act ≡ Moves m →
      Contains (methods_of me edges) (method_of m e.to)
  message_method [] h e a m is = absurd a
  message_method (x ∷ xs) h e a m is =
      subst (λ ms. Contains ms (method_of m e.to)) (sym (methods-message me x xs h.0.0 h.0.1))
      (⊎_elim
      (λ f. let same : h.0.0 ≡ m = moves_same h.0.0 m (sym h.0.1 ∙ ap (λ (y : Edge). y.act) f ∙ is) in first_contains (method_of m e.to)
      (method_of h.0.0 x.to) (methods_of me xs) (λ i. method_of (same i) ((f i).to)))
      (λ b. later_contains (method_of m e.to) (method_of h.0.0 x.to) (methods_of me xs) (message_method xs h.1 e b m is)) a)
    where
      moves_same : (p q : Message) → Moves p ≡ Moves q → p ≡ q
      moves_same p q e = cc

  looks_none : (edges : List Edge) (n : ℕ) (peer : Name) → AllLooks n peer edges → (e : Edge) → Among edges e → (m : Message) →
      e.act ≡ Moves m → ⊥
  looks_none [] n peer h e a m is = a
  looks_none (x ∷ xs) n peer h e a m is =
      ⊎_elim (λ f. let g : Looks n peer h.0.0 ≡ Moves m = sym h.0.1 ∙ ap (λ (y : Edge). y.act) f ∙ is in cc g)
      (λ b. looks_none xs n peer h.1 e b m is) a

  messages_none : (edges : List Edge) → AllMessages edges → (e : Edge) → Among edges e → (n : ℕ) (peer label : Name) →
      e.act ≡ Looks n peer label → ⊥
  messages_none [] h e a n peer label is = a
  messages_none (x ∷ xs) h e a n peer label is =
      ⊎_elim (λ f. let g : Moves h.0.0 ≡ Looks n peer label = sym h.0.1 ∙ ap (λ (y : Edge). y.act) f ∙ is in cc g)
      (λ b. messages_none xs h.1 e b n peer label is) a

  -- the method of looks
  record HasLook (edges : List Edge) (n : ℕ) (peer : Name) : Type 0 where
    method : Method
    contained : Contains (methods_of me edges) method
    named : method.name ≡ label_call me n peer
    result : method.result ≡ types.Named (choice_enum me n)

  look_method : (edges : List Edge) → OneKind edges → (e : Edge) → Among edges e → (n : ℕ) (peer label : Name) → e.act ≡ Looks n peer label
      → HasLook edges n peer
  look_method edges (messages h) e a n peer label is = absurd (messages_none edges h e a n peer label is)
  look_method [] (looks k other h) e a n peer label is = absurd a
  look_method (x ∷ xs) (looks k other h) e a n peer label is =
      let same = of (x ∷ xs) k other h e a in
      let both = look_parts k n other peer same.0 label (sym same.1 ∙ is) in
      record {
        method = label_method me k other (branches_of (x ∷ xs));
        contained = subst (λ ms. Contains ms (label_method me k other (branches_of (x ∷ xs))))
            (sym (methods-look me x xs k other h.0.0 h.0.1)) (first_contains _ _ [] refl);
        named = λ i. label_call me (both.0 i) (both.1 i);
        result = ap (λ j. types.Named (choice_enum me j)) both.0;
      }
    where
      of : (ys : List Edge) (k : ℕ) (other : Name) → AllLooks k other ys → (e : Edge) → Among ys e → (l : Name) × (e.act ≡ Looks k other l)
      of [] k other h e a = absurd a
      of (y ∷ ys) k other h e a = ⊎_elim (λ f. (h.0.0, ap (λ (z : Edge). z.act) (sym f) ∙ h.0.1)) (λ b. of ys k other h.1 e b) a

      look_parts : (a b : ℕ) (p r l m : Name) → Looks a p l ≡ Looks b r m → (a ≡ b) × (p ≡ r)
      look_parts a b p r l m e = (cc, cc)

  calls_are : (all : List Position) (steps : List Onward) (edges : List Edge) → AreSteps parts all steps edges →
      calls me edges ≡ calls_from me steps
  calls_are all [] [] h = refl
  calls_are all [] (e ∷ edges) h = absurd h
  calls_are all (s ∷ steps) [] h = absurd h
  calls_are all (s ∷ steps) (e ∷ edges) h = λ i. call_of me (h.0.act i) ∷ calls_are all steps edges h.1 i

  told_at : (ps : List Position) → AllTold me ps → (k : ℕ) (p : Position) → slice_get ps k ≡ Some p → Told me p
  told_at [] h k p e = cc
  told_at (x ∷ ps) h zero p e = let f : x ≡ p = cc e in subst (Told me) f h.0
  told_at (x ∷ ps) h (suc k) p e = told_at ps h.1 k p e

  module _ (all : List Position) (gs : List (List Edge)) (settled : AllSettled parts all) (are : AreStates parts all all gs)
      (told : AllTold me all) (t : Typestate) (is : t.states ≡ states_from me 0 gs) (one : HaveOneSignature me t.states) where
    -- a state with its edges
    record Here (k : ℕ) : Type 0 where
      place : Position
      there : slice_get all k ≡ Some place
      edges : List Edge
      edged : slice_get gs k ≡ Some edges
      steps : AreSteps parts all (steps_at place) edges
      state : State
      stands : slice_get t.states k ≡ Some state
      methods : state.methods ≡ methods_of me edges

    here : (k : ℕ) (p : Position) → slice_get all k ≡ Some p → Here k
    here k p e =
        let r = edges_there parts all all gs are k p e in
        let s = state_there me 0 gs k r.0 r.1 in
        record {
          place = p;
          there = e;
          edges = r.0;
          edged = r.1;
          steps = r.2;
          state = s.0;
          stands = ap (λ ss. slice_get ss k) is ∙
              s.1;
          methods = s.2;
        }

    kind_of : {k : ℕ} (h : Here k) → OneKind h.edges
    kind_of {k} h = one_kind parts all (steps_at h.place) h.edges h.steps (told_at all told k h.place h.there).one

    differ_of : {k : ℕ} (h : Here k) → AllDiffer (calls me h.edges)
    differ_of {k} h = subst AllDiffer (sym (calls_are all (steps_at h.place) h.edges h.steps)) (told_at all told k h.place h.there).differ

    next_is : (k : ℕ) (h : Here k) (name : Name) (answer : Option Name) → next t k name answer
        ≡ leads me (methods_of me h.edges) name answer
    next_is k h name answer =
        ap (λ o. option_and_then (λ f. led_by f.target answer) (option_and_then (λ s. offered_in s.methods name) o)) h.stands
        ∙ ap (λ ms. leads me ms name answer) h.methods

    offered_there : (k : ℕ) (h : Here k) (m : Method) → Contains (methods_of me h.edges) m → IsOffered t.states m
    offered_there k h m c = (h.state, get_contains t.states k h.state h.stands, subst (λ ms. Contains ms m) (sym h.methods) c)

    comes_state : {p : Position} {s : Standing} → ComesTo parts all p s → (k : ℕ) → s ≡ standings.State k →
        (q : Position) × (slice_get all k ≡ Some q)
    comes_state (at_state {number = n} {position = p} e) k f = (p, subst (λ j. slice_get all j ≡ Some p) (number_same n k f) e)
      where
        number_same : (n k : ℕ) → standings.State n ≡ standings.State k → n ≡ k
        number_same n k f = cc
    comes_state at_end k f = cc
    comes_state (silently m c) k f = comes_state c k f

    -- a step is along an edge
    record Along (s : Standing) (act : Act) (q : Position) : Type 0 where
      number : ℕ
      at : s ≡ standings.State number
      start : Here number
      edge : Edge
      among : Among start.edges edge
      step : IsStep parts all (record { act = act; to = q }) edge

    along : {p q : Position} {s : Standing} {act : Act} → ComesTo parts all p s → Step parts p act q → Along s act q
    unfolding here
    along {q = q} {act = act} c st =
        let f = steps_from parts all settled c st in
        let h = here f.number f.place f.there in
        let l = step_listed f.step (settled_at all settled f.number f.place f.there).settled in
        let r = edge_of_step parts all (steps_at f.place) h.edges h.steps (record { act = act; to = q }) l in
        record { number = f.number; at = f.is_state; start = h; edge = r.0; among = r.1; step = r.2 }

    along_next : {s : Standing} {act : Act} {q : Position} (a : Along s act q) → next_from t (to_of s) (call_of me act)
        ≡ Some (to_of a.edge.to)
    along_next {s} {act} a =
        ap (λ x. next_from t (to_of x) (call_of me act)) a.at
        ∙ next_is a.number a.start (call_of me act).method (call_of me act).answer
        ∙ ap (λ c. leads me (methods_of me a.start.edges) (call_of me c).method (call_of me c).answer) (sym a.step.act)
        ∙ edge_leads me a.start.edges (kind_of a.start) (differ_of a.start) a.edge a.among

    along_fits : {s : Standing} {act : Act} {q : Position} → Along s act q → Fits t (call_of me act)
    along_fits {act = act} a some = go act a.step.act some
      where
        go : (b : Act) → a.edge.act ≡ b → IsSome (call_of me b).answer → (m : Method) × (type : Name) × IsOffered t.states m
            × (m.name ≡ (call_of me b).method) × (m.result ≡ types.Named type)
        go (Moves m) e some = cc
        go (Looks n peer label) e some =
            let l = look_method a.start.edges (kind_of a.start) a.edge a.among n peer label e in
            (l.method, choice_enum me n, offered_there a.number a.start l.method l.contained, l.named, l.result)

    record Reaches (s : Standing) (cs : List Call) (end : Position) : Type 0 where
      to : Standing
      leads_to : led t (to_of s) cs ≡ Some (to_of to)
      comes : ComesTo parts all end to
      fit : AllByRecursion (Fits t) cs

    run_reaches : {p end : Position} {acts : List Act} (s : Standing) → ComesTo parts all p s → Run parts p acts end →
        Reaches s (map (call_of me) acts) end
    run_reaches s c stays = record { to = s; leads_to = refl; comes = c; fit = tt }
    run_reaches s c (goes {act = act} {acts = acts} st run) =
        let a = along c st in
        let r = run_reaches a.edge.to a.step.to run in
        record {
          to = r.to;
          leads_to = ap (option_and_then (λ to. led t to (map (call_of me) acts))) (along_next a) ∙ r.leads_to;
          comes = r.comes;
          fit = (along_fits a, r.fit);
        }

    -- a call that leads on is that of a step
    record Stepped (p : Position) (call : Call) (to : To) : Type 0 where
      act : Act
      end : Position
      step : Step parts p act end
      named : call_of me act ≡ call
      standing : Standing
      comes : ComesTo parts all end standing
      at : to_of standing ≡ to

    no_answer : (k : ℕ) (h : Here k) (e : Edge) → Among h.edges e → (m : Message) → e.act ≡ Moves m → (call : Call) →
        message_call m ≡ call.method → Fits t call → call.answer ≡ None
    no_answer k h e a m moves call named fits = go call.answer refl
      where
        is_offered : OneKind h.edges → IsOffered t.states (method_of m e.to)
        is_offered (messages all_messages) = offered_there k h (method_of m e.to) (message_method h.edges all_messages e a m moves)
        is_offered (looks n peer l) = absurd (looks_none h.edges n peer l e a m moves)

        go : (answer : Option Name) → call.answer ≡ answer → call.answer ≡ None
        go None e = e
        go (Some label) e =
            let some : IsSome call.answer = subst (λ o. IsSome o) (sym e) refl in
            let f = fits some in
            let s = one (method_of m _) f.0 (is_offered (kind_of h)) f.2 (named ∙ sym f.3) in
            absurd (unnamed m f.1 (s.0 ∙ f.4))

    stepped : {p : Position} (s : Standing) → ComesTo parts all p s → (call : Call) → Fits t call → (to : To) → next_from t (to_of s) call
        ≡ Some to → Stepped p call to
    stepped standings.End c call fits to n = cc
    stepped (standings.State k) c call fits to n =
        let q = comes_state c k refl in
        let h = here k q.0 q.1 in
        let l = leads_edge me h.edges (kind_of h) call.method call.answer to (sym (next_is k h call.method call.answer) ∙ n) in
        let s = step_of_edge parts all (steps_at h.place) h.edges h.steps l.edge l.among in
        let answered : (call_of me l.edge.act).answer ≡ call.answer =
        ⊎_elim (λ e. e)
        (λ (moved : (m : Message) × (l.edge.act ≡ Moves m)). ap (λ a. (call_of me a).answer) moved.1
        ∙ sym (no_answer k h l.edge l.among moved.0 moved.1 call (sym (ap (λ a. (call_of me a).method) moved.1) ∙ l.method) fits))
        l.answered in
        record {
          act = s.0.act;
          end = s.0.to;
          step = steps_to parts all settled c k h.place refl h.there (listed_step h.place s.0 s.1);
          named = ap (call_of me) (sym s.2.act) ∙ (λ i. record { method = l.method i; answer = answered i });
          standing = l.edge.to;
          comes = s.2.to;
          at = l.leads_to;
        }

    record Runs (p : Position) (cs : List Call) (to : To) : Type 0 where
      acts : List Act
      end : Position
      run : Run parts p acts end
      named : map (call_of me) acts ≡ cs
      standing : Standing
      comes : ComesTo parts all end standing
      at : to_of standing ≡ to

    led_runs : (cs : List Call) {p : Position} (s : Standing) → ComesTo parts all p s → AllByRecursion (Fits t) cs → (to : To) →
        led t (to_of s) cs ≡ Some to → Runs p cs to
    led_runs [] {p} s c fit to l = record { acts = []; end = p; run = stays; named = refl; standing = s; comes = c; at = some_inside l }
    led_runs (call ∷ cs) {p} s c fit to l =
        option_and_then_some (λ x. led t x cs) (next_from t (to_of s) call) to l
        (λ x was after.
        let one_step = stepped s c call fit.0 x was in
        let r = led_runs cs one_step.standing one_step.comes fit.1 to (ap (λ y. led t y cs) one_step.at ∙ after) in
        record {
          acts = one_step.act ∷ r.acts;
          end = r.end;
          run = goes one_step.step r.run;
          named = λ i. one_step.named i ∷ r.named i;
          standing = r.standing;
          comes = r.comes;
          at = r.at;
        })

-- where the typestate begins
initial_is : (me : Name) (parts : Parts) (all : List Position) (gs : List (List Edge)) → AreStates parts all all gs → (t : Typestate) →
    t.states ≡ states_from me 0 gs → {p : Position} {s : Standing} → ComesTo parts all p s → (s ≡ standings.State 0) ⊎ (all ≡ []) →
    initial t ≡ to_of s
initial_is me parts [] [] are t e {p} {s} c first = ap (λ ss. elim ss as (λ (v : List State). To) [ [] ↦ tos.End | x ∷ xs ↦ tos.State 0 ]) e
    ∙ sym (ap to_of (only_end c))
  where
    only_end : {p : Position} {s : Standing} → ComesTo parts [] p s → s ≡ standings.End
    only_end (at_state f) = cc f
    only_end at_end = refl
    only_end (silently m c) = only_end c
initial_is me parts [] (g ∷ gs) are t e c first = absurd are
initial_is me parts (q ∷ qs) [] are t e c first = absurd are
initial_is me parts (q ∷ qs) (g ∷ gs) are t e {p} {s} c first =
    ap (λ ss. elim ss as (λ (v : List State). To) [ [] ↦ tos.End | x ∷ xs ↦ tos.State 0 ]) e ∙
    sym (ap to_of (⊎_elim (λ f. f) (λ f. cc f) first))

pub agrees : (local : LocalTree) (g : Graph) → Automates (protocol_of local) g → AllTold local.me (state_positions (protocol_of local)) →
    (t : Typestate) → t.states ≡ states_from local.me 0 g.states → HaveOneSignature local.me t.states →
    (g.initial ≡ standings.State 0) ⊎ (state_positions (protocol_of local) ≡ []) → Agrees local.me (protocol_of local) t
agrees local g along told t is one first =
    let me : Name = local.me in
    let parts : Parts = protocol_of local in
    let all : List Position = state_positions (protocol_of local) in
    let settled : AllSettled parts all = parts_settled parts parts in
    let begin : initial t ≡ to_of g.initial = initial_is me parts all g.states along.states t is along.initial first in
    record {
      paths = λ cs. (
        λ trace.
            let r = run_reaches me parts all g.states settled along.states told t is one g.initial along.initial trace.2 in
            record {
              fit = subst (AllByRecursion (Fits t)) trace.3 r.fit;
              to = to_of r.to;
              leads = ap (λ from. led t from cs) begin ∙ ap (led t (to_of g.initial)) (sym trace.3) ∙ r.leads_to;
              offers = tt;
            },
        λ path.
            let r = led_runs me parts all g.states settled along.states told t is one cs g.initial along.initial path.fit path.to
            (ap (λ from. led t from cs) (sym begin) ∙ path.leads) in
            (r.acts, r.end, r.run, r.named),
      );
      ends = λ cs. (
        λ complete.
            let r = run_reaches me parts all g.states settled along.states told t is one g.initial along.initial complete.2 in
            record {
              fit = subst (AllByRecursion (Fits t)) complete.4 r.fit;
              leads =
                  ap (λ from. led t from cs) begin ∙ ap (led t (to_of g.initial)) (sym complete.4) ∙ r.leads_to
                  ∙ ap (λ s. Some (to_of s)) (finished_end parts all settled r.comes complete.3);
            },
        λ path.
            let r = led_runs me parts all g.states settled along.states told t is one cs g.initial along.initial path.fit tos.End
            (ap (λ from. led t from cs) (sym begin) ∙ path.leads) in
            (r.acts, r.end, r.run, end_finished parts all settled r.comes (to_end r.standing r.at), r.named),
      );
    }

-- the states are laid out as the protocol says
pub laid : (me : Name) (parts : Parts) (all : List Position) (k : ℕ) (ps : List Position) (gs : List (List Edge)) →
    AreStates parts all ps gs → AreLaid me parts all ps k (states_from me k gs)
laid me parts all k [] [] h = tt
laid me parts all k [] (g ∷ gs) h = absurd h
laid me parts all k (p ∷ ps) [] h = absurd h
laid me parts all k (p ∷ ps) (g ∷ gs) h = (
  record { name = refl; edges = g; steps = h.0; methods = refl; drops = refl },
  laid me parts all
      (suc k) ps gs h.1,
)

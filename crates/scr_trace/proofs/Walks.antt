-- How walks follow the protocol.
use Rattle.std.proofs.Common.{◌<◌, length, get_or, ltb, arith}
use Rattle.std.proofs.Common.{◌≡◌, ◌≢◌, ℕ, zero, suc, ◌-◌, List, [], ◌∷◌, ◌++◌, map, reverse, Some, None, refl, sym, ap, ◌∙◌, subst, inl}
use Rattle.std.proofs.Common.{inr, ◌⊎◌, ⊎_elim, Bool, true, false, ◌&&◌, if◌then◌else◌, Option}
use Rattle.std.specs.Prelude.{slice_get, IfSome}
use Rattle.std.specs.Str.{bytes_eq}
use Rattle.std.proofs.lemmas.Bool.{ltb-true}
use Rattle.std.proofs.lemmas.List.{reverse-append, map-append}
use Rattle.std.proofs.lemmas.Slice.Eq.{bytes_eq-Decides}
use Rattle.mg_text.specs.Call.{Name, Call}
use Rattle.scr_tree.specs.Tree.{LocalTree}
use Rattle.scr_tree.specs.Local.{tree_of}
use Rattle.scr_tree.specs.Meaning.{protocol_of, message_of}
use Rattle.scr_tree.specs.Protocol.{Parts}
use Rattle.scr_tree.specs.Steps.{Act, Position, start, Step, Run, stays, goes, Finished}
use Rattle.scr_tree.specs.CallNames.{message_call, label_call, call_of}
use Rattle.scr_tree.specs.Traces.{Trace, Complete}
use Rattle.scr_trace.specs.declared.arrow.Arrow.{Arrow}
use Rattle.scr_trace.specs.declared.arrow.Exits.{Exits}
use Rattle.scr_trace.specs.declared.arrow.Hop.{Hop}
use Rattle.scr_trace.specs.declared.standing.Standing.{Standing}
use Rattle.scr_trace.specs.declared.standing.Standing.TheVariants as standings
use Rattle.scr_trace.specs.declared.walk.Walk.{Walk}
use Rattle.scr_trace.specs.Positions.{state_positions, ComesTo}
use Rattle.scr_trace.specs.Onward.{Onward, steps_at}
use Rattle.scr_trace.specs.Graph.{Edge, IsStep, AreSteps, Automates}
use Rattle.scr_trace.specs.Walking.{graph_of, Stands, StepsOn, HasTaken}
use Rattle.scr_trace.specs.inner.Goes.{Among, Edged, Taken, Goes}
use Rattle.scr_trace.specs.inner.Laying.{Work}
use Rattle.scr_trace.specs.inner.View.{draft_of, drafts_of, cell_of, work_of, standing_of, edge_of, edges_of}
use Rattle.scr_trace.specs.inner.Search.{first_led, is_said, is_looked, is_called, led_if, HasArrow}
use Rattle.scr_trace.proofs.Following.{AllSettled, all_settled, step_listed, listed_step, settled_at, edges_there, edge_of_step}
use Rattle.scr_trace.proofs.Following.{step_of_edge, position_there, steps_from, steps_to, finished_end, end_finished}
use Rattle.scr_trace.proofs.Telling.{DiffersFrom, AllDiffer, calls_from, Told, AllTold, valid_told}

-- ---- lists

among_map : {A B : Type 0} (f : A → B) (xs : List A) (x : A) → Among xs x → Among (map f xs) (f x)
among_map f [] x a = a
among_map f (y ∷ ys) x a = ⊎_elim (λ e. inl (ap f e)) (λ b. inr (among_map f ys x b)) a

map_among : {A B : Type 0} (f : A → B) (xs : List A) (y : B) → Among (map f xs) y → (x : A) × Among xs x × (f x ≡ y)
map_among f [] y a = absurd a
map_among f (x ∷ xs) y a = ⊎_elim (λ e. (x, inl refl, e)) (λ b. let r = map_among f xs y b in (r.0, inr r.1, r.2)) a

among_front : {A : Type 0} (xs ys : List A) (x : A) → Among xs x → Among (xs ++ ys) x
among_front [] ys x a = absurd a
among_front (z ∷ xs) ys x a = ⊎_elim (λ e. inl e) (λ b. inr (among_front xs ys x b)) a

among_behind : {A : Type 0} (xs ys : List A) (x : A) → Among ys x → Among (xs ++ ys) x
among_behind [] ys x a = a
among_behind (z ∷ xs) ys x a = inr (among_behind xs ys x a)

among_either : {A : Type 0} (xs ys : List A) (x : A) → Among (xs ++ ys) x → Among xs x ⊎ Among ys x
among_either [] ys x a = inr a
among_either (z ∷ xs) ys x a = ⊎_elim (λ e. inl (inl e)) (λ b. ⊎_elim (λ c. inl (inr c)) (λ c. inr c) (among_either xs ys x b)) a

among_reverse : {A : Type 0} (xs : List A) (x : A) → Among xs x → Among (reverse xs) x
among_reverse [] x a = absurd a
among_reverse (z ∷ xs) x a =
    subst (λ l. Among l x) (sym (reverse-append (z ∷ []) xs))
    (⊎_elim (λ e. among_behind (reverse xs) (z ∷ []) x (inl e)) (λ b. among_front (reverse xs) (z ∷ []) x (among_reverse xs x b)) a)

reverse_among : {A : Type 0} (xs : List A) (x : A) → Among (reverse xs) x → Among xs x
reverse_among [] x a = a
reverse_among (z ∷ xs) x a =
    ⊎_elim (λ b. inr (reverse_among xs x b)) (λ b. ⊎_elim (λ e. inl e) (λ c. absurd c) b)
    (among_either (reverse xs) (z ∷ []) x (subst (λ l. Among l x) (reverse-append (z ∷ []) xs) a))

true_or_false : (b : Bool) → (b ≡ true) ⊎ (b ≡ false)
true_or_false true = inl refl
true_or_false false = inr refl

-- ---- the search

found : (test : Arrow → Bool) (xs : List Arrow) (hop : Hop) → first_led test xs ≡ Some hop → (a : Arrow) × Among xs a × (test a ≡ true)
    × (a.to ≡ hop)
found test [] hop e = cc
found test (a ∷ xs) hop e =
    ⊎_elim
    (λ t. let f : Some a.to ≡ Some hop = sym (ap (λ b. if b then Some a.to else first_led test xs) t) ∙ e in (a, inl refl, t, cc f))
    (λ t. let r = found test xs hop (sym (ap (λ b. if b then Some a.to else first_led test xs) t) ∙ e) in (r.0, inr r.1, r.2, r.3))
    (true_or_false (test a))

missed : (test : Arrow → Bool) (xs : List Arrow) → first_led test xs ≡ None → (a : Arrow) → Among xs a → test a ≡ false
missed test [] e a h = absurd h
missed test (x ∷ xs) e a h =
    ⊎_elim
    (λ t. let f : Some x.to ≡ None = sym (ap (λ b. if b then Some x.to else first_led test xs) t) ∙ e in cc f)
    (λ t. ⊎_elim (λ same. subst (λ y. test y ≡ false) same t)
    (λ later. missed test xs (sym (ap (λ b. if b then Some x.to else first_led test xs) t) ∙ e) a later) h)
    (true_or_false (test x))

both_parts : (a b : Bool) → (a && b) ≡ true → (a ≡ true) × (b ≡ true)
both_parts true b e = (refl, e)
both_parts false b e = cc

parts_both : (a b : Bool) → a ≡ true → b ≡ true → (a && b) ≡ true
parts_both true b e f = f
parts_both false b e f = cc

-- an edge with the call, that leads where the hop does
record Has (me : Name) (w : Work) (edges : List Edge) (call : Call) (hop : Hop) : Type 0 where
  edge : Edge
  among : Among edges edge
  named : call_of me edge.act ≡ call
  leads : edge.to ≡ standing_of w hop

pub edge_among : (w : Work) (number : Option ℕ) (xs : List Arrow) (a : Arrow) → Among xs a → Among (map (edge_of w number) (drafts_of xs))
    (edge_of w number (draft_of a))
edge_among w number xs a h = among_map (edge_of w number) (drafts_of xs) (draft_of a)
    (among_reverse (map draft_of xs) (draft_of a) (among_map draft_of xs a h))

among_edge : (w : Work) (number : Option ℕ) (xs : List Arrow) (e : Edge) → Among (map (edge_of w number) (drafts_of xs)) e →
    (a : Arrow) × Among xs a × (edge_of w number (draft_of a) ≡ e)
among_edge w number xs e h =
    let d = map_among (edge_of w number) (drafts_of xs) e h in
    let a = map_among draft_of xs d.0 (reverse_among (map draft_of xs) d.0 d.1) in
    (a.0, a.1, ap (edge_of w number) a.2 ∙ d.2)

arrow_has : (me : Name) (w : Work) (number : Option ℕ) (xs : List Arrow) (method : Name) (answer : Option Name) (a : Arrow) →
    Among xs a → is_called me w number method answer a ≡ true →
    Has me w (map (edge_of w number) (drafts_of xs)) (record { method = method; answer = answer }) a.to
arrow_has me w None xs method None a h t = record {
  edge = edge_of w None (draft_of a);
  among = edge_among w None xs a h;
  named = λ i. record { method = sym ((bytes_eq-Decides method (message_call (message_of a.message.now))).0 t) i; answer = None };
  leads = refl;
}
arrow_has me w None xs method (Some label) a h t = cc
arrow_has me w (Some c) xs method None a h t = cc
arrow_has me w (Some c) xs method (Some label) a h t =
    let both = both_parts (bytes_eq a.message.now.label label) (bytes_eq method (label_call me (w.choices - c) a.message.now.peer)) t in
    record {
      edge = edge_of w (Some c) (draft_of a);
      among = edge_among w (Some c) xs a h;
      named = λ i. record {
        method = sym ((bytes_eq-Decides method (label_call me (w.choices - c) a.message.now.peer)).0 both.1) i;
        answer = Some ((bytes_eq-Decides a.message.now.label label).0 both.0 i);
      };
      leads = refl;
    }

led_has : (me : Name) (w : Work) (number : Option ℕ) (xs : List Arrow) (method : Name) (answer : Option Name) (hop : Hop) →
    led_if me w number xs method answer ≡ Some hop →
    Has me w (map (edge_of w number) (drafts_of xs)) (record { method = method; answer = answer }) hop
led_has me w None xs method None hop e =
    let r = found (is_said method) xs hop e in
    record {
      edge = edge_of w None (draft_of r.0);
      among = edge_among w None xs r.0 r.1;
      named = λ i. record { method = sym ((bytes_eq-Decides method (message_call (message_of r.0.message.now))).0 r.2) i; answer = None };
      leads = ap (standing_of w) r.3;
    }
led_has me w None xs method (Some label) hop e = cc
led_has me w (Some c) xs method None hop e = cc
led_has me w (Some c) xs method (Some label) hop e =
    let r = found (is_looked me (w.choices - c) method label) xs hop e in
    let both = both_parts (bytes_eq r.0.message.now.label label) (bytes_eq method (label_call me (w.choices - c) r.0.message.now.peer)) r.2
    in
    record {
      edge = edge_of w (Some c) (draft_of r.0);
      among = edge_among w (Some c) xs r.0 r.1;
      named = λ i. record {
        method = sym ((bytes_eq-Decides method (label_call me (w.choices - c) r.0.message.now.peer)).0 both.1) i;
        answer = Some ((bytes_eq-Decides r.0.message.now.label label).0 both.0 i);
      };
      leads = ap (standing_of w) r.3;
    }

led_lacks : (me : Name) (w : Work) (number : Option ℕ) (xs : List Arrow) (method : Name) (answer : Option Name) →
    led_if me w number xs method answer ≡ None →
    (edge : Edge) → Among (map (edge_of w number) (drafts_of xs)) edge → call_of me edge.act ≢ record { method = method; answer = answer }
led_lacks me w None xs method None e edge h named =
    let a = among_edge w None xs edge h in
    let f : message_call (message_of a.0.message.now) ≡ method = ap (λ (x : Edge). (call_of me x.act).method) a.2 ∙
    ap (λ (c : Call). c.method) named in
    let t = (bytes_eq-Decides method (message_call (message_of a.0.message.now))).1 (sym f) in
    let n = missed (is_said method) xs e a.0 a.1 in
    cc
led_lacks me w None xs method (Some label) e edge h named =
    let a = among_edge w None xs edge h in
    let f : None ≡ Some label = ap (λ (x : Edge). (call_of me x.act).answer) a.2 ∙ ap (λ (c : Call). c.answer) named in
    cc
led_lacks me w (Some c) xs method None e edge h named =
    let a = among_edge w (Some c) xs edge h in
    let f : Some a.0.message.now.label ≡ None = ap (λ (x : Edge). (call_of me x.act).answer) a.2 ∙ ap (λ (c : Call). c.answer) named in
    cc
led_lacks me w (Some c) xs method (Some label) e edge h named =
    let a = among_edge w (Some c) xs edge h in
    let f : label_call me (w.choices - c) a.0.message.now.peer ≡ method = ap (λ (x : Edge). (call_of me x.act).method) a.2 ∙
    ap (λ (c : Call). c.method) named in
    let g : Some a.0.message.now.label ≡ Some label = ap (λ (x : Edge). (call_of me x.act).answer) a.2 ∙
    ap (λ (c : Call). c.answer) named in
    let same : a.0.message.now.label ≡ label = cc g in
    let t = parts_both (bytes_eq a.0.message.now.label label) (bytes_eq method (label_call me (w.choices - c) a.0.message.now.peer))
    ((bytes_eq-Decides a.0.message.now.label label).1 same)
    ((bytes_eq-Decides method (label_call me (w.choices - c) a.0.message.now.peer)).1 (sym f)) in
    let n = missed (is_looked me (w.choices - c) method label) xs e a.0 a.1 in
    cc

-- the edges of the state that stands there
pub get_map : {A B : Type 0} (f : A → B) (xs : List A) (k : ℕ) (x : A) → slice_get xs k ≡ Some x → slice_get (map f xs) k ≡ Some (f x)
get_map f [] k x e = cc
get_map f (y ∷ ys) zero x e = let g : y ≡ x = cc e in ap (λ z. Some (f z)) g
get_map f (y ∷ ys) (suc k) x e = get_map f ys k x e

some_same : {A : Type 0} {a b : A} {o : Option A} → o ≡ Some a → o ≡ Some b → a ≡ b
some_same e f = cc

pub state_same : (j k : ℕ) → standings.State j ≡ standings.State k → j ≡ k
state_same j k e = cc

-- the search finds the edge of the call
pub goes_some : (walk : Walk) (number : ℕ) (exits : Exits) (call : Call) (hop : Hop) (to : Standing) →
    walk.standing ≡ standings.State number →
    Some (cell_of exits) ≡ slice_get (work_of walk.laid).cells number → led_if (tree_of walk.local.now).me (work_of walk.laid) exits.number
    exits.arrows.items call.method call.answer ≡ Some hop →
    to ≡ standing_of (work_of walk.laid) hop → Taken walk call to
goes_some walk number exits call hop to at there led is =
    let w : Work = work_of walk.laid in
    let h = led_has (tree_of walk.local.now).me w exits.number exits.arrows.items call.method call.answer hop led in
    record {
      edge = h.edge;
      edged = record {
        number = number;
        edges = edges_of w (cell_of exits);
        at = at;
        there =
            get_map (edges_of w) w.cells number (cell_of exits) (sym there);
        among = h.among;
      };
      named = h.named;
      leads = h.leads ∙ sym is;
    }

get_or_among : {A : Type 0} (xs : List A) (k : ℕ) (d : A) → k < length xs → Among xs (get_or xs k d)
get_or_among [] k d h = absurd (omega (arith, h))
get_or_among (y ∷ ys) zero d h = inl refl
get_or_among (y ∷ ys) (suc k) d h = inr (get_or_among ys k d (omega (arith, h)))

pub at_among : {A : Type 0} (xs ys : List A) (k : ℕ) (x d : A) → true ≡ ltb k (length ys) → x ≡ get_or ys k d → ys ≡ xs → Among xs x
at_among xs ys k x d h e s =
    let inside : k < length ys = ltb-true k (length ys) (sym h) in
    subst (λ l. Among l x) s (subst (λ z. Among ys z) (sym e) (get_or_among ys k d inside))

pub some_has : {A : Type 0} (P : A → Type 0) (o : Option A) (a : A) → o ≡ Some a → IfSome o P → P a
some_has P o a e h = subst (λ x. IfSome x P) e h

-- an arrow that was found at once is the edge of the call
pub goes_at_once : (walk : Walk) (number : ℕ) (exits : Exits) (call : Call) (hop : Hop) (to : Standing) →
    walk.standing ≡ standings.State number → Some (cell_of exits) ≡ slice_get (work_of walk.laid).cells number →
    HasArrow (tree_of walk.local.now).me (work_of walk.laid) exits.number exits.arrows.items call hop →
    to ≡ standing_of (work_of walk.laid) hop → Taken walk call to
goes_at_once walk number exits call hop to at there has is =
    let w : Work = work_of walk.laid in
    let h = arrow_has (tree_of walk.local.now).me w exits.number exits.arrows.items call.method call.answer has.arrow has.among has.called in
    record {
      edge = h.edge;
      edged = record {
        number = number;
        edges = edges_of w (cell_of exits);
        at = at;
        there = get_map (edges_of w) w.cells number (cell_of exits) (sym there);
        among = h.among;
      };
      named = h.named;
      leads = h.leads ∙ ap (standing_of w) has.leads ∙ sym is;
    }

-- it finds none
pub goes_none : (walk : Walk) (number : ℕ) (exits : Exits) (call : Call) → walk.standing ≡ standings.State number →
    Some (cell_of exits) ≡ slice_get (work_of walk.laid).cells number → led_if (tree_of walk.local.now).me (work_of walk.laid) exits.number
    exits.arrows.items call.method call.answer ≡ None →
    Goes walk call None
goes_none walk number exits call at there led edge h named =
    let w : Work = work_of walk.laid in
    let same : h.number ≡ number = state_same h.number number (sym h.at ∙ at) in
    let e = get_map (edges_of w) w.cells number (cell_of exits) (sym there) in
    let edges : h.edges ≡ edges_of w (cell_of exits) =
    some_same (subst (λ k. slice_get (graph_of walk).states k ≡ Some h.edges) same h.there) e in
    led_lacks (tree_of walk.local.now).me w exits.number exits.arrows.items call.method call.answer led edge
    (subst (λ l. Among l edge) edges h.among) named

-- there are no edges
pub get_none : {A B : Type 0} (f : A → B) (xs : List A) (k : ℕ) → None ≡ slice_get xs k → slice_get (map f xs) k ≡ None
get_none f [] k e = refl
get_none f (y ∷ ys) zero e = cc
get_none f (y ∷ ys) (suc k) e = get_none f ys k e

-- ---- steps of the protocol

abbrev pub all_of : LocalTree → List Position
all_of local = state_positions (protocol_of local)

pub settled_of : (local : LocalTree) → AllSettled (protocol_of local) (all_of local)
settled_of local = all_settled (protocol_of local) (protocol_of local)

-- an edge of the state that a position comes to is one of its steps
pub edge_steps : (local : LocalTree) (walk walk' : Walk) (position : Position) (call : Call) → Stands local walk position →
    (taken : Taken walk call walk'.standing) → walk'.local ≡ walk.local → graph_of walk' ≡ graph_of walk →
    StepsOn local position call walk'
edge_steps local walk walk' position call h taken kept same =
    let d = taken.edged in
    let p = position_there (protocol_of local) (all_of local) (all_of local) (graph_of walk).states h.along.states d.number d.edges d.there
    in
    let s = step_of_edge (protocol_of local) (all_of local) (steps_at p.0) d.edges p.2 taken.edge d.among in
    let at_me : (tree_of walk.local.now).me ≡ local.me = ap (λ (t : LocalTree). t.me) h.of in
    record {
      act = s.0.act;
      to = s.0.to;
      step = steps_to (protocol_of local) (all_of local) (settled_of local) h.comes d.number p.0 d.at p.1 (listed_step p.0 s.0 s.1);
      named = ap (call_of local.me) (sym s.2.act) ∙ ap (λ m. call_of m taken.edge.act) (sym at_me) ∙ taken.named;
      stands = record {
        of = ap (λ l. tree_of l.now) kept ∙ h.of;
        along = subst (Automates (protocol_of local)) (sym same) h.along;
        comes = subst (ComesTo (protocol_of local) (all_of local) s.0.to) taken.leads s.2.to;
      };
    }

-- the edge of a step
record EdgeOf (local : LocalTree) (walk : Walk) (act : Act) (to : Position) : Type 0 where
  edge : Edge
  edged : Edged walk edge
  step : IsStep (protocol_of local) (all_of local) (record { act = act; to = to }) edge

edge_of_a_step : (local : LocalTree) (walk : Walk) (position : Position) → Stands local walk position → (act : Act) (to : Position) →
    Step (protocol_of local) position act to → EdgeOf local walk act to
edge_of_a_step local walk position h act to st =
    let f = steps_from (protocol_of local) (all_of local) (settled_of local) h.comes st in
    let e = edges_there (protocol_of local) (all_of local) (all_of local) (graph_of walk).states h.along.states f.number f.place f.there in
    let s = step_listed f.step (settled_at (all_of local) (settled_of local) f.number f.place f.there).settled in
    let r = edge_of_step (protocol_of local) (all_of local) (steps_at f.place) e.0 e.2 (record { act = act; to = to }) s in
    record { edge = r.0; edged = record { number = f.number; edges = e.0; at = f.is_state; there = e.1; among = r.1 }; step = r.2 }

-- where no edge has the call, no step has
pub none_steps : (local : LocalTree) (walk : Walk) (position : Position) (call : Call) → Goes walk call None → Stands local walk position →
    (act : Act) (to : Position) → Step (protocol_of local) position act to → call_of local.me act ≢ call
none_steps local walk position call none h act to st named =
    let r = edge_of_a_step local walk position h act to st in
    let at_me : (tree_of walk.local.now).me ≡ local.me = ap (λ (t : LocalTree). t.me) h.of in
    none r.edge r.edged (ap (λ m. call_of m r.edge.act) at_me ∙ ap (call_of local.me) r.step.act ∙ named)

-- ---- no state has a call twice

pub calls_edges : (me : Name) (parts : Parts) (all : List Position) (steps : List Onward) (edges : List Edge) →
    AreSteps parts all steps edges → map (λ (e : Edge). call_of me e.act) edges ≡ calls_from me steps
calls_edges me parts all [] [] h = refl
calls_edges me parts all [] (e ∷ edges) h = absurd h
calls_edges me parts all (s ∷ steps) [] h = absurd h
calls_edges me parts all (s ∷ steps) (e ∷ edges) h = λ i. call_of me (h.0.act i) ∷ calls_edges me parts all steps edges h.1 i

differs_all : (me : Name) (call : Call) (edges : List Edge) → DiffersFrom call (map (λ (e : Edge). call_of me e.act) edges) → (e : Edge) →
    Among edges e → call ≡ call_of me e.act → ⊥
differs_all me call [] d e a same = a
differs_all me call (x ∷ edges) d e a same = ⊎_elim (λ f. d.0 (same ∙ ap (λ (y : Edge). call_of me y.act) (sym f)))
    (λ b. differs_all me call edges d.1 e b same) a

one_edge : (me : Name) (edges : List Edge) → AllDiffer (map (λ (e : Edge). call_of me e.act) edges) → (a b : Edge) → Among edges a →
    Among edges b → call_of me a.act ≡ call_of me b.act → a ≡ b
one_edge me [] d a b p q e = absurd p
one_edge me (x ∷ edges) d a b p q e =
    ⊎_elim
    (λ f. ⊎_elim (λ g. sym f ∙ g) (λ g. absurd (differs_all me (call_of me x.act) edges d.0 b g (ap (λ (y : Edge). call_of me y.act) f ∙
    e))) q)
    (λ f. ⊎_elim (λ g. absurd (differs_all me (call_of me x.act) edges d.0 a f (ap (λ (y : Edge). call_of me y.act) g ∙ sym e)))
    (λ g. one_edge me edges d.1 a b f g e) q)
    p

pub told_at : (me : Name) (ps : List Position) → AllTold me ps → (k : ℕ) (p : Position) → slice_get ps k ≡ Some p → Told me p
told_at me [] h k p e = cc
told_at me (x ∷ ps) h zero p e = let f : x ≡ p = cc e in subst (Told me) f h.0
told_at me (x ∷ ps) h (suc k) p e = told_at me ps h.1 k p e

-- two edges of a walk with one call are one
same_edge : (local : LocalTree) (walk : Walk) → AllTold local.me (all_of local) → Automates (protocol_of local) (graph_of walk) →
    (a b : Edge) → Edged walk a → Edged walk b → call_of local.me a.act ≡ call_of local.me b.act → a ≡ b
same_edge local walk told along a b p q e =
    let n : q.number ≡ p.number = state_same q.number p.number (sym q.at ∙ p.at) in
    let edges : q.edges ≡ p.edges = some_same (subst (λ k. slice_get (graph_of walk).states k ≡ Some q.edges) n q.there) p.there in
    let place = position_there (protocol_of local) (all_of local) (all_of local) (graph_of walk).states along.states p.number p.edges
    p.there in
    let t = told_at local.me (all_of local) told p.number place.0 place.1 in
    one_edge local.me p.edges (subst AllDiffer
    (sym (calls_edges local.me (protocol_of local) (all_of local) (steps_at place.0) p.edges place.2)) t.differ) a b p.among
    (subst (λ l. Among l b) edges q.among) e

-- ---- runs

run_more : {parts : Parts} {from mid end : Position} {acts : List Act} {act : Act} → Run parts from acts mid → Step parts mid act end →
    Run parts from (acts ++ act ∷ []) end
run_more stays st = goes st stays
run_more (goes s r) st = goes s (run_more r st)

-- a run whose calls are these, then one, then others
record Cut (parts : Parts) (me : Name) (from end : Position) (calls more : List Call) (call : Call) : Type 0 where
  acts : List Act
  act : Act
  rest : List Act
  mid : Position
  to : Position
  run : Run parts from acts mid
  named : map (call_of me) acts ≡ calls
  step : Step parts mid act to
  is : call_of me act ≡ call
  behind : Run parts to rest end
  rest_named : map (call_of me) rest ≡ more

cons_parts : {A : Type 0} {x y : A} {xs ys : List A} → x ∷ xs ≡ y ∷ ys → (x ≡ y) × (xs ≡ ys)
cons_parts e = (cc, cc)

cut : {parts : Parts} (me : Name) {from end : Position} {acts : List Act} (calls more : List Call) (call : Call) → Run parts from acts end →
    map (call_of me) acts ≡ calls ++ call ∷ more → Cut parts me from end calls more call
cut me [] more call stays e = cc
cut me [] more call (goes {act = a} st run) e =
    let p = cons_parts e in record {
      acts = [];
      act = a;
      rest = _;
      mid = _;
      to = _;
      run = stays;
      named = refl;
      step = st;
      is = p.0;
      behind =
          run;
      rest_named = p.1;
    }
cut me (c ∷ calls) more call stays e = cc
cut me (c ∷ calls) more call (goes {act = a} st run) e =
    let p = cons_parts e in
    let r = cut me calls more call run p.1 in
    record {
      acts = a ∷ r.acts;
      act = r.act;
      rest = r.rest;
      mid = r.mid;
      to = r.to;
      run = goes st r.run;
      named =
          (λ i. p.0 i ∷ r.named i);
      step = r.step;
      is = r.is;
      behind = r.behind;
      rest_named = r.rest_named;
    }

pub walk_told : (local : LocalTree) (walk : Walk) → tree_of walk.local.now ≡ local → AllTold local.me (all_of local)
walk_told local walk e = subst (λ (t : LocalTree). AllTold t.me (all_of t)) e (valid_told (tree_of walk.local.now) walk.local.now.valid)

-- a call that is taken
pub takes : (local : LocalTree) (walk walk' : Walk) (call : Call) (calls : List Call) → Taken walk call walk'.standing →
    walk'.local ≡ walk.local → graph_of walk' ≡ graph_of walk → HasTaken local walk calls → HasTaken local walk' (calls ++ call ∷ [])
takes local walk walk' call calls taken kept same h =
    let here = h.each h.acts h.position h.run h.named in
    let s = edge_steps local walk walk' h.position call here taken kept same in
    let at_me : (tree_of walk.local.now).me ≡ local.me = ap (λ (t : LocalTree). t.me) here.of in
    record {
      acts = h.acts ++ s.act ∷ [];
      position = s.to;
      run = run_more h.run s.step;
      named = map-append (call_of local.me) h.acts (s.act ∷ []) ∙ (λ i. h.named i ++ s.named i ∷ []);
      each = λ others end run named.
          let c = cut local.me calls [] call run named in
          let at = h.each c.acts c.mid c.run c.named in
          let edge = edge_of_a_step local walk c.mid at c.act c.to c.step in
          let one = same_edge local walk (walk_told local walk here.of) here.along edge.edge taken.edge edge.edged taken.edged
          (ap (call_of local.me) edge.step.act ∙ c.is ∙ sym taken.named ∙ ap (λ m. call_of m taken.edge.act) at_me) in
          let ends : c.to ≡ end = stays_there c.behind c.rest_named in
          record {
            of = s.stands.of;
            along = s.stands.along;
            comes = subst (λ q. ComesTo (protocol_of local) (all_of local) q walk'.standing) ends
                (subst (ComesTo (protocol_of local) (all_of local) c.to) (ap (λ (x : Edge). x.to) one ∙ taken.leads) edge.step.to);
          };
    }
  where
    stays_there : {parts : Parts} {from end : Position} {acts : List Act} → Run parts from acts end → map (call_of local.me) acts ≡ [] →
        from ≡ end
    stays_there stays e = refl
    stays_there (goes st run) e = cc

-- a call that isn't offered ends every trace
pub ends_traces : (local : LocalTree) (walk : Walk) (call : Call) (calls more : List Call) → Goes walk call None → HasTaken local walk calls
    → Trace local.me (protocol_of local) (calls ++ call ∷ more) → ⊥
ends_traces local walk call calls more none h trace =
    let c = cut local.me calls more call trace.2 trace.3 in
    none_steps local walk c.mid call none (h.each c.acts c.mid c.run c.named) c.act c.to c.step c.is

-- ---- the start and the end

pub starts : (local : LocalTree) (walk : Walk) → Stands local walk (start (protocol_of local)) → HasTaken local walk []
starts local walk h = record {
  acts = [];
  position = start (protocol_of local);
  run = stays;
  named = refl;
  each = λ others end run named. subst (Stands local walk) (no_calls run named) h;
}
  where
    no_calls : {parts : Parts} {from end : Position} {acts : List Act} → Run parts from acts end → map (call_of local.me) acts ≡ [] →
        from ≡ end
    no_calls stays e = refl
    no_calls (goes st run) e = cc

pub done_finished : (local : LocalTree) (walk : Walk) (position : Position) → Stands local walk position → walk.standing ≡ standings.End →
    Finished (protocol_of local) position
done_finished local walk position h e = end_finished (protocol_of local) (all_of local) (settled_of local) h.comes e

pub finished_done : (local : LocalTree) (walk : Walk) (position : Position) → Stands local walk position →
    Finished (protocol_of local) position → walk.standing ≡ standings.End
finished_done local walk position h f = finished_end (protocol_of local) (all_of local) (settled_of local) h.comes f

pub done_complete : (local : LocalTree) (walk : Walk) (calls : List Call) → HasTaken local walk calls → walk.standing ≡ standings.End →
    Complete local.me (protocol_of local) calls
done_complete local walk calls h e =
    (h.acts, h.position, h.run, done_finished local walk h.position (h.each h.acts h.position h.run h.named) e, h.named)

pub complete_done : (local : LocalTree) (walk : Walk) (calls : List Call) → HasTaken local walk calls →
    Complete local.me (protocol_of local) calls → walk.standing ≡ standings.End
complete_done local walk calls h c = finished_done local walk c.1 (h.each c.0 c.1 c.2 c.4) c.3

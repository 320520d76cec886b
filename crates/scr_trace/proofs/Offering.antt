-- Offers are the calls of the steps of a state.
use Rattle.std.proofs.Common.{◌≡◌, ℕ, zero, suc, ◌+◌, ◌-◌, ◌<◌, ◌≤◌, List, [], ◌∷◌, ◌++◌, length, get_or, drop, map, Some, None, Option}
use Rattle.std.proofs.Common.{refl, sym, ap, ◌∙◌, subst, inl, inr, ⊎_elim, arith, append_assoc, append-nil}
use Rattle.std.specs.Prelude.{slice_get, Contains}
use Rattle.std.proofs.lemmas.List.{at_drop_more, at_drop_all, map-append, reverse-append}
use Rattle.std.proofs.lemmas.Grind.{common_steps}
use Rattle.mg_text.specs.Call.{Name, Call}
use Rattle.scr_tree.specs.Tree.{LocalTree}
use Rattle.scr_tree.specs.CallNames.{message_call, label_call}
use Rattle.scr_tree.specs.Meaning.{message_of, protocol_of}
use Rattle.scr_tree.specs.Local.{tree_of}
use Rattle.scr_tree.specs.Protocol.{Parts}
use Rattle.scr_tree.specs.Valid.{AreDistinct}
use Rattle.scr_tree.specs.Steps.{Act, Moves, Looks, Position, Step}
use Rattle.scr_trace.specs.declared.arrow.Arrow.{Arrow}
use Rattle.scr_trace.specs.declared.arrow.Exits.{Exits}
use Rattle.scr_trace.specs.declared.call.Offer.{Offer}
use Rattle.scr_trace.specs.declared.standing.Standing.{Standing}
use Rattle.scr_trace.specs.declared.standing.Standing.TheVariants as standings
use Rattle.scr_trace.specs.declared.walk.Walk.{Walk}
use Rattle.scr_trace.specs.Positions.{ComesTo, at_state, at_end, silently}
use Rattle.scr_trace.specs.Onward.{Onward, steps_at, Ahead, settled, behind}
use Rattle.scr_trace.specs.Walking.{graph_of, Stands, Offered, calls_in, answered, calls_offered, methods_of}
use Rattle.scr_trace.specs.inner.Goes.{Among}
use Rattle.scr_trace.specs.inner.Laying.{Work, Cell, Draft}
use Rattle.scr_trace.specs.inner.Offering.{edge_calls, labels_in, messages_in, AreApart, SamePeer}
use Rattle.scr_trace.specs.inner.View.{draft_of, drafts_of, cell_of, work_of, act_of, edge_of, edges_of}
use Rattle.scr_trace.proofs.Following.{AllSettled, step_listed, listed_step, settled_at, edges_there, position_there, step_of_edge}
use Rattle.scr_trace.proofs.Following.{steps_from, steps_to}
use Rattle.scr_trace.proofs.Telling.{OneChoice, moving, looking, AllLook, AllMove, DiffersFrom, AllDiffer}
use Rattle.scr_trace.proofs.Valid.{first_or_later, none_contained}
use Rattle.scr_trace.proofs.Walks.{get_map, get_none, told_at, all_of, settled_of, edge_among, walk_told, state_same, calls_edges}

-- ---- the loops

-- the arrows from an index on, as drafts: that of the index stands last
pub drafts-drop : (arrows : List Arrow) (i : ℕ) (a : Arrow) → i < length arrows → a ≡ get_or arrows i a → drafts_of (drop i arrows)
    ≡ drafts_of (drop (i + 1) arrows) ++ draft_of a ∷ []
drafts-drop arrows i a h e =
    at_drop_more drafts_of arrows i a h ∙ ap (λ (x : Arrow). drafts_of (x ∷ drop (i + 1) arrows)) (sym e)
    ∙ reverse-append (draft_of a ∷ []) (map draft_of (drop (i + 1) arrows))

pub drafts-past : (arrows : List Arrow) (i : ℕ) → length arrows ≤ i → drafts_of (drop i arrows) ≡ []
drafts-past arrows i h = at_drop_all drafts_of arrows i h

offered-more : (made : List Offer) (o : Offer) → calls_offered (made ++ o ∷ []) ≡ calls_offered made ++ calls_in o.method o.answers.items
offered-more [] o = append-nil (calls_in o.method o.answers.items)
offered-more (x ∷ made) o =
    ap (λ cs. calls_in x.method x.answers.items ++ cs) (offered-more made o)
    ∙ sym (append_assoc (calls_in x.method x.answers.items) (calls_offered made) (calls_in o.method o.answers.items))

pub message_more : (me : Name) (w : Work) (arrows : List Arrow) (i : ℕ) (a : Arrow) (made : List Offer) (o : Offer) → i < length arrows →
    a ≡ get_or arrows i a →
    o.method ≡ message_call (message_of a.message.now) → o.answers.items ≡ [] →
    calls_offered made ≡ edge_calls me (map (edge_of w None) (drafts_of (drop (i + 1) arrows))) →
    calls_offered (made ++ o ∷ []) ≡ edge_calls me (map (edge_of w None) (drafts_of (drop i arrows)))
message_more me w arrows i a made o h e named none before =
    offered-more made o
    ∙ (λ j. before j ++ calls_in (named j) (none j))
    ∙ sym (more (drafts_of (drop (i + 1) arrows)) (draft_of a))
    ∙ ap (λ ds. edge_calls me (map (edge_of w None) ds)) (sym (drafts-drop arrows i a h e))
  where
    more : (ds : List Draft) (d : Draft) → edge_calls me (map (edge_of w None) (ds ++ d ∷ [])) ≡ edge_calls me (map (edge_of w None) ds)
        ++ record { method = message_call (message_of d.message); answer = None } ∷ []
    more [] d = refl
    more (x ∷ ds) d = ap (λ cs. record { method = message_call (message_of x.message); answer = None } ∷ cs) (more ds d)

pub label_more : (arrows : List Arrow) (i : ℕ) (a : Arrow) (made : List Name) (label : Name) → i < length arrows → a ≡ get_or arrows i a →
    label ≡ a.message.now.label →
    made ≡ labels_in (drafts_of (drop (i + 1) arrows)) → made ++ label ∷ [] ≡ labels_in (drafts_of (drop i arrows))
label_more arrows i a made label h e is before =
    (λ j. before j ++ is j ∷ []) ∙ sym (map-append (λ (d : Draft). d.message.label) (drafts_of (drop (i + 1) arrows)) (draft_of a ∷ []))
    ∙ ap labels_in (sym (drafts-drop arrows i a h e))

pub method_more : (arrows : List Arrow) (i : ℕ) (a : Arrow) (made : List Offer) (o : Offer) → i < length arrows → a ≡ get_or arrows i a →
    o.method ≡ message_call (message_of a.message.now) → methods_of made ≡ messages_in (drafts_of (drop (i + 1) arrows)) →
    methods_of (made ++ o ∷ []) ≡ messages_in (drafts_of (drop i arrows))
method_more arrows i a made o h e named before =
    map-append (λ (x : Offer). x.method) made (o ∷ []) ∙ (λ j. before j ++ named j ∷ [])
    ∙ sym (map-append (λ (d : Draft). message_call (message_of d.message)) (drafts_of (drop (i + 1) arrows)) (draft_of a ∷ []))
    ∙ ap messages_in (sym (drafts-drop arrows i a h e))

pub ruleset message_steps = (common_steps, message_more, method_more, drafts-past)

-- no arrows, no offers
pub none_offered : (me : Name) (w : Work) (c : ℕ) (arrows : List Arrow) (offers : List Offer) → length arrows ≡ 0 → offers ≡ [] →
    calls_offered offers ≡ edge_calls me (map (edge_of w (Some c)) (drafts_of arrows))
none_offered me w c [] offers h e = ap calls_offered e
none_offered me w c (a ∷ arrows) offers h e = absurd (let z : ⊥ = omega arith in z)

pub ruleset label_steps = (common_steps, label_more, drafts-past)

-- ---- looks

-- the drafts are of messages from this peer
abbrev FromPeer : Name → List Draft → Type 0
FromPeer peer [] = Unit {0}
FromPeer peer (d ∷ ds) = (d.message.peer ≡ peer) × FromPeer peer ds

looked_calls : (me : Name) (w : Work) (c : ℕ) (peer : Name) (ds : List Draft) → FromPeer peer ds →
    answered (label_call me (w.choices - c) peer) (labels_in ds) ≡ edge_calls me (map (edge_of w (Some c)) ds)
looked_calls me w c peer [] h = refl
looked_calls me w c peer (d ∷ ds) h = λ i. record { method = label_call me (w.choices - c) (sym h.0 i); answer = Some d.message.label } ∷
    looked_calls me w c peer ds h.1 i

from_both : (peer : Name) (xs ys : List Draft) → FromPeer peer xs → FromPeer peer ys → FromPeer peer (xs ++ ys)
from_both peer [] ys a b = b
from_both peer (x ∷ xs) ys a b = (a.0, from_both peer xs ys a.1 b)

from_arrows : (peer : Name) (arrows : List Arrow) → ((a : Arrow) → Among arrows a → a.message.now.peer ≡ peer) →
    FromPeer peer (drafts_of arrows)
from_arrows peer [] h = tt
from_arrows peer (a ∷ arrows) h =
    subst (FromPeer peer) (sym (reverse-append (draft_of a ∷ []) (map draft_of arrows)))
    (from_both peer (drafts_of arrows) (draft_of a ∷ []) (from_arrows peer arrows (λ b m. h b (inr m))) (h a (inl refl), tt))

among_at : (arrows : List Arrow) (i : ℕ) (a : Arrow) → i < length arrows → a ≡ get_or arrows i a → Among arrows a
among_at [] i a h e = absurd (let z : ⊥ = omega arith in z)
among_at (x ∷ arrows) zero a h e = inl (sym e)
among_at (x ∷ arrows) (suc i) a h e = inr (among_at arrows i a (omega arith) e)

-- the one offer of looks
pub look_offer : (me : Name) (w : Work) (c : ℕ) (arrows : List Arrow) (i : ℕ) (first : Arrow) (o : Offer) → i < length arrows →
    first ≡ get_or arrows i first → SamePeer arrows →
    o.method ≡ label_call me (w.choices - c) first.message.now.peer → o.answers.items ≡ labels_in (drafts_of arrows) →
    calls_offered (o ∷ []) ≡ edge_calls me (map (edge_of w (Some c)) (drafts_of arrows))
look_offer me w c arrows i first o h e same named labels =
    append-nil (calls_in o.method o.answers.items)
    ∙ (λ j. calls_in (named j) (labels j))
    ∙ some (drafts_of arrows) (edge_among w (Some c) arrows first (among_at arrows i first h e))
    (from_arrows first.message.now.peer arrows (λ a m. same a first m (among_at arrows i first h e)))
  where
    some : (ds : List Draft) → Among (map (edge_of w (Some c)) ds) (edge_of w (Some c) (draft_of first)) →
        FromPeer first.message.now.peer ds →
        calls_in (label_call me (w.choices - c) first.message.now.peer) (labels_in ds) ≡ edge_calls me (map (edge_of w (Some c)) ds)
    some [] a f = absurd a
    some (d ∷ ds) a f = looked_calls me w c first.message.now.peer (d ∷ ds) f

-- ---- the steps of the position

contains_among : {A : Type 0} (xs : List A) (x : A) → Contains xs x → Among xs x
contains_among {A} xs x c = go xs c.0 c.1 c.2
  where
    go : (ys : List A) (k : ℕ) → k < length ys → get_or ys k x ≡ x → Among ys x
    go [] k h e = absurd (let z : ⊥ = omega arith in z)
    go (y ∷ ys) zero h e = inl e
    go (y ∷ ys) (suc k) h e = inr (go ys k (omega arith) e)

among_contains : {A : Type 0} (xs : List A) (x : A) → Among xs x → Contains xs x
among_contains [] x a = absurd a
among_contains (y ∷ ys) x a = ⊎_elim (λ e. (0, omega arith, e)) (λ b. let r = among_contains ys x b in (suc r.0, omega (arith, r.1), r.2)) a

ahead_of : (parts : Parts) (all : List Position) → AllSettled parts all → {p : Position} {s : Standing} → ComesTo parts all p s →
    (k : ℕ) (place : Position) → s ≡ standings.State k → slice_get all k ≡ Some place → Ahead parts p (steps_at place)
ahead_of parts all sets (at_state {number = n} {position = p} e) k place is there =
    let same : n ≡ k = state_same n k is in
    let f : p ≡ place = some_same (subst (λ j. slice_get all j ≡ Some p) same e) there in
    subst (λ q. Ahead parts p (steps_at q)) f (settled (settled_at all sets n p e).settled)
  where
    some_same : {A : Type 0} {a b : A} {o : Option A} → o ≡ Some a → o ≡ Some b → a ≡ b
    some_same e f = cc
ahead_of parts all sets at_end k place is there = cc is
ahead_of parts all sets (silently m c) k place is there = behind m (ahead_of parts all sets c k place is there)

ahead_end : (parts : Parts) (all : List Position) {p : Position} {s : Standing} → ComesTo parts all p s → s ≡ standings.End →
    Ahead parts p []
ahead_end parts all (at_state e) is = cc is
ahead_end parts all at_end is = settled (λ to m. elim m [ ])
ahead_end parts all (silently m c) is = behind m (ahead_end parts all c is)

pub offered_at : (local : LocalTree) (walk : Walk) (position : Position) (number : ℕ) (cell : Cell) (calls : List Call) →
    Stands local walk position → walk.standing ≡ standings.State number → Some cell ≡ slice_get (work_of walk.laid).cells number →
    calls ≡ edge_calls (tree_of walk.local.now).me (edges_of (work_of walk.laid) cell) → Offered local position calls
offered_at local walk position number cell calls h at there is =
    let parts = protocol_of local in
    let all = all_of local in
    let sets = settled_of local in
    let w : Work = work_of walk.laid in
    let place = state_place parts all h.comes number at in
    let r = edges_there parts all all (graph_of walk).states h.along.states number place.0 place.1 in
    let same : edges_of w cell ≡ r.0 = some_same (get_map (edges_of w) w.cells number cell (sym there)) r.1 in
    let at_me : (tree_of walk.local.now).me ≡ local.me = ap (λ (t : LocalTree). t.me) h.of in
    record {
      steps = steps_at place.0;
      ahead = ahead_of parts all sets h.comes number place.0 at place.1;
      each = λ act to. (
        λ c. steps_to parts all sets h.comes number place.0 at place.1
            (listed_step place.0 _ (contains_among (steps_at place.0) (record { act = act; to = to }) c)),
        λ st.
            let f = steps_from parts all sets h.comes st in
            let n : f.number ≡ number = state_same f.number number (sym f.is_state ∙ at) in
            let p : f.place ≡ place.0 = some_same (subst (λ k. slice_get all k ≡ Some f.place) n f.there) place.1 in
            among_contains (steps_at place.0) (record { act = act; to = to })
            (subst (λ q. Among (steps_at q) (record { act = act; to = to })) p
            (step_listed f.step (settled_at all sets f.number f.place f.there).settled)),
      );
      named = sym (calls_edges local.me parts all (steps_at place.0) r.0 r.2) ∙ ap (edge_calls local.me) (sym same) ∙
          ap (λ m. edge_calls m (edges_of w cell)) (sym at_me) ∙ sym is;
    }
  where
    some_same : {A : Type 0} {a b : A} {o : Option A} → o ≡ Some a → o ≡ Some b → a ≡ b
    some_same e f = cc

    state_place : (parts : Parts) (all : List Position) {p : Position} {s : Standing} → ComesTo parts all p s → (k : ℕ) →
        s ≡ standings.State k → (q : Position) × (slice_get all k ≡ Some q)
    state_place parts all (at_state {number = n} {position = p} e) k f = (p, subst (λ j. slice_get all j ≡ Some p) (state_same n k f) e)
    state_place parts all at_end k f = cc f
    state_place parts all (silently m c) k f = state_place parts all c k f

no_step_at_end : (parts : Parts) (all : List Position) → AllSettled parts all → {p q : Position} {s : Standing} {act : Act} →
    ComesTo parts all p s → s ≡ standings.End → Step parts p act q → ⊥
no_step_at_end parts all sets c e st = let f = (steps_from parts all sets c st).is_state in cc

pub offered_end : (local : LocalTree) (walk : Walk) (position : Position) → Stands local walk position → walk.standing ≡ standings.End →
    Offered local position []
offered_end local walk position h at = record {
  steps = [];
  ahead = ahead_end (protocol_of local) (all_of local) h.comes at;
  each = λ act to. (
    λ c. absurd (contains_among [] (record { act = act; to = to }) c),
    λ st. absurd
        (no_step_at_end (protocol_of local) (all_of local) (settled_of local) h.comes at st),
  );
  named = refl;
}

-- the state at which a walk stands is there
pub offered_past : (local : LocalTree) (walk : Walk) (position : Position) (number : ℕ) → Stands local walk position →
    walk.standing ≡ standings.State number → None ≡ slice_get (work_of walk.laid).cells number → ⊥
offered_past local walk position number h at none =
    let place = state_place (protocol_of local) (all_of local) h.comes number at in
    let r = edges_there (protocol_of local) (all_of local) (all_of local) (graph_of walk).states h.along.states number place.0 place.1 in
    let e : slice_get (graph_of walk).states number ≡ None = get_none (edges_of (work_of walk.laid)) (work_of walk.laid).cells number none
    in
    let f = r.1 in
    cc
  where
    state_place : (parts : Parts) (all : List Position) {p : Position} {s : Standing} → ComesTo parts all p s → (k : ℕ) →
        s ≡ standings.State k → (q : Position) × (slice_get all k ≡ Some q)
    state_place parts all (at_state {number = n} {position = p} e) k f = (p, subst (λ j. slice_get all j ≡ Some p) (state_same n k f) e)
    state_place parts all at_end k f = cc f
    state_place parts all (silently m c) k f = state_place parts all c k f

look_peer : (n k : ℕ) (p q l m : Name) → Looks n p l ≡ Looks k q m → p ≡ q
look_peer n k p q l m e = cc

step_peer : (steps : List Onward) (n : ℕ) (peer : Name) → AllLook n peer steps → (s : Onward) → Among steps s → (k : ℕ) (p l : Name) →
    s.act ≡ Looks k p l → p ≡ peer
step_peer [] n peer h s a k p l e = absurd a
step_peer (x ∷ steps) n peer h s a k p l e =
    ⊎_elim (λ f. look_peer k n p peer l h.0.0 (sym e ∙ ap (λ (y : Onward). y.act) (sym f) ∙ h.0.1))
    (λ b. step_peer steps n peer h.1 s b k p l e) a

move_no_look : (steps : List Onward) → AllMove steps → (s : Onward) → Among steps s → (k : ℕ) (p l : Name) → s.act ≡ Looks k p l → ⊥
move_no_look [] h s a k p l e = a
move_no_look (x ∷ steps) h s a k p l e =
    ⊎_elim (λ f. let g : Looks k p l ≡ Moves h.0.0 = sym e ∙ ap (λ (y : Onward). y.act) (sym f) ∙ h.0.1 in cc g)
    (λ b. move_no_look steps h.1 s b k p l e) a

-- the branches of a choice elsewhere are of one peer
pub peers_same : (local : LocalTree) (walk : Walk) (position : Position) (number c : ℕ) (exits : Exits) → Stands local walk position →
    walk.standing ≡ standings.State number →
    Some (cell_of exits) ≡ slice_get (work_of walk.laid).cells number → exits.number ≡ Some c → SamePeer exits.arrows.items
peers_same local walk position number c exits h at there counted a b ma mb =
    let w : Work = work_of walk.laid in
    let e = get_map (edges_of w) w.cells number (cell_of exits) (sym there) in
    let place = position_there (protocol_of local) (all_of local) (all_of local) (graph_of walk).states h.along.states number
    (edges_of w (cell_of exits)) e in
    let told = told_at local.me (all_of local) (walk_told local walk h.of) number place.0 place.1 in
    let sa = step_of_edge (protocol_of local) (all_of local) (steps_at place.0) (edges_of w (cell_of exits)) place.2
    (edge_of w exits.number (draft_of a)) (edge_among w exits.number exits.arrows.items a ma) in
    let sb = step_of_edge (protocol_of local) (all_of local) (steps_at place.0) (edges_of w (cell_of exits)) place.2
    (edge_of w exits.number (draft_of b)) (edge_among w exits.number exits.arrows.items b mb) in
    go (steps_at place.0) told.one sa.0 sb.0 sa.1 sb.1 (sym sa.2.act ∙ ap (λ (o : Option ℕ). act_of w o a.message.now) counted)
    (sym sb.2.act ∙ ap (λ (o : Option ℕ). act_of w o b.message.now) counted)
  where
    go : (steps : List Onward) → OneChoice steps → (x y : Onward) → Among steps x → Among steps y → {k j : ℕ} {l m : Name} →
        x.act ≡ Looks k a.message.now.peer l → y.act ≡ Looks j b.message.now.peer m → a.message.now.peer ≡ b.message.now.peer
    go steps (moving mv) x y mx my {k} {j} {l} {m} e f = absurd (move_no_look steps mv x mx k a.message.now.peer l e)
    go steps (looking n peer lk) x y mx my {k} {j} {l} {m} e f = step_peer steps n peer lk x mx k a.message.now.peer l e ∙
        sym (step_peer steps n peer lk y my j b.message.now.peer m f)

pub look_pushed : (me : Name) (w : Work) (c : ℕ) (arrows : List Arrow) (i : ℕ) (first : Arrow) (o : Offer) (before after : List Offer) →
    i < length arrows → first ≡ get_or arrows i first → before ≡ [] → after ≡ before ++ o ∷ [] →
    o.method ≡ label_call me (w.choices - c) first.message.now.peer → o.answers.items ≡ labels_in (drafts_of arrows) → SamePeer arrows →
    calls_offered after ≡ edge_calls me (map (edge_of w (Some c)) (drafts_of arrows))
look_pushed me w c arrows i first o before after h e none is named labels same =
    ap calls_offered (is ∙ ap (λ l. l ++ o ∷ []) none) ∙ look_offer me w c arrows i first o h e same named labels

-- at most one offer
pub none_many : (offers : List Offer) → offers ≡ [] → length offers ≤ 1
none_many offers e = subst (λ (os : List Offer). length os ≤ 1) (sym e) (omega arith)

pub one_many : (o : Offer) (before after : List Offer) → before ≡ [] → after ≡ before ++ o ∷ [] → length after ≤ 1
one_many o before after none is =
    subst (λ (os : List Offer). length os ≤ 1) (sym (is ∙ ap (λ (os : List Offer). os ++ o ∷ []) none)) (omega arith)

pub ruleset looks_once = (common_steps, none_offered, look_pushed, none_many, one_many)

-- a walk that stands at no state is at the end
pub at_no_state : (s : Standing) → ((n : ℕ) → s ≡ standings.State n → ⊥) → s ≡ standings.End
at_no_state (standings.State n) h = absurd (h n refl)
at_no_state standings.End h = refl

-- ---- no two offers have one method

pub none_twice : (offers : List Offer) → offers ≡ [] → AreDistinct (methods_of offers)
none_twice offers e = subst (λ os. AreDistinct (methods_of os)) (sym e) tt

few_distinct : (offers : List Offer) → length offers ≤ 1 → AreDistinct (methods_of offers)
few_distinct [] h = tt
few_distinct (o ∷ []) h = (none_contained o.method, tt)
few_distinct (o ∷ p ∷ offers) h = absurd (omega (arith, h))

module _ (me : Name) (w : Work) where
  none_named : (name : Name) (ds : List Draft) → DiffersFrom (record { method = name; answer = None })
      (edge_calls me (map (edge_of w None) ds)) →
      Contains (messages_in ds) name → ⊥
  none_named name [] h c = none_contained name c
  none_named name (d ∷ ds) h c =
      ⊎_elim (λ e. h.0 (λ i. record { method = sym e i; answer = None })) (none_named name ds h.1)
      (first_or_later (message_call (message_of d.message)) (messages_in ds) name c)

  messages_distinct : (ds : List Draft) → AllDiffer (edge_calls me (map (edge_of w None) ds)) → AreDistinct (messages_in ds)
  messages_distinct [] h = tt
  messages_distinct (d ∷ ds) h = (none_named (message_call (message_of d.message)) ds h.0, messages_distinct ds h.1)

-- the calls of a state's edges differ
state_differs : (local : LocalTree) (walk : Walk) (position : Position) (number : ℕ) (cell : Cell) → Stands local walk position →
    Some cell ≡ slice_get (work_of walk.laid).cells number → AllDiffer (edge_calls local.me (edges_of (work_of walk.laid) cell))
state_differs local walk position number cell h there =
    let w : Work = work_of walk.laid in
    let e = get_map (edges_of w) w.cells number cell (sym there) in
    let place = position_there (protocol_of local) (all_of local) (all_of local) (graph_of walk).states h.along.states number
    (edges_of w cell) e in
    let told = told_at local.me (all_of local) (walk_told local walk h.of) number place.0 place.1 in
    subst AllDiffer (sym (calls_edges local.me (protocol_of local) (all_of local) (steps_at place.0) (edges_of w cell) place.2)) told.differ

pub offers_distinct : (local : LocalTree) (walk : Walk) (position : Position) (number : ℕ) (exits : Exits) (offers : List Offer) →
    Stands local walk position →
    Some (cell_of exits) ≡ slice_get (work_of walk.laid).cells number → AreApart exits.number (drafts_of exits.arrows.items) offers →
    AreDistinct (methods_of offers)
offers_distinct local walk position number exits offers h there =
    go exits.number (state_differs local walk position number (cell_of exits) h there)
  where
    go : (o : Option ℕ) → AllDiffer (edge_calls local.me (map (edge_of (work_of walk.laid) o) (drafts_of exits.arrows.items))) →
        AreApart o (drafts_of exits.arrows.items) offers → AreDistinct (methods_of offers)
    go None d e = subst AreDistinct (sym e) (messages_distinct local.me (work_of walk.laid) (drafts_of exits.arrows.items) d)
    go (Some c) d few = few_distinct offers few

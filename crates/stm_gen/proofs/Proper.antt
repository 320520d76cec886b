-- The states that are laid out are those of a typestate.
use Rattle.std.proofs.Common.{◌≡◌, ◌≢◌, ℕ, zero, suc, ◌+◌, ◌^◌, ◌<◌, ◌≤◌, List, [], ◌∷◌, length, get_or, drop, map, Some, None, refl, sym}
use Rattle.std.proofs.Common.{ap, ◌∙◌, subst, inl, inr, ⊎_elim, arith, false}
use Rattle.std.specs.Prelude.{Contains, codes, slice_get}
use Rattle.std.specs.List.{AllByRecursion}
use Rattle.std.proofs.lemmas.Fmt.{decimal_injective}
use Rattle.mg_text.specs.Call.{Name, Call}
use Rattle.scr_tree.specs.Protocol.{Parts}
use Rattle.scr_tree.specs.Steps.{Looks, Position}
use Rattle.scr_tree.specs.CallNames.{message_call, label_call, call_of}
use Rattle.scr_trace.specs.declared.standing.Standing.{Standing}
use Rattle.scr_trace.specs.Positions.{ComesTo, at_state, at_end, silently}
use Rattle.scr_trace.specs.Onward.{Onward, steps_at}
use Rattle.scr_trace.specs.Graph.{Edge, AreSteps, AreStates}
use Rattle.scr_trace.specs.inner.Goes.{Among}
use Rattle.scr_trace.proofs.Valid.{first_or_later, none_contained}
use Rattle.scr_trace.proofs.Telling.{DiffersFrom, AllDiffer, calls_from, AllTold}
use Rattle.ts_tree.specs.Typestate.{Method, State}
use Rattle.ts_tree.specs.Proper.{AreDistinct, IsWithin, IsTarget, IsState, IsOffered, IsProper}
use Rattle.stm_gen.specs.Laid.{to_of, branches_of, methods_of, state_name}
use Rattle.stm_gen.specs.inner.States.{states_from}
use Rattle.stm_gen.proofs.Paths.{AllMessages, AllLooks, OneKind, messages, looks, one_kind, calls, methods-message, methods-look}
use Rattle.stm_gen.proofs.Paths.{branches-look}

-- ---- names of states

-- a state's number is told by its name
name_injective : (j k : ℕ) → j < 2 ^ 64 → k < 2 ^ 64 → state_name j ≡ state_name k → j ≡ k
name_injective j k hj hk e = decimal_injective j k hj hk (ap (drop 5) e)

-- no state is named as the end is
not_end : (k : ℕ) → state_name k ≢ codes "end"
not_end k e = let f = ap (λ l. get_or l 0 0) e in omega arith

named_in : (me : Name) (k : ℕ) (gs : List (List Edge)) (name : Name) → Contains (map (λ s. s.name) (states_from me k gs)) name →
    (i : ℕ) × (k ≤ i) × (i < k + length gs) × (state_name i ≡ name)
named_in me k [] name c = absurd (none_contained name c)
named_in me k (g ∷ gs) name c =
    ⊎_elim
    (λ e. (k, omega arith, omega arith, e))
    (λ later. let r = named_in me (suc k) gs name later in (r.0, omega (arith, r.1), omega (arith, r.2), r.3))
    (first_or_later (state_name k) (map (λ s. s.name) (states_from me (suc k) gs)) name c)

names_differ : (me : Name) (k : ℕ) (gs : List (List Edge)) → k + length gs < 2 ^ 64 → AreDistinct (map (λ s. s.name) (states_from me k gs))
names_differ me k [] h = tt
names_differ me k (g ∷ gs) h = (
  λ c.
      let r = named_in me (suc k) gs (state_name k) c in
      let e = name_injective r.0 k (omega (arith, r.2)) (omega arith) r.3 in
      omega (arith, r.1, e),
  names_differ me (suc k) gs (omega arith),
)

pub how_many : (me : Name) (k : ℕ) (gs : List (List Edge)) → length (states_from me k gs) ≡ length gs
how_many me k [] = refl
how_many me k (g ∷ gs) = ap suc (how_many me (suc k) gs)

-- ---- targets

below : {A : Type 0} (xs : List A) (k : ℕ) (x : A) → slice_get xs k ≡ Some x → k < length xs
below [] k x e = cc
below (y ∷ ys) zero x e = omega arith
below (y ∷ ys) (suc k) x e = let h = below ys k x e in omega arith

comes_within : (parts : Parts) (all : List Position) {p : Position} {s : Standing} → ComesTo parts all p s → IsWithin (length all) (to_of s)
comes_within parts all (at_state {number = k} {position = p} e) = below all k p e
comes_within parts all at_end = tt
comes_within parts all (silently m c) = comes_within parts all c

abbrev AllWithin : ℕ → List Edge → Type 0
AllWithin count [] = Unit {0}
AllWithin count (e ∷ es) = IsWithin count (to_of e.to) × AllWithin count es

edges_within : (parts : Parts) (all : List Position) (steps : List Onward) (edges : List Edge) → AreSteps parts all steps edges →
    AllWithin (length all) edges
edges_within parts all [] [] h = tt
edges_within parts all [] (e ∷ edges) h = absurd h
edges_within parts all (s ∷ steps) [] h = absurd h
edges_within parts all (s ∷ steps) (e ∷ edges) h = (comes_within parts all h.0.to, edges_within parts all steps edges h.1)

-- ---- a state

module _ (me : Name) where
  none_later : (call : Call) (ys : List Edge) (e : Edge) → DiffersFrom call (calls me ys) → Among ys e → call ≡ call_of me e.act → ⊥
  none_later call [] e d a f = a
  none_later call (y ∷ ys) e d a f = ⊎_elim (λ g. d.0 (f ∙ ap (λ (z : Edge). call_of me z.act) (sym g))) (λ b. none_later call ys e d.1 b f)
      a

  named_edge : (edges : List Edge) → AllMessages edges → (name : Name) → Contains (map (λ m. m.name) (methods_of me edges)) name →
      (e : Edge) × Among edges e × (call_of me e.act ≡ record { method = name; answer = None })
  named_edge [] h name c = absurd (none_contained name c)
  named_edge (x ∷ xs) h name c =
      ⊎_elim
      (λ e. (x, inl refl, ap (call_of me) h.0.1 ∙ (λ i. record { method = e i; answer = None })))
      (λ later. let r = named_edge xs h.1 name later in (r.0, inr r.1, r.2))
      (first_or_later (message_call h.0.0) (map (λ m. m.name) (methods_of me xs)) name (subst (λ ms. Contains (map (λ m. m.name) ms) name)
      (methods-message me x xs h.0.0 h.0.1) c))

  messages_differ : (edges : List Edge) → AllMessages edges → AllDiffer (calls me edges) →
      AreDistinct (map (λ m. m.name) (methods_of me edges))
  messages_differ [] h d = tt
  messages_differ (x ∷ xs) h d =
      subst (λ ms. AreDistinct (map (λ m. m.name) ms)) (sym (methods-message me x xs h.0.0 h.0.1)) (
        λ c. let r = named_edge xs h.1 (message_call h.0.0) c in none_later (call_of me x.act) xs r.0 d.0 r.1
            (ap (call_of me) h.0.1 ∙ sym r.2),
        messages_differ xs h.1 d.1,
      )

  message_targets : (count : ℕ) (edges : List Edge) → AllMessages edges → AllWithin count edges →
      AllByRecursion (λ m. IsTarget count m.target) (methods_of me edges)
  message_targets count [] h w = tt
  message_targets count (x ∷ xs) h w =
      subst (AllByRecursion (λ m. IsTarget count m.target)) (sym (methods-message me x xs h.0.0 h.0.1))
      (w.0, message_targets count xs h.1 w.1)

  branch_targets : (count : ℕ) (n : ℕ) (peer : Name) (edges : List Edge) → AllLooks n peer edges → AllWithin count edges →
      AllByRecursion (λ b. IsWithin count b.to) (branches_of edges)
  branch_targets count n peer [] h w = tt
  branch_targets count n peer (x ∷ xs) h w =
      subst (AllByRecursion (λ b. IsWithin count b.to)) (sym (branches-look me x xs n peer h.0.0 h.0.1))
      (w.0, branch_targets count n peer xs h.1 w.1)

  labelled : (n : ℕ) (peer : Name) (edges : List Edge) → AllLooks n peer edges → (label : Name) →
      Contains (map (λ b. b.label) (branches_of edges)) label → (e : Edge) × Among edges e × (e.act ≡ Looks n peer label)
  labelled n peer [] h label c = absurd (none_contained label c)
  labelled n peer (x ∷ xs) h label c =
      ⊎_elim
      (λ e. (x, inl refl, h.0.1 ∙ ap (Looks n peer) e))
      (λ later. let r = labelled n peer xs h.1 label later in (r.0, inr r.1, r.2))
      (first_or_later h.0.0 (map (λ b. b.label) (branches_of xs)) label (subst (λ bs. Contains (map (λ b. b.label) bs) label)
      (branches-look me x xs n peer h.0.0 h.0.1) c))

  labels_differ : (n : ℕ) (peer : Name) (edges : List Edge) → AllLooks n peer edges → AllDiffer (calls me edges) →
      AreDistinct (map (λ b. b.label) (branches_of edges))
  labels_differ n peer [] h d = tt
  labels_differ n peer (x ∷ xs) h d =
      subst (λ bs. AreDistinct (map (λ b. b.label) bs)) (sym (branches-look me x xs n peer h.0.0 h.0.1)) (
        λ c. let r = labelled n peer xs h.1 h.0.0 c in none_later (call_of me x.act) xs r.0 d.0 r.1
            (ap (call_of me) h.0.1 ∙ sym (ap (call_of me) r.2)),
        labels_differ n peer xs h.1 d.1,
      )

  proper_state : (count k : ℕ) (edges : List Edge) → OneKind edges → AllDiffer (calls me edges) → AllWithin count edges →
      IsState count (record { name = state_name k; methods = methods_of me edges; drops = false })
  proper_state count k edges (messages h) d w = record {
    named = not_end k;
    methods = messages_differ edges h d;
    targets =
        message_targets count edges h w;
  }
  proper_state count k [] (looks n peer h) d w = record { named = not_end k; methods = tt; targets = tt }
  proper_state count k (x ∷ xs) (looks n peer h) d w =
      subst (λ ms. IsState count (record { name = state_name k; methods = ms; drops = false }))
      (sym (methods-look me x xs n peer h.0.0 h.0.1))
      (record {
        named = not_end k;
        methods = (none_contained (label_call me n peer), tt);
        targets =
            ((branch_targets count n peer (x ∷ xs) h w, labels_differ n peer (x ∷ xs) h d), tt);
      })

  each_state : (parts : Parts) (all : List Position) (k : ℕ) (ps : List Position) (gs : List (List Edge)) → AreStates parts all ps gs →
      AllTold me ps → AllByRecursion (IsState (length all)) (states_from me k gs)
  each_state parts all k [] [] h t = tt
  each_state parts all k [] (g ∷ gs) h t = absurd h
  each_state parts all k (p ∷ ps) [] h t = absurd h
  each_state parts all k (p ∷ ps) (g ∷ gs) h t = (
    proper_state (length all) k g (one_kind parts all (steps_at p) g h.0 t.0.one)
        (subst AllDiffer (sym (calls_are parts all (steps_at p) g h.0)) t.0.differ) (edges_within parts all (steps_at p) g h.0),
    each_state parts all (suc k) ps gs h.1 t.1,
  )
    where
      calls_are : (parts : Parts) (all : List Position) (steps : List Onward) (edges : List Edge) → AreSteps parts all steps edges →
          calls me edges ≡ calls_from me steps
      calls_are parts all [] [] h = refl
      calls_are parts all [] (e ∷ edges) h = absurd h
      calls_are parts all (s ∷ steps) [] h = absurd h
      calls_are parts all (s ∷ steps) (e ∷ edges) h = λ i. call_of me (h.0.act i) ∷ calls_are parts all steps edges h.1 i

  -- as many states as positions
  as_many : (parts : Parts) (all ps : List Position) (gs : List (List Edge)) → AreStates parts all ps gs → length gs ≡ length ps
  as_many parts all [] [] h = refl
  as_many parts all [] (g ∷ gs) h = absurd h
  as_many parts all (p ∷ ps) [] h = absurd h
  as_many parts all (p ∷ ps) (g ∷ gs) h = ap suc (as_many parts all ps gs h.1)

  -- methods of one name have one signature
  abbrev pub HaveOneSignature : List State → Type 0
  HaveOneSignature states = (m n : Method) → IsOffered states m → IsOffered states n → m.name ≡ n.name → (m.result ≡ n.result)
      × (m.params ≡ n.params)

  pub proper : (parts : Parts) (all : List Position) (gs : List (List Edge)) → length gs < 2 ^ 64 → AreStates parts all all gs →
      AllTold me all → HaveOneSignature (states_from me 0 gs) → IsProper (states_from me 0 gs)
  proper parts all gs few h t one = record {
    states_differ = names_differ me 0 gs (omega arith);
    each = subst (λ n. AllByRecursion (IsState n) (states_from me 0 gs)) (sym (how_many me 0 gs ∙ as_many parts all all gs h))
        (each_state parts all 0 all gs h t);
    one_signature = one;
  }

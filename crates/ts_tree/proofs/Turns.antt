-- The walk over the states that the program keeps, one turn of its loop at a time.
use Rattle.std.proofs.Common.{◌≡◌, ℕ, ◌<◌, Bool, false, List, [], ◌∷◌, ◌++◌, length, map, fold, get_or, replicate, Some, slice_get}
use Rattle.std.proofs.Common.{option_map, refl, sym, ap, subst, ◌∙◌, arith}
use Rattle.std.specs.Prelude.{Contains}
use Rattle.std.proofs.lemmas.List.{length-map}
use Rattle.std.proofs.lemmas.List.Elements.{Contains-push}
use Rattle.std.proofs.lemmas.Option.{slice_get-map, slice_get_read}
use Rattle.mg_sets.proofs.SetLaws.{member-below}
use Rattle.mg_text.specs.Call.{Name}
use Rattle.ts_tree.specs.declared.parts.To.{To}
use Rattle.ts_tree.specs.declared.parts.Method.{Method as KeptMethod}
use Rattle.ts_tree.specs.declared.parts.State.{State as KeptState}
use Rattle.ts_tree.specs.Typestate.{Method, State, Typestate}
use Rattle.ts_tree.specs.Calls.{initial}
use Rattle.ts_tree.specs.Proper.{IsProper, IsWithin}
use Rattle.ts_tree.specs.Reachable.{MarksReachable}
use Rattle.ts_tree.specs.View.{method_of, state_of}
use Rattle.ts_tree.specs.inner.Visiting.{Walked, visited, targets_in}
use Rattle.ts_tree.proofs.Leading.{targets_within}
use Rattle.ts_tree.proofs.Visiting.{left}
use Rattle.ts_tree.proofs.Marking.{Marking, marking_all, marking_turn, left_turn, marking_first}

-- a turn in which calls of these methods lead on, from w with one state less that waits
pub record Turn (t : Typestate) (w n : Walked) (ms : List Method) : Type 0 where
  pub within : (to : To) → Contains (targets_in ms) to → IsWithin (length n.marked) to
  pub marking : (v : Walked) → v ≡ fold visited n (targets_in ms) → Marking t v
  pub less : (v : Walked) → v ≡ fold visited n (targets_in ms) → left v < left w

walk_is : (w n : Walked) (waiting : List ℕ) → n.marked ≡ w.marked → w.waiting ≡ waiting →
    w ≡ record { marked = n.marked; waiting = waiting }
walk_is w n waiting same is = ap (λ (ws : List ℕ). record { marked = w.marked; waiting = ws }) is ∙
    ap (λ (ms : List Bool). record { marked = ms; waiting = waiting }) (sym same)

turn_at : (t : Typestate) → IsProper t.states → (w n : Walked) (p : ℕ) (s : State) → slice_get t.states p ≡ Some s → Marking t w →
    n.marked ≡ w.marked → w.waiting ≡ n.waiting ++ p ∷ [] → Turn t w n s.methods
turn_at t proper w n p s at m same is =
    let e = walk_is w n (n.waiting ++ p ∷ []) same is in
    let wide : length n.marked ≡ length t.states = ap length same ∙ m.wide in
    record {
      within = λ to h. subst (λ k. IsWithin k to) (sym wide) (targets_within t proper p s at to h);
      marking = λ v v_is. subst (Marking t) (sym v_is) (marking_turn t proper n.marked n.waiting p s at (subst (Marking t) e m));
      less = λ v v_is. let h = left_turn t proper n.marked n.waiting p s at wide in omega (arith, h, ap left v_is, ap left e);
    }

-- the state of this number that the program keeps
state_at : (t : Typestate) (named : Name) (items xs : List KeptState) (p : ℕ) (x : KeptState) →
    record { name = named; states = map state_of items } ≡ t → xs ≡ items → p < length xs → x ≡ get_or xs p x →
    slice_get t.states p ≡ Some (state_of x)
state_at t named items xs p x view_is all lt is =
    let at : slice_get items p ≡ Some x = ap (λ (ys : List KeptState). slice_get ys p) (sym all) ∙ slice_get_read xs (length xs) p x refl lt
    is in
    ap (λ (t : Typestate). slice_get t.states p) (sym view_is) ∙ slice_get-map state_of items p ∙ ap (option_map state_of) at

pub below_by : (t : Typestate) (named : Name) (items xs : List KeptState) (w n : Walked) (p : ℕ) →
    record { name = named; states = map state_of items } ≡ t → xs ≡ items → Marking t w → w.waiting ≡ n.waiting ++ p ∷ [] → p < length xs
below_by t named items xs w n p view_is all m is =
    let waits : Contains w.waiting p = subst (λ ws. Contains ws p) (sym is) (Contains-push n.waiting p) in
    let below = member-below w.marked p (m.marks p waits) in
    omega (arith, below, m.wide, ap (λ (t : Typestate). length t.states) view_is, length-map items state_of, ap length all)

pub turn_by : (t : Typestate) (named : Name) (items xs : List KeptState) (ms : List KeptMethod) (w n : Walked) (p : ℕ) (x : KeptState) →
    record { name = named; states = map state_of items } ≡ t → IsProper (map state_of items) → xs ≡ items → x ≡ get_or xs p x →
    ms ≡ (get_or xs p x).methods.items → Marking t w → n.marked ≡ w.marked → w.waiting ≡ n.waiting ++ p ∷ [] → Turn t w n (map method_of ms)
turn_by t named items xs ms w n p x view_is proper all is offers m same taken =
    let at = state_at t named items xs p x view_is all (below_by t named items xs w n p view_is all m taken) is in
    let fine : IsProper t.states = subst (λ (t : Typestate). IsProper t.states) view_is proper in
    subst (λ (ys : List KeptMethod). Turn t w n (map method_of ys)) (sym (offers ∙ ap (λ (y : KeptState). y.methods.items) (sym is)))
    (turn_at t fine w n p (state_of x) at m same taken)

pub start_by : (t : Typestate) (named : Name) (items xs : List KeptState) (w v : Walked) (to : To) →
    record { name = named; states = map state_of items } ≡ t → xs ≡ items → w ≡ record {
      marked = replicate (length xs) false;
      waiting =
          [];
    } → to ≡ initial t → v ≡ visited w to → Marking t v
start_by t named items xs w v to view_is all new first is =
    let count : length xs ≡ length t.states = ap length all ∙ sym (length-map items state_of) ∙ ap (λ (t : Typestate). length t.states)
    view_is in
    let e : v ≡ visited (record { marked = replicate (length t.states) false; waiting = [] }) (initial t) =
    is ∙ ap (visited w) first ∙ ap (λ x. visited x (initial t)) (new ∙ ap (λ k. record { marked = replicate k false; waiting = [] }) count)
    in
    subst (Marking t) (sym e) (marking_first t)

pub end_by : (t : Typestate) (w n : Walked) (marked : List Bool) → Marking t w → n.marked ≡ w.marked → w.waiting ≡ [] → marked ≡ n.marked →
    MarksReachable t marked
end_by t w n marked m same none is =
    subst (MarksReachable t) (sym is) (marking_all t n.marked (subst (Marking t) (walk_is w n [] same none) m))

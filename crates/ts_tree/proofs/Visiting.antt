-- What visits to states leave marked and waiting.
use Rattle.std.proofs.Common.{◌≡◌, ℕ, ◌+◌, ◌<◌, ◌≤◌, true, false, List, [], ◌∷◌, ◌++◌, length, map, fold, set, get_or, drop, if◌then◌else◌}
use Rattle.std.proofs.Common.{refl, sym, ap, subst, ◌∙◌, arith, inl, inr, ◌⊎◌, length-append, length-set}
use Rattle.std.specs.Prelude.{Contains}
use Rattle.std.proofs.lemmas.Bool.{cases_eq, cases_Bool}
use Rattle.std.proofs.lemmas.List.{get_or-set_other, get_or-set_same, at_drop_more, at_drop_all}
use Rattle.std.proofs.lemmas.List.Elements.{Contains-append_left, Contains-append_right, Contains-append_cases, Contains-push}
use Rattle.std.proofs.lemmas.List.Elements.{Contains-push_cases}
use Rattle.std.proofs.lemmas.List.Sums.{fold-append}
use Rattle.mg_sets.specs.Sets.{has, missing}
use Rattle.mg_sets.proofs.SetLaws.{has-set}
use Rattle.mg_sets.proofs.Missing.{missing-set}
use Rattle.ts_tree.specs.declared.parts.To.{To}
use Rattle.ts_tree.specs.declared.parts.To.TheVariants as tos
use Rattle.ts_tree.specs.declared.parts.Branch.{Branch}
use Rattle.ts_tree.specs.declared.parts.Method.{Method as KeptMethod}
use Rattle.ts_tree.specs.View.{method_of}
use Rattle.ts_tree.specs.Proper.{IsWithin}
use Rattle.ts_tree.specs.inner.Visiting.{Walked, visited, targets_of, targets_in}
use Rattle.ts_tree.proofs.Leading.{here, behind, first_or_behind, in_map, targets_in-from}

-- how many states are still to be met or wait
abbrev pub left : Walked → ℕ
left w = missing w.marked + length w.waiting

-- from w to v these places were visited
pub record Visits (places : List To) (w v : Walked) : Type 0 where
  pub wide : length v.marked ≡ length w.marked
  pub keeps : (q : ℕ) → has w.marked q ≡ true → has v.marked q ≡ true
  pub stays : (q : ℕ) → Contains w.waiting q → Contains v.waiting q
  pub only : (q : ℕ) → has v.marked q ≡ true → (has w.marked q ≡ true) ⊎ Contains places (tos.State q)
  pub all : (q : ℕ) → Contains places (tos.State q) → has v.marked q ≡ true
  pub waits : (q : ℕ) → has v.marked q ≡ true → (has w.marked q ≡ true) ⊎ Contains v.waiting q
  pub marks : (q : ℕ) → Contains v.waiting q → Contains w.waiting q ⊎ (has v.marked q ≡ true)
  pub same_left : left v ≡ left w

-- nothing is visited
visits_none : (w : Walked) → Visits [] w w
visits_none w = record {
  wide = refl;
  keeps = λ q h. h;
  stays = λ q h. h;
  only = λ q h. inl h;
  all = λ q h. absurd (omega (arith, h.1));
  waits = λ q h. inl h;
  marks = λ q h. inl h;
  same_left = refl;
}

-- the end is passed over
visits_end : (w : Walked) → Visits (tos.End ∷ []) w w
visits_end w = record {
  wide = refl;
  keeps = λ q h. h;
  stays = λ q h. h;
  only = λ q h. inl h;
  all = λ q h. elim (first_or_behind tos.End [] (tos.State q) h) [
    | inl e ↦ absurd (end_is_no_state q e)
    | inr none ↦ absurd
        (omega (arith, none.1))
  ];
  waits = λ q h. inl h;
  marks = λ q h. inl h;
  same_left = refl;
} where
  end_is_no_state : (q : ℕ) → tos.End ≡ tos.State q → ⊥
  end_is_no_state q e = cc

-- a state that was met before
visits_met : (w : Walked) (p : ℕ) → has w.marked p ≡ true → Visits (tos.State p ∷ []) w w
visits_met w p met = record {
  wide = refl;
  keeps = λ q h. h;
  stays = λ q h. h;
  only = λ q h. inl h;
  all = λ q h. elim (first_or_behind (tos.State p) [] (tos.State q) h) [
    | inl e ↦ subst (λ k. has w.marked k ≡ true) (same_state q e) met
    | inr none ↦ absurd (omega (arith, none.1))
  ];
  waits = λ q h. inl h;
  marks = λ q h. inl h;
  same_left = refl;
} where
  same_state : (q : ℕ) → tos.State p ≡ tos.State q → p ≡ q
  same_state q e = cc

-- a state that is new
visits_new : (w : Walked) (p : ℕ) → has w.marked p ≡ false → p < length w.marked →
    Visits (tos.State p ∷ []) w (record { marked = set w.marked p true; waiting = w.waiting ++ p ∷ [] })
visits_new w p new within = record {
  wide = length-set w.marked p true;
  keeps = λ q h. has-set w.marked p q within h;
  stays = λ q h. Contains-append_left w.waiting (p ∷ []) q h;
  only = λ q h. elim (cases_eq q p) [
    | inl e ↦ inr (subst (λ k. Contains (tos.State p ∷ []) (tos.State k)) (sym e) (here (tos.State p) []))
    | inr ne ↦ inl (sym (get_or-set_other w.marked p q true false ne) ∙ h)
  ];
  all = λ q h. elim (first_or_behind (tos.State p) [] (tos.State q) h) [
    | inl e ↦ subst (λ k. has (set w.marked p true) k ≡ true)
        (same_state q e) (get_or-set_same w.marked p true false within)
    | inr none ↦ absurd (omega (arith, none.1))
  ];
  waits = λ q h. elim (cases_eq q p) [
    | inl e ↦ inr (subst (Contains (w.waiting ++ p ∷ [])) (sym e) (Contains-push w.waiting p))
    | inr ne ↦ inl (sym (get_or-set_other w.marked p q true false ne) ∙ h)
  ];
  marks = λ q h. elim (Contains-push_cases w.waiting p q h) [
    | inl old ↦ inl old
    | inr e ↦ inr (subst (λ k. has (set w.marked p true) k ≡ true) e (get_or-set_same w.marked p true false within))
  ];
  same_left = omega (arith, missing-set w.marked p within new, length-append w.waiting (p ∷ []));
} where
  same_state : (q : ℕ) → tos.State p ≡ tos.State q → p ≡ q
  same_state q e = cc

pub visits_one : (to : To) (w : Walked) → IsWithin (length w.marked) to → Visits (to ∷ []) w (visited w to)
visits_one tos.End w within = visits_end w
visits_one (tos.State p) w within =
    elim (cases_Bool (has w.marked p)) [
      | inl met ↦ rw met (visits_met w p met)
      | inr new ↦ rw new (visits_new w p new within)
    ]

pub visits_append : (xs ys : List To) (w v u : Walked) → Visits xs w v → Visits ys v u → Visits (xs ++ ys) w u
visits_append xs ys w v u a b = record {
  wide = b.wide ∙ a.wide;
  keeps = λ q h. b.keeps q (a.keeps q h);
  stays = λ q h. b.stays q (a.stays q h);
  only = λ q h. elim (b.only q h) [
    | inl old ↦ elim (a.only q old) [ inl first ↦ inl first | inr x ↦ inr (Contains-append_left xs ys (tos.State q) x) ]
    | inr y ↦ inr (Contains-append_right xs ys (tos.State q) y)
  ];
  all = λ q h. elim (Contains-append_cases xs ys (tos.State q) h) [ inl x ↦ b.keeps q (a.all q x) | inr y ↦ b.all q y ];
  waits = λ q h. elim (b.waits q h) [
    | inl old ↦ elim (a.waits q old) [ inl first ↦ inl first | inr x ↦ inr (b.stays q x) ]
    | inr y ↦ inr y
  ];
  marks = λ q h. elim (b.marks q h) [
    | inl old ↦ elim (a.marks q old) [ inl first ↦ inl first | inr x ↦ inr (b.keeps q x) ]
    | inr y ↦ inr y
  ];
  same_left = b.same_left ∙ a.same_left;
}

pub visits_all : (places : List To) (w : Walked) → ((to : To) → Contains places to → IsWithin (length w.marked) to) →
    Visits places w (fold visited w places)
visits_all [] w within = visits_none w
visits_all (to ∷ places) w within =
    let one = visits_one to w (within to (here to places)) in
    visits_append (to ∷ []) places w (visited w to) (fold visited (visited w to) places) one
    (visits_all places (visited w to) (λ x h. subst (λ n. IsWithin n x) (sym one.wide) (within x (behind to places x h))))

-- ---- one visit after another
pub visited-wide : (w : Walked) (to : To) → length (visited w to).marked ≡ length w.marked
visited-wide w tos.End = refl
visited-wide w (tos.State q) =
    elim (has w.marked q) as (λ b. length (if b then w else record { marked = set w.marked q true; waiting = w.waiting ++ q ∷ [] }).marked ≡
    length w.marked) [ true ↦ refl | false ↦ length-set w.marked q true ]

pub fold-wide : (places : List To) (w : Walked) → length (fold visited w places).marked ≡ length w.marked
fold-wide [] w = refl
fold-wide (to ∷ places) w = fold-wide places (visited w to) ∙ visited-wide w to

at_index : {X : Type 0} (xs : List X) (i : ℕ) (x : X) → i < length xs → x ≡ get_or xs i x → Contains xs x
at_index xs i x lt e = (i, lt, sym e)

-- the branch at i, and then those behind it
pub branch-within : (bs : List Branch) (i : ℕ) (b : Branch) (n : ℕ) → ((to : To) → Contains (map (λ b. b.to) bs) to → IsWithin n to) →
    i < length bs → b ≡ get_or bs i b → (w : Walked) → length w.marked ≡ n → IsWithin (length w.marked) b.to
branch-within bs i b n within lt e w wide = subst (λ k. IsWithin k b.to) (sym wide)
    (within b.to (in_map (λ b. b.to) bs b (at_index bs i b lt e)))

pub branches-drop : (w : Walked) (bs : List Branch) (i : ℕ) (b : Branch) → i < length bs → b ≡ get_or bs i b →
    fold visited w (map (λ b. b.to) (drop i bs)) ≡ fold visited (visited w b.to) (map (λ b. b.to) (drop (i + 1) bs))
branches-drop w bs i b lt e =
    at_drop_more (λ xs. fold visited w (map (λ b. b.to) xs)) bs i b lt
    ∙ ap (λ (x : Branch). fold visited (visited w x.to) (map (λ b. b.to) (drop (i + 1) bs))) (sym e)

pub branches-past : (w : Walked) (bs : List Branch) (i : ℕ) → length bs ≤ i → fold visited w (map (λ b. b.to) (drop i bs)) ≡ w
branches-past w bs i h = at_drop_all (λ xs. fold visited w (map (λ b. b.to) xs)) bs i h

-- the method at i, and then those behind it
pub method-within : (ms : List KeptMethod) (i : ℕ) (m : KeptMethod) (n : ℕ) → ((to : To) → Contains (targets_in (map method_of ms)) to →
    IsWithin n to) → i < length ms → m ≡ get_or ms i m → (w : Walked) → length w.marked ≡ n → (to : To) →
    Contains (targets_of (method_of m)) to → IsWithin (length w.marked) to
method-within ms i m n within lt e w wide to h =
    subst (λ k. IsWithin k to) (sym wide)
    (within to (targets_in-from (map method_of ms) (method_of m) to (in_map method_of ms m (at_index ms i m lt e)) h))

pub methods-drop : (w : Walked) (ms : List KeptMethod) (i : ℕ) (m : KeptMethod) → i < length ms → m ≡ get_or ms i m →
    fold visited w (targets_in (map method_of (drop i ms))) ≡ fold visited (fold visited w (targets_of (method_of m)))
    (targets_in (map method_of (drop (i + 1) ms)))
methods-drop w ms i m lt e =
    at_drop_more (λ xs. fold visited w (targets_in (map method_of xs))) ms i m lt
    ∙ ap (λ (x : KeptMethod). fold visited w (targets_of (method_of x) ++ targets_in (map method_of (drop (i + 1) ms)))) (sym e)
    ∙ fold-append visited w (targets_of (method_of m)) (targets_in (map method_of (drop (i + 1) ms)))

pub methods-past : (w : Walked) (ms : List KeptMethod) (i : ℕ) → length ms ≤ i → fold visited w (targets_in (map method_of (drop i ms))) ≡ w
methods-past w ms i h = at_drop_all (λ xs. fold visited w (targets_in (map method_of xs))) ms i h

pub ruleset visits = (visited-wide, fold-wide, branch-within, branches-drop, branches-past, method-within, methods-drop, methods-past)

-- A search comes to every node to which edges lead.
use Rattle.std.proofs.Common.{Ok, drop, take_all, ◌≡◌, ◌≢◌, ◌⊎◌, ⊎_elim, inl, inr, ℕ, suc, zero, ◌+◌, ◌*◌, ◌<◌, ◌≤◌, ◌==◌, Bool, true}
use Rattle.std.proofs.Common.{false, cond, List, [], ◌∷◌, ◌++◌, length, get_or, set, take, map, replicate, Contains, refl, sym, ap, subst}
use Rattle.std.proofs.Common.{◌∙◌, arith, true≢false, Vec}
use Rattle.std.specs.Global.{Global}
use Rattle.std.proofs.Math.ListN.{length-set, length-replicate, length-append}
use Rattle.std.proofs.lemmas.List.{take_more, at_drop_all, append-nil, get_or-set_same, get_or-set_other, length-map}
use Rattle.std.proofs.lemmas.List.Elements.{Contains-push, Contains-push_cases, Contains-append_left, Contains-append_right}
use Rattle.std.proofs.lemmas.List.Elements.{Contains-append_cases}
use Rattle.std.proofs.lemmas.List.Sums.{sum_by-set}
use Rattle.std.proofs.lemmas.Grind.{common_steps}
use Rattle.scr_judge.specs.inner.Round.{Graph, HasEdge, Reaches, there, onward, Falls}
use Rattle.scr_judge.specs.inner.Search.{unseen, IsSeen, Came, Spreads, OnFalseOk}
use Rattle.scr_judge.specs.inner.View.{graph_of}
use Rattle.scr_judge.proofs.Members.{Contains-nil, Contains-cons_cases}
use Rattle.scr_judge.proofs.Ranks.{further}

-- ---- lists of numbers

one_is : (v w : ℕ) → Contains (v ∷ []) w → v ≡ w
one_is v w h = ⊎_elim (λ same. same) (λ none. absurd (Contains-nil w none)) (Contains-cons_cases [] v w h)

same_or_not : (v w : ℕ) → (v ≡ w) ⊎ (v ≢ w)
same_or_not v w = grind arith

low_or_past : (v i : ℕ) → (v < i) ⊎ (i ≤ v)
low_or_past v i = grind arith

-- ---- one node

came_none : (seen waiting : List ℕ) (v : ℕ) → IsSeen seen v → Came (v ∷ []) seen waiting seen waiting
came_none seen waiting v h = record {
  size = refl;
  kept = λ u k. k;
  seen = λ u c. subst (IsSeen seen) (one_is v u c) h;
  fresh = λ u k. inl k;
  waiting = λ u c. c;
  from = λ u c. inl c;
  fewer = omega arith;
}

-- the node is not there
pub came_past : (seen waiting : List ℕ) (v : ℕ) → length seen ≤ v → Came (v ∷ []) seen waiting seen waiting
came_past seen waiting v past = came_none seen waiting v (λ within. absurd (omega arith))

-- it was come to before
pub came_before : (seen waiting : List ℕ) (v : ℕ) → get_or seen v 0 ≢ 0 → Came (v ∷ []) seen waiting seen waiting
came_before seen waiting v h = came_none seen waiting v (λ within. h)

-- it is new
pub came_new : (seen waiting : List ℕ) (v : ℕ) → v < length seen → get_or seen v 0 ≡ 0 → Came (v ∷ []) seen waiting (set seen v 1)
    (waiting ++ v ∷ [])
came_new seen waiting v within new = record {
  size = length-set seen v 1;
  kept = λ u k. ⊎_elim (λ same. absurd (k (ap (λ n. get_or seen n 0) (sym same) ∙ new)))
      (λ other e. k (sym (get_or-set_other seen v u 1 0 (λ same. other (sym same))) ∙ e)) (same_or_not v u);
  seen = λ u c inside e. let now : ◌≡◌ {A = ℕ} (get_or (set seen v 1) u 0) 1 = ap (λ n. get_or (set seen v 1) n 0) (sym (one_is v u c)) ∙
      get_or-set_same seen v 1 0 within in
      let none : ◌≡◌ {A = ℕ} (get_or (set seen v 1) u 0) 0 = e in omega (arith, now, none);
  fresh = λ u k. ⊎_elim (λ same. inr (subst (Contains (waiting ++ v ∷ [])) same (Contains-push waiting v)))
      (λ other. inl (λ e. k (get_or-set_other seen v u 1 0 (λ same. other (sym same)) ∙ e))) (same_or_not v u);
  waiting = λ u c. Contains-append_left waiting (v ∷ []) u c;
  from = λ u c. Contains-append_cases waiting (v ∷ []) u c;
  fewer = fewer;
}
  where
    counted : unseen (set seen v 1) + cond (get_or seen v 0 == 0) 1 0 ≡ unseen seen + cond (1 == 0) 1 0
    counted = sum_by-set (λ x. cond (x == 0) 1 0) seen v 1 0 within

    was : ◌≡◌ {A = ℕ} (cond (get_or seen v 0 == 0) 1 0) 1
    was = ap (λ n. cond (n == 0) 1 0) new

    fewer : 2 * unseen (set seen v 1) + length (waiting ++ v ∷ []) ≤ 2 * unseen seen + length waiting
    fewer =
        let longer = length-append waiting (v ∷ []) in
        let step : unseen (set seen v 1) + 1 ≡ unseen seen + 0 = sym (ap (λ n. unseen (set seen v 1) + n) was) ∙ counted in
        omega (arith, longer, step)

-- ---- several nodes

pub came_start : (seen waiting : List ℕ) → Came [] seen waiting seen waiting
came_start seen waiting = record {
  size = refl;
  kept = λ u k. k;
  seen = λ u c. absurd (Contains-nil u c);
  fresh = λ u k. inl k;
  waiting = λ u c. c;
  from = λ u c. inl c;
  fewer = omega arith;
}

pub came_more : (nodes more a b c d e f : List ℕ) → Came nodes a b c d → Came more c d e f → Came (nodes ++ more) a b e f
came_more nodes more a b c d e f p q = record {
  size = q.size ∙ p.size;
  kept = λ u k. q.kept u (p.kept u k);
  seen = λ u h. ⊎_elim (λ old within. q.kept u (p.seen u old (subst (λ n. u < n) q.size within))) (λ new. q.seen u new)
      (Contains-append_cases nodes more u h);
  fresh = λ u k. ⊎_elim (λ old. ⊎_elim (λ older. inl older) (λ waits. inr (q.waiting u waits)) (p.fresh u old)) (λ new. inr new)
      (q.fresh u k);
  waiting = λ u h. q.waiting u (p.waiting u h);
  from = λ u h. ⊎_elim (λ old. ⊎_elim (λ older. inl older) (λ one. inr (Contains-append_left nodes more u one)) (p.from u old))
      (λ new. inr (behind u new)) (q.from u h);
  fewer = let first = p.fewer in let second = q.fewer in omega (arith, first, second);
}
  where
    behind : (u : ℕ) → Contains more u → Contains (nodes ++ more) u
    behind u h = Contains-append_right nodes more u h

pub spread_start : (to : ℕ) (seen waiting : List ℕ) → Spreads [] to seen waiting seen waiting
spread_start to seen waiting = record { came = came_start seen waiting; missed = λ u c. absurd (Contains-nil u c) }

pub spread_more : (nodes : List ℕ) (i x to : ℕ) (a b c d e f : List ℕ) → i < length nodes → x ≡ get_or nodes i x → (x ≢ to) →
    Spreads (take i nodes) to a b c d → Came (x ∷ []) c d e f →
    Spreads (take (i + 1) nodes) to a b e f
spread_more nodes i x to a b c d e f within is other p q =
    subst (λ l. Spreads l to a b e f) (ap (λ y. take i nodes ++ y ∷ []) is ∙ sym (take_more nodes i x within)) (record {
      came = came_more (take i nodes) (x ∷ []) a b c d e f p.came q;
      missed = λ u h. ⊎_elim (λ old. p.missed u old) (λ one. subst (λ z. z ≢ to) (one_is x u one) other)
          (Contains-append_cases (take i nodes) (x ∷ []) u h);
    })

pub ruleset comes = (common_steps, came_past, came_before, came_new)

pub ruleset spreads = (common_steps, spread_start, spread_more)

-- ---- the search

-- edges lead only to nodes that were come to, and to none that is sought
abbrev pub Done : Graph → ℕ → List ℕ → ℕ → Type 0
Done g to seen v = (w : ℕ) → HasEdge g v w → (w ≢ to) × IsSeen seen w

pub record Walked (g : Graph) (from to : ℕ) (seen waiting : List ℕ) : Type 0 where
  pub size : length seen ≡ length g
  pub start : IsSeen seen from
  pub reached : (v : ℕ) → Contains waiting v → Reaches g from v
  pub closed : (v : ℕ) → get_or seen v 0 ≢ 0 → Contains waiting v ⊎ Done g to seen v

no_mark : (n v : ℕ) → ◌≡◌ {A = ℕ} (get_or (replicate n 0) v 0) 0
no_mark zero v = refl
no_mark (suc n) zero = refl
no_mark (suc n) (suc v) = no_mark n v

pub walked_start : (g : Graph) (from to n : ℕ) (seen waiting : List ℕ) → n ≡ length g → Came (from ∷ []) (replicate n 0) [] seen waiting →
    Walked g from to seen waiting
walked_start g from to n seen waiting all came = record {
  size = came.size ∙ length-replicate n 0 ∙ all;
  start = came.seen from (Contains-push [] from);
  reached = λ v h. ⊎_elim (λ none. absurd (Contains-nil v none)) (λ one. subst (Reaches g from) (one_is from v one) there) (came.from v h);
  closed = λ v h. ⊎_elim (λ old. absurd (old (no_mark n v))) (λ new. inl new) (came.fresh v h);
}

-- the same of what the program has
pub walked_first : (g : Graph) (from to n : ℕ) (zeros none seen waiting : List ℕ) → zeros ≡ replicate n 0 → none ≡ [] → n ≡ length g →
    Came (from ∷ []) zeros none seen waiting →
    Walked g from to seen waiting
walked_first g from to n zeros none seen waiting e f all came =
    walked_start g from to n seen waiting all
    (subst (λ l. Came (from ∷ []) (replicate n 0) l seen waiting) f (subst (λ l. Came (from ∷ []) l none seen waiting) e came))

-- a node that waited, and the edges from it
pub walked_more : (g : Graph) (from to v : ℕ) (seen rest after waits : List ℕ) → Walked g from to seen (rest ++ v ∷ []) →
    Spreads (get_or g v []) to seen rest after waits →
    Walked g from to after waits
walked_more g from to v seen rest after waits w s = record {
  size = s.came.size ∙ w.size;
  start = λ within. s.came.kept from (w.start (subst (λ n. from < n) s.came.size within));
  reached = λ u h. ⊎_elim (λ old. w.reached u (Contains-append_left rest (v ∷ []) u old))
      (λ new. further (w.reached v (Contains-push rest v)) new) (s.came.from u h);
  closed = λ u h. ⊎_elim (λ old. ⊎_elim
      (λ waited. ⊎_elim (λ still. inl (s.came.waiting u still)) (λ same. inr (subst (Done g to after) same popped))
      (Contains-push_cases rest v u waited))
      (λ done. inr (λ x e. let d = done x e in (d.0, λ within. s.came.kept x (d.1 (subst (λ n. x < n) s.came.size within)))))
      (w.closed u old)) (λ new. inl new) (s.came.fresh u h);
}
  where
    popped : Done g to after v
    popped x e = (s.missed x e, s.came.seen x e)

pub found_further : (g : Graph) (from to v : ℕ) (seen rest : List ℕ) → Walked g from to seen (rest ++ v ∷ []) → HasEdge g v to →
    Reaches g from to
found_further g from to v seen rest w h = further (w.reached v (Contains-push rest v)) h

-- an edge begins at a node that is there
pub edge_within : (g : Graph) (v w : ℕ) → HasEdge g v w → v < length g
edge_within [] v w h = absurd (Contains-nil w h)
edge_within (es ∷ g) zero w h = omega arith
edge_within (es ∷ g) (suc v) w h = let rest = edge_within g v w h in omega (arith, rest)

module _ (g : Graph) (from to : ℕ) (seen : List ℕ) (w : Walked g from to seen []) where
  closed_all : (u v : ℕ) → (u ≢ to) × IsSeen seen u → Reaches g u v → (v ≢ to) × IsSeen seen v
  closed_all u v fine there = fine
  closed_all u v fine (onward {w = x} e more) =
      let within : u < length seen = subst (λ n. u < n) (sym w.size) (edge_within g u x e) in
      closed_all x v (⊎_elim (λ none. absurd (Contains-nil u none)) (λ done. done x e) (w.closed u (fine.1 within))) more

  -- where none waits, all were come to
  pub none_left : (from ≢ to) → Reaches g from to → ⊥
  none_left other path = (closed_all from to (other, w.start) path).0 refl

-- ---- the edges of a node, as the program has them

pub row_at : {X Y : Type 0} (f : X → Y) (xs : List X) (i : ℕ) (x : X) (d : Y) → i < length xs → x ≡ get_or xs i x → get_or (map f xs) i d
    ≡ f x
row_at f [] i x d within is = absurd (omega arith)
row_at f (y ∷ xs) zero x d within is = ap f (sym is)
row_at f (y ∷ xs) (suc i) x d within is = row_at f xs i x d (omega arith) is

-- no edge of the nodes before one leads to a higher rank
module _ (targets : List (Vec ℕ Global)) (ranks : List ℕ) where
  abbrev pub FallsBefore : ℕ → Type 0
  FallsBefore i = (v w : ℕ) → v < i → HasEdge (graph_of targets) v w → get_or ranks w 0 ≤ get_or ranks v 0

  -- nor does one of its own
  pub falls_more : (i : ℕ) (x : Vec ℕ Global) → i < length targets → x ≡ get_or targets i x → FallsBefore i →
      ((w : ℕ) → Contains x.items w → get_or ranks w 0 ≤ get_or ranks i 0) → FallsBefore (i + 1)
  falls_more i x within is before here v w less edge =
      ⊎_elim (λ low. before v w low edge)
      (λ past. let same : v ≡ i = omega (arith, less, past) in
      subst (λ (k : ℕ). get_or ranks w 0 ≤ get_or ranks k 0) (sym same)
      (here w (subst (λ (es : List ℕ). Contains es w) (row_at (λ (y : Vec ℕ Global). y.items) targets i x [] within is)
      (subst (λ (k : ℕ). HasEdge (graph_of targets) k w) same edge))))
      (low_or_past v i)

  pub falls_end : (i : ℕ) → length targets ≤ i → FallsBefore i → Falls (graph_of targets) ranks
  falls_end i past all v w edge =
      let within = edge_within (graph_of targets) v w edge in
      let size : length (graph_of targets) ≡ length targets = length-map targets (λ (y : Vec ℕ Global). y.items) in
      all v w (omega (arith, within, size, past)) edge

-- ---- what the program has

-- all of a list is written over
pub written_all : (new items : List ℕ) (len : ℕ) → length new ≡ length items → len ≡ length items →
    take len (new ++ drop (length new) items) ≡ new
written_all new items len same all =
    ap (λ (l : List ℕ). take len (new ++ l)) (at_drop_all (λ (l : List ℕ). l) items (length new) (omega arith))
    ∙ ap (take len) (append-nil new) ∙ take_all len new (omega arith)

pub on_false : (E P : Type 0) (b : Bool) → b ≡ false → OnFalseOk {E = E} (Ok b) P → P
on_false E P true e h = absurd (true≢false e)
on_false E P false e h = h

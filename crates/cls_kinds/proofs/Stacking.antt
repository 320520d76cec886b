-- Lists of operands by numbers: what is made keeps what was there.
use Rattle.std.proofs.Common.{◌≡◌, ℕ, zero, suc, ◌+◌, ◌-◌, ◌<◌, ◌≤◌, ◌^◌, ◌⊎◌, inl, inr, List, [], ◌∷◌, ◌++◌, length, get_or, refl, sym, ap}
use Rattle.std.proofs.Common.{ap₂, set, ltb, ⊎_elim, subst, ◌∙◌, arith}
use Rattle.std.specs.Prelude.{fold, Bool, true, false}
use Rattle.std.specs.Bool.{OnTrue}
use Rattle.std.proofs.lemmas.List.{append-nil, append_assoc, length_push, get_or_push, get_or_append_left}
use Rattle.std.proofs.lemmas.Bool.{cases_lt, ltb-true}
use Rattle.std.proofs.lemmas.Grind.{get_or_default_zero}
use Rattle.cls_kinds.specs.declared.kind.Kind.{Kind}
use Rattle.cls_kinds.specs.declared.stacks.Node.{Node}
use Rattle.cls_kinds.specs.Numbers.{is_raised, joined_all}
use Rattle.cls_kinds.proofs.Joining.{raised_to, never_back}
use Rattle.cls_kinds.specs.Stacks.{stack_at, with_node, stacks_of, AreNodes, IsHigher, IsRaised, AreRaised, Grows}

pub grows_none : (s : List (List Kind)) → Grows s s
grows_none s = record { more = []; is = sym (append-nil s) }

pub grows_on : (a b c : List (List Kind)) → Grows a b → Grows b c → Grows a c
grows_on a b c f g = record { more = f.more ++ g.more; is = g.is ∙ ap (λ x. x ++ g.more) f.is ∙ append_assoc a f.more g.more }

pub grows_long : (a b : List (List Kind)) → Grows a b → length a ≤ length b
grows_long a b g = subst (λ x. length a ≤ length x) (sym g.is) (longer a g.more)
  where
    longer : (xs ys : List (List Kind)) → length xs ≤ length (xs ++ ys)
    longer [] ys = omega arith
    longer (x ∷ xs) ys = let h = longer xs ys in omega (arith, h)

pub grows_keeps : (a b : List (List Kind)) (i : ℕ) → Grows a b → i < length a → stack_at b i ≡ stack_at a i
grows_keeps a b i g h = ap (λ x. stack_at x i) g.is ∙ get_or_append_left a g.more [] i h

-- how many lists there are
folded_length : (acc : List (List Kind)) (nodes : List Node) → length (fold with_node acc nodes) ≡ length acc + length nodes
folded_length acc [] = omega arith
folded_length acc (n ∷ ns) =
    folded_length (with_node acc n) ns
    ∙ (let h = length_push acc (stack_at acc n.below ++ n.kind ∷ []) in
    let e : length (with_node acc n) + length ns ≡ length acc + suc (length ns) = omega (arith, h) in e)

pub stacks_length : (nodes : List Node) → length (stacks_of nodes) ≡ length nodes + 1
stacks_length nodes = folded_length ([] ∷ []) nodes ∙ (let e : 1 + length nodes ≡ length nodes + 1 = omega arith in e)

folded_keeps : (acc : List (List Kind)) (nodes : List Node) (i : ℕ) → i < length acc → stack_at (fold with_node acc nodes) i
    ≡ stack_at acc i
folded_keeps acc [] i h = refl
folded_keeps acc (n ∷ ns) i h =
    folded_keeps (with_node acc n) ns i (let l = length_push acc (stack_at acc n.below ++ n.kind ∷ []) in omega (arith, h, l))
    ∙ get_or_append_left acc ((stack_at acc n.below ++ n.kind ∷ []) ∷ []) [] i h

folded_at : (acc : List (List Kind)) (nodes : List Node) (i : ℕ) (d : Node) → i < length nodes →
    ((k : ℕ) (d : Node) → k < length nodes → (get_or nodes k d).below < length acc + k) →
    stack_at (fold with_node acc nodes) (length acc + i)
    ≡ stack_at (fold with_node acc nodes) (get_or nodes i d).below ++ (get_or nodes i d).kind ∷ []
folded_at acc [] i d h below = absurd (omega (arith, h))
folded_at acc (n ∷ ns) zero d h below =
    let within : n.below < length acc = let b : n.below < length acc + 0 = below 0 d (omega arith) in omega (arith, b) in
    let l = length_push acc (stack_at acc n.below ++ n.kind ∷ []) in
    ap (stack_at (fold with_node (with_node acc n) ns)) (let e : length acc + 0 ≡ length acc = omega arith in e)
    ∙ folded_keeps (with_node acc n) ns (length acc) (omega (arith, l))
    ∙ get_or_push acc (stack_at acc n.below ++ n.kind ∷ []) [] (length acc) refl
    ∙ ap (λ s. s ++ n.kind ∷ []) (sym (get_or_append_left acc ((stack_at acc n.below ++ n.kind ∷ []) ∷ []) [] n.below within)
    ∙ sym (folded_keeps (with_node acc n) ns n.below (omega (arith, l, within))))
folded_at acc (n ∷ ns) (suc i) d h below =
    let l = length_push acc (stack_at acc n.below ++ n.kind ∷ []) in
    ap (stack_at (fold with_node (with_node acc n) ns)) (let e : length acc + suc i ≡ length (with_node acc n) + i = omega (arith, l) in e)
    ∙ folded_at (with_node acc n) ns i d (omega (arith, h))
    (λ k e j. let b : (get_or ns k e).below < length acc + suc k = below (suc k) e (omega (arith, j)) in omega (arith, l, b))

-- a list is the one below it with a kind on top
pub node_at : (nodes : List Node) → AreNodes nodes → (i : ℕ) (d : Node) → i < length nodes →
    stack_at (stacks_of nodes) (i + 1) ≡ stack_at (stacks_of nodes) (get_or nodes i d).below ++ (get_or nodes i d).kind ∷ []
node_at nodes a i d h =
    ap (stack_at (stacks_of nodes)) (let e : i + 1 ≡ 1 + i = omega arith in e)
    ∙ folded_at ([] ∷ []) nodes i d h (λ k e j. let b = a.below k e j in omega (arith, b))

folded_more : (acc : List (List Kind)) (nodes : List Node) (n : Node) → fold with_node acc (nodes ++ n ∷ [])
    ≡ with_node (fold with_node acc nodes) n
folded_more acc [] n = refl
folded_more acc (x ∷ xs) n = folded_more (with_node acc x) xs n

pub stacks_more : (nodes : List Node) (n : Node) → stacks_of (nodes ++ n ∷ []) ≡ with_node (stacks_of nodes) n
stacks_more nodes n = folded_more ([] ∷ []) nodes n

pub stacks_grow : (nodes : List Node) (n : Node) → Grows (stacks_of nodes) (stacks_of (nodes ++ n ∷ []))
stacks_grow nodes n = record { more = (stack_at (stacks_of nodes) n.below ++ n.kind ∷ []) ∷ []; is = stacks_more nodes n }

pub stack_made : (nodes : List Node) (n : Node) →
    stack_at (stacks_of (nodes ++ n ∷ [])) (length nodes + 1) ≡ stack_at (stacks_of nodes) n.below ++ n.kind ∷ []
stack_made nodes n =
    ap (λ s. stack_at s (length nodes + 1)) (stacks_more nodes n)
    ∙ get_or_push (stacks_of nodes) (stack_at (stacks_of nodes) n.below ++ n.kind ∷ []) [] (length nodes + 1) (stacks_length nodes)

-- the first list is empty
pub first_empty : (nodes : List Node) (s : ℕ) → s ≡ 0 → stack_at (stacks_of nodes) s ≡ []
first_empty nodes s e = ap (stack_at (stacks_of nodes)) e ∙ folded_keeps ([] ∷ []) nodes 0 (omega arith)

-- the node of a list that isn't empty
pub is_within : (nodes : List Node) (s : ℕ) → 0 < s → s < length (stacks_of nodes) → s - 1 < length nodes
is_within nodes s a h = let l = stacks_length nodes in omega (arith, a, h, l)

pub list_at : (nodes : List Node) → AreNodes nodes → (s : ℕ) (d : Node) → 0 < s → s < length (stacks_of nodes) →
    stack_at (stacks_of nodes) s ≡ stack_at (stacks_of nodes) (get_or nodes (s - 1) d).below ++ (get_or nodes (s - 1) d).kind ∷ []
list_at nodes a s d b h =
    ap (stack_at (stacks_of nodes)) (let e : s ≡ s - 1 + 1 = omega (arith, b) in e) ∙ node_at nodes a (s - 1) d (is_within nodes s b h)

pub depth_at : (nodes : List Node) → AreNodes nodes → (s : ℕ) (d : Node) → 0 < s → s < length (stacks_of nodes) →
    (get_or nodes (s - 1) d).depth ≡ length (stack_at (stacks_of nodes) s)
depth_at nodes a s d b h =
    a.depth (s - 1) d (is_within nodes s b h)
    ∙ ap (λ k. length (stack_at (stacks_of nodes) k)) (let e : s - 1 + 1 ≡ s = omega (arith, b) in e)

pub below_at : (nodes : List Node) → AreNodes nodes → (s : ℕ) (d : Node) → 0 < s → s < length (stacks_of nodes) →
    (get_or nodes (s - 1) d).below < length (stacks_of nodes)
below_at nodes a s d b h = let l = a.below (s - 1) d (is_within nodes s b h) in omega (arith, l, b, h)

pub are_more : (nodes : List Node) (n : Node) → AreNodes nodes → length nodes + 1 < 2 ^ 32 → n.below < length (stacks_of nodes) →
    n.depth ≡ length (stack_at (stacks_of nodes) n.below) + 1 → AreNodes (nodes ++ n ∷ [])
are_more nodes n a few within deep = record {
  few = (let l = length_push nodes n in omega (arith, l, few));
  below = λ i d h. below_here i d h (cases_lt i (length nodes));
  depth = λ i d h. depth_here i d h (cases_lt i (length nodes));
}
  where
    last : (i : ℕ) → i < length (nodes ++ n ∷ []) → length nodes ≤ i → length nodes ≡ i
    last i h g = let l = length_push nodes n in omega (arith, l, h, g)

    below_here : (i : ℕ) (d : Node) → i < length (nodes ++ n ∷ []) → (i < length nodes) ⊎ (length nodes ≤ i) →
        (get_or (nodes ++ n ∷ []) i d).below ≤ i
    below_here i d h (inl f) = subst (λ (x : Node). x.below ≤ i) (sym (get_or_append_left nodes (n ∷ []) d i f)) (a.below i d f)
    below_here i d h (inr g) =
        let e = last i h g in
        let l = stacks_length nodes in
        subst (λ (x : Node). x.below ≤ i) (sym (get_or_push nodes n d i e)) (omega (arith, within, l, e))

    depth_here : (i : ℕ) (d : Node) → i < length (nodes ++ n ∷ []) → (i < length nodes) ⊎ (length nodes ≤ i) →
        (get_or (nodes ++ n ∷ []) i d).depth ≡ length (stack_at (stacks_of (nodes ++ n ∷ [])) (i + 1))
    depth_here i d h (inl f) =
        ap (λ (x : Node). x.depth) (get_or_append_left nodes (n ∷ []) d i f)
        ∙ a.depth i d f
        ∙ ap length (sym (grows_keeps (stacks_of nodes) (stacks_of (nodes ++ n ∷ [])) (i + 1) (stacks_grow nodes n)
        (let l = stacks_length nodes in omega (arith, l, f))))
    depth_here i d h (inr g) =
        ap (λ (x : Node). x.depth) (get_or_push nodes n d i (last i h g))
        ∙ deep
        ∙ sym (length_push (stack_at (stacks_of nodes) n.below) n.kind)
        ∙ ap length (sym (stack_made nodes n))
        ∙ ap (λ k. length (stack_at (stacks_of (nodes ++ n ∷ [])) (k + 1))) (last i h g)

-- ---- what is noted of raised lists

pub raised_more_lists : (a b : List (List Kind)) (raised : List ℕ) → Grows a b → AreRaised a raised → AreRaised b raised
raised_more_lists a b raised g r i h =
    let long = grows_long a b g in
    let was = r i h in
    record {
      from_there = (let w = was.from_there in omega (arith, w, long));
      to_there = (let w = was.to_there in omega (arith, w, long));
      higher = subst (λ x. IsHigher x (stack_at b (get_or raised i 0))) (sym (grows_keeps a b (i + 1) g was.from_there))
          (subst (IsHigher (stack_at a (i + 1))) (sym (grows_keeps a b (get_or raised i 0) g was.to_there)) was.higher);
    }

zero_behind : (raised : List ℕ) (i : ℕ) → get_or (raised ++ 0 ∷ []) i 0 ≡ get_or raised i 0
zero_behind [] zero = refl
zero_behind [] (suc i) = refl
zero_behind (r ∷ raised) zero = refl
zero_behind (r ∷ raised) (suc i) = zero_behind raised i

pub raised_with_none : (stacks : List (List Kind)) (raised : List ℕ) → AreRaised stacks raised → AreRaised stacks (raised ++ 0 ∷ [])
raised_with_none stacks raised r i h =
    subst (IsRaised stacks (i + 1)) (sym (zero_behind raised i)) (r i (subst (λ n. 0 < n) (zero_behind raised i) h))

-- what is noted at a place
pub noted_at : (stacks : List (List Kind)) (raised : List ℕ) (from to number d : ℕ) → AreRaised stacks raised → 0 < from → 0 < to →
    true ≡ ltb (from - 1) (length raised) → number ≡ get_or raised (from - 1) d → number ≡ to →
    IsHigher (stack_at stacks from) (stack_at stacks to)
noted_at stacks raised from to number d r f t w g e =
    let inside : from - 1 < length raised = ltb-true (from - 1) (length raised) (sym w) in
    let same : get_or raised (from - 1) 0 ≡ to = sym (get_or_default_zero raised (from - 1) d inside) ∙ sym g ∙ e in
    let was = r (from - 1) (subst (λ n. 0 < n) (sym same) t) in
    subst (λ k. IsHigher (stack_at stacks k) (stack_at stacks to)) (let k : from - 1 + 1 ≡ from = omega (arith, f) in k)
    (subst (λ k. IsHigher (stack_at stacks (from - 1 + 1)) (stack_at stacks k)) same was.higher)

pub on_true : (b : Bool) (P : Type 0) → b ≡ true → OnTrue b P → P
on_true true P e p = p
on_true false P e p = absurd (cc e)

set_at : (raised : List ℕ) (k to i : ℕ) → ((i ≡ k) × (get_or (set raised k to) i 0 ≡ to)) ⊎ (get_or (set raised k to) i 0 ≡ get_or raised i 0)
set_at [] k to i = inr refl
set_at (r ∷ raised) zero to zero = inl (refl, refl)
set_at (r ∷ raised) zero to (suc i) = inr refl
set_at (r ∷ raised) (suc k) to zero = inr refl
set_at (r ∷ raised) (suc k) to (suc i) = ⊎_elim (λ e. inl (ap suc e.0, e.1)) (λ e. inr e) (set_at raised k to i)

pub set_past : (xs : List ℕ) (i y : ℕ) → length xs ≤ i → set xs i y ≡ xs
set_past [] i y h = refl
set_past (x ∷ xs) zero y h = absurd (omega (arith, h))
set_past (x ∷ xs) (suc i) y h = ap (λ l. x ∷ l) (set_past xs i y (omega (arith, h)))

pub higher_of : (from to ks ls : List Kind) → from ≡ ks → to ≡ joined_all ks ls → is_raised ks ls ≡ true → IsHigher from to
higher_of from to ks ls f t e = record { higher = ap₂ is_raised f t ∙ raised_to ks ls ∙ e; highest = ap₂ is_raised t f ∙ never_back ks ls }

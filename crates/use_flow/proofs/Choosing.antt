-- What flows on with each constant of a switch.
use Rattle.std.proofs.Common.{◌≡◌, ℕ, zero, suc, ◌+◌, ◌<◌, ◌≤◌, Bool, true, false, List, [], ◌∷◌, ◌++◌, length, get_or, drop, map, Option}
use Rattle.std.proofs.Common.{Some, None, slice_get, refl, sym, ap, ◌∙◌, arith, add-one, append_assoc}
use Rattle.std.specs.Prelude.{◌||◌, nat_eq, slice_set, if◌then◌else◌, option_map}
use Rattle.std.specs.List.{list_any}
use Rattle.std.proofs.lemmas.List.{at_drop_more, at_drop_all}
use lib.Dec.{eqb-zero-suc, eqb-suc-zero, eqb-suc-suc}
use Rattle.mg_text.specs.Call.{Name}
use Rattle.mg_text.specs.declared.place.Place.{Place}
use Rattle.mg_text.specs.declared.names.Name.{Name as Numbered}
use Rattle.mg_sets.specs.Sets.{has}
use Rattle.jv_core.specs.declared.tree.CoreVar.{CoreVar}
use Rattle.jv_core.specs.declared.tree.Var.{Var}
use Rattle.jv_core.specs.declared.tree.CoreGroup.{CoreGroup, out-CoreGroup, fold_out-CoreGroup}
use Rattle.jv_core.specs.Lookup.{text_at}
use Rattle.jv_core.specs.Tree.{Expr, Int, Truth, Text, Null, Variable, Constant, Neg, Not, Binary, Protocol, Helper, Static, Equals, Concat}
use Rattle.jv_core.specs.Tree.{Session, New, Method, Stmt}
use Rattle.jv_core.specs.View.{stmt_of, stmts_of, group_of, groups_of, OneGroup, stmt_layer, group_layer, placed_stmt_layer}
use Rattle.jv_core.specs.Lookup.{param_types}
use Rattle.jv_core.specs.declared.program.CoreType.{CoreType}
use Rattle.use_flow.specs.declared.evaluated.Arguments.{Arguments}
use Rattle.use_flow.specs.declared.evaluated.Value.{Value}
use Rattle.use_flow.specs.declared.switches.Branches.{Branches}
use Rattle.use_flow.specs.declared.switches.Labels.{Labels}
use Rattle.use_rules.specs.Elements.{Set, none, union, targets, targets_by}
use Rattle.use_rules.specs.Flow.{Evaluated, alike, after, placed, all_labels, is_label, is_default}
use Rattle.use_rules.specs.State.{Now, Log, Argued, joined, joined_sets}
use Rattle.use_flow.specs.inner.Followed.{Followed, eval, eval_all, variable_at, width_of}
use Rattle.use_flow.specs.inner.Simple.{constants_of, type_dropped}
use Rattle.use_flow.specs.inner.Switching.{Called, spread, with_any, gathered, branched, variables, note_one, noted, uncased_by, label_now}
use Rattle.use_flow.specs.inner.Switching.{known_set, uncased, entry_of, by_constants, switched, led_by, led_set, call_in, called_switch}
use Rattle.use_flow.specs.inner.Switching.{plain_switch}
use Rattle.use_flow.specs.inner.Values.{yes_of, no_of, evaluated_of, argued_of, protocol_call}
use Rattle.use_rules.proofs.Meeting.{joined-self, union-self, sets-self}
use Rattle.use_flow.proofs.Jumping.{joined-assoc, joined-none}

pub group_of-is : (g : CoreGroup) → group_of g ≡ record {
  labels = (out-CoreGroup g).labels.items;
  body =
      stmts_of (map stmt_of (out-CoreGroup g).body.items);
  end = (out-CoreGroup g).end;
}
unfolding stmt_of group_of
group_of-is g = fold_out-CoreGroup (Place → Stmt) OneGroup Stmt stmt_layer group_layer placed_stmt_layer g

-- Labels.

noted-append : (a b : List (Option ℕ)) (l : Labels) → noted (a ++ b) l ≡ noted b (noted a l)
noted-append [] b l = refl
noted-append (o ∷ a) b l = noted-append a b (note_one o l)

pub noted_more : (os : List (Option ℕ)) (i : ℕ) (o : Option ℕ) (l l' total : Labels) → i < length os → o ≡ get_or os i o → l' ≡ note_one o l
    →
    noted (drop i os) l ≡ total → noted (drop (i + 1) os) l' ≡ total
noted_more os i o l l' total lt at e h =
    ap (noted (drop (i + 1) os)) e ∙ sym (at_drop_more (λ (xs : List (Option ℕ)). noted xs l) os i o lt ∙
    ap (λ x. noted (x ∷ drop (i + 1) os) l) (sym at)) ∙ h

pub noted_all : (os : List (Option ℕ)) (i : ℕ) (l total : Labels) → length os ≤ i → noted (drop i os) l ≡ total → l ≡ total
noted_all os i l total le h = sym (at_drop_all (λ (xs : List (Option ℕ)). noted xs l) os i le) ∙ h

abbrev group_labels : List CoreGroup → List (Option ℕ)
group_labels gs = all_labels (groups_of (map group_of gs))

pub groups_noted : (gs : List CoreGroup) (i : ℕ) (g : CoreGroup) (os : List (Option ℕ)) (l l' total : Labels) → i < length gs →
    g ≡ get_or gs i g → os ≡ (out-CoreGroup g).labels.items →
    l' ≡ noted os l → noted (group_labels (drop i gs)) l ≡ total → noted (group_labels (drop (i + 1) gs)) l' ≡ total
groups_noted gs i g os l l' total lt at eo e h =
    ap (noted (group_labels (drop (i + 1) gs))) (e ∙ ap (λ x. noted x l) (eo ∙ sym (ap (λ (x : OneGroup). x.labels) (group_of-is g))))
    ∙ sym (noted-append (group_of g).labels (group_labels (drop (i + 1) gs)) l)
    ∙ sym (at_drop_more (λ (xs : List CoreGroup). noted (group_labels xs) l) gs i g lt ∙
    ap (λ (x : CoreGroup). noted (group_labels (x ∷ drop (i + 1) gs)) l) (sym at)) ∙ h

pub groups_all_noted : (gs : List CoreGroup) (i : ℕ) (l total : Labels) → length gs ≤ i → noted (group_labels (drop i gs)) l ≡ total →
    l ≡ total
groups_all_noted gs i l total le h = sym (at_drop_all (λ (xs : List CoreGroup). noted (group_labels xs) l) gs i le) ∙ h

pub ruleset noting = (noted_more, noted_all, groups_noted, groups_all_noted)

or_none : (a : Bool) → (a || false) ≡ a
or_none true = refl
or_none false = refl

or_assoc : (a b c : Bool) → ((a || b) || c) ≡ (a || (b || c))
or_assoc true b c = refl
or_assoc false b c = refl

or_turned : (a b : Bool) → (a || b) ≡ (b || a)
or_turned true true = refl
or_turned true false = refl
or_turned false true = refl
or_turned false false = refl

pub default-noted : (os : List (Option ℕ)) (l : Labels) → (noted os l).has_default ≡ (l.has_default || list_any is_default os)
default-noted [] l = sym (or_none l.has_default)
default-noted (None ∷ os) l = default-noted os (note_one None l) ∙ sym (or_turned l.has_default true)
default-noted (Some n ∷ os) l = default-noted os (note_one (Some n) l)

length-set : (s : Set) (k : ℕ) → length (slice_set s k true) ≡ length s
length-set [] k = refl
length-set (b ∷ s) zero = refl
length-set (b ∷ s) (suc k) = ap suc (length-set s k)

has-set : (s : Set) (k n : ℕ) → n < length s → has (slice_set s k true) n ≡ (nat_eq k n || has s n)
has-set [] k n lt = absurd (omega (arith, lt))
has-set (b ∷ s) zero zero lt = refl
has-set (b ∷ s) zero (suc n) lt = sym (ap (λ v. v || has s n) (eqb-zero-suc n))
has-set (b ∷ s) (suc k) zero lt = sym (ap (λ v. v || b) (eqb-suc-zero k))
has-set (b ∷ s) (suc k) (suc n) lt = has-set s k n (omega (arith, lt)) ∙ sym (ap (λ v. v || has s n) (eqb-suc-suc k n))

pub cased-noted : (os : List (Option ℕ)) (l : Labels) (n : ℕ) → n < length l.cased →
    has (noted os l).cased n ≡ (has l.cased n || list_any (is_label n) os)
cased-noted [] l n lt = sym (or_none (has l.cased n))
cased-noted (None ∷ os) l n lt = cased-noted os (note_one None l) n lt
cased-noted (Some k ∷ os) l n lt =
    cased-noted os (note_one (Some k) l) n (let e : length (slice_set l.cased k true) ≡ length l.cased = length-set l.cased k in omega
    (arith, lt, e))
    ∙ ap (λ b. b || list_any (is_label n) os) (has-set l.cased k n lt ∙ or_turned (nat_eq k n) (has l.cased n)) ∙ or_assoc (has l.cased n)
    (nat_eq k n) (list_any (is_label n) os)

has-none : (w n : ℕ) → has (none w) n ≡ false
has-none zero n = refl
has-none (suc w) zero = refl
has-none (suc w) (suc n) = has-none w n

length-none : (w : ℕ) → length (none w) ≡ w
length-none zero = refl
length-none (suc w) = ap suc (length-none w)

abbrev no_labels : ℕ → Labels
no_labels w = record { cased = none w; has_default = false }

-- the constants without a case are those that no label names
pub uncased_is : (s : Followed) (os : List (Option ℕ)) (w n : ℕ) (nows : List Now) → n + length nows ≤ w →
    uncased_by (noted os (no_labels w)).cased n nows ≡ uncased s os n nows
uncased_is s os w n [] le = refl
uncased_is s os w n (now ∷ nows) le =
    ap (λ b. if b then uncased_by (noted os (no_labels w)).cased (suc n) nows else joined now
    (uncased_by (noted os (no_labels w)).cased (suc n) nows))
    (cased-noted os (no_labels w) n (let e : length (none w) ≡ w = length-none w in omega (arith, le, e)) ∙
    ap (λ b. b || list_any (is_label n) os) (has-none w n))
    ∙ ap (λ r. if list_any (is_label n) os then r else joined now r) (uncased_is s os w (suc n) nows (omega (arith, le)))

-- What is known with sets of one variable.

sets-at : (b : List Set) (x : ℕ) (s t : Set) → slice_set b x (union s t) ≡ joined_sets (slice_set b x s) (slice_set b x t)
sets-at [] x s t = refl
sets-at (y ∷ b) zero s t = ap (λ r. union s t ∷ r) (sym (sets-self b))
sets-at (y ∷ b) (suc x) s t = ap (λ r. r ∷ slice_set b x (union s t)) (sym (union-self y)) ∙ ap (λ r. union y y ∷ r) (sets-at b x s t)

pub gathered_is : (x : ℕ) (now : Now) (r : Option Set) (s : Set) → with_any x now (Some (gathered r s)) ≡ joined (with_any x now r)
    (placed x s now)
gathered_is x now None s = refl
gathered_is x None (Some t) s = refl
gathered_is x (Some b) (Some t) s = ap Some (sets-at b x t s)

spread-at : (x : ℕ) (now : Now) (sets : List Set) (n : ℕ) → slice_get (spread x now sets) n ≡ option_map (λ s. placed x s now)
    (slice_get sets n)
spread-at x now [] zero = refl
spread-at x now [] (suc n) = refl
spread-at x now (s ∷ sets) zero = refl
spread-at x now (s ∷ sets) (suc n) = spread-at x now sets n

module _ (cased : Set) (x : ℕ) (now : Now) (sets : List Set) (i : ℕ) (lt : i < length sets) (r : Option Set) (total : Now) where
  abbrev after_it : Now
  after_it = uncased_by cased (i + 1) (spread x now (drop (i + 1) sets))

  one_uncased : (s : Set) → s ≡ get_or sets i [] →
      uncased_by cased i (spread x now (drop i sets)) ≡ (if has cased i then after_it else joined (placed x s now) after_it)
  one_uncased s e =
      at_drop_more (λ (xs : List Set). uncased_by cased i (spread x now xs)) sets i [] lt
      ∙ ap (λ y. if has cased i then uncased_by cased (suc i) (spread x now (drop (i + 1) sets)) else joined (placed x y now)
      (uncased_by cased (suc i) (spread x now (drop (i + 1) sets)))) (sym e)
      ∙ ap (λ k. if has cased i then uncased_by cased k (spread x now (drop (i + 1) sets)) else joined (placed x s now)
      (uncased_by cased k (spread x now (drop (i + 1) sets)))) (sym (add-one i))

  pub rest_cased : has cased i ≡ true → joined (with_any x now r) (uncased_by cased i (spread x now (drop i sets))) ≡ total →
      joined (with_any x now r) after_it ≡ total
  rest_cased h e =
      ap (joined (with_any x now r))
      (sym (one_uncased (get_or sets i []) refl ∙ ap (λ b. if b then after_it else joined (placed x (get_or sets i []) now) after_it)
      h)) ∙ e

  pub rest_uncased : (s t : Set) → has cased i ≡ false → s ≡ get_or sets i [] → t ≡ gathered r s →
      joined (with_any x now r) (uncased_by cased i (spread x now (drop i sets))) ≡ total → joined (with_any x now (Some t)) after_it ≡
      total
  rest_uncased s t h es et e =
      ap (λ y. joined (with_any x now (Some y)) after_it) et ∙ ap (λ y. joined y after_it) (gathered_is x now r s) ∙
      joined-assoc (with_any x now r) (placed x s now) after_it
      ∙ ap (joined (with_any x now r)) (sym (one_uncased s es ∙ ap (λ b. if b then after_it else joined (placed x s now) after_it) h)) ∙ e

pub rest_all : (cased : Set) (x : ℕ) (now : Now) (sets : List Set) (i : ℕ) (r : Option Set) (total : Now) → length sets ≤ i →
    joined (with_any x now r) (uncased_by cased i (spread x now (drop i sets))) ≡ total → with_any x now r ≡ total
rest_all cased x now sets i r total le e =
    sym (joined-none (with_any x now r)) ∙ ap (joined (with_any x now r))
    (sym (at_drop_all (λ (xs : List Set). uncased_by cased i (spread x now xs)) sets i le)) ∙ e

-- Labels of a group.

pub label_led : (x : ℕ) (now : Now) (sets : List Set) (rest : Now) (all : Option Set) (n : ℕ) (s t : Set) → Some s ≡ slice_get sets n →
    t ≡ gathered all s →
    with_any x now (Some t) ≡ joined (with_any x now all) (label_now rest (spread x now sets) (Some n))
label_led x now sets rest all n s t e et =
    ap (λ y. with_any x now (Some y)) et ∙ gathered_is x now all s
    ∙ ap (λ o. joined (with_any x now all) (elim o [ None ↦ None | Some m ↦ m ])) (ap (option_map (λ y. placed x y now)) e ∙
    sym (spread-at x now sets n))

pub label_past : (x : ℕ) (now : Now) (sets : List Set) (rest : Now) (all : Option Set) (n : ℕ) → None ≡ slice_get sets n →
    with_any x now all ≡ joined (with_any x now all) (label_now rest (spread x now sets) (Some n))
label_past x now sets rest all n e =
    sym (joined-none (with_any x now all))
    ∙ ap (λ o. joined (with_any x now all) (elim o [ None ↦ None | Some m ↦ m ])) (ap (option_map (λ y. placed x y now)) e ∙
    sym (spread-at x now sets n))

entry_one : (s : Followed) (rest : Now) (nows : List Now) (o : Option ℕ) (os : List (Option ℕ)) → entry_of s rest nows (o ∷ os) ≡ joined
    (label_now rest nows o) (entry_of s rest nows os)
entry_one s rest nows None os = refl
entry_one s rest nows (Some n) os = refl

module _ (s : Followed) (rest : Now) (nows : List Now) (os : List (Option ℕ)) (i : ℕ) (done total : Now) where
  pub entry_more : (o : Option ℕ) (done' : Now) → i < length os → o ≡ get_or os i o → done' ≡ joined done (label_now rest nows o) →
      joined done (entry_of s rest nows (drop i os)) ≡ total → joined done' (entry_of s rest nows (drop (i + 1) os)) ≡ total
  entry_more o done' lt at e h =
      ap (λ y. joined y (entry_of s rest nows (drop (i + 1) os))) e ∙ joined-assoc done (label_now rest nows o)
      (entry_of s rest nows (drop (i + 1) os))
      ∙ ap (joined done) (sym (at_drop_more (entry_of s rest nows) os i o lt ∙ ap (λ y. entry_of s rest nows (y ∷ drop (i + 1) os)) (sym at)
      ∙ entry_one s rest nows o (drop (i + 1) os))) ∙ h

  pub entry_all : length os ≤ i → joined done (entry_of s rest nows (drop i os)) ≡ total → done ≡ total
  entry_all le h = sym (joined-none done) ∙ ap (joined done) (sym (at_drop_all (entry_of s rest nows) os i le)) ∙ h

-- A set for each constant.

module _ {A B : Type 0} (f : A → B) (xs : List A) (i : ℕ) (done : List B) where
  pub mapped_more : (x : A) (done' total : List B) → i < length xs → x ≡ get_or xs i x → done' ≡ done ++ f x ∷ [] →
      done ++ map f (drop i xs) ≡ total → done' ++ map f (drop (i + 1) xs) ≡ total
  mapped_more x done' total lt at e h =
      ap (λ y. y ++ map f (drop (i + 1) xs)) e ∙ append_assoc done (f x ∷ []) (map f (drop (i + 1) xs))
      ∙ ap (λ y. done ++ y) (sym (at_drop_more (map f) xs i x lt ∙ ap (λ y. map f (y ∷ drop (i + 1) xs)) (sym at))) ∙ h

  pub mapped_all : length xs ≤ i → done ++ map f (drop i xs) ≡ map f xs → done ≡ map f xs
  mapped_all le h = sym (append_none done) ∙ ap (λ y. done ++ y) (sym (at_drop_all (map f) xs i le)) ∙ h
    where
      append_none : (ys : List B) → ys ++ [] ≡ ys
      append_none [] = refl
      append_none (y ∷ ys) = ap (λ r. y ∷ r) (append_none ys)

-- the same for each
pub mapped_any : {A B : Type 0} (y : B) (xs : List A) (i : ℕ) (done done' total : List B) → i < length xs → done' ≡ done ++ y ∷ [] →
    done ++ map (λ (x : A). y) (drop i xs) ≡ total →
    done' ++ map (λ (x : A). y) (drop (i + 1) xs) ≡ total
mapped_any y [] i done done' total lt e h = absurd (omega (arith, lt))
mapped_any y (x ∷ xs) i done done' total lt e h =
    ap (λ r. r ++ map (λ x. y) (drop (i + 1) (x ∷ xs))) e ∙ append_assoc done (y ∷ []) (map (λ x. y) (drop (i + 1) (x ∷ xs)))
    ∙ ap (λ r. done ++ r) (sym (at_drop_more (map (λ x. y)) (x ∷ xs) i x lt)) ∙ h

pub spread_by : (s : Followed) (x : ℕ) (now : Now) (f : Numbered → Set) (go : Name → Now) →
    ((c : Numbered) → placed x (f c) now ≡ go (text_at s.program c.0)) → (cs : List Numbered) →
    spread x now (map f cs) ≡ by_constants s go (map (λ (c : Numbered). c.0) cs)
spread_by s x now f go h [] = refl
spread_by s x now f go h (c ∷ cs) = ap (λ y. y ∷ spread x now (map f cs)) (h c) ∙ ap (λ r. go (text_at s.program c.0) ∷ r)
    (spread_by s x now f go h cs)

set-past : (b : List Set) (s : Set) → slice_set b (length b) s ≡ b
set-past [] s = refl
set-past (y ∷ b) s = ap (λ r. y ∷ r) (set-past b s)

pub placed-past : (b : List Set) (n : ℕ) (s : Set) → n ≡ length b → placed n s (Some b) ≡ Some b
placed-past b n s e = ap (λ k. Some (slice_set b k s)) e ∙ ap Some (set-past b s)

set-twice : (b : List Set) (x : ℕ) (s t : Set) → slice_set (slice_set b x s) x t ≡ slice_set b x t
set-twice [] x s t = refl
set-twice (y ∷ b) zero s t = refl
set-twice (y ∷ b) (suc x) s t = ap (λ r. y ∷ r) (set-twice b x s t)

-- what a label leads to, from what all labels lead to
pub led_now : (s : Followed) (x : CoreVar) (n : ℕ) (k : Method) (ss : List Set) (known now : Now) (log : Log) (set : Set) (label : Name) →
    set ≡ known_set known (variable_at s x.var) → now ≡ joined (protocol_call s targets x n k ss known log).yes
    (protocol_call s targets x n k ss known log).no →
    placed (variable_at s x.var) (led_set s x.var k set label) now ≡ led_by s x n k ss known log label
led_now s x n k ss None now log set label es en = ap (placed (variable_at s x.var) (led_set s x.var k set label)) en
led_now s x n k ss (Some b) now log set label es en =
    ap (placed (variable_at s x.var) (led_set s x.var k set label)) (en ∙ joined-self (protocol_call s targets x n k ss (Some b) log).yes)
    ∙ ap Some (set-twice b (variable_at s x.var) _ (led_set s x.var k set label))
    ∙ ap (λ y. Some (slice_set b (variable_at s x.var) (led_set s x.var k y label))) es
    ∙ sym (joined-self (protocol_call s (targets_by label) x n k ss (Some b) log).yes)

-- Values that are calls, and others.

pub switched_other : (s : Followed) (e : Expr) (sets : List Set) (log : Log) → None ≡ call_in e → plain_switch s e sets log ≡ switched s e
    (Some sets) log
switched_other s (Int q z) sets log h = refl
switched_other s (Truth q b) sets log h = refl
switched_other s (Text q t) sets log h = refl
switched_other s (Null q) sets log h = refl
switched_other s (Variable q x) sets log h = refl
switched_other s (Constant q e n) sets log h = refl
switched_other s (Neg q a) sets log h = refl
switched_other s (Not q a) sets log h = refl
switched_other s (Binary q o l r) sets log h = refl
switched_other s (Protocol q x n args) sets log h = let no : ⊥ = cc in absurd no
switched_other s (Helper q n args) sets log h = refl
switched_other s (Static q n args) sets log h = refl
switched_other s (Equals q l r) sets log h = refl
switched_other s (Concat q l r) sets log h = refl
switched_other s (Session q c args) sets log h = refl
switched_other s (New q c) sets log h = refl

pub switched_call : (s : Followed) (e : Expr) (c : Called) (sets : List Set) (log : Log) → Some c ≡ call_in e →
    called_switch s c sets log ≡ switched s e (Some sets) log
switched_call s (Protocol q x n args) c sets log h =
    let k : c ≡ record { receiver = x; method = n; args = args } = cc in ap (λ (y : Called). called_switch s y sets log) k
switched_call s (Int q z) c sets log h = let no : ⊥ = cc in absurd no
switched_call s (Truth q b) c sets log h = let no : ⊥ = cc in absurd no
switched_call s (Text q t) c sets log h = let no : ⊥ = cc in absurd no
switched_call s (Null q) c sets log h = let no : ⊥ = cc in absurd no
switched_call s (Variable q x) c sets log h = let no : ⊥ = cc in absurd no
switched_call s (Constant q e n) c sets log h = let no : ⊥ = cc in absurd no
switched_call s (Neg q a) c sets log h = let no : ⊥ = cc in absurd no
switched_call s (Not q a) c sets log h = let no : ⊥ = cc in absurd no
switched_call s (Binary q o l r) c sets log h = let no : ⊥ = cc in absurd no
switched_call s (Helper q n args) c sets log h = let no : ⊥ = cc in absurd no
switched_call s (Static q n args) c sets log h = let no : ⊥ = cc in absurd no
switched_call s (Equals q l r) c sets log h = let no : ⊥ = cc in absurd no
switched_call s (Concat q l r) c sets log h = let no : ⊥ = cc in absurd no
switched_call s (Session q k args) c sets log h = let no : ⊥ = cc in absurd no
switched_call s (New q k) c sets log h = let no : ⊥ = cc in absurd no

module _ (s : Followed) (e : Expr) (sets : List Set) (log la : Log) (ns : List Now) where
  pub call_nows : (c : Called) → Some c ≡ call_in e → ns ≡ (called_switch s c sets log).1 → ns ≡ (switched s e (Some sets) log).1
  call_nows c h k = k ∙ ap (λ (y : Evaluated × (List Now)). y.1) (switched_call s e c sets log h)

  pub call_log : (c : Called) → Some c ≡ call_in e → la ≡ (called_switch s c sets log).0.log → la ≡ (switched s e (Some sets) log).0.log
  call_log c h k = k ∙ ap (λ (y : Evaluated × (List Now)). y.0.log) (switched_call s e c sets log h)

  pub other_nows : None ≡ call_in e → ns ≡ (plain_switch s e sets log).1 → ns ≡ (switched s e (Some sets) log).1
  other_nows h k = k ∙ ap (λ (y : Evaluated × (List Now)). y.1) (switched_other s e sets log h)

  pub other_log : None ≡ call_in e → la ≡ (plain_switch s e sets log).0.log → la ≡ (switched s e (Some sets) log).0.log
  other_log h k = k ∙ ap (λ (y : Evaluated × (List Now)). y.0.log) (switched_other s e sets log h)

module _ (s : Followed) (c : Called) (sets : List Set) (log la : Log) (b : Branches) (a : Arguments) where
  abbrev switch_by : Option Method → Evaluated × (List Now)
  switch_by o =
      let a = eval_all s (elim o as (λ _. List ℕ) [ None ↦ [] | Some k ↦ map (width_of s) (param_types k) ]) c.args (Some sets) log in (
        elim o as (λ _. Evaluated) [
          | None ↦ alike [] a.now a.log
          | Some k ↦ protocol_call s targets c.receiver c.method k a.sets a.now a.log
        ],
        by_constants s (λ label. after
            (elim o as (λ _. Evaluated) [
              | None ↦ alike [] a.now a.log
              | Some k ↦ protocol_call s (targets_by label) c.receiver c.method k
                  a.sets a.now a.log
            ]))
            (constants_of s (option_map (λ (m : Method). m.result) o)),
      )

  pub uncalled_nows : slice_get s.program.methods c.method ≡ None → b.sets.items ≡ [] → branched b ≡ (called_switch s c sets log).1
  uncalled_nows e eb = ap (spread b.variable b.known) eb ∙ ap (λ o. (switch_by o).1) (sym e)

  pub uncalled_log : slice_get s.program.methods c.method ≡ None → argued_of a la ≡ eval_all s [] c.args (Some sets) log →
      la ≡ (called_switch s c sets log).0.log
  uncalled_log e ea = ap (λ (x : Argued). x.log) ea ∙ ap (λ o. (switch_by o).0.log) (sym e)

  module _ (k : Method) (tys : List CoreType) (e : slice_get s.program.methods c.method ≡ Some k) (et : tys ≡ param_types k)
      (ea : argued_of a la ≡ eval_all s (map (width_of s) tys) c.args (Some sets) log) where
    given : argued_of a la ≡ eval_all s (map (width_of s) (param_types k)) c.args (Some sets) log
    given = ea ∙ ap (λ t. eval_all s (map (width_of s) t) c.args (Some sets) log) et

    pub called_nows : branched b ≡ by_constants s (led_by s c.receiver c.method k a.sets a.now la) (constants_of s (Some k.result)) →
        branched b ≡ (called_switch s c sets log).1
    called_nows h = h ∙ ap (λ (x : Argued). by_constants s (led_by s c.receiver c.method k x.sets x.now x.log)
        (constants_of s (Some k.result))) given ∙ ap (λ o. (switch_by o).1) (sym e)

    pub called_log : (lb : Log) → lb ≡ (protocol_call s targets c.receiver c.method k a.sets a.now la).log →
        lb ≡ (called_switch s c sets log).0.log
    called_log lb h = h ∙ ap (λ (x : Argued). (protocol_call s targets c.receiver c.method k x.sets x.now x.log).log) given ∙
        ap (λ o. (switch_by o).0.log) (sym e)

module _ (s : Followed) (x : CoreVar) (n : ℕ) (k : Method) (ss : List Set) (known : Now) (log la : Log) (v : Value)
    (ev : evaluated_of v la ≡ protocol_call s targets x n k ss known log) where
  pub led_nows : (b : Branches) (cs : List Numbered) (set : Set) → b.variable ≡ variable_at s x.var →
      b.known ≡ joined (yes_of v.ways) (no_of v.ways) → set ≡ known_set known b.variable →
      b.sets.items ≡ map (λ (c : Numbered). led_set s x.var k set (text_at s.program c.0)) cs →
      map (λ (c : Numbered). c.0) cs ≡ constants_of s (Some k.result) →
      branched b ≡ by_constants s (led_by s x n k ss known log) (constants_of s (Some k.result))
  led_nows b cs set ex en es eb ec =
      ap (λ y. spread y b.known b.sets.items) ex ∙ ap (spread (variable_at s x.var) b.known) eb
      ∙ spread_by s (variable_at s x.var) b.known (λ c. led_set s x.var k set (text_at s.program c.0)) (led_by s x n k ss known log)
      (λ c. led_now s x n k ss known b.known log set (text_at s.program c.0) (es ∙ ap (known_set known) ex)
      (en ∙ ap (λ (y : Evaluated). joined y.yes y.no) ev)) cs
      ∙ ap (by_constants s (led_by s x n k ss known log)) ec

  pub led_log : la ≡ (protocol_call s targets x n k ss known log).log
  led_log = ap (λ (y : Evaluated). y.log) ev

pub ruleset calls = (uncalled_nows, uncalled_log, called_nows, called_log, led_nows, led_log)

placed-none : (n : Now) → placed (variables n) [] n ≡ n
placed-none None = refl
placed-none (Some b) = placed-past b (length b) [] refl

module _ (s : Followed) (e : Expr) (sets : List Set) (log la : Log) (v : Value) (ev : evaluated_of v la ≡ eval s 0 e (Some sets) log) where
  pub plain_nows : (b : Branches) (cs : List Numbered) (ty : Option CoreType) → ty ≡ type_dropped s e →
      b.known ≡ joined (yes_of v.ways) (no_of v.ways) → b.variable ≡ variables b.known →
      b.sets.items ≡ map (λ (c : Numbered). none 0) cs → map (λ (c : Numbered). c.0) cs ≡ constants_of s ty →
      branched b ≡ (plain_switch s e sets log).1
  plain_nows b cs ty ety en ex eb ec =
      ap (λ y. spread y b.known b.sets.items) ex ∙ ap (spread (variables b.known) b.known) eb
      ∙ spread_by s (variables b.known) b.known (λ c. none 0) (λ label. after (eval s 0 e (Some sets) log)) (λ c. placed-none b.known ∙ en ∙
      ap (λ (y : Evaluated). joined y.yes y.no) ev) cs
      ∙ ap (by_constants s (λ label. after (eval s 0 e (Some sets) log))) (ec ∙ ap (constants_of s) ety)

  pub plain_log : la ≡ (plain_switch s e sets log).0.log
  plain_log = ap (λ (y : Evaluated). y.log) ev

pub ruleset plains = (plain_nows, plain_log)

pub rest_led : (x : ℕ) (now : Now) (nows : List Now) (all r : Option Set) (s t : Set) → r ≡ Some s → t ≡ gathered all s →
    with_any x now (Some t) ≡ joined (with_any x now all) (label_now (with_any x now r) nows None)
rest_led x now nows all r s t er et =
    ap (λ y. with_any x now (Some y)) et ∙ gathered_is x now all s ∙ ap (λ o. joined (with_any x now all) (with_any x now o)) (sym er)

pub rest_missing : (x : ℕ) (now : Now) (nows : List Now) (all r : Option Set) → r ≡ None → with_any x now all ≡ joined (with_any x now all)
    (label_now (with_any x now r) nows None)
rest_missing x now nows all r er = sym (joined-none (with_any x now all)) ∙ ap (λ o. joined (with_any x now all) (with_any x now o))
    (sym er)

module _ (x : ℕ) (now : Now) (sets : List Set) (all r : Option Set) (label : Option ℕ) where
  pub some_led : (n : ℕ) (s t : Set) → label ≡ Some n → Some s ≡ slice_get sets n → t ≡ gathered all s →
      with_any x now (Some t) ≡ joined (with_any x now all) (label_now (with_any x now r) (spread x now sets) label)
  some_led n s t el e et = label_led x now sets (with_any x now r) all n s t e et ∙
      ap (λ o. joined (with_any x now all) (label_now (with_any x now r) (spread x now sets) o)) (sym el)

  pub some_past : (n : ℕ) → label ≡ Some n → None ≡ slice_get sets n →
      with_any x now all ≡ joined (with_any x now all) (label_now (with_any x now r) (spread x now sets) label)
  some_past n el e = label_past x now sets (with_any x now r) all n e ∙
      ap (λ o. joined (with_any x now all) (label_now (with_any x now r) (spread x now sets) o)) (sym el)

  pub none_led : (s t : Set) → label ≡ None → r ≡ Some s → t ≡ gathered all s →
      with_any x now (Some t) ≡ joined (with_any x now all) (label_now (with_any x now r) (spread x now sets) label)
  none_led s t el er et = rest_led x now (spread x now sets) all r s t er et ∙
      ap (λ o. joined (with_any x now all) (label_now (with_any x now r) (spread x now sets) o)) (sym el)

  pub none_past : label ≡ None → r ≡ None → with_any x now all ≡ joined (with_any x now all)
      (label_now (with_any x now r) (spread x now sets) label)
  none_past el er = rest_missing x now (spread x now sets) all r er ∙
      ap (λ o. joined (with_any x now all) (label_now (with_any x now r) (spread x now sets) o)) (sym el)

  pub some_led_at : (n : ℕ) (s t : Set) → label ≡ Some n → n < length sets → s ≡ get_or sets n [] → t ≡ gathered all s →
      with_any x now (Some t) ≡ joined (with_any x now all) (label_now (with_any x now r) (spread x now sets) label)
  some_led_at n s t el lt es et = some_led n s t el (there sets n s lt es) et
    where
      there : (ys : List Set) (n : ℕ) (s : Set) → n < length ys → s ≡ get_or ys n [] → Some s ≡ slice_get ys n
      there [] n s lt e = absurd (omega (arith, lt))
      there (y ∷ ys) zero s lt e = ap Some e
      there (y ∷ ys) (suc n) s lt e = there ys n s (omega (arith, lt)) e

  pub some_past_at : (n : ℕ) → label ≡ Some n → length sets ≤ n →
      with_any x now all ≡ joined (with_any x now all) (label_now (with_any x now r) (spread x now sets) label)
  some_past_at n el le = some_past n el (gone sets n le)
    where
      gone : (ys : List Set) (n : ℕ) → length ys ≤ n → None ≡ slice_get ys n
      gone [] zero le = refl
      gone [] (suc n) le = refl
      gone (y ∷ ys) zero le = absurd (omega (arith, le))
      gone (y ∷ ys) (suc n) le = gone ys n (omega (arith, le))

pub ruleset leading = (some_led_at, some_past_at, none_led, none_past)

module _ (rest : Now) (nows : List Now) (os : List (Option ℕ)) (i : ℕ) (done : Now)
    (h : (s : Followed) → joined done (entry_of s rest nows (drop i os)) ≡ entry_of s rest nows os) where
  pub entry_next : (o : Option ℕ) (done' : Now) → i < length os → o ≡ get_or os i o → done' ≡ joined done (label_now rest nows o) →
      (s : Followed) → joined done' (entry_of s rest nows (drop (i + 1) os)) ≡ entry_of s rest nows os
  entry_next o done' lt at e s = entry_more s rest nows os i done (entry_of s rest nows os) o done' lt at e (h s)

  pub entry_last : (n : Now) → length os ≤ i → n ≡ done → (s : Followed) → n ≡ entry_of s rest nows os
  entry_last n le e s = e ∙ entry_all s rest nows os i done (entry_of s rest nows os) le (h s)

  pub entry_at : (d : Option ℕ) (done' : Now) → i < length os → done' ≡ joined done (label_now rest nows (get_or os i d)) →
      (s : Followed) → joined done' (entry_of s rest nows (drop (i + 1) os)) ≡ entry_of s rest nows os
  entry_at d done' lt e s = entry_next (get_or os i d) done' lt (same_at os i d lt) e s
    where
      same_at : (os : List (Option ℕ)) (i : ℕ) (d : Option ℕ) → i < length os → get_or os i d ≡ get_or os i (get_or os i d)
      same_at [] i d lt = absurd (omega (arith, lt))
      same_at (o ∷ os) zero d lt = refl
      same_at (o ∷ os) (suc i) d lt = same_at os i d (omega (arith, lt))

pub ruleset entering = (entry_next, entry_last)

module _ (s : Followed) (x : Var) (k : Method) (set : Set) (cs : List Numbered) (i : ℕ) (done : List Set) where
  abbrev led_all : List Numbered → List Set
  led_all ns = map (λ (c : Numbered). led_set s x k set (text_at s.program c.0)) ns

  pub led_more : (c : Numbered) (led : Set) (done' total : List Set) → i < length cs → c ≡ get_or cs i c →
      led ≡ led_set s x k set (text_at s.program c.0) →
      done' ≡ done ++ led ∷ [] → done ++ led_all (drop i cs) ≡ total → done' ++ led_all (drop (i + 1) cs) ≡ total
  led_more c led done' total lt at el ed h =
      mapped_more (λ (c : Numbered). led_set s x k set (text_at s.program c.0)) cs i done c done' total lt at
      (ed ∙ ap (λ y. done ++ y ∷ []) el) h

  pub led_end : length cs ≤ i → done ++ led_all (drop i cs) ≡ led_all cs → done ≡ led_all cs
  led_end le h = mapped_all (λ (c : Numbered). led_set s x k set (text_at s.program c.0)) cs i done le h

pub ruleset mapped = (led_more, led_end)

pub has_past : (s : Set) (n : ℕ) → length s ≤ n → has s n ≡ false
has_past [] n le = refl
has_past (b ∷ s) zero le = absurd (omega (arith, le))
has_past (b ∷ s) (suc n) le = has_past s n (omega (arith, le))

pub ruleset resting = (rest_cased, rest_uncased, rest_all, has_past)

length-spread : (x : ℕ) (now : Now) (sets : List Set) → length (spread x now sets) ≡ length sets
length-spread x now [] = refl
length-spread x now (s ∷ sets) = ap suc (length-spread x now sets)

-- the choice of a switch, from the labels of its groups
module _ (s : Followed) (os : List (Option ℕ)) (b : Branches) (l : Labels) (w : ℕ) (ew : w ≡ length b.sets.items)
    (el : l ≡ noted os (no_labels w)) where
  pub rest_chosen : (r : Option Set) → with_any b.variable b.known r ≡ uncased_by l.cased 0 (branched b) →
      with_any b.variable b.known r ≡ uncased s os 0 (branched b)
  rest_chosen r h =
      h ∙ ap (λ (y : Labels). uncased_by y.cased 0 (branched b)) el
      ∙ uncased_is s os w 0 (branched b) (let e : length (branched b) ≡ length b.sets.items = length-spread b.variable b.known b.sets.items
      in omega (arith, e, ew))

  pub past_chosen : (r : Option Set) → with_any b.variable b.known r ≡ uncased_by l.cased 0 (branched b) →
      (if l.has_default then None else with_any b.variable b.known r) ≡ (if list_any is_default os then None else uncased s os 0
      (branched b))
  past_chosen r h =
      ap (λ v. if v then None else with_any b.variable b.known r) (ap (λ (y : Labels). y.has_default) el ∙ default-noted os (no_labels w))
      ∙ ap (λ y. if list_any is_default os then None else y) (rest_chosen r h)

pub ruleset choices = (rest_chosen, past_chosen)

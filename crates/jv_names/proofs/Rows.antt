-- Rows of a core beside rows of its source.
use Rattle.std.proofs.Common.{◌≡◌, ◌≢◌, ℕ, zero, suc, ◌+◌, Bool, true, false, List, [], ◌∷◌, drop, map, length, Option, Some, None, refl}
use Rattle.std.proofs.Common.{sym, ap, ◌∙◌, arith, true≢false}
use Rattle.std.specs.Prelude.{nat_eq, if◌then◌else◌, find}
use Rattle.std.specs.Str.{bytes_eq}
use Rattle.std.proofs.lemmas.Slice.Eq.{bytes_eq-Decides}
use Rattle.std.proofs.lemmas.Bool.Decides.{nat_tests}
use Rattle.mg_text.specs.Call.{Name}
use Rattle.jv_tree.specs.declared.tree.Param.{Param}
use Rattle.jv_values.specs.Values.{Value, Row, put, over, bound}
use Rattle.jv_values.specs.Values as values
use Rattle.jv_core.specs.Numbering.{numbers_from}
use Rattle.jv_rules.specs.Scope.{Scope, Declared, declare, with_params}
use Rattle.jv_names.specs.Resolves.{HasSlot, here, there, first_slots}

-- Tests.

pub bytes_same : (x : Name) → bytes_eq x x ≡ true
bytes_same x = (bytes_eq-Decides x x).1 refl

pub bytes_differ : (x y : Name) → (y ≢ x) → bytes_eq x y ≡ false
bytes_differ x y h = go (bytes_eq x y) refl
  where
    go : (t : Bool) → bytes_eq x y ≡ t → bytes_eq x y ≡ false
    go true e = absurd (h (sym ((bytes_eq-Decides x y).0 e)))
    go false e = e

pub number_same : (k : ℕ) → nat_eq k k ≡ true
number_same k = grind (arith, nat_tests)

pub number_differs : (k j : ℕ) → j ≢ k → nat_eq k j ≡ false
number_differs k j h = go (nat_eq k j) refl
  where
    go : (t : Bool) → nat_eq k j ≡ t → nat_eq k j ≡ false
    go true e = absurd (h (grind (arith, nat_tests)))
    go false e = e

-- the same values, entry by entry, under the slots and the names of the locals
pub data Beside : List Declared → List ℕ → Row ℕ → Row Name → Type 0 where
  none : Beside [] [] [] []
  more : {d : Declared} {k : ℕ} {v : Value} {ds : List Declared} {ks : List ℕ} {r : Row ℕ} {r' : Row Name} →
      Beside ds ks r r' → Beside (d ∷ ds) (k ∷ ks) ((k, v) ∷ r) ((d.name, v) ∷ r')

pub below_top : {d : Declared} {k : ℕ} {ds : List Declared} {ks : List ℕ} {r : Row ℕ} {r' : Row Name} → Beside (d ∷ ds) (k ∷ ks) r r' →
    Beside ds ks (drop 1 r) (drop 1 r')
below_top (more h) = h

pub record Finds (o p : Option Value) : Type 0 where
  pub value : Value
  pub left : o ≡ Some value
  pub right : p ≡ Some value

pub find_is : {ds : List Declared} {ks : List ℕ} {r : Row ℕ} {r' : Row Name} (x : Name) (k : ℕ) → Beside ds ks r r' → HasSlot x ds ks k →
    Finds (values.find nat_eq k r) (values.find bytes_eq x r')
find_is x k none w = elim w [ ]
find_is x k (more {d = d} {v = v} {r = r} {r' = r'} h) (here e) = record {
  value = v;
  left = ap (λ t. if t then Some v else values.find nat_eq k r) (number_same k);
  right = ap (λ t. if t then Some v else values.find bytes_eq x r') (ap (bytes_eq x) e ∙ bytes_same x);
}
find_is x k (more {d = d} {k = j} {v = v} {r = r} {r' = r'} h) (there a b w) =
    let f = find_is x k h w in
    record {
      value = f.value;
      left = ap (λ t. if t then Some v else values.find nat_eq k r) (number_differs k j b) ∙ f.left;
      right = ap (λ t. if t then Some v else values.find bytes_eq x r') (bytes_differ x d.name a) ∙ f.right;
    }

pub record Puts (ds : List Declared) (ks : List ℕ) (o : Option (Row ℕ)) (p : Option (Row Name)) : Type 0 where
  pub row : Row ℕ
  pub row' : Row Name
  pub left : o ≡ Some row
  pub right : p ≡ Some row'
  pub beside : Beside ds ks row row'

pub put_is : {ds : List Declared} {ks : List ℕ} {r : Row ℕ} {r' : Row Name} (x : Name) (k : ℕ) (v : Value) → Beside ds ks r r' →
    HasSlot x ds ks k →
    Puts ds ks (put nat_eq k v r) (put bytes_eq x v r')
put_is x k v none w = elim w [ ]
put_is x k v (more {d = d} {v = u} {r = r} {r' = r'} h) (here e) = record {
  row = (k, v) ∷ r;
  row' = (d.name, v) ∷ r';
  left = ap (λ t. if t then Some ((k, v) ∷ r) else over (k, u) (put nat_eq k v r)) (number_same k);
  right = ap (λ t. if t then Some ((d.name, v) ∷ r') else over (d.name, u) (put bytes_eq x v r')) (ap (bytes_eq x) e ∙ bytes_same x);
  beside = more h;
}
put_is x k v (more {d = d} {k = j} {v = u} {r = r} {r' = r'} h) (there a b w) =
    let p = put_is x k v h w in
    record {
      row = (j, u) ∷ p.row;
      row' = (d.name, u) ∷ p.row';
      left = ap (λ t. if t then Some ((j, v) ∷ r) else over (j, u) (put nat_eq k v r)) (number_differs k j b) ∙ ap (over (j, u)) p.left;
      right = ap (λ t. if t then Some ((d.name, v) ∷ r') else over (d.name, u) (put bytes_eq x v r')) (bytes_differ x d.name a) ∙ ap
          (over (d.name, u)) p.right;
      beside = more p.beside;
    }

-- a name that no local has

abbrev pub named : Name → List Declared → Option Declared
named x ds = find (λ d. bytes_eq d.name x) ds

-- what a search from the front says of the first and of the others
first_fails : {A : Type 0} (t : Bool) (a : A) (o : Option A) → (if t then Some a else o) ≡ None → (t ≡ false) × (o ≡ None)
first_fails true a o e = absurd (some_none e)
  where
    some_none : {A : Type 0} {a : A} → Some a ≡ None → ⊥
    some_none e = cc
first_fails false a o e = (refl, e)

flipped : (x y : Name) → bytes_eq y x ≡ false → bytes_eq x y ≡ false
flipped x y e = bytes_differ x y (λ s. true≢false (sym ((bytes_eq-Decides y x).1 s) ∙ e))

pub find_absent : {ds : List Declared} {ks : List ℕ} {r : Row ℕ} {r' : Row Name} (x : Name) → Beside ds ks r r' → named x ds ≡ None →
    values.find bytes_eq x r' ≡ None
find_absent x none w = refl
find_absent x (more {d = d} {v = v} {ds = ds} {r' = r'} h) w =
    let q = first_fails (bytes_eq d.name x) d (named x ds) w in
    ap (λ t. if t then Some v else values.find bytes_eq x r') (flipped x d.name q.0) ∙ find_absent x h q.1

pub put_absent : {ds : List Declared} {ks : List ℕ} {r : Row ℕ} {r' : Row Name} (x : Name) (v : Value) → Beside ds ks r r' →
    named x ds ≡ None → put bytes_eq x v r' ≡ None
put_absent x v none w = refl
put_absent x v (more {d = d} {v = u} {ds = ds} {r' = r'} h) w =
    let q = first_fails (bytes_eq d.name x) d (named x ds) w in
    ap (λ t. if t then Some ((d.name, v) ∷ r') else over (d.name, u) (put bytes_eq x v r')) (flipped x d.name q.0) ∙ ap (over (d.name, u))
    (put_absent x v h q.1)

-- Parameters.

-- options where None of the core is Wrong
abbrev pub Opt : {A A' : Type 0} → (A → A' → Type 0) → Option A → Option A' → Type 0
Opt V None p = Unit {0}
Opt V (Some a) (Some b) = V a b
Opt V (Some a) None = ⊥

-- slots in scope, with so many more behind a number
abbrev pub slots_onto : (first count : ℕ) → List ℕ → List ℕ
slots_onto n zero ks = ks
slots_onto n (suc count) ks = slots_onto (suc n) count (n ∷ ks)

pub bound_alike : (ps : List Param) (vs : List Value) (n : ℕ) (scope : Scope) (ks : List ℕ) {r : Row ℕ} {r' : Row Name} →
    Beside scope.locals ks r r' →
    Opt (Beside (with_params ps scope).locals (slots_onto n (length ps) ks)) (bound (numbers_from n (length ps)) vs r)
    (bound (map (λ (p : Param). p.name) ps) vs r')
bound_alike [] [] n scope ks h = h
bound_alike [] (v ∷ vs) n scope ks h = tt
bound_alike (p ∷ ps) [] n scope ks h = tt
bound_alike (p ∷ ps) (v ∷ vs) n scope ks h = bound_alike ps vs (suc n) (declare p.name p.ty scope) (n ∷ ks) (more h)

slots_from : (n count : ℕ) → slots_onto n count (first_slots n) ≡ first_slots (n + count)
slots_from n zero = ap first_slots (omega arith)
slots_from n (suc count) = slots_from (suc n) count ∙ ap first_slots (omega arith)

pub slots_first : (count : ℕ) → slots_onto 0 count [] ≡ first_slots count
slots_first count = slots_from 0 count ∙ ap first_slots (omega arith)

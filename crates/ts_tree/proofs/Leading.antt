-- One call leads to exactly the targets of the methods that a state offers.
use Rattle.std.proofs.Common.{◌≡◌, ◌≢◌, ℕ, zero, suc, Bool, true, false, List, [], ◌∷◌, length, map, Option, Some, None, option_and_then}
use Rattle.std.proofs.Common.{if◌then◌else◌, slice_get, refl, sym, ap, subst, ◌∙◌, arith, inl, inr, ◌⊎◌}
use Rattle.std.specs.Prelude.{Contains, IsSome}
use Rattle.std.specs.Str.{bytes_eq}
use Rattle.std.proofs.lemmas.Slice.Eq.{bytes_eq-Decides}
use Rattle.std.proofs.lemmas.Bool.{false≢true}
use Rattle.std.proofs.lemmas.Option.{none-some, option_and_then_some, slice_get_within, get_or_from_slice_get}
use Rattle.std.proofs.lemmas.List.Elements.{All-contains, All-from_recursion, Contains-append_left, Contains-append_right}
use Rattle.std.proofs.lemmas.List.Elements.{Contains-append_cases}
use Rattle.mg_text.specs.Call.{Name, Call}
use Rattle.ts_tree.specs.declared.parts.To.{To}
use Rattle.ts_tree.specs.declared.parts.TypeName.{TypeName}
use Rattle.ts_tree.specs.declared.parts.TypeName.TheVariants as types
use Rattle.ts_tree.specs.declared.parts.Branch.{Branch}
use Rattle.ts_tree.specs.Typestate.{Target, One, ByAnswer, Method, State, Typestate}
use Rattle.ts_tree.specs.Calls.{by_label, led_by, offered_in, next, Fits}
use Rattle.ts_tree.specs.Proper.{AreDistinct, IsTarget, IsState, IsProper, IsWithin}
use Rattle.ts_tree.specs.inner.Visiting.{is_named, targets_by, targets_of, targets_in}

-- ---- members of lists
pub here : {X : Type 0} (x : X) (xs : List X) → Contains (x ∷ xs) x
here x xs = (0, omega arith, refl)

pub behind : {X : Type 0} (y : X) (xs : List X) (x : X) → Contains xs x → Contains (y ∷ xs) x
behind y xs x (k, lt, e) = (suc k, omega (arith, lt), e)

pub first_or_behind : {X : Type 0} (y : X) (xs : List X) (x : X) → Contains (y ∷ xs) x → (y ≡ x) ⊎ Contains xs x
first_or_behind y xs x (zero, lt, e) = inl e
first_or_behind y xs x (suc k, lt, e) = inr (k, omega (arith, lt), e)

pub in_map : {X Y : Type 0} (f : X → Y) (xs : List X) (x : X) → Contains xs x → Contains (map f xs) (f x)
in_map f [] x (k, lt, e) = absurd (omega (arith, lt))
in_map f (y ∷ xs) x h = elim (first_or_behind y xs x h) [
  | inl e ↦ subst (λ z. Contains (f y ∷ map f xs) (f z)) e (here (f y) (map f xs))
  | inr more ↦ behind (f y) (map f xs) (f x) (in_map f xs x more)
]

-- ---- tests
some_is : {X : Type 0} (x y : X) → Some x ≡ Some y → x ≡ y
some_is x y h = cc

pub chosen : {X : Type 0} (t : Bool) (x : X) (rest : Option X) (found : X) → (if t then Some x else rest) ≡ Some found →
    ((t ≡ true) × (x ≡ found)) ⊎ ((t ≡ false) × (rest ≡ Some found))
chosen true x rest found h = inl (refl, some_is x found h)
chosen false x rest found h = inr (refl, h)

same_name : (x y : Name) → bytes_eq x y ≡ true → x ≡ y
same_name x y h = (bytes_eq-Decides x y).0 h

name_is : (x : Name) → bytes_eq x x ≡ true
name_is x = (bytes_eq-Decides x x).1 refl

other_name : (x y : Name) → x ≢ y → bytes_eq x y ≡ false
other_name x y ne = go (bytes_eq x y) refl where
  go : (t : Bool) → bytes_eq x y ≡ t → bytes_eq x y ≡ false
  go false e = e
  go true e = absurd (ne (same_name x y e))

-- ---- branches
by_label-sound : (bs : List Branch) (label : Name) (to : To) → by_label bs label ≡ Some to → Contains (map (λ b. b.to) bs) to
by_label-sound [] label to h = absurd (none-some to h)
by_label-sound (b ∷ bs) label to h =
    elim (chosen (bytes_eq b.label label) b.to (by_label bs label) to h) [
      | inl t ↦ subst (Contains (map (λ b. b.to) (b ∷ bs))) t.1 (here b.to (map (λ b. b.to) bs))
      | inr f ↦ behind b.to (map (λ b. b.to) bs) to (by_label-sound bs label to f.1)
    ]

pub by_label-complete : (bs : List Branch) (b : Branch) → AreDistinct (map (λ b. b.label) bs) → Contains bs b →
    by_label bs b.label ≡ Some b.to
by_label-complete [] b apart (k, lt, e) = absurd (omega (arith, lt))
by_label-complete (x ∷ bs) b apart h =
    elim (first_or_behind x bs b h) [
      | inl e ↦ subst (λ (z : Branch). by_label (x ∷ bs) z.label ≡ Some z.to) e (rw (name_is x.label) refl)
      | inr more ↦
          let ne : x.label ≢ b.label = λ e. apart.0 (subst (Contains (map (λ b. b.label) bs)) (sym e) (in_map (λ b. b.label) bs b more)) in
          rw (other_name x.label b.label ne) (by_label-complete bs b apart.1 more)
    ]

-- the branch that leads there
branch_to : (bs : List Branch) (to : To) → Contains (map (λ b. b.to) bs) to → (b : Branch) × Contains bs b × (b.to ≡ to)
branch_to [] to (k, lt, e) = absurd (omega (arith, lt))
branch_to (b ∷ bs) to h =
    elim (first_or_behind b.to (map (λ b. b.to) bs) to h) [
      | inl e ↦ (b, here b bs, e)
      | inr more ↦ let found = branch_to bs to more in (found.0, behind b bs found.0 found.1, found.2)
    ]

-- ---- methods
offered_in-sound : (ms : List Method) (name : Name) (m : Method) → offered_in ms name ≡ Some m → Contains ms m × (m.name ≡ name)
offered_in-sound [] name m h = absurd (none-some m h)
offered_in-sound (x ∷ ms) name m h =
    elim (chosen (bytes_eq x.name name) x (offered_in ms name) m h) [
      | inl t ↦ subst (λ (z : Method). Contains (x ∷ ms) z × (z.name ≡ name)) t.1 (here x ms, same_name x.name name t.0)
      | inr f ↦ let found = offered_in-sound ms name m f.1 in (behind x ms m found.0, found.1)
    ]

offered_in-complete : (ms : List Method) (m : Method) → AreDistinct (map (λ m. m.name) ms) → Contains ms m → offered_in ms m.name ≡ Some m
offered_in-complete [] m apart (k, lt, e) = absurd (omega (arith, lt))
offered_in-complete (x ∷ ms) m apart h =
    elim (first_or_behind x ms m h) [
      | inl e ↦ subst (λ (z : Method). offered_in (x ∷ ms) z.name ≡ Some z) e (rw (name_is x.name) refl)
      | inr more ↦
          let ne : x.name ≢ m.name = λ e. apart.0 (subst (Contains (map (λ m. m.name) ms)) (sym e) (in_map (λ m. m.name) ms m more)) in
          rw (other_name x.name m.name ne) (offered_in-complete ms m apart.1 more)
    ]

-- ---- targets
pub targets_in-from : (ms : List Method) (m : Method) (to : To) → Contains ms m → Contains (targets_of m) to → Contains (targets_in ms) to
targets_in-from [] m to (k, lt, e) among = absurd (omega (arith, lt))
targets_in-from (x ∷ ms) m to h among =
    elim (first_or_behind x ms m h) [
      | inl e ↦ Contains-append_left (targets_of x) (targets_in ms) to (subst (λ (z : Method). Contains (targets_of z) to) (sym e) among)
      | inr more ↦ Contains-append_right (targets_of x) (targets_in ms) to (targets_in-from ms m to more among)
    ]

method_to : (ms : List Method) (to : To) → Contains (targets_in ms) to → (m : Method) × Contains ms m × Contains (targets_of m) to
method_to [] to (k, lt, e) = absurd (omega (arith, lt))
method_to (m ∷ ms) to h =
    elim (Contains-append_cases (targets_of m) (targets_in ms) to h) [
      | inl first ↦ (m, here m ms, first)
      | inr more ↦ let found = method_to ms to more in (found.0, behind m ms found.0 found.1, found.2)
    ]

led_by-sound : (type : TypeName) (target : Target) (answer : Option Name) (to : To) → (IsSome answer → is_named type ≡ true) →
    led_by target answer ≡ Some to → Contains (targets_by type target) to
led_by-sound type (One x) answer to named h = subst (Contains (x ∷ [])) (some_is x to h) (here x [])
led_by-sound type (ByAnswer bs) None to named h = absurd (none-some to h)
led_by-sound type (ByAnswer bs) (Some label) to named h = rw (named refl) (by_label-sound bs label to h)

-- the answer with which a method leads there, if it may have one
led_by-complete : (count : ℕ) (type : TypeName) (target : Target) (to : To) → IsTarget count target → Contains (targets_by type target) to →
    (answer : Option Name) × (IsSome answer → is_named type ≡ true) × (led_by target answer ≡ Some to)
led_by-complete count type (One x) to fine h =
    elim (first_or_behind x [] to h) [
      | inl e ↦ (None, λ some. absurd (false≢true some), ap Some e)
      | inr none ↦ absurd
          (omega (arith, none.1))
    ]
led_by-complete count type (ByAnswer bs) to fine h = go (is_named type) refl h where
  go : (t : Bool) → is_named type ≡ t → Contains (if t then map (λ b. b.to) bs else []) to → (answer : Option Name)
      × (IsSome answer → is_named type ≡ true) × (led_by (ByAnswer bs) answer ≡ Some to)
  go true named among = let b = branch_to bs to among in (Some b.0.label, λ _. named, by_label-complete bs b.0 fine.1 b.1 ∙ ap Some b.2)
  go false named among = absurd (omega (arith, among.1))

target_within : (count : ℕ) (type : TypeName) (target : Target) (to : To) → IsTarget count target → Contains (targets_by type target) to →
    IsWithin count to
target_within count type (One x) to fine h =
    elim (first_or_behind x [] to h) [ inl e ↦ subst (IsWithin count) e fine | inr none ↦ absurd (omega (arith, none.1)) ]
target_within count type (ByAnswer bs) to fine h = go (is_named type) h where
  go : (t : Bool) → Contains (if t then map (λ b. b.to) bs else []) to → IsWithin count to
  go true among =
      let b = branch_to bs to among in
      subst (IsWithin count) b.2 (All-contains (λ (b : Branch). IsWithin count b.to) bs b.0
      (All-from_recursion (λ (b : Branch). IsWithin count b.to) bs fine.0) b.1)
  go false among = absurd (omega (arith, among.1))

is_named-from : (type : TypeName) (name : Name) → type ≡ types.Named name → is_named type ≡ true
is_named-from type name e = ap is_named e

named_as : (type : TypeName) → is_named type ≡ true → (name : Name) × (type ≡ types.Named name)
named_as (types.Named name) h = (name, refl)
named_as types.Void h = absurd (false≢true h)
named_as types.Int h = absurd (false≢true h)
named_as types.Boolean h = absurd (false≢true h)
named_as types.Text h = absurd (false≢true h)

-- ---- calls
-- a call that leads from a state to there
pub record LeadsTo (t : Typestate) (q : ℕ) (to : To) : Type 0 where
  pub call : Call
  pub fits : Fits t call
  pub goes : next t q call.method call.answer ≡ Some to

module _ (t : Typestate) (proper : IsProper t.states) (q : ℕ) (s : State) (at : slice_get t.states q ≡ Some s) where
  stands : Contains t.states s
  stands = (q, slice_get_within t.states q s at, get_or_from_slice_get t.states q s s at)

  state : IsState (length t.states) s
  state = All-contains (IsState (length t.states)) t.states s (All-from_recursion (IsState (length t.states)) t.states proper.each) stands

  next-at : (name : Name) (answer : Option Name) → next t q name answer ≡ option_and_then (λ m. led_by m.target answer)
      (offered_in s.methods name)
  next-at name answer = ap (λ (o : Option State). option_and_then (λ m. led_by m.target answer)
      (option_and_then (λ s. offered_in s.methods name) o)) at

  pub leads-sound : (to : To) → LeadsTo t q to → Contains (targets_in s.methods) to
  leads-sound to l =
      option_and_then_some (λ m. led_by m.target l.call.answer) (offered_in s.methods l.call.method) to
      (sym (next-at l.call.method l.call.answer) ∙ l.goes)
      (λ m offers leads.
      let found = offered_in-sound s.methods l.call.method m offers in
      let named : IsSome l.call.answer → is_named m.result ≡ true = λ some.
      let f = l.fits some in
      is_named-from m.result f.1 ((proper.one_signature m f.0 (s, stands, found.0) f.2 (found.1 ∙ sym f.3)).0 ∙ f.4) in
      targets_in-from s.methods m to found.0 (led_by-sound m.result m.target l.call.answer to named leads))

  pub leads-complete : (to : To) → Contains (targets_in s.methods) to → LeadsTo t q to
  leads-complete to h =
      let m = method_to s.methods to h in
      let fine : IsTarget (length t.states) m.0.target = All-contains (λ m. IsTarget (length t.states) m.target) s.methods m.0
      (All-from_recursion (λ m. IsTarget (length t.states) m.target) s.methods state.targets) m.1 in
      let a = led_by-complete (length t.states) m.0.result m.0.target to fine m.2 in
      record {
        call = record { method = m.0.name; answer = a.0 };
        fits = λ some. let n = named_as m.0.result (a.1 some) in (m.0, n.0, (s, stands, m.1), refl, n.1);
        goes = next-at m.0.name a.0 ∙ ap (option_and_then (λ m. led_by m.target a.0)) (offered_in-complete s.methods m.0 state.methods m.1)
            ∙ a.2;
      }

  -- each target is a state or the end
  pub targets_within : (to : To) → Contains (targets_in s.methods) to → IsWithin (length t.states) to
  targets_within to h =
      let m = method_to s.methods to h in
      let fine : IsTarget (length t.states) m.0.target = All-contains (λ m. IsTarget (length t.states) m.target) s.methods m.0
      (All-from_recursion (λ m. IsTarget (length t.states) m.target) s.methods state.targets) m.1 in
      target_within (length t.states) m.0.result m.0.target to fine m.2

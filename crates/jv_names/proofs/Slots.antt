-- The slots of a core's method, and its parameters.
use Rattle.std.proofs.Common.{◌≡◌, ◌≢◌, ◌⊎◌, inl, inr, ⊎_elim, ℕ, zero, suc, ◌+◌, ◌-◌, ◌<◌, ◌≤◌, Bool, true, false, cond, List, [], ◌∷◌}
use Rattle.std.proofs.Common.{◌++◌, length, map, Contains, slice_get, Some, None, refl, sym, ap, ◌∙◌, subst, arith}
use Rattle.std.specs.List.{AllByRecursion}
use Rattle.std.specs.Str.{bytes_eq}
use Rattle.std.proofs.lemmas.Slice.Eq.{bytes_eq-Decides}
use Rattle.std.proofs.lemmas.Option.{slice_get_within}
use Rattle.std.proofs.lemmas.List.Elements.{Contains-append_cases}
use Rattle.mg_text.specs.Call.{Name}
use Rattle.mg_text.specs.declared.place.Place.{Place}
use Rattle.mg_read.specs.Culprit.{Culprit, culprit}
use Rattle.mg_read.specs.First.{Clean}
use Rattle.ts_tree.specs.Proper.{AreDistinct}
use Rattle.ts_tree.specs.declared.parts.TypeName.{TypeName}
use Rattle.jv_tree.specs.declared.tree.Param.{Param}
use Rattle.jv_tree.specs.Source
use Rattle.jv_meaning.specs.Program.{classes_of}
use Rattle.jv_rules.specs.Program.{Program}
use Rattle.jv_rules.specs.Types.{meant}
use Rattle.jv_rules.specs.Scope.{Scope, declare, local_named}
use Rattle.jv_rules.specs.Spots.{param_spots}
use Rattle.jv_rules.specs.Shape.{IsOfValues, DeclaresValues, AllDeclareValues, GroupsDeclareValues, IsShapedMethod}
use Rattle.jv_rules.specs.Members.{Written, mentions_in, mentions_in_stmt, mentions_in_stmts, mentions_in_groups, param_mention}
use Rattle.jv_rules.specs.Declarations.{UnknownClass}
use Rattle.jv_rules.proofs.Tests.{nothing_in, in_cases, in_first, in_later}
use Rattle.jv_rules.proofs.Positive.{clean_at}
use Rattle.jv_core.specs.Tree as Core
use Rattle.jv_core.specs.Numbering.{numbers_from, declared_in, declared_in_all, declared_in_groups}
use Rattle.jv_core.specs.Conditions as core_conditions
use Rattle.jv_names.specs.Resolves.{Numbers, Owned, IsStmt, IsStmts, IsGroups, MethodIs, Resolves}
use Rattle.jv_names.specs.Resolves as is
use Rattle.jv_names.proofs.Clean.{NoFaultAt}
use Rattle.jv_names.proofs.Declared.{NoFault, got_in, in_map, clean_left, clean_right}
use Rattle.jv_names.proofs.Mentioned.{usable, param_mentions, body_mentions_of}
use Rattle.jv_names.proofs.Params.{slot_of}

-- numbers in rising order
first_or_later : (a j : ℕ) → a ≤ j → (a ≡ j) ⊎ (suc a ≤ j)
first_or_later zero zero h = inl refl
first_or_later zero (suc j) h = inr (omega arith)
first_or_later (suc a) zero h = absurd (omega (arith, h))
first_or_later (suc a) (suc j) h =
    ⊎_elim (λ e. inl (ap suc e)) (λ l. inr (omega (arith, l))) (first_or_later a j (omega (arith, h)))

in_numbers : (n a j : ℕ) → a ≤ j → j < a + n → Contains (numbers_from a n) j
in_numbers zero a j from below = absurd (omega (arith, from, below))
in_numbers (suc n) a j from below =
    let within : j < suc a + n = omega (arith, below) in
    ⊎_elim (λ e. subst (λ z. Contains (z ∷ numbers_from (suc a) n) j) (sym e) (in_first (numbers_from (suc a) n) j))
    (λ h. in_later (numbers_from (suc a) n) a j (in_numbers n (suc a) j h within)) (first_or_later a j from)

pub all_at : {A : Type 0} (P : A → Type 0) (xs : List A) → ((n : ℕ) (x : A) → slice_get xs n ≡ Some x → P x) → AllByRecursion P xs
all_at P [] h = tt
all_at P (x ∷ xs) h = (h 0 x refl, all_at P xs (λ n y e. h (suc n) y e))

there : {A : Type 0} (xs : List A) (n : ℕ) → n < length xs → (x : A) × (slice_get xs n ≡ Some x)
there [] n h = absurd (omega (arith, h))
there (x ∷ xs) zero h = (x, refl)
there (x ∷ xs) (suc n) h = there xs n (omega (arith, h))

pub all_holds : {A : Type 0} (P : A → Type 0) (xs : List A) → AllByRecursion P xs → (n : ℕ) (x : A) → slice_get xs n ≡ Some x → P x
all_holds P [] h n x e = absurd (cc)
all_holds P (y ∷ xs) h zero x e = subst P (same e) h.0
  where
    same : Some y ≡ Some x → y ≡ x
    same e = cc
all_holds P (y ∷ xs) h (suc n) x e = all_holds P xs h.1 n x e

module _ (program : Program) (origins : List ℕ) (clean : NoFault program origins) (core : Core.Program) (res : Resolves program core)
    (method : Core.Method) where
  -- a slot is as it must be
  record IsKept (k : ℕ) : Type 0 where
    slot : Core.Slot
    at : slice_get method.slots k ≡ Some slot
    kept : core_conditions.IsSlot core slot

  slot_kept : (p : Place) (k : ℕ) (name : Name) (ty : TypeName) → ((q : Culprit) → UnknownClass program (Written p ty) q → ⊥) →
      IsOfValues ty →
      is.IsSlot program core method k name ty → IsKept k
  slot_kept p k name ty fine values s = record {
    slot = s.slot;
    at = s.at;
    kept = record {
      name = slice_get_within core.names s.slot.name name s.named;
      type = usable program origins clean core res p ty s.slot.ty fine values s.type;
    };
  }

  only : (j k : ℕ) (ks : List ℕ) → IsKept k → (Contains ks j → IsKept j) → Contains (k ∷ ks) j → IsKept j
  only j k ks kept rest has = ⊎_elim (λ same. subst IsKept same kept) rest (in_cases ks k j has)

  mutual
    in_stmt : {sc : Scope} {ns : Numbers} {s : Source.Stmt} {s' : Core.Stmt} → IsStmt program core method sc ns s s' → DeclaresValues s →
        Clean (UnknownClass program) (mentions_in_stmt s) → (j : ℕ) → Contains (declared_in s') j → IsKept j
    in_stmt (is.block body) v c j has = in_stmts body v c j has
    in_stmt is.empty v c j has = absurd (nothing_in j has)
    in_stmt (is.local {p = p} {ty = ty} {x = x} {k = k} e slot) v c j has =
        only j k [] (slot_kept p k x ty c.0 v slot) (λ more. absurd (nothing_in j more)) has
    in_stmt (is.assign x e) v c j has = absurd (nothing_in j has)
    in_stmt (is.if_then {c = e} {s = s} t i) v c j has =
        in_stmt i v (clean_right (UnknownClass program) (mentions_in e) (mentions_in_stmt s) c) j has
    in_stmt (is.if_else {c = e} {s = s} {r = r} {s' = s'} {r' = r'} t i k) v c j has =
        let both = clean_right (UnknownClass program) (mentions_in e) (mentions_in_stmt s ++ mentions_in_stmt r) c in
        ⊎_elim (λ early. in_stmt i v.0 (clean_left (UnknownClass program) (mentions_in_stmt s) (mentions_in_stmt r) both) j early)
        (λ late. in_stmt k v.1 (clean_right (UnknownClass program) (mentions_in_stmt s) (mentions_in_stmt r) both) j late)
        (Contains-append_cases (declared_in s') (declared_in r') j has)
    in_stmt (is.while_loop {c = e} {s = s} l t i) v c j has =
        in_stmt i v (clean_right (UnknownClass program) (mentions_in e) (mentions_in_stmt s) c) j has
    in_stmt (is.do_loop {c = e} {s = s} l i t) v c j has =
        in_stmt i v (clean_left (UnknownClass program) (mentions_in_stmt s) (mentions_in e) c) j has
    in_stmt (is.switch {e = e} {gs = gs} t of gives i) v c j has =
        in_groups i v (clean_right (UnknownClass program) (mentions_in e) (mentions_in_groups gs) c) j has
    in_stmt (is.break l) v c j has = absurd (nothing_in j has)
    in_stmt (is.continue l) v c j has = absurd (nothing_in j has)
    in_stmt (is.return e) v c j has = absurd (nothing_in j has)
    in_stmt (is.print e) v c j has = absurd (nothing_in j has)
    in_stmt (is.eval e) v c j has = absurd (nothing_in j has)

    in_stmts : {sc : Scope} {ns : Numbers} {b : Source.Stmts} {b' : Core.Stmts} → IsStmts program core method sc ns b b' →
        AllDeclareValues b →
        Clean (UnknownClass program) (mentions_in_stmts b) → (j : ℕ) → Contains (declared_in_all b') j → IsKept j
    in_stmts is.no_stmt v c j has = absurd (nothing_in j has)
    in_stmts (is.declaration {p = p} {ty = ty} {x = x} {k = k} {e = e} {rest = rest} {rest' = rest'} t slot more) v c j has =
        only j k (declared_in_all rest') (slot_kept p k x ty c.0 v.0 slot)
        (λ h. in_stmts more v.1 (clean_right (UnknownClass program) (Written p ty ∷ mentions_in e) (mentions_in_stmts rest) c) j h) has
    in_stmts (is.then {s = s} {s' = s'} {rest = rest} {rest' = rest'} other i more) v c j has =
        ⊎_elim (λ early. in_stmt i v.0 (clean_left (UnknownClass program) (mentions_in_stmt s) (mentions_in_stmts rest) c) j early)
        (λ late. in_stmts more v.1 (clean_right (UnknownClass program) (mentions_in_stmt s) (mentions_in_stmts rest) c) j late)
        (Contains-append_cases (declared_in s') (declared_in_all rest') j has)

    in_groups : {enum : Source.Enum} {sc : Scope} {ns : Numbers} {g : Source.Groups} {g' : Core.Groups} →
        IsGroups program core method enum sc ns g g' →
        GroupsDeclareValues g → Clean (UnknownClass program) (mentions_in_groups g) → (j : ℕ) → Contains (declared_in_groups g') j →
        IsKept j
    in_groups is.no_group v c j has = absurd (nothing_in j has)
    in_groups (is.group {body = body} {body' = body'} {gs = gs} {gs' = gs'} labels i more) v c j has =
        ⊎_elim (λ early. in_stmts i v.0 (clean_left (UnknownClass program) (mentions_in_stmts body) (mentions_in_groups gs) c) j early)
        (λ late. in_groups more v.1 (clean_right (UnknownClass program) (mentions_in_stmts body) (mentions_in_groups gs) c) j late)
        (Contains-append_cases (declared_in_all body') (declared_in_groups gs') j has)

  -- each slot of a method
  module _ (o : Owned) (is_it : MethodIs program core o method) (of : Contains (classes_of program.files) o.owner.class)
      (has : Contains o.owner.class.methods o.method) (shaped : IsShapedMethod o.method) where
    of_param : (j : ℕ) → j < method.params → IsKept j
    of_param j below =
        let w = there o.method.params j (subst (λ n. j < n) is_it.count below) in
        let p = w.0 in
        let number : 0 + j ≡ j = omega arith in
        slot_kept p.place j p.name p.ty
        (clean_at (UnknownClass program) (map param_mention o.method.params) (param_mentions program origins clean o.owner.class o.method of
        has)
        (param_mention p) (in_map param_mention o.method.params p (got_in o.method.params j p w.1)))
        (all_holds (λ (p : Param). IsOfValues p.ty) o.method.params shaped.params j p w.1)
        (subst (λ k. is.IsSlot program core method k p.name p.ty) number (slot_of program core method 0 o.method.params is_it.params j p
        w.1))

    of_local : (j : ℕ) → method.params ≤ j → j < length method.slots → IsKept j
    of_local j from below =
        in_stmts is_it.body shaped.body (body_mentions_of program origins clean o.owner.class o.method of has) j
        (subst (λ ks. Contains ks j) (sym is_it.numbered.slots) (in_numbers (length method.slots - method.params) method.params j from
        (within method.params (length method.slots) from below)))
      where
        within : (a n : ℕ) → a ≤ j → j < n → j < a + (n - a)
        within a n from below = omega (arith, from, below)

    below_or_from : (j n : ℕ) → (j < n) ⊎ (n ≤ j)
    below_or_from j zero = inr (omega arith)
    below_or_from zero (suc n) = inl (omega arith)
    below_or_from (suc j) (suc n) = ⊎_elim (λ l. inl (omega (arith, l))) (λ l. inr (omega (arith, l))) (below_or_from j n)

    of_each : (j : ℕ) → j < length method.slots → IsKept j
    of_each j below = ⊎_elim (λ l. of_param j l) (λ l. of_local j l below) (below_or_from j method.params)

    pub slots_kept : AllByRecursion (core_conditions.IsSlot core) method.slots
    slots_kept = all_at (core_conditions.IsSlot core) method.slots
        (λ j s e. let w = of_each j (slice_get_within method.slots j s e) in subst (core_conditions.IsSlot core)
        (same w.slot s (sym w.at ∙ e)) w.kept)
      where
        same : (a b : Core.Slot) → Some a ≡ Some b → a ≡ b
        same a b e = cc

-- No two parameters have one name.

nowhere : {A : Type 0} {x : A} → Some x ≡ None → ⊥
nowhere e = cc

declared_stays : (name x : Name) (ty : TypeName) (scope : Scope) → local_named scope name ≢ None → local_named (declare x ty scope) name ≢
    None
declared_stays name x ty scope some = go (bytes_eq x name)
  where
    go : (b : Bool) → cond b (Some (record { name = x; type = meant scope.program ty })) (local_named scope name) ≢ None
    go true e = nowhere e
    go false e = some e

declared_there : (x : Name) (ty : TypeName) (scope : Scope) → local_named (declare x ty scope) x ≢ None
declared_there x ty scope = go (bytes_eq x x) ((bytes_eq-Decides x x).1 refl)
  where
    go : (b : Bool) → b ≡ true → cond b (Some (record { name = x; type = meant scope.program ty })) (local_named scope x) ≢ None
    go true e f = nowhere f
    go false e f = absurd (cc)

not_again : (scope : Scope) (ps : List Param) → AllByRecursion NoFaultAt (param_spots scope ps) → (name : Name) →
    local_named scope name ≢ None →
    Contains (map (λ p. p.name) ps) name → ⊥
not_again scope [] h name some has = nothing_in name has
not_again scope (p ∷ ps) h name some has =
    ⊎_elim (λ same. h.0.new_local (culprit p.place p.name) (refl, subst (λ n. local_named scope n ≢ None) (sym same) some))
    (λ more. not_again (declare p.name p.ty scope) ps h.1 name (declared_stays name p.name p.ty scope some) more)
    (in_cases (map (λ (p : Param). p.name) ps) p.name name has)

pub param_names_apart : (scope : Scope) (ps : List Param) → AllByRecursion NoFaultAt (param_spots scope ps) →
    AreDistinct (map (λ p. p.name) ps)
param_names_apart scope [] h = tt
param_names_apart scope (p ∷ ps) h = (
  (λ has. not_again (declare p.name p.ty scope) ps h.1 p.name (declared_there p.name p.ty scope) has),
  param_names_apart (declare p.name p.ty scope) ps h.1,
)

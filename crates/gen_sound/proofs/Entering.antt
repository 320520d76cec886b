-- The locals of a method as it is entered: the object on which it runs and its arguments stand in the first ones.
use Rattle.std.proofs.Common.{◌≡◌, ◌≢◌, ℕ, zero, suc, ◌+◌, ◌-◌, ◌≤◌, true, List, [], ◌∷◌, ◌++◌, length, map, replicate, take, Option, Some}
use Rattle.std.proofs.Common.{None, refl, sym, ap, ◌∙◌, subst, append_assoc, arith}
use Rattle.std.specs.Prelude.{slice_get}
use Rattle.std.specs.List.{AllByRecursion}
use Rattle.std.proofs.lemmas.List.{length-append, length-map, length-replicate, length-reverse}
use Rattle.jv_values.specs.Values.{Value, Row, bound}
use Rattle.jv_values.specs.Calls.{suits}
use Rattle.jv_core.specs.declared.program.CoreType.{CoreType}
use Rattle.jv_core.specs.declared.program.CoreType.TheVariants as types
use Rattle.jv_core.specs.declared.program.MethodKind.{MethodKind}
use Rattle.jv_core.specs.declared.program.MethodKind.TheVariants as kinds
use Rattle.jv_core.specs.Tree.{Stmt, Block, Empty, Local, Assign, If, IfElse, While, Do, Switch, Break, Continue, Return, Print, Eval}
use Rattle.jv_core.specs.Tree.{Stmts, NoStmt, Then, Declare, Groups, NoGroup, Group, Slot, Method, Program}
use Rattle.jv_core.specs.Lookup.{param_types}
use Rattle.jv_core.specs.Numbering.{numbers_from}
use Rattle.jv_core.specs.Members.{IsUsable}
use Rattle.jv_core.specs.Conditions.{IsSlot, IsMethod, IsCore}
use Rattle.jv_core.specs.Meaning.{runs_on_object}
use Rattle.vm_model.specs.declared.value.Value.{Value as Held}
use Rattle.vm_model.specs.declared.value.Value.TheVariants as held
use Rattle.gen_rules.specs.Locals.{first_local, next_local, params_in_scope}
use Rattle.gen_rules.specs.Frames.{max_locals, locals_of, locals_of_all, locals_of_groups}
use Rattle.jv_sound.proofs.Lists.{some_is}
use Rattle.jv_sound.proofs.Worlds.{World, AllFit}
use Rattle.jv_sound.proofs.Worlds as worlds
use Rattle.jv_sound.proofs.Expressions.{usable}
use Rattle.jv_sound.proofs.Sound.{HaveTypes, have_types}
use Rattle.jv_sound.proofs.Sound as sound
use Rattle.gen_sound.specs.Related.{flat, Laid, LaidObject}
use Rattle.gen_sound.specs.Standing.{HoldsRow}

-- the object that a method runs on stands before its arguments
abbrev pub with_object : Option ℕ → List Held → List Held
with_object None args = args
with_object (Some o) args = held.Object o ∷ args

-- the locals of a method as it is entered
abbrev pub first_locals : Method → List Held → List (Option Held)
first_locals k args = map Some args ++ replicate (max_locals k - length args) None

-- a statement takes locals above those that are taken
mutual
  pub at_least : (n : ℕ) (s : Stmt) → n ≤ locals_of n s
  at_least n (Block q body end) = at_least_all n body
  at_least n (Empty q) = omega arith
  at_least n (Local q k e) = omega arith
  at_least n (Assign q x e) = omega arith
  at_least n (If q c s) = at_least n s
  at_least n (IfElse q c s r) = let h = at_least n s in omega (arith, h)
  at_least n (While q l c s) = at_least n s
  at_least n (Do q l s c) = at_least n s
  at_least n (Switch q e gs end) = at_least_groups n gs
  at_least n (Break q l) = omega arith
  at_least n (Continue q l) = omega arith
  at_least n (Return q v) = omega arith
  at_least n (Print q e) = omega arith
  at_least n (Eval q e) = omega arith

  pub at_least_all : (n : ℕ) (s : Stmts) → n ≤ locals_of_all n s
  at_least_all n NoStmt = omega arith
  at_least_all n (Then s more) = let h = at_least n s in omega (arith, h)
  at_least_all n (Declare q k e more) = let h = at_least_all (suc n) more in omega (arith, h)

  pub at_least_groups : (n : ℕ) (gs : Groups) → n ≤ locals_of_groups n gs
  at_least_groups n NoGroup = omega arith
  at_least_groups n (Group labels body end more) = let h = at_least_all n body in omega (arith, h)

pub params_usable : (p : Program) (n : ℕ) (ss : List Slot) → AllByRecursion (IsSlot p) ss →
    AllByRecursion (IsUsable p) (map (λ s. s.ty) (take n ss))
params_usable p zero ss h = tt
params_usable p (suc n) [] h = tt
params_usable p (suc n) (s ∷ ss) h = ((h.0).type, params_usable p n ss h.1)

pub no_void : (p : Program) (ts : List CoreType) → AllByRecursion (IsUsable p) ts → AllByRecursion (λ t. t ≢ types.Void) ts
no_void p [] h = tt
no_void p (t ∷ ts) h = (usable p t h.0, no_void p ts h.1)

-- How many there are.

count_args : (p : Program) (w : World) (m : Method) (ks : List ℕ) (vs : List Value) (ts : List CoreType) → HaveTypes m ks ts →
    AllFit p w vs ts → length vs ≡ length ks
count_args p w m ks vs ts sound.none worlds.no_values = refl
count_args p w m ks vs ts (sound.more {ks = rest} e h) (worlds.value {vs = more} f fs) = ap suc (count_args p w m rest more _ h fs)

numbers_many : (n c : ℕ) → length (numbers_from n c) ≡ c
numbers_many n zero = refl
numbers_many n (suc c) = ap suc (numbers_many (suc n) c)

object_many : (kind : MethodKind) → kind ≢ kinds.Main → (this : Option ℕ) → suits (runs_on_object kind) this ≡ true → (args : List Held) →
    length (with_object this args) ≡ first_local kind + length args
object_many kinds.Main n this e args = absurd (n refl)
object_many kinds.Static n None e args = omega arith
object_many kinds.Static n (Some o) e args = absurd (cc)
object_many kinds.Helper n None e args = absurd (cc)
object_many kinds.Helper n (Some o) e args = omega arith
object_many kinds.Protocol n None e args = absurd (cc)
object_many kinds.Protocol n (Some o) e args = omega arith

fit_by : (args vs first scope params most : ℕ) → args ≡ first + vs → vs ≡ params → scope ≡ params → first + scope ≤ most → args ≤ most
fit_by args vs first scope params most a b c d = omega (arith, a, b, c, d)

filled : (whole args rest most : ℕ) → whole ≡ args + rest → rest ≡ most - args → args ≤ most → whole ≡ most
filled whole args rest most a b c = omega (arith, a, b, c)

-- Where they stand.

at_front : {A : Type 0} (front : List A) (x : A) (rest : List A) → slice_get (front ++ x ∷ rest) (length front) ≡ Some x
at_front [] x rest = refl
at_front (f ∷ front) x rest = at_front front x rest

one_further : (a b c : ℕ) → a ≡ b + c → a + 1 ≡ b + suc c
one_further a b c e = omega (arith, e)

-- arguments that become the variables of a row stand behind those that stand there already
bound_laid : (first : ℕ) (ks : List ℕ) (vs : List Value) (row set : Row ℕ) (front rest : List (Option Held)) →
    bound ks vs row ≡ Some set → length front ≡ first + length row → Laid first row (front ++ (map Some (map flat vs) ++ rest)) →
    Laid first set (front ++ (map Some (map flat vs) ++ rest))
bound_laid first [] [] row set front rest e many l = subst (λ r. Laid first r (front ++ rest)) (some_is e) l
bound_laid first [] (v ∷ vs) row set front rest e many l = absurd (cc)
bound_laid first (k ∷ ks) [] row set front rest e many l = absurd (cc)
bound_laid first (k ∷ ks) (v ∷ vs) row set front rest e many l =
    let more : List (Option Held) = map Some (map flat vs) ++ rest in
    let same : (front ++ Some (flat v) ∷ []) ++ more ≡ front ++ (Some (flat v) ∷ more) = append_assoc front (Some (flat v) ∷ []) more in
    let there : slice_get (front ++ (Some (flat v) ∷ more)) (first + length row) ≡ Some (Some (flat v)) =
    subst (λ n. slice_get (front ++ (Some (flat v) ∷ more)) n ≡ Some (Some (flat v))) many (at_front front (Some (flat v)) more) in
    subst (Laid first set) same
    (bound_laid first ks vs ((k, v) ∷ row) set (front ++ Some (flat v) ∷ []) rest e
    (length-append front (Some (flat v) ∷ []) ∙ one_further (length front) first (length row) many)
    (subst (Laid first ((k, v) ∷ row)) (sym same) (there, l)))

laid_first : (kind : MethodKind) → kind ≢ kinds.Main → (this : Option ℕ) → suits (runs_on_object kind) this ≡ true → (ks : List ℕ)
    (vs : List Value) (row : Row ℕ) (rest : List (Option Held)) → bound ks vs [] ≡ Some row →
    Laid (first_local kind) row (map Some (with_object this (map flat vs)) ++ rest)
laid_first kinds.Main n this e ks vs row rest b = absurd (n refl)
laid_first kinds.Static n None e ks vs row rest b = bound_laid 0 ks vs [] row [] rest b refl tt
laid_first kinds.Static n (Some o) e ks vs row rest b = absurd (cc)
laid_first kinds.Helper n None e ks vs row rest b = absurd (cc)
laid_first kinds.Helper n (Some o) e ks vs row rest b = bound_laid 1 ks vs [] row (Some (held.Object o) ∷ []) rest b refl tt
laid_first kinds.Protocol n None e ks vs row rest b = absurd (cc)
laid_first kinds.Protocol n (Some o) e ks vs row rest b = bound_laid 1 ks vs [] row (Some (held.Object o) ∷ []) rest b refl tt

object_first : (this : Option ℕ) (args : List Held) (rest : List (Option Held)) → LaidObject this (map Some (with_object this args) ++ rest)
object_first None args rest = tt
object_first (Some o) args rest = refl

module _ (p : Program) (ok : IsCore p) (k : Method) (is : IsMethod p k) (n : k.kind ≢ kinds.Main) (x : World) (this : Option ℕ)
    (vs : List Value) (on : suits (runs_on_object k.kind) this ≡ true) (fits : AllFit p x vs (param_types k)) where
  abbrev args : List Held
  args = with_object this (map flat vs)

  -- the object and the arguments have room in the locals
  pub args_fit : length args ≤ max_locals k
  args_fit =
      let taken : first_local k.kind + length (params_in_scope k) ≤ max_locals k = at_least_all (next_local k.kind (params_in_scope k))
      k.body in
      fit_by (length args) (length (map flat vs)) (first_local k.kind) (length (params_in_scope k)) k.params (max_locals k)
      (object_many k.kind n this on (map flat vs))
      (length-map vs flat
      ∙ count_args p x k (numbers_from 0 k.params) vs (param_types k) (have_types k [] k.slots k.params refl is.numbered.params) fits
      ∙ numbers_many 0 k.params)
      (length-reverse (numbers_from 0 k.params) ∙ numbers_many 0 k.params) taken

  abbrev unset : List (Option Held)
  unset = replicate (max_locals k - length args) None

  -- the first locals hold the row of the parameters
  pub row_first : (row : Row ℕ) → bound (numbers_from 0 k.params) vs [] ≡ Some row → HoldsRow k this row (first_locals k args)
  row_first row b = record {
    many = filled (length (first_locals k args)) (length args) (max_locals k - length args) (max_locals k)
        (length-append (map Some args) (replicate (max_locals k - length args) None)
        ∙ ap (λ j. j + length unset) (length-map args Some)
        ∙ ap (λ j. length args + j) (length-replicate (max_locals k - length args) None)) refl args_fit;
    laid = laid_first k.kind n this on (numbers_from 0 k.params) vs row (replicate (max_locals k - length args) None) b;
    object = λ i. object_first this (map flat vs) (replicate (max_locals k - length args) None);
  }

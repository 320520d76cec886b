-- A resolved program whose methods use nothing that is for the classes of roles alone.
use Rattle.std.proofs.Common.{◌≡◌, ℕ, Bool, true, false, true≢false, List, ◌++◌, Option, Some, None, refl, sym, ap, ◌∙◌, subst}
use Rattle.std.proofs.Common.{slice_get}
use Rattle.std.proofs.Common.{option_map}
use Rattle.std.specs.Prelude.{if◌then◌else◌}
use Rattle.std.specs.List.{AllByRecursion}
use Rattle.std.proofs.lemmas.Bool.{eqb-true}
use Rattle.mg_text.specs.declared.place.Place.{Place}
use Rattle.jv_core.specs.declared.program.CoreType.{CoreType}
use Rattle.jv_core.specs.declared.program.MethodKind.TheVariants as kinds
use Rattle.jv_core.specs.Tree.{Expr, Int, Truth, Text, Null, Variable, Constant, Neg, Not, Binary, Protocol, Helper, Static, Equals, Concat}
use Rattle.jv_core.specs.Tree.{Session, New, Exprs, NoExpr, Argument}
use Rattle.jv_core.specs.Tree.{Stmt, Block, Local, Assign, If, IfElse, While, Do, Switch, Return, Print, Eval}
use Rattle.jv_core.specs.Tree.{Stmts, NoStmt, Then, Declare, Groups, NoGroup, Group, Method, Program}
use Rattle.jv_core.specs.Lookup.{is_main}
use Rattle.jv_core.specs.Types as has
use Rattle.jv_core.specs.Types.{Has, HasAll}
use Rattle.jv_core.specs.Statements as fine
use Rattle.jv_core.specs.Statements.{Fine, FineAll, FineGroups, Target}
use Rattle.jv_names.proofs.Clean.{all_left, all_right}
use Rattle.fit_uses.specs.declared.usage.Use.{Use}
use Rattle.fit_uses.specs.declared.usage.Use.TheVariants.{Talks, Makes}
use Rattle.fit_uses.specs.Uses.{uses_of, uses_of_all, uses_of_value, uses_in, uses_in_all, uses_in_groups, returns, is_new_of}
use Rattle.fit_uses.specs.Uses.{uses_beside_making}

module _ (core : Program) (NoRole : (class : ℕ) → Type 0) where
  -- the method of this number is no `main`
  abbrev pub IsNoMain : ℕ → Type 0
  IsNoMain n = (k : Method) → slice_get core.methods n ≡ Some k → is_main k.kind ≡ false

  -- no method of `Session` is called, no object of a role's class is made, and no `main` is called
  abbrev mutual
    pub Calm : Expr → Type 0
    Calm (Neg p e) = Calm e
    Calm (Not p e) = Calm e
    Calm (Binary p op l r) = Calm l × Calm r
    Calm (Protocol p receiver method args) = CalmAll args
    Calm (Helper p method args) = CalmAll args
    Calm (Static p method args) = IsNoMain method × CalmAll args
    Calm (Equals p e a) = Calm e × Calm a
    Calm (Concat p e a) = Calm e × Calm a
    Calm (Session p call args) = ⊥
    Calm (New p class) = NoRole class
    Calm _ = Unit {0}

    pub CalmAll : Exprs → Type 0
    CalmAll NoExpr = Unit {0}
    CalmAll (Argument e rest) = Calm e × CalmAll rest

  abbrev pub CalmValue : Option Expr → Type 0
  CalmValue None = Unit {0}
  CalmValue (Some e) = Calm e

  abbrev mutual
    pub CalmIn : Stmt → Type 0
    CalmIn (Block p body end) = CalmInAll body
    CalmIn (Local p slot e) = Calm e
    CalmIn (Assign p target e) = Calm e
    CalmIn (If p e s) = Calm e × CalmIn s
    CalmIn (IfElse p e s r) = Calm e × CalmIn s × CalmIn r
    CalmIn (While p loop e s) = Calm e × CalmIn s
    CalmIn (Do p loop s e) = CalmIn s × Calm e
    CalmIn (Switch p e groups end) = Calm e × CalmInGroups groups
    CalmIn (Return p value) = CalmValue value
    CalmIn (Print p e) = Calm e
    CalmIn (Eval p e) = Calm e
    CalmIn _ = Unit {0}

    pub CalmInAll : Stmts → Type 0
    CalmInAll NoStmt = Unit {0}
    CalmInAll (Then s rest) = CalmIn s × CalmInAll rest
    CalmInAll (Declare p slot e scope) = Calm e × CalmInAll scope

    pub CalmInGroups : Groups → Type 0
    CalmInGroups NoGroup = Unit {0}
    CalmInGroups (Group labels body end rest) = CalmInAll body × CalmInGroups rest

  -- The first making of an object of a class, behind statements without `return`. All else is calm.
  pub data MakesIn (class : ℕ) : Stmts → Type 0 where
    it_makes : {p q : Place} {slot : ℕ} {scope : Stmts} → CalmInAll scope → MakesIn class (Declare p slot (New q class) scope)
    then_makes : {s : Stmt} {rest : Stmts} → returns s ≡ false → CalmIn s → MakesIn class rest → MakesIn class (Then s rest)
    declare_makes : {p : Place} {slot : ℕ} {e : Expr} {scope : Stmts} → Calm e → MakesIn class scope →
        MakesIn class (Declare p slot e scope)

  -- a use that may be anywhere
  abbrev pub IsFree : Use → Type 0
  IsFree (Talks p call) = ⊥
  IsFree (Makes p class) = NoRole class

  abbrev pub AreFree : List Use → Type 0
  AreFree uses = AllByRecursion IsFree uses

  left : (xs ys : List Use) → AreFree (xs ++ ys) → AreFree xs
  left xs ys h = all_left IsFree xs ys h

  right : (xs ys : List Use) → AreFree (xs ++ ys) → AreFree ys
  right xs ys h = all_right IsFree xs ys h

  module _ (m : Method) where
    no_main : (n : ℕ) (k : Method) → has.IsCalled core m n kinds.Static k → IsNoMain n
    no_main n k called other at =
        ap (λ (x : Method). is_main x.kind) (same (sym at ∙ called.at)) ∙ ap is_main called.kind_is
      where
        same : {a b : Method} → Some a ≡ Some b → a ≡ b
        same e = cc

    -- where both sides are calm
    both : (l r : Expr) → (AreFree (uses_of l) → Calm l) → (AreFree (uses_of r) → Calm r) → AreFree (uses_of l ++ uses_of r) →
        Calm l × Calm r
    both l r f g h = (f (left (uses_of l) (uses_of r) h), g (right (uses_of l) (uses_of r) h))

    mutual
      pub calm : {sc : List ℕ} (e : Expr) {t : CoreType} → Has core m sc e t → AreFree (uses_of e) → Calm e
      calm _ has.int h = tt
      calm _ has.truth h = tt
      calm _ has.text h = tt
      calm _ has.null h = tt
      calm _ (has.variable v) h = tt
      calm _ (has.constant d n) h = tt
      calm _ (has.negative {a = a} i) h = calm a i h
      calm _ (has.opposite {a = a} i) h = calm a i h
      calm _ (has.sum {a = a} {b = b} i k) h = both a b (calm a i) (calm b k) h
      calm _ (has.text_and {a = a} {b = b} i k shown) h = both a b (calm a i) (calm b k) h
      calm _ (has.and_text {a = a} {b = b} i shown k) h = both a b (calm a i) (calm b k) h
      calm _ (has.computed {a = a} {b = b} o i k) h = both a b (calm a i) (calm b k) h
      calm _ (has.ordered {a = a} {b = b} o i k) h = both a b (calm a i) (calm b k) h
      calm _ (has.logic {a = a} {b = b} o i k) h = both a b (calm a i) (calm b k) h
      calm _ (has.same {a = a} {b = b} o c i k) h = both a b (calm a i) (calm b k) h
      calm _ (has.is_null o v) h = (tt, tt)
      calm _ (has.null_is o v) h = (tt, tt)
      calm _ (has.protocol {args = args} v called all r own) h = calm_all args all h
      calm _ (has.helper {args = args} i called c all r) h = calm_all args all h
      calm _ (has.static {n = n} {k = k} {args = args} called all r) h = (no_main n k called, calm_all args all h)
      calm _ (has.equals {a = a} {b = b} i k own) h = both a b (calm a i) (calm b k) h
      calm _ (has.concat {a = a} {b = b} i k own) h = both a b (calm a i) (calm b k) h
      calm _ (has.session all r) h = h.0
      calm _ (has.new c) h = h.0

      calm_all : {sc : List ℕ} (args : Exprs) {ts : List CoreType} → HasAll core m sc args ts → AreFree (uses_of_all args) → CalmAll args
      calm_all _ has.no_args h = tt
      calm_all _ (has.arg {e = e} {more = rest} i all) h =
          (calm e i (left (uses_of e) (uses_of_all rest) h), calm_all rest all (right (uses_of e) (uses_of_all rest) h))

    calm_value : (sc : List ℕ) (value : Option Expr) → fine.MayReturn core m sc value → AreFree (uses_of_value value) → CalmValue value
    calm_value sc None may h = tt
    calm_value sc (Some e) may h = calm e may.1 h

    mutual
      pub calm_in : {sc : List ℕ} {ts : List Target} (s : Stmt) → Fine core m sc ts s → AreFree (uses_in s) → CalmIn s
      calm_in _ (fine.block {body = body} f) h = calm_in_all body f h
      calm_in _ fine.empty h = tt
      calm_in _ (fine.local {e = e} d) h = calm e d.value h
      calm_in _ (fine.assign {e = e} v i) h = calm e i h
      calm_in _ (fine.if_true {c = c} {s = s} i f) h =
          (calm c i (left (uses_of c) (uses_in s) h), calm_in s f (right (uses_of c) (uses_in s) h))
      calm_in _ (fine.if_else {c = c} {s = s} {r = r} i f g) h =
          let more = right (uses_of c) (uses_in s ++ uses_in r) h in (
            calm c i (left (uses_of c) (uses_in s ++ uses_in r) h),
            calm_in s f (left (uses_in s) (uses_in r) more),
            calm_in r g (right (uses_in s) (uses_in r) more),
          )
      calm_in _ (fine.while_true {c = c} {s = s} heads i f) h =
          (calm c i (left (uses_of c) (uses_in s) h), calm_in s f (right (uses_of c) (uses_in s) h))
      calm_in _ (fine.do_while {c = c} {s = s} heads f i) h =
          (calm_in s f (left (uses_in s) (uses_of c) h), calm c i (right (uses_in s) (uses_of c) h))
      calm_in _ (fine.switch {e = e} {gs = gs} i cases f) h =
          (calm e i (left (uses_of e) (uses_in_groups gs) h), calm_in_groups gs f (right (uses_of e) (uses_in_groups gs) h))
      calm_in _ (fine.break may) h = tt
      calm_in _ (fine.continue may) h = tt
      calm_in _ (fine.return {sc = sc} {value = value} may) h = calm_value sc value may h
      calm_in _ (fine.print {e = e} i shown) h = calm e i h
      calm_in _ (fine.eval {e = e} i) h = calm e i h

      pub calm_in_all : {sc : List ℕ} {ts : List Target} (ss : Stmts) → FineAll core m sc ts ss → AreFree (uses_in_all ss) → CalmInAll ss
      calm_in_all _ fine.no_stmt h = tt
      calm_in_all _ (fine.then {s = s} {more = rest} f g) h =
          (calm_in s f (left (uses_in s) (uses_in_all rest) h), calm_in_all rest g (right (uses_in s) (uses_in_all rest) h))
      calm_in_all _ (fine.declare {e = e} {more = rest} d g) h =
          (calm e d.value (left (uses_of e) (uses_in_all rest) h), calm_in_all rest g (right (uses_of e) (uses_in_all rest) h))

      calm_in_groups : {sc : List ℕ} {ts : List Target} (gs : Groups) → FineGroups core m sc ts gs → AreFree (uses_in_groups gs) →
          CalmInGroups gs
      calm_in_groups _ fine.no_group h = tt
      calm_in_groups _ (fine.group {body = body} {more = rest} f g) h = (
        calm_in_all body f (left (uses_in_all body) (uses_in_groups rest) h),
        calm_in_groups rest g (right (uses_in_all body) (uses_in_groups rest) h),
      )

    -- ---- the making

    new_is : (class : ℕ) (e : Expr) → is_new_of class e ≡ true → (q : Place) × (e ≡ New q class)
    new_is class (New q c) h = (q, ap (New q) (eqb-true c class h))
    new_is class (Int p z) h = absurd (true≢false (sym h))
    new_is class (Truth p b) h = absurd (true≢false (sym h))
    new_is class (Text p t) h = absurd (true≢false (sym h))
    new_is class (Null p) h = absurd (true≢false (sym h))
    new_is class (Variable p x) h = absurd (true≢false (sym h))
    new_is class (Constant p e n) h = absurd (true≢false (sym h))
    new_is class (Neg p e) h = absurd (true≢false (sym h))
    new_is class (Not p e) h = absurd (true≢false (sym h))
    new_is class (Binary p op l r) h = absurd (true≢false (sym h))
    new_is class (Protocol p x n args) h = absurd (true≢false (sym h))
    new_is class (Helper p n args) h = absurd (true≢false (sym h))
    new_is class (Static p n args) h = absurd (true≢false (sym h))
    new_is class (Equals p l r) h = absurd (true≢false (sym h))
    new_is class (Concat p l r) h = absurd (true≢false (sym h))
    new_is class (Session p c args) h = absurd (true≢false (sym h))

    -- uses of the rest, and those before it
    record Split (front : List Use) (rest : Option (List Use)) : Type 0 where
      uses : List Use
      is : rest ≡ Some uses
      free_front : AreFree front
      free : AreFree uses

    split : (front : List Use) (rest : Option (List Use)) (us : List Use) → option_map (λ uses. front ++ uses) rest ≡ Some us →
        AreFree us → Split front rest
    split front None us e h = absurd (cc)
    split front (Some uses) us e h =
        let all : AreFree (front ++ uses) = subst AreFree (sym (same e)) h in
        record { uses = uses; is = refl; free_front = left front uses all; free = right front uses all }
      where
        same : {a b : List Use} → Some a ≡ Some b → a ≡ b
        same e = cc

    pub making : (class : ℕ) {sc : List ℕ} {ts : List Target} (ss : Stmts) → FineAll core m sc ts ss → (us : List Use) →
        uses_beside_making class ss ≡ Some us → AreFree us → MakesIn class ss
    making class _ fine.no_stmt us e h = absurd (cc)
    making class _ (fine.then {s = s} {more = rest} f g) us e h =
        go (returns s) refl e (λ us. making class rest g us)
      where
        go : (b : Bool) → returns s ≡ b →
            (if b then None else option_map (λ uses. uses_in s ++ uses) (uses_beside_making class rest)) ≡ Some us →
            ((us : List Use) → uses_beside_making class rest ≡ Some us → AreFree us → MakesIn class rest) → MakesIn class (Then s rest)
        go true is e more = absurd (cc)
        go false is e more =
            let k = split (uses_in s) (uses_beside_making class rest) us e h in
            then_makes is (calm_in s f k.free_front) (more k.uses k.is k.free)
    making class _ (fine.declare {q = q} {k = slot} {e = value} {more = rest} d g) us e h =
        go (is_new_of class value) refl e (λ us. making class rest g us)
      where
        same : {a b : List Use} → Some a ≡ Some b → a ≡ b
        same e = cc

        go : (b : Bool) → is_new_of class value ≡ b →
            (if b then Some (uses_in_all rest) else option_map (λ uses. uses_of value ++ uses) (uses_beside_making class rest)) ≡ Some us →
            ((us : List Use) → uses_beside_making class rest ≡ Some us → AreFree us → MakesIn class rest) →
            MakesIn class (Declare q slot value rest)
        go true is e more =
            let n = new_is class value is in
            subst (λ v. MakesIn class (Declare q slot v rest)) (sym n.1)
            (it_makes (calm_in_all rest g (subst AreFree (sym (same e)) h)))
        go false is e more =
            let k = split (uses_of value) (uses_beside_making class rest) us e h in
            declare_makes (calm value d.value k.free_front) (more k.uses k.is k.free)

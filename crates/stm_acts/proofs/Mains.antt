-- A `main` that makes one object of a role's class: none is there before, and behind it there is this one alone.
use Rattle.std.proofs.Common.{◌≡◌, ◌⊎◌, inl, inr, ⊎_elim, ℕ, Bool, true, false, List, [], ◌∷◌, ◌++◌, length, Option, Some, None, refl}
use Rattle.std.proofs.Common.{sym, ap}
use Rattle.std.proofs.Common.{subst, eqb}
use Rattle.std.specs.Prelude.{◌≢◌, if◌then◌else◌, find, cond, ◌==◌, option_map, option_and_then}
use Rattle.std.specs.List.{AllByRecursion}
use Rattle.std.proofs.lemmas.Bool.{eq-eqb, eqb-true}
use Rattle.mg_text.specs.Call.{Name}
use Rattle.mg_text.specs.declared.event.Event.{Event}
use Rattle.mg_text.specs.declared.event.Event.TheVariants as seen
use Rattle.mg_text.specs.declared.place.Place.{Place}
use Rattle.ts_tree.specs.declared.parts.TypeName.{TypeName}
use Rattle.jv_tree.specs.Source.{New, Stmt, Block, Empty, Local, Assign, If, IfElse, While, Do, Switch, Break, Continue, Return, Print}
use Rattle.jv_tree.specs.Source.{Eval, Stmts, Then, Method, Class}
use Rattle.jv_values.specs.Values.{Value, Row, Instance, Ended, Finish, Wrong, Shared, Lives, Here, bound}
use Rattle.jv_values.specs.Values as values
use Rattle.jv_values.specs.Doing.{Outcome, Gives, Ends, and_then, ◌>>=◌, stop, found, valued, valuing, within, declared, uncovered}
use Rattle.jv_values.specs.Objects.{make}
use Rattle.jv_values.specs.Statements.{Completion, Normal, Breaks, Continues, Returns, Does, next_do}
use Rattle.jv_values.specs.Budget.{below, ended}
use Rattle.jv_values.specs.Calls.{called, suits, body_from, result, returned}
use Rattle.jv_values.specs.Seen.{IsMade}
use Rattle.jv_meaning.specs.Program.{class_named}
use Rattle.jv_meaning.specs.Names.{method_in, is_main, new_fields}
use Rattle.jv_meaning.specs.Meaning.{Lower, value, exec, exec_all, language, mean}
use Rattle.stm_acts.specs.Played.{role_class}
use Rattle.stm_acts.specs.Calm.{Scope, declare, behind_it, scope_of, EveryIn, EveryInAll, NoReturn}
use Rattle.stm_acts.proofs.Straight.{GoesOn, Turns, straight, turns_straight}
use Rattle.stm_acts.proofs.Stage.{Part, Stage, Asked}
use Rattle.stm_acts.proofs.Keeping.{names, Inv, Over, Stops, Stays, stopped, stops_at, made_now, declared_done, some_is}
use Rattle.stm_acts.proofs.Programs.{scope_at, bound_names, suits_so, begins_at, Lows, lows, begun, value_q, exec_q, all_q}

module _ (st : Stage) (r : Part st.j) (is_role : st.role_of (role_class r.me) ≡ Some r) where
  abbrev pub role : Name
  role = role_class r.me

  -- a local gets an object of the role's class, behind statements that hold no `return`
  pub data Starts : Scope → Stmts → Type 0 where
    here_so : {sc : Scope} {p at : Place} {ty : TypeName} {x : Name} {rest : Stmts} → EveryInAll (Asked st) (declare x sc) rest →
        Starts sc (Then (Local p ty x (New at role)) rest)
    behind_so : {sc : Scope} {s : Stmt} {rest : Stmts} → NoReturn s → EveryIn (Asked st) sc s → Starts (behind_it s sc) rest →
        Starts sc (Then s rest)

  -- one object is known to be of the role's class, or none is
  abbrev pub only : ℕ → ℕ → Option Name
  only o p = if p == o then Some role else None

  abbrev pub nothing : ℕ → Option Name
  nothing p = None

  abbrev Left : Finish → List Event → Type 0
  Left f es = Over st nothing f es ⊎ ((o : ℕ) × Over st (only o) f es)

  -- it leaves a loop or switch that isn't there
  abbrev IsExit : Completion Name → Type 0
  IsExit (Breaks l) = Unit {0}
  IsExit (Continues l) = Unit {0}
  IsExit _ = ⊥

  abbrev Main : Outcome (Lives Name) (Completion Name) → Type 0
  Main (Gives c t) = ((o : ℕ) × Inv st (only o) t.shared) ⊎ (IsExit c × Inv st nothing t.shared)
  Main (Ends f es) = Left f es

  from_only : (o : ℕ) (ns : List Name) (x : Outcome (Lives Name) (Completion Name)) → Stays st (only o) ns x → Main x
  from_only o ns (Gives c t) i = inl (o, i.0)
  from_only o ns (Ends f es) w = inr (o, w)

  uncover : (x : Outcome (Lives Name) (Completion Name)) → Main x → Main (uncovered x)
  uncover (Gives c t) i = i
  uncover (Ends f es) w = w

  self : (o : ℕ) → only o o ≡ Some role
  self o = ap (λ (b : Bool). if b then Some role else None) (eq-eqb o o refl)

  is_only : (o p : ℕ) (c : Name) → only o p ≡ Some c → (p ≡ o) × (c ≡ role)
  is_only o p c = go (eqb p o) refl
    where
      go : (b : Bool) → eqb p o ≡ b → (if b then Some role else None) ≡ Some c → (p ≡ o) × (c ≡ role)
      go true e f = (eqb-true p o e, sym (some_is f))
      go false e f = absurd (cc)

  nothing_is : {A : Type 0} {x : A} → None ≡ Some x → ⊥
  nothing_is e = cc

  made_role : (s : Shared) → Inv st nothing s →
      Inv st (only (length s.heap)) (record {
        heap = s.heap ++ record { class = role; fields = [] } ∷ [];
        events = s.events ++ seen.Made (length s.heap) role ∷ [];
      })
  made_role s i = made_now st (record { class = role; fields = [] }) (only (length s.heap)) s i (λ few. inr (self (length s.heap)))
      (λ p c e. inr (is_only (length s.heap) p c e))
      (λ few p c e. ⊎_elim inl (λ f. absurd (nothing_is f)) (i.few few p c e))

  module _ (low : Lower) (b : Lows st low) (turns : Turns st.j st.inputs low) (here : Here Name) (none : st.role_of here.class ≡ None) where
    abbrev all : Stmts → Does Name
    all ss = exec_all st.j st.inputs low here ss

    -- a statement, and what stands behind it
    then_main : (ns : List Name) (s : Stmt) → NoReturn s → EveryIn (Asked st) (scope_at here ns) s → (rest : Stmts) →
        ((t : Lives Name) → Inv st nothing t.shared → names t.locals ≡ ns → Main (all rest t)) →
        (t : Lives Name) → Inv st nothing t.shared → names t.locals ≡ ns →
        Main (and_then (exec st.j st.inputs low here s t) (next_do (all rest)))
    then_main ns s none_in h rest next t i e =
        go (exec st.j st.inputs low here s t) ((exec_q st low b here none ns s h).by nothing t i e)
        ((straight st.j st.inputs low turns here s none_in).on t)
      where
        go : (x : Outcome (Lives Name) (Completion Name)) → Stays st nothing ns x → GoesOn x → Main (and_then x (next_do (all rest)))
        go (Gives Normal u) i n = next u i.0 i.1
        go (Gives (Breaks l) u) i n = inr (tt, i.0)
        go (Gives (Continues l) u) i n = inr (tt, i.0)
        go (Gives (Returns v) u) i n = absurd n
        go (Ends f es) w n = inl w

    main_q : (ns : List Name) (ss : Stmts) → Starts (scope_at here ns) ss → (s : Lives Name) → Inv st nothing s.shared →
        names s.locals ≡ ns → Main (all ss s)
    main_q ns _ (here_so {x = x} {rest = rest} h) s i e =
        subst (λ (k : Option Class). Main ((within (λ locals. valued (found k >>= λ k. found (new_fields st.j k.fields) >>= λ row.
        valuing (make (record { class = role; fields = row })))) >>= λ v. declared x v (all rest)) s)) (sym r.class)
        (from_only (length s.shared.heap) ns _
        ((declared_done st x (values.Object (length s.shared.heap)) (all_q st low b here none (x ∷ ns) rest h)).by
        (only (length s.shared.heap))
        (record {
          locals = s.locals;
          shared = record {
            heap = s.shared.heap ++ record { class = role; fields = [] } ∷ [];
            events = s.shared.events ++ seen.Made (length s.shared.heap) role ∷ [];
          };
        }) (made_role s.shared i) e))
    main_q ns _ (behind_so {s = Local p ty x e} {rest = rest} none_in h more) s i is =
        go (main_q (x ∷ ns) rest more) (value st.j st.inputs low here e s) ((value_q st low b here none {ns = ns} e h).by nothing s i is)
      where
        go : ((s : Lives Name) → Inv st nothing s.shared → names s.locals ≡ x ∷ ns → Main (all rest s)) →
            (y : Outcome (Lives Name) Value) → Stays st nothing ns y → Main (and_then y (λ v. declared x v (all rest)))
        go next (Gives v t) i = uncover _ (next (record { locals = (x, v) ∷ t.locals; shared = t.shared }) i.0 (ap (λ l. x ∷ l) i.1))
        go next (Ends f es) w = inl w
    main_q ns _ (behind_so {s = Block p body end} {rest = rest} none_in h more) s i is =
        then_main ns (Block p body end) none_in h rest (main_q ns rest more) s i is
    main_q ns _ (behind_so {s = Empty p} {rest = rest} none_in h more) s i is =
        then_main ns (Empty p) none_in h rest (main_q ns rest more) s i is
    main_q ns _ (behind_so {s = Assign p target e} {rest = rest} none_in h more) s i is =
        then_main ns (Assign p target e) none_in h rest (main_q ns rest more) s i is
    main_q ns _ (behind_so {s = If p e t} {rest = rest} none_in h more) s i is =
        then_main ns (If p e t) none_in h rest (main_q ns rest more) s i is
    main_q ns _ (behind_so {s = IfElse p e t u} {rest = rest} none_in h more) s i is =
        then_main ns (IfElse p e t u) none_in h rest (main_q ns rest more) s i is
    main_q ns _ (behind_so {s = While p l e t} {rest = rest} none_in h more) s i is =
        then_main ns (While p l e t) none_in h rest (main_q ns rest more) s i is
    main_q ns _ (behind_so {s = Do p l t e} {rest = rest} none_in h more) s i is =
        then_main ns (Do p l t e) none_in h rest (main_q ns rest more) s i is
    main_q ns _ (behind_so {s = Switch p e groups end} {rest = rest} none_in h more) s i is =
        then_main ns (Switch p e groups end) none_in h rest (main_q ns rest more) s i is
    main_q ns _ (behind_so {s = Break p l} {rest = rest} none_in h more) s i is =
        then_main ns (Break p l) none_in h rest (main_q ns rest more) s i is
    main_q ns _ (behind_so {s = Continue p l} {rest = rest} none_in h more) s i is =
        then_main ns (Continue p l) none_in h rest (main_q ns rest more) s i is
    main_q ns _ (behind_so {s = Return p None} {rest = rest} none_in h more) s i is =
        then_main ns (Return p None) none_in h rest (main_q ns rest more) s i is
    main_q ns _ (behind_so {s = Return p (Some e)} {rest = rest} none_in h more) s i is =
        then_main ns (Return p (Some e)) none_in h rest (main_q ns rest more) s i is
    main_q ns _ (behind_so {s = Print p e} {rest = rest} none_in h more) s i is =
        then_main ns (Print p e) none_in h rest (main_q ns rest more) s i is
    main_q ns _ (behind_so {s = Eval p e} {rest = rest} none_in h more) s i is =
        then_main ns (Eval p e) none_in h rest (main_q ns rest more) s i is

  -- ---- the call of a `main`

  abbrev MainCall : Outcome Shared (Option Value) → Type 0
  MainCall (Gives v s) = (o : ℕ) × Inv st (only o) s
  MainCall (Ends f es) = Left f es

  -- it is a `main` of this class
  abbrev StartsIn : (class : Name) → Option Method → Type 0
  StartsIn c None = Unit {0}
  StartsIn c (Some m) = (is_main m ≡ true) × Starts (scope_of c m) m.body

  found_start : (c : Name) (ms : List Method) → AllByRecursion (λ (m : Method). is_main m ≡ true → Starts (scope_of c m) m.body) ms →
      StartsIn c (find is_main ms)
  found_start c [] h = tt
  found_start c (m ∷ ms) h = go (is_main m) refl (find is_main ms) (found_start c ms h.1)
    where
      go : (b : Bool) → is_main m ≡ b → (x : Option Method) → StartsIn c x → StartsIn c (cond b (Some m) x)
      go true e x k = (e, h.0 e)
      go false e x k = k

  result_so : (has : Bool) (x : Outcome (Lives Name) (Completion Name)) → Main x → MainCall (result has x)
  result_so has (Ends f es) w = w
  result_so has (Gives c t) (inr (exit, i)) = exits has c exit
    where
      exits : (has : Bool) (c : Completion Name) → IsExit c → MainCall (found (returned has c) t.shared)
      exits has Normal e = absurd e
      exits true (Breaks l) e = inl (stopped st Wrong (λ c. tt) i)
      exits false (Breaks l) e = inl (stopped st Wrong (λ c. tt) i)
      exits true (Continues l) e = inl (stopped st Wrong (λ c. tt) i)
      exits false (Continues l) e = inl (stopped st Wrong (λ c. tt) i)
      exits has (Returns v) e = absurd e
  result_so has (Gives c t) (inl (o, i)) = go (returned has c)
    where
      go : (v : Option (Option Value)) → MainCall (found v t.shared)
      go None = inr (o, stopped st Wrong (λ c. tt) i)
      go (Some v) = (o, i)

  main_so : (n : ℕ) (c : Name) → st.role_of c ≡ None → (x : Option Method) → StartsIn c x → (s : Shared) → Inv st nothing s →
      MainCall (called (exec st.j st.inputs (below (language st.j st.inputs) n)) (option_map (method_in c) x) None [] s)
  main_so n c none None h s i = inl (stopped st Wrong (λ c. tt) i)
  main_so n c none (Some m) h s i = go (bound (method_in c m).params [] []) refl (suits (method_in c m).on_object None) refl
    where
      go : (row : Option (Row Name)) → bound (method_in c m).params [] [] ≡ row → (b : Bool) → suits (method_in c m).on_object None ≡ b →
          MainCall ((found row >>= λ row. if b
          then body_from (method_in c m).has_result row (exec st.j st.inputs (below (language st.j st.inputs) n)
          (record { class = c; object = None }) (method_in c m).body) else stop Wrong) s)
      go None e b f = inl (stopped st Wrong (λ c. tt) i)
      go (Some row) e false f = inl (stopped st Wrong (λ c. tt) i)
      go (Some row) e true f = result_so (method_in c m).has_result _
          (main_q (below (language st.j st.inputs) n) (lows st n) (turns_straight st.j st.inputs n)
          (record { class = c; object = None }) none
          (names row) m.body
          (subst (λ sc. Starts sc m.body)
          (begins_at c m None row (bound_names m.params [] [] row e) (suits_so (method_in c m).on_object None f)) h.1)
          (record { locals = row; shared = s }) i refl)

  -- how a run of a `main` stands at its end: no object of a role's class is known, or this one is
  pub data Once (run : Ended) : Type 0 where
    none_made : run.finish ≢ values.Done → Stops st nothing run.finish run.events → Once run
    one_made : (o : ℕ) → Stops st (only o) run.finish run.events → Once run

  -- which objects these are
  pub nobody : st.Few → {f : Finish} {es : List Event} → Stops st nothing f es → (p : ℕ) (c : Name) → IsMade es p c → st.role_of c ≡ None
  nobody few w p c m = ⊎_elim (λ n. n) (λ e. absurd (nothing_is e)) (w.few few p c m)

  pub it_alone : st.Few → (o : ℕ) {f : Finish} {es : List Event} → Stops st (only o) f es → (p : ℕ) (c : Name) → IsMade es p c →
      (st.role_of c ≡ None) ⊎ (p ≡ o)
  it_alone few o w p c m = ⊎_elim inl (λ e. inr (is_only o p c e).0) (w.few few p c m)

  pub made_it : (o : ℕ) {f : Finish} {es : List Event} → Stops st (only o) f es → IsMade es o role
  made_it o w = w.has o role (self o)

  pub once_so : st.Calm → (class : Name) → st.role_of class ≡ None →
      ((c : Class) → class_named st.j class ≡ Some c →
      AllByRecursion (λ (m : Method). is_main m ≡ true → Starts (scope_of class m) m.body) c.methods) →
      (budget : ℕ) → Once (mean st.j class st.inputs budget)
  once_so calm class none starts budget = class_so (class_named st.j class) refl
    where
      over : (x : Outcome Shared (Option Value)) → MainCall x → Once (ended x)
      over (Gives v s) (o, i) = one_made o (stops_at st values.Done (λ c. tt) i)
      over (Ends f es) (inl w) = none_made (w.0 calm) w.1
      over (Ends f es) (inr (o, w)) = one_made o w.1

      class_so : (x : Option Class) → class_named st.j class ≡ x →
          Once (ended (called (exec st.j st.inputs (below (language st.j st.inputs) budget))
          (option_map (method_in class) (option_and_then (λ k. find is_main k.methods) (class_named st.j class))) None []
          (record { heap = []; events = [] })))
      class_so None e = over _ (subst (λ k. MainCall (called (exec st.j st.inputs (below (language st.j st.inputs) budget))
          (option_map (method_in class) (option_and_then (λ (k : Class). find is_main k.methods) k)) None []
          (record { heap = []; events = [] }))) (sym e) (main_so budget class none None tt (record { heap = []; events = [] }) (begun st)))
      class_so (Some c) e = over _ (subst (λ k. MainCall (called (exec st.j st.inputs (below (language st.j st.inputs) budget))
          (option_map (method_in class) (option_and_then (λ (k : Class). find is_main k.methods) k)) None []
          (record { heap = []; events = [] }))) (sym e)
          (main_so budget class none (find is_main c.methods) (found_start class c.methods (starts c e)) (record { heap = []; events = [] })
          (begun st)))

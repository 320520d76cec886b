-- Statements that give a value away: assignments, returns, and what is printed or left.
use Rattle.std.proofs.Common.{◌≡◌, ℕ, zero, suc, ◌+◌, ◌<◌, Bool, true, List, [], ◌∷◌, ◌++◌, length, Option, Some}
use Rattle.std.proofs.Common.{None, refl, sym, ap, ◌∙◌, subst, inl, ⊎_elim, slice_get}
use Rattle.std.specs.Prelude.{◌⊎◌, option_map, option_and_then}
use Rattle.mg_text.specs.Call.{Name}
use Rattle.mg_text.specs.declared.place.Place.{Place}
use Rattle.mg_sets.specs.Sets.{has}
use Rattle.ts_tree.specs.Calls.{led_by}
use Rattle.jv_values.specs.Values.{Value, Row, Shared, Lives, Inputs, Here}
use Rattle.jv_values.specs.Values as values
use Rattle.jv_values.specs.Doing.{Outcome, Gives, Ends, and_then, ◌>>=◌, give, found, kept, within, valued}
use Rattle.jv_values.specs.Operators.{print}
use Rattle.jv_values.specs.Objects.{answer_of}
use Rattle.jv_values.specs.Seen.{label_in}
use Rattle.jv_values.specs.Statements.{Completion, Normal, Returns}
use Rattle.jv_core.specs.declared.tree.Var.{Var}
use Rattle.jv_core.specs.declared.tree.Var.TheVariants as vars
use Rattle.jv_tree.specs.declared.built_in.SessionCall.{SessionCall}
use Rattle.jv_tree.specs.declared.built_in.SessionCall.TheVariants as session_calls
use Rattle.jv_core.specs.declared.program.CoreType.{CoreType}
use Rattle.jv_core.specs.declared.program.CoreType.TheVariants as types
use Rattle.jv_core.specs.Tree.{Program, Method, Slot, Enum, Expr, Variable, Protocol, Helper, Static, Session, New}
use Rattle.jv_core.specs.Tree.{Constant}
use Rattle.jv_core.specs.Lookup.{text_at, slot_type, variable_type, IsInstance}
use Rattle.jv_core.specs.Types.{Has, IsVariable, CallsHelper}
use Rattle.jv_core.specs.Types as typing
use Rattle.jv_core.specs.Statements.{Target as Around}
use Rattle.jv_core.specs.Conditions.{IsCore}
use Rattle.jv_core.specs.Calls.{constants_of}
use Rattle.jv_core.specs.Meaning.{Lower, eval, value, write}
use Rattle.use_rules.specs.declared.key.Context.{Context}
use Rattle.use_rules.specs.declared.demand.DemandKind.TheVariants as demands
use Rattle.use_rules.specs.Elements.{Set, if_open}
use Rattle.use_rules.specs.Keys.{Tables, AreReached, contexts_in, method_in, class_in, typestate_of}
use Rattle.use_rules.specs.State.{Now, Log, Flow, set_of, with_set, joined, asks}
use Rattle.use_rules.specs.Flow as rules
use Rattle.use_rules.specs.Flow.{Evaluated, after, flow}
use Rattle.use_rules.specs.Tables.{Solves}
use Rattle.use_rules.specs.inner.Order.{Mem, NowIn}
use Rattle.use_rules.proofs.Members.{within_refl}
use Rattle.use_rules.proofs.Orders.{now_refl, now_trans, joined_left, log_refl}
use Rattle.use_kept.proofs.Roots as roots
use Rattle.use_kept.proofs.Roots.{Root, Held, Onto, onto_then, to_front, Within, MayGo, may_go, may_stay, IsConstant}
use Rattle.use_kept.proofs.Worlds.{holds_onto}
use Rattle.use_kept.proofs.Quiets.{Quiet, quiet_in, none_asked, before_asks}
use Rattle.use_kept.proofs.Frames.{Me, Nobody, IsScope, held_by, variables, my_self, type_or_void}
use Rattle.use_kept.proofs.Running.{Good, good_then, good_as, At, at_in, at_rest, loose, given, Result, plainly_at, side}
use Rattle.use_kept.proofs.Running.{side_after}
use Rattle.use_kept.proofs.Operators.{print_plain}
use Rattle.use_kept.proofs.Reading.{here_of}
use Rattle.use_kept.proofs.Moving.{no_state}
use Rattle.use_kept.proofs.Calling.{CallsWell}
use Rattle.use_kept.proofs.Operands.{asked_none}
use Rattle.use_kept.proofs.Passing as passing
use Rattle.use_kept.proofs.Expressions as exprs
use Rattle.use_kept.proofs.Living as living
use Rattle.use_kept.proofs.Living.{Lv, lv_in, lv_rest, Left, Setting}
use Rattle.use_kept.proofs.Leaving as leave
use Rattle.use_kept.proofs.Assigning as assigning
use Rattle.use_kept.proofs.Completing.{PO}
use Rattle.use_kept.proofs.Switching.{by_constant, mapped_at, get_below}

module _ (p : Program) (ok : IsCore p) (reached : List (List Bool)) (rok : AreReached p reached) (t : Tables) (solves : Solves p reached t)
    (inputs : Inputs)
    (low : Lower) (well : CallsWell p reached t low) (n : ℕ) (m : Method) (at_method : slice_get p.methods n ≡ Some m) (cx : Context)
    (me : Me) (on : IsInstance m.kind → me ≡ Nobody → ⊥) (setting : Setting p n m cx me) where
  abbrev cs : List Context
  cs = contexts_in p reached

  abbrev here : Here ℕ
  here = here_of p t ok inputs low n m me

  abbrev L : List ℕ → Now → List Root → Lives ℕ → Type 0
  L sc now rest s = Lv p reached t m cx me sc now rest s

  abbrev P : (sc out : List ℕ) → List Around → Flow → List Root → Completion ℕ → Lives ℕ → Type 0
  P sc out ts f rest c s = PO p reached t m cx me sc out ts f rest c s

  abbrev E : ℕ → Expr → Now → Log → Evaluated
  E w e now log = rules.eval p cs cx m t w e now log

  abbrev VR : CoreType → Set → Value → Root
  VR ty S u = Held (record { ty = ty; set = S; value = u })

  unreached : {A : Type 0} (sc : List ℕ) (rest : List Root) (s : Lives ℕ) → L sc None rest s → A
  unreached sc rest s l = absurd l.at

  -- an assignment
  abbrev assign_flow : Var → Place → Set → Log → Now → Flow
  assign_flow y place S log now = elim now as (λ _. Flow) [
    | None ↦ flow None [] log
    | Some sets ↦ flow (Some (with_set sets (rules.variable_at p cs cx m y) S)) []
        (asks (rules.judged_variable p cs cx m (rules.open_rule p cs cx m demands.Overwritten y) place y sets) log)
  ]

  assign_log : (y : Var) (place : Place) (S : Set) (log : Log) (now : Now) → Quiet t ((assign_flow y place S log now).log) → Quiet t log
  assign_log y place S log None h = h
  assign_log y place S log (Some sets) h = before_asks t _ log h

  assign_done : (sc out : List ℕ) (ts : List Around) (y : Var) (place : Place) (ty : CoreType) (S : Set) (log : Log) (now : Now)
      (rest : List Root) (u : Value) (s : Lives ℕ) → IsScope m sc → variable_type p m y ≡ Some ty →
      Quiet t ((assign_flow y place S log now).log) → L sc now (VR ty S u ∷ rest) s →
      Good p t (P sc out ts (assign_flow y place S log now) rest) (write p inputs low n here y u s)
  assign_done sc out ts y place ty S log None rest u s scope typed q l = unreached sc _ s l
  assign_done sc out ts (vars.Slot k) place ty S log (Some sets) rest u s scope typed q l =
      good_as p t (assigning.NormalTo p ok reached rok t solves inputs low well n m at_method cx me on sc (with_set sets k S) rest)
      (P sc out ts (assign_flow (vars.Slot k) place S log (Some sets)) rest) (write p inputs low n here (vars.Slot k) u s)
      (assigning.assign_slot p ok reached rok t solves inputs low well n m at_method cx me on sc k ty u S sets rest s scope typed
      (subst (λ o. MayGo p t (type_or_void o) (set_of sets k)) typed (no_state p t demands.Overwritten (slot_type m k) cs cx m
      (set_of sets k) (asked_none p ok t m me s.locals cs cx (rules.open_rule p cs cx m demands.Overwritten (vars.Slot k)) place
      (vars.Slot k) sets (none_asked t _ log q)))) l)
      (λ c s' h. subst (λ c. P sc out ts (assign_flow (vars.Slot k) place S log (Some sets)) rest c s') (sym h.0) h.1)
  assign_done sc out ts (vars.Field f) place ty S log (Some sets) rest u s scope typed q l =
      good_as p t (assigning.NormalTo p ok reached rok t solves inputs low well n m at_method cx me on sc
      (with_set sets (length m.slots + f) S) rest) (P sc out ts (assign_flow (vars.Field f) place S log (Some sets)) rest)
      (write p inputs low n here (vars.Field f) u s)
      (assigning.assign_field p ok reached rok t solves inputs low well n m at_method cx me on sc f ty u S sets rest s scope typed
      (subst (λ o. MayGo p t (type_or_void o) (set_of sets (length m.slots + f))) typed
      (no_state p t demands.Overwritten (variable_type p m (vars.Field f)) cs cx m (set_of sets (length m.slots + f))
      (asked_none p ok t m me s.locals cs cx (rules.open_rule p cs cx m demands.Overwritten (vars.Field f)) place (vars.Field f) sets
      (none_asked t _ log q)))) l)
      (λ c s' h. subst (λ c. P sc out ts (assign_flow (vars.Field f) place S log (Some sets)) rest c s') (sym h.0) h.1)

  pub assign_good : (sc out : List ℕ) (ts : List Around) (y : Var) (place : Place) (e : Expr) (ty : CoreType) (now : Now) (log : Log)
      (rest : List Root) (s : Lives ℕ) → IsScope m sc → IsVariable p m sc y ty → Has p m sc e ty →
      Quiet t ((assign_flow y place (E (rules.variable_width p cs cx m y) e now log).set
      (E (rules.variable_width p cs cx m y) e now log).log (after (E (rules.variable_width p cs cx m y) e now log))).log) →
      L sc now rest s →
      Good p t (P sc out ts (assign_flow y place (E (rules.variable_width p cs cx m y) e now log).set
      (E (rules.variable_width p cs cx m y) e now log).log (after (E (rules.variable_width p cs cx m y) e now log))) rest)
      ((value p inputs low n here e >>= write p inputs low n here y) s)
  assign_good sc out ts y place e ty now log rest s scope var h q l =
      let w = rules.variable_width p cs cx m y in
      let v = E w e now log in
      good_then p t (λ u s. L sc (after v) (VR ty (loose p t w v.set) u ∷ rest) s) (P sc out ts (assign_flow y place v.set v.log (after v))
      rest) (value p inputs low n here e s) (write p inputs low n here y)
      (living.value_behind p ok reached rok t solves inputs low well n m at_method cx me on sc scope h w now log
      (assign_log y place v.set v.log (after v) q) rest s l)
      (λ u s1 l1. assign_done sc out ts y place ty v.set v.log (after v) rest u s1 scope var.type q
      (lv_rest p reached t m cx me sc (after v) (VR ty (loose p t w v.set) u ∷ rest) (VR ty v.set u ∷ rest) s1
      (roots.widen p t ty (loose p t w v.set) v.set u rest
      (subst (λ o. Within p t ty (loose p t (rules.width_of p cs cx m (rules.type_or_void p cs cx m o)) v.set) v.set) (sym var.type)
      (passing.tight_one p ok reached rok t solves inputs low well n m at_method cx me on sc s.locals scope l.scoped ty v.set))) l1))

  -- a value that is dropped
  loose_goes : (ty : CoreType) (S : Set) → MayGo p t ty S → MayGo p t ty (loose p t 0 S)
  loose_goes types.Void S h = tt
  loose_goes types.Int S h = tt
  loose_goes types.Boolean S h = tt
  loose_goes types.Text S h = tt
  loose_goes (types.Object c) S h = λ e i. ⊎_elim (λ a. null_stays e a) (λ b. h e b)
      (Rattle.use_rules.proofs.Members.union_cases (true ∷ []) S e i)
    where
      null_stays : (e : ℕ) → has (true ∷ []) e ≡ true → may_stay (typestate_of p c) e ≡ true
      null_stays zero e = refl
      null_stays (suc n) e = absurd (cc)
  loose_goes (types.Enum e) S h = tt

  dropped : (ty : CoreType) (S : Set) (r : Option Value) (rest : List Root) → MayGo p t ty S → Onto p t (given p t ty S r rest) rest
  dropped ty S None rest h = roots.onto_same p t rest
  dropped ty S (Some v) rest h = may_go p t ty S v rest h

  -- what fails no demand as it is dropped may be left
  abbrev DROPPED : Expr → Option CoreType
  DROPPED e = rules.type_dropped p cs cx m e

  abbrev Unasked : Expr → Set → Type 0
  Unasked e S = (el : ℕ) → has S el ≡ true → if_open demands.LeftOpen (typestate_of p (rules.class_or_none p cs cx m (DROPPED e))) el ≡ None

  dropped_as : (e : Expr) (ty : CoreType) (S : Set) → DROPPED e ≡ Some ty → Unasked e S → MayGo p t ty S
  dropped_as e ty S is h = subst (λ o. MayGo p t (type_or_void o) S) is (no_state p t demands.LeftOpen (DROPPED e) cs cx m S h)

  method_of : (cx' : Context) (me' : Me) → Setting p n m cx' me' → method_in cx' ≡ n
  method_of _ _ (living.alone k) = refl
  method_of _ _ (living.helper k) = refl
  method_of _ _ (living.protocol k o) = refl

  abbrev GIVEN : Expr → Option CoreType
  GIVEN e = Rattle.jv_core.specs.Meaning.type_given p n e

  given_here : (e : Expr) → Rattle.jv_core.specs.Meaning.type_given p (method_in cx) e ≡ GIVEN e
  given_here e = ap (λ i. Rattle.jv_core.specs.Meaning.type_given p i e) (method_of cx me setting)

  result_given : (i : ℕ) (k : Method) (ty : CoreType) → slice_get p.methods i ≡ Some k → k.result ≡ ty →
      Rattle.jv_core.specs.Meaning.result_of p i ≡ Some ty
  result_given i k ty at e = ap (option_map (λ (m : Method). m.result)) at ∙ ap Some e

  session_goes : (c : SessionCall) (ty : CoreType) (S : Set) → typing.session_result c ≡ ty → MayGo p t ty S
  session_goes c ty S e = subst (λ ty. MayGo p t ty S) e (plain c)
    where
      plain : (c : SessionCall) → MayGo p t (typing.session_result c) S
      plain session_calls.Send = tt
      plain session_calls.SendInt = tt
      plain session_calls.SendBoolean = tt
      plain session_calls.SendString = tt
      plain session_calls.Look = tt
      plain session_calls.Take = tt
      plain session_calls.TakeInt = tt
      plain session_calls.TakeBoolean = tt
      plain session_calls.TakeString = tt
      plain session_calls.Refuse = tt

  pub dropped_free : {sc : List ℕ} {e : Expr} {ty : CoreType} → Has p m sc e ty → (sets : List Set) (log : Log) →
      Unasked e (E 0 e (Some sets) log).set → MayGo p t ty (E 0 e (Some sets) log).set
  dropped_free typing.int sets log h = tt
  dropped_free typing.truth sets log h = tt
  dropped_free typing.text sets log h = tt
  dropped_free typing.null sets log h = λ el i. absurd (cc)
  dropped_free {ty = ty} (typing.variable {q = q} {x = x} v) sets log h =
      dropped_as (Variable q x) ty (E 0 (Variable q x) (Some sets) log).set
      (given_here (Variable q x) ∙ ap (option_and_then (λ m. variable_type p m x)) at_method ∙ v.type) h
  dropped_free (typing.constant e lt) sets log h = tt
  dropped_free (typing.negative x) sets log h = tt
  dropped_free (typing.opposite x) sets log h = tt
  dropped_free (typing.sum x y) sets log h = tt
  dropped_free (typing.text_and x y i) sets log h = tt
  dropped_free (typing.and_text x i y) sets log h = tt
  dropped_free (typing.computed i x y) sets log h = tt
  dropped_free (typing.ordered i x y) sets log h = tt
  dropped_free (typing.logic i x y) sets log h = tt
  dropped_free (typing.same i c x y) sets log h = tt
  dropped_free (typing.is_null i v) sets log h = tt
  dropped_free (typing.null_is i v) sets log h = tt
  dropped_free {ty = ty} (typing.protocol {q = q} {x = x} {n = i} {k = k} {args = args} v c xs e u) sets log h =
      dropped_as (Protocol q x i args) ty (E 0 (Protocol q x i args) (Some sets) log).set (given_here (Protocol q x i args) ∙
      result_given i k ty c.at e) h
  dropped_free {ty = ty} (typing.helper {q = q} {n = i} {k = k} {args = args} y c own xs e) sets log h =
      dropped_as (Helper q i args) ty (E 0 (Helper q i args) (Some sets) log).set (given_here (Helper q i args) ∙ result_given i k ty c.at
      e) h
  dropped_free {ty = ty} (typing.static {q = q} {n = i} {k = k} {args = args} c xs e) sets log h =
      dropped_as (Static q i args) ty (E 0 (Static q i args) (Some sets) log).set (given_here (Static q i args) ∙ result_given i k ty c.at
      e) h
  dropped_free (typing.equals x y s) sets log h = tt
  dropped_free (typing.concat x y s) sets log h = tt
  dropped_free {ty = ty} (typing.session {q = q} {c = c} {args = args} xs e) sets log h =
      session_goes c ty (E 0 (Session q c args) (Some sets) log).set e
  dropped_free (typing.new {q = q} {c = c} x) sets log h = dropped_as (New q c) (types.Object c) (E 0 (New q c) (Some sets) log).set refl h

  pub drop_good : (sc out : List ℕ) (ts : List Around) (e : Expr) (ty : CoreType) (now : Now) (log : Log) (f : Flow) (rest : List Root)
      (s : Lives ℕ) → IsScope m sc → Has p m sc e ty → Quiet t ((E 0 e now log).log) →
      MayGo p t ty (E 0 e now log).set → NowIn (after (E 0 e now log)) f.now → L sc now rest s →
      Good p t (P sc out ts f rest) ((within (λ locals. eval p inputs low n here locals e) >>= λ v. give Normal) s)
  drop_good sc out ts e ty now log f rest s scope h q free i l =
      go (eval p inputs low n here s.locals e s.shared)
      (exprs.eval_good p ok reached rok t solves inputs low well n m at_method cx me on sc s.locals scope l.scoped h 0 now log q l.fields
      rest s.shared l.at)
    where
      go : (o : Outcome Shared (Option Value)) → Good p t (λ r s'. Result p t m me (CallsHelper e) ty (loose p t 0 (E 0 e now log).set)
          (E 0 e now log) l.fields s.locals rest r s') o →
          Good p t (P sc out ts f rest) (and_then (kept s.locals o) (λ v. give Normal))
      go (Ends x es) g = g
      go (Gives r s') g = record {
        fields = g.fields;
        scoped = l.scoped;
        at = at_rest p t m me f.now g.fields s.locals (given p t ty (loose p t 0 (E 0 e now log).set) r rest) rest s'
            (dropped ty (loose p t 0 (E 0 e now log).set) r rest (loose_goes ty (E 0 e now log).set free))
            (at_in p t m me (side p t r (E 0 e now log)) f.now g.fields s.locals (given p t ty (loose p t 0 (E 0 e now log).set) r rest) s'
            (now_trans (side p t r (E 0 e now log)) (after (E 0 e now log)) f.now (side_after p t r (E 0 e now log)) i) g.at);
      }

  pub print_good : (sc out : List ℕ) (ts : List Around) (e : Expr) (ty : CoreType) (now : Now) (log : Log) (rest : List Root) (s : Lives ℕ)
      →
      IsScope m sc → Has p m sc e ty → class_in ty ≡ None → Quiet t ((E 0 e now log).log) → L sc now rest s →
      Good p t (P sc out ts (flow (after (E 0 e now log)) [] (E 0 e now log).log) rest)
      ((within (λ locals. valued (eval p inputs low n here locals e) >>= print) >>= λ v. give Normal) s)
  print_good sc out ts e ty now log rest s scope h plain q l =
      go (eval p inputs low n here s.locals e s.shared)
      (exprs.eval_good p ok reached rok t solves inputs low well n m at_method cx me on sc s.locals scope l.scoped h 0 now log q l.fields
      rest s.shared l.at)
    where
      done : (o : Outcome Shared (Unit {0})) (fields : Row Name) →
          Good p t (λ d s'. At p t m me (after (E 0 e now log)) fields s.locals rest s') o →
          Good p t (P sc out ts (flow (after (E 0 e now log)) [] (E 0 e now log).log) rest) (and_then (kept s.locals o) (λ v. give Normal))
      done (Ends x es) fields g = g
      done (Gives d s') fields g = record { fields = fields; scoped = l.scoped; at = g }

      go : (o : Outcome Shared (Option Value)) → Good p t (λ r s'. Result p t m me (CallsHelper e) ty (loose p t 0 (E 0 e now log).set)
          (E 0 e now log) l.fields s.locals rest r s') o →
          Good p t (P sc out ts (flow (after (E 0 e now log)) [] (E 0 e now log).log) rest)
          (and_then (kept s.locals (and_then (and_then o found) print)) (λ v. give Normal))
      go (Ends x es) g = g
      go (Gives None s') g = inl refl
      go (Gives (Some u) s') g =
          let b = Rattle.use_kept.proofs.Running.settled p t plain g in
          done (print u s') b.fields (plainly_at p t ok _ (λ d s'. At p t m me (after (E 0 e now log)) b.fields s.locals rest s') m me
          (after (E 0 e now log)) b.fields s.locals rest s' (print u s') (print_plain p t s' u) b.at (λ d s'' at k. at))

  -- RETURNS of values

  left_log : (q : Place) (answer : Option Name) (S : Set) (sc : List ℕ) (now : Now) (log : Log) →
      Quiet t (rules.left p cs cx m q answer S sc now log) → Quiet t log
  left_log q answer S sc now log h = quiet_in t log _ (Rattle.use_rules.proofs.Rules.left_more p cs cx m q answer S sc now log log
      (log_refl log)) h

  abbrev FollowsAll : Option Name → Option Value → Type 0
  FollowsAll answer r = leave.Follows_answer p ok reached rok t solves inputs low well n m at_method cx me on answer r

  pub any_target : (r : Option Value) → FollowsAll None r
  any_target r target to e = passing.in_targets p ok reached rok t solves inputs low well n m at_method cx me on [] [] tt tt target
      (label_in (constants_of p m.result) (answer_of r)) to e

  -- a value that is the method's result
  returned : (q : Place) (answer : Option Name) (S : Set) (w : ℕ) (sc : List ℕ) (log : Log) (rest : List Root) (u : Value) (s : Lives ℕ) →
      Within p t m.result (loose p t w S) S → FollowsAll answer (Some u) → (now : Now) →
      Quiet t (rules.left p cs cx m q answer S sc now log) → L sc now (VR m.result (loose p t w S) u ∷ rest) s →
      Left p reached t m cx me cx me rest (Some u) s.shared
  returned q answer S w sc log rest u s within follows None h l = unreached sc _ s l
  returned q answer S w sc log rest u s within follows (Some sets) h l =
      leave.left_good p ok reached rok t solves inputs low well n m at_method cx me on q answer S (loose p t w S) sc sc (λ k i. i) sets log
      rest (Some u) s setting within
      (leave.gave p ok reached rok t solves inputs low well n m at_method cx me on (loose p t w S) u
      (held_by sets (variables p m me l.fields s.locals) ++ (my_self m me l.fields ++ rest)) s.shared
      (holds_onto (onto_then p t (roots.under_all p t (held_by sets (variables p m me l.fields s.locals))
      (to_front p t (my_self m me l.fields) (VR m.result (loose p t w S) u) rest))
      (to_front p t (held_by sets (variables p m me l.fields s.locals)) (VR m.result (loose p t w S) u) (my_self m me l.fields ++ rest)))
      l.at.1))
      follows h l

  return_any : (q : Place) (e : Expr) (sc out : List ℕ) (ts : List Around) (sets : List Set) (log : Log) (rest : List Root) (s : Lives ℕ) →
      IsScope m sc → Has p m sc e m.result →
      Quiet t (rules.left p cs cx m q None (E (rules.width_of p cs cx m m.result) e (Some sets) log).set sc
      (after (E (rules.width_of p cs cx m m.result) e (Some sets) log)) (E (rules.width_of p cs cx m m.result) e (Some sets) log).log) →
      L sc (Some sets) rest s →
      Good p t (P sc out ts (flow None [] (rules.left p cs cx m q None (E (rules.width_of p cs cx m m.result) e (Some sets) log).set sc
      (after (E (rules.width_of p cs cx m m.result) e (Some sets) log)) (E (rules.width_of p cs cx m m.result) e (Some sets) log).log))
      rest)
      ((value p inputs low n here e >>= λ v. give (Returns (Some v))) s)
  return_any q e sc out ts sets log rest s scope h quiet l =
      let w = rules.width_of p cs cx m m.result in
      let v = E w e (Some sets) log in
      good_then p t (λ u s. L sc (after v) (VR m.result (loose p t w v.set) u ∷ rest) s)
      (P sc out ts (flow None [] (rules.left p cs cx m q None v.set sc (after v) v.log)) rest) (value p inputs low n here e s)
      (λ u. give (Returns (Some u)))
      (living.value_behind p ok reached rok t solves inputs low well n m at_method cx me on sc scope h w (Some sets) log
      (left_log q None v.set sc (after v) v.log quiet) rest s l)
      (λ u s1 l1. returned q None v.set w sc v.log rest u s1 (passing.tight_one p ok reached rok t solves inputs low well n m at_method cx
      me on sc s.locals scope l.scoped m.result v.set) (any_target (Some u)) (after v) quiet l1)

  -- a constant that is returned says which label it is
  pub record ConstantTyped (e i : ℕ) (ty : CoreType) : Type 0 where
    pub enum : Enum
    pub at : slice_get p.enums e ≡ Some enum
    pub within : i < length enum.constants
    pub type : ty ≡ types.Enum e

  constant_typed : {sc : List ℕ} {q : Place} {e i : ℕ} {ty : CoreType} → Has p m sc (Constant q e i) ty → ConstantTyped e i ty
  constant_typed (typing.constant {d = d} at lt) = record { enum = d; at = at; within = lt; type = refl }

  constant_follows : (q : Place) (e i : ℕ) (c : ConstantTyped e i m.result) → FollowsAll (rules.answer_of p cs cx m (Some (Constant q e i)))
      (Some (values.Constant (text_at p c.enum.name) i))
  constant_follows q e i c target to led =
      let k : IsConstant p e (values.Constant (text_at p c.enum.name) i) = record {
        enum = c.enum;
        at = c.at;
        position = i;
        within =
            c.within;
        is = refl;
      } in
      let x = get_below c.enum.constants i c.within in
      let label = leave.label_of p ok reached rok t solves inputs low well n m at_method cx me on e
      (values.Constant (text_at p c.enum.name) i) c.type k ∙ mapped_at (text_at p) c.enum.constants i ∙ ap (option_map (text_at p))
      x.1 in
      let answer : rules.answer_of p cs cx m (Some (Constant q e i)) ≡ Some (text_at p x.0) =
      ap (λ o. elim o as (λ _. Option Name) [ None ↦ None | Some d ↦ option_map (text_at p) (slice_get d.constants i) ]) c.at ∙
      ap (option_map (text_at p)) x.1 in
      subst (λ a. Mem to (rules.answered p cs cx m a target)) (sym answer)
      (by_constant target (text_at p x.0) to (sym (ap (led_by target) label) ∙ led))

  return_constant : (q r : Place) (e i : ℕ) (sc out : List ℕ) (ts : List Around) (sets : List Set) (log : Log) (rest : List Root)
      (s : Lives ℕ) → IsScope m sc → Has p m sc (Constant r e i) m.result →
      Quiet t (rules.left p cs cx m q (rules.answer_of p cs cx m (Some (Constant r e i))) [] sc (joined (Some sets) (Some sets)) log) →
      L sc (Some sets) rest s →
      Good p t (P sc out ts (flow None [] (rules.left p cs cx m q (rules.answer_of p cs cx m (Some (Constant r e i))) [] sc
      (joined (Some sets) (Some sets)) log)) rest)
      ((value p inputs low n here (Constant r e i) >>= λ v. give (Returns (Some v))) s)
  return_constant q r e i sc out ts sets log rest s scope h quiet l =
      let c = constant_typed h in
      let u = values.Constant (text_at p (c.enum.name)) i in
      let bare : roots.Bare p m.result u = subst (λ ty. roots.Bare p ty u) (sym c.type)
      (record { enum = c.enum; at = c.at; position = i; within = c.within; is = refl }) in
      let l1 = lv_rest p reached t m cx me sc (joined (Some sets) (Some sets)) rest (VR m.result (loose p t 1 []) u ∷ rest) s
      (Rattle.use_kept.proofs.Running.bare_comes p t m.result (loose p t 1 []) u rest bare)
      (lv_in p reached t m cx me sc (Some sets) (joined (Some sets) (Some sets)) rest s (joined_left (Some sets) (Some sets) (Some sets)
      (now_refl (Some sets))) l) in
      subst (λ o. Good p t (P sc out ts
      (flow None [] (rules.left p cs cx m q (rules.answer_of p cs cx m (Some (Constant r e i))) [] sc (joined (Some sets) (Some sets))
      log)) rest)
      (and_then (kept s.locals (and_then (and_then (and_then (found o s.shared) (λ name. give (values.Constant name i)))
      (λ v. give (Some v))) found)) (λ v. give (Returns (Some v)))))
      (sym (ap (option_map (λ (d : Enum). text_at p d.name)) c.at))
      (returned q (rules.answer_of p cs cx m (Some (Constant r e i))) [] 1 sc log rest u s
      (roots_within m.result) (constant_follows r e i c) (joined (Some sets) (Some sets)) quiet l1)
    where
      roots_within : (ty : CoreType) → Within p t ty [] []
      roots_within types.Void = tt
      roots_within types.Int = tt
      roots_within types.Boolean = tt
      roots_within types.Text = tt
      roots_within (types.Object c) = within_refl []
      roots_within (types.Enum c) = tt

  abbrev return_flow : Place → List ℕ → Expr → List Set → Log → Flow
  return_flow q sc e sets log =
      let v = E (rules.width_of p cs cx m m.result) e (Some sets) log in
      flow None [] (rules.left p cs cx m q (rules.answer_of p cs cx m (Some e)) v.set sc (after v) v.log)

  pub return_good : (q : Place) (e : Expr) (sc out : List ℕ) (ts : List Around) (sets : List Set) (log : Log) (rest : List Root)
      (s : Lives ℕ) →
      IsScope m sc → Has p m sc e m.result →
      Quiet t ((return_flow q sc e sets log).log) → L sc (Some sets) rest s → Good p t (P sc out ts (return_flow q sc e sets log) rest)
      ((value p inputs low n here e >>= λ v. give (Returns (Some v))) s)
  return_good q (Constant r e i) sc out ts sets log rest s scope h quiet l = return_constant q r e i sc out ts sets log rest s scope h quiet
      l
  return_good q e sc out ts sets log rest s scope h quiet l = return_any q e sc out ts sets log rest s scope h quiet l

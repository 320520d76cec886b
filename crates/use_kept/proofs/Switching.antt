-- Switches: what is known where a case begins, by what the value is; and the groups are entered with what leads to them.
use Rattle.std.proofs.Common.{◌≡◌, ℕ, zero, suc, ◌+◌, ◌<◌, Bool, true, false, List, [], ◌∷◌, ◌++◌, map, length, Option, Some, None, refl}
use Rattle.std.proofs.Common.{sym, ap, ◌∙◌, subst, arith, inl, inr, ⊎_elim, slice_get}
use Rattle.std.specs.Prelude.{◌⊎◌, nat_eq, if◌then◌else◌, option_map, option_and_then}
use Rattle.mg_text.specs.Call.{Name}
use Rattle.mg_text.specs.declared.place.Place.{Place}
use Rattle.ts_tree.specs.declared.parts.To.{To}
use Rattle.ts_tree.specs.Typestate.{Target, One, ByAnswer}
use Rattle.ts_tree.specs.Calls.{led_by}
use Rattle.jv_values.specs.Values.{Value, Row, Shared, Lives, Inputs, Here, Wrong}
use Rattle.jv_values.specs.Values as values
use Rattle.jv_values.specs.Doing.{Outcome, Gives, Ends, and_then, ◌>>=◌, give, stop, found, kept, within, declared}
use Rattle.jv_values.specs.Objects.{answer_of}
use Rattle.jv_values.specs.Seen.{label_in}
use Rattle.jv_values.specs.Statements.{Completion, Normal, Does}
use Rattle.jv_tree.specs.BuiltIn.{session_method}
use Rattle.jv_core.proofs.PlainTypes.{no_enum}
use Rattle.jv_core.specs.declared.tree.CoreVar.{CoreVar}
use Rattle.jv_core.specs.declared.program.CoreType.{CoreType}
use Rattle.jv_core.specs.declared.program.CoreType.TheVariants as types
use Rattle.jv_core.specs.Tree.{Program, Method, Enum, Expr}
use Rattle.jv_core.specs.Tree.{Stmts, Groups, NoGroup, Group, Constant}
use Rattle.jv_core.specs.Tree as trees
use Rattle.jv_core.specs.Lookup.{text_at, variable_type, IsInstance}
use Rattle.jv_core.specs.Types.{Has, CallsHelper}
use Rattle.jv_core.specs.Types as typing
use Rattle.jv_core.specs.Statements.{Target as Around, ASwitch}
use Rattle.jv_core.specs.Conditions.{IsCore}
use Rattle.jv_core.specs.Calls.{constants_of}
use Rattle.jv_core.specs.Meaning.{Lower, eval, value, test, exec_all, exec_from, exec_groups}
use Rattle.use_rules.specs.declared.key.Context.{Context}
use Rattle.use_rules.specs.Elements.{Set, targets, targets_by, found as found_to}
use Rattle.use_rules.specs.Keys.{Tables, AreReached, contexts_in}
use Rattle.use_rules.specs.State.{Now, Log, Flow, joined, caught}
use Rattle.use_rules.specs.Flow as rules
use Rattle.use_rules.specs.Flow.{Evaluated, after, flow}
use Rattle.use_rules.specs.Tables.{Solves}
use Rattle.use_rules.specs.inner.Order.{Mem, NowIn}
use Rattle.use_rules.proofs.Orders.{now_refl, joined_left, joined_right}
use Rattle.use_kept.proofs.Roots as roots
use Rattle.use_kept.proofs.Roots.{Root, Held, onto_then, to_front, IsConstant}
use Rattle.use_kept.proofs.Worlds.{some_is, Holds, holds_onto}
use Rattle.use_kept.proofs.Quiets.{Quiet}
use Rattle.use_kept.proofs.Frames.{Me, Nobody, IsScope, held_by, variables, my_self}
use Rattle.use_kept.proofs.Running.{Good, good_as, At, at_rest, loose, Result}
use Rattle.use_kept.proofs.Reading.{here_of}
use Rattle.use_kept.proofs.Calling.{CallsWell}
use Rattle.use_kept.proofs.Passing as passing
use Rattle.use_kept.proofs.Expressions as exprs
use Rattle.use_kept.proofs.Living as living
use Rattle.use_kept.proofs.Living.{Lv, lv_in, post_in, Setting}
use Rattle.use_kept.proofs.Completing.{PO}

pub by_constant : (target : Target) (l : Name) (to : To) → led_by target (Some l) ≡ Some to → Mem to (targets_by l target)
by_constant (One to') l to e = inl (sym (some_is e))
by_constant (ByAnswer bs) l to e = subst (λ o. Mem to (found_to o)) (sym e) (inl refl)

pub mapped_at : {A B : Type 0} (f : A → B) (xs : List A) (i : ℕ) → slice_get (map f xs) i ≡ option_map f (slice_get xs i)
mapped_at f [] i = refl
mapped_at f (x ∷ xs) zero = refl
mapped_at f (x ∷ xs) (suc i) = mapped_at f xs i

pub get_below : {A : Type 0} (xs : List A) (i : ℕ) → i < length xs → (x : A) × (slice_get xs i ≡ Some x)
get_below [] i lt = absurd (omega arith)
get_below (x ∷ xs) zero lt = (x, refl)
get_below (x ∷ xs) (suc i) lt = get_below xs i (omega arith)

module _ (p : Program) (ok : IsCore p) (reached : List (List Bool)) (rok : AreReached p reached) (t : Tables) (solves : Solves p reached t)
    (inputs : Inputs)
    (low : Lower) (well : CallsWell p reached t low) (n : ℕ) (m : Method) (at_method : slice_get p.methods n ≡ Some m) (cx : Context)
    (me : Me)
    (on : IsInstance m.kind → me ≡ Nobody → ⊥) (setting : Setting p n m cx me) where
  abbrev cs : List Context
  cs = contexts_in p reached

  abbrev here : Here ℕ
  here = here_of p t ok inputs low n m me

  abbrev L : List ℕ → Now → List Root → Lives ℕ → Type 0
  L sc now rest s = Lv p reached t m cx me sc now rest s

  abbrev P : (sc out : List ℕ) → List Around → Flow → List Root → Completion ℕ → Lives ℕ → Type 0
  P sc out ts f rest c s = PO p reached t m cx me sc out ts f rest c s

  abbrev E : ℕ → Expr → Now → Log → Evaluated
  E w e now log = rules.eval p cs cx m t w e now log

  abbrev FO : (sc : List ℕ) → Now → List Now → Groups → Now → Log → Flow
  FO sc rn nows gs before log = rules.follow p cs cx m t sc rn nows gs before log

  abbrev XA : Stmts → Does ℕ
  XA body = exec_all p inputs low n here body

  abbrev VR : CoreType → Set → Value → Root
  VR ty S u = Held (record { ty = ty; set = S; value = u })

  abbrev XF : (Option ℕ → Bool) → Groups → Does ℕ
  XF wanted gs = exec_from p inputs low n here wanted gs

  abbrev XG : Groups → Does ℕ
  XG gs = exec_groups p inputs low n here gs

  -- what leads to such labels is known where their group begins
  pub record Enters (rn : Now) (nows : List Now) (wanted : Option ℕ → Bool) (cur : Now) : Type 0 where
    pub enters : (labels : List (Option ℕ)) → Rattle.jv_values.specs.Statements.any_label wanted labels ≡ true →
        NowIn cur (rules.entry_of p cs cx m rn nows labels)

  -- what a switch is led by
  pub record AtCase (sc : List ℕ) (nows : List Now) (rest : List Root) (k : ℕ) (s : Lives ℕ) : Type 0 where
    pub cur : Now
    pub is : slice_get nows k ≡ Some cur
    pub lives : L sc cur rest s

  -- constants, by what is known of their roots

  const_of : (of : ℕ) (S : Set) (v : Value) (rest : List Root) (s : Shared) → Holds p t s (VR (types.Enum of) S v ∷ rest) →
      IsConstant p of v
  const_of of S v rest s h = go h.foot h.roots
    where
      fits : (f : _) → roots.Fits p t (Rattle.use_kept.proofs.Worlds.view p s) (types.Enum of) S v f → IsConstant p of v
      fits f (roots.bare b x) = b

      go : (f : _) → roots.Roots p t (Rattle.use_kept.proofs.Worlds.view p s) (VR (types.Enum of) S v ∷ rest) f → IsConstant p of v
      go f (roots.more a b sp (roots.held i) r) = fits a i

  const_at : (of : ℕ) (S : Set) (v : Value) (now : Now) (fields : Row Name) (locals : Row ℕ) (rest : List Root) (s : Shared) →
      At p t m me now fields locals (VR (types.Enum of) S v ∷ rest) s → IsConstant p of v
  const_at of S v None fields locals rest s h = absurd h
  const_at of S v (Some sets) fields locals rest s h =
      const_of of S v (held_by sets (variables p m me fields locals) ++ (my_self m me fields ++ rest)) s
      (holds_onto (onto_then p t (roots.under_all p t (held_by sets (variables p m me fields locals))
      (to_front p t (my_self m me fields) (VR (types.Enum of) S v) rest))
      (to_front p t (held_by sets (variables p m me fields locals)) (VR (types.Enum of) S v) (my_self m me fields ++ rest))) h.1)

  label_at : (ty : CoreType) (e : ℕ) (v : Value) → ty ≡ types.Enum e → (c : IsConstant p e v) →
      label_in (constants_of p ty) (answer_of (Some v)) ≡ slice_get (map (text_at p) c.enum.constants) c.position
  label_at ty e v same c =
      ap (λ ty. label_in (constants_of p ty) (answer_of (Some v))) same
      ∙ ap (λ o. label_in (option_map (λ (d : Enum). map (text_at p) d.constants) o) (answer_of (Some v))) c.at
      ∙ ap (λ v. label_in (Some (map (text_at p) c.enum.constants)) (answer_of (Some v))) c.is

  by_at : (go : Name → Now) (ns : List ℕ) (k : ℕ) → slice_get (rules.by_constants p cs cx m go ns) k ≡ option_map (λ c. go (text_at p c))
      (slice_get ns k)
  by_at go [] k = refl
  by_at go (c ∷ ns) zero = refl
  by_at go (c ∷ ns) (suc k) = by_at go ns k

  method_of : (cx' : Context) (me' : Me) → Setting p n m cx' me' → Rattle.use_rules.specs.Keys.method_in cx' ≡ n
  method_of _ _ (living.alone k) = refl
  method_of _ _ (living.helper k) = refl
  method_of _ _ (living.protocol k o) = refl

  -- the enum that an expression gives
  enum_typed : {sc : List ℕ} {e : Expr} {of : ℕ} {ty : CoreType} → Has p m sc e ty → ty ≡ types.Enum of →
      Rattle.jv_core.specs.Meaning.type_given p n e ≡ Some ty
  enum_typed typing.int g = absurd (cc)
  enum_typed typing.truth g = absurd (cc)
  enum_typed typing.text g = absurd (cc)
  enum_typed typing.null g = absurd (cc)
  enum_typed (typing.variable {x = x} v) g = ap (option_and_then (λ m. variable_type p m x)) at_method ∙ v.type
  enum_typed (typing.constant e lt) g = refl
  enum_typed (typing.negative x) g = absurd (cc)
  enum_typed (typing.opposite x) g = absurd (cc)
  enum_typed (typing.sum x y) g = absurd (cc)
  enum_typed (typing.text_and x y i) g = absurd (cc)
  enum_typed (typing.and_text x i y) g = absurd (cc)
  enum_typed (typing.computed i x y) g = absurd (cc)
  enum_typed (typing.ordered i x y) g = absurd (cc)
  enum_typed (typing.logic i x y) g = absurd (cc)
  enum_typed (typing.same i c x y) g = absurd (cc)
  enum_typed (typing.is_null i v) g = absurd (cc)
  enum_typed (typing.null_is i v) g = absurd (cc)
  enum_typed (typing.protocol v c xs e u) g = ap (option_map (λ (m : Method). m.result)) c.at ∙ ap Some e
  enum_typed (typing.helper i c own xs e) g = ap (option_map (λ (m : Method). m.result)) c.at ∙ ap Some e
  enum_typed (typing.static c xs e) g = ap (option_map (λ (m : Method). m.result)) c.at ∙ ap Some e
  enum_typed (typing.equals x y s) g = absurd (cc)
  enum_typed (typing.concat x y s) g = absurd (cc)
  enum_typed {of} (typing.session {c = c} xs e) g = absurd (no_enum (session_method c).result of (e ∙ g))
  enum_typed (typing.new h) g = absurd (cc)

  abbrev by_type : Option CoreType → List ℕ
  by_type o = elim o as (λ _. List ℕ) [
    | None ↦ []
    | Some ty ↦ elim ty as (λ _. List ℕ) [
      | types.Enum n ↦ elim (slice_get p.enums n) as (λ _. List ℕ) [ None ↦ [] | Some d ↦ d.constants ]
      | _ ↦ []
    ]
  ]

  constants_are : {sc : List ℕ} {e : Expr} {of : ℕ} → Has p m sc e (types.Enum of) → (d : Enum) → slice_get p.enums of ≡ Some d →
      rules.enum_of p cs cx m e ≡ d.constants
  constants_are {e} {of} h d at =
      ap (λ j. by_type (Rattle.jv_core.specs.Meaning.type_given p j e)) (method_of cx me setting) ∙ ap by_type (enum_typed h refl) ∙
      ap (λ o. elim o as (λ _. List ℕ) [ None ↦ [] | Some d ↦ d.constants ]) at

  -- the position that is switched on
  abbrev posed : Expr → Row ℕ → Outcome Shared (Option Value) → Outcome (Lives ℕ) ℕ
  posed e locals o = kept locals (and_then (and_then (and_then o found) Rattle.jv_values.specs.Doing.constant)
      (λ v. found (Rattle.jv_core.specs.Meaning.enum_given p n e) >>= λ name. if Rattle.std.specs.Str.bytes_eq v.0 name then give v.1 else
      stop Wrong))

  posed_constant : (e : Expr) (locals : Row ℕ) (name : Name) (k : ℕ) (s : Shared) (Q : ℕ → Lives ℕ → Type 0) →
      Q k (record { locals = locals; shared = s }) → Good p t Q (posed e locals (Gives (Some (values.Constant name k)) s))
  posed_constant e locals name k s Q h = go (Rattle.jv_core.specs.Meaning.enum_given p n e)
    where
      test : (z : Bool) → Good p t Q (kept locals ((if z then give k else stop Wrong) s))
      test true = h
      test false = inl refl

      go : (o : Option Name) → Good p t Q
          (kept locals ((found o >>= λ name'. if Rattle.std.specs.Str.bytes_eq name name' then give k else stop Wrong) s))
      go None = inl refl
      go (Some name') = test (Rattle.std.specs.Str.bytes_eq name name')

  -- by what an expression gives
  posed_good : (e : Expr) (locals : Row ℕ) (R : Option Value → Shared → Type 0) (Q : ℕ → Lives ℕ → Type 0) →
      ((name : Name) (k : ℕ) (s : Shared) → R (Some (values.Constant name k)) s → Q k (record { locals = locals; shared = s })) →
      (o : Outcome Shared (Option Value)) → Good p t R o → Good p t Q (posed e locals o)
  posed_good e locals R Q h (Ends x es) g = g
  posed_good e locals R Q h (Gives None s) g = inl refl
  posed_good e locals R Q h (Gives (Some (values.Int z)) s) g = inl refl
  posed_good e locals R Q h (Gives (Some (values.Truth z)) s) g = inl refl
  posed_good e locals R Q h (Gives (Some (values.Text z)) s) g = inl refl
  posed_good e locals R Q h (Gives (Some values.Null) s) g = inl refl
  posed_good e locals R Q h (Gives (Some (values.Object z)) s) g = inl refl
  posed_good e locals R Q h (Gives (Some (values.Constant name k)) s) g = posed_constant e locals name k s Q (h name k s g)

  position_is : (of : ℕ) (name : Name) (k : ℕ) → (c : IsConstant p of (values.Constant name k)) → k ≡ c.position
  position_is of name k c = let e : values.Constant name k ≡ values.Constant (text_at p c.enum.name) c.position = c.is in cc

  switch_any : (sc : List ℕ) (e : Expr) (of : ℕ) (sets : List Set) (log : Log) (rest : List Root) (s : Lives ℕ) → IsScope m sc →
      Has p m sc e (types.Enum of) →
      Quiet t ((E 0 e (Some sets) log).log) → L sc (Some sets) rest s →
      Good p t (AtCase sc (rules.by_constants p cs cx m (λ label. after (E 0 e (Some sets) log)) (rules.enum_of p cs cx m e)) rest)
      (posed e s.locals (eval p inputs low n here s.locals e s.shared))
  switch_any sc e of sets log rest s scope h quiet l =
      let v = E 0 e (Some sets) log in
      posed_good e s.locals (λ r s'. Result p t m me (CallsHelper e) (types.Enum of) (loose p t 0 v.set) v l.fields s.locals rest r s')
      (AtCase sc (rules.by_constants p cs cx m (λ label. after v) (rules.enum_of p cs cx m e)) rest)
      (λ name k s' g. told name k s' g (const_at of (loose p t 0 v.set) (values.Constant name k) (after v) g.fields s.locals rest s' g.at))
      (eval p inputs low n here s.locals e s.shared)
      (exprs.eval_good p ok reached rok t solves inputs low well n m at_method cx me on sc s.locals scope l.scoped h 0 (Some sets) log quiet
      l.fields rest s.shared l.at)
    where
      told : (name : Name) (k : ℕ) (s' : Shared) → Result p t m me (CallsHelper e) (types.Enum of) (loose p t 0 (E 0 e (Some sets) log).set)
          (E 0 e (Some sets) log) l.fields s.locals rest (Some (values.Constant name k)) s' →
          IsConstant p of (values.Constant name k) →
          AtCase sc (rules.by_constants p cs cx m (λ label. after (E 0 e (Some sets) log)) (rules.enum_of p cs cx m e)) rest k
          (record { locals = s.locals; shared = s' })
      told name k s' g c =
          let v = E 0 e (Some sets) log in
          let x = get_below c.enum.constants c.position c.within in
          record {
            cur = after v;
            is = by_at (λ label. after v) (rules.enum_of p cs cx m e) k ∙ ap (λ ns. option_map (λ (c : ℕ). after v) (slice_get ns k))
                (constants_are h c.enum c.at)
                ∙ ap (λ k. option_map (λ (c : ℕ). after v) (slice_get c.enum.constants k)) (position_is of name k c) ∙
                ap (option_map (λ (c : ℕ). after v)) x.1;
            lives = record {
              fields = g.fields;
              scoped = l.scoped;
              at = at_rest p t m me (after v) g.fields s.locals (VR (types.Enum of) (loose p t 0 v.set) (values.Constant name k) ∷ rest)
                  rest s'
                  (Rattle.use_kept.proofs.Running.plain_goes p t (types.Enum of) (loose p t 0 v.set) (values.Constant name k) rest refl)
                  g.at;
            };
          }

  switch_call : (sc : List ℕ) (q : Place) (x : CoreVar) (i : ℕ) (args : trees.Exprs) (of : ℕ) (sets : List Set) (log : Log)
      (rest : List Root) (s : Lives ℕ) → IsScope m sc → Has p m sc (trees.Protocol q x i args) (types.Enum of) →
      Quiet t ((rules.switched p cs cx m t (trees.Protocol q x i args) (Some sets) log).0.log) → L sc (Some sets) rest s →
      Good p t (AtCase sc (rules.switched p cs cx m t (trees.Protocol q x i args) (Some sets) log).1 rest)
      (posed (trees.Protocol q x i args) s.locals (eval p inputs low n here s.locals (trees.Protocol q x i args) s.shared))
  switch_call sc q x i args of sets log rest s scope (typing.protocol {k = k} v c hs e u) quiet l =
      let flows = passing.call_flows p ok reached rok t solves inputs low well n m at_method cx me on sc s.locals scope l.scoped i k
      (rules.protocol_call p cs cx m t targets x i) args (Some sets) log c.at in
      let a = passing.ARG p ok reached rok t solves inputs low well n m at_method cx me on sc s.locals scope l.scoped k args (Some sets) log
      in
      posed_good (trees.Protocol q x i args) s.locals (passing.Called p ok reached rok t solves inputs low well n m at_method cx me on sc
      s.locals scope l.scoped x i k c.at c.kind_is v.type (typing.CallsHelperIn args) a l.fields rest)
      (AtCase sc (rules.switched p cs cx m t (trees.Protocol q x i args) (Some sets) log).1 rest)
      (λ name kk s' g. told name kk s' g (const_at of _ (values.Constant name kk) _ _ s.locals rest s'
      (passing.called_followed p ok reached rok t solves inputs low well n m at_method cx me on sc s.locals scope l.scoped targets x i k
      c.at c.kind_is v.type (typing.CallsHelperIn args) a (types.Enum of) 0 l.fields rest (Some (values.Constant name kk)) s' e g
      (passing.in_targets p ok reached rok t solves inputs low well n m at_method cx me on sc s.locals scope l.scoped g.called.target
      (label_in (constants_of p k.result) (answer_of (Some (values.Constant name kk)))) g.called.to g.called.led)).at))
      (eval p inputs low n here s.locals (trees.Protocol q x i args) s.shared)
      (passing.protocol_called p ok reached rok t solves inputs low well n m at_method cx me on sc s.locals scope l.scoped targets x i k
      c.at c.kind_is v.type args u (λ ws now log' q' row rest' s' a'. exprs.args_good p ok reached rok t solves inputs low well n m
      at_method cx me on sc s.locals scope l.scoped hs ws now log' q' row rest' s' a') sets log
      (subst (λ V. Quiet t (V.log)) flows quiet) l.fields rest s.shared l.at)
    where
      told : (name : Name) (kk : ℕ) (s' : Shared) → passing.Called p ok reached rok t solves inputs low well n m at_method cx me on sc
          s.locals scope l.scoped x i k c.at c.kind_is v.type (typing.CallsHelperIn args) (passing.ARG p ok reached rok t solves inputs low
          well n m at_method cx me on sc s.locals scope l.scoped k args (Some sets) log) l.fields rest (Some (values.Constant name kk)) s' →
          IsConstant p of (values.Constant name kk) → AtCase sc (rules.switched p cs cx m t (trees.Protocol q x i args) (Some sets) log).1
          rest kk (record { locals = s.locals; shared = s' })
      told name kk s' g const =
          let a = passing.ARG p ok reached rok t solves inputs low well n m at_method cx me on sc s.locals scope l.scoped k args (Some sets)
          log in
          let y = get_below const.enum.constants const.position const.within in
          let label_name = text_at p (y.0) in
          let label = label_at k.result of (values.Constant name kk) e const ∙ mapped_at (text_at p) const.enum.constants const.position ∙
          ap (option_map (text_at p)) y.1 in
          let follows = by_constant g.called.target label_name g.called.to (sym (ap (led_by g.called.target) label) ∙ g.called.led) in
          let r = passing.called_followed p ok reached rok t solves inputs low well n m at_method cx me on sc s.locals scope l.scoped
          (targets_by label_name) x i k c.at c.kind_is v.type (typing.CallsHelperIn args) a (types.Enum of) 0 l.fields rest
          (Some (values.Constant name kk)) s' e g follows in
          let flows = passing.call_flows p ok reached rok t solves inputs low well n m at_method cx me on sc s.locals scope l.scoped i k
          (rules.protocol_call p cs cx m t (targets_by label_name) x i) args (Some sets) log c.at in
          let V = passing.PC p ok reached rok t solves inputs low well n m at_method cx me on sc s.locals scope l.scoped
          (targets_by label_name) x i k a.sets a.now a.log in
          let go = λ (label : Name). after (rules.called p cs cx m t i (rules.protocol_call p cs cx m t (targets_by label) x i)
          (rules.eval_all p cs cx m t (rules.widths_of p cs cx m i) args (Some sets) log)) in
          record {
            cur = go label_name;
            is = by_at go (rules.enum_of p cs cx m (trees.Protocol q x i args)) kk
                ∙ ap (λ ns. option_map (λ (c : ℕ). go (text_at p c)) (slice_get ns kk))
                (constants_are (typing.protocol {q = q} {x = x} {n = i} {k = k} {args = args} {t = types.Enum of} v c hs e u) const.enum
                const.at)
                ∙ ap (λ kk. option_map (λ (c : ℕ). go (text_at p c)) (slice_get const.enum.constants kk)) (position_is of name kk const) ∙
                ap (option_map (λ (c : ℕ). go (text_at p c))) y.1;
            lives = subst (λ V. L sc (after V) rest (record { locals = s.locals; shared = s' })) (sym flows)
                (record {
                  fields = r.fields;
                  scoped = l.scoped;
                  at = at_rest p t m me (after V) r.fields s.locals (VR (types.Enum of) (loose p t 0 V.set) (values.Constant name kk) ∷
                      rest) rest s'
                      (Rattle.use_kept.proofs.Running.plain_goes p t (types.Enum of) (loose p t 0 V.set) (values.Constant name kk) rest
                      refl) r.at;
                });
          }

  pub switch_value : (sc : List ℕ) (e : Expr) (of : ℕ) (sets : List Set) (log : Log) (rest : List Root) (s : Lives ℕ) → IsScope m sc →
      Has p m sc e (types.Enum of) →
      Quiet t ((rules.switched p cs cx m t e (Some sets) log).0.log) → L sc (Some sets) rest s →
      Good p t (AtCase sc (rules.switched p cs cx m t e (Some sets) log).1 rest) (Rattle.jv_core.specs.Meaning.position p inputs low n here
      e s)
  switch_value sc (trees.Protocol q x i args) of sets log rest s scope h quiet l = switch_call sc q x i args of sets log rest s scope h
      quiet l
  switch_value sc e of sets log rest s scope h quiet l = switch_any sc e of sets log rest s scope h quiet l

  abbrev case_at : ℕ → Option ℕ → Bool
  case_at k l = Rattle.jv_values.specs.Statements.case_at k l

  abbrev has_group : (Option ℕ → Bool) → Groups → Bool
  has_group w gs = Rattle.jv_core.specs.Meaning.has_group w gs

  -- labels, in lists and in groups

  none_in_list : (f : Option ℕ → Bool) (ls : List (Option ℕ)) → ((l : Option ℕ) → Mem l ls → f l ≡ false) →
      Rattle.std.specs.List.list_any f ls ≡ false
  none_in_list f [] h = refl
  none_in_list f (l ∷ ls) h = ap (λ b. Rattle.std.specs.Prelude.◌||◌ b (Rattle.std.specs.List.list_any f ls)) (h l (inl refl)) ∙
      none_in_list f ls (λ j i. h j (inr i))

  or_first : (a b : Bool) → (Rattle.std.specs.Prelude.◌||◌ a b) ≡ false → (a ≡ false) × (b ≡ false)
  or_first true b e = absurd (cc)
  or_first false b e = (refl, e)

  no_label : (w : Option ℕ → Bool) (ls : List (Option ℕ)) → Rattle.jv_values.specs.Statements.any_label w ls ≡ false → (l : Option ℕ) →
      Mem l ls → w l ≡ false
  no_label w [] e l i = absurd i
  no_label w (j ∷ ls) e l i = let o = or_first (w j) (Rattle.jv_values.specs.Statements.any_label w ls) e in ⊎_elim (λ g. ap w g ∙ o.0)
      (λ k. no_label w ls o.1 l k) i

  no_group_label : (w : Option ℕ → Bool) (gs : Groups) → has_group w gs ≡ false → (l : Option ℕ) → Mem l (rules.all_labels gs) → w l ≡ false
  no_group_label w NoGroup e l i = absurd i
  no_group_label w (Group labels body end more) e l i =
      let o = or_first (Rattle.jv_values.specs.Statements.any_label w labels) (has_group w more) e in
      ⊎_elim (λ a. no_label w labels o.0 l a) (λ b. no_group_label w more o.1 l b) (Rattle.use_rules.proofs.Members.mem_cases l labels
      (rules.all_labels more) i)

  -- a constant without a case
  uncased_has : (labels : List (Option ℕ)) (j n' : ℕ) (nows : List Now) (cur : Now) → slice_get nows j ≡ Some cur →
      Rattle.std.specs.List.list_any (rules.is_label (n' + j)) labels ≡ false → NowIn cur (rules.uncased p cs cx m labels n' nows)
  uncased_has labels j n' [] cur e f = absurd (cc)
  uncased_has labels zero n' (now ∷ nows) cur e f =
      let same : now ≡ cur = some_is e in
      let at : n' + 0 ≡ n' = omega arith in
      subst (λ b. NowIn cur (if b then rules.uncased p cs cx m labels (suc n') nows else joined now
      (rules.uncased p cs cx m labels (suc n') nows)))
      (sym (ap (λ k. Rattle.std.specs.List.list_any (rules.is_label k) labels) (sym at) ∙ f))
      (joined_left cur now (rules.uncased p cs cx m labels (suc n') nows) (subst (λ z. NowIn cur z) (sym same) (now_refl cur)))
  uncased_has labels (suc j) n' (now ∷ nows) cur e f =
      let at : n' + suc j ≡ suc n' + j = omega arith in
      either (Rattle.std.specs.List.list_any (rules.is_label n') labels)
      (uncased_has labels j (suc n') nows cur e (ap (λ k. Rattle.std.specs.List.list_any (rules.is_label k) labels) (sym at) ∙ f))
    where
      either : (b : Bool) → NowIn cur (rules.uncased p cs cx m labels (suc n') nows) →
          NowIn cur (if b then rules.uncased p cs cx m labels (suc n') nows else joined now (rules.uncased p cs cx m labels (suc n') nows))
      either true i = i
      either false i = joined_right cur (rules.uncased p cs cx m labels (suc n') nows) now i

  label_same : (k : ℕ) (l : Option ℕ) → rules.is_label k l ≡ case_at k l
  label_same k None = refl
  label_same k (Some j) = refl

  default_same : (l : Option ℕ) → rules.is_default l ≡ Rattle.jv_values.specs.Statements.is_default l
  default_same None = refl
  default_same (Some j) = refl

  -- where a label is, what it leads to flows in
  enters_case : (rn : Now) (nows : List Now) (k : ℕ) (cur : Now) → slice_get nows k ≡ Some cur → (labels : List (Option ℕ)) →
      Rattle.jv_values.specs.Statements.any_label (case_at k) labels ≡ true → NowIn cur (rules.entry_of p cs cx m rn nows labels)
  enters_case rn nows k cur e [] h = absurd (cc)
  enters_case rn nows k cur e (None ∷ labels) h = joined_right cur (rules.entry_of p cs cx m rn nows labels) rn
      (enters_case rn nows k cur e labels h)
  enters_case rn nows k cur e (Some j ∷ labels) h = go (nat_eq j k) refl h (λ h. enters_case rn nows k cur e labels h)
    where
      go : (b : Bool) → nat_eq j k ≡ b → (Rattle.std.specs.Prelude.◌||◌ b (Rattle.jv_values.specs.Statements.any_label (case_at k) labels))
          ≡ true →
          (Rattle.jv_values.specs.Statements.any_label (case_at k) labels ≡ true → NowIn cur (rules.entry_of p cs cx m rn nows labels)) →
          NowIn cur (rules.entry_of p cs cx m rn nows (Some j ∷ labels))
      go true is h ih = joined_left cur (elim (slice_get nows j) as (λ _. Now) [ None ↦ None | Some now ↦ now ])
          (rules.entry_of p cs cx m rn nows labels)
          (subst (λ o. NowIn cur (elim o as (λ _. Now) [ None ↦ None | Some now ↦ now ]))
          (sym (ap (slice_get nows) (Rattle.std.proofs.lemmas.Bool.eqb-true j k is) ∙ e)) (now_refl cur))
      go false is h ih = joined_right cur (rules.entry_of p cs cx m rn nows labels)
          (elim (slice_get nows j) as (λ _. Now) [ None ↦ None | Some now ↦ now ]) (ih h)

  enters_default : (rn : Now) (nows : List Now) (cur : Now) → NowIn cur rn → (labels : List (Option ℕ)) →
      Rattle.jv_values.specs.Statements.any_label Rattle.jv_values.specs.Statements.is_default labels ≡ true →
      NowIn cur (rules.entry_of p cs cx m rn nows labels)
  enters_default rn nows cur i [] h = absurd (cc)
  enters_default rn nows cur i (None ∷ labels) h = joined_left cur rn (rules.entry_of p cs cx m rn nows labels) i
  enters_default rn nows cur i (Some j ∷ labels) h = joined_right cur (rules.entry_of p cs cx m rn nows labels)
      (elim (slice_get nows j) as (λ _. Now) [ None ↦ None | Some now ↦ now ]) (enters_default rn nows cur i labels h)

  -- no group is entered
  from_none : (w : Option ℕ → Bool) (gs : Groups) (s : Lives ℕ) → has_group w gs ≡ false → XF w gs s ≡ Gives Normal s
  from_none w NoGroup s e = refl
  from_none w (Group labels body end more) s e =
      let o = or_first (Rattle.jv_values.specs.Statements.any_label w labels) (has_group w more) e in
      ap (λ b. (if b then XA body >>= Rattle.jv_values.specs.Statements.next_do (XG more) else XF w more) s) o.0 ∙ from_none w more s o.1

  pub switch_groups : (sc : List ℕ) (ts : List Around) (gs : Groups) (nows : List Now) (log : Log) (rest : List Root) (k : ℕ) (s : Lives ℕ)
      → AtCase sc nows rest k s →
      Quiet t ((FO sc (rules.uncased p cs cx m (rules.all_labels gs) 0 nows) nows gs None log).log) →
      ((wanted : Option ℕ → Bool) (cur : Now) → Enters (rules.uncased p cs cx m (rules.all_labels gs) 0 nows) nows wanted cur →
      has_group wanted gs ≡ true → (s : Lives ℕ) → L sc cur rest s →
      Good p t (P sc sc (ASwitch ∷ ts) (FO sc (rules.uncased p cs cx m (rules.all_labels gs) 0 nows) nows gs None log) rest)
      (XF wanted gs s)) →
      Good p t (P sc sc (ASwitch ∷ ts) (flow (joined (FO sc (rules.uncased p cs cx m (rules.all_labels gs) 0 nows) nows gs None log).now
      (rules.past p cs cx m gs nows)) (FO sc (rules.uncased p cs cx m (rules.all_labels gs) 0 nows) nows gs None log).jumps
      (FO sc (rules.uncased p cs cx m (rules.all_labels gs) 0 nows) nows gs None log).log) rest)
      ((if has_group (case_at k) gs then XF (case_at k) gs else XF Rattle.jv_values.specs.Statements.is_default gs) s)
  switch_groups sc ts gs nows log rest k s at quiet good = cased (has_group (case_at k) gs) refl
    where
      cased : (z : Bool) → has_group (case_at k) gs ≡ z →
          Good p t (P sc sc (ASwitch ∷ ts) (flow (joined (FO sc (rules.uncased p cs cx m (rules.all_labels gs) 0 nows) nows gs None log).now
          (rules.past p cs cx m gs nows)) (FO sc (rules.uncased p cs cx m (rules.all_labels gs) 0 nows) nows gs None log).jumps
          (FO sc (rules.uncased p cs cx m (rules.all_labels gs) 0 nows) nows gs None log).log) rest)
          ((if z then XF (case_at k) gs else XF Rattle.jv_values.specs.Statements.is_default gs) s)
      cased true e =
          let f = FO sc (rules.uncased p cs cx m (rules.all_labels gs) 0 nows) nows gs None log in
          good_as p t (P sc sc (ASwitch ∷ ts) f rest)
          (P sc sc (ASwitch ∷ ts) (flow (joined f.now (rules.past p cs cx m gs nows)) f.jumps f.log) rest) (XF (case_at k) gs s)
          (good (case_at k) at.cur (record {
            enters = λ labels h. enters_case (rules.uncased p cs cx m (rules.all_labels gs) 0 nows) nows k
                at.cur at.is labels h;
          }) e s at.lives)
          (λ c s2 h2. post_in p reached t m cx me sc sc (ASwitch ∷ ts) f (flow (joined f.now (rules.past p cs cx m gs nows)) f.jumps f.log)
          rest c s2
          (record {
            now = joined_left f.now f.now (rules.past p cs cx m gs nows) (now_refl f.now);
            jumps =
                λ to. now_refl (caught to f.jumps);
          }) h2)
      cased false e = other (has_group Rattle.jv_values.specs.Statements.is_default gs) refl
        where
          zeroed : 0 + k ≡ k
          zeroed = omega arith

          uncased_here : NowIn at.cur (rules.uncased p cs cx m (rules.all_labels gs) 0 nows)
          uncased_here = uncased_has (rules.all_labels gs) k 0 nows at.cur at.is
              (ap (λ j. Rattle.std.specs.List.list_any (rules.is_label j) (rules.all_labels gs)) zeroed
              ∙ none_in_list (rules.is_label k) (rules.all_labels gs) (λ l i. label_same k l ∙ no_group_label (case_at k) gs e l i))

          other : (z : Bool) → has_group Rattle.jv_values.specs.Statements.is_default gs ≡ z →
              Good p t (P sc sc (ASwitch ∷ ts)
              (flow (joined (FO sc (rules.uncased p cs cx m (rules.all_labels gs) 0 nows) nows gs None log).now
              (rules.past p cs cx m gs nows)) (FO sc (rules.uncased p cs cx m (rules.all_labels gs) 0 nows) nows gs None log).jumps
              (FO sc (rules.uncased p cs cx m (rules.all_labels gs) 0 nows) nows gs None log).log) rest)
              (XF Rattle.jv_values.specs.Statements.is_default gs s)
          other true g =
              let f = FO sc (rules.uncased p cs cx m (rules.all_labels gs) 0 nows) nows gs None log in
              good_as p t (P sc sc (ASwitch ∷ ts) f rest)
              (P sc sc (ASwitch ∷ ts) (flow (joined f.now (rules.past p cs cx m gs nows)) f.jumps f.log) rest)
              (XF Rattle.jv_values.specs.Statements.is_default gs s)
              (good Rattle.jv_values.specs.Statements.is_default at.cur
              (record {
                enters = λ labels h. enters_default (rules.uncased p cs cx m (rules.all_labels gs) 0 nows) nows at.cur
                    uncased_here labels h;
              }) g s at.lives)
              (λ c s2 h2. post_in p reached t m cx me sc sc (ASwitch ∷ ts) f (flow (joined f.now (rules.past p cs cx m gs nows)) f.jumps
              f.log) rest c s2
              (record {
                now = joined_left f.now f.now (rules.past p cs cx m gs nows) (now_refl f.now);
                jumps =
                    λ to. now_refl (caught to f.jumps);
              }) h2)
          other false g =
              let f = FO sc (rules.uncased p cs cx m (rules.all_labels gs) 0 nows) nows gs None log in
              let no_default : Rattle.std.specs.List.list_any rules.is_default (rules.all_labels gs) ≡ false =
              none_in_list rules.is_default (rules.all_labels gs)
              (λ l i. default_same l ∙ no_group_label Rattle.jv_values.specs.Statements.is_default gs g l i) in
              subst (λ o. Good p t (P sc sc (ASwitch ∷ ts) (flow (joined f.now (rules.past p cs cx m gs nows)) f.jumps f.log) rest) o)
              (sym (from_none Rattle.jv_values.specs.Statements.is_default gs s g))
              (lv_in p reached t m cx me sc at.cur (joined f.now (rules.past p cs cx m gs nows)) rest s
              (joined_right at.cur (rules.past p cs cx m gs nows) f.now
              (subst (λ b. NowIn at.cur (if b then None else rules.uncased p cs cx m (rules.all_labels gs) 0 nows)) (sym no_default)
              uncased_here)) at.lives)

-- Well typed statements end well, and complete as their conditions say.
use Rattle.std.proofs.Common.{◌≡◌, ◌≢◌, inl, inr, ℕ, Bool, true, false, List, ◌∷◌, Option, Some, None, refl, sym, ap, ◌∙◌, subst}
use Rattle.std.proofs.Common.{true≢false}
use Rattle.std.specs.Prelude.{if◌then◌else◌, ◌||◌, slice_get, option_map, option_and_then}
use Rattle.std.specs.Str.{bytes_eq}
use Rattle.mg_text.specs.declared.place.Place.{Place}
use Rattle.jv_values.specs.Values.{Value, Shared, Wrong, Inputs, Here, Lives}
use Rattle.jv_values.specs.Doing.{Run, Gives, ◌>>=◌, give, stop, found, valued, within, declared, truth, constant}
use Rattle.jv_values.specs.Operators.{shown, print}
use Rattle.jv_values.specs.Objects.{write_field}
use Rattle.mg_text.specs.declared.event.Event.TheVariants as seen
use Rattle.jv_values.specs.Statements.{Completion, Normal, Breaks, Continues, Returns, Does, next_do, assigned, after_body, after_switch}
use Rattle.jv_values.specs.Statements.{is_default, case_at, any_label}
use Rattle.jv_tree.specs.BuiltIn.{session_method}
use Rattle.jv_core.proofs.PlainTypes.{no_enum}
use Rattle.jv_core.specs.declared.tree.Var.{Var}
use Rattle.jv_core.specs.declared.tree.Var.TheVariants as vars
use Rattle.jv_core.specs.declared.program.CoreType.{CoreType}
use Rattle.jv_core.specs.declared.program.CoreType.TheVariants as types
use Rattle.jv_core.specs.Tree.{Expr, Truth, Stmt, Stmts, Groups, NoGroup, Group, Program, Method}
use Rattle.jv_core.specs.Tree
use Rattle.jv_core.specs.Lookup.{enum_text, variable_type, IsInstance}
use Rattle.jv_core.specs.Types.{IsShown, IsVariable, Has}
use Rattle.jv_core.specs.Types
use Rattle.jv_core.specs.Statements.{Target, LoopOf, ASwitch, MayBreak, Declares, Fine, FineAll, FineGroups}
use Rattle.jv_core.specs.Statements
use Rattle.jv_core.specs.Completes.{Exit, Through, IsAlwaysTrue, Leaves, LeavesAll, LeavesSome, LeavesLast}
use Rattle.jv_core.specs.Completes as exits
use Rattle.jv_core.specs.Conditions.{IsMethod, IsCore}
use Rattle.jv_core.specs.Meaning.{Lower, enum_in, type_given, enum_given, mine, has_group, own_field, write, eval, value, test, position}
use Rattle.jv_core.specs.Meaning.{exec, exec_all, exec_from, exec_groups}
use Rattle.jv_sound.proofs.Lists.{same_name}
use Rattle.jv_sound.proofs.Worlds.{World, Extends, same_world, further, Runs, runs_give, runs_then, runs_as, runs_at, runs_later, good_give}
use Rattle.jv_sound.proofs.Worlds.{Fits, fits_more, GivesA, RowFits, puts}
use Rattle.jv_sound.proofs.Worlds as worlds
use Rattle.jv_sound.proofs.Operators.{truth_runs, constant_runs, shows}
use Rattle.jv_sound.proofs.Sessions.{note_runs}
use Rattle.jv_sound.proofs.Objects.{Heap, noted, Owned, owned_more, write_runs}
use Rattle.jv_sound.proofs.Expressions.{usable, field_at, variable_usable, CallsWell, eval_good, value_good, field_runs}
use Rattle.jv_sound.proofs.Completions.{Living, within_runs, declared_runs, Comes, comes_as, completes_so, next_runs, after_runs, GroupsCan}
use Rattle.jv_sound.proofs.Completions.{FromCan, SwitchCan, last_of, last_more, has_default, switch_runs}

module _ (p : Program) (ok : IsCore p) where
  -- the class of the object that code of a method runs on
  abbrev pub On : Method → Option ℕ → World → Type 0
  On m this w = IsInstance m.kind → Owned p ok w m.class this

  pub on_more : (m : Method) (this : Option ℕ) {w x : World} → Extends w x → On m this w → On m this x
  on_more m this q o i = owned_more p ok q (o i)

  -- what is meant with one less ends well
  pub record Lowers (low : Lower) : Type 0 where
    pub calls : CallsWell p ok low
    pub turn : (n : ℕ) (m : Method) → slice_get p.methods n ≡ Some m → (this : Option ℕ) (sc : List ℕ) (ts : List Target) (z : Stmt) →
        Fine p m sc ts z → (w : World) → On m this w →
        Runs (Living p ok m sc) (Comes p ok m ts (Leaves z)) w
        (low.turn (record { class = m.class; object = this }) (record { method = n; stmt = z }))

  module _ (inputs : Inputs) (low : Lower) (lows : Lowers low) (n : ℕ) (m : Method) (at : slice_get p.methods n ≡ Some m)
      (is : IsMethod p m) (this : Option ℕ) where
    abbrev here : Here ℕ
    here = record { class = m.class; object = this }

    abbrev H : World → Shared → Type 0
    H = Heap p ok

    abbrev L : List ℕ → World → Lives ℕ → Type 0
    L = Living p ok m

    abbrev C : List Target → (Exit → Type 0) → World → Completion ℕ → Type 0
    C = Comes p ok m

    abbrev Any : {A : Type 0} → World → A → Type 0
    Any w a = Unit {0}

    abbrev Typed : CoreType → World → Value → Type 0
    Typed t w v = Fits p w v t

    abbrev This : World → Type 0
    This = On m this

    later : {w x : World} → Extends w x → This w → This x
    later q o = on_more m this q o

    -- Expressions in statements.

    value_runs : (sc : List ℕ) (e : Expr) (t : CoreType) → t ≢ types.Void → Has p m sc e t → (w : World) → This w →
        Runs (L sc) (Typed t) w (value p inputs low n here e)
    value_runs sc e t full h w o = within_runs p ok m (Typed t) sc w (λ locals. valued (eval p inputs low n here locals e))
        (λ x row q r. value_good p ok inputs low lows.calls n m at this full h x (later q o) r)

    test_any : (sc : List ℕ) (e : Expr) → Has p m sc e types.Boolean → (w : World) → This w →
        Runs (L sc) Any w (test p inputs low n here e)
    test_any sc e h w o = within_runs p ok m Any sc w (λ locals. valued (eval p inputs low n here locals e) >>= truth)
        (λ x row q r. runs_then H (Typed types.Boolean) Any x (valued (eval p inputs low n here row e)) truth
        (value_good p ok inputs low lows.calls n m at this (λ e. cc) h x (later q o) r) (λ y v z f. truth_runs p H y v f))

    -- a test of the literal `true` gives true
    abbrev Tested : Expr → World → Bool → Type 0
    Tested e w b = IsAlwaysTrue e → b ≡ true

    test_runs : (sc : List ℕ) (e : Expr) → Has p m sc e types.Boolean → (w : World) → This w →
        Runs (L sc) (Tested e) w (test p inputs low n here e)
    test_runs sc (Truth q b) h w o = within_runs p ok m (Tested (Truth q b)) sc w (λ locals. give b)
        (λ x row z r. runs_give H (Tested (Truth q b)) x b (λ y z i. i))
    test_runs sc (Tree.Int q z) h w o = runs_as (L sc) Any (Tested (Tree.Int q z)) w _ (test_any sc (Tree.Int q z) h w o)
        (λ x b u i. absurd i)
    test_runs sc (Tree.Text q s) h w o = runs_as (L sc) Any (Tested (Tree.Text q s)) w _ (test_any sc (Tree.Text q s) h w o)
        (λ x b u i. absurd i)
    test_runs sc (Tree.Null q) h w o = runs_as (L sc) Any (Tested (Tree.Null q)) w _ (test_any sc (Tree.Null q) h w o)
        (λ x b u i. absurd i)
    test_runs sc (Tree.Variable q x) h w o = runs_as (L sc) Any (Tested (Tree.Variable q x)) w _ (test_any sc (Tree.Variable q x) h w o)
        (λ x b u i. absurd i)
    test_runs sc (Tree.Constant q of i) h w o = runs_as (L sc) Any (Tested (Tree.Constant q of i)) w _
        (test_any sc (Tree.Constant q of i) h w o) (λ x b u i. absurd i)
    test_runs sc (Tree.Neg q a) h w o = runs_as (L sc) Any (Tested (Tree.Neg q a)) w _ (test_any sc (Tree.Neg q a) h w o)
        (λ x b u i. absurd i)
    test_runs sc (Tree.Not q a) h w o = runs_as (L sc) Any (Tested (Tree.Not q a)) w _ (test_any sc (Tree.Not q a) h w o)
        (λ x b u i. absurd i)
    test_runs sc (Tree.Binary q op a b) h w o = runs_as (L sc) Any (Tested (Tree.Binary q op a b)) w _
        (test_any sc (Tree.Binary q op a b) h w o) (λ x b u i. absurd i)
    test_runs sc (Tree.Protocol q x i args) h w o =
        runs_as (L sc) Any (Tested (Tree.Protocol q x i args)) w _ (test_any sc (Tree.Protocol q x i args) h w o) (λ x b u i. absurd i)
    test_runs sc (Tree.Helper q i args) h w o = runs_as (L sc) Any (Tested (Tree.Helper q i args)) w _
        (test_any sc (Tree.Helper q i args) h w o) (λ x b u i. absurd i)
    test_runs sc (Tree.Static q i args) h w o = runs_as (L sc) Any (Tested (Tree.Static q i args)) w _
        (test_any sc (Tree.Static q i args) h w o) (λ x b u i. absurd i)
    test_runs sc (Tree.Equals q a b) h w o = runs_as (L sc) Any (Tested (Tree.Equals q a b)) w _ (test_any sc (Tree.Equals q a b) h w o)
        (λ x b u i. absurd i)
    test_runs sc (Tree.Concat q a b) h w o = runs_as (L sc) Any (Tested (Tree.Concat q a b)) w _ (test_any sc (Tree.Concat q a b) h w o)
        (λ x b u i. absurd i)
    test_runs sc (Tree.Session q c args) h w o = runs_as (L sc) Any (Tested (Tree.Session q c args)) w _
        (test_any sc (Tree.Session q c args) h w o) (λ x b u i. absurd i)
    test_runs sc (Tree.New q c) h w o = runs_as (L sc) Any (Tested (Tree.New q c)) w _ (test_any sc (Tree.New q c) h w o)
        (λ x b u i. absurd i)

    -- the enum that an expression gives
    type_is : (sc : List ℕ) (e : Expr) (of : ℕ) (t : CoreType) → Has p m sc e t → t ≡ types.Enum of → type_given p n e ≡ Some t
    type_is sc _ of t Types.int g = absurd (cc)
    type_is sc _ of t Types.truth g = absurd (cc)
    type_is sc _ of t Types.text g = absurd (cc)
    type_is sc _ of t Types.null g = absurd (cc)
    type_is sc _ of t (Types.variable {x = x} v) g = ap (option_and_then (λ m. variable_type p m x)) at ∙ v.type
    type_is sc _ of t (Types.constant e lt) g = refl
    type_is sc _ of t (Types.negative x) g = absurd (cc)
    type_is sc _ of t (Types.opposite x) g = absurd (cc)
    type_is sc _ of t (Types.sum x y) g = absurd (cc)
    type_is sc _ of t (Types.text_and x y i) g = absurd (cc)
    type_is sc _ of t (Types.and_text x i y) g = absurd (cc)
    type_is sc _ of t (Types.computed i x y) g = absurd (cc)
    type_is sc _ of t (Types.ordered i x y) g = absurd (cc)
    type_is sc _ of t (Types.logic i x y) g = absurd (cc)
    type_is sc _ of t (Types.same i c x y) g = absurd (cc)
    type_is sc _ of t (Types.is_null i v) g = absurd (cc)
    type_is sc _ of t (Types.null_is i v) g = absurd (cc)
    type_is sc _ of t (Types.protocol v c xs e u) g = ap (option_map (λ (m : Method). m.result)) c.at ∙ ap Some e
    type_is sc _ of t (Types.helper i c own xs e) g = ap (option_map (λ (m : Method). m.result)) c.at ∙ ap Some e
    type_is sc _ of t (Types.static c xs e) g = ap (option_map (λ (m : Method). m.result)) c.at ∙ ap Some e
    type_is sc _ of t (Types.equals x y s) g = absurd (cc)
    type_is sc _ of t (Types.concat x y s) g = absurd (cc)
    type_is sc _ of t (Types.session {c = c} xs e) g = absurd (no_enum (session_method c).result of (e ∙ g))
    type_is sc _ of t (Types.new h) g = absurd (cc)

    position_runs : (sc : List ℕ) (e : Expr) (of : ℕ) → Has p m sc e (types.Enum of) → (w : World) → This w →
        Runs (L sc) Any w (position p inputs low n here e)
    position_runs sc e of h w o = within_runs p ok m Any sc w
        (λ locals. valued (eval p inputs low n here locals e) >>= constant >>= λ v. found
        (enum_given p n e) >>= λ name. if bytes_eq v.0 name then give v.1 else stop Wrong)
        (λ x row q r. runs_then H (λ w c. enum_text p of ≡ Some c.0) Any x (valued (eval p inputs low n here row e) >>= constant)
        (λ v. found (enum_given p n e) >>= λ name. if bytes_eq v.0 name then give v.1 else stop Wrong)
        (runs_then H (Typed (types.Enum of)) (λ w c. enum_text p of ≡ Some c.0) x (valued (eval p inputs low n here row e)) constant
        (value_good p ok inputs low lows.calls n m at this (λ e. cc) h x (later q o) r) (λ y v z f. constant_runs p H y of v f))
        (λ y v z named. runs_at H Any y (enum_given p n e) v.0 (λ name. if bytes_eq v.0 name then give v.1 else stop Wrong)
        (ap (λ t. option_and_then (enum_text p) (option_and_then enum_in t)) (type_is sc e of (types.Enum of) h refl) ∙ named)
        (subst (λ b. Runs H Any y (if b then give v.1 else stop Wrong)) (sym (same_name v.0)) (runs_give H Any y v.1 (λ x q. tt)))))

    print_runs : (sc : List ℕ) (e : Expr) (t : CoreType) → Has p m sc e t → IsShown t → t ≢ types.Void → (w : World) → This w →
        Runs (L sc) Any w (within (λ locals. valued (eval p inputs low n here locals e) >>= print))
    print_runs sc e t h i full w o = within_runs p ok m Any sc w (λ locals. valued (eval p inputs low n here locals e) >>= print)
        (λ x row q r. runs_then H (Typed t) Any x (valued (eval p inputs low n here row e)) print
        (value_good p ok inputs low lows.calls n m at this full h x (later q o) r)
        (λ y v z f. let s = shows p H y v t i f in runs_at H Any y (shown v) s.text (λ t. note t) s.is
        (note_runs p H (noted p ok) y (seen.Print s.text))))
      where
        note : List ℕ → Run Shared (Unit {0})
        note t = Rattle.jv_values.specs.Doing.note (seen.Print t)

    -- Assignments.

    assign_runs : (sc : List ℕ) (ts : List Target) (x : Var) (t : CoreType) (v : Value) → IsVariable p m sc x t →
        (Can : Exit → Type 0) → Can Through → (w : World) → This w → Fits p w v t →
        Runs (L sc) (C ts Can) w (write p inputs low n here x v)
    assign_runs sc ts (vars.Slot k) t v var Can can w o f = record {
      run = λ x q s h.
          let r = puts p m k v h.locals var.visible var.type (fits_more p q f) in
          subst (λ row. worlds.Good (L sc) (C ts Can) x (assigned row (within (λ locals. stop Wrong)) s)) (sym r.is)
          (good_give (L sc) (C ts Can) x Normal (record s { locals = r.row }) (record { locals = r.fits; shared = h.shared }) can);
    }
    assign_runs sc ts (vars.Field i) t v var Can can w o f =
        let d = field_at p m.class i t var.type in
        runs_then (L sc) Any (C ts Can) w (within (λ locals. own_field p inputs low n here i >>= λ names. write_field names.0 this names.1
        v)) (λ done. give Normal)
        (within_runs p ok m Any sc w (λ locals. own_field p inputs low n here i >>= λ names. write_field names.0 this names.1 v)
        (λ x row q r. field_runs p ok inputs low lows.calls n m at this Any x i t d (λ names. write_field names.0 this names.1 v)
        (write_runs p ok x m.class d.class this i d.field v d.at (later q o var.visible) d.field_at
        (subst (Fits p x v) (sym d.type) (fits_more p q f)))))
        (λ x u q t. completes_so p ok m sc ts Can x Normal can)

    abbrev chosen : Bool → Does ℕ → Does ℕ → Does ℕ
    chosen b one other = if b then one else other

    choice_runs : (sc : List ℕ) (P : World → Completion ℕ → Type 0) (w : World) (b : Bool) (one other : Does ℕ) →
        (b ≡ true → Runs (L sc) P w one) → (b ≡ false → Runs (L sc) P w other) → Runs (L sc) P w (if b then one else other)
    choice_runs sc P w true one other f g = f refl
    choice_runs sc P w false one other f g = g refl

    -- What groups come to, by what their parts come to.

    at_case : (wanted : Option ℕ → Bool) (gs : Groups) → has_group wanted gs ≡ true → (e : Exit) → FromCan p ok m wanted gs e →
        SwitchCan p ok m gs e
    at_case wanted gs has Through (inl none) = absurd (true≢false (sym has ∙ none))
    at_case wanted gs has Through (inr l) = inr l
    at_case wanted gs has (exits.Breaks l) h = h
    at_case wanted gs has (exits.Continues l) h = h

    at_default : (gs : Groups) (e : Exit) → FromCan p ok m is_default gs e → SwitchCan p ok m gs e
    at_default gs Through (inl none) = inl (λ h. true≢false (sym (has_default p ok m gs h) ∙ none))
    at_default gs Through (inr l) = inr l
    at_default gs (exits.Breaks l) h = h
    at_default gs (exits.Continues l) h = h

    on_groups : (labels : List (Option ℕ)) (body : Stmts) (end : Place) (rest : Groups) → LeavesAll body Through → (e : Exit) →
        GroupsCan p ok m rest e → GroupsCan p ok m (Group labels body end rest) e
    on_groups labels body end rest b Through h = inr (last_of p ok m labels body end rest b h)
    on_groups labels body end rest b (exits.Breaks l) h = inr h
    on_groups labels body end rest b (exits.Continues l) h = inr h

    into_groups : (labels : List (Option ℕ)) (body : Stmts) (end : Place) (rest : Groups) (e : Exit) → e ≢ Through → LeavesAll body e →
        GroupsCan p ok m (Group labels body end rest) e
    into_groups labels body end rest Through no_end h = absurd (no_end refl)
    into_groups labels body end rest (exits.Breaks l) no_end h = inl h
    into_groups labels body end rest (exits.Continues l) no_end h = inl h

    on_from : (wanted : Option ℕ → Bool) (labels : List (Option ℕ)) (body : Stmts) (end : Place) (rest : Groups) →
        LeavesAll body Through → (e : Exit) → GroupsCan p ok m rest e → FromCan p ok m wanted (Group labels body end rest) e
    on_from wanted labels body end rest b Through h = inr (last_of p ok m labels body end rest b h)
    on_from wanted labels body end rest b (exits.Breaks l) h = inr h
    on_from wanted labels body end rest b (exits.Continues l) h = inr h

    into_from : (wanted : Option ℕ → Bool) (labels : List (Option ℕ)) (body : Stmts) (end : Place) (rest : Groups) (e : Exit) →
        e ≢ Through → LeavesAll body e → FromCan p ok m wanted (Group labels body end rest) e
    into_from wanted labels body end rest Through no_end h = absurd (no_end refl)
    into_from wanted labels body end rest (exits.Breaks l) no_end h = inl h
    into_from wanted labels body end rest (exits.Continues l) no_end h = inl h

    past_from : (wanted : Option ℕ → Bool) (labels : List (Option ℕ)) (body : Stmts) (end : Place) (rest : Groups) →
        any_label wanted labels ≡ false → (e : Exit) → FromCan p ok m wanted rest e → FromCan p ok m wanted (Group labels body end rest) e
    past_from wanted labels body end rest miss Through (inl none) = inl (ap (λ b. b || has_group wanted rest) miss ∙ none)
    past_from wanted labels body end rest miss Through (inr l) = inr (last_more p ok m labels body end rest l)
    past_from wanted labels body end rest miss (exits.Breaks l) h = inr h
    past_from wanted labels body end rest miss (exits.Continues l) h = inr h

    mutual
      pub exec_good : {sc : List ℕ} {ts : List Target} {z : Stmt} → Fine p m sc ts z → (w : World) → This w →
          Runs (L sc) (C ts (Leaves z)) w (exec p inputs low n here z)
      exec_good (Statements.block x) w o = all_good x w o
      exec_good {sc} {ts} {z} Statements.empty w o = completes_so p ok m sc ts (Leaves z) w Normal refl
      exec_good {sc} {ts} {z} (Statements.local {k = k} {e = e} d) w o =
          runs_then (L sc) (Typed d.type) (C ts (Leaves z)) w (value p inputs low n here e) (λ v. declared k v (give Normal))
          (value_runs sc e d.type (usable p d.type (variable_usable p ok m is (vars.Slot k) d.type d.is)) d.value w o)
          (λ x v q f. declared_runs p ok m (C ts (Leaves z)) sc x k d.type v (give Normal) d.is f
          (completes_so p ok m (k ∷ sc) ts (Leaves z) x Normal refl))
      exec_good {sc} {ts} {z} (Statements.assign {x = x} {e = e} {t = t} v h) w o =
          runs_then (L sc) (Typed t) (C ts (Leaves z)) w (value p inputs low n here e) (write p inputs low n here x.var)
          (value_runs sc e t (usable p t (variable_usable p ok m is x.var t v.type)) h w o)
          (λ y u q f. assign_runs sc ts x.var t u v (Leaves z) refl y (later q o) f)
      exec_good {sc} {ts} {z} (Statements.if_true {c = c} {s = s} h x) w o =
          runs_then (L sc) Any (C ts (Leaves z)) w (test p inputs low n here c)
          (λ t. if t then exec p inputs low n here s else give Normal) (test_any sc c h w o)
          (λ y t q u. choice_runs sc (C ts (Leaves z)) y t (exec p inputs low n here s) (give Normal)
          (λ e. runs_as (L sc) (C ts (Leaves s)) (C ts (Leaves z)) y (exec p inputs low n here s) (exec_good x y (later q o))
          (λ a d h. comes_as p ok m ts (Leaves s) (Leaves z) a d (λ e l. inr l) h))
          (λ e. completes_so p ok m sc ts (Leaves z) y Normal (inl refl)))
      exec_good {sc} {ts} {z} (Statements.if_else {c = c} {s = s} {r = r} h x g) w o =
          runs_then (L sc) Any (C ts (Leaves z)) w (test p inputs low n here c)
          (λ t. if t then exec p inputs low n here s else exec p inputs low n here r) (test_any sc c h w o)
          (λ y t q u. choice_runs sc (C ts (Leaves z)) y t (exec p inputs low n here s) (exec p inputs low n here r)
          (λ e. runs_as (L sc) (C ts (Leaves s)) (C ts (Leaves z)) y (exec p inputs low n here s) (exec_good x y (later q o))
          (λ a d h. comes_as p ok m ts (Leaves s) (Leaves z) a d (λ e l. inl l) h))
          (λ e. runs_as (L sc) (C ts (Leaves r)) (C ts (Leaves z)) y (exec p inputs low n here r) (exec_good g y (later q o))
          (λ a d h. comes_as p ok m ts (Leaves r) (Leaves z) a d (λ e l. inr l) h)))
      exec_good {sc} {ts} {z} (Statements.while_true {l = l} {c = c} {s = s} d h x) w o =
          let again = low.turn here (record { method = n; stmt = z }) in
          runs_then (L sc) (Tested c) (C ts (Leaves z)) w (test p inputs low n here c)
          (λ t. if t then exec p inputs low n here s >>= after_body (mine l) (mine l) again else give Normal) (test_runs sc c h w o)
          (λ y t q known. choice_runs sc (C ts (Leaves z)) y t (exec p inputs low n here s >>= after_body (mine l) (mine l) again)
          (give Normal)
          (λ e. runs_then (L sc) (C (LoopOf l ∷ ts) (Leaves s)) (C ts (Leaves z)) y (exec p inputs low n here s)
          (after_body (mine l) (mine l) again) (exec_good x y (later q o))
          (λ a b r g. after_runs p ok m sc ts (Leaves s) (Leaves z) a l b again g
          (λ u. lows.turn n m at this sc ts z (Statements.while_true d h x) a (later (further q r) o)) (λ g. inl (refl, inr g))
          (λ e i g. inr (i, g))))
          (λ e. completes_so p ok m sc ts (Leaves z) y Normal (inl (refl, inl (λ i. true≢false (sym (known i) ∙ e))))))
      exec_good {sc} {ts} {z} (Statements.do_while {l = l} {c = c} {s = s} d x h) w o =
          let again = low.turn here (record { method = n; stmt = z }) in
          runs_then (L sc) (C (LoopOf l ∷ ts) (Leaves s)) (C ts (Leaves z)) w (exec p inputs low n here s)
          (after_body (mine l) (mine l) (test p inputs low n here c >>= λ t. if t then again else give Normal)) (exec_good x w o)
          (λ a b r g. after_runs p ok m sc ts (Leaves s) (Leaves z) a l b
          (test p inputs low n here c >>= λ t. if t then again else give Normal) g
          (λ u. runs_then (L sc) (Tested c) (C ts (Leaves z)) a (test p inputs low n here c) (λ t. if t then again else give Normal)
          (test_runs sc c h a (later r o))
          (λ y t q known. choice_runs sc (C ts (Leaves z)) y t again (give Normal)
          (λ e. lows.turn n m at this sc ts z (Statements.do_while d x h) y (later (further r q) o))
          (λ e. completes_so p ok m sc ts (Leaves z) y Normal (inl (refl, inl ((λ i. true≢false (sym (known i) ∙ e)), u))))))
          (λ g. inl (refl, inr g)) (λ e i g. inr (i, g)))
      exec_good {sc} {ts} {z} (Statements.switch {q = place} {end = end} {e = e} {gs = gs} {of = of} h cases g) w o =
          runs_then (L sc) Any (C ts (Leaves z)) w (position p inputs low n here e)
          (λ k. (if has_group (case_at k) gs then exec_from p inputs low n here
          (case_at k) gs else exec_from p inputs low n here is_default gs) >>= after_switch) (position_runs sc e of h w o)
          (λ y k q u. runs_then (L sc) (C (ASwitch ∷ ts) (SwitchCan p ok m gs)) (C ts (Leaves z)) y
          (if has_group (case_at k) gs then exec_from p inputs low n here
          (case_at k) gs else exec_from p inputs low n here is_default gs) after_switch
          (choice_runs sc (C (ASwitch ∷ ts) (SwitchCan p ok m gs)) y (has_group (case_at k) gs)
          (exec_from p inputs low n here (case_at k) gs) (exec_from p inputs low n here is_default gs)
          (λ has. runs_as (L sc) (C (ASwitch ∷ ts) (FromCan p ok m (case_at k) gs)) (C (ASwitch ∷ ts) (SwitchCan p ok m gs)) y
          (exec_from p inputs low n here (case_at k) gs) (from_good (case_at k) g y (later q o))
          (λ a d h. comes_as p ok m (ASwitch ∷ ts) (FromCan p ok m (case_at k) gs) (SwitchCan p ok m gs) a d
          (at_case (case_at k) gs has) h))
          (λ none. runs_as (L sc) (C (ASwitch ∷ ts) (FromCan p ok m is_default gs)) (C (ASwitch ∷ ts) (SwitchCan p ok m gs)) y
          (exec_from p inputs low n here is_default gs) (from_good is_default g y (later q o))
          (λ a d h. comes_as p ok m (ASwitch ∷ ts) (FromCan p ok m is_default gs) (SwitchCan p ok m gs) a d (at_default gs) h)))
          (λ a d r h. switch_runs p ok m sc ts place end e gs a d h))
      exec_good {sc} {ts} {z} (Statements.break {l = l} h) w o = completes_so p ok m sc ts (Leaves z) w (Breaks l) (refl, h)
      exec_good {sc} {ts} {z} (Statements.continue {l = l} h) w o = completes_so p ok m sc ts (Leaves z) w (Continues (Some l)) (refl, h)
      exec_good {sc} {ts} {z} (Statements.return {value = None} h) w o = completes_so p ok m sc ts (Leaves z) w (Returns None) h
      exec_good {sc} {ts} {z} (Statements.return {value = Some e} h) w o =
          runs_then (L sc) (Typed m.result) (C ts (Leaves z)) w (value p inputs low n here e) (λ v. give (Returns (Some v)))
          (value_runs sc e m.result h.0 h.1 w o)
          (λ y v q f. completes_so p ok m sc ts (Leaves z) y (Returns (Some v)) (f, h.0))
      exec_good {sc} {ts} {z} (Statements.print {e = e} {t = t} h i) w o =
          runs_then (L sc) Any (C ts (Leaves z)) w (within (λ locals. valued (eval p inputs low n here locals e) >>= print))
          (λ done. give Normal) (print_runs sc e t h i (λ v. subst IsShown v i) w o)
          (λ y u q t. completes_so p ok m sc ts (Leaves z) y Normal refl)
      exec_good {sc} {ts} {z} (Statements.eval {e = e} {t = t} h) w o =
          runs_then (L sc) (λ w r. GivesA p w r t) (C ts (Leaves z)) w (within (λ locals. eval p inputs low n here locals e))
          (λ v. give Normal)
          (within_runs p ok m (λ w r. GivesA p w r t) sc w (λ locals. eval p inputs low n here locals e)
          (λ x row q r. eval_good p ok inputs low lows.calls n m at this h x (later q o) r))
          (λ y u q t. completes_so p ok m sc ts (Leaves z) y Normal refl)

      pub all_good : {sc : List ℕ} {ts : List Target} {z : Stmts} → FineAll p m sc ts z → (w : World) → This w →
          Runs (L sc) (C ts (LeavesAll z)) w (exec_all p inputs low n here z)
      all_good {sc} {ts} {z} Statements.no_stmt w o = completes_so p ok m sc ts (LeavesAll z) w Normal refl
      all_good {sc} {ts} {z} (Statements.then {s = s} {more = rest} x g) w o =
          runs_then (L sc) (C ts (Leaves s)) (C ts (LeavesAll z)) w (exec p inputs low n here s)
          (next_do (exec_all p inputs low n here rest)) (exec_good x w o)
          (λ y d q h. next_runs p ok m sc ts (Leaves s) (LeavesAll z) y d (exec_all p inputs low n here rest) h
          (λ t. runs_as (L sc) (C ts (LeavesAll rest)) (C ts (LeavesAll z)) y (exec_all p inputs low n here rest)
          (all_good g y (later q o)) (λ a d h. comes_as p ok m ts (LeavesAll rest) (LeavesAll z) a d (λ e l. inr (t, l)) h))
          (λ e no_end l. inl (no_end, l)))
      all_good {sc} {ts} {z} (Statements.declare {k = k} {e = e} {more = rest} d g) w o =
          runs_then (L sc) (Typed d.type) (C ts (LeavesAll z)) w (value p inputs low n here e)
          (λ v. declared k v (exec_all p inputs low n here rest))
          (value_runs sc e d.type (usable p d.type (variable_usable p ok m is (vars.Slot k) d.type d.is)) d.value w o)
          (λ y v q f. declared_runs p ok m (C ts (LeavesAll z)) sc y k d.type v (exec_all p inputs low n here rest) d.is f
          (all_good g y (later q o)))

      groups_good : {sc : List ℕ} {ts : List Target} {gs : Groups} → FineGroups p m sc ts gs → (w : World) → This w →
          Runs (L sc) (C ts (GroupsCan p ok m gs)) w (exec_groups p inputs low n here gs)
      groups_good {sc} {ts} {gs} Statements.no_group w o = completes_so p ok m sc ts (GroupsCan p ok m gs) w Normal (inl refl)
      groups_good {sc} {ts} {gs} (Statements.group {labels = labels} {body = body} {end = end} {more = rest} x g) w o =
          runs_then (L sc) (C ts (LeavesAll body)) (C ts (GroupsCan p ok m gs)) w (exec_all p inputs low n here body)
          (next_do (exec_groups p inputs low n here rest)) (all_good x w o)
          (λ y d q h. next_runs p ok m sc ts (LeavesAll body) (GroupsCan p ok m gs) y d (exec_groups p inputs low n here rest) h
          (λ t. runs_as (L sc) (C ts (GroupsCan p ok m rest)) (C ts (GroupsCan p ok m gs)) y (exec_groups p inputs low n here rest)
          (groups_good g y (later q o))
          (λ a d h. comes_as p ok m ts (GroupsCan p ok m rest) (GroupsCan p ok m gs) a d (on_groups labels body end rest t) h))
          (into_groups labels body end rest))

      from_good : {sc : List ℕ} {ts : List Target} {gs : Groups} (wanted : Option ℕ → Bool) → FineGroups p m sc ts gs → (w : World) →
          This w → Runs (L sc) (C ts (FromCan p ok m wanted gs)) w (exec_from p inputs low n here wanted gs)
      from_good {sc} {ts} {gs} wanted Statements.no_group w o = completes_so p ok m sc ts (FromCan p ok m wanted gs) w Normal (inl refl)
      from_good {sc} {ts} {gs} wanted (Statements.group {labels = labels} {body = body} {end = end} {more = rest} x g) w o =
          choice_runs sc (C ts (FromCan p ok m wanted gs)) w (any_label wanted labels)
          (exec_all p inputs low n here body >>= next_do (exec_groups p inputs low n here rest))
          (exec_from p inputs low n here wanted rest)
          (λ hit. runs_then (L sc) (C ts (LeavesAll body)) (C ts (FromCan p ok m wanted gs)) w (exec_all p inputs low n here body)
          (next_do (exec_groups p inputs low n here rest)) (all_good x w o)
          (λ y d q h. next_runs p ok m sc ts (LeavesAll body) (FromCan p ok m wanted gs) y d (exec_groups p inputs low n here rest) h
          (λ t. runs_as (L sc) (C ts (GroupsCan p ok m rest)) (C ts (FromCan p ok m wanted gs)) y (exec_groups p inputs low n here rest)
          (groups_good g y (later q o))
          (λ a d h. comes_as p ok m ts (GroupsCan p ok m rest) (FromCan p ok m wanted gs) a d (on_from wanted labels body end rest t) h))
          (into_from wanted labels body end rest)))
          (λ miss. runs_as (L sc) (C ts (FromCan p ok m wanted rest)) (C ts (FromCan p ok m wanted gs)) w
          (exec_from p inputs low n here wanted rest) (from_good wanted g w o)
          (λ a d h. comes_as p ok m ts (FromCan p ok m wanted rest) (FromCan p ok m wanted gs) a d
          (past_from wanted labels body end rest miss) h))

-- Statements: the core does what the source does.
use Rattle.std.proofs.Common.{◌≡◌, ◌≢◌, ℕ, Bool, true, false, ◌∷◌, Option, Some, None, option_and_then, refl, sym, ap, ◌∙◌, subst}
use Rattle.std.specs.Prelude.{if◌then◌else◌, ◌||◌}
use Rattle.std.specs.Str.{bytes_eq}
use Rattle.std.proofs.lemmas.Slice.Eq.{bytes_eq-Decides}
use Rattle.mg_text.specs.Call.{Name}
use Rattle.jv_tree.specs.Source
use Rattle.jv_values.specs.Values.{Shared, Lives, Inputs, Wrong}
use Rattle.jv_values.specs.Doing.{Outcome, Ends, and_then, Run, ◌>>=◌, give, stop, found, valued, valuing, within, truth, constant}
use Rattle.jv_values.specs.Doing as outcomes
use Rattle.jv_values.specs.Operators.{print}
use Rattle.jv_values.specs.Statements.{Completion, Does, next_do, is_default, case_at, any_label, after_switch}
use Rattle.jv_values.specs.Alike.{Alike, SameEnd, Completes}
use Rattle.jv_values.proofs.Combine as combine
use Rattle.jv_values.proofs.Expressions as same
use Rattle.jv_meaning.specs.Program.{enum_named}
use Rattle.jv_meaning.specs.Meaning as meant
use Rattle.jv_rules.specs.Program.{Program}
use Rattle.jv_rules.specs.Scope.{Scope, Loop, Switch, declare}
use Rattle.jv_rules.specs.Scope as scopes
use Rattle.jv_rules.specs.Types.{meant as meant_by}
use Rattle.mg_text.specs.declared.place.Place.{Place}
use Rattle.ts_tree.specs.declared.parts.TypeName.{TypeName}
use Rattle.jv_core.specs.Tree as Core
use Rattle.jv_core.specs.Lookup.{enum_text}
use Rattle.jv_core.specs.Meaning as core_meaning
use Rattle.jv_names.specs.Resolves.{Numbers, with_slot, in_loop, in_switch, IsEnum, GivesEnum, IsExpr, IsStmt, IsStmts, IsGroups, Resolves}
use Rattle.jv_names.specs.Resolves as resolves
use Rattle.jv_names.proofs.Tables.{enum_text_is}
use Rattle.jv_names.proofs.Alike.{like_give, like_bind, like_closed, E, tells_e, wrong, Living, Q, within_like, declared_like}
use Rattle.jv_names.proofs.Variables.{Context, on_core, on_source, write_like}
use Rattle.jv_names.proofs.Exits.{GoesOn, loop_breaks, loop_continues, switch_breaks, switch_continues, Tests, tests_case, tests_default}
use Rattle.jv_names.proofs.Exits.{any_same}
use Rattle.jv_names.proofs.Exits as exits
use Rattle.jv_names.proofs.Expressions.{then_like, DoesAlike, Belows, eval_like}

-- what is given again is the same
given_again : {A : Type 0} (o : Outcome Shared A) → and_then o give ≡ o
given_again (outcomes.Gives a s) = refl
given_again (Ends f es) = refl

given_back : {A B : Type 0} {V : A → B → Type 0} (m : Run Shared A) (n : Run Shared B) → E A B V m (n >>= give) → E A B V m n
given_back {V} m n h = record { by = λ s t st. subst (λ o. Alike ◌≡◌ V SameEnd (m s) o) (given_again (n t)) (h.by s t st) }

module _ (program : Program) (core : Core.Program) (res : Resolves program core) (inputs : Inputs) (low : core_meaning.Lower)
    (high : meant.Lower) (b : Belows program core low high)
    (method : Core.Method) (number c : ℕ) (this : Option ℕ) where
  abbrev Here : Scope → Type 0
  Here scope = Context program core scope.class scope.method method number c this

  -- runs of statements that give the same
  abbrev Gives : (scope : Scope) (ns : Numbers) {A : Type 0} → Run (Lives ℕ) A → Run (Lives Name) A → Type 0
  Gives scope ns {A} m n = Q scope.locals ns.slots A A ◌≡◌ m n

  then_does : (scope : Scope) (ns : Numbers) {A : Type 0} {m : Run (Lives ℕ) A} {n : Run (Lives Name) A} {f : A → Does ℕ} {g : A →
      Does Name} →
      Gives scope ns m n → ((a : A) → DoesAlike program core scope ns (f a) (g a)) → DoesAlike program core scope ns (m >>= f) (n >>= g)
  then_does scope ns h k = combine.bind_same (Q scope.locals ns.slots) (like_closed (Living scope.locals ns.slots)) h k

  if_does : (scope : Scope) (ns : Numbers) (t : Bool) {m m' : Does ℕ} {n n' : Does Name} → DoesAlike program core scope ns m n →
      DoesAlike program core scope ns m' n' →
      DoesAlike program core scope ns (if t then m else m') (if t then n else n')
  if_does scope ns t h k = combine.if_alike (Q scope.locals ns.slots) (like_closed (Living scope.locals ns.slots)) t h k

  next_does : (scope : Scope) (ns : Numbers) {m m' : Does ℕ} {n n' : Does Name} → DoesAlike program core scope ns m n →
      DoesAlike program core scope ns m' n' →
      DoesAlike program core scope ns (m >>= next_do m') (n >>= next_do n')
  next_does scope ns h k =
      like_bind (Living scope.locals ns.slots) h
      (combine.next_alike (Q scope.locals ns.slots) (like_closed (Living scope.locals ns.slots)) (exits.Breaks scope.around ns.loops)
      (GoesOn scope.around ns.loops) k)

  completes : (scope : Scope) (ns : Numbers) {x : Completion ℕ} {y : Completion Name} → Completes (exits.Breaks scope.around ns.loops)
      (GoesOn scope.around ns.loops) x y →
      DoesAlike program core scope ns (give x) (give y)
  completes scope ns w = like_give (Living scope.locals ns.slots) w

  module _ (scope : Scope) (ns : Numbers) (context : Here scope) where
    value_like : {e : Source.Expr} {e' : Core.Expr} → IsExpr program core scope ns e e' →
        Gives scope ns (core_meaning.value core inputs low number (on_core c this) e')
        (meant.value program.files inputs high (on_source scope.class.name this) e)
    value_like x = within_like scope.locals ns.slots (λ r r' h. same.valued_same E tells_e
        (eval_like program core res inputs low high b method number c this scope ns context x h))

    test_like : {e : Source.Expr} {e' : Core.Expr} → IsExpr program core scope ns e e' →
        Gives scope ns (core_meaning.test core inputs low number (on_core c this) e')
        (meant.test program.files inputs high (on_source scope.class.name this) e)
    test_like x = within_like scope.locals ns.slots (λ r r' h.
        then_like (same.valued_same E tells_e (eval_like program core res inputs low high b method number c this scope ns context x h))
        (same.truth_same E tells_e))

    print_like : {e : Source.Expr} {e' : Core.Expr} → IsExpr program core scope ns e e' →
        Gives scope ns (within (λ r. valued (core_meaning.eval core inputs low number (on_core c this) r e') >>= print))
        (within (λ r. valued (meant.eval program.files inputs high (on_source scope.class.name this) r e) >>= print))
    print_like x = within_like scope.locals ns.slots (λ r r' h.
        then_like (same.valued_same E tells_e (eval_like program core res inputs low high b method number c this scope ns context x h))
        (same.print_same E tells_e))

    run_like : {e : Source.Expr} {e' : Core.Expr} → IsExpr program core scope ns e e' →
        Gives scope ns (within (λ r. core_meaning.eval core inputs low number (on_core c this) r e'))
        (within (λ r. meant.eval program.files inputs high (on_source scope.class.name this) r e))
    run_like x = within_like scope.locals ns.slots
        (λ r r' h. eval_like program core res inputs low high b method number c this scope ns context x h)

    -- the value of a switch, and the position that the core takes of it
    abbrev Chosen : Name → ℕ → Name × ℕ → Type 0
    Chosen of n v = (v.0 ≡ of) × (v.1 ≡ n)

    position_like : (of : Name) (n : ℕ) (enum : Source.Enum) {e : Source.Expr} {e' : Core.Expr} → IsExpr program core scope ns e e' →
        IsEnum program core of n enum → GivesEnum program core method e' n →
        Q scope.locals ns.slots ℕ (Name × ℕ) (Chosen of) (core_meaning.position core inputs low number (on_core c this) e')
        (within (λ r. valued (meant.eval program.files inputs high (on_source scope.class.name this) r e) >>= constant))
    position_like of n enum {e} {e'} x is gives = within_like scope.locals ns.slots (λ r r' h.
        given_back _ _ (like_bind ◌≡◌ (then_like (same.valued_same E tells_e
        (eval_like program core res inputs low high b method number c this scope ns context x h)) (same.constant_same E tells_e))
        (λ v w e. tested v w e)))
      where
        given : core_meaning.enum_given core number e' ≡ Some of
        given = ap (λ o. option_and_then (enum_text core) (option_and_then core_meaning.enum_in o)) (gives number context.at)
            ∙ enum_text_is program core res of n enum is

        found_out : (v : Name × ℕ) (t : Bool) → bytes_eq v.0 of ≡ t → E ℕ (Name × ℕ) (Chosen of) (if t then give v.1 else stop Wrong)
            (give v)
        found_out v true e = like_give ◌≡◌ ((bytes_eq-Decides v.0 of).0 e, refl)
        found_out v false e = wrong

        tested : (v w : Name × ℕ) → v ≡ w → E ℕ (Name × ℕ) (Chosen of)
            (found (core_meaning.enum_given core number e') >>= λ name. if bytes_eq v.0 name then give v.1 else stop Wrong) (give w)
        tested v w e =
            subst (λ w. E ℕ (Name × ℕ) (Chosen of) (found (core_meaning.enum_given core number e') >>= λ name. if bytes_eq v.0 name
            then give v.1 else stop Wrong) (give w)) e
            (subst (λ o. E ℕ (Name × ℕ) (Chosen of) (found o >>= λ name. if bytes_eq v.0 name then give v.1 else stop Wrong) (give v))
            (sym given) (found_out v (bytes_eq v.0 of) refl))

  has_same : {enum : Source.Enum} {scope : Scope} {ns : Numbers} {gs : Source.Groups} {gs' : Core.Groups} {t' : Option ℕ →
      Bool} {t : Option Name → Bool} → Tests program core enum t' t →
      IsGroups program core method enum scope ns gs gs' → core_meaning.has_group t' gs' ≡ meant.has_group t gs
  has_same h resolves.no_group = refl
  has_same {t' = t'} {t = t} h (resolves.group {labels = labels} {gs' = gs'} xs y g) =
      ap (λ z. z || core_meaning.has_group t' gs') (any_same program core h xs) ∙ ap (λ z. any_label t labels || z) (has_same h g)

  abbrev core_does : Core.Stmt → Does ℕ
  core_does s = core_meaning.exec core inputs low number (on_core c this) s

  abbrev core_from : (Option ℕ → Bool) → Core.Groups → Does ℕ
  core_from t gs = core_meaning.exec_from core inputs low number (on_core c this) t gs

  abbrev source_from : Scope → (Option Name → Bool) → Source.Groups → Does Name
  source_from scope t gs = meant.exec_from program.files inputs high (on_source scope.class.name this) t gs

  abbrev inside : Scope → Scope
  inside scope = scopes.within Switch scope

  -- a switch, from the position on
  module _ (scope : Scope) (ns : Numbers) (of : Name) (n : ℕ) (enum : Source.Enum) (gs : Source.Groups) (gs' : Core.Groups)
      (is : IsEnum program core of n enum)
      (groups : IsGroups program core method enum (inside scope) (in_switch ns) gs gs')
      (from : (t' : Option ℕ → Bool) (t : Option Name → Bool) → Tests program core enum t' t → DoesAlike program core (inside scope)
      (in_switch ns) (core_from t' gs') (source_from scope t gs)) where
    abbrev core_picks : ℕ → Does ℕ
    core_picks k = if core_meaning.has_group (case_at k) gs' then core_from (case_at k) gs' else core_from is_default gs'

    abbrev source_picks : ℕ → Source.Enum → Does Name
    source_picks k e = if meant.has_group (meant.case_label e k) gs then source_from scope (meant.case_label e k) gs
        else source_from scope is_default gs

    picked : (k : ℕ) → DoesAlike program core (inside scope) (in_switch ns) (core_picks k) (source_picks k enum)
    picked k =
        subst (λ t. DoesAlike program core (inside scope) (in_switch ns)
        (if t then core_from (case_at k) gs' else core_from is_default gs') (source_picks k enum))
        (sym (has_same (tests_case program core enum k) groups))
        (if_does (inside scope) (in_switch ns) (meant.has_group (meant.case_label enum k) gs)
        (from (case_at k) (meant.case_label enum k) (tests_case program core enum k))
        (from is_default is_default (tests_default program core enum)))

    left : (k : ℕ) → DoesAlike program core scope ns (core_picks k >>= after_switch) (source_picks k enum >>= after_switch)
    left k =
        like_bind (Living scope.locals ns.slots) (picked k)
        (combine.switch_alike (Q scope.locals ns.slots) (like_closed (Living scope.locals ns.slots)) (exits.Breaks scope.around ns.loops)
        (GoesOn scope.around ns.loops)
        (exits.Breaks (Switch ∷ scope.around) (None ∷ ns.loops)) (GoesOn (Switch ∷ scope.around) (None ∷ ns.loops))
        (λ k l. switch_breaks scope.around ns.loops k l) (λ k l. switch_continues scope.around ns.loops k l))

    switched : (k : ℕ) (v : Name × ℕ) → (v.0 ≡ of) × (v.1 ≡ k) →
        DoesAlike program core scope ns (core_picks k >>= after_switch)
        (within (λ locals. found (enum_named program.files v.0)) >>= λ e. source_picks v.1 e >>= after_switch)
    switched k v e =
        subst (λ o. DoesAlike program core scope ns (core_picks k >>= after_switch)
        (within (λ locals. found o) >>= λ e. source_picks v.1 e >>= after_switch))
        (sym (ap (enum_named program.files) e.0 ∙ is.named))
        (subst (λ i. DoesAlike program core scope ns (core_picks k >>= after_switch) (source_picks i enum >>= after_switch)) (sym e.1)
        (left k))

  abbrev source_does : Scope → Source.Stmt → Does Name
  source_does scope s = meant.exec program.files inputs high (on_source scope.class.name this) s

  -- a statement that is no declaration goes before those behind it
  then_is : (scope : Scope) (s : Source.Stmt) (rest : Source.Stmts) →
      ((p : Place) (ty : TypeName) (x : Name) (e : Source.Expr) → s ≢ Source.Local p ty x e) →
      meant.exec_all program.files inputs high (on_source scope.class.name this) (Source.Then s rest)
      ≡ (source_does scope s >>= next_do (meant.exec_all program.files inputs high (on_source scope.class.name this) rest))
  then_is scope (Source.Local p ty x e) rest h = absurd (h p ty x e refl)
  then_is scope _ rest h = refl

  mutual
    pub exec_like : {scope : Scope} {ns : Numbers} {s : Source.Stmt} {s' : Core.Stmt} → Here scope →
        IsStmt program core method scope ns s s' →
        DoesAlike program core scope ns (core_does s') (source_does scope s)
    exec_like at (resolves.block x) = stmts_like at x
    exec_like {scope = scope} {ns = ns} at resolves.empty = completes scope ns tt
    exec_like {scope = scope} {ns = ns} at (resolves.local {ty = ty} {x = x} {k = k} e slot) =
        then_does scope ns (value_like scope ns at e) (λ v.
        declared_like scope.locals ns.slots (record { name = x; type = meant_by scope.program ty }) k v
        (completes (declare x ty scope) (with_slot k ns) tt))
    exec_like {scope = scope} {ns = ns} at (resolves.assign x e) =
        then_does scope ns (value_like scope ns at e) (λ v.
        write_like program core res inputs method number c this scope ns at (exits.Breaks scope.around ns.loops)
        (GoesOn scope.around ns.loops) low x.is v)
    exec_like {scope = scope} {ns = ns} at (resolves.if_then e x) = then_does scope ns (test_like scope ns at e)
        (λ t. if_does scope ns t (exec_like at x) (completes scope ns tt))
    exec_like {scope = scope} {ns = ns} at (resolves.if_else e x y) = then_does scope ns (test_like scope ns at e)
        (λ t. if_does scope ns t (exec_like at x) (exec_like at y))
    exec_like {scope = scope} {ns = ns} at (resolves.while_loop {l = l} {k = k} is e x) =
        combine.while_alike (Q scope.locals ns.slots) (like_closed (Living scope.locals ns.slots)) (exits.Breaks scope.around ns.loops)
        (GoesOn scope.around ns.loops)
        (core_meaning.mine k) (core_meaning.mine k) (meant.mine l) (meant.mine l)
        (exits.Breaks (Loop l ∷ scope.around) (Some k ∷ ns.loops)) (GoesOn (Loop l ∷ scope.around) (Some k ∷ ns.loops))
        (loop_breaks l k scope.around ns.loops) (loop_continues l k scope.around ns.loops)
        (test_like scope ns at e) (exec_like {scope = scopes.within (Loop l) scope} {ns = in_loop k ns} at x)
        (b.turn scope ns method number c this at (resolves.while_loop is e x))
    exec_like {scope = scope} {ns = ns} at (resolves.do_loop {l = l} {k = k} is x e) =
        combine.do_alike (Q scope.locals ns.slots) (like_closed (Living scope.locals ns.slots)) (exits.Breaks scope.around ns.loops)
        (GoesOn scope.around ns.loops)
        (core_meaning.mine k) (core_meaning.mine k) (meant.mine l) (meant.mine l)
        (exits.Breaks (Loop l ∷ scope.around) (Some k ∷ ns.loops)) (GoesOn (Loop l ∷ scope.around) (Some k ∷ ns.loops))
        (loop_breaks l k scope.around ns.loops) (loop_continues l k scope.around ns.loops)
        (test_like scope ns at e) (exec_like {scope = scopes.within (Loop l) scope} {ns = in_loop k ns} at x)
        (b.turn scope ns method number c this at (resolves.do_loop is x e))
    exec_like {scope = scope} {ns = ns} at (resolves.switch {of = of} {n = n} {enum = enum} {gs = gs} {gs' = gs'} e is gives g) =
        like_bind (Living scope.locals ns.slots) (position_like scope ns at of n enum e is gives)
        (switched scope ns of n enum gs gs' is g (λ t' t h. from_like {scope = inside scope} {ns = in_switch ns} at t' t h g))
    exec_like {scope = scope} {ns = ns} at (resolves.break w) = completes scope ns w
    exec_like {scope = scope} {ns = ns} at (resolves.continue {k = k} w) = completes scope ns (k, refl, w)
    exec_like {scope = scope} {ns = ns} at (resolves.return resolves.without) = completes scope ns refl
    exec_like {scope = scope} {ns = ns} at (resolves.return (resolves.with_value e)) = then_does scope ns (value_like scope ns at e)
        (λ v. completes scope ns refl)
    exec_like {scope = scope} {ns = ns} at (resolves.print e) = then_does scope ns (print_like scope ns at e) (λ u. completes scope ns tt)
    exec_like {scope = scope} {ns = ns} at (resolves.eval e) = then_does scope ns (run_like scope ns at e) (λ v. completes scope ns tt)

    pub stmts_like : {scope : Scope} {ns : Numbers} {ss : Source.Stmts} {ss' : Core.Stmts} → Here scope →
        IsStmts program core method scope ns ss ss' →
        DoesAlike program core scope ns (core_meaning.exec_all core inputs low number (on_core c this) ss')
        (meant.exec_all program.files inputs high (on_source scope.class.name this) ss)
    stmts_like {scope = scope} {ns = ns} at resolves.no_stmt = completes scope ns tt
    stmts_like {scope = scope} {ns = ns} at (resolves.declaration {ty = ty} {x = x} {k = k} e slot rest) =
        then_does scope ns (value_like scope ns at e) (λ v.
        declared_like scope.locals ns.slots (record { name = x; type = meant_by scope.program ty }) k v
        (stmts_like {scope = declare x ty scope} {ns = with_slot k ns} at rest))
    stmts_like {scope = scope} {ns = ns} at (resolves.then {s = s} {s' = s'} {rest = rest} {rest' = rest'} other x xs) =
        subst (λ m. DoesAlike program core scope ns (core_does s' >>= next_do
        (core_meaning.exec_all core inputs low number (on_core c this) rest')) m) (sym (then_is scope s rest other))
        (next_does scope ns (exec_like at x) (stmts_like at xs))

    from_like : {enum : Source.Enum} {scope : Scope} {ns : Numbers} {gs : Source.Groups} {gs' : Core.Groups} → Here scope →
        (t' : Option ℕ → Bool) (t : Option Name → Bool) → Tests program core enum t' t →
        IsGroups program core method enum scope ns gs gs' → DoesAlike program core scope ns (core_from t' gs') (source_from scope t gs)
    from_like {scope = scope} {ns = ns} at t' t h resolves.no_group = completes scope ns tt
    from_like {scope = scope} {ns = ns} at t' t h
        (resolves.group {labels = labels} {body = body} {body' = body'} {end = end} {gs = gs} {gs' = gs'} xs y g) =
        subst (λ z. DoesAlike program core scope ns
        (if z then core_meaning.exec_all core inputs low number (on_core c this) body' >>= next_do
        (core_meaning.exec_groups core inputs low number (on_core c this) gs') else core_from t' gs')
        (source_from scope t (Source.Group labels body end gs))) (sym (any_same program core h xs))
        (if_does scope ns (any_label t labels) (next_does scope ns (stmts_like at y) (groups_like at g)) (from_like at t' t h g))

    groups_like : {enum : Source.Enum} {scope : Scope} {ns : Numbers} {gs : Source.Groups} {gs' : Core.Groups} → Here scope →
        IsGroups program core method enum scope ns gs gs' →
        DoesAlike program core scope ns (core_meaning.exec_groups core inputs low number (on_core c this) gs')
        (meant.exec_groups program.files inputs high (on_source scope.class.name this) gs)
    groups_like {scope = scope} {ns = ns} at resolves.no_group = completes scope ns tt
    groups_like {scope = scope} {ns = ns} at (resolves.group xs y g) = next_does scope ns (stmts_like at y) (groups_like at g)

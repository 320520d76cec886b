-- Resolved statements can be left as their sources can.
use Rattle.std.proofs.Common.{◌≡◌, ◌≢◌, inl, inr, ℕ, zero, suc, ◌<◌, List, ◌∷◌, length, Option, Some, None, refl, sym, subst, arith}
use Rattle.std.specs.Prelude.{Contains, slice_index_or}
use Rattle.mg_text.specs.Call.{Name}
use Rattle.mg_text.specs.declared.place.Place.{Place}
use Rattle.jv_tree.specs.Source
use Rattle.jv_rules.specs.Program.{Program}
use Rattle.jv_rules.specs.Scope.{Scope, Loop, Switch, Target}
use Rattle.jv_rules.specs.Completes as written
use Rattle.jv_core.specs.declared.tree.Var.{Var}
use Rattle.jv_core.specs.Tree as Core
use Rattle.jv_core.specs.Completes as resolved
use Rattle.jv_names.specs.Resolves.{Aligned, Numbers, BreakLeads, ContinueLeads, IsLabel, IsVar, IsExpr, IsStmt, IsStmts, IsGroups}
use Rattle.jv_names.specs.Resolves as is
use Rattle.jv_names.specs.KeptLaws.{CompletesAlike}

-- exits that lead to the same
data Same (ts : List Target) (ks : List (Option ℕ)) : written.Exit → resolved.Exit → Type 0 where
  through : Same ts ks written.Through resolved.Through
  breaks : {l : Option Name} {k : Option ℕ} → BreakLeads ts ks l k → Same ts ks (written.Breaks l) (resolved.Breaks k)
  continues : {l : Option Name} {k : ℕ} → ContinueLeads ts ks l k → Same ts ks (written.Continues l) (resolved.Continues k)

-- the source can be left by an exit that leads to the same
record From (ts : List Target) (ks : List (Option ℕ)) (P : written.Exit → Type 0) (e : resolved.Exit) : Type 0 where
  exit : written.Exit
  same : Same ts ks exit e
  leaves : P exit

gone : (ts : List Target) (ks : List (Option ℕ)) (P : written.Exit → Type 0) (e : resolved.Exit) → e ≡ resolved.Through →
    P written.Through → From ts ks P e
gone ts ks P e is h = subst (From ts ks P) (sym is) (record { exit = written.Through; same = through; leaves = h })

by : (ts : List Target) (ks : List (Option ℕ)) (P Q : written.Exit → Type 0) (e : resolved.Exit) → ((x : written.Exit) → P x → Q x) →
    From ts ks P e → From ts ks Q e
by ts ks P Q e f h = record { exit = h.exit; same = h.same; leaves = f h.exit h.leaves }

-- an exit that goes through
is_through : (ts : List Target) (ks : List (Option ℕ)) (P : written.Exit → Type 0) → From ts ks P resolved.Through → P written.Through
is_through ts ks P h = go h.exit h.same h.leaves
  where
    go : (x : written.Exit) → Same ts ks x resolved.Through → P x → P written.Through
    go x through h = h

-- Exits of a loop.

breaks_it : (l : Option Name) (k : ℕ) (ts : List Target) (ks : List (Option ℕ)) (label : Option Name) (j : Option ℕ) →
    BreakLeads (Loop l ∷ ts) (Some k ∷ ks) label j → j ≡ Some k → written.NamesLoop l label
breaks_it l k ts ks label j is.breaks_loop e = tt
breaks_it l k ts ks label j is.breaks_named e = refl
breaks_it l k ts ks label j (is.breaks_other n other b) e = absurd (other (cc))

goes_on_it : (l : Option Name) (k : ℕ) (ts : List Target) (ks : List (Option ℕ)) (label : Option Name) (j : ℕ) →
    ContinueLeads (Loop l ∷ ts) (Some k ∷ ks) label j → j ≡ k → written.NamesLoop l label
goes_on_it l k ts ks label j is.goes_on e = tt
goes_on_it l k ts ks label j is.goes_on_named e = refl
goes_on_it l k ts ks label j (is.goes_on_other n other c) e = absurd (other (sym e))

-- the label by which a loop is left, or goes on
record Labelled (l : Option Name) (P : Option Name → Type 0) : Type 0 where
  label : Option Name
  names : written.NamesLoop l label
  leaves : P label

left_by : (l : Option Name) (k : ℕ) (ts : List Target) (ks : List (Option ℕ)) (P : written.Exit → Type 0) →
    From (Loop l ∷ ts) (Some k ∷ ks) P (resolved.Breaks (Some k)) → Labelled l (λ label. P (written.Breaks label))
left_by l k ts ks P h = go h.exit h.same h.leaves
  where
    go : (x : written.Exit) → Same (Loop l ∷ ts) (Some k ∷ ks) x (resolved.Breaks (Some k)) → P x →
        Labelled l (λ label. P (written.Breaks label))
    go x (breaks {l = label} b) h = record { label = label; names = breaks_it l k ts ks label (Some k) b refl; leaves = h }

going_on_by : (l : Option Name) (k : ℕ) (ts : List Target) (ks : List (Option ℕ)) (P : written.Exit → Type 0) →
    From (Loop l ∷ ts) (Some k ∷ ks) P (resolved.Continues k) → Labelled l (λ label. P (written.Continues label))
going_on_by l k ts ks P h = go h.exit h.same h.leaves
  where
    go : (x : written.Exit) → Same (Loop l ∷ ts) (Some k ∷ ks) x (resolved.Continues k) → P x →
        Labelled l (λ label. P (written.Continues label))
    go x (continues {l = label} c) h = record { label = label; names = goes_on_it l k ts ks label k c refl; leaves = h }

-- what passes a loop leads on from it
record Out (l : Option Name) (ts : List Target) (ks : List (Option ℕ)) (x : written.Exit) (e : resolved.Exit) : Type 0 where
  passes : written.Passes l x
  same : Same ts ks x e

break_out : (l : Option Name) (k : ℕ) (ts : List Target) (ks : List (Option ℕ)) (label : Option Name) (j : Option ℕ) →
    BreakLeads (Loop l ∷ ts) (Some k ∷ ks) label j → resolved.Breaks j ≢ resolved.Breaks (Some k) →
    Out l ts ks (written.Breaks label) (resolved.Breaks j)
break_out l k ts ks label j is.breaks_loop n = absurd (n refl)
break_out l k ts ks label j is.breaks_named n = absurd (n refl)
break_out l k ts ks label j (is.breaks_other other d b) n = record { passes = other; same = breaks b }

continue_out : (l : Option Name) (k : ℕ) (ts : List Target) (ks : List (Option ℕ)) (label : Option Name) (j : ℕ) →
    ContinueLeads (Loop l ∷ ts) (Some k ∷ ks) label j → resolved.Continues j ≢ resolved.Continues k →
    Out l ts ks (written.Continues label) (resolved.Continues j)
continue_out l k ts ks label j is.goes_on n = absurd (n refl)
continue_out l k ts ks label j is.goes_on_named n = absurd (n refl)
continue_out l k ts ks label j (is.goes_on_other other d c) n = record { passes = other; same = continues c }

out : (l : Option Name) (k : ℕ) (ts : List Target) (ks : List (Option ℕ)) (x : written.Exit) (e : resolved.Exit) →
    Same (Loop l ∷ ts) (Some k ∷ ks) x e → resolved.Passes k e → Out l ts ks x e
out l k ts ks x e through n = absurd (n.0 refl)
out l k ts ks x e (breaks {l = label} {k = j} b) n = break_out l k ts ks label j b n.1
out l k ts ks x e (continues {l = label} {k = j} c) n = continue_out l k ts ks label j c n.2

passing : (l : Option Name) (k : ℕ) (ts : List Target) (ks : List (Option ℕ)) (P Q : written.Exit → Type 0) (e : resolved.Exit) →
    resolved.Passes k e → From (Loop l ∷ ts) (Some k ∷ ks) P e →
    ((x : written.Exit) → written.Passes l x → P x → Q x) → From ts ks Q e
passing l k ts ks P Q e n h f =
    let o = out l k ts ks h.exit e h.same n in
    record { exit = h.exit; same = o.same; leaves = f h.exit o.passes h.leaves }

-- Exits of a switch.

leaves_switch : (ts : List Target) (ks : List (Option ℕ)) (P : written.Exit → Type 0) →
    From (Switch ∷ ts) (None ∷ ks) P (resolved.Breaks None) → P (written.Breaks None)
leaves_switch ts ks P h = go h.exit h.same h.leaves
  where
    which : (label : Option Name) → BreakLeads (Switch ∷ ts) (None ∷ ks) label None → P (written.Breaks label) → P (written.Breaks None)
    which label is.breaks_switch h = h

    go : (x : written.Exit) → Same (Switch ∷ ts) (None ∷ ks) x (resolved.Breaks None) → P x → P (written.Breaks None)
    go x (breaks {l = label} b) h = which label b h

record Past (ts : List Target) (ks : List (Option ℕ)) (x : written.Exit) (e : resolved.Exit) : Type 0 where
  goes_out : x ≢ written.Through
  no_break : x ≢ written.Breaks None
  same : Same ts ks x e

break_past : (ts : List Target) (ks : List (Option ℕ)) (label : Option Name) (j : Option ℕ) →
    BreakLeads (Switch ∷ ts) (None ∷ ks) label j → resolved.Breaks j ≢ resolved.Breaks None →
    Past ts ks (written.Breaks label) (resolved.Breaks j)
break_past ts ks label j is.breaks_switch n = absurd (n refl)
break_past ts ks label j (is.breaks_out b) n = record { goes_out = λ e. cc; no_break = λ e. cc; same = breaks b }

continue_past : (ts : List Target) (ks : List (Option ℕ)) (label : Option Name) (j : ℕ) →
    ContinueLeads (Switch ∷ ts) (None ∷ ks) label j → Past ts ks (written.Continues label) (resolved.Continues j)
continue_past ts ks label j (is.goes_on_out c) = record { goes_out = λ e. cc; no_break = λ e. cc; same = continues c }

past : (ts : List Target) (ks : List (Option ℕ)) (x : written.Exit) (e : resolved.Exit) → Same (Switch ∷ ts) (None ∷ ks) x e →
    e ≢ resolved.Through → e ≢ resolved.Breaks None → Past ts ks x e
past ts ks x e through n m = absurd (n refl)
past ts ks x e (breaks {l = label} {k = j} b) n m = break_past ts ks label j b m
past ts ks x e (continues {l = label} {k = j} c) n m = continue_past ts ks label j c

-- no exit that leads elsewhere goes through
elsewhere : (ts : List Target) (ks : List (Option ℕ)) (x : written.Exit) (e : resolved.Exit) → Same ts ks x e → e ≢ resolved.Through →
    x ≢ written.Through
elsewhere ts ks x e through n i = n refl
elsewhere ts ks x e (breaks b) n i = cc
elsewhere ts ks x e (continues c) n i = cc

-- Labels.

aligned_default : (program : Program) (core : Core.Program) (enum : Source.Enum) (ls : List (Option Name)) (ks : List (Option ℕ)) →
    Aligned (IsLabel program core enum) ls ks → Contains ls None → Contains ks None
aligned_default program core enum _ _ is.none c = absurd (omega arith)
aligned_default program core enum _ _ (is.more {a = l} {b = k} {as' = ls} {bs = ks} i others) c =
    go (aligned_default program core enum ls ks others) i c.0 c.1 c.2
  where
    first : (l : Option Name) (k : Option ℕ) → IsLabel program core enum l k → l ≡ None → k ≡ None
    first l k is.default_label e = refl
    first l k (is.case_label at) e = absurd (cc)

    bound : {i n : ℕ} → i < n → suc i < suc n
    bound e = omega arith

    go : (Contains ls None → Contains ks None) → IsLabel program core enum l k → (i : ℕ) → i < length (l ∷ ls) →
        slice_index_or (l ∷ ls) i None ≡ None → Contains (k ∷ ks) None
    go rest label zero lt e = (zero, omega arith, first l k label e)
    go rest label (suc i) lt e = let c = rest (i, omega arith, e) in (suc c.0, bound c.1, c.2)

module _ (program : Program) (core : Core.Program) (method : Core.Method) where
  no_variable : (sc : Scope) (ns : Numbers) (e : Source.Expr) (x : Var) → IsVar program core sc ns e x → written.IsAlwaysTrue e → ⊥
  no_variable sc ns _ x (is.a_local s) h = h
  no_variable sc ns _ x (is.a_field n f) h = h
  no_variable sc ns _ x (is.own f) h = h

  always : (sc : Scope) (ns : Numbers) (e : Source.Expr) (e' : Core.Expr) → IsExpr program core sc ns e e' → written.IsAlwaysTrue e →
      resolved.IsAlwaysTrue e'
  always sc ns (Source.Truth p b) _ is.truth h = h
  always sc ns (Source.Truth p b) _ (is.variable v) h = absurd (no_variable sc ns (Source.Truth p b) _ v h)
  always sc ns (Source.Int p z) _ i h = absurd h
  always sc ns (Source.Text p t) _ i h = absurd h
  always sc ns (Source.Null p) _ i h = absurd h
  always sc ns (Source.This p) _ i h = absurd h
  always sc ns (Source.Variable p x) _ i h = absurd h
  always sc ns (Source.Member p a x) _ i h = absurd h
  always sc ns (Source.Neg p a) _ i h = absurd h
  always sc ns (Source.Not p a) _ i h = absurd h
  always sc ns (Source.Binary p o a b) _ i h = absurd h
  always sc ns (Source.Call p f args) _ i h = absurd h
  always sc ns (Source.MethodCall p a f args) _ i h = absurd h
  always sc ns (Source.New p c) _ i h = absurd h

  default : (enum : Source.Enum) (sc : Scope) (ns : Numbers) (gs : Source.Groups) (gs' : Core.Groups) →
      IsGroups program core method enum sc ns gs gs' → written.HasDefault gs → resolved.HasDefault gs'
  default enum sc ns _ _ is.no_group h = absurd h
  default enum sc ns _ _ (is.group {labels = ls} {labels' = ls'} labels body more) (inl c) =
      inl (aligned_default program core enum ls ls' labels c)
  default enum sc ns _ _ (is.group {gs = gs} {gs' = gs'} labels body more) (inr h) = inr (default enum sc ns gs gs' more h)

  last_more : (ls : List (Option Name)) (b : Source.Stmts) (e : Place) (gs : Source.Groups) → written.LeavesLast gs →
      written.LeavesLast (Source.Group ls b e gs)
  last_more ls b e Source.NoGroup h = absurd h
  last_more ls b e (Source.Group ls' b' e' gs) h = h

  mutual
    leaves : {sc : Scope} {ns : Numbers} {s : Source.Stmt} {s' : Core.Stmt} → IsStmt program core method sc ns s s' →
        (e : resolved.Exit) → resolved.Leaves s' e →
        From sc.around ns.loops (written.Leaves s) e
    leaves (is.block body) e h = leaves_all body e h
    leaves {sc} {ns} {s} is.empty e h = gone sc.around ns.loops (written.Leaves s) e h refl
    leaves {sc} {ns} {s} (is.local x k) e h = gone sc.around ns.loops (written.Leaves s) e h refl
    leaves {sc} {ns} {s} (is.assign t v) e h = gone sc.around ns.loops (written.Leaves s) e h refl
    leaves {sc} {ns} {s} (is.if_then c a) e (inl h) = gone sc.around ns.loops (written.Leaves s) e h (inl refl)
    leaves {sc} {ns} {s} (is.if_then {s = z} c a) e (inr h) =
        by sc.around ns.loops (written.Leaves z) (written.Leaves s) e (λ x l. inr l) (leaves a e h)
    leaves {sc} {ns} {s} (is.if_else {s = z} c a b) e (inl h) =
        by sc.around ns.loops (written.Leaves z) (written.Leaves s) e (λ x l. inl l) (leaves a e h)
    leaves {sc} {ns} {s} (is.if_else {r = z} c a b) e (inr h) =
        by sc.around ns.loops (written.Leaves z) (written.Leaves s) e (λ x l. inr l) (leaves b e h)
    leaves {sc} {ns} {s} (is.while_loop {c = c} {c' = c'} at x a) e (inl (i, inl no_end)) =
        gone sc.around ns.loops (written.Leaves s) e i (inl (refl, inl (λ t. no_end (always sc ns c c' x t))))
    leaves {sc} {ns} {s} (is.while_loop {l = l} {k = k} {s = z} at x a) e (inl (i, inr b)) =
        let o = left_by l k sc.around ns.loops (written.Leaves z) (leaves a (resolved.Breaks (Some k)) b) in
        gone sc.around ns.loops (written.Leaves s) e i (inl (refl, inr (o.label, o.names, o.leaves)))
    leaves {sc} {ns} {s} (is.while_loop {l = l} {k = k} {s = z} at x a) e (inr (passes, h)) =
        passing l k sc.around ns.loops (written.Leaves z) (written.Leaves s) e passes (leaves a e h) (λ y p h. inr (p, h))
    leaves {sc} {ns} {s} (is.do_loop {l = l} {k = k} {c = c} {c' = c'} {s = z} at a x) e (inl (i, inl (no_end, inl h))) =
        let t = is_through (Loop l ∷ sc.around) (Some k ∷ ns.loops) (written.Leaves z) (leaves a resolved.Through h) in
        gone sc.around ns.loops (written.Leaves s) e i (inl (refl, inl ((λ t. no_end (always sc ns c c' x t)), inl t)))
    leaves {sc} {ns} {s} (is.do_loop {l = l} {k = k} {c = c} {c' = c'} {s = z} at a x) e (inl (i, inl (no_end, inr h))) =
        let o = going_on_by l k sc.around ns.loops (written.Leaves z) (leaves a (resolved.Continues k) h) in
        gone sc.around ns.loops (written.Leaves s) e i
        (inl (refl, inl ((λ t. no_end (always sc ns c c' x t)), inr (o.label, o.names, o.leaves))))
    leaves {sc} {ns} {s} (is.do_loop {l = l} {k = k} {s = z} at a x) e (inl (i, inr b)) =
        let o = left_by l k sc.around ns.loops (written.Leaves z) (leaves a (resolved.Breaks (Some k)) b) in
        gone sc.around ns.loops (written.Leaves s) e i (inl (refl, inr (o.label, o.names, o.leaves)))
    leaves {sc} {ns} {s} (is.do_loop {l = l} {k = k} {s = z} at a x) e (inr (passes, h)) =
        passing l k sc.around ns.loops (written.Leaves z) (written.Leaves s) e passes (leaves a e h) (λ y p h. inr (p, h))
    leaves {sc} {ns} {s} (is.switch {enum = enum} {gs = gs} {gs' = gs'} x en gives g) e (inl (i, inl no_default)) =
        gone sc.around ns.loops (written.Leaves s) e i (inl (refl, inl (λ d. no_default (default enum _ _ gs gs' g d))))
    leaves {sc} {ns} {s} (is.switch x en gives g) e (inl (i, inr (inl last))) =
        gone sc.around ns.loops (written.Leaves s) e i (inl (refl, inr (inl (leaves_last g last))))
    leaves {sc} {ns} {s} (is.switch {gs = gs} x en gives g) e (inl (i, inr (inr b))) =
        gone sc.around ns.loops (written.Leaves s) e i
        (inl (refl, inr (inr (leaves_switch sc.around ns.loops (written.LeavesSome gs) (leaves_some g (resolved.Breaks None) b)))))
    leaves {sc} {ns} {s} (is.switch {gs = gs} x en gives g) e (inr (on, stays, h)) =
        let f = leaves_some g e h in
        let o = past sc.around ns.loops f.exit e f.same on stays in
        record { exit = f.exit; same = o.same; leaves = inr (o.goes_out, o.no_break, f.leaves) }
    leaves {sc} {ns} {s} (is.break {l = l} {k = k} b) e h =
        subst (From sc.around ns.loops (written.Leaves s)) (sym h) (record { exit = written.Breaks l; same = breaks b; leaves = refl })
    leaves {sc} {ns} {s} (is.continue {l = l} {k = k} c) e h =
        subst (From sc.around ns.loops (written.Leaves s)) (sym h)
        (record { exit = written.Continues l; same = continues c; leaves = refl })
    leaves (is.return v) e h = absurd h
    leaves {sc} {ns} {s} (is.print x) e h = gone sc.around ns.loops (written.Leaves s) e h refl
    leaves {sc} {ns} {s} (is.eval x) e h = gone sc.around ns.loops (written.Leaves s) e h refl

    leaves_all : {sc : Scope} {ns : Numbers} {z : Source.Stmts} {z' : Core.Stmts} → IsStmts program core method sc ns z z' →
        (e : resolved.Exit) → resolved.LeavesAll z' e →
        From sc.around ns.loops (written.LeavesAll z) e
    leaves_all {sc} {ns} {z} is.no_stmt e h = gone sc.around ns.loops (written.LeavesAll z) e h refl
    leaves_all {sc} {ns} {z} (is.declaration {rest = rest} x k more) e h =
        by sc.around ns.loops (written.LeavesAll rest) (written.LeavesAll z) e (λ y l. inr (refl, l)) (leaves_all more e h)
    leaves_all {sc} {ns} {z} (is.then n a more) e (inl (on, h)) =
        let f = leaves a e h in
        record { exit = f.exit; same = f.same; leaves = inl (elsewhere sc.around ns.loops f.exit e f.same on, f.leaves) }
    leaves_all {sc} {ns} {z} (is.then {s = s} {rest = rest} n a more) e (inr (t, h)) =
        let first = is_through sc.around ns.loops (written.Leaves s) (leaves a resolved.Through t) in
        by sc.around ns.loops (written.LeavesAll rest) (written.LeavesAll z) e (λ y l. inr (first, l)) (leaves_all more e h)

    leaves_some : {enum : Source.Enum} {sc : Scope} {ns : Numbers} {gs : Source.Groups} {gs' : Core.Groups} →
        IsGroups program core method enum sc ns gs gs' → (e : resolved.Exit) → resolved.LeavesSome gs' e →
        From sc.around ns.loops (written.LeavesSome gs) e
    leaves_some is.no_group e h = absurd h
    leaves_some {sc = sc} {ns = ns} {gs = gs} (is.group {body = body} labels b more) e (inl h) =
        by sc.around ns.loops (written.LeavesAll body) (written.LeavesSome gs) e (λ y l. inl l) (leaves_all b e h)
    leaves_some {sc = sc} {ns = ns} {gs = gs} (is.group {gs = rest} labels b more) e (inr h) =
        by sc.around ns.loops (written.LeavesSome rest) (written.LeavesSome gs) e (λ y l. inr l) (leaves_some more e h)

    leaves_last : {enum : Source.Enum} {sc : Scope} {ns : Numbers} {gs : Source.Groups} {gs' : Core.Groups} →
        IsGroups program core method enum sc ns gs gs' → resolved.LeavesLast gs' → written.LeavesLast gs
    leaves_last is.no_group h = absurd h
    leaves_last {sc = sc} {ns = ns} (is.group {body = body} labels b is.no_group) h =
        is_through sc.around ns.loops (written.LeavesAll body) (leaves_all b resolved.Through h)
    leaves_last (is.group {labels = ls} {body = body} {end = end} labels b
        (is.group {labels = ls'} {labels' = ks'} {body = c} {body' = c'} {end = end'} {gs = gs} {gs' = gs'} labels' b' more)) h =
        last_more ls body end (Source.Group ls' c end' gs)
        (leaves_last (is.group {labels = ls'} {labels' = ks'} {body = c} {body' = c'} {end = end'} {gs = gs} {gs' =
        gs'} labels' b' more) h)

pub completes_alike : CompletesAlike
completes_alike program core method sc ns z z' is h =
    is_through sc.around ns.loops (written.LeavesAll z) (leaves_all program core method is resolved.Through h)

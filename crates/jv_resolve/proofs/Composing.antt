-- What a statement with inner ones is resolved to, from what these are.
use Rattle.std.proofs.Common.{◌≡◌, ℕ, List, ◌∷◌, length, Option, Some, sym, ap, ◌∙◌}
use Rattle.mg_text.specs.Call.{Name}
use Rattle.mg_text.specs.declared.place.Place.{Place}
use Rattle.ts_tree.specs.declared.parts.TypeName.{TypeName}
use Rattle.jv_tree.specs.Source
use Rattle.jv_core.specs.Tree as Core
use Rattle.jv_core.specs.View.{OneGroup, stmts_of, groups_of}
use Rattle.jv_resolve_law.specs.Tables.{◌>>=◌, Tables}
use Rattle.jv_resolve_law.specs.Expressions.{Known, Standing, Resolved, resolved}
use Rattle.jv_resolve_law.specs.Statements.{Counted, Counting, Around, InLoop, InSwitch, stmt, stmts, groups, loop_more, enum_given, local}
use Rattle.jv_resolve.specs.declared.given.Unresolved.{Unresolved}
use Rattle.jv_resolve.specs.inner.Gives.{Fails}
use Rattle.jv_resolve.specs.inner.Counted.{counting}
use Rattle.jv_resolve.proofs.Chains.{fails_then, fails_last, fails_as}

module _ (tables : Tables) (at : Standing) (around : List Around) (locals : List Known) (s : Counted) (p : Place) where
  abbrev meant : Source.Stmt → Option (Counting Core.Stmt)
  meant t = stmt tables at t around locals s

  abbrev value : Source.Expr → Option Resolved
  value e = resolved tables at locals e

  pub block_made : (body : Source.Stmts) (end : Place) (b : Counting (List Core.Stmt)) (made : Core.Stmt) →
      stmts tables at body around locals s ≡ Some b → made ≡ Core.Block p (stmts_of b.it) end →
      meant (Source.Block p body end) ≡ Some (counting made b.so_far)
  block_made body end b made h is = ap (λ o. o >>= λ a. Some (counting (Core.Block p (stmts_of a.it) end) a.so_far)) h ∙
      ap (λ u. Some (counting u b.so_far)) (sym is)

  pub block_fails : (err : Unresolved) (body : Source.Stmts) (end : Place) → Fails err (stmts tables at body around locals s) →
      Fails err (meant (Source.Block p body end))
  block_fails err body end h = fails_then err (stmts tables at body around locals s)
      (λ a. Some (counting (Core.Block p (stmts_of a.it) end) a.so_far)) h

  -- ---- declarations that stand alone

  module _ (ty : TypeName) (name : Name) (e : Source.Expr) where
    abbrev kept_local : Option (Counting Known × Core.Stmt)
    kept_local = local tables at p ty name e locals s

    pub local_made : (k : Counting Known) (u made : Core.Stmt) → kept_local ≡ Some (k, u) → made ≡ u →
        meant (Source.Local p ty name e) ≡ Some (counting made k.so_far)
    local_made k u made h is = ap (λ o. o >>= λ d. Some (counting d.1 d.0.so_far)) h ∙ ap (λ v. Some (counting v k.so_far)) (sym is)

    pub local_fails : (err : Unresolved) → Fails err kept_local → Fails err (meant (Source.Local p ty name e))
    local_fails err h = fails_then err kept_local (λ d. Some (counting d.1 d.0.so_far)) h

  -- ---- if

  module _ (c : Source.Expr) (then : Source.Stmt) where
    abbrev first : Option (Counting Core.Stmt)
    first = stmt tables at then around locals s

    pub if_made : (t : Resolved) (b : Counting Core.Stmt) (made : Core.Stmt) → value c ≡ Some t → first ≡ Some b →
        made ≡ Core.If p t.expr b.it → meant (Source.If p c then) ≡ Some (counting made b.so_far)
    if_made t b made test h is =
        ap (λ o. o >>= λ v. first >>= λ a. Some (counting (Core.If p v.expr a.it) a.so_far)) test
        ∙ ap (λ o. o >>= λ a. Some (counting (Core.If p t.expr a.it) a.so_far)) h
        ∙ ap (λ u. Some (counting u b.so_far)) (sym is)

    pub if_test_fails : (err : Unresolved) → Fails err (value c) → Fails err (meant (Source.If p c then))
    if_test_fails err h = fails_then err (value c) (λ v. first >>= λ a. Some (counting (Core.If p v.expr a.it) a.so_far)) h

    pub if_fails : (err : Unresolved) → Fails err first → Fails err (meant (Source.If p c then))
    if_fails err h = fails_last err (value c) first (λ v a. Some (counting (Core.If p v.expr a.it) a.so_far)) h

    module _ (otherwise : Source.Stmt) where
      abbrev second : Counted → Option (Counting Core.Stmt)
      second n = stmt tables at otherwise around locals n

      abbrev after_first : Resolved → Option (Counting Core.Stmt) → Option (Counting Core.Stmt)
      after_first v o = o >>= λ a. second a.so_far >>= λ d. Some (counting (Core.IfElse p v.expr a.it d.it) d.so_far)

      pub else_made : (t : Resolved) (b d : Counting Core.Stmt) (made : Core.Stmt) → value c ≡ Some t → first ≡ Some b →
          second b.so_far ≡ Some d → made ≡ Core.IfElse p t.expr b.it d.it →
          meant (Source.IfElse p c then otherwise) ≡ Some (counting made d.so_far)
      else_made t b d made test h k is =
          ap (λ o. o >>= λ v. after_first v first) test ∙ ap (after_first t) h ∙
          ap (λ o. o >>= λ e. Some (counting (Core.IfElse p t.expr b.it e.it) e.so_far)) k
          ∙ ap (λ u. Some (counting u d.so_far)) (sym is)

      pub else_test_fails : (err : Unresolved) → Fails err (value c) → Fails err (meant (Source.IfElse p c then otherwise))
      else_test_fails err h = fails_then err (value c) (λ v. after_first v first) h

      pub else_first_fails : (err : Unresolved) → Fails err first → Fails err (meant (Source.IfElse p c then otherwise))
      else_first_fails err h = fails_last err (value c) first
          (λ v a. second a.so_far >>= λ d. Some (counting (Core.IfElse p v.expr a.it d.it) d.so_far)) h

      pub else_fails : (err : Unresolved) (b : Counting Core.Stmt) → first ≡ Some b → Fails err (second b.so_far) →
          Fails err (meant (Source.IfElse p c then otherwise))
      else_fails err b h k =
          fails_as err _ _ (ap (λ o. value c >>= λ v. after_first v o) h)
          (fails_last err (value c) (second b.so_far) (λ v e. Some (counting (Core.IfElse p v.expr b.it e.it) e.so_far)) k)

  -- ---- loops

  module _ (label : Option Name) (c : Source.Expr) (body : Source.Stmt) where
    abbrev within : Option (Counting Core.Stmt)
    within = stmt tables at body (InLoop label (length s.loops) ∷ around) locals (loop_more p locals s)

    -- the body where the loop's number, label and what was numbered are known otherwise
    pub within_as : (l : Option Name) (n : ℕ) (ls : List Known) (m : Counted) → l ≡ label → n ≡ length s.loops → ls ≡ locals →
        m ≡ loop_more p locals s →
        within ≡ stmt tables at body (InLoop l n ∷ around) ls m
    within_as l n ls m same at_number in_scope added =
        sym (ap (λ k. stmt tables at body (InLoop k n ∷ around) ls m) same
        ∙ ap (λ k. stmt tables at body (InLoop label k ∷ around) ls m) at_number
        ∙ ap (λ k. stmt tables at body (InLoop label (length s.loops) ∷ around) k m) in_scope
        ∙ ap (λ k. stmt tables at body (InLoop label (length s.loops) ∷ around) locals k) added)

    pub while_made : (t : Resolved) (b : Counting Core.Stmt) (n : ℕ) (made : Core.Stmt) → value c ≡ Some t → within ≡ Some b →
        n ≡ length s.loops → made ≡ Core.While p n t.expr b.it →
        meant (Source.While p label c body) ≡ Some (counting made b.so_far)
    while_made t b n made test h number is =
        ap (λ o. o >>= λ v. within >>= λ a. Some (counting (Core.While p (length s.loops) v.expr a.it) a.so_far)) test
        ∙ ap (λ o. o >>= λ a. Some (counting (Core.While p (length s.loops) t.expr a.it) a.so_far)) h
        ∙ ap (λ k. Some (counting (Core.While p k t.expr b.it) b.so_far)) (sym number)
        ∙ ap (λ u. Some (counting u b.so_far)) (sym is)

    pub while_test_fails : (err : Unresolved) → Fails err (value c) → Fails err (meant (Source.While p label c body))
    while_test_fails err h = fails_then err (value c)
        (λ v. within >>= λ a. Some (counting (Core.While p (length s.loops) v.expr a.it) a.so_far)) h

    pub while_fails : (err : Unresolved) → Fails err within → Fails err (meant (Source.While p label c body))
    while_fails err h = fails_last err (value c) within (λ v a. Some (counting (Core.While p (length s.loops) v.expr a.it) a.so_far)) h

    pub do_made : (t : Resolved) (b : Counting Core.Stmt) (n : ℕ) (made : Core.Stmt) → within ≡ Some b → value c ≡ Some t →
        n ≡ length s.loops → made ≡ Core.Do p n b.it t.expr →
        meant (Source.Do p label body c) ≡ Some (counting made b.so_far)
    do_made t b n made h test number is =
        ap (λ o. o >>= λ a. value c >>= λ v. Some (counting (Core.Do p (length s.loops) a.it v.expr) a.so_far)) h
        ∙ ap (λ o. o >>= λ v. Some (counting (Core.Do p (length s.loops) b.it v.expr) b.so_far)) test
        ∙ ap (λ k. Some (counting (Core.Do p k b.it t.expr) b.so_far)) (sym number)
        ∙ ap (λ u. Some (counting u b.so_far)) (sym is)

    pub do_fails : (err : Unresolved) → Fails err within → Fails err (meant (Source.Do p label body c))
    do_fails err h = fails_then err within (λ a. value c >>= λ v. Some (counting (Core.Do p (length s.loops) a.it v.expr) a.so_far)) h

    pub do_test_fails : (err : Unresolved) (b : Counting Core.Stmt) → within ≡ Some b → Fails err (value c) →
        Fails err (meant (Source.Do p label body c))
    do_test_fails err b h k =
        fails_as err _ _ (ap (λ o. o >>= λ a. value c >>= λ v. Some (counting (Core.Do p (length s.loops) a.it v.expr) a.so_far)) h)
        (fails_then err (value c) (λ v. Some (counting (Core.Do p (length s.loops) b.it v.expr) b.so_far)) k)

  -- ---- switch

  module _ (e : Source.Expr) (gs : Source.Groups) (end : Place) where
    abbrev inside : Source.Enum → Option (Counting (List OneGroup))
    inside k = groups tables at gs k (InSwitch ∷ around) locals s

    abbrev chosen : Resolved → Source.Enum → Option (Counting Core.Stmt)
    chosen v k = inside k >>= λ g. Some (counting (Core.Switch p v.expr (groups_of g.it) end) g.so_far)

    pub switch_made : (v : Resolved) (k : Source.Enum) (g : Counting (List OneGroup)) (made : Core.Stmt) → value e ≡ Some v →
        enum_given tables v.given ≡ Some k → inside k ≡ Some g →
        made ≡ Core.Switch p v.expr (groups_of g.it) end → meant (Source.Switch p e gs end) ≡ Some (counting made g.so_far)
    switch_made v k g made of enum h is =
        ap (λ o. o >>= λ w. enum_given tables w.given >>= chosen w) of ∙ ap (λ o. o >>= chosen v) enum
        ∙ ap (λ o. o >>= λ a. Some (counting (Core.Switch p v.expr (groups_of a.it) end) a.so_far)) h ∙ ap (λ u. Some (counting u g.so_far))
        (sym is)

    pub switch_value_fails : (err : Unresolved) → Fails err (value e) → Fails err (meant (Source.Switch p e gs end))
    switch_value_fails err h = fails_then err (value e) (λ w. enum_given tables w.given >>= chosen w) h

    pub switch_enum_fails : (err : Unresolved) (v : Resolved) → value e ≡ Some v → Fails err (enum_given tables v.given) →
        Fails err (meant (Source.Switch p e gs end))
    switch_enum_fails err v of h = fails_as err _ _ (ap (λ o. o >>= λ w. enum_given tables w.given >>= chosen w) of)
        (fails_then err (enum_given tables v.given) (chosen v) h)

    pub switch_fails : (err : Unresolved) (v : Resolved) (k : Source.Enum) → value e ≡ Some v → enum_given tables v.given ≡ Some k →
        Fails err (inside k) → Fails err (meant (Source.Switch p e gs end))
    switch_fails err v k of enum h =
        fails_as err _ _ (ap (λ o. o >>= λ w. enum_given tables w.given >>= chosen w) of ∙ ap (λ o. o >>= chosen v) enum)
        (fails_then err (inside k) (λ a. Some (counting (Core.Switch p v.expr (groups_of a.it) end) a.so_far)) h)

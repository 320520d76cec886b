-- What statements that a file has are resolved to can be held, and so can the names that they declare.
use Rattle.std.proofs.Common.{◌≡◌, inl, inr, List, ◌∷◌, length, Option, Some, None, subst}
use Rattle.std.specs.Prelude.{◌⊎◌}
use Rattle.mg_text.specs.Call.{Name}
use Rattle.mg_text.specs.declared.place.Place.{Place}
use Rattle.ts_tree.specs.declared.parts.TypeName.{TypeName}
use Rattle.jv_tree.specs.Source
use Rattle.jv_core.specs.Tree as Core
use Rattle.jv_core.specs.View.{OneGroup, before, stmts_of, groups_of}
use Rattle.jv_names.proofs.Tables.{some_is}
use Rattle.jv_resolve_law.specs.Tables.{Tables, type_meant, interned}
use Rattle.jv_resolve_law.specs.Expressions.{Resolved, Known, Standing, variable_in, resolved}
use Rattle.jv_resolve_law.specs.Statements.{Counted, Around, InLoop, InSwitch, Counting, Item, labels_at, loop_more, declared, slot_more}
use Rattle.jv_resolve_law.specs.Statements.{left_by, gone_on_by, enum_given, given_back, local, item, stmt, stmts, groups}
use Rattle.jv_resolve_law.proofs.Steps.{bound, mapped}
use Rattle.jv_back.proofs.Told.{IsNamed}
use Rattle.jv_back.proofs.Exprs.{IsWritten}
use Rattle.jv_back.proofs.Stmts.{IsWrittenValue, IsWrittenLocal, IsWrittenStmt, AreWrittenStmts, AreWrittenGroups}
use Rattle.gen_links.specs.Held.{HoldsValue, HoldsStmt, HoldsStmts, HoldsGroups}
use Rattle.gen_held.proofs.Words.{AreFine, fine, fine_with}
use Rattle.gen_held.proofs.Exprs.{AreFew, resolved_held}

-- names that can be held, and what was resolved with them
pub record Kept (A : Type 0) (Is : A → Type 0) (r : Counting A) : Type 0 where
  pub names : AreFine r.so_far.names
  pub it : Is r.it

abbrev pub StmtKept : Counting Core.Stmt → Type 0
StmtKept = Kept Core.Stmt HoldsStmt

abbrev pub StmtsKept : Counting (List Core.Stmt) → Type 0
StmtsKept = Kept (List Core.Stmt) (λ ss. HoldsStmts (stmts_of ss))

abbrev pub GroupsKept : Counting (List OneGroup) → Type 0
GroupsKept = Kept (List OneGroup) (λ gs. HoldsGroups (groups_of gs))

record ItemKept (r : Item) : Type 0 where
  pub names : AreFine r.so_far.names
  pub it : HoldsStmt r.stmt

held_before : (s : Core.Stmt) (more : Core.Stmts) → HoldsStmt s → HoldsStmts more → HoldsStmts (before s more)
held_before (Core.Local p k e) more a b = (a, b)
held_before s more a b = (a, b)

module _ (tables : Tables) (few : AreFew tables.enums) where
  pub slot_kept : (ty : TypeName) (name : Name) (s : Counted) (k : Counting Known) → slot_more tables ty name s ≡ Some k →
      IsNamed name → AreFine s.names → AreFine k.so_far.names
  slot_kept ty name s k e n f =
      let b = bound (type_meant tables ty) _ k e in
      let c = bound (interned s.names name) _ k b.gives in
      subst (λ (z : Counting Known). AreFine z.so_far.names) (some_is c.gives) (fine_with s.names name c.item c.is (fine name n) f)

  module _ (at : Standing) where
    value_held : (locals : List Known) (value : Option Source.Expr) (v : Option Core.Expr) → IsWrittenValue value →
        given_back tables at locals value ≡ Some v → HoldsValue v
    value_held locals None v w e = subst HoldsValue (some_is e) tt
    value_held locals (Some x) v w e =
        let m = mapped (λ (r : Resolved). Some r.expr) (resolved tables at locals x) v e in
        subst HoldsValue m.gives (resolved_held tables few at locals x m.item w m.is)

    -- a declaration
    record LocalKept (r : Counting Known × Core.Stmt) : Type 0 where
      names : AreFine r.0.so_far.names
      it : HoldsStmt r.1

    local_kept : (p : Place) (ty : TypeName) (name : Name) (x : Source.Expr) (locals : List Known) (s : Counted)
        (r : Counting Known × Core.Stmt) →
        IsNamed name → IsWritten x → AreFine s.names → local tables at p ty name x locals s ≡ Some r → LocalKept r
    local_kept p ty name x locals s r n w f e =
        let v = bound (resolved tables at locals x) _ r e in
        let k = bound (slot_more tables ty name s) _ r v.gives in
        subst LocalKept (some_is k.gives) (record {
          names = slot_kept ty name s k.item k.is n f;
          it = resolved_held tables few at locals x v.item w v.is;
        })

    declared_kept : (s : Source.Stmt) (locals : List Known) (c : Counted) (o : Option (Counting Core.Stmt)) (r : Item) → IsWrittenLocal s →
        AreFine c.names → item tables at s locals c o ≡ Some r → ItemKept r
    declared_kept (Source.Local p ty name x) locals c o r w f e =
        let k = bound (local tables at p ty name x locals c) _ r e in
        let m = bound (declared k.item.0.it locals) _ r k.gives in
        let h = local_kept p ty name x locals c k.item w.1 w.2 f k.is in
        subst ItemKept (some_is m.gives) (record { names = h.names; it = h.it })
    declared_kept s locals c o r w f e = absurd w

    plain_kept : (s : Source.Stmt) (locals : List Known) (c : Counted) (o : Option (Counting Core.Stmt)) (r : Item) → IsWrittenStmt s →
        ((k : Counting Core.Stmt) → o ≡ Some k → StmtKept k) → item tables at s locals c o ≡ Some r → ItemKept r
    plain_kept (Source.Local p ty name x) locals c o r w h e = absurd w
    plain_kept s locals c o r w h e =
        let m = mapped (λ (a : Counting Core.Stmt). record { stmt = a.it; locals = locals; so_far = a.so_far }) o r e in
        let k = h m.item m.is in
        subst ItemKept m.gives (record { names = k.names; it = k.it })

    item_kept : (s : Source.Stmt) (around : List Around) (locals : List Known) (c : Counted) (r : Item) →
        (IsWrittenLocal s ⊎ IsWrittenStmt s) →
        AreFine c.names → ((k : Counting Core.Stmt) → IsWrittenStmt s → stmt tables at s around locals c ≡ Some k → StmtKept k) →
        item tables at s locals c (stmt tables at s around locals c) ≡ Some r → ItemKept r
    item_kept s around locals c r (inl w) f h e = declared_kept s locals c (stmt tables at s around locals c) r w f e
    item_kept s around locals c r (inr w) f h e = plain_kept s locals c (stmt tables at s around locals c) r w (λ k is. h k w is) e

    mutual
      pub stmt_kept : (s : Source.Stmt) (around : List Around) (locals : List Known) (c : Counted) (r : Counting Core.Stmt) →
          IsWrittenStmt s → AreFine c.names → stmt tables at s around locals c ≡ Some r → StmtKept r
      stmt_kept (Source.Block p body end) around locals c r w f e =
          let b = bound (stmts tables at body around locals c) _ r e in
          let h = stmts_kept body around locals c b.item w f b.is in
          subst StmtKept (some_is b.gives) (record { names = h.names; it = h.it })
      stmt_kept (Source.Empty p) around locals c r w f e = subst StmtKept (some_is e) (record { names = f; it = tt })
      stmt_kept (Source.Local p ty name x) around locals c r w f e = absurd w
      stmt_kept (Source.Assign p target value) around locals c r w f e =
          let t = bound (resolved tables at locals target) _ r e in
          let x = bound (variable_in t.item.expr) _ r t.gives in
          let v = bound (resolved tables at locals value) _ r x.gives in
          subst StmtKept (some_is v.gives) (record { names = f; it = resolved_held tables few at locals value v.item w.1 v.is })
      stmt_kept (Source.If p x body) around locals c r w f e =
          let t = bound (resolved tables at locals x) _ r e in
          let b = bound (stmt tables at body around locals c) _ r t.gives in
          let h = stmt_kept body around locals c b.item w.1 f b.is in
          subst StmtKept (some_is b.gives) (record { names = h.names; it = (resolved_held tables few at locals x t.item w.0 t.is, h.it) })
      stmt_kept (Source.IfElse p x body rest) around locals c r w f e =
          let t = bound (resolved tables at locals x) _ r e in
          let b = bound (stmt tables at body around locals c) _ r t.gives in
          let d = bound (stmt tables at rest around locals b.item.so_far) _ r b.gives in
          let h = stmt_kept body around locals c b.item w.1 f b.is in
          let g = stmt_kept rest around locals b.item.so_far d.item w.3 h.names d.is in
          subst StmtKept (some_is d.gives)
          (record { names = g.names; it = (resolved_held tables few at locals x t.item w.0 t.is, h.it, g.it) })
      stmt_kept (Source.While p label x body) around locals c r w f e =
          let t = bound (resolved tables at locals x) _ r e in
          let b = bound (stmt tables at body (InLoop label (length c.loops) ∷ around) locals (loop_more p locals c)) _ r t.gives in
          let h = stmt_kept body (InLoop label (length c.loops) ∷ around) locals (loop_more p locals c) b.item w.2 f b.is in
          subst StmtKept (some_is b.gives) (record { names = h.names; it = (resolved_held tables few at locals x t.item w.1 t.is, h.it) })
      stmt_kept (Source.Do p label body x) around locals c r w f e =
          let b = bound (stmt tables at body (InLoop label (length c.loops) ∷ around) locals (loop_more p locals c)) _ r e in
          let t = bound (resolved tables at locals x) _ r b.gives in
          let h = stmt_kept body (InLoop label (length c.loops) ∷ around) locals (loop_more p locals c) b.item w.1 f b.is in
          subst StmtKept (some_is t.gives) (record { names = h.names; it = (h.it, resolved_held tables few at locals x t.item w.2 t.is) })
      stmt_kept (Source.Switch p x gs end) around locals c r w f e =
          let v = bound (resolved tables at locals x) _ r e in
          let k = bound (enum_given tables v.item.given) _ r v.gives in
          let g = bound (groups tables at gs k.item (InSwitch ∷ around) locals c) _ r k.gives in
          let h = groups_kept gs k.item (InSwitch ∷ around) locals c g.item w.1 f g.is in
          subst StmtKept (some_is g.gives) (record { names = h.names; it = (resolved_held tables few at locals x v.item w.0 v.is, h.it) })
      stmt_kept (Source.Break p label) around locals c r w f e =
          let n = bound (left_by around label) _ r e in subst StmtKept (some_is n.gives) (record { names = f; it = tt })
      stmt_kept (Source.Continue p label) around locals c r w f e =
          let n = bound (gone_on_by around label) _ r e in subst StmtKept (some_is n.gives) (record { names = f; it = tt })
      stmt_kept (Source.Return p value) around locals c r w f e =
          let v = bound (given_back tables at locals value) _ r e in
          subst StmtKept (some_is v.gives) (record { names = f; it = value_held locals value v.item w v.is })
      stmt_kept (Source.Print p x) around locals c r w f e =
          let v = bound (resolved tables at locals x) _ r e in
          subst StmtKept (some_is v.gives) (record { names = f; it = resolved_held tables few at locals x v.item w v.is })
      stmt_kept (Source.Eval p x) around locals c r w f e =
          let v = bound (resolved tables at locals x) _ r e in
          subst StmtKept (some_is v.gives) (record { names = f; it = resolved_held tables few at locals x v.item w.0 v.is })

      pub stmts_kept : (ss : Source.Stmts) (around : List Around) (locals : List Known) (c : Counted) (r : Counting (List Core.Stmt)) →
          AreWrittenStmts ss → AreFine c.names → stmts tables at ss around locals c ≡ Some r → StmtsKept r
      stmts_kept Source.NoStmt around locals c r w f e = subst StmtsKept (some_is e) (record { names = f; it = tt })
      stmts_kept (Source.Then first more) around locals c r w f e =
          let a = bound (item tables at first locals c (stmt tables at first around locals c)) _ r e in
          let b = bound (stmts tables at more around a.item.locals a.item.so_far) _ r a.gives in
          let h = item_kept first around locals c a.item w.0 f (λ k v is. stmt_kept first around locals c k v f is) a.is in
          let g = stmts_kept more around a.item.locals a.item.so_far b.item w.1 h.names b.is in
          subst StmtsKept (some_is b.gives) (record { names = g.names; it = held_before a.item.stmt (stmts_of b.item.it) h.it g.it })

      pub groups_kept : (gs : Source.Groups) (enum : Source.Enum) (around : List Around) (locals : List Known) (c : Counted)
          (r : Counting (List OneGroup)) → AreWrittenGroups gs → AreFine c.names → groups tables at gs enum around locals c ≡ Some r →
          GroupsKept r
      groups_kept Source.NoGroup enum around locals c r w f e = subst GroupsKept (some_is e) (record { names = f; it = tt })
      groups_kept (Source.Group labels body end more) enum around locals c r w f e =
          let l = bound (labels_at enum labels) _ r e in
          let b = bound (stmts tables at body around locals c) _ r l.gives in
          let g = bound (groups tables at more enum around locals b.item.so_far) _ r b.gives in
          let h = stmts_kept body around locals c b.item w.1 f b.is in
          let k = groups_kept more enum around locals b.item.so_far g.item w.3 h.names g.is in
          subst GroupsKept (some_is g.gives) (record { names = k.names; it = (h.it, k.it) })

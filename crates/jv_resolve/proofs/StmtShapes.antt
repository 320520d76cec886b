-- What a statement of the program says, by its kind.
use Rattle.std.proofs.Common.{◌≡◌, Option, Some, None, ap, ◌∙◌}
use Rattle.std.specs.Prelude.{map, option_map}
use Rattle.std.specs.declared.boxed.Box.{Box}
use Rattle.std.specs.declared.alloc.Global.{Global}
use Rattle.mg_text.specs.Call.{Name}
use Rattle.mg_text.specs.Row.{Row}
use Rattle.mg_text.specs.declared.place.Place.{Place}
use Rattle.ts_tree.specs.declared.parts.TypeName.{TypeName}
use Rattle.jv_tree.specs.declared.tree.Expr.{Expr as KeptExpr}
use Rattle.jv_tree.specs.declared.tree.Stmt.{Stmt as KeptStmt}
use Rattle.jv_tree.specs.declared.tree.Group.{Group as KeptGroup}
use Rattle.jv_tree.specs.declared.tree.StmtKind.{StmtKind as KeptStmtKind}
use Rattle.jv_tree.specs.declared.tree.StmtKind.TheVariants as S
use Rattle.jv_tree.specs.Source.{Stmt, Block, Empty, Local, Assign, If, IfElse, While, Do, Switch, Break, Continue, Return, Print, Eval}
use Rattle.jv_tree.specs.View.{expr_of, stmts_of, groups_of, stmt_of, group_of, stmt_kind_of}
use Rattle.jv_tree.proofs.ViewLaws.{stmt_of-is, kind-Block, kind-Empty, kind-Local, kind-Assign, kind-While, kind-Do, kind-Switch}
use Rattle.jv_tree.proofs.ViewLaws.{kind-Break, kind-Continue, kind-Return, kind-Print, kind-Eval, kind-If-None, kind-If-Some}

module _ (x : KeptStmt) where
  shape : (k : KeptStmtKind) (s : Stmt) → x.kind ≡ k → stmt_kind_of k x.place ≡ s → stmt_of x ≡ s
  shape k s is says = stmt_of-is x ∙ ap (λ j. stmt_kind_of j x.place) is ∙ says

  pub shape-Block : (b : Row KeptStmt) (end : Place) → x.kind ≡ S.Block b end → stmt_of x ≡ Block x.place (stmts_of (map stmt_of b.items))
      end
  shape-Block b end is = shape (S.Block b end) (Block x.place (stmts_of (map stmt_of b.items)) end) is (kind-Block b end x.place)

  pub shape-Empty : x.kind ≡ S.Empty → stmt_of x ≡ Empty x.place
  shape-Empty is = shape S.Empty (Empty x.place) is (kind-Empty x.place)

  pub shape-Local : (ty : TypeName) (n : Name) (e : KeptExpr) → x.kind ≡ S.Local ty n e → stmt_of x ≡ Local x.place ty n (expr_of e)
  shape-Local ty n e is = shape (S.Local ty n e) (Local x.place ty n (expr_of e)) is (kind-Local ty n e x.place)

  pub shape-Assign : (l e : KeptExpr) → x.kind ≡ S.Assign l e → stmt_of x ≡ Assign x.place (expr_of l) (expr_of e)
  shape-Assign l e is = shape (S.Assign l e) (Assign x.place (expr_of l) (expr_of e)) is (kind-Assign l e x.place)

  pub shape-While : (l : Option Name) (c : KeptExpr) (s : Box KeptStmt Global) → x.kind ≡ S.While l c s →
      stmt_of x ≡ While x.place l (expr_of c) (stmt_of s.value)
  shape-While l c s is = shape (S.While l c s) (While x.place l (expr_of c) (stmt_of s.value)) is (kind-While l c s x.place)

  pub shape-Do : (l : Option Name) (s : Box KeptStmt Global) (c : KeptExpr) → x.kind ≡ S.Do l s c →
      stmt_of x ≡ Do x.place l (stmt_of s.value) (expr_of c)
  shape-Do l s c is = shape (S.Do l s c) (Do x.place l (stmt_of s.value) (expr_of c)) is (kind-Do l s c x.place)

  pub shape-Switch : (e : KeptExpr) (gs : Row KeptGroup) (end : Place) → x.kind ≡ S.Switch e gs end → stmt_of x ≡ Switch x.place (expr_of e)
      (groups_of (map group_of gs.items)) end
  shape-Switch e gs end is = shape (S.Switch e gs end) (Switch x.place (expr_of e) (groups_of (map group_of gs.items)) end) is
      (kind-Switch e gs end x.place)

  pub shape-Break : (l : Option Name) → x.kind ≡ S.Break l → stmt_of x ≡ Break x.place l
  shape-Break l is = shape (S.Break l) (Break x.place l) is (kind-Break l x.place)

  pub shape-Continue : (l : Option Name) → x.kind ≡ S.Continue l → stmt_of x ≡ Continue x.place l
  shape-Continue l is = shape (S.Continue l) (Continue x.place l) is (kind-Continue l x.place)

  pub shape-Return : (e : Option KeptExpr) → x.kind ≡ S.Return e → stmt_of x ≡ Return x.place (option_map expr_of e)
  shape-Return e is = shape (S.Return e) (Return x.place (option_map expr_of e)) is (kind-Return e x.place)

  pub shape-Print : (e : KeptExpr) → x.kind ≡ S.Print e → stmt_of x ≡ Print x.place (expr_of e)
  shape-Print e is = shape (S.Print e) (Print x.place (expr_of e)) is (kind-Print e x.place)

  pub shape-Eval : (e : KeptExpr) → x.kind ≡ S.Eval e → stmt_of x ≡ Eval x.place (expr_of e)
  shape-Eval e is = shape (S.Eval e) (Eval x.place (expr_of e)) is (kind-Eval e x.place)

  pub shape-If : (c : KeptExpr) (s : Box KeptStmt Global) → x.kind ≡ S.If c s None → stmt_of x ≡ If x.place (expr_of c) (stmt_of s.value)
  shape-If c s is = shape (S.If c s None) (If x.place (expr_of c) (stmt_of s.value)) is (kind-If-None c s x.place)

  pub shape-IfElse : (c : KeptExpr) (s r : Box KeptStmt Global) → x.kind ≡ S.If c s (Some r) → stmt_of x ≡ IfElse x.place (expr_of c)
      (stmt_of s.value) (stmt_of r.value)
  shape-IfElse c s r is = shape (S.If c s (Some r)) (IfElse x.place (expr_of c) (stmt_of s.value) (stmt_of r.value)) is
      (kind-If-Some c s r x.place)

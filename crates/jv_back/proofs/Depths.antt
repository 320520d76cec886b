-- Places don't change how deep a tree is.
use Rattle.std.proofs.Common.{◌≡◌, ℕ, suc, max, List, [], ◌∷◌, map, Option, Some, None, refl, sym, ap, ap₂, ◌∙◌}
use Rattle.std.specs.Prelude.{option_map}
use Rattle.jv_tree.specs.Source.{Expr, Int, Truth, Text, Null, This, Variable, Member, Neg, Not, Binary, Call, MethodCall, New, Exprs}
use Rattle.jv_tree.specs.Source.{NoExpr, Argument}
use Rattle.jv_tree.specs.Source.{Stmt, Block, Empty, Local, Assign, If, IfElse, While, Do, Switch, Break, Continue, Return, Print, Eval}
use Rattle.jv_tree.specs.Source.{Stmts, NoStmt, Then, Groups, NoGroup, Group, Field, Method, Decl, ClassDecl, EnumDecl, File}
use Rattle.jv_tree.specs.Depth.{depth, depth_of_args, depth_of_value, depth_of_stmt, depth_of_stmts, depth_of_groups, depth_of_fields}
use Rattle.jv_tree.specs.Depth.{depth_of_methods, depth_of_decl, depth_of_file}
use Rattle.jv_back.specs.Bare.{bare, bare_args, bare_stmt, bare_stmts, bare_groups, bare_field, bare_method, bare_decl, bare_file}

deeper : {a b : ℕ} → a ≡ b → suc a ≡ suc b
deeper e = ap (λ (n : ℕ). suc n) e

both : {a b c d : ℕ} → a ≡ b → c ≡ d → max a c ≡ max b d
both e f = ap₂ max e f

mutual
  same_expr : (e : Expr) → depth (bare e) ≡ depth e
  same_expr (Int p z) = refl
  same_expr (Truth p b) = refl
  same_expr (Text p t) = refl
  same_expr (Null p) = refl
  same_expr (This p) = refl
  same_expr (Variable p n) = refl
  same_expr (Member p e n) = deeper (same_expr e)
  same_expr (Neg p e) = deeper (same_expr e)
  same_expr (Not p e) = deeper (same_expr e)
  same_expr (Binary p o l r) = deeper (both (same_expr l) (same_expr r))
  same_expr (Call p n args) = deeper (same_args args)
  same_expr (MethodCall p e n args) = deeper (both (same_expr e) (same_args args))
  same_expr (New p n) = refl

  same_args : (args : Exprs) → depth_of_args (bare_args args) ≡ depth_of_args args
  same_args NoExpr = refl
  same_args (Argument e more) = both (same_expr e) (same_args more)

same_value : (v : Option Expr) → depth_of_value (option_map bare v) ≡ depth_of_value v
same_value None = refl
same_value (Some e) = same_expr e

mutual
  same_stmt : (s : Stmt) → depth_of_stmt (bare_stmt s) ≡ depth_of_stmt s
  same_stmt (Block p body end) = deeper (same_stmts body)
  same_stmt (Empty p) = refl
  same_stmt (Local p ty n e) = deeper (same_expr e)
  same_stmt (Assign p t e) = deeper (both (same_expr t) (same_expr e))
  same_stmt (If p c s) = deeper (both (same_expr c) (same_stmt s))
  same_stmt (IfElse p c s r) = deeper (both (same_expr c) (both (same_stmt s) (same_stmt r)))
  same_stmt (While p l c s) = deeper (both (same_expr c) (same_stmt s))
  same_stmt (Do p l s c) = deeper (both (same_stmt s) (same_expr c))
  same_stmt (Switch p e groups end) = deeper (both (same_expr e) (same_groups groups))
  same_stmt (Break p l) = refl
  same_stmt (Continue p l) = refl
  same_stmt (Return p value) = deeper (same_value value)
  same_stmt (Print p e) = deeper (same_expr e)
  same_stmt (Eval p e) = deeper (same_expr e)

  same_stmts : (ss : Stmts) → depth_of_stmts (bare_stmts ss) ≡ depth_of_stmts ss
  same_stmts NoStmt = refl
  same_stmts (Then s more) = both (same_stmt s) (same_stmts more)

  same_groups : (gs : Groups) → depth_of_groups (bare_groups gs) ≡ depth_of_groups gs
  same_groups NoGroup = refl
  same_groups (Group labels body end more) = both (same_stmts body) (same_groups more)

same_fields : (fs : List Field) → depth_of_fields (map bare_field fs) ≡ depth_of_fields fs
same_fields [] = refl
same_fields (f ∷ fs) = both (same_value f.value) (same_fields fs)

same_methods : (ms : List Method) → depth_of_methods (map bare_method ms) ≡ depth_of_methods ms
same_methods [] = refl
same_methods (m ∷ ms) = both (same_stmts m.body) (same_methods ms)

same_decl : (d : Decl) → depth_of_decl (bare_decl d) ≡ depth_of_decl d
same_decl (ClassDecl c) = both (same_fields c.fields) (same_methods c.methods)
same_decl (EnumDecl e) = refl

same_file : (ds : List Decl) → depth_of_file (bare_file ds) ≡ depth_of_file ds
same_file [] = refl
same_file (d ∷ ds) = both (same_decl d) (same_file ds)

pub depth_kept : (f g : File) → bare_file g ≡ bare_file f → depth_of_file g ≡ depth_of_file f
depth_kept f g same = sym (same_file g) ∙ ap depth_of_file same ∙ same_file f

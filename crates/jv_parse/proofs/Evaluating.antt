-- What the kinds of expressions say of statements.
use Rattle.std.proofs.Common.{◌≡◌, ℕ, suc, ◌-◌, ◌<◌, ◌≤◌, List, [], ◌∷◌, length, Bool, true, false, None, refl, sym, ap, ◌∙◌, arith, nat_eq}
use Rattle.std.proofs.Common.{true≢false}
use Rattle.std.specs.Prelude.{◌&&◌, codes, leb, map, max, if◌then◌else◌}
use Rattle.std.specs.Str.{bytes_eq}
use Rattle.std.proofs.lemmas.Bool.{lt-leb, leb-true, leb-false, eqb-true}
use Rattle.mg_text.specs.Call.{Name}
use Rattle.mg_text.specs.declared.place.Place.{Place}
use Rattle.jv_tree.specs.declared.tree.Expr.{Expr as KeptExpr}
use Rattle.jv_tree.specs.Source.{Expr, Int, Truth, Text, Null, This, Variable, Member, Neg, Not, Binary, Call, MethodCall, New, NoExpr}
use Rattle.jv_tree.specs.Source.{Argument}
use Rattle.jv_tree.specs.Depth.{depth}
use Rattle.jv_tree.specs.Sugar.{is_out, only_argument}
use Rattle.jv_tree.specs.View.{expr_of, exprs_of}
use Rattle.jv_tree.proofs.ViewLaws.{views}
use Rattle.jv_grammar.specs.Stmts.{evaluated_by, evaluated}
use Rattle.jv_grammar.proofs.Primaries.{depth_pos}
use Rattle.jv_parse.specs.inner.Evaluations.{is_variable, is_none, is_leaf, eval_if}

pub out-Member : (p : Place) (e : Expr) (n : Name) → is_out (Member p e n) ≡ (is_variable (codes "System") e && bytes_eq n (codes "out"))
out-Member p (Int q z) n = refl
out-Member p (Truth q b) n = refl
out-Member p (Text q t) n = refl
out-Member p (Null q) n = refl
out-Member p (This q) n = refl
out-Member p (Variable q k) n = refl
out-Member p (Member q e2 k) n = refl
out-Member p (Neg q e2) n = refl
out-Member p (Not q e2) n = refl
out-Member p (Binary q o l r) n = refl
out-Member p (Call q k args) n = refl
out-Member p (MethodCall q e2 k args) n = refl
out-Member p (New q k) n = refl

pub none-is : (xs : List KeptExpr) → is_none (exprs_of (map expr_of xs)) ≡ nat_eq (length xs) 0
none-is [] = refl
none-is (x ∷ xs) = some_are (nat_eq (length (x ∷ xs)) 0) refl where
  some_are : (b : Bool) → nat_eq (length (x ∷ xs)) 0 ≡ b → false ≡ b
  some_are true e = let none : length (x ∷ xs) ≡ 0 = eqb-true (length (x ∷ xs)) 0 e in absurd (omega arith)
  some_are false e = refl

pub leaf-is : (e : Expr) → is_leaf e ≡ leb (depth e) 1
leaf-is (Int p z) = refl
leaf-is (Truth p b) = refl
leaf-is (Text p t) = refl
leaf-is (Null p) = refl
leaf-is (This p) = refl
leaf-is (Variable p n) = refl
leaf-is (Member p e n) = sym (lt-leb (depth (Member p e n)) 1 (omega (arith, depth_pos e)))
leaf-is (Neg p e) = sym (lt-leb (depth (Neg p e)) 1 (omega (arith, depth_pos e)))
leaf-is (Not p e) = sym (lt-leb (depth (Not p e)) 1 (omega (arith, depth_pos e)))
leaf-is (Binary p o l r) = sym (lt-leb (depth (Binary p o l r)) 1 (omega (arith, depth_pos l)))
leaf-is (Call p n NoExpr) = refl
leaf-is (Call p n (Argument e more)) = sym (lt-leb (depth (Call p n (Argument e more))) 1 (omega (arith, depth_pos e)))
leaf-is (MethodCall p e n args) = sym (lt-leb (depth (MethodCall p e n args)) 1 (omega (arith, depth_pos e)))
leaf-is (New p n) = refl

pub ruleset kinds = (views, out-Member, none-is)

-- one that holds no other one is one deep
pub within_leaf : (d : ℕ) (e : Expr) → is_leaf e ≡ true → leb 1 d ≡ leb (depth e) d
within_leaf d e h =
    let most : depth e ≤ 1 = leb-true (depth e) 1 (sym (leaf-is e) ∙ h) in
    let one : 1 ≡ depth e = omega (arith, depth_pos e) in
    ap (λ (k : ℕ). leb k d) one

-- Its call is one deeper than what is printed, where that holds something.
pub within_call : (d call : ℕ) (e : Expr) → call ≡ suc (max 2 (max (depth e) 0)) → is_leaf e ≡ false → leb (call - 1) d ≡ leb (depth e) d
within_call d call e deep h =
    let more : 1 < depth e = leb-false (depth e) 1 (sym (leaf-is e) ∙ h) in
    let one : call - 1 ≡ depth e = omega arith in
    ap (λ (k : ℕ). leb k d) one

pub ruleset printing = (views, leaf-is)

-- ---- a call of a method, as a statement

-- whether it prints one thing
abbrev pub does_print : KeptExpr → Name → List KeptExpr → Bool
does_print r n xs = is_out (expr_of r) && (bytes_eq n (codes "println") && nat_eq (length xs) 1)

prints_none : (a b : Bool) (xs : List KeptExpr) → (a && (b && nat_eq (length xs) 1)) ≡ false →
    (if a && b then only_argument (exprs_of (map expr_of xs)) else None) ≡ None
prints_none false b xs h = refl
prints_none true false xs h = refl
prints_none true true [] h = refl
prints_none true true (x ∷ []) h = absurd (true≢false h)
prints_none true true (x ∷ y ∷ xs) h = refl

-- one that does not print is evaluated
pub call_is : (d : ℕ) (p at : Place) (r : KeptExpr) (n : Name) (xs : List KeptExpr) → does_print r n xs ≡ false
    → eval_if d p (MethodCall at (expr_of r) n (exprs_of (map expr_of xs))) ≡ evaluated d p
    (MethodCall at (expr_of r) n (exprs_of (map expr_of xs)))
call_is d p at r n xs h =
    let call = MethodCall at (expr_of r) n (exprs_of (map expr_of xs)) in
    sym (ap (evaluated_by d p call) (prints_none (is_out (expr_of r)) (bytes_eq n (codes "println")) xs h))

pub prints_are : (b v : Bool) (r s : KeptExpr) (n m : Name) (xs ys : List KeptExpr) → b ≡ does_print r n xs → b ≡ v → r ≡ s → n ≡ m →
    xs ≡ ys → does_print s m ys ≡ v
prints_are b v r s n m xs ys is was e f g =
    ap (λ (t : KeptExpr). does_print t m ys) (sym e) ∙ ap (λ (k : Name). does_print r k ys) (sym f) ∙ ap (does_print r n) (sym g) ∙ sym is ∙
    was

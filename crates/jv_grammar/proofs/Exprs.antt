-- Expressions are read exactly.
use Rattle.std.proofs.Common.{◌≡◌, ℕ, zero, suc, max, List, [], ◌++◌, Some, refl, sym, ap, ◌∙◌, arith}
use Rattle.mg_read.proofs.Steps.{some_is, none_is_not}
use Rattle.mg_read.proofs.Lists.{IsExact}
use Rattle.jv_tree.specs.declared.token.Sign.TheVariants as signs
use Rattle.jv_tree.specs.declared.token.Token.{Token}
use Rattle.jv_tree.specs.Source.{Expr}
use Rattle.jv_tree.specs.Depth.{depth}
use Rattle.jv_tree.specs.Expressions.{IsPost, IsInner, IsExpr}
use Rattle.jv_grammar.specs.Exprs.{inner_at, post_at, binary_at, expr_at}
use Rattle.jv_grammar.proofs.Args.{Within, Ends, Reading}
use Rattle.jv_grammar.proofs.Beginnings.{Begins, begins_more, begins_some, begins_no_sign, binary_begins}
use Rattle.jv_grammar.proofs.Posts.{post_exact}
use Rattle.jv_grammar.proofs.Chains.{binary_exact}

pub inner_reading : (m d : ℕ) → Reading (inner_at m d) (Within (IsInner m) d)
unfolding inner_at
inner_reading zero d = record {
  exact = record { sound = λ ts x e. absurd (none_is_not x e); complete = λ e ts rest fine h. absurd h.0 };
  nonempty = λ e us h. absurd h.0;
  unclosed = λ e us rest h. absurd h.0;
}
inner_reading (suc m) d =
    let b = binary_exact m (inner_at m) (IsInner m) (inner_reading m) 6 d in
    record {
      exact = record { sound = b.sound; complete = b.complete };
      nonempty = λ e us h. begins_some us (binary_begins m (IsInner m) 6 e us h.0);
      unclosed = λ e us rest h. begins_no_sign signs.CloseParen (us ++ rest) refl
          (begins_more us rest (binary_begins m (IsInner m) 6 e us h.0));
    }

pub expr_begins : (m : ℕ) (e : Expr) (us : List Token) → IsExpr m e us → Begins us
expr_begins m e us h = binary_begins m (IsInner m) 6 e us h

pub expr_exact : (m d : ℕ) → IsExact (expr_at m d) (Within (IsExpr m) d) (Ends 6)
unfolding expr_at binary_at
expr_exact m d = let b = binary_exact m (inner_at m) (IsInner m) (inner_reading m) 6 d in record { sound = b.sound; complete = b.complete }

pub post_at_exact : (m d : ℕ) → IsExact (post_at m d) (Within (IsPost m (IsInner m)) d) (Ends 0)
unfolding post_at
post_at_exact m d = let b = post_exact m (inner_at m) (IsInner m) (inner_reading m) d in record { sound = b.sound; complete = b.complete }

-- nothing comes after all of the tokens
after_all : Ends 6 []
after_all = (((((((refl, refl), refl), refl), refl), refl), refl), refl)

pub expr_unique : (m : ℕ) (e f : Expr) (ts : List Token) → IsExpr m e ts → IsExpr m f ts → e ≡ f
expr_unique m e f ts h k =
    let d = max (depth e) (depth f) in
    let one : expr_at m d (ts ++ []) ≡ Some (e, []) = (expr_exact m d).complete e ts [] after_all (h, omega arith) in
    let other : expr_at m d (ts ++ []) ≡ Some (f, []) = (expr_exact m d).complete f ts [] after_all (k, omega arith) in
    ap (λ (x : Expr × List Token). x.0) (some_is (e, []) (f, []) (sym one ∙ other))

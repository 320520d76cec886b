-- A reader of an expression that grows, at some place of it: where it began, and what it has appended.
use Rattle.std.proofs.Common.{◌≡◌, ℕ, ◌<◌, ◌≤◌, List, [], ◌++◌, length, Bool, true, Some, sym, ap, ◌∙◌, subst, append_assoc, append-nil}
use Rattle.std.proofs.Common.{length-append, arith}
use Rattle.jv_tree.specs.declared.token.Token.{Token}
use Rattle.jv_tree.specs.Source.{Expr}
use Rattle.jv_tree.specs.Depth.{depth}
use Rattle.jv_tree.specs.Expressions.{Language}
use Rattle.jv_grammar.specs.Exprs.{Reads}
use Rattle.jv_grammar.proofs.Grows.{Reaches, Reaches-here, Reaches-step}

-- `P` says how what it begins with is spelled, `Fine` what may follow that.
module _ (go : List Token → Bool) (step : Expr → Reads) (P : Language) (Fine : List Token → Type 0) (d : ℕ) where
  -- behind the tokens of an expression the reader is at this expression
  pub record Begun (e : Expr) (us rest : List Token) : Type 0 where
    pub first : Expr
    pub front : List Token
    pub back : List Token
    pub parts : us ≡ front ++ back
    pub begins : P first front
    pub less : depth first ≤ d
    pub fine : Fine (back ++ rest)
    pub goes : Reaches go step first (back ++ rest) e rest

  pub begun_alone : (e : Expr) (us rest : List Token) → Fine rest → P e us → depth e ≤ d → Begun e us rest
  begun_alone e us rest fine h le =
      record {
        first = e;
        front = us;
        back = [];
        parts = sym (append-nil us);
        begins = h;
        less = le;
        fine = fine;
        goes = Reaches-here go step e rest;
      }

  pub begun_more : (e f : Expr) (us vs rest : List Token) → Begun e us (vs ++ rest) → go (vs ++ rest) ≡ true →
      step e (vs ++ rest) ≡ Some (f, rest) → 0 < length vs → Begun f (us ++ vs) rest
  begun_more e f us vs rest b goes reads some =
      let together : (b.back ++ vs) ++ rest ≡ b.back ++ (vs ++ rest) = append_assoc b.back vs rest in
      let shorter : length rest < length (vs ++ rest) = omega (arith, length-append vs rest) in
      record {
        first = b.first;
        front = b.front;
        back = b.back ++ vs;
        parts = ap (λ (r : List Token). r ++ vs) b.parts ∙ append_assoc b.front b.back vs;
        begins = b.begins;
        less = b.less;
        fine = subst Fine (sym together) b.fine;
        goes = subst (λ (r : List Token). Reaches go step b.first r f rest) (sym together)
            (Reaches-step go step b.first e f (b.back ++ (vs ++ rest)) (vs ++ rest) rest goes reads shorter b.goes);
      }

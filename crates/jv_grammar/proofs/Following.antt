-- Which statement comes next is seen at its first tokens.
use Rattle.std.proofs.Common.{◌≡◌, ◌+◌, List, [], ◌∷◌, ◌++◌, true, false, Option, Some, None}
use Rattle.std.proofs.Common.{refl, append_assoc, inl, inr}
use Rattle.std.specs.Prelude.{codes}
use Rattle.mg_text.specs.Call.{Name}
use Rattle.mg_text.specs.declared.place.Place.{Place}
use Rattle.mg_read.proofs.Steps.{none_is_not}
use Rattle.jv_tree.specs.declared.tree.Op.{Op}
use Rattle.jv_tree.specs.declared.token.Sign.{Sign}
use Rattle.jv_tree.specs.declared.token.Sign.TheVariants as signs
use Rattle.jv_tree.specs.declared.token.Token.{Token}
use Rattle.jv_tree.specs.Source.{Expr}
use Rattle.jv_tree.specs.Source.{Stmt, Block, Empty, Local, Assign, If, IfElse, While, Do, Switch, Break, Continue, Return, Print, Eval}
use Rattle.jv_tree.specs.Tokens.{word, sign}
use Rattle.jv_grammar.specs.Base.{same_sign, is_sign, is_word}
use Rattle.jv_tree.specs.Expressions.{IsPost, IsInner}
use Rattle.jv_tree.specs.Sugar.{compound, counter}
use Rattle.jv_tree.specs.Statements.{IsTarget, IsLabel, IsAssign, IsStmt}
use Rattle.jv_grammar.specs.Stmts.{is_decl}
use Rattle.jv_grammar.specs.Stmts.{is_change}
use Rattle.jv_grammar.specs.Stmts.{is_assign, is_label}
use Rattle.jv_grammar.proofs.Steps.{name_is_not}
use Rattle.jv_grammar.proofs.Primaries.{no_name_this}
use Rattle.jv_grammar.proofs.Beginnings.{Begins, begins_more, begins_no_sign, begins_no_word, post_begins}
use Rattle.jv_grammar.proofs.StmtParts.{final_no_name}
use Rattle.jv_grammar.proofs.StmtParts.{no_name_int, no_name_boolean}
use Rattle.jv_grammar.proofs.Assigns.{TargetHead, Named, Own, target_head, compound_alone, counter_alone}
use Rattle.jv_grammar.proofs.Assigns.{free_call, printed_call}
use Rattle.jv_grammar.proofs.Leads.{post_quiet, after_semicolon, no_name_if, no_name_while, no_name_do}
use Rattle.jv_grammar.proofs.Leads.{no_name_switch, no_name_break, no_name_continue, no_name_return}

-- ---- which statement comes next

pub compound_colon : (s : Sign) (o : Op) → compound s ≡ Some o → same_sign s signs.Colon ≡ false
compound_colon signs.OpenBrace o h = absurd (none_is_not o h)
compound_colon signs.CloseBrace o h = absurd (none_is_not o h)
compound_colon signs.OpenParen o h = absurd (none_is_not o h)
compound_colon signs.CloseParen o h = absurd (none_is_not o h)
compound_colon signs.OpenBracket o h = absurd (none_is_not o h)
compound_colon signs.CloseBracket o h = absurd (none_is_not o h)
compound_colon signs.Semicolon o h = absurd (none_is_not o h)
compound_colon signs.Comma o h = absurd (none_is_not o h)
compound_colon signs.Dot o h = absurd (none_is_not o h)
compound_colon signs.Assign o h = absurd (none_is_not o h)
compound_colon signs.Equal o h = absurd (none_is_not o h)
compound_colon signs.NotEqual o h = absurd (none_is_not o h)
compound_colon signs.Less o h = absurd (none_is_not o h)
compound_colon signs.LessEqual o h = absurd (none_is_not o h)
compound_colon signs.Greater o h = absurd (none_is_not o h)
compound_colon signs.GreaterEqual o h = absurd (none_is_not o h)
compound_colon signs.Plus o h = absurd (none_is_not o h)
compound_colon signs.Minus o h = absurd (none_is_not o h)
compound_colon signs.Star o h = absurd (none_is_not o h)
compound_colon signs.Slash o h = absurd (none_is_not o h)
compound_colon signs.Percent o h = absurd (none_is_not o h)
compound_colon signs.PlusPlus o h = absurd (none_is_not o h)
compound_colon signs.MinusMinus o h = absurd (none_is_not o h)
compound_colon signs.PlusAssign o h = refl
compound_colon signs.MinusAssign o h = refl
compound_colon signs.StarAssign o h = refl
compound_colon signs.SlashAssign o h = refl
compound_colon signs.PercentAssign o h = refl
compound_colon signs.Bang o h = absurd (none_is_not o h)
compound_colon signs.AndAnd o h = absurd (none_is_not o h)
compound_colon signs.OrOr o h = absurd (none_is_not o h)
compound_colon signs.Colon o h = absurd (none_is_not o h)
compound_colon signs.At o h = absurd (none_is_not o h)
compound_colon signs.Question o h = absurd (none_is_not o h)
compound_colon signs.Ampersand o h = absurd (none_is_not o h)
compound_colon signs.Bar o h = absurd (none_is_not o h)
compound_colon signs.Caret o h = absurd (none_is_not o h)
compound_colon signs.Tilde o h = absurd (none_is_not o h)

pub counter_colon : (s : Sign) (o : Op) → counter s ≡ Some o → same_sign s signs.Colon ≡ false
counter_colon signs.OpenBrace o h = absurd (none_is_not o h)
counter_colon signs.CloseBrace o h = absurd (none_is_not o h)
counter_colon signs.OpenParen o h = absurd (none_is_not o h)
counter_colon signs.CloseParen o h = absurd (none_is_not o h)
counter_colon signs.OpenBracket o h = absurd (none_is_not o h)
counter_colon signs.CloseBracket o h = absurd (none_is_not o h)
counter_colon signs.Semicolon o h = absurd (none_is_not o h)
counter_colon signs.Comma o h = absurd (none_is_not o h)
counter_colon signs.Dot o h = absurd (none_is_not o h)
counter_colon signs.Assign o h = absurd (none_is_not o h)
counter_colon signs.Equal o h = absurd (none_is_not o h)
counter_colon signs.NotEqual o h = absurd (none_is_not o h)
counter_colon signs.Less o h = absurd (none_is_not o h)
counter_colon signs.LessEqual o h = absurd (none_is_not o h)
counter_colon signs.Greater o h = absurd (none_is_not o h)
counter_colon signs.GreaterEqual o h = absurd (none_is_not o h)
counter_colon signs.Plus o h = absurd (none_is_not o h)
counter_colon signs.Minus o h = absurd (none_is_not o h)
counter_colon signs.Star o h = absurd (none_is_not o h)
counter_colon signs.Slash o h = absurd (none_is_not o h)
counter_colon signs.Percent o h = absurd (none_is_not o h)
counter_colon signs.PlusPlus o h = refl
counter_colon signs.MinusMinus o h = refl
counter_colon signs.PlusAssign o h = absurd (none_is_not o h)
counter_colon signs.MinusAssign o h = absurd (none_is_not o h)
counter_colon signs.StarAssign o h = absurd (none_is_not o h)
counter_colon signs.SlashAssign o h = absurd (none_is_not o h)
counter_colon signs.PercentAssign o h = absurd (none_is_not o h)
counter_colon signs.Bang o h = absurd (none_is_not o h)
counter_colon signs.AndAnd o h = absurd (none_is_not o h)
counter_colon signs.OrOr o h = absurd (none_is_not o h)
counter_colon signs.Colon o h = absurd (none_is_not o h)
counter_colon signs.At o h = absurd (none_is_not o h)
counter_colon signs.Question o h = absurd (none_is_not o h)
counter_colon signs.Ampersand o h = absurd (none_is_not o h)
counter_colon signs.Bar o h = absurd (none_is_not o h)
counter_colon signs.Caret o h = absurd (none_is_not o h)
counter_colon signs.Tilde o h = absurd (none_is_not o h)

pub counter_led : (s : Sign) (o : Op) → counter s ≡ Some o → (same_sign s signs.OpenBrace ≡ false) × (same_sign s signs.Semicolon ≡ false)
counter_led signs.OpenBrace o h = absurd (none_is_not o h)
counter_led signs.CloseBrace o h = absurd (none_is_not o h)
counter_led signs.OpenParen o h = absurd (none_is_not o h)
counter_led signs.CloseParen o h = absurd (none_is_not o h)
counter_led signs.OpenBracket o h = absurd (none_is_not o h)
counter_led signs.CloseBracket o h = absurd (none_is_not o h)
counter_led signs.Semicolon o h = absurd (none_is_not o h)
counter_led signs.Comma o h = absurd (none_is_not o h)
counter_led signs.Dot o h = absurd (none_is_not o h)
counter_led signs.Assign o h = absurd (none_is_not o h)
counter_led signs.Equal o h = absurd (none_is_not o h)
counter_led signs.NotEqual o h = absurd (none_is_not o h)
counter_led signs.Less o h = absurd (none_is_not o h)
counter_led signs.LessEqual o h = absurd (none_is_not o h)
counter_led signs.Greater o h = absurd (none_is_not o h)
counter_led signs.GreaterEqual o h = absurd (none_is_not o h)
counter_led signs.Plus o h = absurd (none_is_not o h)
counter_led signs.Minus o h = absurd (none_is_not o h)
counter_led signs.Star o h = absurd (none_is_not o h)
counter_led signs.Slash o h = absurd (none_is_not o h)
counter_led signs.Percent o h = absurd (none_is_not o h)
counter_led signs.PlusPlus o h = (refl, refl)
counter_led signs.MinusMinus o h = (refl, refl)
counter_led signs.PlusAssign o h = absurd (none_is_not o h)
counter_led signs.MinusAssign o h = absurd (none_is_not o h)
counter_led signs.StarAssign o h = absurd (none_is_not o h)
counter_led signs.SlashAssign o h = absurd (none_is_not o h)
counter_led signs.PercentAssign o h = absurd (none_is_not o h)
counter_led signs.Bang o h = absurd (none_is_not o h)
counter_led signs.AndAnd o h = absurd (none_is_not o h)
counter_led signs.OrOr o h = absurd (none_is_not o h)
counter_led signs.Colon o h = absurd (none_is_not o h)
counter_led signs.At o h = absurd (none_is_not o h)
counter_led signs.Question o h = absurd (none_is_not o h)
counter_led signs.Ampersand o h = absurd (none_is_not o h)
counter_led signs.Bar o h = absurd (none_is_not o h)
counter_led signs.Caret o h = absurd (none_is_not o h)
counter_led signs.Tilde o h = absurd (none_is_not o h)

-- none of the statements that a word or a sign of their own tells
pub record Simple (ts : List Token) : Type 0 where
  pub brace : is_sign signs.OpenBrace ts ≡ false
  pub semicolon : is_sign signs.Semicolon ts ≡ false
  pub no_if : is_word (codes "if") ts ≡ false
  pub no_while : is_word (codes "while") ts ≡ false
  pub no_do : is_word (codes "do") ts ≡ false
  pub no_switch : is_word (codes "switch") ts ≡ false
  pub no_break : is_word (codes "break") ts ≡ false
  pub no_continue : is_word (codes "continue") ts ≡ false
  pub no_return : is_word (codes "return") ts ≡ false
  pub no_label : is_label ts ≡ false

pub simple_begins : (ts : List Token) → Begins ts → is_label ts ≡ false → Simple ts
simple_begins ts b label = record {
  brace = begins_no_sign signs.OpenBrace ts refl b;
  semicolon = begins_no_sign signs.Semicolon ts refl b;
  no_if = begins_no_word (codes "if") ts (rw no_name_if refl) b;
  no_while = begins_no_word (codes "while") ts (rw no_name_while refl) b;
  no_do = begins_no_word (codes "do") ts (rw no_name_do refl) b;
  no_switch = begins_no_word (codes "switch") ts (rw no_name_switch refl) b;
  no_break = begins_no_word (codes "break") ts (rw no_name_break refl) b;
  no_continue = begins_no_word (codes "continue") ts (rw no_name_continue refl) b;
  no_return = begins_no_word (codes "return") ts (rw no_name_return refl) b;
  no_label = label;
}

pub target_begins : (t : Expr) (us : List Token) → IsTarget t us → Begins us
target_begins t us h = by_head (target_head t us h) where
  by_head : TargetHead t us → Begins us
  by_head (Named p n name parts) = record { token = word p n; others = []; parts = parts; kind = rw name refl }
  by_head (Own p a b n name parts) = record { token = word p (codes "this"); others = _; parts = parts; kind = rw no_name_this refl }

-- a target and the sign of an assignment
pub assign_led : (t : Expr) (us : List Token) (a : Place) (s : Sign) (rest : List Token) → IsTarget t us → same_sign s signs.Colon ≡ false →
    is_change (sign a s ∷ rest) ≡ true
    → Simple (us ++ sign a s ∷ rest) × (is_assign (us ++ sign a s ∷ rest) ≡ true)
assign_led t us a s rest h colon change = (
  simple_begins (us ++ sign a s ∷ rest) (begins_more us (sign a s ∷ rest) (target_begins t us h))
      (unlabelled (target_head t us h)),
  assigns (target_head t us h),
) where
  unlabelled : TargetHead t us → is_label (us ++ sign a s ∷ rest) ≡ false
  unlabelled (Named p n name parts) = rw (parts, name, colon) refl
  unlabelled (Own p b c n name parts) = rw (parts, no_name_this) refl

  assigns : TargetHead t us → is_assign (us ++ sign a s ∷ rest) ≡ true
  assigns (Named p n name parts) = rw (parts, name, change) refl
  assigns (Own p b c n name parts) = rw (parts, no_name_this, name, change) refl

pub assign_simple : (p : Place) (t v : Expr) (us rest : List Token) → IsAssign p t v us →
    Simple (us ++ rest) × (is_assign (us ++ rest) ≡ true)
assign_simple p t v us rest (inl (place, a, b, vs, ws, parts, target, free)) =
    rw (parts, append_assoc) (assign_led t vs a signs.Assign _ target refl refl)
assign_simple p t v us rest (inr (inl (place, s, o, e, a, b, vs, ws, parts, comp, is, target, free))) =
    let alone = compound_alone s o comp in
    rw (parts, append_assoc) (assign_led t vs a s _ target (compound_colon s o comp) (rw (alone.0, alone.1, comp) refl))
assign_simple p t v us rest (inr (inr (inl (place, s, o, a, b, vs, parts, count, is, target)))) =
    let alone = counter_alone s o count in
    rw (parts, append_assoc) (assign_led t vs a s _ target (counter_colon s o count) (rw (alone.0, count) refl))
assign_simple p t v us rest (inr (inr (inr (s, o, b, vs, parts, count, is, target)))) =
    let led = counter_led s o count in
    rw parts (
      record {
        brace = led.0;
        semicolon = led.1;
        no_if = refl;
        no_while = refl;
        no_do = refl;
        no_switch = refl;
        no_break = refl;
        no_continue = refl;
        no_return = refl;
        no_label = refl;
      },
      rw count refl,
    )

-- the tokens of an expression, as a statement begins with them
pub evaluated_led : (c : Expr) (us : List Token) (a : Place) (rest : List Token) → IsPost 400 (IsInner 400) c us
    → Simple (us ++ sign a signs.Semicolon ∷ rest) × (is_assign (us ++ sign a signs.Semicolon ∷ rest) ≡ false)
    × (is_decl (us ++ sign a signs.Semicolon ∷ rest) ≡ false)
evaluated_led c us a rest h =
    let quiet = post_quiet 400 (IsInner 400) c us (sign a signs.Semicolon ∷ rest) (after_semicolon a rest) h in (
      simple_begins (us ++ sign a signs.Semicolon ∷ rest)
          (begins_more us (sign a signs.Semicolon ∷ rest) (post_begins 400 (IsInner 400) c us h)) quiet.unlabelled,
      quiet.unassigned,
      quiet.undeclared,
    )

-- a target in front is no declaration
pub target_undeclared : (t : Expr) (us : List Token) (a : Place) (s : Sign) (rest : List Token) → IsTarget t us →
    is_decl (us ++ sign a s ∷ rest) ≡ false
target_undeclared t us a s rest h = by_head (target_head t us h) where
  by_head : TargetHead t us → is_decl (us ++ sign a s ∷ rest) ≡ false
  by_head (Named p n name parts) = rw (
    parts,
    name_is_not n (codes "final") name final_no_name,
    name_is_not n (codes "int") name
        no_name_int,
    name_is_not n (codes "boolean") name no_name_boolean,
    name,
  ) refl
  by_head (Own p b c n name parts) = rw (parts, no_name_this) refl

pub assign_undeclared : (p : Place) (t v : Expr) (us rest : List Token) → IsAssign p t v us → is_decl (us ++ rest) ≡ false
assign_undeclared p t v us rest (inl (place, a, b, vs, ws, parts, target, free)) =
    rw (parts, append_assoc) (target_undeclared t vs a signs.Assign _ target)
assign_undeclared p t v us rest (inr (inl (place, s, o, e, a, b, vs, ws, parts, comp, is, target, free))) =
    rw (parts, append_assoc) (target_undeclared t vs a s _ target)
assign_undeclared p t v us rest (inr (inr (inl (place, s, o, a, b, vs, parts, count, is, target)))) =
    rw (parts, append_assoc) (target_undeclared t vs a s _ target)
assign_undeclared p t v us rest (inr (inr (inr (s, o, b, vs, parts, count, is, target)))) = rw parts refl

pub label_undeclared : (p a : Place) (l : Option Name) (w : Name) (us vs : List Token) → IsLabel p a l us → is_decl (word a w ∷ vs) ≡ false
    →
    is_decl (us ++ word a w ∷ vs) ≡ false
label_undeclared p a None w us vs (same, parts) h = rw parts h
label_undeclared p a (Some n) w us vs (name, b, parts) h =
    rw (
      parts,
      name_is_not n (codes "final") name final_no_name,
      name_is_not n (codes "int") name no_name_int,
      name_is_not n (codes "boolean") name no_name_boolean,
      name,
    ) refl

pub stmt_undeclared : (s : Stmt) (us rest : List Token) → IsStmt s us → is_decl (us ++ rest) ≡ false
stmt_undeclared (Block p body end) us rest (vs, parts, h) = rw parts refl
stmt_undeclared (Empty p) us rest parts = rw parts refl
stmt_undeclared (Local p ty n e) us rest h = absurd h
stmt_undeclared (Assign p t e) us rest h = assign_undeclared p t e us rest h
stmt_undeclared (If p c s) us rest (vs, ws, parts, cond, h) = rw (parts, no_name_if) refl
stmt_undeclared (IfElse p c s r) us rest (a, vs, ws, xs, parts, cond, h, closed, g) = rw (parts, no_name_if) refl
stmt_undeclared (While p l c s) us rest (a, vs, ws, xs, parts, label, cond, h) =
    rw (parts, append_assoc) (label_undeclared p a l (codes "while") vs _ label (rw no_name_while refl))
stmt_undeclared (Do p l s c) us rest (a, b, d, vs, ws, xs, parts, label, h, cond) =
    rw (parts, append_assoc) (label_undeclared p a l (codes "do") vs _ label (rw no_name_do refl))
stmt_undeclared (Switch p e gs end) us rest (a, vs, ws, parts, cond, h) = rw (parts, no_name_switch) refl
stmt_undeclared (Break p l) us rest (a, vs, parts, h) = rw (parts, no_name_break) refl
stmt_undeclared (Continue p l) us rest (a, vs, parts, h) = rw (parts, no_name_continue) refl
stmt_undeclared (Return p e) us rest (a, vs, parts, h) = rw (parts, no_name_return) refl
stmt_undeclared (Print p e) us rest (begins, c, a, vs, parts, free, is) =
    rw (parts, append_assoc) (evaluated_led c vs a rest (free_call c vs (printed_call c e is) free)).2
stmt_undeclared (Eval p e) us rest (begins, c, a, vs, parts, free, is) =
    rw (parts, append_assoc) (evaluated_led c vs a rest (free_call c vs is.1 free)).2

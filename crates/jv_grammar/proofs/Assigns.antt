-- Assignments, and expressions as statements, are read exactly.
use Rattle.std.proofs.Common.{◌≡◌, ℕ, suc, ◌+◌, ◌≤◌, List, [], ◌∷◌, ◌++◌, Bool, true, false, Option, Some, None, refl, sym, ap, ◌∙◌, subst}
use Rattle.std.proofs.Common.{append_assoc, arith, inl, inr}
use Rattle.std.specs.Prelude.{◌&&◌, leb, codes}
use Rattle.std.specs.Str.{bytes_eq}
use Rattle.std.proofs.lemmas.Bool.{leb-true, le-leb}
use Rattle.mg_text.specs.Call.{Name}
use Rattle.mg_text.specs.declared.place.Place.{Place}
use Rattle.mg_read.proofs.Steps.{bind_some, some_is, none_is_not, chosen, Takes}
use Rattle.jv_tree.specs.declared.tree.Op.{Op}
use Rattle.jv_tree.specs.declared.token.Sign.{Sign}
use Rattle.jv_tree.specs.declared.token.Sign.TheVariants as signs
use Rattle.jv_tree.specs.declared.token.TokenKind.{TokenKind}
use Rattle.jv_tree.specs.declared.token.TokenKind.TheVariants as kinds
use Rattle.jv_tree.specs.declared.token.Token.{Token}
use Rattle.jv_tree.specs.Source.{Expr, Int, Truth, Text, Null, This, Variable, Member, Neg, Not, Binary, Call, MethodCall, New, Exprs}
use Rattle.jv_tree.specs.Source.{NoExpr, Argument, place_of}
use Rattle.jv_tree.specs.Source.{Stmt, Assign, Print, Eval}
use Rattle.jv_tree.specs.Depth.{depth, depth_of_args}
use Rattle.jv_tree.specs.Tokens.{word, sign, IsName, BeginsAt}
use Rattle.jv_grammar.specs.Base.{same_sign, sign_at, is_sign, word_at, is_word, name_at}
use Rattle.std.specs.Prelude.{max}
use Rattle.jv_tree.specs.Expressions.{IsInner, IsPost}
use Rattle.jv_tree.specs.Sugar.{compound, counter, changed, one_at, is_out, only_argument, printed, is_call}
use Rattle.jv_tree.specs.Statements.{IsFree, IsTarget}
use Rattle.jv_grammar.specs.Exprs.{post_at}
use Rattle.jv_grammar.specs.Stmts.{ended_at, target_at, compound_kind, compound_at, counter_kind, counter_at, is_counter, assigned}
use Rattle.jv_grammar.specs.Stmts.{change_at, assign_at, place_ahead, evaluated_by, evaluated, evaluation_at}
use Rattle.jv_grammar.proofs.Steps.{after, glue, sign_is, word_is, name_is, name_is_not}
use Rattle.jv_grammar.proofs.Primaries.{no_name_this, depth_pos}
use Rattle.jv_grammar.proofs.Exprs.{post_at_exact}
use Rattle.jv_grammar.proofs.StmtParts.{ended_exact, DeepStmt}

-- ---- the signs of assignments

compound_is : (ts : List Token) (x : Op × List Token) → compound_at ts ≡ Some x → (p : Place) × (s : Sign) × (ts ≡ sign p s ∷ x.1)
    × (compound s ≡ Some x.0)
compound_is [] x e = absurd (none_is_not x e)
compound_is (t ∷ ts) x e = by_kind t.place t.kind e where
  by_kind : (p : Place) (k : TokenKind) → compound_kind k ts ≡ Some x → (q : Place) × (s : Sign)
      × (record { kind = k; place = p } ∷ ts ≡ sign q s ∷ x.1) × (compound s ≡ Some x.0)
  by_kind p (kinds.Sign s) e =
      let o = bind_some (compound s) _ x e in
      subst (λ (y : Op × List Token). (q : Place) × (r : Sign) × (sign p s ∷ ts ≡ sign q r ∷ y.1) × (compound r ≡ Some y.0))
      (some_is (o.0, ts) x o.2) (p, s, refl, o.1)
  by_kind p (kinds.Word w) e = absurd (none_is_not x e)
  by_kind p (kinds.Number n) e = absurd (none_is_not x e)
  by_kind p (kinds.Text t) e = absurd (none_is_not x e)

counter_is : (ts : List Token) (x : (Place × Op) × List Token) → counter_at ts ≡ Some x → (s : Sign) × (ts ≡ sign x.0.0 s ∷ x.1)
    × (counter s ≡ Some x.0.1)
counter_is [] x e = absurd (none_is_not x e)
counter_is (t ∷ ts) x e = by_kind t.place t.kind e where
  by_kind : (p : Place) (k : TokenKind) → counter_kind p k ts ≡ Some x →
      (s : Sign) × (record { kind = k; place = p } ∷ ts ≡ sign x.0.0 s ∷ x.1) × (counter s ≡ Some x.0.1)
  by_kind p (kinds.Sign s) e =
      let o = bind_some (counter s) _ x e in
      subst (λ (y : (Place × Op) × List Token). (r : Sign) × (sign p s ∷ ts ≡ sign y.0.0 r ∷ y.1) × (counter r ≡ Some y.0.1))
      (some_is ((p, o.0), ts) x o.2) (s, refl, o.1)
  by_kind p (kinds.Word w) e = absurd (none_is_not x e)
  by_kind p (kinds.Number n) e = absurd (none_is_not x e)
  by_kind p (kinds.Text t) e = absurd (none_is_not x e)

-- the sign of `op=` is neither "=" nor that of a counter
pub compound_alone : (s : Sign) (o : Op) → compound s ≡ Some o → (same_sign s signs.Assign ≡ false) × (counter s ≡ None)
compound_alone signs.OpenBrace o e = absurd (none_is_not o e)
compound_alone signs.CloseBrace o e = absurd (none_is_not o e)
compound_alone signs.OpenParen o e = absurd (none_is_not o e)
compound_alone signs.CloseParen o e = absurd (none_is_not o e)
compound_alone signs.OpenBracket o e = absurd (none_is_not o e)
compound_alone signs.CloseBracket o e = absurd (none_is_not o e)
compound_alone signs.Semicolon o e = absurd (none_is_not o e)
compound_alone signs.Comma o e = absurd (none_is_not o e)
compound_alone signs.Dot o e = absurd (none_is_not o e)
compound_alone signs.Assign o e = absurd (none_is_not o e)
compound_alone signs.Equal o e = absurd (none_is_not o e)
compound_alone signs.NotEqual o e = absurd (none_is_not o e)
compound_alone signs.Less o e = absurd (none_is_not o e)
compound_alone signs.LessEqual o e = absurd (none_is_not o e)
compound_alone signs.Greater o e = absurd (none_is_not o e)
compound_alone signs.GreaterEqual o e = absurd (none_is_not o e)
compound_alone signs.Plus o e = absurd (none_is_not o e)
compound_alone signs.Minus o e = absurd (none_is_not o e)
compound_alone signs.Star o e = absurd (none_is_not o e)
compound_alone signs.Slash o e = absurd (none_is_not o e)
compound_alone signs.Percent o e = absurd (none_is_not o e)
compound_alone signs.PlusPlus o e = absurd (none_is_not o e)
compound_alone signs.MinusMinus o e = absurd (none_is_not o e)
compound_alone signs.PlusAssign o e = (refl, refl)
compound_alone signs.MinusAssign o e = (refl, refl)
compound_alone signs.StarAssign o e = (refl, refl)
compound_alone signs.SlashAssign o e = (refl, refl)
compound_alone signs.PercentAssign o e = (refl, refl)
compound_alone signs.Bang o e = absurd (none_is_not o e)
compound_alone signs.AndAnd o e = absurd (none_is_not o e)
compound_alone signs.OrOr o e = absurd (none_is_not o e)
compound_alone signs.Colon o e = absurd (none_is_not o e)
compound_alone signs.At o e = absurd (none_is_not o e)
compound_alone signs.Question o e = absurd (none_is_not o e)
compound_alone signs.Ampersand o e = absurd (none_is_not o e)
compound_alone signs.Bar o e = absurd (none_is_not o e)
compound_alone signs.Caret o e = absurd (none_is_not o e)
compound_alone signs.Tilde o e = absurd (none_is_not o e)

pub counter_alone : (s : Sign) (o : Op) → counter s ≡ Some o → (same_sign s signs.Assign ≡ false) × (same_sign s signs.Dot ≡ false)
counter_alone signs.OpenBrace o e = absurd (none_is_not o e)
counter_alone signs.CloseBrace o e = absurd (none_is_not o e)
counter_alone signs.OpenParen o e = absurd (none_is_not o e)
counter_alone signs.CloseParen o e = absurd (none_is_not o e)
counter_alone signs.OpenBracket o e = absurd (none_is_not o e)
counter_alone signs.CloseBracket o e = absurd (none_is_not o e)
counter_alone signs.Semicolon o e = absurd (none_is_not o e)
counter_alone signs.Comma o e = absurd (none_is_not o e)
counter_alone signs.Dot o e = absurd (none_is_not o e)
counter_alone signs.Assign o e = absurd (none_is_not o e)
counter_alone signs.Equal o e = absurd (none_is_not o e)
counter_alone signs.NotEqual o e = absurd (none_is_not o e)
counter_alone signs.Less o e = absurd (none_is_not o e)
counter_alone signs.LessEqual o e = absurd (none_is_not o e)
counter_alone signs.Greater o e = absurd (none_is_not o e)
counter_alone signs.GreaterEqual o e = absurd (none_is_not o e)
counter_alone signs.Plus o e = absurd (none_is_not o e)
counter_alone signs.Minus o e = absurd (none_is_not o e)
counter_alone signs.Star o e = absurd (none_is_not o e)
counter_alone signs.Slash o e = absurd (none_is_not o e)
counter_alone signs.Percent o e = absurd (none_is_not o e)
counter_alone signs.PlusPlus o e = (refl, refl)
counter_alone signs.MinusMinus o e = (refl, refl)
counter_alone signs.PlusAssign o e = absurd (none_is_not o e)
counter_alone signs.MinusAssign o e = absurd (none_is_not o e)
counter_alone signs.StarAssign o e = absurd (none_is_not o e)
counter_alone signs.SlashAssign o e = absurd (none_is_not o e)
counter_alone signs.PercentAssign o e = absurd (none_is_not o e)
counter_alone signs.Bang o e = absurd (none_is_not o e)
counter_alone signs.AndAnd o e = absurd (none_is_not o e)
counter_alone signs.OrOr o e = absurd (none_is_not o e)
counter_alone signs.Colon o e = absurd (none_is_not o e)
counter_alone signs.At o e = absurd (none_is_not o e)
counter_alone signs.Question o e = absurd (none_is_not o e)
counter_alone signs.Ampersand o e = absurd (none_is_not o e)
counter_alone signs.Bar o e = absurd (none_is_not o e)
counter_alone signs.Caret o e = absurd (none_is_not o e)
counter_alone signs.Tilde o e = absurd (none_is_not o e)

-- ---- targets

pub target_sound : (ts : List Token) (x : Expr × List Token) → target_at ts ≡ Some x → Takes (λ us. IsTarget x.0 us × (depth x.0 ≤ 2)) ts
    x.1
unfolding target_at
target_sound ts x e =
    elim (chosen (is_word (codes "this") ts) _ _ (Some x) e) [
      | inl t ↦
          let a = bind_some (word_at (codes "this") ts) _ x t.1 in
          let b = bind_some (sign_at signs.Dot a.0.1) _ x a.2 in
          let n = bind_some (name_at b.0.1) _ x b.2 in
          let name = name_is b.0.1 n.0 n.1 in
          subst (λ (y : Expr × List Token). Takes (λ us. IsTarget y.0 us × (depth y.0 ≤ 2)) ts y.1)
          (some_is (Member a.0.0 (This a.0.0) n.0.0.1, n.0.1) x n.2)
          (record {
            front = word a.0.0 (codes "this") ∷ sign b.0.0 signs.Dot ∷ word n.0.0.0 n.0.0.1 ∷ [];
            parts = after (word_is (codes "this") ts a.0 a.1) (after (sign_is signs.Dot a.0.1 b.0 b.1) name.0);
            holds = ((name.1, refl, b.0.0, n.0.0.0, refl), omega arith);
          })
      | inr f ↦
          let n = bind_some (name_at ts) _ x f.1 in
          let name = name_is ts n.0 n.1 in
          subst (λ (y : Expr × List Token). Takes (λ us. IsTarget y.0 us × (depth y.0 ≤ 2)) ts y.1)
          (some_is (Variable n.0.0.0 n.0.0.1, n.0.1) x n.2)
          (record { front = word n.0.0.0 n.0.0.1 ∷ []; parts = name.0; holds = ((name.1, refl), omega arith) })
    ]

pub target_complete : (t : Expr) (ts rest : List Token) → IsTarget t ts → target_at (ts ++ rest) ≡ Some (t, rest)
unfolding target_at
target_complete (Int p z) ts rest h = absurd h
target_complete (Truth p b) ts rest h = absurd h
target_complete (Text p t) ts rest h = absurd h
target_complete (Null p) ts rest h = absurd h
target_complete (This p) ts rest h = absurd h
target_complete (Variable p n) ts rest (name, parts) = rw (parts, name_is_not n (codes "this") name no_name_this, name) refl
target_complete (Member p (Int q z) n) ts rest h = absurd h
target_complete (Member p (Truth q b) n) ts rest h = absurd h
target_complete (Member p (Text q t) n) ts rest h = absurd h
target_complete (Member p (Null q) n) ts rest h = absurd h
target_complete (Member p (This q) n) ts rest (name, same, a, b, parts) = rw (parts, name, same) refl
target_complete (Member p (Variable q k) n) ts rest h = absurd h
target_complete (Member p (Member q e k) n) ts rest h = absurd h
target_complete (Member p (Neg q e) n) ts rest h = absurd h
target_complete (Member p (Not q e) n) ts rest h = absurd h
target_complete (Member p (Binary q o l r) n) ts rest h = absurd h
target_complete (Member p (Call q k args) n) ts rest h = absurd h
target_complete (Member p (MethodCall q e k args) n) ts rest h = absurd h
target_complete (Member p (New q k) n) ts rest h = absurd h
target_complete (Neg p e) ts rest h = absurd h
target_complete (Not p e) ts rest h = absurd h
target_complete (Binary p o l r) ts rest h = absurd h
target_complete (Call p n args) ts rest h = absurd h
target_complete (MethodCall p e n args) ts rest h = absurd h
target_complete (New p n) ts rest h = absurd h

-- the first token of a target is a name or "this"
pub data TargetHead (t : Expr) (us : List Token) : Type 0 where
  Named : (p : Place) (n : Name) → IsName n → us ≡ word p n ∷ [] → TargetHead t us
  Own : (p a b : Place) (n : Name) → IsName n → us ≡ word p (codes "this") ∷ sign a signs.Dot ∷ word b n ∷ [] → TargetHead t us

pub target_head : (t : Expr) (us : List Token) → IsTarget t us → TargetHead t us
target_head (Int p z) us h = absurd h
target_head (Truth p b) us h = absurd h
target_head (Text p t) us h = absurd h
target_head (Null p) us h = absurd h
target_head (This p) us h = absurd h
target_head (Variable p n) us (name, parts) = Named p n name parts
target_head (Member p (Int q z) n) us h = absurd h
target_head (Member p (Truth q b) n) us h = absurd h
target_head (Member p (Text q t) n) us h = absurd h
target_head (Member p (Null q) n) us h = absurd h
target_head (Member p (This q) n) us (name, same, a, b, parts) = Own q a b n name parts
target_head (Member p (Variable q k) n) us h = absurd h
target_head (Member p (Member q e k) n) us h = absurd h
target_head (Member p (Neg q e) n) us h = absurd h
target_head (Member p (Not q e) n) us h = absurd h
target_head (Member p (Binary q o l r) n) us h = absurd h
target_head (Member p (Call q k args) n) us h = absurd h
target_head (Member p (MethodCall q e k args) n) us h = absurd h
target_head (Member p (New q k) n) us h = absurd h
target_head (Neg p e) us h = absurd h
target_head (Not p e) us h = absurd h
target_head (Binary p o l r) us h = absurd h
target_head (Call p n args) us h = absurd h
target_head (MethodCall p e n args) us h = absurd h
target_head (New p n) us h = absurd h

-- no sign stands first in a target
target_no_counter : (t : Expr) (us rest : List Token) → IsTarget t us → is_counter (us ++ rest) ≡ false
target_no_counter t us rest h = by_head (target_head t us h) where
  by_head : TargetHead t us → is_counter (us ++ rest) ≡ false
  by_head (Named p n name parts) = rw parts refl
  by_head (Own p a b n name parts) = rw parts refl

-- ---- assignments

assigned_is : (d : ℕ) (p : Place) (t v : Expr) (ts : List Token) (x : Stmt × List Token) → assigned d p t v ts ≡ Some x →
    ((Assign p t v, ts) ≡ x) × (depth t ≤ d) × (depth v ≤ d)
assigned_is d p t v ts x e =
    elim (chosen (leb (depth t) d && leb (depth v) d) _ _ (Some x) e) [
      | inl h ↦ let both = and_is (leb (depth t) d) (leb (depth v) d) h.0 in (
        some_is (Assign p t v, ts) x h.1,
        leb-true (depth t) d both.0,
        leb-true (depth v) d both.1,
      )
      | inr f ↦ absurd (none_is_not x f.1)
    ] where
      and_is : (a b : Bool) → (a && b) ≡ true → (a ≡ true) × (b ≡ true)
      and_is true b h = (refl, h)
      and_is false b h = absurd cc

assigned_again : (d : ℕ) (p : Place) (t v : Expr) (ts : List Token) → depth t ≤ d → depth v ≤ d →
    assigned d p t v ts ≡ Some (Assign p t v, ts)
assigned_again d p t v ts a b = rw (le-leb (depth t) d a, le-leb (depth v) d b) refl

change_sound : (d : ℕ) (t : Expr) (us ts : List Token) (x : Stmt × List Token) → IsTarget t us → change_at d t ts ≡ Some x →
    Takes (λ vs. DeepStmt (suc d) x.0 (us ++ vs)) ts x.1
unfolding change_at
change_sound d t us ts x target e =
    elim (chosen (is_sign signs.Assign ts) _ _ (Some x) e) [
      | inl h ↦
          let a = bind_some (sign_at signs.Assign ts) _ x h.1 in
          let v = bind_some (ended_at d a.0.1) _ x a.2 in
          let made = assigned_is d (place_of t) t v.0.0 v.0.1 x v.2 in
          let one = (ended_exact d).sound a.0.1 v.0 v.1 in
          let (c, vs, parts, free, le) = one.holds in
          subst (λ (y : Stmt × List Token). Takes (λ vs. DeepStmt (suc d) y.0 (us ++ vs)) ts y.1) made.0
          (record {
            front = sign a.0.0 signs.Assign ∷ one.front;
            parts = after (sign_is signs.Assign ts a.0 a.1) one.parts;
            holds = (
              inl (refl, a.0.0, c, us, vs, ap (λ (z : List Token). us ++ sign a.0.0 signs.Assign ∷ z) parts, target, free),
              omega (arith, made.1, made.2),
            );
          })
      | inr f ↦ elim (chosen (is_counter ts) _ _ (Some x) f.1) [
        | inl h ↦
            let o = bind_some (counter_at ts) _ x h.1 in
            let c = bind_some (sign_at signs.Semicolon o.0.1) _ x o.2 in
            let made = assigned_is d (place_of t) t (changed o.0.0.1 t (one_at t)) c.0.1 x c.2 in
            let at = counter_is ts o.0 o.1 in
            subst (λ (y : Stmt × List Token). Takes (λ vs. DeepStmt (suc d) y.0 (us ++ vs)) ts y.1) made.0
            (record {
              front = sign o.0.0.0 at.0 ∷ sign c.0.0 signs.Semicolon ∷ [];
              parts = after at.1 (sign_is signs.Semicolon o.0.1 c.0 c.1);
              holds = (inr (inr (inl (refl, at.0, o.0.0.1, o.0.0.0, c.0.0, us, refl, at.2, refl, target))), omega (arith, made.1, made.2));
            })
        | inr g ↦
            let o = bind_some (compound_at ts) _ x g.1 in
            let v = bind_some (ended_at d o.0.1) _ x o.2 in
            let made = assigned_is d (place_of t) t (changed o.0.0 t v.0.0) v.0.1 x v.2 in
            let at = compound_is ts o.0 o.1 in
            let one = (ended_exact d).sound o.0.1 v.0 v.1 in
            let (c, vs, parts, free, le) = one.holds in
            subst (λ (y : Stmt × List Token). Takes (λ vs. DeepStmt (suc d) y.0 (us ++ vs)) ts y.1) made.0
            (record {
              front = sign at.0 at.1 ∷ one.front;
              parts = after at.2 one.parts;
              holds = (
                inr (inl (
                  refl,
                  at.1,
                  o.0.0,
                  v.0.0,
                  at.0,
                  c,
                  us,
                  vs,
                  ap (λ (z : List Token). us ++ sign at.0 at.1 ∷ z) parts,
                  at.3,
                  refl,
                  target,
                  free,
                )),
                omega (arith, made.1, made.2),
              );
            })
      ]
    ]

pub assign_sound : (d : ℕ) (ts : List Token) (x : Stmt × List Token) → assign_at d ts ≡ Some x → Takes (DeepStmt (suc d) x.0) ts x.1
unfolding assign_at
assign_sound d ts x e =
    elim (chosen (is_counter ts) _ _ (Some x) e) [
      | inl h ↦
          let o = bind_some (counter_at ts) _ x h.1 in
          let t = bind_some (target_at o.0.1) _ x o.2 in
          let c = bind_some (sign_at signs.Semicolon t.0.1) _ x t.2 in
          let made = assigned_is d o.0.0.0 t.0.0 (changed o.0.0.1 t.0.0 (one_at t.0.0)) c.0.1 x c.2 in
          let at = counter_is ts o.0 o.1 in
          let one = target_sound o.0.1 t.0 t.1 in
          let end : List Token = sign c.0.0 signs.Semicolon ∷ [] in
          subst (λ (y : Stmt × List Token). Takes (DeepStmt (suc d) y.0) ts y.1) made.0
          (record {
            front = sign o.0.0.0 at.0 ∷ (one.front ++ end);
            parts = after at.1 (glue one.front end c.0.1 one.parts (sign_is signs.Semicolon t.0.1 c.0 c.1));
            holds = (inr (inr (inr (at.0, o.0.0.1, c.0.0, one.front, refl, at.2, refl, one.holds.0))), omega (arith, made.1, made.2));
          })
      | inr f ↦
          let t = bind_some (target_at ts) _ x f.1 in
          let one = target_sound ts t.0 t.1 in
          let more = change_sound d t.0.0 one.front t.0.1 x one.holds.0 t.2 in
          record { front = one.front ++ more.front; parts = glue one.front more.front x.1 one.parts more.parts; holds = more.holds }
    ]

pub assign_complete : (d : ℕ) (p : Place) (t v : Expr) (ts rest : List Token) → DeepStmt (suc d) (Assign p t v) ts →
    assign_at d (ts ++ rest) ≡ Some (Assign p t v, rest)
unfolding assign_at change_at
assign_complete d p t v ts rest (inl (place, a, b, us, vs, parts, target, free), le) =
    let behind : List Token = sign a signs.Assign ∷ ((vs ++ sign b signs.Semicolon ∷ []) ++ rest) in
    let quiet = target_no_counter t us behind target in
    let reads = target_complete t us behind target in
    let value = (ended_exact d).complete v (vs ++ sign b signs.Semicolon ∷ []) rest tt (b, vs, refl, free, omega arith) in
    rw (parts, append_assoc, quiet, reads, value, place) (assigned_again d (place_of t) t v rest (omega arith) (omega arith))
assign_complete d p t v ts rest (inr (inl (place, s, o, e, a, b, us, vs, parts, comp, is, target, free)), le) =
    let behind : List Token = sign a s ∷ ((vs ++ sign b signs.Semicolon ∷ []) ++ rest) in
    let quiet = target_no_counter t us behind target in
    let reads = target_complete t us behind target in
    let alone = compound_alone s o comp in
    let deep : suc (max (depth t) (depth e)) ≤ d = omega (arith, ap depth is) in
    let value = (ended_exact d).complete e (vs ++ sign b signs.Semicolon ∷ []) rest tt (b, vs, refl, free, omega arith) in
    rw (parts, append_assoc, quiet, reads, alone.0, alone.1, comp, value, place, is) (assigned_again d (place_of t) t (changed o t e) rest
    (omega arith) deep)
assign_complete d p t v ts rest (inr (inr (inl (place, s, o, a, b, us, parts, count, is, target))), le) =
    let behind : List Token = sign a s ∷ sign b signs.Semicolon ∷ rest in
    let quiet = target_no_counter t us behind target in
    let reads = target_complete t us behind target in
    let alone = counter_alone s o count in
    let deep : suc (max (depth t) 1) ≤ d = omega (arith, ap depth is) in
    rw (parts, append_assoc, quiet, reads, alone.0, count, place, is) (assigned_again d (place_of t) t (changed o t (one_at t)) rest
    (omega arith) deep)
assign_complete d p t v ts rest (inr (inr (inr (s, o, b, us, parts, count, is, target))), le) =
    let reads = target_complete t us (sign b signs.Semicolon ∷ rest) target in
    let deep : suc (max (depth t) 1) ≤ d = omega (arith, ap depth is) in
    rw (parts, append_assoc, count, reads, is) (assigned_again d p t (changed o t (one_at t)) rest (omega arith) deep)

-- ---- expressions as statements

begins_at : (p c : Place) (us rest : List Token) → place_ahead ((us ++ sign c signs.Semicolon ∷ []) ++ rest) ≡ Some p →
    BeginsAt p (us ++ sign c signs.Semicolon ∷ [])
begins_at p c [] rest h = some_is c p h
begins_at p c (t ∷ us) rest h = some_is t.place p h

ahead : (p : Place) (us rest : List Token) → BeginsAt p us → place_ahead (us ++ rest) ≡ Some p
ahead p [] rest h = absurd h
ahead p (t ∷ us) rest h = ap Some h

call_free : (c : Expr) (us : List Token) → is_call c ≡ true → IsPost 400 (IsInner 400) c us → IsFree c us
call_free (Int p z) us h g = absurd cc
call_free (Truth p b) us h g = absurd cc
call_free (Text p t) us h g = absurd cc
call_free (Null p) us h g = absurd cc
call_free (This p) us h g = absurd cc
call_free (Variable p n) us h g = absurd cc
call_free (Member p e n) us h g = absurd cc
call_free (Neg p e) us h g = absurd cc
call_free (Not p e) us h g = absurd cc
call_free (Binary p o l r) us h g = absurd cc
call_free (Call p n args) us h g = g
call_free (MethodCall p e n args) us h g = g
call_free (New p n) us h g = g

pub free_call : (c : Expr) (us : List Token) → is_call c ≡ true → IsFree c us → IsPost 400 (IsInner 400) c us
free_call (Int p z) us h g = absurd cc
free_call (Truth p b) us h g = absurd cc
free_call (Text p t) us h g = absurd cc
free_call (Null p) us h g = absurd cc
free_call (This p) us h g = absurd cc
free_call (Variable p n) us h g = absurd cc
free_call (Member p e n) us h g = absurd cc
free_call (Neg p e) us h g = absurd cc
free_call (Not p e) us h g = absurd cc
free_call (Binary p o l r) us h g = absurd cc
free_call (Call p n args) us h g = g
free_call (MethodCall p e n args) us h g = g
free_call (New p n) us h g = g

pub printed_call : (c e : Expr) → printed c ≡ Some e → is_call c ≡ true
printed_call (Int p z) f h = absurd (none_is_not f h)
printed_call (Truth p b) f h = absurd (none_is_not f h)
printed_call (Text p t) f h = absurd (none_is_not f h)
printed_call (Null p) f h = absurd (none_is_not f h)
printed_call (This p) f h = absurd (none_is_not f h)
printed_call (Variable p n) f h = absurd (none_is_not f h)
printed_call (Member p e n) f h = absurd (none_is_not f h)
printed_call (Neg p e) f h = absurd (none_is_not f h)
printed_call (Not p e) f h = absurd (none_is_not f h)
printed_call (Binary p o l r) f h = absurd (none_is_not f h)
printed_call (Call p n args) f h = absurd (none_is_not f h)
printed_call (MethodCall p e n args) f h = refl
printed_call (New p n) f h = absurd (none_is_not f h)

pub out_depth : (e : Expr) → is_out e ≡ true → depth e ≡ 2
out_depth (Int p z) h = absurd cc
out_depth (Truth p b) h = absurd cc
out_depth (Text p t) h = absurd cc
out_depth (Null p) h = absurd cc
out_depth (This p) h = absurd cc
out_depth (Variable p n) h = absurd cc
out_depth (Member p (Int q z) n) h = absurd cc
out_depth (Member p (Truth q b) n) h = absurd cc
out_depth (Member p (Text q t) n) h = absurd cc
out_depth (Member p (Null q) n) h = absurd cc
out_depth (Member p (This q) n) h = absurd cc
out_depth (Member p (Variable q k) n) h = refl
out_depth (Member p (Member q e k) n) h = absurd cc
out_depth (Member p (Neg q e) n) h = absurd cc
out_depth (Member p (Not q e) n) h = absurd cc
out_depth (Member p (Binary q o l r) n) h = absurd cc
out_depth (Member p (Call q k args) n) h = absurd cc
out_depth (Member p (MethodCall q e k args) n) h = absurd cc
out_depth (Member p (New q k) n) h = absurd cc
out_depth (Neg p e) h = absurd cc
out_depth (Not p e) h = absurd cc
out_depth (Binary p o l r) h = absurd cc
out_depth (Call p n args) h = absurd cc
out_depth (MethodCall p e n args) h = absurd cc
out_depth (New p n) h = absurd cc

pub only_depth : (args : Exprs) (e : Expr) → only_argument args ≡ Some e → depth_of_args args ≡ max (depth e) 0
only_depth NoExpr e h = absurd (none_is_not e h)
only_depth (Argument f NoExpr) e h = ap (λ (g : Expr). max (depth g) 0) (some_is f e h)
only_depth (Argument f (Argument g more)) e h = absurd (none_is_not e h)

-- a print's call is at most one deeper than the print, or three deep
printed_depth : (c e : Expr) → printed c ≡ Some e → depth c ≡ suc (max 2 (max (depth e) 0))
printed_depth (Int p z) f h = absurd (none_is_not f h)
printed_depth (Truth p b) f h = absurd (none_is_not f h)
printed_depth (Text p t) f h = absurd (none_is_not f h)
printed_depth (Null p) f h = absurd (none_is_not f h)
printed_depth (This p) f h = absurd (none_is_not f h)
printed_depth (Variable p n) f h = absurd (none_is_not f h)
printed_depth (Member p e n) f h = absurd (none_is_not f h)
printed_depth (Neg p e) f h = absurd (none_is_not f h)
printed_depth (Not p e) f h = absurd (none_is_not f h)
printed_depth (Binary p o l r) f h = absurd (none_is_not f h)
printed_depth (Call p n args) f h = absurd (none_is_not f h)
printed_depth (MethodCall p r n args) e h =
    elim (chosen (is_out r && bytes_eq n (codes "println")) _ _ (Some e) h) [
      | inl t ↦ let both = and_left (is_out r) (bytes_eq n (codes "println")) t.0 in ap suc
          (λ i. max (out_depth r both i) (only_depth args e t.1 i))
      | inr f ↦ absurd (none_is_not e f.1)
    ] where
      and_left : (a b : Bool) → (a && b) ≡ true → a ≡ true
      and_left true b h = refl
      and_left false b h = absurd cc
printed_depth (New p n) f h = absurd (none_is_not f h)

-- what a statement of an expression is
evaluated_is : (d : ℕ) (p : Place) (c : Expr) (s : Stmt) (us : List Token) (a : Place) → evaluated d p c ≡ Some s →
    IsPost 400 (IsInner 400) c us
    → BeginsAt p (us ++ sign a signs.Semicolon ∷ []) → DeepStmt (suc d) s (us ++ sign a signs.Semicolon ∷ [])
evaluated_is d p c s us a e post begins = by_printed (printed c) refl e where
  by_printed : (o : Option Expr) → printed c ≡ o → evaluated_by d p c o ≡ Some s → DeepStmt (suc d) s (us ++ sign a signs.Semicolon ∷ [])
  by_printed None is h =
      elim (chosen (is_call c && leb (depth c) d) _ _ (Some s) h) [
        | inl t ↦
            let both = and_is (is_call c) (leb (depth c) d) t.0 in
            subst (λ (z : Stmt). DeepStmt (suc d) z (us ++ sign a signs.Semicolon ∷ [])) (some_is (Eval p c) s t.1)
            ((begins, c, a, us, refl, call_free c us both.0 post, (refl, both.0, is)), omega (arith, leb-true (depth c) d both.1))
        | inr f ↦ absurd (none_is_not s f.1)
      ] where
        and_is : (a b : Bool) → (a && b) ≡ true → (a ≡ true) × (b ≡ true)
        and_is true b h = (refl, h)
        and_is false b h = absurd cc
  by_printed (Some v) is h =
      elim (chosen (leb (depth v) d) _ _ (Some s) h) [
        | inl t ↦
            subst (λ (z : Stmt). DeepStmt (suc d) z (us ++ sign a signs.Semicolon ∷ [])) (some_is (Print p v) s t.1)
            ((begins, c, a, us, refl, call_free c us (printed_call c v is) post, is), omega (arith, leb-true (depth v) d t.0))
        | inr f ↦ absurd (none_is_not s f.1)
      ]

pub evaluation_sound : (d : ℕ) (ts : List Token) (x : Stmt × List Token) → evaluation_at d ts ≡ Some x → Takes (DeepStmt (suc d) x.0) ts x.1
unfolding evaluation_at
evaluation_sound d ts x e =
    let p = bind_some (place_ahead ts) _ x e in
    let c = bind_some (post_at 400 (d + 2) ts) _ x p.2 in
    let a = bind_some (sign_at signs.Semicolon c.0.1) _ x c.2 in
    let s = bind_some (evaluated d p.0 c.0.0) _ x a.2 in
    let one = (post_at_exact 400 (d + 2)).sound ts c.0 c.1 in
    let end : List Token = sign a.0.0 signs.Semicolon ∷ [] in
    let parts : ts ≡ (one.front ++ end) ++ a.0.1 = glue one.front end a.0.1 one.parts (sign_is signs.Semicolon c.0.1 a.0 a.1) in
    let begins = begins_at p.0 a.0.0 one.front a.0.1 (ap place_ahead (sym parts) ∙ p.1) in
    subst (λ (y : Stmt × List Token). Takes (DeepStmt (suc d) y.0) ts y.1) (some_is (s.0, a.0.1) x s.2)
    (record { front = one.front ++ end; parts = parts; holds = evaluated_is d p.0 c.0.0 s.0 one.front a.0.0 s.1 one.holds.0 begins })

evaluation_reads : (d : ℕ) (p a : Place) (c : Expr) (s : Stmt) (us rest : List Token) → BeginsAt p (us ++ sign a signs.Semicolon ∷ []) →
    is_call c ≡ true → IsFree c us → depth c ≤ d + 2
    → evaluated d p c ≡ Some s → evaluation_at d ((us ++ sign a signs.Semicolon ∷ []) ++ rest) ≡ Some (s, rest)
unfolding evaluation_at
evaluation_reads d p a c s us rest begins call free le is =
    let place = ahead p (us ++ sign a signs.Semicolon ∷ []) rest begins in
    let reads = (post_at_exact 400 (d + 2)).complete c us (sign a signs.Semicolon ∷ rest) (refl, refl) (free_call c us call free, le) in
    rw (place, append_assoc, reads, is) refl

pub print_complete : (d : ℕ) (p : Place) (e : Expr) (ts rest : List Token) → DeepStmt (suc d) (Print p e) ts →
    evaluation_at d (ts ++ rest) ≡ Some (Print p e, rest)
print_complete d p e ts rest ((begins, c, a, us, parts, free, is), le) =
    let deep : depth c ≤ d + 2 = omega (arith, printed_depth c e is, depth_pos e) in
    let made : evaluated d p c ≡ Some (Print p e) = rw (is, le-leb (depth e) d (omega arith)) refl in
    rw parts (evaluation_reads d p a c (Print p e) us rest (subst (BeginsAt p) parts begins) (printed_call c e is) free deep made)

pub eval_complete : (d : ℕ) (p : Place) (e : Expr) (ts rest : List Token) → DeepStmt (suc d) (Eval p e) ts →
    evaluation_at d (ts ++ rest) ≡ Some (Eval p e, rest)
eval_complete d p e ts rest ((begins, c, a, us, parts, free, (same, call, is)), le) =
    let deep : depth c ≤ d + 2 = omega (arith, ap depth same) in
    let made : evaluated d p c ≡ Some (Eval p e) = rw (is, call, same, le-leb (depth e) d (omega arith)) refl in
    rw parts (evaluation_reads d p a c (Eval p e) us rest (subst (BeginsAt p) parts begins) call free deep made)

-- Operators between expressions are read exactly.
use Rattle.std.proofs.Common.{◌≡◌, ℕ, zero, suc, ◌-◌, ◌<◌, ◌≤◌, List, [], ◌∷◌, ◌++◌, length, true, eqb, Option, Some, None, refl, sym, ap}
use Rattle.std.proofs.Common.{subst, append_assoc, length-append, arith, inl, inr}
use Rattle.mg_text.specs.declared.place.Place.{Place}
use Rattle.mg_read.specs.Reader.{◌>>=◌}
use Rattle.mg_read.proofs.Steps.{bind_some, some_is, none_is_not, chosen, Takes}
use Rattle.mg_read.proofs.Lists.{IsExact}
use Rattle.jv_tree.specs.declared.token.Sign.{Sign}
use Rattle.jv_tree.specs.declared.token.Sign.TheVariants as signs
use Rattle.jv_tree.specs.declared.token.TokenKind.{TokenKind}
use Rattle.jv_tree.specs.declared.token.TokenKind.TheVariants as kinds
use Rattle.jv_tree.specs.declared.token.Token.{Token}
use Rattle.jv_tree.specs.declared.tree.Op.{Op}
use Rattle.jv_tree.specs.declared.tree.Op.TheVariants as ops
use Rattle.jv_tree.specs.Source.{Expr, Int, Truth, Text, Null, This, Variable, Member, Neg, Not, Binary, Call, MethodCall, New, place_of}
use Rattle.jv_tree.specs.Depth.{depth}
use Rattle.jv_tree.specs.Tokens.{sign}
use Rattle.std.proofs.lemmas.Bool.{eqb-true, eq-eqb}
use Rattle.jv_tree.specs.Expressions.{Language, IsChain, IsBinary, sign_of, looseness}
use Rattle.jv_grammar.specs.Base.{fits}
use Rattle.jv_grammar.specs.Grow.{grown}
use Rattle.jv_grammar.specs.Exprs.{Reads, operator, op_if, op_in, op_at, is_op, joined_with, binary_with}
use Rattle.jv_grammar.proofs.Steps.{after, glue, fits_is, fits_again}
use Rattle.jv_grammar.proofs.Args.{Within, Ends, Reading}
use Rattle.jv_grammar.proofs.Grows.{grow_sound, Reaches-end}
use Rattle.jv_grammar.proofs.Begins as begins
use Rattle.jv_grammar.proofs.Unaries.{unary_exact}

operator_is : (s : Sign) (o : Op) → operator s ≡ Some o → s ≡ sign_of o
operator_is signs.OpenBrace o e = absurd (none_is_not o e)
operator_is signs.CloseBrace o e = absurd (none_is_not o e)
operator_is signs.OpenParen o e = absurd (none_is_not o e)
operator_is signs.CloseParen o e = absurd (none_is_not o e)
operator_is signs.OpenBracket o e = absurd (none_is_not o e)
operator_is signs.CloseBracket o e = absurd (none_is_not o e)
operator_is signs.Semicolon o e = absurd (none_is_not o e)
operator_is signs.Comma o e = absurd (none_is_not o e)
operator_is signs.Dot o e = absurd (none_is_not o e)
operator_is signs.Assign o e = absurd (none_is_not o e)
operator_is signs.Equal o e = ap sign_of (some_is ops.Eq o e)
operator_is signs.NotEqual o e = ap sign_of (some_is ops.Ne o e)
operator_is signs.Less o e = ap sign_of (some_is ops.Lt o e)
operator_is signs.LessEqual o e = ap sign_of (some_is ops.Le o e)
operator_is signs.Greater o e = ap sign_of (some_is ops.Gt o e)
operator_is signs.GreaterEqual o e = ap sign_of (some_is ops.Ge o e)
operator_is signs.Plus o e = ap sign_of (some_is ops.Add o e)
operator_is signs.Minus o e = ap sign_of (some_is ops.Sub o e)
operator_is signs.Star o e = ap sign_of (some_is ops.Mul o e)
operator_is signs.Slash o e = ap sign_of (some_is ops.Div o e)
operator_is signs.Percent o e = ap sign_of (some_is ops.Rem o e)
operator_is signs.PlusPlus o e = absurd (none_is_not o e)
operator_is signs.MinusMinus o e = absurd (none_is_not o e)
operator_is signs.PlusAssign o e = absurd (none_is_not o e)
operator_is signs.MinusAssign o e = absurd (none_is_not o e)
operator_is signs.StarAssign o e = absurd (none_is_not o e)
operator_is signs.SlashAssign o e = absurd (none_is_not o e)
operator_is signs.PercentAssign o e = absurd (none_is_not o e)
operator_is signs.Bang o e = absurd (none_is_not o e)
operator_is signs.AndAnd o e = ap sign_of (some_is ops.And o e)
operator_is signs.OrOr o e = ap sign_of (some_is ops.Or o e)
operator_is signs.Colon o e = absurd (none_is_not o e)
operator_is signs.At o e = absurd (none_is_not o e)
operator_is signs.Question o e = absurd (none_is_not o e)
operator_is signs.Ampersand o e = absurd (none_is_not o e)
operator_is signs.Bar o e = absurd (none_is_not o e)
operator_is signs.Caret o e = absurd (none_is_not o e)
operator_is signs.Tilde o e = absurd (none_is_not o e)

operator_of : (o : Op) → operator (sign_of o) ≡ Some o
operator_of ops.Mul = refl
operator_of ops.Div = refl
operator_of ops.Rem = refl
operator_of ops.Add = refl
operator_of ops.Sub = refl
operator_of ops.Lt = refl
operator_of ops.Le = refl
operator_of ops.Gt = refl
operator_of ops.Ge = refl
operator_of ops.Eq = refl
operator_of ops.Ne = refl
operator_of ops.And = refl
operator_of ops.Or = refl

-- an operator that was read stands there
op_is : (k : ℕ) (ts : List Token) (x : Op × List Token) → op_at k ts ≡ Some x → (p : Place) × (ts ≡ sign p (sign_of x.0) ∷ x.1)
    × (looseness x.0 ≡ k)
op_is k [] x e = absurd (none_is_not x e)
op_is k (t ∷ ts) x e = by_kind t.place t.kind e where
  Stands : Place → Sign → (Op × List Token) → Type 0
  Stands p s y = (q : Place) × (sign p s ∷ ts ≡ sign q (sign_of y.0) ∷ y.1) × (looseness y.0 ≡ k)

  by_op : (p : Place) (s : Sign) (o : Option Op) → operator s ≡ o → op_if k o ts ≡ Some x →
      (q : Place) × (sign p s ∷ ts ≡ sign q (sign_of x.0) ∷ x.1) × (looseness x.0 ≡ k)
  by_op p s None h e = absurd (none_is_not x e)
  by_op p s (Some o) h e =
      elim (chosen (eqb (looseness o) k) _ _ (Some x) e) [
        | inl t ↦
            subst (λ (y : Op × List Token). (q : Place) × (sign p s ∷ ts ≡ sign q (sign_of y.0) ∷ y.1) × (looseness y.0 ≡ k))
            (some_is (o, ts) x t.1)
            (p, ap (λ (z : Sign). sign p z ∷ ts) (operator_is s o h), eqb-true (looseness o) k t.0)
        | inr f ↦ absurd (none_is_not x f.1)
      ]

  by_kind : (p : Place) (h : TokenKind) → op_in k h ts ≡ Some x →
      (q : Place) × (record { kind = h; place = p } ∷ ts ≡ sign q (sign_of x.0) ∷ x.1) × (looseness x.0 ≡ k)
  by_kind p (kinds.Sign s) e = by_op p s (operator s) refl e
  by_kind p (kinds.Word w) e = absurd (none_is_not x e)
  by_kind p (kinds.Number n) e = absurd (none_is_not x e)
  by_kind p (kinds.Text t) e = absurd (none_is_not x e)

op_again : (k : ℕ) (o : Op) (p : Place) (ts : List Token) → looseness o ≡ k → op_at k (sign p (sign_of o) ∷ ts) ≡ Some (o, ts)
op_again k o p ts h = let same : eqb (looseness o) k ≡ true = eq-eqb (looseness o) k h in rw (operator_of o, same) refl

-- tighter operators end at a looser one
before_op : (o : Op) (p : Place) (ts : List Token) → Ends (looseness o) (sign p (sign_of o) ∷ ts)
before_op ops.Mul p ts = (refl, refl)
before_op ops.Div p ts = (refl, refl)
before_op ops.Rem p ts = (refl, refl)
before_op ops.Add p ts = ((refl, refl), refl)
before_op ops.Sub p ts = ((refl, refl), refl)
before_op ops.Lt p ts = (((refl, refl), refl), refl)
before_op ops.Le p ts = (((refl, refl), refl), refl)
before_op ops.Gt p ts = (((refl, refl), refl), refl)
before_op ops.Ge p ts = (((refl, refl), refl), refl)
before_op ops.Eq p ts = ((((refl, refl), refl), refl), refl)
before_op ops.Ne p ts = ((((refl, refl), refl), refl), refl)
before_op ops.And p ts = (((((refl, refl), refl), refl), refl), refl)
before_op ops.Or p ts = ((((((refl, refl), refl), refl), refl), refl), refl)

module _ (k : ℕ) (part : ℕ → Reads) (P : Language) (exact : (d : ℕ) → IsExact (part d) (Within P d) (Ends k)) (d : ℕ) where
  abbrev Chain : Language
  Chain e us = IsChain k P e us × (depth e ≤ d)

  abbrev step : Expr → Reads
  step = joined_with k (part (d - 1)) d

  chain_base : (e : Expr) (us : List Token) → P e us → IsChain k P e us
  chain_base (Int p z) us h = h
  chain_base (Truth p b) us h = h
  chain_base (Text p t) us h = h
  chain_base (Null p) us h = h
  chain_base (This p) us h = h
  chain_base (Variable p n) us h = h
  chain_base (Member p e n) us h = h
  chain_base (Neg p e) us h = h
  chain_base (Not p e) us h = h
  chain_base (Binary p o l r) us h = inl h
  chain_base (Call p n args) us h = h
  chain_base (MethodCall p e n args) us h = h
  chain_base (New p n) us h = h

  step_sound : (e : Expr) (us ts : List Token) (x : Expr × List Token) → Chain e us → step e ts ≡ Some x →
      Takes (λ vs. Chain x.0 (us ++ vs)) ts x.1
  unfolding joined_with
  step_sound e us ts x (chain, le) h =
      let o = bind_some (op_at k ts) _ x h in
      let r = bind_some (part (d - 1) o.0.1) _ x o.2 in
      let f = fits_is d (Binary (place_of e) o.0.0 e r.0.0) r.0.1 x r.2 in
      let op = op_is k ts o.0 o.1 in
      let one = (exact (d - 1)).sound o.0.1 r.0 r.1 in
      subst (λ (y : Expr × List Token). Takes (λ vs. Chain y.0 (us ++ vs)) ts y.1) f.0
      (record {
        front = sign op.0 (sign_of o.0.0) ∷ one.front;
        parts = after op.1 one.parts;
        holds = (inr (op.2, refl, op.0, us, one.front, refl, chain, one.holds.0), f.1);
      })

  pub step_shorter : (e : Expr) (ts : List Token) (x : Expr × List Token) → step e ts ≡ Some x → length x.1 < length ts
  unfolding joined_with
  step_shorter e ts x h =
      let o = bind_some (op_at k ts) _ x h in
      let r = bind_some (part (d - 1) o.0.1) _ x o.2 in
      let f = fits_is d (Binary (place_of e) o.0.0 e r.0.0) r.0.1 x r.2 in
      let op = ap length (op_is k ts o.0 o.1).1 in
      let one = (exact (d - 1)).sound o.0.1 r.0 r.1 in
      let right = ap length one.parts in
      let same = ap (λ (y : Expr × List Token). length y.1) f.0 in
      omega (arith, op, right, same, length-append one.front r.0.1)

  chain_sound : (ts : List Token) (x : Expr × List Token) → (part d ts >>= λ first. grown (is_op k) step first.0 first.1) ≡ Some x →
      Takes (Chain x.0) ts x.1
  unfolding grown
  chain_sound ts x e =
      let s = bind_some (part d ts) _ x e in
      let one = (exact d).sound ts s.0 s.1 in
      let more = grow_sound (is_op k) step Chain step_sound (suc (length s.0.1)) s.0.0 one.front s.0.1 x
      (chain_base s.0.0 one.front one.holds.0, one.holds.1) s.2 in
      record { front = one.front ++ more.front; parts = glue one.front more.front x.1 one.parts more.parts; holds = more.holds }

  -- Behind the tokens of a chain the reader is at this chain, having begun with its first part.
  abbrev Begun : Expr → (us rest : List Token) → Type 0
  Begun = begins.Begun (is_op k) step P (Ends k) d

  begun_alone : (e : Expr) (us rest : List Token) → Ends k rest → P e us → depth e ≤ d → Begun e us rest
  begun_alone = begins.begun_alone (is_op k) step P (Ends k) d

  begun : (e : Expr) (us rest : List Token) → Ends k rest → IsChain k P e us → depth e ≤ d → Begun e us rest
  unfolding joined_with
  begun (Int p z) us rest fine h le = begun_alone (Int p z) us rest fine h le
  begun (Truth p b) us rest fine h le = begun_alone (Truth p b) us rest fine h le
  begun (Text p t) us rest fine h le = begun_alone (Text p t) us rest fine h le
  begun (Null p) us rest fine h le = begun_alone (Null p) us rest fine h le
  begun (This p) us rest fine h le = begun_alone (This p) us rest fine h le
  begun (Variable p n) us rest fine h le = begun_alone (Variable p n) us rest fine h le
  begun (Member p e n) us rest fine h le = begun_alone (Member p e n) us rest fine h le
  begun (Neg p e) us rest fine h le = begun_alone (Neg p e) us rest fine h le
  begun (Not p e) us rest fine h le = begun_alone (Not p e) us rest fine h le
  begun (Binary p o l r) us rest fine (inl h) le = begun_alone (Binary p o l r) us rest fine h le
  begun (Binary p o l r) us rest fine (inr (loose, place, a, vs, ws, parts, left, right)) le =
      let tail : List Token = sign a (sign_of o) ∷ ws in
      let ends : Ends k (tail ++ rest) = subst (λ (j : ℕ). Ends j (tail ++ rest)) loose (before_op o a (ws ++ rest)) in
      let before = begun l vs (tail ++ rest) ends left (omega arith) in
      let comes = op_again k o a (ws ++ rest) loose in
      let goes : is_op k (tail ++ rest) ≡ true = rw comes refl in
      let whole : fits d (Binary (place_of l) o l r) rest ≡ Some (Binary p o l r, rest) =
      rw place (fits_again d (Binary (place_of l) o l r) rest le) in
      let reads : step l (tail ++ rest) ≡ Some (Binary p o l r, rest) =
      rw (comes, (exact (d - 1)).complete r ws rest fine (right, omega arith)) whole in
      subst (λ (z : List Token). Begun (Binary p o l r) z rest) (sym parts)
      (begins.begun_more (is_op k) step P (Ends k) d l (Binary p o l r) vs tail rest before goes reads
      (omega arith))
  begun (Call p n args) us rest fine h le = begun_alone (Call p n args) us rest fine h le
  begun (MethodCall p e n args) us rest fine h le = begun_alone (MethodCall p e n args) us rest fine h le
  begun (New p n) us rest fine h le = begun_alone (New p n) us rest fine h le

  chain_complete : (e : Expr) (ts rest : List Token) → Ends (suc k) rest → Chain e ts →
      (part d (ts ++ rest) >>= λ first. grown (is_op k) step first.0 first.1) ≡ Some (e, rest)
  chain_complete e ts rest fine (h, le) =
      let b = begun e ts rest fine.0 h le in
      let first = (exact d).complete b.first b.front (b.back ++ rest) b.fine (b.begins, b.less) in
      let more = Reaches-end (is_op k) step b.first e (b.back ++ rest) rest fine.1 b.goes in
      rw (b.parts, append_assoc, first) more

module _ (m : ℕ) (inner : ℕ → Reads) (G : Language) (reading : (d : ℕ) → Reading (inner d) (Within G d)) where
  pub binary_exact : (k d : ℕ) → IsExact (binary_with m inner k d) (Within (IsBinary m G k) d) (Ends k)
  unfolding binary_with
  binary_exact zero d = let u = unary_exact m inner G reading d in record { sound = u.sound; complete = u.complete }
  binary_exact (suc k) d = record {
    sound = chain_sound k (binary_with m inner k) (IsBinary m G k) (binary_exact k) d;
    complete = chain_complete k (binary_with m inner k) (IsBinary m G k) (binary_exact k) d;
  }

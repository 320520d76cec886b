-- What "." appends to an expression is read exactly, and what "-" and "!" put in front of one.
use Rattle.std.proofs.Common.{◌≡◌, ℕ, suc, ◌-◌, ◌<◌, ◌≤◌, List, [], ◌∷◌, ◌++◌, length, true, Some, refl, sym, ap, subst, append_assoc}
use Rattle.std.proofs.Common.{length-append, arith, inl, inr}
use Rattle.mg_read.proofs.Steps.{bind_some, chosen, Takes}
use Rattle.mg_read.proofs.Lists.{IsExact}
use Rattle.jv_tree.specs.declared.token.Sign.TheVariants as signs
use Rattle.jv_tree.specs.declared.token.Token.{Token}
use Rattle.jv_tree.specs.Source.{Expr, Int, Truth, Text, Null, This, Variable, Member, Neg, Not, Binary, Call, MethodCall, New, place_of}
use Rattle.jv_tree.specs.Depth.{depth}
use Rattle.jv_tree.specs.Tokens.{word, sign}
use Rattle.jv_tree.specs.Expressions.{Language, AreArguments, IsPrimary, IsPost}
use Rattle.jv_tree.specs.View.{exprs_of}
use Rattle.jv_grammar.specs.Base.{sign_at, is_sign, name_at, fits}
use Rattle.jv_grammar.specs.Grow.{grown}
use Rattle.jv_grammar.specs.Exprs.{Reads, arguments_with, primary_with, member_with, tail_with, post_with}
use Rattle.jv_grammar.proofs.Steps.{after, glue, sign_is, name_is, fits_is, fits_again}
use Rattle.jv_grammar.proofs.Args.{Within, Ends, list_of, exprs-list_of, Reading, arguments_sound, arguments_complete}
use Rattle.jv_grammar.proofs.Primaries.{Unopened, primary_exact}
use Rattle.jv_grammar.proofs.Begins as begins
use Rattle.jv_grammar.proofs.Grows.{grow_sound, Reaches-end}

module _ (m : ℕ) (inner : ℕ → Reads) (G : Language) (reading : (d : ℕ) → Reading (inner d) (Within G d)) where
  abbrev pub Post : ℕ → Language
  Post d e us = IsPost m G e us × (depth e ≤ d)

  post_base : (e : Expr) (us : List Token) → IsPrimary m G e us → IsPost m G e us
  post_base (Int p z) us h = h
  post_base (Truth p b) us h = h
  post_base (Text p t) us h = h
  post_base (Null p) us h = h
  post_base (This p) us h = h
  post_base (Variable p n) us h = h
  post_base (Member p e n) us h = inl h
  post_base (Neg p e) us h = h
  post_base (Not p e) us h = h
  post_base (Binary p o l r) us h = h
  post_base (Call p n args) us h = h
  post_base (MethodCall p e n args) us h = inl h
  post_base (New p n) us h = h

  -- one more "." behind an expression
  tail_sound : (d : ℕ) (e : Expr) (us ts : List Token) (x : Expr × List Token) → Post d e us → tail_with m inner d e ts ≡ Some x →
      Takes (λ vs. Post d x.0 (us ++ vs)) ts x.1
  unfolding tail_with member_with
  tail_sound d e us ts x (post, le) h =
      let a = bind_some (sign_at signs.Dot ts) _ x h in
      let n = bind_some (name_at a.0.1) _ x a.2 in
      let name = name_is a.0.1 n.0 n.1 in
      elim (chosen (is_sign signs.OpenParen n.0.1) _ _ (Some x) n.2) [
        | inl t ↦
            let xs = bind_some (arguments_with m (inner (d - 1)) n.0.1) _ x t.1 in
            let f = fits_is d (MethodCall (place_of e) e n.0.0.1 (exprs_of xs.0.0)) xs.0.1 x xs.2 in
            let one = arguments_sound (inner (d - 1)) G (d - 1) (reading (d - 1)) m n.0.1 xs.0 xs.1 in
            subst (λ (y : Expr × List Token). Takes (λ vs. Post d y.0 (us ++ vs)) ts y.1) f.0
            (record {
              front = sign a.0.0 signs.Dot ∷ word n.0.0.0 n.0.0.1 ∷ one.front;
              parts = after (sign_is signs.Dot ts a.0 a.1) (after name.0 one.parts);
              holds = (inr (name.1, refl, a.0.0, n.0.0.0, us, one.front, refl, post, one.holds.0), f.1);
            })
        | inr t ↦
            let f = fits_is d (Member (place_of e) e n.0.0.1) n.0.1 x t.1 in
            subst (λ (y : Expr × List Token). Takes (λ vs. Post d y.0 (us ++ vs)) ts y.1) f.0
            (record {
              front = sign a.0.0 signs.Dot ∷ word n.0.0.0 n.0.0.1 ∷ [];
              parts = after (sign_is signs.Dot ts a.0 a.1) (after name.0 refl);
              holds = (inr (name.1, refl, a.0.0, n.0.0.0, us, refl, post), f.1);
            })
      ]

  pub tail_shorter : (d : ℕ) (e : Expr) (ts : List Token) (x : Expr × List Token) → tail_with m inner d e ts ≡ Some x →
      length x.1 < length ts
  unfolding tail_with member_with
  tail_shorter d e ts x h =
      let a = bind_some (sign_at signs.Dot ts) _ x h in
      let n = bind_some (name_at a.0.1) _ x a.2 in
      let dot = ap length (sign_is signs.Dot ts a.0 a.1) in
      let name = ap length (name_is a.0.1 n.0 n.1).0 in
      elim (chosen (is_sign signs.OpenParen n.0.1) _ _ (Some x) n.2) [
        | inl t ↦
            let xs = bind_some (arguments_with m (inner (d - 1)) n.0.1) _ x t.1 in
            let f = fits_is d (MethodCall (place_of e) e n.0.0.1 (exprs_of xs.0.0)) xs.0.1 x xs.2 in
            let one = arguments_sound (inner (d - 1)) G (d - 1) (reading (d - 1)) m n.0.1 xs.0 xs.1 in
            let args = ap length one.parts in
            let same = ap (λ (y : Expr × List Token). length y.1) f.0 in
            omega (arith, dot, name, args, same, length-append one.front xs.0.1)
        | inr t ↦
            let f = fits_is d (Member (place_of e) e n.0.0.1) n.0.1 x t.1 in
            let same = ap (λ (y : Expr × List Token). length y.1) f.0 in
            omega (arith, dot, name, same)
      ]

  post_sound : (d : ℕ) (ts : List Token) (x : Expr × List Token) → post_with m inner d ts ≡ Some x → Takes (Post d x.0) ts x.1
  unfolding post_with grown
  post_sound d ts x e =
      let s = bind_some (primary_with m inner d ts) _ x e in
      let one = (primary_exact m inner G reading d).sound ts s.0 s.1 in
      let more = grow_sound (is_sign signs.Dot) (tail_with m inner d) (Post d) (tail_sound d) (suc (length s.0.1)) s.0.0 one.front s.0.1 x
      (post_base s.0.0 one.front one.holds.0, one.holds.1) s.2 in
      record { front = one.front ++ more.front; parts = glue one.front more.front x.1 one.parts more.parts; holds = more.holds }

  -- Behind the tokens of an expression the reader is at this expression, having begun with a primary one.
  abbrev Begun : ℕ → Expr → (us rest : List Token) → Type 0
  Begun d = begins.Begun (is_sign signs.Dot) (tail_with m inner d) (IsPrimary m G) Unopened d

  begun_alone : (d : ℕ) (e : Expr) (us rest : List Token) → Unopened rest → IsPrimary m G e us → depth e ≤ d → Begun d e us rest
  begun_alone d = begins.begun_alone (is_sign signs.Dot) (tail_with m inner d) (IsPrimary m G) Unopened d

  begun_more : (d : ℕ) (e f : Expr) (us vs rest : List Token) → Begun d e us (vs ++ rest) → is_sign signs.Dot (vs ++ rest) ≡ true →
      tail_with m inner d e (vs ++ rest) ≡ Some (f, rest) → 0 < length vs → Begun d f (us ++ vs) rest
  begun_more d = begins.begun_more (is_sign signs.Dot) (tail_with m inner d) (IsPrimary m G) Unopened d

  begun : (d : ℕ) (e : Expr) (us rest : List Token) → Unopened rest → IsPost m G e us → depth e ≤ d → Begun d e us rest
  unfolding tail_with member_with
  begun d (Int p z) us rest fine h le = begun_alone d (Int p z) us rest fine h le
  begun d (Truth p b) us rest fine h le = begun_alone d (Truth p b) us rest fine h le
  begun d (Text p t) us rest fine h le = begun_alone d (Text p t) us rest fine h le
  begun d (Null p) us rest fine h le = begun_alone d (Null p) us rest fine h le
  begun d (This p) us rest fine h le = begun_alone d (This p) us rest fine h le
  begun d (Variable p n) us rest fine h le = begun_alone d (Variable p n) us rest fine h le
  begun d (Neg p e) us rest fine h le = begun_alone d (Neg p e) us rest fine h le
  begun d (Not p e) us rest fine h le = begun_alone d (Not p e) us rest fine h le
  begun d (Binary p o l r) us rest fine h le = begun_alone d (Binary p o l r) us rest fine h le
  begun d (Call p n args) us rest fine h le = begun_alone d (Call p n args) us rest fine h le
  begun d (New p n) us rest fine h le = begun_alone d (New p n) us rest fine h le
  begun d (Member p e n) us rest fine (inl h) le = begun_alone d (Member p e n) us rest fine h le
  begun d (Member p e n) us rest fine (inr (name, place, a, b, vs, parts, h)) le =
      let tail : List Token = sign a signs.Dot ∷ word b n ∷ [] in
      let before = begun d e vs (tail ++ rest) refl h (omega arith) in
      let reads : tail_with m inner d e (tail ++ rest) ≡ Some (Member p e n, rest) =
      rw (name, fine, place) (fits_again d (Member (place_of e) e n) rest le) in
      subst (λ (r : List Token). Begun d (Member p e n) r rest) (sym parts) (begun_more d e (Member p e n) vs tail rest before refl reads
      (omega arith))
  begun d (MethodCall p e n args) us rest fine (inl h) le = begun_alone d (MethodCall p e n args) us rest fine h le
  begun d (MethodCall p e n args) us rest fine (inr (name, place, a, b, vs, ws, parts, h, given)) le =
      let tail : List Token = sign a signs.Dot ∷ word b n ∷ ws in
      let before = begun d e vs (tail ++ rest) refl h (omega arith) in
      let opens : is_sign signs.OpenParen (ws ++ rest) ≡ true = opened ws given in
      let args_read = arguments_complete (inner (d - 1)) G (d - 1) (reading (d - 1)) m args ws rest given (omega arith) in
      let whole : fits d (MethodCall (place_of e) e n (exprs_of (list_of args))) rest ≡ Some (MethodCall p e n args, rest) =
      rw (exprs-list_of, place) (fits_again d (MethodCall (place_of e) e n args) rest le) in
      let reads : tail_with m inner d e (tail ++ rest) ≡ Some (MethodCall p e n args, rest) = rw (name, opens, args_read) whole in
      subst (λ (r : List Token). Begun d (MethodCall p e n args) r rest) (sym parts) (begun_more d e (MethodCall p e n args) vs tail rest
      before refl reads (omega arith)) where
        opened : (us : List Token) → AreArguments m G args us → is_sign signs.OpenParen (us ++ rest) ≡ true
        opened us (less, a, b, vs, parts, h) = rw parts refl

  post_complete : (d : ℕ) (e : Expr) (ts rest : List Token) → Ends 0 rest → Post d e ts → post_with m inner d (ts ++ rest) ≡ Some (e, rest)
  unfolding post_with
  post_complete d e ts rest fine (h, le) =
      let b = begun d e ts rest fine.0 h le in
      let first = (primary_exact m inner G reading d).complete b.first b.front (b.back ++ rest) b.fine (b.begins, b.less) in
      let more = Reaches-end (is_sign signs.Dot) (tail_with m inner d) b.first e (b.back ++ rest) rest fine.1 b.goes in
      rw (b.parts, append_assoc, first) more

  pub post_exact : (d : ℕ) → IsExact (post_with m inner d) (Post d) (Ends 0)
  post_exact d = record { sound = post_sound d; complete = post_complete d }

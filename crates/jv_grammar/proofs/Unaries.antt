-- What "-" and "!" put in front of an expression is read exactly.
use Rattle.std.proofs.Common.{◌≡◌, ℕ, zero, suc, ◌≤◌, List, ◌∷◌, ◌++◌, Bool, true, false, Some, refl, sym, ap, ◌∙◌, subst, arith, inl, inr}
use Rattle.std.specs.Prelude.{not}
use Rattle.mg_text.specs.declared.place.Place.{Place}
use Rattle.mg_read.proofs.Steps.{bind_some, none_is_not, chosen, Takes}
use Rattle.mg_read.proofs.Lists.{IsExact}
use Rattle.jv_tree.specs.declared.token.Sign.TheVariants as signs
use Rattle.jv_tree.specs.declared.token.Token.{Token}
use Rattle.jv_tree.specs.Source.{Expr, Int, Truth, Text, Null, This, Variable, Member, Neg, Not, Binary, Call, MethodCall, New}
use Rattle.jv_tree.specs.Depth.{depth}
use Rattle.jv_tree.specs.Tokens.{sign}
use Rattle.jv_tree.specs.Expressions.{Language, IsPost, IsUnary, starts_number}
use Rattle.jv_grammar.specs.Base.{sign_at, is_sign}
use Rattle.jv_grammar.specs.Exprs.{Reads, is_negation, unary_with}
use Rattle.jv_grammar.proofs.Steps.{after, sign_is, fits_is, fits_again}
use Rattle.jv_grammar.proofs.Args.{Within, Ends, Reading}
use Rattle.jv_grammar.proofs.Primaries.{depth_pos}
use Rattle.jv_grammar.proofs.Beginnings.{Begins, unary_begins, post_plain}
use Rattle.jv_grammar.proofs.Posts.{post_exact}

-- whether a number comes first depends on the first token alone
starts_front : (us rest : List Token) → Begins us → starts_number (us ++ rest) ≡ starts_number us
starts_front us rest b = rw b.parts refl

-- behind a "-" that no number follows
negation_is : (p : Place) (us : List Token) → is_negation (sign p signs.Minus ∷ us) ≡ true → starts_number us ≡ false
negation_is p us h = by_cases (starts_number us) h where
  by_cases : (b : Bool) → not b ≡ true → b ≡ false
  by_cases false h = refl
  by_cases true h = absurd cc

module _ (m : ℕ) (inner : ℕ → Reads) (G : Language) (reading : (d : ℕ) → Reading (inner d) (Within G d)) where
  abbrev pub Unary : ℕ → Language
  Unary d e us = IsUnary m G e us × (depth e ≤ d)

  unary_base : (e : Expr) (us : List Token) → IsPost m G e us → IsUnary m G e us
  unary_base (Int p z) us h = h
  unary_base (Truth p b) us h = h
  unary_base (Text p t) us h = h
  unary_base (Null p) us h = h
  unary_base (This p) us h = h
  unary_base (Variable p n) us h = h
  unary_base (Member p e n) us h = h
  unary_base (Neg p e) us h = inl h
  unary_base (Not p e) us h = inl h
  unary_base (Binary p o l r) us h = h
  unary_base (Call p n args) us h = h
  unary_base (MethodCall p e n args) us h = h
  unary_base (New p n) us h = h

  unary_sound : (d : ℕ) (ts : List Token) (x : Expr × List Token) → unary_with m inner d ts ≡ Some x → Takes (Unary d x.0) ts x.1
  unfolding unary_with
  unary_sound zero ts x e = absurd (none_is_not x e)
  unary_sound (suc d) ts x e =
      elim (chosen (is_negation ts) _ _ (Some x) e) [
        | inl t ↦
            let a = bind_some (sign_at signs.Minus ts) _ x t.1 in
            let n = bind_some (unary_with m inner d a.0.1) _ x a.2 in
            let f = fits_is (suc d) (Neg a.0.0 n.0.0) n.0.1 x n.2 in
            let one = unary_sound d a.0.1 n.0 n.1 in
            let minus = sign_is signs.Minus ts a.0 a.1 in
            let begins = unary_begins m G n.0.0 one.front one.holds.0 in
            let free : starts_number one.front ≡ false =
            sym (starts_front one.front n.0.1 begins) ∙ ap starts_number (sym one.parts) ∙ negation_is a.0.0 a.0.1
            (ap is_negation (sym minus) ∙ t.0) in
            subst (λ (y : Expr × List Token). Takes (Unary (suc d) y.0) ts y.1) f.0
            (record {
              front = sign a.0.0 signs.Minus ∷ one.front;
              parts = after minus one.parts;
              holds =
                  (inr (one.front, refl, free, one.holds.0), f.1);
            })
        | inr g ↦ elim (chosen (is_sign signs.Bang ts) _ _ (Some x) g.1) [
          | inl t ↦
              let a = bind_some (sign_at signs.Bang ts) _ x t.1 in
              let n = bind_some (unary_with m inner d a.0.1) _ x a.2 in
              let f = fits_is (suc d) (Not a.0.0 n.0.0) n.0.1 x n.2 in
              let one = unary_sound d a.0.1 n.0 n.1 in
              subst (λ (y : Expr × List Token). Takes (Unary (suc d) y.0) ts y.1) f.0
              (record {
                front = sign a.0.0 signs.Bang ∷ one.front;
                parts = after (sign_is signs.Bang ts a.0 a.1) one.parts;
                holds =
                    (inr (one.front, refl, one.holds.0), f.1);
              })
          | inr h ↦
              let one = (post_exact m inner G reading (suc d)).sound ts x h.1 in
              record { front = one.front; parts = one.parts; holds = (unary_base x.0 one.front one.holds.0, one.holds.1) }
        ]
      ]

  unary_post : (d : ℕ) (e : Expr) (ts rest : List Token) → Ends 0 rest → IsPost m G e ts → depth e ≤ d →
      unary_with m inner d (ts ++ rest) ≡ Some (e, rest)
  unfolding unary_with
  unary_post zero e ts rest fine h le = absurd (omega (arith, depth_pos e))
  unary_post (suc d) e ts rest fine h le =
      let plain = post_plain m G e ts rest h in
      rw (plain.0, plain.1) ((post_exact m inner G reading (suc d)).complete e ts rest fine (h, le))

  unary_complete : (d : ℕ) (e : Expr) (ts rest : List Token) → Ends 0 rest → IsUnary m G e ts → depth e ≤ d →
      unary_with m inner d (ts ++ rest) ≡ Some (e, rest)
  unfolding unary_with
  unary_complete d (Int p z) ts rest fine h le = unary_post d (Int p z) ts rest fine h le
  unary_complete d (Truth p b) ts rest fine h le = unary_post d (Truth p b) ts rest fine h le
  unary_complete d (Text p t) ts rest fine h le = unary_post d (Text p t) ts rest fine h le
  unary_complete d (Null p) ts rest fine h le = unary_post d (Null p) ts rest fine h le
  unary_complete d (This p) ts rest fine h le = unary_post d (This p) ts rest fine h le
  unary_complete d (Variable p n) ts rest fine h le = unary_post d (Variable p n) ts rest fine h le
  unary_complete d (Member p e n) ts rest fine h le = unary_post d (Member p e n) ts rest fine h le
  unary_complete d (Neg p e) ts rest fine (inl h) le = unary_post d (Neg p e) ts rest fine h le
  unary_complete zero (Neg p e) ts rest fine (inr (us, parts, free, h)) le = absurd (omega (arith, le))
  unary_complete (suc d) (Neg p e) ts rest fine (inr (us, parts, free, h)) le =
      let still : starts_number (us ++ rest) ≡ false = starts_front us rest (unary_begins m G e us h) ∙ free in
      let inside = unary_complete d e us rest fine h (omega arith) in
      rw (parts, still, inside) (fits_again (suc d) (Neg p e) rest le)
  unary_complete d (Not p e) ts rest fine (inl h) le = unary_post d (Not p e) ts rest fine h le
  unary_complete zero (Not p e) ts rest fine (inr (us, parts, h)) le = absurd (omega (arith, le))
  unary_complete (suc d) (Not p e) ts rest fine (inr (us, parts, h)) le =
      let inside = unary_complete d e us rest fine h (omega arith) in
      rw (parts, inside) (fits_again (suc d) (Not p e) rest le)
  unary_complete d (Binary p o l r) ts rest fine h le = unary_post d (Binary p o l r) ts rest fine h le
  unary_complete d (Call p n args) ts rest fine h le = unary_post d (Call p n args) ts rest fine h le
  unary_complete d (MethodCall p e n args) ts rest fine h le = unary_post d (MethodCall p e n args) ts rest fine h le
  unary_complete d (New p n) ts rest fine h le = unary_post d (New p n) ts rest fine h le

  pub unary_exact : (d : ℕ) → IsExact (unary_with m inner d) (Unary d) (Ends 0)
  unary_exact d = record { sound = unary_sound d; complete = λ e ts rest fine h. unary_complete d e ts rest fine h.0 h.1 }

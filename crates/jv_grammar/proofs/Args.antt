-- Arguments are read exactly.
use Rattle.std.proofs.Common.{◌≡◌, ℕ, zero, suc, ◌<◌, ◌≤◌, List, [], ◌∷◌, ◌++◌, length, true, false, Some, refl, ap, ◌∙◌, subst}
use Rattle.std.proofs.Common.{append_assoc, length-append, arith, inl, inr}
use Rattle.mg_text.specs.declared.place.Place.{Place}
use Rattle.mg_read.specs.Reader.{all_of}
use Rattle.mg_read.proofs.Steps.{bind_some, some_is, none_is_not, chosen, Takes}
use Rattle.mg_read.proofs.Lists.{Each, IsExact, Starts, all_sound, all_complete, each_follows}
use Rattle.jv_tree.specs.declared.token.Sign.TheVariants as signs
use Rattle.jv_tree.specs.declared.token.Token.{Token}
use Rattle.jv_tree.specs.Source.{Expr, Exprs, NoExpr, Argument}
use Rattle.jv_tree.specs.Depth.{depth, depth_of_args}
use Rattle.jv_tree.specs.Tokens.{sign}
use Rattle.jv_tree.specs.Expressions.{Language, AreMoreArgs, AreArgs, AreArguments}
use Rattle.jv_tree.specs.View.{exprs_of}
use Rattle.jv_grammar.specs.Base.{sign_at, is_sign}
use Rattle.jv_grammar.specs.Exprs.{Reads, is_op, next_arg_with, args_with, closed_args_with, arguments_with, closed_with}
use Rattle.jv_grammar.proofs.Steps.{after, glue, sign_is}

-- spelled so, and at most so deep
abbrev pub Within : Language → ℕ → Language
Within G d e us = G e us × (depth e ≤ d)

-- what may follow an expression that operators below a looseness join
abbrev pub Ends : ℕ → List Token → Type 0
Ends zero ts = (is_sign signs.OpenParen ts ≡ false) × (is_sign signs.Dot ts ≡ false)
Ends (suc k) ts = Ends k ts × (is_op k ts ≡ false)

pub before_close : (p : Place) (ts : List Token) → Ends 6 (sign p signs.CloseParen ∷ ts)
before_close p ts = (((((((refl, refl), refl), refl), refl), refl), refl), refl)

pub before_comma : (p : Place) (ts : List Token) → Ends 6 (sign p signs.Comma ∷ ts)
before_comma p ts = (((((((refl, refl), refl), refl), refl), refl), refl), refl)

pub before_semicolon : (p : Place) (ts : List Token) → Ends 6 (sign p signs.Semicolon ∷ ts)
before_semicolon p ts = (((((((refl, refl), refl), refl), refl), refl), refl), refl)

abbrev pub list_of : Exprs → List Expr
list_of NoExpr = []
list_of (Argument e more) = e ∷ list_of more

pub exprs-list_of : (args : Exprs) → exprs_of (list_of args) ≡ args
exprs-list_of NoExpr = refl
exprs-list_of (Argument e more) = ap (Argument e) (exprs-list_of more)

-- all that f reads is spelled so; an expression takes a token at least
pub record Reading (f : Reads) (G : Language) : Type 0 where
  pub exact : IsExact f G (Ends 6)
  pub nonempty : (e : Expr) (us : List Token) → G e us → 0 < length us
  pub unclosed : (e : Expr) (us rest : List Token) → G e us → is_sign signs.CloseParen (us ++ rest) ≡ false

module _ (f : Reads) (G : Language) (d : ℕ) (reading : Reading f (Within G d)) where
  abbrev NextArg : Expr → List Token → Type 0
  NextArg e us = (a : Place) × (vs : List Token) × (us ≡ sign a signs.Comma ∷ vs) × Within G d e vs

  next_sound : (ts : List Token) (x : Expr × List Token) → next_arg_with f ts ≡ Some x → Takes (NextArg x.0) ts x.1
  unfolding next_arg_with
  next_sound ts x e =
      let a = bind_some (sign_at signs.Comma ts) _ x e in
      let one = reading.exact.sound a.0.1 x a.2 in
      record {
        front = sign a.0.0 signs.Comma ∷ one.front;
        parts = after (sign_is signs.Comma ts a.0 a.1) one.parts;
        holds = (a.0.0, one.front, refl, one.holds);
      }

  next_complete : (e : Expr) (ts rest : List Token) → Ends 6 rest → NextArg e ts → next_arg_with f (ts ++ rest) ≡ Some (e, rest)
  unfolding next_arg_with
  next_complete e ts rest fine (a, vs, parts, h) = rw (parts, reading.exact.complete e vs rest fine h) refl

  next_exact : IsExact (next_arg_with f) NextArg (Ends 6)
  next_exact = record { sound = next_sound; complete = next_complete }

  next_starts : Starts (is_sign signs.Comma) NextArg (Ends 6)
  next_starts = record {
    follows = λ e ts rest h. follows e ts rest h;
    goes = λ e ts rest h. goes e ts rest h;
    nonempty = λ e ts h. some e ts h;
  } where
    follows : (e : Expr) (ts rest : List Token) → NextArg e ts → Ends 6 (ts ++ rest)
    follows e ts rest (a, vs, parts, h) = rw parts (before_comma a (vs ++ rest))

    goes : (e : Expr) (ts rest : List Token) → NextArg e ts → is_sign signs.Comma (ts ++ rest) ≡ true
    goes e ts rest (a, vs, parts, h) = rw parts refl

    some : (e : Expr) (ts : List Token) → NextArg e ts → 0 < length ts
    some e ts (a, vs, parts, h) = rw parts (omega arith)

  pub next_shorter : (ts : List Token) (x : Expr × List Token) → next_arg_with f ts ≡ Some x → length x.1 < length ts
  next_shorter ts x e =
      let t = next_sound ts x e in
      omega (arith, ap length t.parts, length-append t.front x.1, next_starts.nonempty x.0 t.front t.holds)

  each_more : (xs : List Expr) (us : List Token) → Each NextArg xs us → AreMoreArgs G (exprs_of xs) us × (depth_of_args (exprs_of xs) ≤ d)
  each_more [] us h = (h, omega arith)
  each_more (x ∷ xs) us (ps, qs, parts, (a, vs, starts, (g, le)), more) =
      let r = each_more xs qs more in
      ((a, vs, qs, parts ∙ ap (λ (z : List Token). z ++ qs) starts, g, r.0), omega (arith, le, r.1))

  more_each : (args : Exprs) (us : List Token) → AreMoreArgs G args us → depth_of_args args ≤ d → Each NextArg (list_of args) us
  more_each NoExpr us h le = h
  more_each (Argument e more) us (a, vs, ws, parts, g, others) le =
      (sign a signs.Comma ∷ vs, ws, parts, (a, vs, refl, (g, omega arith)), more_each more ws others (omega arith))

  -- what arguments are spelled so
  abbrev Spelled : List Expr → List Token → Type 0
  Spelled xs us = AreArgs G (exprs_of xs) us × (depth_of_args (exprs_of xs) ≤ d)

  args_sound : (ts : List Token) (x : List Expr × List Token) → args_with f ts ≡ Some x → Takes (Spelled x.0) ts x.1
  unfolding args_with
  args_sound ts x e =
      let s = bind_some (f ts) _ x e in
      let b = bind_some (all_of (is_sign signs.Comma) (next_arg_with f) s.0.1) _ x s.2 in
      let one = reading.exact.sound ts s.0 s.1 in
      let more = all_sound (is_sign signs.Comma) (next_arg_with f) NextArg (Ends 6) next_exact s.0.1 b.0 b.1 in
      let r = each_more b.0.0 more.front more.holds in
      subst (λ (y : List Expr × List Token). Takes (Spelled y.0) ts y.1) (some_is _ x b.2)
      (record {
        front = one.front ++ more.front;
        parts = glue one.front more.front b.0.1 one.parts more.parts;
        holds = ((one.front, more.front, refl, one.holds.0, r.0), omega (arith, one.holds.1, r.1));
      })

  args_complete : (e : Expr) (more : Exprs) (ts rest : List Token) → Ends 6 rest → is_sign signs.Comma rest ≡ false →
      AreArgs G (Argument e more) ts → depth_of_args (Argument e more) ≤ d
      → args_with f (ts ++ rest) ≡ Some (e ∷ list_of more, rest)
  unfolding args_with
  args_complete e more ts rest fine stops (us, vs, parts, g, others) le =
      let others_each = more_each more vs others (omega arith) in
      let follows = each_follows (is_sign signs.Comma) (next_arg_with f) NextArg (Ends 6) next_exact next_starts (list_of more) vs rest fine
      others_each in
      let first = reading.exact.complete e us (vs ++ rest) follows (g, omega arith) in
      let all = all_complete (is_sign signs.Comma) (next_arg_with f) NextArg (Ends 6) next_exact next_starts (list_of more) vs rest fine
      stops others_each in
      rw (parts, append_assoc, first, all) refl

  closed_args_sound : (ts : List Token) (x : List Expr × List Token) → closed_args_with f ts ≡ Some x
      → Takes (λ us. (b : Place) × (vs : List Token) × (us ≡ vs ++ sign b signs.CloseParen ∷ []) × Spelled x.0 vs) ts x.1
  unfolding closed_args_with
  closed_args_sound ts x e =
      elim (chosen (is_sign signs.CloseParen ts) _ _ (Some x) e) [
        | inl t ↦
            let c = bind_some (sign_at signs.CloseParen ts) _ x t.1 in
            subst (λ (y : List Expr × List Token). Takes (λ us. (b : Place) × (vs : List Token) × (us ≡ vs ++ sign b signs.CloseParen ∷ [])
            × Spelled y.0 vs) ts y.1) (some_is _ x c.2)
            (record {
              front = sign c.0.0 signs.CloseParen ∷ [];
              parts = sign_is signs.CloseParen ts c.0 c.1;
              holds =
                  (c.0.0, [], refl, (refl, omega arith));
            })
        | inr t ↦
            let a = bind_some (args_with f ts) _ x t.1 in
            let c = bind_some (sign_at signs.CloseParen a.0.1) _ x a.2 in
            let one = args_sound ts a.0 a.1 in
            subst (λ (y : List Expr × List Token). Takes (λ us. (b : Place) × (vs : List Token) × (us ≡ vs ++ sign b signs.CloseParen ∷ [])
            × Spelled y.0 vs) ts y.1) (some_is _ x c.2)
            (record {
              front = one.front ++ sign c.0.0 signs.CloseParen ∷ [];
              parts = glue one.front (sign c.0.0 signs.CloseParen ∷ []) c.0.1 one.parts (sign_is signs.CloseParen a.0.1 c.0 c.1);
              holds = (c.0.0, one.front, refl, one.holds);
            })
      ]

  closed_args_complete : (args : Exprs) (b : Place) (us rest : List Token) → AreArgs G args us → depth_of_args args ≤ d
      → closed_args_with f (us ++ sign b signs.CloseParen ∷ rest) ≡ Some (list_of args, rest)
  unfolding closed_args_with
  closed_args_complete NoExpr b us rest h le = rw h refl
  closed_args_complete (Argument e more) b us rest (vs, ws, parts, g, others) le =
      let stays : is_sign signs.CloseParen (us ++ sign b signs.CloseParen ∷ rest) ≡ false =
      rw (parts, append_assoc) (reading.unclosed e vs (ws ++ sign b signs.CloseParen ∷ rest) (g, omega arith)) in
      let inner = args_complete e more us (sign b signs.CloseParen ∷ rest) (before_close b rest) refl (vs, ws, parts, g, others) le in
      rw (stays, inner) refl

  pub arguments_sound : (m : ℕ) (ts : List Token) (x : List Expr × List Token) → arguments_with m f ts ≡ Some x
      → Takes (λ us. AreArguments m G (exprs_of x.0) us × (depth_of_args (exprs_of x.0) ≤ d)) ts x.1
  unfolding arguments_with
  arguments_sound zero ts x e = absurd (none_is_not x e)
  arguments_sound (suc m) ts x e =
      let a = bind_some (sign_at signs.OpenParen ts) _ x e in
      let one = closed_args_sound a.0.1 x a.2 in
      let (b, vs, parts, (spelled, le)) = one.holds in
      record {
        front = sign a.0.0 signs.OpenParen ∷ one.front;
        parts = after (sign_is signs.OpenParen ts a.0 a.1) one.parts;
        holds = ((omega arith, a.0.0, b, vs, ap (λ (z : List Token). sign a.0.0 signs.OpenParen ∷ z) parts, spelled), le);
      }

  pub arguments_complete : (m : ℕ) (args : Exprs) (ts rest : List Token) → AreArguments m G args ts → depth_of_args args ≤ d
      → arguments_with m f (ts ++ rest) ≡ Some (list_of args, rest)
  unfolding arguments_with
  arguments_complete zero args ts rest (less, a, b, us, parts, h) le = absurd (omega arith)
  arguments_complete (suc m) args ts rest (less, a, b, us, parts, h) le = rw (parts, append_assoc, closed_args_complete args b us rest h le)
      refl

  pub closed_sound : (ts : List Token) (x : Expr × List Token) → closed_with f ts ≡ Some x
      → Takes (λ us. (b : Place) × (vs : List Token) × (us ≡ vs ++ sign b signs.CloseParen ∷ []) × Within G d x.0 vs) ts x.1
  unfolding closed_with
  closed_sound ts x e =
      let a = bind_some (f ts) _ x e in
      let c = bind_some (sign_at signs.CloseParen a.0.1) _ x a.2 in
      let one = reading.exact.sound ts a.0 a.1 in
      subst (λ (y : Expr × List Token). Takes (λ us. (b : Place) × (vs : List Token) × (us ≡ vs ++ sign b signs.CloseParen ∷ [])
      × Within G d y.0 vs) ts y.1) (some_is _ x c.2)
      (record {
        front = one.front ++ sign c.0.0 signs.CloseParen ∷ [];
        parts = glue one.front (sign c.0.0 signs.CloseParen ∷ []) c.0.1 one.parts (sign_is signs.CloseParen a.0.1 c.0 c.1);
        holds = (c.0.0, one.front, refl, one.holds);
      })

  pub closed_complete : (e : Expr) (b : Place) (us rest : List Token) → Within G d e us →
      closed_with f (us ++ sign b signs.CloseParen ∷ rest) ≡ Some (e, rest)
  unfolding closed_with
  closed_complete e b us rest h = rw (reading.exact.complete e us (sign b signs.CloseParen ∷ rest) (before_close b rest) h) refl

-- Statements that hold no other leave no place for an else.
use Rattle.std.proofs.Common.{◌≡◌, ℕ, ◌+◌, List, false, Option, Some, None}
use Rattle.std.proofs.Common.{refl, subst, inl, inr}
use Rattle.std.specs.Prelude.{◌&&◌, leb, codes}
use Rattle.mg_text.specs.declared.place.Place.{Place}
use Rattle.mg_read.proofs.Steps.{bind_some, some_is, none_is_not, chosen}
use Rattle.jv_tree.specs.declared.token.Sign.TheVariants as signs
use Rattle.jv_tree.specs.declared.token.Token.{Token}
use Rattle.jv_tree.specs.Source.{Expr, place_of}
use Rattle.jv_tree.specs.Source.{Stmt, Empty, Assign, Break, Continue, Return, Print, Eval}
use Rattle.jv_tree.specs.Depth.{depth}
use Rattle.jv_grammar.specs.Base.{sign_at, is_sign, word_at}
use Rattle.jv_tree.specs.Sugar.{changed, one_at, printed, is_call, takes_else}
use Rattle.jv_grammar.specs.Exprs.{post_at}
use Rattle.jv_grammar.specs.Stmts.{ended_at, place_ahead, jump_at, break_at}
use Rattle.jv_grammar.specs.Stmts.{continue_at, return_at, empty_at, compound_at, counter_at, is_counter, assigned, change_at}
use Rattle.jv_grammar.specs.Stmts.{target_at, assign_at, evaluated_by, evaluated, evaluation_at}

module _ (d : ℕ) where
  pub break_closed : (ts : List Token) (x : Stmt × List Token) → break_at ts ≡ Some x → takes_else x.0 ≡ false
  unfolding break_at
  break_closed ts x e =
      let a = bind_some (word_at (codes "break") ts) _ x e in
      let l = bind_some (jump_at a.0.1) _ x a.2 in
      subst (λ (y : Stmt × List Token). takes_else y.0 ≡ false) (some_is (Break a.0.0 l.0.0, l.0.1) x l.2) refl

  pub continue_closed : (ts : List Token) (x : Stmt × List Token) → continue_at ts ≡ Some x → takes_else x.0 ≡ false
  unfolding continue_at
  continue_closed ts x e =
      let a = bind_some (word_at (codes "continue") ts) _ x e in
      let l = bind_some (jump_at a.0.1) _ x a.2 in
      subst (λ (y : Stmt × List Token). takes_else y.0 ≡ false) (some_is (Continue a.0.0 l.0.0, l.0.1) x l.2) refl

  pub return_closed : (ts : List Token) (x : Stmt × List Token) → return_at d ts ≡ Some x → takes_else x.0 ≡ false
  unfolding return_at
  return_closed ts x e =
      let a = bind_some (word_at (codes "return") ts) _ x e in
      elim (chosen (is_sign signs.Semicolon a.0.1) _ _ (Some x) a.2) [
        | inl t ↦
            let c = bind_some (sign_at signs.Semicolon a.0.1) _ x t.1 in
            subst (λ (y : Stmt × List Token). takes_else y.0 ≡ false) (some_is (Return a.0.0 None, c.0.1) x c.2) refl
        | inr t ↦
            let v = bind_some (ended_at d a.0.1) _ x t.1 in
            subst (λ (y : Stmt × List Token). takes_else y.0 ≡ false) (some_is (Return a.0.0 (Some v.0.0), v.0.1) x v.2) refl
      ]

  pub empty_closed : (ts : List Token) (x : Stmt × List Token) → empty_at ts ≡ Some x → takes_else x.0 ≡ false
  unfolding empty_at
  empty_closed ts x e =
      let a = bind_some (sign_at signs.Semicolon ts) _ x e in
      subst (λ (y : Stmt × List Token). takes_else y.0 ≡ false) (some_is (Empty a.0.0, a.0.1) x a.2) refl

  pub assigned_closed : (p : Place) (t v : Expr) (ts : List Token) (x : Stmt × List Token) → assigned d p t v ts ≡ Some x →
      takes_else x.0 ≡ false
  assigned_closed p t v ts x e =
      elim (chosen (leb (depth t) d && leb (depth v) d) _ _ (Some x) e) [
        | inl h ↦ subst (λ (y : Stmt × List Token). takes_else y.0 ≡ false) (some_is (Assign p t v, ts) x h.1) refl
        | inr h ↦ absurd (none_is_not x h.1)
      ]

  pub change_closed : (t : Expr) (ts : List Token) (x : Stmt × List Token) → change_at d t ts ≡ Some x → takes_else x.0 ≡ false
  unfolding change_at
  change_closed t ts x e =
      elim (chosen (is_sign signs.Assign ts) _ _ (Some x) e) [
        | inl h ↦
            let a = bind_some (sign_at signs.Assign ts) _ x h.1 in
            let v = bind_some (ended_at d a.0.1) _ x a.2 in
            assigned_closed (place_of t) t v.0.0 v.0.1 x v.2
        | inr g ↦ elim (chosen (is_counter ts) _ _ (Some x) g.1) [
          | inl h ↦
              let o = bind_some (counter_at ts) _ x h.1 in
              let c = bind_some (sign_at signs.Semicolon o.0.1) _ x o.2 in
              assigned_closed (place_of t) t (changed o.0.0.1 t (one_at t)) c.0.1 x c.2
          | inr h ↦
              let o = bind_some (compound_at ts) _ x h.1 in
              let v = bind_some (ended_at d o.0.1) _ x o.2 in
              assigned_closed (place_of t) t (changed o.0.0 t v.0.0) v.0.1 x v.2
        ]
      ]

  pub assign_closed : (ts : List Token) (x : Stmt × List Token) → assign_at d ts ≡ Some x → takes_else x.0 ≡ false
  unfolding assign_at
  assign_closed ts x e =
      elim (chosen (is_counter ts) _ _ (Some x) e) [
        | inl h ↦
            let o = bind_some (counter_at ts) _ x h.1 in
            let t = bind_some (target_at o.0.1) _ x o.2 in
            let c = bind_some (sign_at signs.Semicolon t.0.1) _ x t.2 in
            assigned_closed o.0.0.0 t.0.0 (changed o.0.0.1 t.0.0 (one_at t.0.0)) c.0.1 x c.2
        | inr h ↦ let t = bind_some (target_at ts) _ x h.1 in change_closed t.0.0 t.0.1 x t.2
      ]

  pub evaluated_closed : (p : Place) (c : Expr) (o : Option Expr) (s : Stmt) → evaluated_by d p c o ≡ Some s → takes_else s ≡ false
  evaluated_closed p c None s e =
      elim (chosen (is_call c && leb (depth c) d) _ _ (Some s) e) [
        | inl h ↦ subst (λ (z : Stmt). takes_else z ≡ false) (some_is (Eval p c) s h.1) refl
        | inr h ↦ absurd (none_is_not s h.1)
      ]
  evaluated_closed p c (Some v) s e =
      elim (chosen (leb (depth v) d) _ _ (Some s) e) [
        | inl h ↦ subst (λ (z : Stmt). takes_else z ≡ false) (some_is (Print p v) s h.1) refl
        | inr h ↦ absurd (none_is_not s h.1)
      ]

  pub evaluation_closed : (ts : List Token) (x : Stmt × List Token) → evaluation_at d ts ≡ Some x → takes_else x.0 ≡ false
  unfolding evaluation_at
  evaluation_closed ts x e =
      let p = bind_some (place_ahead ts) _ x e in
      let c = bind_some (post_at 400 (d + 2) ts) _ x p.2 in
      let a = bind_some (sign_at signs.Semicolon c.0.1) _ x c.2 in
      let s = bind_some (evaluated d p.0 c.0.0) _ x a.2 in
      subst (λ (y : Stmt × List Token). takes_else y.0 ≡ false) (some_is (s.0, a.0.1) x s.2)
      (evaluated_closed p.0 c.0.0 (printed c.0.0) s.0 s.1)

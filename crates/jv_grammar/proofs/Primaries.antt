-- Primary expressions, and what "." appends to them, are read exactly.
use Rattle.std.proofs.Common.{◌≡◌, ℕ, zero, suc, ◌-◌, ◌<◌, ◌≤◌, List, [], ◌∷◌, ◌++◌, true, false, eqb, Some, refl, sym, ap, subst}
use Rattle.std.proofs.Common.{append_assoc, arith, inl, inr}
use Rattle.std.specs.Prelude.{leb, codes}
use Rattle.std.specs.Str.{bytes_eq}
use Rattle.std.proofs.lemmas.Bool.{leb-true, le-leb}
use Rattle.std.proofs.lemmas.Slice.Eq.{bytes_eq-Decides}
use lib.Dec.{eqb-suc-zero}
use Rattle.mg_text.specs.Call.{Name}
use Rattle.mg_text.specs.declared.place.Place.{Place}
use Rattle.mg_read.proofs.Steps.{bind_some, some_is, none_is_not, chosen, Takes}
use Rattle.mg_read.proofs.Lists.{IsExact}
use Rattle.jv_tree.specs.declared.token.Sign.{Sign}
use Rattle.jv_tree.specs.declared.token.Sign.TheVariants as signs
use Rattle.jv_tree.specs.declared.token.TokenKind.{TokenKind}
use Rattle.jv_tree.specs.declared.token.TokenKind.TheVariants as kinds
use Rattle.jv_tree.specs.declared.token.Token.{Token}
use Rattle.jv_tree.specs.Source.{Expr, Int, Truth, Text, Null, This, Variable, Member, Neg, Not, Binary, Call, MethodCall, New}
use Rattle.jv_tree.specs.Depth.{depth}
use Rattle.jv_tree.specs.Tokens.{word, number, quoted, sign, is_name, IsName}
use Rattle.jv_tree.specs.Expressions.{Language, AreArguments, IsSimple, IsPrimary}
use Rattle.jv_tree.specs.View.{exprs_of}
use Rattle.jv_grammar.specs.Base.{same_sign, sign_at, is_sign, name_at, fits}
use Rattle.jv_grammar.specs.Exprs.{Reads, arguments_with, negative_in, negative_at, new_with, literal, named_with, word_with, signed_with}
use Rattle.jv_grammar.specs.Exprs.{primary_in, first_with, primary_with}
use Rattle.jv_grammar.proofs.Steps.{after, same_is, sign_is, name_is, fits_is, fits_again}
use Rattle.jv_grammar.proofs.Args.{Within, list_of, exprs-list_of, Reading, arguments_sound, arguments_complete, closed_sound}
use Rattle.jv_grammar.proofs.Args.{closed_complete}

-- what may follow a primary expression
abbrev pub Unopened : List Token → Type 0
Unopened ts = is_sign signs.OpenParen ts ≡ false

-- these words are no names
pub no_name_true : is_name (codes "true") ≡ false
unfolding is_name
no_name_true = refl

pub no_name_false : is_name (codes "false") ≡ false
unfolding is_name
no_name_false = refl

pub no_name_null : is_name (codes "null") ≡ false
unfolding is_name
no_name_null = refl

pub no_name_this : is_name (codes "this") ≡ false
unfolding is_name
no_name_this = refl

pub no_name_new : is_name (codes "new") ≡ false
unfolding is_name
no_name_new = refl

pub depth_pos : (e : Expr) → 0 < depth e
depth_pos (Int p z) = omega arith
depth_pos (Truth p b) = omega arith
depth_pos (Text p t) = omega arith
depth_pos (Null p) = omega arith
depth_pos (This p) = omega arith
depth_pos (Variable p n) = omega arith
depth_pos (Member p e n) = omega arith
depth_pos (Neg p e) = omega arith
depth_pos (Not p e) = omega arith
depth_pos (Binary p o l r) = omega arith
depth_pos (Call p n args) = omega arith
depth_pos (MethodCall p e n args) = omega arith
depth_pos (New p n) = omega arith

no_zero : (d : ℕ) → 0 < d → eqb d 0 ≡ false
no_zero zero h = absurd (omega arith)
no_zero (suc d) h = eqb-suc-zero d

some_depth : (d : ℕ) → eqb d 0 ≡ false → 0 < d
some_depth zero h = absurd cc
some_depth (suc d) h = omega arith

-- what a literal is
abbrev LiteralOf : ℕ → Language → Place → Name → Expr → Type 0
LiteralOf m inner p w e = IsSimple m inner e (word p w ∷ []) × (depth e ≤ 1)

literal_is : (m : ℕ) (inner : Language) (p : Place) (w : Name) (e : Expr) → literal p w ≡ Some e → LiteralOf m inner p w e
unfolding literal
literal_is m inner p w e h =
    elim (chosen (bytes_eq w (codes "true")) _ _ (Some e) h) [
      | inl t ↦ subst (LiteralOf m inner p w) (some_is _ e t.1)
          ((ap (λ (v : Name). word p v ∷ []) ((bytes_eq-Decides w (codes "true")).0 t.0), omega arith))
      | inr t ↦ elim (chosen (bytes_eq w (codes "false")) _ _ (Some e) t.1) [
        | inl t ↦ subst (LiteralOf m inner p w) (some_is _ e t.1)
            ((ap (λ (v : Name). word p v ∷ []) ((bytes_eq-Decides w (codes "false")).0 t.0), omega arith))
        | inr t ↦ elim (chosen (bytes_eq w (codes "null")) _ _ (Some e) t.1) [
          | inl t ↦ subst (LiteralOf m inner p w) (some_is _ e t.1)
              ((ap (λ (v : Name). word p v ∷ []) ((bytes_eq-Decides w (codes "null")).0 t.0), omega arith))
          | inr t ↦ elim (chosen (bytes_eq w (codes "this")) _ _ (Some e) t.1) [
            | inl t ↦ subst (LiteralOf m inner p w) (some_is _ e t.1)
                ((ap (λ (v : Name). word p v ∷ []) ((bytes_eq-Decides w (codes "this")).0 t.0), omega arith))
            | inr t ↦ absurd (none_is_not e t.1)
          ]
        ]
      ]
    ]

module _ (m : ℕ) (inner : ℕ → Reads) (G : Language) (reading : (d : ℕ) → Reading (inner d) (Within G d)) where
  -- a primary expression, at most so deep
  abbrev pub Primary : ℕ → Language
  Primary d e us = IsPrimary m G e us × (depth e ≤ d)

  new_sound : (k : ℕ) (p : Place) (ts : List Token) (x : Expr × List Token) → k ≤ m → new_with k p ts ≡ Some x
      → Takes (λ us. IsSimple m G x.0 (word p (codes "new") ∷ us) × (depth x.0 ≤ 1)) ts x.1
  unfolding new_with
  new_sound zero p ts x le e = absurd (none_is_not x e)
  new_sound (suc k) p ts x le e =
      let n = bind_some (name_at ts) _ x e in
      let a = bind_some (sign_at signs.OpenParen n.0.1) _ x n.2 in
      let b = bind_some (sign_at signs.CloseParen a.0.1) _ x a.2 in
      let name = name_is ts n.0 n.1 in
      subst (λ (y : Expr × List Token). Takes (λ us. IsSimple m G y.0 (word p (codes "new") ∷ us) × (depth y.0 ≤ 1)) ts y.1)
      (some_is _ x b.2)
      (record {
        front = word n.0.0.0 n.0.0.1 ∷ sign a.0.0 signs.OpenParen ∷ sign b.0.0 signs.CloseParen ∷ [];
        parts = after name.0 (after (sign_is signs.OpenParen n.0.1 a.0 a.1) (sign_is signs.CloseParen a.0.1 b.0 b.1));
        holds = ((omega arith, name.1, n.0.0.0, a.0.0, b.0.0, refl), omega arith);
      })

  negative_sound : (p : Place) (ts : List Token) (x : Expr × List Token) → negative_at p ts ≡ Some x
      → Takes (λ us. IsSimple m G x.0 (sign p signs.Minus ∷ us) × (depth x.0 ≤ 1)) ts x.1
  negative_sound p [] x e = absurd (none_is_not x e)
  negative_sound p (t ∷ ts) x e = by_kind t.place t.kind e where
    by_kind : (q : Place) (k : TokenKind) → negative_in p k ts ≡ Some x →
        Takes (λ us. IsSimple m G x.0 (sign p signs.Minus ∷ us) × (depth x.0 ≤ 1)) (record { kind = k; place = q } ∷ ts) x.1
    by_kind q (kinds.Word w) e = absurd (none_is_not x e)
    by_kind q (kinds.Number n) e =
        elim (chosen (leb n 2147483648) _ _ (Some x) e) [
          | inl t ↦
              subst (λ (y : Expr × List Token). Takes (λ us. IsSimple m G y.0 (sign p signs.Minus ∷ us) × (depth y.0 ≤ 1)) (number q n ∷ ts)
              y.1) (some_is _ x t.1)
              (record { front = number q n ∷ []; parts = refl; holds = (inr (n, q, leb-true n 2147483648 t.0, refl, refl), omega arith) })
          | inr t ↦ absurd (none_is_not x t.1)
        ]
    by_kind q (kinds.Text t) e = absurd (none_is_not x e)
    by_kind q (kinds.Sign s) e = absurd (none_is_not x e)

  named_sound : (d : ℕ) (p : Place) (n : Name) (ts : List Token) (x : Expr × List Token) → 0 < d → IsName n →
      named_with m inner d p n ts ≡ Some x
      → Takes (λ us. IsSimple m G x.0 (word p n ∷ us) × (depth x.0 ≤ d)) ts x.1
  unfolding named_with
  named_sound d p n ts x some name e =
      elim (chosen (is_sign signs.OpenParen ts) _ _ (Some x) e) [
        | inl t ↦
            let xs = bind_some (arguments_with m (inner (d - 1)) ts) _ x t.1 in
            let f = fits_is d (Call p n (exprs_of xs.0.0)) xs.0.1 x xs.2 in
            let one = arguments_sound (inner (d - 1)) G (d - 1) (reading (d - 1)) m ts xs.0 xs.1 in
            subst (λ (y : Expr × List Token). Takes (λ us. IsSimple m G y.0 (word p n ∷ us) × (depth y.0 ≤ d)) ts y.1) f.0
            (record { front = one.front; parts = one.parts; holds = ((name, one.front, refl, one.holds.0), f.1) })
        | inr t ↦
            subst (λ (y : Expr × List Token). Takes (λ us. IsSimple m G y.0 (word p n ∷ us) × (depth y.0 ≤ d)) ts y.1)
            (some_is (Variable p n, ts) x t.1)
            (record { front = []; parts = refl; holds = ((name, refl), omega arith) })
      ]

  word_sound : (d : ℕ) (p : Place) (w : Name) (ts : List Token) (x : Expr × List Token) → 0 < d → word_with m inner d p w ts ≡ Some x
      → Takes (λ us. IsSimple m G x.0 (word p w ∷ us) × (depth x.0 ≤ d)) ts x.1
  unfolding word_with
  word_sound d p w ts x some e =
      elim (chosen (is_name w) _ _ (Some x) e) [
        | inl t ↦ named_sound d p w ts x some t.0 t.1
        | inr f ↦ elim (chosen (bytes_eq w (codes "new")) _ _ (Some x) f.1) [
          | inl t ↦
              let one = new_sound m p ts x (omega arith) t.1 in
              let same : w ≡ codes "new" = (bytes_eq-Decides w (codes "new")).0 t.0 in
              record {
                front = one.front;
                parts = one.parts;
                holds =
                    (subst (λ (v : Name). IsSimple m G x.0 (word p v ∷ one.front)) (sym same) one.holds.0, omega (arith, one.holds.1));
              }
          | inr f ↦
              let l = bind_some (literal p w) _ x f.1 in
              let h = literal_is m G p w l.0 l.1 in
              subst (λ (y : Expr × List Token). Takes (λ us. IsSimple m G y.0 (word p w ∷ us) × (depth y.0 ≤ d)) ts y.1)
              (some_is (l.0, ts) x l.2)
              (record { front = []; parts = refl; holds = (h.0, omega (arith, h.1)) })
        ]
      ]

  signed_sound : (d : ℕ) (p : Place) (s : Sign) (ts : List Token) (x : Expr × List Token) → 0 < d → signed_with m inner d p s ts ≡ Some x →
      Takes (λ us. IsPrimary m G x.0 (sign p s ∷ us) × (depth x.0 ≤ d)) ts x.1
  unfolding signed_with
  signed_sound d p s ts x some e =
      elim (chosen (same_sign s signs.OpenParen) _ _ (Some x) e) [
        | inl t ↦
            let one = closed_sound (inner d) G d (reading d) ts x t.1 in
            let same = same_is s signs.OpenParen t.0 in
            let (b, vs, parts, (spelled, le)) = one.holds in
            record { front = one.front; parts = one.parts; holds = (inr (p, b, vs, (λ i. sign p (same i) ∷ parts i), spelled), le) }
        | inr f ↦ elim (chosen (same_sign s signs.Minus) _ _ (Some x) f.1) [
          | inl t ↦
              let one = negative_sound p ts x t.1 in
              let same = same_is s signs.Minus t.0 in
              record {
                front = one.front;
                parts = one.parts;
                holds = (
                  inl (subst (λ (v : Sign). IsSimple m G x.0 (sign p v ∷ one.front)) (sym same) one.holds.0),
                  omega (arith, one.holds.1),
                );
              }
          | inr f ↦ absurd (none_is_not x f.1)
        ]
      ]

  -- a token in front of what was taken
  taken : (d : ℕ) (t : Token) (ts : List Token) (x : Expr × List Token) → Takes (λ us. IsPrimary m G x.0 (t ∷ us) × (depth x.0 ≤ d)) ts x.1
      → Takes (Primary d x.0) (t ∷ ts) x.1
  taken d t ts x h = record { front = t ∷ h.front; parts = ap (λ (r : List Token). t ∷ r) h.parts; holds = h.holds }

  first_sound : (d : ℕ) (ts : List Token) (x : Expr × List Token) → 0 < d → first_with m inner d ts ≡ Some x → Takes (Primary d x.0) ts x.1
  first_sound d [] x some e = absurd (none_is_not x e)
  first_sound d (t ∷ ts) x some e = by_kind t.place t.kind e where
    by_kind : (p : Place) (k : TokenKind) → primary_in m inner d p k ts ≡ Some x →
        Takes (Primary d x.0) (record { kind = k; place = p } ∷ ts) x.1
    by_kind p (kinds.Word w) e =
        let one = word_sound d p w ts x some e in
        taken d (word p w) ts x (record { front = one.front; parts = one.parts; holds = (inl one.holds.0, one.holds.1) })
    by_kind p (kinds.Number n) e =
        elim (chosen (leb n 2147483647) _ _ (Some x) e) [
          | inl t ↦
              subst (λ (y : Expr × List Token). Takes (Primary d y.0) (number p n ∷ ts) y.1) (some_is _ x t.1)
              (record {
                front = number p n ∷ [];
                parts = refl;
                holds = (inl (inl (n, leb-true n 2147483647 t.0, refl, refl)), omega arith);
              })
          | inr t ↦ absurd (none_is_not x t.1)
        ]
    by_kind p (kinds.Text t) e =
        subst (λ (y : Expr × List Token). Takes (Primary d y.0) (quoted p t ∷ ts) y.1) (some_is _ x e)
        (record { front = quoted p t ∷ []; parts = refl; holds = (inl refl, omega arith) })
    by_kind p (kinds.Sign s) e = taken d (sign p s) ts x (signed_sound d p s ts x some e)

  primary_sound : (d : ℕ) (ts : List Token) (x : Expr × List Token) → primary_with m inner d ts ≡ Some x → Takes (Primary d x.0) ts x.1
  unfolding primary_with
  primary_sound d ts x e =
      elim (chosen (eqb d 0) _ _ (Some x) e) [
        | inl t ↦ absurd (none_is_not x t.1)
        | inr f ↦ first_sound d ts x (some_depth d f.0) f.1
      ]

  simple_complete : (d : ℕ) (e : Expr) (ts rest : List Token) → Unopened rest → IsSimple m G e ts → depth e ≤ d →
      first_with m inner d (ts ++ rest) ≡ Some (e, rest)
  unfolding word_with named_with signed_with literal new_with
  simple_complete d (Int p z) ts rest fine (inl (n, less, value, parts)) le = rw (parts, le-leb n 2147483647 less, value) refl
  simple_complete d (Int p z) ts rest fine (inr (n, q, less, value, parts)) le = rw (parts, le-leb n 2147483648 less, value) refl
  simple_complete d (Truth p true) ts rest fine parts le = rw (parts, no_name_true) refl
  simple_complete d (Truth p false) ts rest fine parts le = rw (parts, no_name_false) refl
  simple_complete d (Text p t) ts rest fine parts le = rw parts refl
  simple_complete d (Null p) ts rest fine parts le = rw (parts, no_name_null) refl
  simple_complete d (This p) ts rest fine parts le = rw (parts, no_name_this) refl
  simple_complete d (Variable p n) ts rest fine (name, parts) le = rw (parts, name, fine) refl
  simple_complete d (Call p n args) ts rest fine (name, us, parts, h) le =
      let opens : is_sign signs.OpenParen (us ++ rest) ≡ true = opened us h in
      let reads = arguments_complete (inner (d - 1)) G (d - 1) (reading (d - 1)) m args us rest h (omega arith) in
      let whole : fits d (Call p n (exprs_of (list_of args))) rest ≡ Some (Call p n args, rest) =
      rw exprs-list_of (fits_again d (Call p n args) rest le) in
      rw (parts, name, opens, reads) whole where
        opened : (us : List Token) → AreArguments m G args us → is_sign signs.OpenParen (us ++ rest) ≡ true
        opened us (less, a, b, vs, parts, h) = rw parts refl
  simple_complete d (New p n) ts rest fine (less, name, a, b, c, parts) le = rw (parts, no_name_new, made m less) refl where
    made : (k : ℕ) → 0 < k → new_with k p (word a n ∷ sign b signs.OpenParen ∷ sign c signs.CloseParen ∷ rest) ≡ Some (New p n, rest)
    made zero h = absurd (omega arith)
    made (suc k) h = rw name refl
  simple_complete d (Member p e n) ts rest fine h le = absurd h
  simple_complete d (Neg p e) ts rest fine h le = absurd h
  simple_complete d (Not p e) ts rest fine h le = absurd h
  simple_complete d (Binary p o l r) ts rest fine h le = absurd h
  simple_complete d (MethodCall p e n args) ts rest fine h le = absurd h

  first_complete : (d : ℕ) (e : Expr) (ts rest : List Token) → Unopened rest → IsPrimary m G e ts → depth e ≤ d →
      first_with m inner d (ts ++ rest) ≡ Some (e, rest)
  unfolding signed_with
  first_complete d e ts rest fine (inl h) le = simple_complete d e ts rest fine h le
  first_complete d e ts rest fine (inr (a, b, us, parts, h)) le =
      rw (parts, append_assoc, closed_complete (inner d) G d (reading d) e b us rest (h, le)) refl

  pub primary_exact : (d : ℕ) → IsExact (primary_with m inner d) (Primary d) Unopened
  unfolding primary_with
  primary_exact d = record { sound = primary_sound d; complete = complete } where
    complete : (e : Expr) (ts rest : List Token) → Unopened rest → Primary d e ts → primary_with m inner d (ts ++ rest) ≡ Some (e, rest)
    complete e ts rest fine (h, le) = let some : eqb d 0 ≡ false = no_zero d (omega (arith, depth_pos e)) in rw some
        (first_complete d e ts rest fine h le)

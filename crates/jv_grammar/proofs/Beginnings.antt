-- How expressions begin.
use Rattle.std.proofs.Common.{◌≡◌, ℕ, zero, suc, ◌<◌, List, [], ◌∷◌, ◌++◌, length, Bool, true, false, refl, sym, ap, ◌∙◌, subst}
use Rattle.std.proofs.Common.{append_assoc, arith, inl, inr}
use Rattle.std.specs.Prelude.{codes, if◌then◌else◌}
use Rattle.std.specs.Str.{bytes_eq}
use Rattle.std.proofs.Common.{true≢false}
use Rattle.std.proofs.lemmas.Slice.Eq.{bytes_eq-Decides}
use Rattle.mg_text.specs.Call.{Name}
use Rattle.jv_tree.specs.declared.token.Sign.{Sign}
use Rattle.jv_tree.specs.declared.token.Sign.TheVariants as signs
use Rattle.jv_tree.specs.declared.token.TokenKind.{TokenKind}
use Rattle.jv_tree.specs.declared.token.TokenKind.TheVariants as kinds
use Rattle.jv_tree.specs.declared.token.Token.{Token}
use Rattle.jv_tree.specs.Source.{Expr, Int, Truth, Text, Null, This, Variable, Member, Neg, Not, Binary, Call, MethodCall, New}
use Rattle.jv_tree.specs.Tokens.{word, number, quoted, sign, is_name, is_among}
use Rattle.jv_tree.specs.Expressions.{Language, IsSimple, IsPrimary, IsPost, IsUnary, IsChain, IsBinary, sign_of}
use Rattle.jv_grammar.specs.Base.{same_sign, is_sign_kind, is_sign, is_word_kind, is_word}
use Rattle.jv_grammar.specs.Exprs.{is_negation}
use Rattle.jv_grammar.proofs.Steps.{same_is}
use Rattle.jv_grammar.proofs.Primaries.{no_name_true, no_name_false, no_name_null, no_name_this, no_name_new}

-- whether an expression may begin so
abbrev pub begins_sign : Sign → Bool
begins_sign s = if same_sign s signs.OpenParen then true else (if same_sign s signs.Minus then true else same_sign s signs.Bang)

abbrev pub begins_word : Name → Bool
begins_word w = if is_name w then true else is_among (codes "true" ∷ codes "false" ∷ codes "null" ∷ codes "this" ∷ codes "new" ∷ []) w

abbrev pub begins_kind : TokenKind → Bool
begins_kind (kinds.Word w) = begins_word w
begins_kind (kinds.Number n) = true
begins_kind (kinds.Text t) = true
begins_kind (kinds.Sign s) = begins_sign s

-- the first token of these may begin an expression
pub record Begins (us : List Token) : Type 0 where
  pub token : Token
  pub others : List Token
  pub parts : us ≡ token ∷ others
  pub kind : begins_kind token.kind ≡ true

pub begins_more : (us vs : List Token) → Begins us → Begins (us ++ vs)
begins_more us vs b = record { token = b.token; others = b.others ++ vs; parts = ap (λ (r : List Token). r ++ vs) b.parts; kind = b.kind }

pub begins_some : (us : List Token) → Begins us → 0 < length us
begins_some us b = omega (arith, ap length b.parts)

-- a sign that begins no expression does not come next
pub begins_no_sign : (s : Sign) (us : List Token) → begins_sign s ≡ false → Begins us → is_sign s us ≡ false
begins_no_sign s us free b = rw b.parts (by_kind b.token.kind b.kind) where
  by_sign : (k : Sign) → begins_sign k ≡ true → (x : Bool) → same_sign k s ≡ x → x ≡ false
  by_sign k h false e = refl
  by_sign k h true e = absurd (true≢false (sym h ∙ ap begins_sign (same_is k s e) ∙ free))

  by_kind : (k : TokenKind) → begins_kind k ≡ true → is_sign_kind s k ≡ false
  by_kind (kinds.Word w) h = refl
  by_kind (kinds.Number n) h = refl
  by_kind (kinds.Text t) h = refl
  by_kind (kinds.Sign k) h = by_sign k h (same_sign k s) refl

-- a word that begins no expression does not come next
pub begins_no_word : (w : Name) (us : List Token) → begins_word w ≡ false → Begins us → is_word w us ≡ false
begins_no_word w us free b = rw b.parts (by_kind b.token.kind b.kind) where
  by_word : (v : Name) → begins_word v ≡ true → (x : Bool) → bytes_eq v w ≡ x → x ≡ false
  by_word v h false e = refl
  by_word v h true e = absurd (true≢false (sym h ∙ ap begins_word ((bytes_eq-Decides v w).0 e) ∙ free))

  by_kind : (k : TokenKind) → begins_kind k ≡ true → is_word_kind w k ≡ false
  by_kind (kinds.Word v) h = by_word v h (bytes_eq v w) refl
  by_kind (kinds.Number n) h = refl
  by_kind (kinds.Text t) h = refl
  by_kind (kinds.Sign k) h = refl

module _ (m : ℕ) (G : Language) where
  simple_begins : (e : Expr) (us : List Token) → IsSimple m G e us → Begins us
  simple_begins (Int p z) us (inl (n, less, value, parts)) = record { token = number p n; others = []; parts = parts; kind = refl }
  simple_begins (Int p z) us (inr (n, q, less, value, parts)) = record {
    token = sign p signs.Minus;
    others = number q n ∷ [];
    parts =
        parts;
    kind = refl;
  }
  simple_begins (Truth p true) us parts = record { token = word p (codes "true"); others = []; parts = parts; kind = rw no_name_true refl }
  simple_begins (Truth p false) us parts = record {
    token = word p (codes "false");
    others = [];
    parts = parts;
    kind =
        rw no_name_false refl;
  }
  simple_begins (Text p t) us parts = record { token = quoted p t; others = []; parts = parts; kind = refl }
  simple_begins (Null p) us parts = record { token = word p (codes "null"); others = []; parts = parts; kind = rw no_name_null refl }
  simple_begins (This p) us parts = record { token = word p (codes "this"); others = []; parts = parts; kind = rw no_name_this refl }
  simple_begins (Variable p n) us (name, parts) = record { token = word p n; others = []; parts = parts; kind = rw name refl }
  simple_begins (Call p n args) us (name, vs, parts, h) = record { token = word p n; others = vs; parts = parts; kind = rw name refl }
  simple_begins (New p n) us (less, name, a, b, c, parts) = record {
    token = word p (codes "new");
    others = _;
    parts = parts;
    kind =
        rw no_name_new refl;
  }
  simple_begins (Member p e n) us h = absurd h
  simple_begins (Neg p e) us h = absurd h
  simple_begins (Not p e) us h = absurd h
  simple_begins (Binary p o l r) us h = absurd h
  simple_begins (MethodCall p e n args) us h = absurd h

  primary_begins : (e : Expr) (us : List Token) → IsPrimary m G e us → Begins us
  primary_begins e us (inl h) = simple_begins e us h
  primary_begins e us (inr (a, b, vs, parts, h)) = record {
    token = sign a signs.OpenParen;
    others = vs ++ sign b signs.CloseParen ∷ [];
    parts = parts;
    kind = refl;
  }

  pub post_begins : (e : Expr) (us : List Token) → IsPost m G e us → Begins us
  post_begins (Int p z) us h = primary_begins (Int p z) us h
  post_begins (Truth p b) us h = primary_begins (Truth p b) us h
  post_begins (Text p t) us h = primary_begins (Text p t) us h
  post_begins (Null p) us h = primary_begins (Null p) us h
  post_begins (This p) us h = primary_begins (This p) us h
  post_begins (Variable p n) us h = primary_begins (Variable p n) us h
  post_begins (Member p e n) us (inl h) = primary_begins (Member p e n) us h
  post_begins (Member p e n) us (inr (name, place, a, b, vs, parts, h)) =
      subst Begins (sym parts) (begins_more vs (sign a signs.Dot ∷ word b n ∷ []) (post_begins e vs h))
  post_begins (Neg p e) us h = primary_begins (Neg p e) us h
  post_begins (Not p e) us h = primary_begins (Not p e) us h
  post_begins (Binary p o l r) us h = primary_begins (Binary p o l r) us h
  post_begins (Call p n args) us h = primary_begins (Call p n args) us h
  post_begins (MethodCall p e n args) us (inl h) = primary_begins (MethodCall p e n args) us h
  post_begins (MethodCall p e n args) us (inr (name, place, a, b, vs, ws, parts, h, given)) =
      subst Begins (sym parts) (begins_more vs (sign a signs.Dot ∷ word b n ∷ ws) (post_begins e vs h))
  post_begins (New p n) us h = primary_begins (New p n) us h

  pub unary_begins : (e : Expr) (us : List Token) → IsUnary m G e us → Begins us
  unary_begins (Int p z) us h = post_begins (Int p z) us h
  unary_begins (Truth p b) us h = post_begins (Truth p b) us h
  unary_begins (Text p t) us h = post_begins (Text p t) us h
  unary_begins (Null p) us h = post_begins (Null p) us h
  unary_begins (This p) us h = post_begins (This p) us h
  unary_begins (Variable p n) us h = post_begins (Variable p n) us h
  unary_begins (Member p e n) us h = post_begins (Member p e n) us h
  unary_begins (Neg p e) us (inl h) = post_begins (Neg p e) us h
  unary_begins (Neg p e) us (inr (vs, parts, free, h)) = record { token = sign p signs.Minus; others = vs; parts = parts; kind = refl }
  unary_begins (Not p e) us (inl h) = post_begins (Not p e) us h
  unary_begins (Not p e) us (inr (vs, parts, h)) = record { token = sign p signs.Bang; others = vs; parts = parts; kind = refl }
  unary_begins (Binary p o l r) us h = post_begins (Binary p o l r) us h
  unary_begins (Call p n args) us h = post_begins (Call p n args) us h
  unary_begins (MethodCall p e n args) us h = post_begins (MethodCall p e n args) us h
  unary_begins (New p n) us h = post_begins (New p n) us h

  chain_begins : (k : ℕ) (part : Language) → ((e : Expr) (us : List Token) → part e us → Begins us) → (e : Expr) (us : List Token) →
      IsChain k part e us → Begins us
  chain_begins k part begins (Int p z) us h = begins (Int p z) us h
  chain_begins k part begins (Truth p b) us h = begins (Truth p b) us h
  chain_begins k part begins (Text p t) us h = begins (Text p t) us h
  chain_begins k part begins (Null p) us h = begins (Null p) us h
  chain_begins k part begins (This p) us h = begins (This p) us h
  chain_begins k part begins (Variable p n) us h = begins (Variable p n) us h
  chain_begins k part begins (Member p e n) us h = begins (Member p e n) us h
  chain_begins k part begins (Neg p e) us h = begins (Neg p e) us h
  chain_begins k part begins (Not p e) us h = begins (Not p e) us h
  chain_begins k part begins (Binary p o l r) us (inl h) = begins (Binary p o l r) us h
  chain_begins k part begins (Binary p o l r) us (inr (loose, place, a, vs, ws, parts, left, right)) =
      subst Begins (sym parts) (begins_more vs (sign a (sign_of o) ∷ ws) (chain_begins k part begins l vs left))
  chain_begins k part begins (Call p n args) us h = begins (Call p n args) us h
  chain_begins k part begins (MethodCall p e n args) us h = begins (MethodCall p e n args) us h
  chain_begins k part begins (New p n) us h = begins (New p n) us h

  pub binary_begins : (k : ℕ) (e : Expr) (us : List Token) → IsBinary m G k e us → Begins us
  binary_begins zero e us h = unary_begins e us h
  binary_begins (suc k) e us h = chain_begins k (IsBinary m G k) (binary_begins k) e us h

  -- Nothing that "-" or "!" makes larger begins so: a "-" in front belongs to a number.
  abbrev pub Plain : List Token → Type 0
  Plain ts = (is_negation ts ≡ false) × (is_sign signs.Bang ts ≡ false)

  simple_plain : (e : Expr) (us rest : List Token) → IsSimple m G e us → Plain (us ++ rest)
  simple_plain (Int p z) us rest (inl (n, less, value, parts)) = rw parts (refl, refl)
  simple_plain (Int p z) us rest (inr (n, q, less, value, parts)) = rw parts (refl, refl)
  simple_plain (Truth p b) us rest parts = rw parts (refl, refl)
  simple_plain (Text p t) us rest parts = rw parts (refl, refl)
  simple_plain (Null p) us rest parts = rw parts (refl, refl)
  simple_plain (This p) us rest parts = rw parts (refl, refl)
  simple_plain (Variable p n) us rest (name, parts) = rw parts (refl, refl)
  simple_plain (Call p n args) us rest (name, vs, parts, h) = rw parts (refl, refl)
  simple_plain (New p n) us rest (less, name, a, b, c, parts) = rw parts (refl, refl)
  simple_plain (Member p e n) us rest h = absurd h
  simple_plain (Neg p e) us rest h = absurd h
  simple_plain (Not p e) us rest h = absurd h
  simple_plain (Binary p o l r) us rest h = absurd h
  simple_plain (MethodCall p e n args) us rest h = absurd h

  primary_plain : (e : Expr) (us rest : List Token) → IsPrimary m G e us → Plain (us ++ rest)
  primary_plain e us rest (inl h) = simple_plain e us rest h
  primary_plain e us rest (inr (a, b, vs, parts, h)) = rw parts (refl, refl)

  pub post_plain : (e : Expr) (us rest : List Token) → IsPost m G e us → Plain (us ++ rest)
  post_plain (Int p z) us rest h = primary_plain (Int p z) us rest h
  post_plain (Truth p b) us rest h = primary_plain (Truth p b) us rest h
  post_plain (Text p t) us rest h = primary_plain (Text p t) us rest h
  post_plain (Null p) us rest h = primary_plain (Null p) us rest h
  post_plain (This p) us rest h = primary_plain (This p) us rest h
  post_plain (Variable p n) us rest h = primary_plain (Variable p n) us rest h
  post_plain (Member p e n) us rest (inl h) = primary_plain (Member p e n) us rest h
  post_plain (Member p e n) us rest (inr (name, place, a, b, vs, parts, h)) =
      rw (parts, append_assoc) (post_plain e vs (sign a signs.Dot ∷ word b n ∷ rest) h)
  post_plain (Neg p e) us rest h = primary_plain (Neg p e) us rest h
  post_plain (Not p e) us rest h = primary_plain (Not p e) us rest h
  post_plain (Binary p o l r) us rest h = primary_plain (Binary p o l r) us rest h
  post_plain (Call p n args) us rest h = primary_plain (Call p n args) us rest h
  post_plain (MethodCall p e n args) us rest (inl h) = primary_plain (MethodCall p e n args) us rest h
  post_plain (MethodCall p e n args) us rest (inr (name, place, a, b, vs, ws, parts, h, given)) =
      rw (parts, append_assoc) (post_plain e vs (sign a signs.Dot ∷ word b n ∷ (ws ++ rest)) h)
  post_plain (New p n) us rest h = primary_plain (New p n) us rest h

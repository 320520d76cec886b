-- What an expression keeps that some bytes spell: names are words, texts are UTF-8, numbers are in range.
use Rattle.std.proofs.Common.{ℕ, zero, suc, inl, inr, List, [], ◌∷◌, ◌++◌, sym, subst}
use Rattle.std.specs.Str.{IsUtf8}
use Rattle.mg_text.specs.Call.{Name}
use Rattle.mg_text.specs.Places.{start_of, place_after}
use Rattle.mg_text.specs.declared.place.Place.{Place}
use Rattle.mg_read.specs.Passes.{AllPasses, StartsWith}
use Rattle.jv_tree.specs.declared.token.Sign.TheVariants as signs
use Rattle.jv_tree.specs.declared.token.TokenKind.{TokenKind}
use Rattle.jv_tree.specs.declared.token.TokenKind.TheVariants as kinds
use Rattle.jv_tree.specs.declared.token.Token.{Token}
use Rattle.jv_tree.specs.Source.{Expr, Int, Truth, Text, Null, This, Variable, Member, Neg, Not, Binary, Call, MethodCall, New, Exprs}
use Rattle.jv_tree.specs.Source.{NoExpr, Argument}
use Rattle.jv_tree.specs.Tokens as tokens
use Rattle.jv_tree.specs.Tokens.{IsName}
use Rattle.jv_tree.specs.Expressions.{Language, IsInParens, AreMoreArgs, AreArgs, AreArguments, sign_of, IsChain, IsSimple, IsPrimary}
use Rattle.jv_tree.specs.Expressions.{IsPost, IsUnary, IsBinary, IsInner, IsExpr}
use Rattle.jv_lex.specs.Letters.{is_word_start, is_word_byte}
use Rattle.jv_lex.specs.Pieces.{Piece, blank, line, block, word, number, text, sign, spell, Cut, tokens_from, AreTokens}
use Rattle.jv_lex.proofs.Utf8.{after_piece, text_utf8}
use Rattle.jv_back.proofs.Told.{IsNamed}
use Rattle.jv_back.proofs.Exprs.{IsWritten, AreWritten}

-- ---- tokens of bytes

abbrev IsGood : TokenKind → Type 0
IsGood (kinds.Word w) = StartsWith is_word_start w × AllPasses is_word_byte w
IsGood (kinds.Number n) = Unit {0}
IsGood (kinds.Text t) = IsUtf8 t
IsGood (kinds.Sign s) = Unit {0}

abbrev pub AreGood : List Token → Type 0
AreGood [] = Unit {0}
AreGood (t ∷ ts) = IsGood t.kind × AreGood ts

pub in_front : (ts us : List Token) → AreGood (ts ++ us) → AreGood ts
in_front [] us h = tt
in_front (t ∷ ts) us h = (h.0, in_front ts us h.1)

pub in_back : (ts us : List Token) → AreGood (ts ++ us) → AreGood us
in_back [] us h = h
in_back (t ∷ ts) us h = in_back ts us h.1

pieces_good : (place : Place) (ps : List Piece) (bytes : List ℕ) → Cut ps bytes [] → IsUtf8 bytes → AreGood (tokens_from place ps)
pieces_good place [] bytes cut u = tt
pieces_good place (blank c ∷ ps) bytes (after, e, may, cut) u =
    pieces_good (place_after place (spell (blank c))) ps after cut (after_piece (blank c) after may (subst IsUtf8 e u))
pieces_good place (line body ∷ ps) bytes (after, e, may, cut) u =
    pieces_good (place_after place (spell (line body))) ps after cut (after_piece (line body) after may (subst IsUtf8 e u))
pieces_good place (block body ∷ ps) bytes (after, e, may, cut) u =
    pieces_good (place_after place (spell (block body))) ps after cut (after_piece (block body) after may (subst IsUtf8 e u))
pieces_good place (word w ∷ ps) bytes (after, e, may, cut) u =
    ((may.0, may.1), pieces_good (place_after place (spell (word w))) ps after cut (after_piece (word w) after may (subst IsUtf8 e u)))
pieces_good place (number n ∷ ps) bytes (after, e, may, cut) u =
    (tt, pieces_good (place_after place (spell (number n))) ps after cut (after_piece (number n) after may (subst IsUtf8 e u)))
pieces_good place (text ws ∷ ps) bytes (after, e, may, cut) u = (
  text_utf8 ws after may (subst IsUtf8 e u),
  pieces_good (place_after place (spell (text ws))) ps after cut (after_piece (text ws) after may (subst IsUtf8 e u)),
)
pieces_good place (sign s ∷ ps) bytes (after, e, may, cut) u =
    (tt, pieces_good (place_after place (spell (sign s))) ps after cut (after_piece (sign s) after may (subst IsUtf8 e u)))

pub tokens_good : (file : ℕ) (ts : List Token) (bytes : List ℕ) → AreTokens file ts bytes → AreGood ts
tokens_good file ts bytes h = subst AreGood (sym h.tokens) (pieces_good (start_of file) h.pieces bytes h.cut h.utf8)

-- a name that is the word of a good token
pub named : (n : Name) → IsName n → StartsWith is_word_start n × AllPasses is_word_byte n → IsNamed n
named n is g = record { name = is; starts = g.0; bytes = g.1 }

-- ---- expressions

-- each expression that these tokens spell can be written
abbrev pub Keeps : Language → Type 0
Keeps G = (e : Expr) (ts : List Token) → G e ts → AreGood ts → IsWritten e

parens_kept : (inner : Language) → Keeps inner → Keeps (IsInParens inner)
parens_kept inner keeps e ts (a, b, us, parts, is) h =
    let g = subst AreGood parts h in keeps e us is (in_front us (tokens.sign b signs.CloseParen ∷ []) g.1)

more_kept : (inner : Language) → Keeps inner → (args : Exprs) (ts : List Token) → AreMoreArgs inner args ts → AreGood ts → AreWritten args
more_kept inner keeps NoExpr ts e h = tt
more_kept inner keeps (Argument e more) ts (a, us, vs, parts, is, are) h =
    let g = subst AreGood parts h in
    (keeps e us is (in_front us vs g.1), more_kept inner keeps more vs are (in_back us vs g.1))

args_kept : (inner : Language) → Keeps inner → (args : Exprs) (ts : List Token) → AreArgs inner args ts → AreGood ts → AreWritten args
args_kept inner keeps NoExpr ts e h = tt
args_kept inner keeps (Argument e more) ts (us, vs, parts, is, are) h =
    let g = subst AreGood parts h in
    (keeps e us is (in_front us vs g), more_kept inner keeps more vs are (in_back us vs g))

module _ (m : ℕ) (inner : Language) (keeps : Keeps inner) where
  arguments_kept : (args : Exprs) (ts : List Token) → AreArguments m inner args ts → AreGood ts → AreWritten args
  arguments_kept args ts (some, a, b, us, parts, are) h =
      let g = subst AreGood parts h in args_kept inner keeps args us are (in_front us (tokens.sign b signs.CloseParen ∷ []) g.1)

  simple_kept : Keeps (IsSimple m inner)
  simple_kept (Int p z) ts (inl (n, l, e, k)) h = inl (n, l, e)
  simple_kept (Int p z) ts (inr (n, q, l, e, k)) h = inr (n, l, e)
  simple_kept (Truth p b) ts e h = tt
  simple_kept (Text p t) ts e h = (subst AreGood e h).0
  simple_kept (Null p) ts e h = tt
  simple_kept (This p) ts e h = tt
  simple_kept (Variable p n) ts (is, e) h = named n is (subst AreGood e h).0
  simple_kept (Call p n args) ts (is, us, e, are) h = (named n is (subst AreGood e h).0, arguments_kept args us are (subst AreGood e h).1)
  simple_kept (New p n) ts (some, is, a, b, c, e) h = named n is (subst AreGood e h).1.0
  simple_kept (Member p e n) ts is h = absurd is
  simple_kept (Neg p e) ts is h = absurd is
  simple_kept (Not p e) ts is h = absurd is
  simple_kept (Binary p o l r) ts is h = absurd is
  simple_kept (MethodCall p e n args) ts is h = absurd is

  primary_kept : Keeps (IsPrimary m inner)
  primary_kept e ts (inl is) h = simple_kept e ts is h
  primary_kept e ts (inr is) h = parens_kept inner keeps e ts is h

  post_kept : Keeps (IsPost m inner)
  post_kept (Member p e n) ts (inl is) h = primary_kept (Member p e n) ts is h
  post_kept (Member p e n) ts (inr (name, place, a, b, us, parts, is)) h =
      let g = subst AreGood parts h in let back = in_back us (tokens.sign a signs.Dot ∷ tokens.word b n ∷ []) g in
      (post_kept e us is (in_front us (tokens.sign a signs.Dot ∷ tokens.word b n ∷ []) g), named n name back.1.0)
  post_kept (MethodCall p e n args) ts (inl is) h = primary_kept (MethodCall p e n args) ts is h
  post_kept (MethodCall p e n args) ts (inr (name, place, a, b, us, vs, parts, is, are)) h =
      let g = subst AreGood parts h in let back = in_back us (tokens.sign a signs.Dot ∷ tokens.word b n ∷ vs) g in (
        post_kept e us is (in_front us (tokens.sign a signs.Dot ∷ tokens.word b n ∷ vs) g),
        named n name back.1.0,
        arguments_kept args vs are back.1.1,
      )
  post_kept (Int p z) ts is h = primary_kept (Int p z) ts is h
  post_kept (Truth p b) ts is h = primary_kept (Truth p b) ts is h
  post_kept (Text p t) ts is h = primary_kept (Text p t) ts is h
  post_kept (Null p) ts is h = primary_kept (Null p) ts is h
  post_kept (This p) ts is h = primary_kept (This p) ts is h
  post_kept (Variable p n) ts is h = primary_kept (Variable p n) ts is h
  post_kept (Neg p e) ts is h = primary_kept (Neg p e) ts is h
  post_kept (Not p e) ts is h = primary_kept (Not p e) ts is h
  post_kept (Binary p o l r) ts is h = primary_kept (Binary p o l r) ts is h
  post_kept (Call p n args) ts is h = primary_kept (Call p n args) ts is h
  post_kept (New p n) ts is h = primary_kept (New p n) ts is h

  unary_kept : Keeps (IsUnary m inner)
  unary_kept (Neg p e) ts (inl is) h = post_kept (Neg p e) ts is h
  unary_kept (Neg p e) ts (inr (us, parts, none, is)) h = unary_kept e us is (subst AreGood parts h).1
  unary_kept (Not p e) ts (inl is) h = post_kept (Not p e) ts is h
  unary_kept (Not p e) ts (inr (us, parts, is)) h = unary_kept e us is (subst AreGood parts h).1
  unary_kept (Int p z) ts is h = post_kept (Int p z) ts is h
  unary_kept (Truth p b) ts is h = post_kept (Truth p b) ts is h
  unary_kept (Text p t) ts is h = post_kept (Text p t) ts is h
  unary_kept (Null p) ts is h = post_kept (Null p) ts is h
  unary_kept (This p) ts is h = post_kept (This p) ts is h
  unary_kept (Variable p n) ts is h = post_kept (Variable p n) ts is h
  unary_kept (Member p e n) ts is h = post_kept (Member p e n) ts is h
  unary_kept (Binary p o l r) ts is h = post_kept (Binary p o l r) ts is h
  unary_kept (Call p n args) ts is h = post_kept (Call p n args) ts is h
  unary_kept (MethodCall p e n args) ts is h = post_kept (MethodCall p e n args) ts is h
  unary_kept (New p n) ts is h = post_kept (New p n) ts is h

  chain_kept : (k : ℕ) (part : Language) → Keeps part → Keeps (IsChain k part)
  chain_kept k part part_kept (Binary p o l r) ts (inl is) h = part_kept (Binary p o l r) ts is h
  chain_kept k part part_kept (Binary p o l r) ts (inr (loose, place, a, us, vs, parts, left, right)) h =
      let g = subst AreGood parts h in (
        chain_kept k part part_kept l us left (in_front us (tokens.sign a (sign_of o) ∷ vs) g),
        part_kept r vs right
            (in_back us (tokens.sign a (sign_of o) ∷ vs) g).1,
      )
  chain_kept k part part_kept (Int p z) ts is h = part_kept (Int p z) ts is h
  chain_kept k part part_kept (Truth p b) ts is h = part_kept (Truth p b) ts is h
  chain_kept k part part_kept (Text p t) ts is h = part_kept (Text p t) ts is h
  chain_kept k part part_kept (Null p) ts is h = part_kept (Null p) ts is h
  chain_kept k part part_kept (This p) ts is h = part_kept (This p) ts is h
  chain_kept k part part_kept (Variable p n) ts is h = part_kept (Variable p n) ts is h
  chain_kept k part part_kept (Member p e n) ts is h = part_kept (Member p e n) ts is h
  chain_kept k part part_kept (Neg p e) ts is h = part_kept (Neg p e) ts is h
  chain_kept k part part_kept (Not p e) ts is h = part_kept (Not p e) ts is h
  chain_kept k part part_kept (Call p n args) ts is h = part_kept (Call p n args) ts is h
  chain_kept k part part_kept (MethodCall p e n args) ts is h = part_kept (MethodCall p e n args) ts is h
  chain_kept k part part_kept (New p n) ts is h = part_kept (New p n) ts is h

  binary_kept : (k : ℕ) → Keeps (IsBinary m inner k)
  binary_kept zero = unary_kept
  binary_kept (suc k) = chain_kept k (IsBinary m inner k) (binary_kept k)

pub inner_kept : (n : ℕ) → Keeps (IsInner n)
inner_kept zero = λ e ts is h. absurd is
inner_kept (suc n) = binary_kept n (IsInner n) (inner_kept n) 6

pub expr_kept : (n : ℕ) → Keeps (IsExpr n)
expr_kept n = binary_kept n (IsInner n) (inner_kept n) 6

pub condition_kept : (n : ℕ) → Keeps (IsInParens (IsInner n))
condition_kept n = parens_kept (IsInner n) (inner_kept n)

-- The text of an expression is told as the same expression, places aside.
use Rattle.std.proofs.Common.{◌≡◌, ℕ, zero, suc, ◌≤◌, max, inl, inr, List, [], ◌∷◌, ◌++◌, Bool, true, false, eqb, refl, sym, ap, ap₂, subst}
use Rattle.std.proofs.Common.{◌∙◌, arith, codes, true≢false}
use Rattle.std.specs.Prelude.{◌||◌, ◌==◌, not, ℤ}
use Rattle.std.specs.Char.{is_ascii_digit}
use Rattle.std.specs.Fmt.{decimal, signed_decimal}
use Rattle.std.proofs.lemmas.Bool.Decides.{nat_tests}
use Rattle.std.specs.Str.{IsUtf8}
use Rattle.mg_text.specs.Call.{Name}
use Rattle.mg_text.specs.declared.place.Place.{Place}
use Rattle.mg_read.specs.Passes.{StopsAt, StartsWith}
use Rattle.jv_tree.specs.declared.tree.Op.{Op}
use Rattle.jv_tree.specs.declared.tree.Op.TheVariants as ops
use Rattle.jv_tree.specs.declared.token.Sign.{Sign}
use Rattle.jv_tree.specs.declared.token.Sign.TheVariants as signs
use Rattle.jv_tree.specs.declared.token.Token.{Token}
use Rattle.jv_tree.specs.Source.{Expr, Int, Truth, Text, Null, This, Variable, Member, Neg, Not, Binary, Call, MethodCall, New, Exprs}
use Rattle.jv_tree.specs.Source.{NoExpr, Argument, place_of}
use Rattle.jv_tree.specs.Depth.{depth, depth_of_args}
use Rattle.jv_tree.specs.Tokens as tokens
use Rattle.jv_tree.specs.Expressions.{Language, AreMoreArgs, AreArgs, AreArguments, is_number_kind, starts_number, sign_of, looseness}
use Rattle.jv_tree.specs.Expressions.{IsChain, IsSimple, IsPrimary, IsPost, IsUnary, IsBinary, IsWhole, IsInner, IsExpr}
use Rattle.jv_lex.specs.Letters.{is_word_start}
use Rattle.jv_lex.specs.Signs.{goes_on}
use Rattle.jv_print.specs.Layout.{expr_text, args_text, op_text, quoted_text, has_operator, is_apart}
use Rattle.jv_print.specs.Layout as layout
use Rattle.jv_back.specs.Bare.{bare, bare_args, nowhere}
use Rattle.jv_back.proofs.Told.{NoWord, NoTail, tail_word, Told, nothing, convert, within, space_then, Front, sign_then, mark_then, IsWord}
use Rattle.jv_back.proofs.Told.{word_then, word_told, plain_word, IsNamed, named, Both, both}
use Rattle.jv_back.proofs.Texts.{text_told, IsPrinted, int_told, digit_first}

-- ---- expressions that can be written

abbrev mutual
  pub IsWritten : Expr → Type 0
  IsWritten (Int p z) = IsPrinted z
  IsWritten (Truth p b) = Unit {0}
  IsWritten (Text p t) = IsUtf8 t
  IsWritten (Null p) = Unit {0}
  IsWritten (This p) = Unit {0}
  IsWritten (Variable p n) = IsNamed n
  IsWritten (Member p e n) = IsWritten e × IsNamed n
  IsWritten (Neg p e) = IsWritten e
  IsWritten (Not p e) = IsWritten e
  IsWritten (Binary p o l r) = IsWritten l × IsWritten r
  IsWritten (Call p n args) = IsNamed n × AreWritten args
  IsWritten (MethodCall p e n args) = IsWritten e × IsNamed n × AreWritten args
  IsWritten (New p n) = IsNamed n

  pub AreWritten : Exprs → Type 0
  AreWritten NoExpr = Unit {0}
  AreWritten (Argument e more) = IsWritten e × AreWritten more

-- ---- from one level of the grammar to those around it

module _ (m : ℕ) (inner : Language) where
  post_of : (e : Expr) (ts : List Token) → IsPrimary m inner e ts → IsPost m inner e ts
  post_of (Member p e n) ts h = inl h
  post_of (MethodCall p e n args) ts h = inl h
  post_of (Int p z) ts h = h
  post_of (Truth p b) ts h = h
  post_of (Text p t) ts h = h
  post_of (Null p) ts h = h
  post_of (This p) ts h = h
  post_of (Variable p n) ts h = h
  post_of (Neg p e) ts h = h
  post_of (Not p e) ts h = h
  post_of (Binary p o l r) ts h = h
  post_of (Call p n args) ts h = h
  post_of (New p n) ts h = h

  unary_of : (e : Expr) (ts : List Token) → IsPost m inner e ts → IsUnary m inner e ts
  unary_of (Neg p e) ts h = inl h
  unary_of (Not p e) ts h = inl h
  unary_of (Int p z) ts h = h
  unary_of (Truth p b) ts h = h
  unary_of (Text p t) ts h = h
  unary_of (Null p) ts h = h
  unary_of (This p) ts h = h
  unary_of (Variable p n) ts h = h
  unary_of (Member p e n) ts h = h
  unary_of (Binary p o l r) ts h = h
  unary_of (Call p n args) ts h = h
  unary_of (MethodCall p e n args) ts h = h
  unary_of (New p n) ts h = h

  chain_of : (k : ℕ) (part : Language) (e : Expr) (ts : List Token) → part e ts → IsChain k part e ts
  chain_of k part (Binary p o l r) ts h = inl h
  chain_of k part (Int p z) ts h = h
  chain_of k part (Truth p b) ts h = h
  chain_of k part (Text p t) ts h = h
  chain_of k part (Null p) ts h = h
  chain_of k part (This p) ts h = h
  chain_of k part (Variable p n) ts h = h
  chain_of k part (Member p e n) ts h = h
  chain_of k part (Neg p e) ts h = h
  chain_of k part (Not p e) ts h = h
  chain_of k part (Call p n args) ts h = h
  chain_of k part (MethodCall p e n args) ts h = h
  chain_of k part (New p n) ts h = h

  raise : (k : ℕ) (e : Expr) (ts : List Token) → IsBinary m inner k e ts → IsBinary m inner (suc k) e ts
  raise k e ts h = chain_of k (IsBinary m inner k) e ts h

  binary_of : (k : ℕ) (e : Expr) (ts : List Token) → IsUnary m inner e ts → IsBinary m inner k e ts
  binary_of zero e ts h = h
  binary_of (suc k) e ts h = raise k e ts (binary_of k e ts h)

  -- from the level of an operator
  joined : (o : Op) (e : Expr) (ts : List Token) → IsBinary m inner (suc (looseness o)) e ts → IsWhole m inner e ts
  joined ops.Or e ts h = h
  joined ops.And e ts h = raise 5 e ts h
  joined ops.Eq e ts h = raise 5 e ts (raise 4 e ts h)
  joined ops.Ne e ts h = raise 5 e ts (raise 4 e ts h)
  joined ops.Lt e ts h = raise 5 e ts (raise 4 e ts (raise 3 e ts h))
  joined ops.Le e ts h = raise 5 e ts (raise 4 e ts (raise 3 e ts h))
  joined ops.Gt e ts h = raise 5 e ts (raise 4 e ts (raise 3 e ts h))
  joined ops.Ge e ts h = raise 5 e ts (raise 4 e ts (raise 3 e ts h))
  joined ops.Add e ts h = raise 5 e ts (raise 4 e ts (raise 3 e ts (raise 2 e ts h)))
  joined ops.Sub e ts h = raise 5 e ts (raise 4 e ts (raise 3 e ts (raise 2 e ts h)))
  joined ops.Mul e ts h = raise 5 e ts (raise 4 e ts (raise 3 e ts (raise 2 e ts (raise 1 e ts h))))
  joined ops.Div e ts h = raise 5 e ts (raise 4 e ts (raise 3 e ts (raise 2 e ts (raise 1 e ts h))))
  joined ops.Rem e ts h = raise 5 e ts (raise 4 e ts (raise 3 e ts (raise 2 e ts (raise 1 e ts h))))

  pub whole_of : (e : Expr) (ts : List Token) → IsPost m inner e ts → IsWhole m inner e ts
  whole_of e ts h = binary_of 6 e ts (unary_of e ts h)

-- ---- what is told of an expression

-- tokens that spell the same expression, places aside
abbrev pub Part : Language → Expr → List Token → Type 0
Part G e ts = (f : Expr) × (bare f ≡ bare e) × G f ts

-- and begin with no number
abbrev Post : ℕ → Expr → List Token → Type 0
Post n e ts = (f : Expr) × (bare f ≡ bare e) × IsPost n (IsInner n) f ts × (starts_number ts ≡ false)

-- what the text of a name, a text, a call or of parentheses begins with
abbrev is_soft : ℕ → Bool
is_soft c = is_word_start c || (c == 34 || c == 40)

-- an expression where so many parentheses may be open
record Laid (n : ℕ) (e : Expr) : Type 0 where
  whole : Told NoTail (Part (IsExpr n) e) (expr_text e)
  operand : has_operator e ≡ false → Told NoTail (Part (IsPost n (IsInner n)) e) (expr_text e)
  post : is_apart e ≡ false → Told NoWord (Post n e) (expr_text e)

abbrev Able : Expr → Type 0
Able e = (n : ℕ) → depth e ≤ n → Laid n e

-- ( expr )
parens_told : {ok : List ℕ → Type 0} (e : Expr) (m : ℕ) → Told NoTail (Part (IsExpr m) e) (expr_text e)
    → Told ok (Post (suc m) e) (codes "(" ++ (expr_text e ++ codes ")"))
parens_told e m h =
    convert form (mark_then signs.OpenParen refl (λ c. refl) (both h (λ bytes o. refl)
    (mark_then signs.CloseParen refl (λ c. refl) nothing)))
  where
    form : (ts : List Token)
        → Front (λ a. tokens.sign a signs.OpenParen) (Both (Part (IsExpr m) e) (Front (λ a. tokens.sign a signs.CloseParen)
        (λ us. us ≡ []))) ts
        → Post (suc m) e ts
    form ts (a, us, e, (vs, ws, g, (f, same, is), (b, xs, k, none))) =
        let parts = e ∙ ap (λ z. tokens.sign a signs.OpenParen ∷ z)
        (g ∙ ap (λ z. vs ++ z) (k ∙ ap (λ z. tokens.sign b signs.CloseParen ∷ z) none)) in
        (f, same, post_of (suc m) (IsInner (suc m)) f ts (inr (a, b, vs, parts, is)), ap starts_number e)

apart_told : (e : Expr) → Able e → (m : ℕ) → depth e ≤ m → Told NoWord (Post (suc m) e) (layout.within (is_apart e) (expr_text e))
apart_told e able m d = go (is_apart e) refl
  where
    go : (b : Bool) → is_apart e ≡ b → Told NoWord (Post (suc m) e) (layout.within b (expr_text e))
    go true h = parens_told e m (able m d).whole
    go false h = (able (suc m) (omega (arith, d))).post h

operand_told : (e : Expr) → Able e → (m : ℕ) → depth e ≤ m
    → Told NoTail (Part (IsPost (suc m) (IsInner (suc m))) e) (layout.within (has_operator e) (expr_text e))
operand_told e able m d = go (has_operator e) refl
  where
    go : (b : Bool) → has_operator e ≡ b → Told NoTail (Part (IsPost (suc m) (IsInner (suc m))) e) (layout.within b (expr_text e))
    go true h = convert (λ ts p. (p.0, p.1, p.2)) (parens_told e m (able m d).whole)
    go false h = (able (suc m) (omega (arith, d))).operand h

-- a post is an expression in each of the three ways
from_post : (n : ℕ) (e : Expr) → Told NoWord (Post n e) (expr_text e) → Laid n e
from_post n e h = record {
  whole = within tail_word (convert (λ ts p. (p.0, p.1, whole_of n (IsInner n) p.0 ts p.2)) h);
  operand = λ o. within tail_word (convert (λ ts p. (p.0, p.1, p.2)) h);
  post = λ o. h;
}

-- ---- what texts begin with

starts_append : (p : ℕ → Bool) (a b : List ℕ) → StartsWith p a → StartsWith p (a ++ b)
starts_append p [] b h = absurd h
starts_append p (c ∷ cs) b h = h

starts_as : (p q : ℕ → Bool) → ((c : ℕ) → p c ≡ true → q c ≡ true) → (a : List ℕ) → StartsWith p a → StartsWith q a
starts_as p q f [] h = absurd h
starts_as p q f (c ∷ cs) h = f c h

soft_word : (c : ℕ) → is_word_start c ≡ true → is_soft c ≡ true
soft_word c h = rw h refl

-- no "=" stands there
abbrev is_lead : ℕ → Bool
is_lead c = not (61 == c)

lead_soft : (c : ℕ) → is_soft c ≡ true → is_lead c ≡ true
lead_soft c h = grind (arith, nat_tests)

lead_digit : (c : ℕ) → is_ascii_digit c ≡ true → is_lead c ≡ true
lead_digit c h = grind (arith, nat_tests)

minus_soft : (c : ℕ) → is_soft c ≡ true → goes_on signs.Minus c ≡ false
minus_soft c h =
    let a : eqb 45 c ≡ false = grind (arith, nat_tests) in let b : eqb 61 c ≡ false = grind (arith, nat_tests) in rw (a, b) refl

bang_lead : (c : ℕ) → is_lead c ≡ true → goes_on signs.Bang c ≡ false
bang_lead c h = let b : eqb 61 c ≡ false = grind (arith, nat_tests) in rw b refl

soft_name : (n : Name) → IsNamed n → StartsWith is_soft n
soft_name n h = starts_as is_word_start is_soft soft_word n h.starts

apart_soft : (e : Expr) → (is_apart e ≡ false → StartsWith is_soft (expr_text e))
    → StartsWith is_soft (layout.within (is_apart e) (expr_text e))
apart_soft e h = go (is_apart e) refl
  where
    go : (b : Bool) → is_apart e ≡ b → StartsWith is_soft (layout.within b (expr_text e))
    go true o = refl
    go false o = h o

soft : (e : Expr) → IsWritten e → is_apart e ≡ false → StartsWith is_soft (expr_text e)
soft (Int p z) w h = absurd cc
soft (Truth p true) w h = refl
soft (Truth p false) w h = refl
soft (Text p t) w h = refl
soft (Null p) w h = refl
soft (This p) w h = refl
soft (Variable p n) w h = soft_name n w
soft (Member p e n) w h = starts_append is_soft _ _ (apart_soft e (soft e w.0))
soft (Neg p e) w h = absurd cc
soft (Not p e) w h = absurd cc
soft (Binary p o l r) w h = absurd cc
soft (Call p n args) w h = starts_append is_soft n _ (soft_name n w.0)
soft (MethodCall p e n args) w h = starts_append is_soft _ _ (apart_soft e (soft e w.0))
soft (New p n) w h = refl

lead_int : (z : ℤ) → IsPrinted z → StartsWith is_lead (signed_decimal z)
lead_int z (inl (n, l, e)) =
    subst (λ y. StartsWith is_lead (signed_decimal y)) (sym e)
    (starts_as is_ascii_digit is_lead lead_digit (decimal n) (digit_first n (omega (arith, l))))
lead_int z (inr (zero, l, e)) =
    subst (λ y. StartsWith is_lead (signed_decimal y)) (sym e)
    (starts_as is_ascii_digit is_lead lead_digit (decimal 0) (digit_first 0 (omega arith)))
lead_int z (inr (suc n, l, e)) = subst (λ y. StartsWith is_lead (signed_decimal y)) (sym e) refl

lead_of : (e : Expr) → IsWritten e → is_apart e ≡ false → StartsWith is_lead (expr_text e)
lead_of e w h = starts_as is_soft is_lead lead_soft (expr_text e) (soft e w h)

operand_lead : (e : Expr) → IsWritten e → StartsWith is_lead (layout.within (has_operator e) (expr_text e))
operand_lead (Int p z) w = lead_int z w
operand_lead (Truth p b) w = lead_of (Truth p b) w refl
operand_lead (Text p t) w = lead_of (Text p t) w refl
operand_lead (Null p) w = refl
operand_lead (This p) w = refl
operand_lead (Variable p n) w = lead_of (Variable p n) w refl
operand_lead (Member p e n) w = lead_of (Member p e n) w refl
operand_lead (Neg p e) w = refl
operand_lead (Not p e) w = refl
operand_lead (Binary p o l r) w = refl
operand_lead (Call p n args) w = lead_of (Call p n args) w refl
operand_lead (MethodCall p e n args) w = lead_of (MethodCall p e n args) w refl
operand_lead (New p n) w = refl

stops_as : (p : ℕ → Bool) (s : Sign) → ((c : ℕ) → p c ≡ true → goes_on s c ≡ false) → (a bytes : List ℕ) → StartsWith p a
    → StopsAt (goes_on s) (a ++ bytes)
stops_as p s f [] bytes h = absurd h
stops_as p s f (c ∷ cs) bytes h = f c h

-- ---- arguments

abbrev AllAble : Exprs → Type 0
AllAble NoExpr = Unit {0}
AllAble (Argument e more) = Able e × AllAble more

abbrev Args : (Exprs → List Token → Type 0) → Exprs → List Token → Type 0
Args G args ts = (g : Exprs) × (bare_args g ≡ bare_args args) × G g ts

args_follow : (args : Exprs) (bytes : List ℕ) → NoTail bytes → NoTail (args_text (codes ", ") args ++ bytes)
args_follow NoExpr bytes h = h
args_follow (Argument e more) bytes h = refl

max_left : (a b n : ℕ) → max a b ≤ n → a ≤ n
max_left a b n h = omega (arith, h)

max_right : (a b n : ℕ) → max a b ≤ n → b ≤ n
max_right a b n h = omega (arith, h)

more_told : (m : ℕ) (args : Exprs) → AllAble args → depth_of_args args ≤ m
    → Told NoTail (Args (AreMoreArgs (IsInner (suc m))) args) (args_text (codes ", ") args)
more_told m NoExpr a d = convert (λ ts e. (NoExpr, refl, e)) nothing
more_told m (Argument e more) a d =
    convert form (mark_then signs.Comma refl (λ c. refl) (space_then
    (both (a.0 m (max_left (depth e) (depth_of_args more) m d)).whole (args_follow more)
    (more_told m more a.1 (max_right (depth e) (depth_of_args more) m d)))))
  where
    form : (ts : List Token)
        → Front (λ a. tokens.sign a signs.Comma) (Both (Part (IsExpr m) e) (Args (AreMoreArgs (IsInner (suc m))) more)) ts
        → Args (AreMoreArgs (IsInner (suc m))) (Argument e more) ts
    form ts (c, us, k, (vs, ws, g, (f, same, is), (rest, alike, are))) =
        (Argument f rest, ap₂ (λ x y. Argument x y) same alike, (c, vs, ws, k ∙ ap (λ z. tokens.sign c signs.Comma ∷ z) g, is, are))

args_told : (m : ℕ) (args : Exprs) → AllAble args → depth_of_args args ≤ m
    → Told NoTail (Args (AreArgs (IsInner (suc m))) args) (args_text [] args)
args_told m NoExpr a d = convert (λ ts e. (NoExpr, refl, e)) nothing
args_told m (Argument e more) a d =
    convert form (both (a.0 m (max_left (depth e) (depth_of_args more) m d)).whole (args_follow more)
    (more_told m more a.1 (max_right (depth e) (depth_of_args more) m d)))
  where
    form : (ts : List Token) → Both (Part (IsExpr m) e) (Args (AreMoreArgs (IsInner (suc m))) more) ts
        → Args (AreArgs (IsInner (suc m))) (Argument e more) ts
    form ts (vs, ws, g, (f, same, is), (rest, alike, are)) = (Argument f rest, ap₂ (λ x y. Argument x y) same alike, (vs, ws, g, is, are))

arguments_told : {ok : List ℕ → Type 0} (m : ℕ) (args : Exprs) → AllAble args → depth_of_args args ≤ m
    → Told ok (Args (AreArguments (suc m) (IsInner (suc m))) args) (codes "(" ++ (args_text [] args ++ codes ")"))
arguments_told m args a d =
    convert form (mark_then signs.OpenParen refl (λ c. refl) (both (args_told m args a d) (λ bytes o. refl)
    (mark_then signs.CloseParen refl (λ c. refl) nothing)))
  where
    form : (ts : List Token)
        → Front (λ a. tokens.sign a signs.OpenParen)
        (Both (Args (AreArgs (IsInner (suc m))) args) (Front (λ a. tokens.sign a signs.CloseParen) (λ us. us ≡ []))) ts
        → Args (AreArguments (suc m) (IsInner (suc m))) args ts
    form ts (a, us, e, (vs, ws, g, (f, same, are), (b, xs, k, none))) =
        let parts = e ∙ ap (λ z. tokens.sign a signs.OpenParen ∷ z)
        (g ∙ ap (λ z. vs ++ z) (k ∙ ap (λ z. tokens.sign b signs.CloseParen ∷ z) none)) in
        (f, same, (omega arith, a, b, vs, parts, are))

-- ---- expressions

-- a primary expression of its own
abbrev Simple : ℕ → Expr → List Token → Type 0
Simple n e ts = (f : Expr) × (bare f ≡ bare e) × IsSimple n (IsInner n) f ts × (starts_number ts ≡ false)

simple_laid : (n : ℕ) (e : Expr) → Told NoWord (Simple n e) (expr_text e) → Laid n e
simple_laid n e h = from_post n e (convert (λ ts p. (p.0, p.1, post_of n (IsInner n) p.0 ts (inl p.2), p.3)) h)

int_laid : (n : ℕ) (p : Place) (z : ℤ) → IsPrinted z → Laid n (Int p z)
int_laid n p z w = record {
  whole = convert (λ ts h. (Int h.0 z, refl, whole_of n (IsInner n) (Int h.0 z) ts (inl h.1))) (int_told z w);
  operand = λ o. convert (λ ts h. (Int h.0 z, refl, inl h.1)) (int_told z w);
  post = λ o. absurd cc;
}

one_word : (w : Name) → IsWord w → Told NoWord (λ ts. (a : Place) × (ts ≡ tokens.word a w ∷ []) × (starts_number ts ≡ false)) w
one_word w is = convert (λ ts h. (h.0, h.1, ap starts_number h.1)) (word_told w is)

truth_laid : (n : ℕ) (p : Place) (b : Bool) → Laid n (Truth p b)
truth_laid n p true =
    simple_laid n (Truth p true) (convert (λ ts h. (Truth h.0 true, refl, h.1, h.2))
    (one_word (codes "true") (plain_word (codes "true") refl refl)))
truth_laid n p false =
    simple_laid n (Truth p false) (convert (λ ts h. (Truth h.0 false, refl, h.1, h.2))
    (one_word (codes "false") (plain_word (codes "false") refl refl)))

new_word : IsWord (codes "new")
new_word = plain_word (codes "new") refl refl

new_laid : (m : ℕ) (p : Place) (w : Name) → IsNamed w → Laid (suc m) (New p w)
new_laid m p w is =
    simple_laid (suc m) (New p w) (convert form (word_then (codes "new") new_word (λ bytes o. refl) (space_then
    (word_then w (named w is) (λ bytes o. refl) (mark_then signs.OpenParen refl (λ c. refl)
    (mark_then signs.CloseParen refl (λ c. refl) nothing))))))
  where
    form : (ts : List Token)
        → Front (λ a. tokens.word a (codes "new")) (Front (λ a. tokens.word a w)
        (Front (λ a. tokens.sign a signs.OpenParen) (Front (λ a. tokens.sign a signs.CloseParen) (λ us. us ≡ [])))) ts
        → Simple (suc m) (New p w) ts
    form ts (a, us, e, (b, vs, f, (c, ws, g, (d, xs, k, none)))) =
        let parts = e ∙ ap (λ z. tokens.word a (codes "new") ∷ z)
        (f ∙ ap (λ z. tokens.word b w ∷ z) (g ∙ ap (λ z. tokens.sign c signs.OpenParen ∷ z)
        (k ∙ ap (λ z. tokens.sign d signs.CloseParen ∷ z) none))) in
        (New a w, refl, (omega arith, is.name, b, c, d, parts), ap starts_number e)

call_laid : (m : ℕ) (p : Place) (w : Name) (args : Exprs) → IsNamed w → AllAble args → depth_of_args args ≤ m → Laid (suc m) (Call p w args)
call_laid m p w args is a d =
    simple_laid (suc m) (Call p w args) (convert form (word_then w (named w is) (λ bytes o. refl) (arguments_told m args a d)))
  where
    form : (ts : List Token) → Front (λ a. tokens.word a w) (Args (AreArguments (suc m) (IsInner (suc m))) args) ts
        → Simple (suc m) (Call p w args) ts
    form ts (a, us, e, (g, same, are)) = (Call a w g, ap (λ z. Call nowhere w z) same, (is.name, us, e, are), ap starts_number e)

starts_behind : (us vs ts : List Token) (t : Token) → ts ≡ us ++ t ∷ vs → starts_number us ≡ false → is_number_kind t.kind ≡ false
    → starts_number ts ≡ false
starts_behind [] vs ts t e h k = ap starts_number e ∙ k
starts_behind (u ∷ us) vs ts t e h k = ap starts_number e ∙ h

member_laid : (m : ℕ) (p : Place) (e : Expr) (w : Name) → Able e → IsNamed w → depth e ≤ m → Laid (suc m) (Member p e w)
member_laid m p e w able is d =
    from_post (suc m) (Member p e w) (convert form (both (apart_told e able m d) (λ bytes o. refl)
    (mark_then signs.Dot refl (λ c. refl) (word_told w (named w is)))))
  where
    form : (ts : List Token)
        → Both (Post (suc m) e) (Front (λ a. tokens.sign a signs.Dot) (λ us. (b : Place) × (us ≡ tokens.word b w ∷ []))) ts
        → Post (suc m) (Member p e w) ts
    form ts (us, vs, k, (f, same, is_post, none), (a, ws, g, (b, h))) =
        let parts = k ∙ ap (λ z. us ++ z) (g ∙ ap (λ z. tokens.sign a signs.Dot ∷ z) h) in (
          Member (place_of f) f w,
          ap (λ z. Member nowhere z w) same,
          inr (is.name, refl, a, b, us, parts, is_post),
          starts_behind us (tokens.word b w ∷ []) ts (tokens.sign a signs.Dot) parts none refl,
        )

method_laid : (m : ℕ) (p : Place) (e : Expr) (w : Name) (args : Exprs) → Able e → IsNamed w → AllAble args → depth e ≤ m
    → depth_of_args args ≤ m
    → Laid (suc m) (MethodCall p e w args)
method_laid m p e w args able is ables d ds =
    from_post (suc m) (MethodCall p e w args) (convert form (both (apart_told e able m d) (λ bytes o. refl)
    (mark_then signs.Dot refl (λ c. refl)
    (word_then w (named w is) (λ bytes o. refl) (arguments_told m args ables ds)))))
  where
    form : (ts : List Token)
        → Both (Post (suc m) e) (Front (λ a. tokens.sign a signs.Dot)
        (Front (λ a. tokens.word a w) (Args (AreArguments (suc m) (IsInner (suc m))) args))) ts
        → Post (suc m) (MethodCall p e w args) ts
    form ts (us, vs, k, (f, same, is_post, none), (a, ws, g, (b, xs, h, (args2, alike, are)))) =
        let parts = k ∙ ap (λ z. us ++ z) (g ∙ ap (λ z. tokens.sign a signs.Dot ∷ z) h) in (
          MethodCall (place_of f) f w args2,
          ap₂ (λ x y. MethodCall nowhere x w y) same alike,
          inr (is.name, refl, a, b, us, xs, parts, is_post, are),
          starts_behind us (tokens.word b w ∷ xs) ts (tokens.sign a signs.Dot) parts none refl,
        )

-- an expression that an operator makes
from_whole : (n : ℕ) (e : Expr) → has_operator e ≡ true → is_apart e ≡ true → Told NoTail (Part (IsExpr n) e) (expr_text e) → Laid n e
from_whole n e o a h = record {
  whole = h;
  operand = λ k. absurd (true≢false (sym o ∙ k));
  post = λ k. absurd (true≢false (sym a ∙ k));
}

neg_laid : (m : ℕ) (p : Place) (e : Expr) → Able e → IsWritten e → depth e ≤ m → Laid (suc m) (Neg p e)
neg_laid m p e able w d =
    from_whole (suc m) (Neg p e) refl refl (convert form (sign_then signs.Minus refl
    (λ bytes o. stops_as is_soft signs.Minus minus_soft (layout.within (is_apart e) (expr_text e)) bytes (apart_soft e (soft e w)))
    (within tail_word (apart_told e able m d))))
  where
    form : (ts : List Token) → Front (λ a. tokens.sign a signs.Minus) (Post (suc m) e) ts → Part (IsExpr (suc m)) (Neg p e) ts
    form ts (a, us, k, (f, same, is, none)) = (
      Neg a f,
      ap (λ z. Neg nowhere z) same,
      binary_of (suc m) (IsInner (suc m)) 6 (Neg a f) ts (inr (us, k, none, unary_of (suc m) (IsInner (suc m)) f us is)),
    )

not_laid : (m : ℕ) (p : Place) (e : Expr) → Able e → IsWritten e → depth e ≤ m → Laid (suc m) (Not p e)
not_laid m p e able w d =
    from_whole (suc m) (Not p e) refl refl (convert form (sign_then signs.Bang refl
    (λ bytes o. stops_as is_lead signs.Bang bang_lead (layout.within (has_operator e) (expr_text e)) bytes (operand_lead e w))
    (operand_told e able m d)))
  where
    form : (ts : List Token) → Front (λ a. tokens.sign a signs.Bang) (Part (IsPost (suc m) (IsInner (suc m))) e) ts
        → Part (IsExpr (suc m)) (Not p e) ts
    form ts (a, us, k, (f, same, is)) = (
      Not a f,
      ap (λ z. Not nowhere z) same,
      binary_of (suc m) (IsInner (suc m)) 6 (Not a f) ts (inr (us, k, unary_of (suc m) (IsInner (suc m)) f us is)),
    )

-- an operator between blanks
op_then : {ok : List ℕ → Type 0} {P : List Token → Type 0} {text : List ℕ} (o : Op) → Told ok P text
    → Told ok (Front (λ a. tokens.sign a (sign_of o)) P) (codes " " ++ (op_text o ++ (codes " " ++ text)))
op_then ops.Or h = space_then (sign_then signs.OrOr refl (λ bytes o. refl) (space_then h))
op_then ops.And h = space_then (sign_then signs.AndAnd refl (λ bytes o. refl) (space_then h))
op_then ops.Eq h = space_then (sign_then signs.Equal refl (λ bytes o. refl) (space_then h))
op_then ops.Ne h = space_then (sign_then signs.NotEqual refl (λ bytes o. refl) (space_then h))
op_then ops.Lt h = space_then (sign_then signs.Less refl (λ bytes o. refl) (space_then h))
op_then ops.Le h = space_then (sign_then signs.LessEqual refl (λ bytes o. refl) (space_then h))
op_then ops.Gt h = space_then (sign_then signs.Greater refl (λ bytes o. refl) (space_then h))
op_then ops.Ge h = space_then (sign_then signs.GreaterEqual refl (λ bytes o. refl) (space_then h))
op_then ops.Add h = space_then (sign_then signs.Plus refl (λ bytes o. refl) (space_then h))
op_then ops.Sub h = space_then (sign_then signs.Minus refl (λ bytes o. refl) (space_then h))
op_then ops.Mul h = space_then (sign_then signs.Star refl (λ bytes o. refl) (space_then h))
op_then ops.Div h = space_then (sign_then signs.Slash refl (λ bytes o. refl) (space_then h))
op_then ops.Rem h = space_then (sign_then signs.Percent refl (λ bytes o. refl) (space_then h))

binary_laid : (m : ℕ) (p : Place) (o : Op) (l r : Expr) → Able l → Able r → depth l ≤ m → depth r ≤ m → Laid (suc m) (Binary p o l r)
binary_laid m p o l r left right dl dr =
    from_whole (suc m) (Binary p o l r) refl refl (convert form
    (both (operand_told l left m dl) (λ bytes o. refl) (op_then o (operand_told r right m dr))))
  where
    form : (ts : List Token)
        → Both (Part (IsPost (suc m) (IsInner (suc m))) l)
        (Front (λ a. tokens.sign a (sign_of o)) (Part (IsPost (suc m) (IsInner (suc m))) r)) ts
        → Part (IsExpr (suc m)) (Binary p o l r) ts
    form ts (us, vs, k, (f, same, is), (a, ws, g, (h, alike, are))) =
        let n = suc m in
        let inner = IsInner n in
        let at_left : IsBinary n inner (looseness o) f us = binary_of n inner (looseness o) f us (unary_of n inner f us is) in
        let at_right : IsBinary n inner (looseness o) h ws = binary_of n inner (looseness o) h ws (unary_of n inner h ws are) in
        let chain = chain_of n inner (looseness o) (IsBinary n inner (looseness o)) f us at_left in (
          Binary (place_of f) o f h,
          ap₂ (λ x y. Binary nowhere o x y) same alike,
          joined n inner o (Binary (place_of f) o f h) ts (inr (refl, refl, a, us, ws, k ∙ ap (λ z. us ++ z) g, chain, at_right)),
        )

-- with at least one parenthesis
deeper : {e : Expr} (d : ℕ) → ((m : ℕ) → d ≤ m → Laid (suc m) e) → (n : ℕ) → suc d ≤ n → Laid n e
deeper d h zero l = absurd (omega (arith, l))
deeper d h (suc m) l = h m (omega (arith, l))

mutual
  able : (e : Expr) → IsWritten e → Able e
  able (Int p z) w = λ n d. int_laid n p z w
  able (Truth p b) w = λ n d. truth_laid n p b
  able (Text p t) w = λ n d. simple_laid n (Text p t) (convert (λ ts h. (Text h.0 t, refl, h.1, ap starts_number h.1)) (text_told t w))
  able (Null p) w =
      λ n d. simple_laid n (Null p) (convert (λ ts h. (Null h.0, refl, h.1, h.2))
      (one_word (codes "null") (plain_word (codes "null") refl refl)))
  able (This p) w =
      λ n d. simple_laid n (This p) (convert (λ ts h. (This h.0, refl, h.1, h.2))
      (one_word (codes "this") (plain_word (codes "this") refl refl)))
  able (Variable p n) w =
      λ m d. simple_laid m (Variable p n) (convert (λ ts h. (Variable h.0 n, refl, (w.name, h.1), h.2)) (one_word n (named n w)))
  able (Member p e n) w = deeper (depth e) (λ m d. member_laid m p e n (able e w.0) w.1 d)
  able (Neg p e) w = deeper (depth e) (λ m d. neg_laid m p e (able e w) w d)
  able (Not p e) w = deeper (depth e) (λ m d. not_laid m p e (able e w) w d)
  able (Binary p o l r) w =
      deeper (max (depth l) (depth r)) (λ m d. binary_laid m p o l r (able l w.0) (able r w.1) (max_left (depth l) (depth r) m d)
      (max_right (depth l) (depth r) m d))
  able (Call p n args) w = deeper (depth_of_args args) (λ m d. call_laid m p n args w.0 (ables args w.1) d)
  able (MethodCall p e n args) w =
      deeper (max (depth e) (depth_of_args args)) (λ m d. method_laid m p e n args (able e w.0) w.1 (ables args w.2)
      (max_left (depth e) (depth_of_args args) m d) (max_right (depth e) (depth_of_args args) m d))
  able (New p n) w = deeper 0 (λ m d. new_laid m p n w)

  ables : (args : Exprs) → AreWritten args → AllAble args
  ables NoExpr w = tt
  ables (Argument e more) w = (able e w.0, ables more w.1)

-- an expression, where as many parentheses may be open as it is deep
pub expr_told : (n : ℕ) (e : Expr) → IsWritten e → depth e ≤ n → Told NoTail (Part (IsExpr n) e) (expr_text e)
expr_told n e w d = (able e w n d).whole

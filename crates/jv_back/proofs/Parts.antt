-- Parts of statements are told as they are printed: conditions, targets, calls, types, names.
use Rattle.std.proofs.Common.{◌≡◌, ℕ, suc, ◌+◌, ◌≤◌, inl, inr, List, [], ◌∷◌, ◌++◌, Bool, true, false, Option, Some, None, refl, sym, ap}
use Rattle.std.proofs.Common.{◌∙◌, append_assoc, arith, codes}
use Rattle.std.specs.Prelude.{option_map, ◌&&◌, if◌then◌else◌}
use Rattle.std.specs.Str.{bytes_eq}
use Rattle.std.proofs.lemmas.List.{append-nil}
use Rattle.mg_text.specs.declared.place.Place.{Place}
use Rattle.ts_tree.specs.declared.parts.TypeName.{TypeName}
use Rattle.ts_tree.specs.declared.parts.TypeName.TheVariants as types
use Rattle.jv_tree.specs.declared.token.Sign.TheVariants as signs
use Rattle.jv_tree.specs.declared.token.Token.{Token}
use Rattle.jv_tree.specs.Source.{Expr, Int, This, Variable, Member, MethodCall, Exprs, NoExpr, Argument}
use Rattle.jv_tree.specs.Depth.{depth}
use Rattle.jv_tree.specs.Tokens as tokens
use Rattle.jv_tree.specs.Tokens.{is_name, IsName, BeginsAt}
use Rattle.jv_tree.specs.Sugar.{is_out, only_argument, printed, is_call}
use Rattle.jv_tree.specs.Expressions.{IsInParens, AreArguments, IsInner, IsExpr}
use Rattle.jv_tree.specs.Statements.{IsFree, IsCondition, type_word, IsType, IsTarget}
use Rattle.jv_print.specs.Layout.{expr_text, type_text, body_start, behind}
use Rattle.jv_back.specs.Bare.{bare, bare_args}
use Rattle.jv_back.proofs.Told.{NoWord, NoTail, Told, convert, regroup, space_then, line_then, indent_then, Front, mark_then, IsWord}
use Rattle.jv_back.proofs.Told.{word_then, word_told, plain_word, IsNamed, named, Both, both}
use Rattle.jv_back.proofs.Exprs.{IsWritten, Part, expr_told, whole_of}

-- behind a token
pub on : {t : Token} {us vs : List Token} → us ≡ vs → ◌≡◌ {A = List Token} (t ∷ us) (t ∷ vs)
on {t} e = ap (λ z. t ∷ z) e

-- behind other tokens
pub past : (us : List Token) {vs ws : List Token} → vs ≡ ws → us ++ vs ≡ us ++ ws
past us e = ap (λ z. us ++ z) e

-- ---- expressions of statements

pub free_told : (e : Expr) → IsWritten e → depth e ≤ 399 → Told NoTail (Part IsFree e) (expr_text e)
free_told e w d = expr_told 400 e w (omega (arith, d))

condition_of : (m : ℕ) (e f : Expr) (ts us xs vs : List Token) (a b : Place) → ts ≡ tokens.sign a signs.OpenParen ∷ us
    → us ≡ xs ++ (tokens.sign b signs.CloseParen ∷ vs)
    → bare f ≡ bare e → IsExpr m f xs
    → (ws : List Token) × (ts ≡ ws ++ vs) × Part (IsInParens (IsInner (suc m))) e ws
condition_of m e f ts us xs vs a b p q same is = (
  tokens.sign a signs.OpenParen ∷ (xs ++ tokens.sign b signs.CloseParen ∷ []),
  p ∙ on (q ∙ sym (append_assoc xs (tokens.sign b signs.CloseParen ∷ []) vs)),
  (f, same, (a, b, xs, refl, is)),
)

inner_then : {ok : List ℕ → Type 0} {Q : List Token → Type 0} {text : List ℕ} (m : ℕ) (e : Expr) → IsWritten e → depth e ≤ m
    → Told ok Q text
    → Told ok (Both (Part (IsInParens (IsInner (suc m))) e) Q) (codes "(" ++ (expr_text e ++ (codes ")" ++ text)))
inner_then {ok = ok} {Q = Q} m e w d h =
    convert form (mark_then signs.OpenParen refl (λ c. refl) (both (expr_told m e w d) (λ bytes o. refl)
    (mark_then signs.CloseParen refl (λ c. refl) h)))
  where
    form : (ts : List Token)
        → Front (λ a. tokens.sign a signs.OpenParen) (Both (Part (IsExpr m) e) (Front (λ a. tokens.sign a signs.CloseParen) Q)) ts
        → Both (Part (IsInParens (IsInner (suc m))) e) Q ts
    form ts (a, us, p, (xs, ys, q, (f, same, is), (b, vs, r, last))) =
        let c = condition_of m e f ts us xs vs a b p (q ∙ past xs r) same is in
        (c.0, vs, c.1, c.2, last)

-- a condition in parentheses, and then more
pub condition_then : {ok : List ℕ → Type 0} {Q : List Token → Type 0} {text : List ℕ} (e : Expr) → IsWritten e → depth e ≤ 399
    → Told ok Q text
    → Told ok (Both (Part IsCondition e) Q) (codes "(" ++ (expr_text e ++ (codes ")" ++ text)))
condition_then e w d h = inner_then 399 e w d h

-- ---- targets

abbrev pub IsWrittenTarget : Expr → Type 0
IsWrittenTarget (Variable p n) = IsNamed n
IsWrittenTarget (Member p (This q) n) = IsNamed n
IsWrittenTarget _ = ⊥

this_word : IsWord (codes "this")
this_word = plain_word (codes "this") refl refl

pub target_told : (t : Expr) → IsWrittenTarget t → Told NoWord (Part IsTarget t) (expr_text t)
target_told (Variable p n) w = convert (λ ts h. (Variable h.0 n, refl, (w.name, h.1))) (word_told n (named n w))
target_told (Member p (This q) n) w =
    convert form (word_then (codes "this") this_word (λ bytes o. refl) (mark_then signs.Dot refl (λ c. refl) (word_told n (named n w))))
  where
    form : (ts : List Token)
        → Front (λ a. tokens.word a (codes "this")) (Front (λ a. tokens.sign a signs.Dot) (λ us. (b : Place)
        × (us ≡ tokens.word b n ∷ []))) ts
        → Part IsTarget (Member p (This q) n) ts
    form ts (a, us, e, (b, vs, f, (c, g))) = (Member a (This a) n, refl, (w.name, refl, b, c, e ∙ on (f ∙ on g)))
target_told _ w = absurd w

-- ---- what calls keep without places

same_call : (e : Expr) → is_call (bare e) ≡ is_call e
same_call (Int p z) = refl
same_call e = refl

pub call_kept : (e f : Expr) → bare f ≡ bare e → is_call e ≡ true → is_call f ≡ true
call_kept e f same h = sym (same_call f) ∙ ap is_call same ∙ same_call e ∙ h

same_out : (e : Expr) → is_out (bare e) ≡ is_out e
same_out (Member p (Variable q n) m) = refl
same_out (Member p (Int q z) m) = refl
same_out (Member p e m) = refl
same_out (Int p z) = refl
same_out e = refl

same_only : (args : Exprs) → only_argument (bare_args args) ≡ option_map bare (only_argument args)
same_only NoExpr = refl
same_only (Argument e NoExpr) = refl
same_only (Argument e (Argument f more)) = refl

same_printed : (e : Expr) → printed (bare e) ≡ option_map bare (printed e)
same_printed (MethodCall p e n args) = go (is_out (bare e)) (is_out e) (bytes_eq n (codes "println")) (same_out e)
  where
    go : (a b c : Bool) → a ≡ b
        → (if a && c then only_argument (bare_args args) else None) ≡ option_map bare (if b && c then only_argument args else None)
    go true true true e = same_only args
    go true true false e = refl
    go false false c e = refl
    go true false c e = absurd cc
    go false true c e = absurd cc
same_printed (Int p z) = refl
same_printed e = refl

none_of : (o : Option Expr) → option_map bare o ≡ None → o ≡ None
none_of None e = refl
none_of (Some x) e = absurd cc

pub unprinted_kept : (e f : Expr) → bare f ≡ bare e → printed e ≡ None → printed f ≡ None
unprinted_kept e f same h = none_of (printed f) (sym (same_printed f) ∙ ap printed same ∙ same_printed e ∙ ap (option_map bare) h)

-- ---- what is printed

abbrev pub Prints : ℕ → Expr → List Token → Type 0
Prints n e ts = (c f : Expr) × (bare f ≡ bare e) × (printed c ≡ Some f) × IsExpr n c ts

system_name : IsName (codes "System")
unfolding is_name
system_name = refl

out_name : IsName (codes "out")
unfolding is_name
out_name = refl

println_name : IsName (codes "println")
unfolding is_name
println_name = refl

abbrev print_tokens : (a b c d g : Place) → List Token → List Token
print_tokens a b c d g us =
    tokens.word a (codes "System") ∷ tokens.sign b signs.Dot ∷ tokens.word c (codes "out") ∷ tokens.sign d signs.Dot ∷ tokens.word g
    (codes "println") ∷ us

abbrev the_print : Place → Expr → Expr
the_print a f = MethodCall a (Member a (Variable a (codes "System")) (codes "out")) (codes "println") (Argument f NoExpr)

print_is : (m : ℕ) (f : Expr) (a b c d g k l : Place) (us ts : List Token) → IsExpr m f us
    → ts ≡ print_tokens a b c d g (tokens.sign k signs.OpenParen ∷ (us ++ tokens.sign l signs.CloseParen ∷ []))
    → IsExpr (suc m) (the_print a f) ts
print_is m f a b c d g k l us ts is e =
    let args : AreArguments (suc m) (IsInner (suc m)) (Argument f NoExpr)
    (tokens.sign k signs.OpenParen ∷ (us ++ tokens.sign l signs.CloseParen ∷ [])) =
    (omega arith, k, l, us, refl, (us, [], sym (append-nil us), is, refl)) in
    whole_of (suc m) (IsInner (suc m)) (the_print a f) ts
    (inr (
      println_name,
      refl,
      d,
      g,
      tokens.word a (codes "System") ∷ tokens.sign b signs.Dot ∷ tokens.word c (codes "out") ∷ [],
      tokens.sign k signs.OpenParen ∷ (us ++ tokens.sign l signs.CloseParen ∷ []),
      e,
      inr (out_name, refl, b, c, tokens.word a (codes "System") ∷ [], refl, inl (system_name, refl)),
      args,
    ))

system_word : IsWord (codes "System")
system_word = plain_word (codes "System") refl refl

out_word : IsWord (codes "out")
out_word = plain_word (codes "out") refl refl

println_word : IsWord (codes "println")
println_word = plain_word (codes "println") refl refl

pub print_then : {ok : List ℕ → Type 0} {Q : List Token → Type 0} {text : List ℕ} (m : ℕ) (e : Expr) → IsWritten e → depth e ≤ m
    → Told ok Q text
    → Told ok (Both (Prints (suc m) e) Q) (codes "System.out.println(" ++ (expr_text e ++ (codes ")" ++ text)))
print_then {Q = Q} m e w d h =
    convert form (word_then (codes "System") system_word (λ bytes o. refl) (mark_then signs.Dot refl (λ c. refl)
    (word_then (codes "out") out_word (λ bytes o. refl) (mark_then signs.Dot refl (λ c. refl)
    (word_then (codes "println") println_word (λ bytes o. refl) (inner_then m e w d h))))))
  where
    form : (ts : List Token)
        → Front (λ a. tokens.word a (codes "System")) (Front (λ a. tokens.sign a signs.Dot) (Front (λ a. tokens.word a (codes "out"))
        (Front (λ a. tokens.sign a signs.Dot) (Front (λ a. tokens.word a (codes "println"))
        (Both (Part (IsInParens (IsInner (suc m))) e) Q))))) ts
        → Both (Prints (suc m) e) Q ts
    form ts (a, t1, e1, (b, t2, e2, (c, t3, e3, (d, t4, e4, (g, t5, e5, (us, vs, e6, (f, same, (k, l, xs, e7, is)), last)))))) = (
      print_tokens a b c d g us,
      vs,
      e1 ∙ on (e2 ∙ on (e3 ∙ on (e4 ∙ on (e5 ∙ on e6)))),
      (the_print a f, f, same, refl, print_is m f a b c d g k l xs (print_tokens a b c d g us) is (ap (print_tokens a b c d g) e7)),
      last,
    )

-- ---- types

abbrev pub IsTyped : TypeName → Type 0
IsTyped ty = IsType ty × IsWord (type_word ty)

pub same_type : (ty : TypeName) → type_text ty ≡ type_word ty
same_type types.Void = refl
same_type types.Int = refl
same_type types.Boolean = refl
same_type types.Text = refl
same_type (types.Named n) = refl

pub type_then : {ok : List ℕ → Type 0} {P : List Token → Type 0} {text : List ℕ} (ty : TypeName) → IsWord (type_word ty) → Told ok P text
    → Told ok (Front (λ a. tokens.word a (type_word ty)) P) (type_text ty ++ (codes " " ++ text))
type_then {text = text} ty w h =
    regroup (ap (λ z. z ++ (codes " " ++ text)) (same_type ty)) (word_then (type_word ty) w (λ bytes o. refl) (space_then h))

-- ---- lines

pub start_then : {ok : List ℕ → Type 0} {P : List Token → Type 0} {text : List ℕ} (b : Bool) (level : ℕ) → Told ok P text
    → Told ok P (body_start b level ++ text)
start_then true level h = space_then h
start_then false level h = line_then (indent_then (level + 1) h)

pub behind_then : {ok : List ℕ → Type 0} {P : List Token → Type 0} {text : List ℕ} (b : Bool) (level : ℕ) → Told ok P text
    → Told ok P (behind b level ++ text)
behind_then true level h = space_then h
behind_then false level h = line_then (indent_then level h)

pub start_follows : (b : Bool) (level : ℕ) (text bytes : List ℕ) → NoWord ((body_start b level ++ text) ++ bytes)
start_follows true level text bytes = refl
start_follows false level text bytes = refl

-- the first token in front of a last one
pub begins : (us : List Token) (t : Token) → (p : Place) × BeginsAt p (us ++ t ∷ [])
begins [] t = (t.place, refl)
begins (u ∷ us) t = (u.place, refl)

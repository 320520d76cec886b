-- The turns of the loops that read parameters, names, paths, imports and declarations.
use Rattle.std.proofs.Common.{◌≡◌, List, [], ◌∷◌, length, true, false, Some, None, refl, ap, arith}
use Rattle.std.specs.Prelude.{◌==◌, codes}
use Rattle.std.proofs.lemmas.Bool.{eqb-true}
use Rattle.mg_text.specs.Call.{Name}
use Rattle.mg_text.specs.declared.place.Place.{Place}
use Rattle.mg_read.specs.Reader.{all_of}
use Rattle.mg_read.proofs.Loop.{Left, Left-start, Left-init, with_front}
use Rattle.jv_tree.specs.declared.tree.Param.{Param}
use Rattle.jv_tree.specs.declared.token.Sign.TheVariants as signs
use Rattle.jv_tree.specs.declared.token.Token.{Token}
use Rattle.jv_grammar.specs.Base.{sign_at, is_sign, is_word, name_at}
use Rattle.jv_grammar.specs.Files.{param_at, next_param_at, params_at, is_more_names, next_name_at, names_at, is_more_steps, next_step_at}
use Rattle.jv_grammar.specs.Files.{path_at, import_at, is_some_token, decl_at}
use Rattle.jv_parse.specs.declared.halt.Halt.{Halt}
use Rattle.jv_parse.specs.declared.halt.Halt.TheVariants as halts
use Rattle.jv_parse.specs.inner.Gives.{Fails}
use Rattle.jv_parse.specs.inner.Rests.{rest_of, imports_at, decls_at}
use Rattle.jv_parse.proofs.Walks.{Walking, rest_some, rest_fails}

-- ---- parameters

pub params_start : (ts : List Token) (x : Param) (us : List Token) → param_at ts ≡ Some (x, us) → Left (is_sign signs.Comma) next_param_at
    (x ∷ []) us (params_at ts)
unfolding params_at
params_start ts x us h = rw h (Left-start (is_sign signs.Comma) next_param_at (x ∷ []) us
    (with_front (x ∷ []) (all_of (is_sign signs.Comma) next_param_at us)) refl)

pub params_fail : (e : Halt) (ts : List Token) → Fails e (param_at ts) → Fails e (params_at ts)
unfolding params_at
params_fail halts.Memory ts h = tt
params_fail (halts.Syntax left) ts h = rw h refl

pub next_param_is : (p : Place) (ts us : List Token) → sign_at signs.Comma ts ≡ Some (p, us) → next_param_at ts ≡ param_at us
unfolding next_param_at
next_param_is p ts us h = rw h refl

-- ---- names of an enum

pub names_start : (ts : List Token) (p : Place) (n : Name) (us : List Token) → name_at ts ≡ Some ((p, n), us) →
    Left is_more_names next_name_at (n ∷ []) us (names_at ts)
unfolding names_at
names_start ts p n us h = rw h (Left-start is_more_names next_name_at (n ∷ []) us
    (with_front (n ∷ []) (all_of is_more_names next_name_at us)) refl)

pub names_fail : (e : Halt) (ts : List Token) → Fails e (name_at ts) → Fails e (names_at ts)
unfolding names_at
names_fail halts.Memory ts h = tt
names_fail (halts.Syntax left) ts h = rw h refl

-- ---- paths

path_from : (ts us : List Token) (n : Place × Name) → name_at ts ≡ Some (n, us) → Left is_more_steps next_step_at (n.1 ∷ []) us (path_at ts)
unfolding path_at
path_from ts us n h = rw h (Left-start is_more_steps next_step_at (n.1 ∷ []) us
    (with_front (n.1 ∷ []) (all_of is_more_steps next_step_at us)) refl)

pub path_start : (ts us : List Token) → rest_of (name_at ts) ≡ Some us → Walking is_more_steps next_step_at us (path_at ts)
path_start ts us h = let n = rest_some (name_at ts) us h in record { front = n.0.1 ∷ []; left = path_from ts us n.0 n.1 }

path_none : (ts : List Token) → name_at ts ≡ None → path_at ts ≡ None
unfolding path_at
path_none ts h = rw h refl

pub path_fails : (e : Halt) (ts : List Token) → Fails e (rest_of (name_at ts)) → Fails e (rest_of (path_at ts))
path_fails halts.Memory ts h = tt
path_fails (halts.Syntax left) ts h = ap rest_of (path_none ts (rest_fails (halts.Syntax left) (name_at ts) h))

-- ---- imports and declarations

pub imports_start : (ts : List Token) → Walking (is_word (codes "import")) import_at ts (imports_at ts)
imports_start ts = record { front = []; left = Left-init (is_word (codes "import")) import_at ts }

pub decls_start : (ts : List Token) → Left is_some_token decl_at [] ts (decls_at ts)
decls_start ts = Left-init is_some_token decl_at ts

pub tokens_left : (ts : List Token) → (length ts == 0) ≡ false → is_some_token ts ≡ true
tokens_left [] e = absurd cc
tokens_left (t ∷ ts) e = refl

pub none_left : (ts : List Token) → (length ts == 0) ≡ true → is_some_token ts ≡ false
none_left [] e = refl
none_left (t ∷ ts) e = let none : length (t ∷ ts) ≡ 0 = eqb-true (length (t ∷ ts)) 0 e in absurd (omega arith)

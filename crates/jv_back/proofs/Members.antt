-- The text of a field and of a method is told as the same, places aside.
use Rattle.std.proofs.Common.{◌≡◌, ℕ, ◌≤◌, inl, inr, List, [], ◌∷◌, ◌++◌, map, Bool, true, false, Option, Some, None, refl, sym, ap, ap₂}
use Rattle.std.proofs.Common.{◌∙◌, codes}
use Rattle.std.specs.Prelude.{option_map, ◌⊎◌}
use Rattle.std.specs.List.{AllByRecursion}
use Rattle.std.proofs.lemmas.List.{append-nil as append_nil}
use Rattle.mg_text.specs.declared.place.Place.{Place}
use Rattle.jv_tree.specs.declared.tree.Param.{Param}
use Rattle.jv_tree.specs.declared.token.Sign.TheVariants as signs
use Rattle.jv_tree.specs.declared.token.Token.{Token}
use Rattle.jv_tree.specs.Source.{Expr, Stmts, Field, Method}
use Rattle.jv_tree.specs.Depth.{depth_of_value, depth_of_stmts}
use Rattle.jv_tree.specs.Tokens as tokens
use Rattle.jv_tree.specs.Tokens.{is_name, IsName}
use Rattle.jv_tree.specs.Statements.{type_word}
use Rattle.jv_tree.specs.Files.{AreModifiers, has_static, modifiers, IsInitialiser, IsField, IsParam, AreMoreParams, AreParams, IsArgs}
use Rattle.jv_tree.specs.Files.{IsMain, IsResult, IsMethod}
use Rattle.jv_print.specs.Layout.{lines, braced, field_value, field_line, param_text, params_text, all_params, static_text, method_lines}
use Rattle.jv_back.specs.Bare.{bare, bare_field, bare_param, bare_method, nowhere}
use Rattle.jv_back.proofs.Told.{Any, NoWord, NoTail, Told, nothing, convert, regroup, space_then, line_then, Front, sign_then, mark_then}
use Rattle.jv_back.proofs.Told.{IsWord, word_then, word_told, plain_word, IsNamed, named, Both, both}
use Rattle.jv_back.proofs.Parts.{on, past, free_told, IsTyped, type_then}
use Rattle.jv_back.proofs.Stmts.{IsWrittenValue, AreWrittenStmts, ItemsPart, Braces, braces_told, items_told}

-- ---- fields

pub record IsWrittenField (f : Field) : Type 0 where
  pub ty : IsTyped f.ty
  pub name : IsNamed f.name
  pub value : IsWrittenValue f.value

abbrev pub FieldPart : Field → List Token → Type 0
FieldPart f ts = (g : Field) × (bare_field g ≡ bare_field f) × IsField g ts

abbrev ValuePart : Option Expr → List Token → Type 0
ValuePart value ts = (v : Option Expr) × (option_map bare v ≡ option_map bare value) × IsInitialiser v ts

value_told : (value : Option Expr) → IsWrittenValue value → depth_of_value value ≤ 399 → Told NoTail (ValuePart value) (field_value value)
value_told None w d = convert (λ ts e. (None, refl, e)) nothing
value_told (Some e) w d =
    convert (λ ts (a, us, k, (f, same, is)). (Some f, ap (λ z. Some z) same, (a, us, k, is)))
    (space_then (sign_then signs.Assign refl (λ bytes o. refl) (space_then (free_told e w d))))

value_follows : (value : Option Expr) (bytes : List ℕ) → NoWord ((field_value value ++ codes ";\n") ++ bytes)
value_follows None bytes = refl
value_follows (Some e) bytes = refl

private_word : IsWord (codes "private")
private_word = plain_word (codes "private") refl refl

pub field_told : (f : Field) → IsWrittenField f → depth_of_value f.value ≤ 399 → Told Any (FieldPart f) (field_line f)
field_told f w d =
    convert form (space_then (space_then (space_then (space_then (word_then (codes "private") private_word (λ bytes o. refl) (space_then
    (type_then f.ty w.ty.1 (word_then f.name (named f.name w.name) (λ bytes o. value_follows f.value bytes)
    (both (value_told f.value w.value d) (λ bytes o. refl) (mark_then signs.Semicolon refl (λ c. refl) (line_then nothing)))))))))))
  where
    form : (ts : List Token)
        → Front (λ a. tokens.word a (codes "private")) (Front (λ a. tokens.word a (type_word f.ty)) (Front (λ a. tokens.word a f.name)
        (Both (ValuePart f.value) (Front (λ a. tokens.sign a signs.Semicolon) (λ us. us ≡ []))))) ts
        → FieldPart f ts
    form ts (a, t1, e1, (b, t2, e2, (c, t3, e3, (us, t4, e4, (v, same, is), (g, t5, e5, none))))) = (
      record { place = c; ty = f.ty; name = f.name; value = v },
      (λ i. record { place = nowhere; ty = f.ty; name = f.name; value = same i }),
      (
        w.ty.0,
        w.name.name,
        b,
        g,
        tokens.word a (codes "private") ∷ [],
        us,
        e1 ∙ on (e2 ∙ on (e3 ∙ on (e4 ∙ past us (e5 ∙ on none)))),
        refl,
        refl,
        is,
      ),
    )

-- ---- parameters

abbrev pub IsWrittenParam : Param → Type 0
IsWrittenParam p = IsTyped p.ty × IsNamed p.name

abbrev ParamPart : Param → List Token → Type 0
ParamPart p ts = (q : Param) × (bare_param q ≡ bare_param p) × IsParam q ts

param_told : (p : Param) → IsWrittenParam p → Told NoWord (ParamPart p) (param_text p)
param_told p w = convert form (type_then p.ty w.0.1 (word_told p.name (named p.name w.1)))
  where
    form : (ts : List Token) → Front (λ a. tokens.word a (type_word p.ty)) (λ us. (b : Place) × (us ≡ tokens.word b p.name ∷ [])) ts
        → ParamPart p ts
    form ts (a, t1, e1, (b, e2)) = (record { place = b; ty = p.ty; name = p.name }, refl, (w.0.0, w.1.name, a, [], e1 ∙ on e2, inl refl))

abbrev ParamsPart : (List Param → List Token → Type 0) → List Param → List Token → Type 0
ParamsPart G ps ts = (qs : List Param) × (map bare_param qs ≡ map bare_param ps) × G qs ts

params_follow : (ps : List Param) (bytes : List ℕ) → NoWord bytes → NoWord (params_text (codes ", ") ps ++ bytes)
params_follow [] bytes h = h
params_follow (p ∷ ps) bytes h = refl

more_params : (ps : List Param) → AllByRecursion IsWrittenParam ps → Told NoWord (ParamsPart AreMoreParams ps) (params_text (codes ", ") ps)
more_params [] w = convert (λ ts e. ([], refl, e)) nothing
more_params (p ∷ ps) w =
    convert form (mark_then signs.Comma refl (λ c. refl) (space_then (both (param_told p w.0) (params_follow ps) (more_params ps w.1))))
  where
    form : (ts : List Token) → Front (λ a. tokens.sign a signs.Comma) (Both (ParamPart p) (ParamsPart AreMoreParams ps)) ts
        → ParamsPart AreMoreParams (p ∷ ps) ts
    form ts (a, t1, e1, (us, vs, e2, (q, same, is), (qs, alike, are))) =
        (q ∷ qs, ap₂ (λ x y. x ∷ y) same alike, (a, us, vs, e1 ∙ on e2, is, are))

params_told : (ps : List Param) → AllByRecursion IsWrittenParam ps → Told NoWord (ParamsPart AreParams ps) (params_text [] ps)
params_told [] w = convert (λ ts e. ([], refl, e)) nothing
params_told (p ∷ ps) w = convert form (both (param_told p w.0) (params_follow ps) (more_params ps w.1))
  where
    form : (ts : List Token) → Both (ParamPart p) (ParamsPart AreMoreParams ps) ts → ParamsPart AreParams (p ∷ ps) ts
    form ts (us, vs, e, (q, same, is), (qs, alike, are)) = (q ∷ qs, ap₂ (λ x y. x ∷ y) same alike, (us, vs, e, is, are))

-- ---- methods

abbrev pub AreWrittenParams : Method → Type 0
AreWrittenParams m =
    ((m.takes_args ≡ false) × AllByRecursion IsWrittenParam m.params) ⊎ ((m.takes_args ≡ true) × (m.params ≡ []) × IsMain m)

pub record IsWrittenMethod (m : Method) : Type 0 where
  pub result : IsResult m.result
  pub word : IsWord (type_word m.result)
  pub name : IsNamed m.name
  pub params : AreWrittenParams m
  pub body : AreWrittenStmts m.body

abbrev AllParams : Method → List Token → Type 0
AllParams m ts =
    (qs : List Param) × (map bare_param qs ≡ map bare_param m.params)
    × (((m.takes_args ≡ false) × AreParams qs ts) ⊎ ((m.takes_args ≡ true) × (qs ≡ []) × IsMain m × IsArgs ts))

args_name : IsName (codes "args")
unfolding is_name
args_name = refl

args_word : IsWord (codes "args")
args_word = plain_word (codes "args") refl refl

string_word : IsWord (codes "String")
string_word = plain_word (codes "String") refl refl

args_told : Told NoWord IsArgs (codes "String[] args")
args_told =
    convert (λ ts (a, t1, e1, (b, t2, e2, (c, t3, e3, (d, e4)))). (codes "args", args_name, a, b, c, d, e1 ∙ on (e2 ∙ on (e3 ∙ on e4))))
    (word_then (codes "String") string_word (λ bytes o. refl) (mark_then signs.OpenBracket refl (λ c. refl)
    (mark_then signs.CloseBracket refl (λ c. refl) (space_then (word_told (codes "args") args_word)))))

all_told : (m : Method) → AreWrittenParams m → Told NoWord (AllParams m) (all_params m.takes_args m.params)
all_told m (inl (off, w)) =
    regroup (ap (λ b. all_params b m.params) off) (convert (λ ts (qs, same, are). (qs, same, inl (off, are))) (params_told m.params w))
all_told m (inr (set, none, main)) =
    regroup (ap (λ b. all_params b m.params) set)
    (convert (λ ts is. ([], sym (ap (map bare_param) none), inr (set, refl, main, is))) args_told)

abbrev Mods : Bool → List Token → Type 0
Mods b ts = AreModifiers modifiers ts × (has_static ts ≡ b)

public_word : IsWord (codes "public")
public_word = plain_word (codes "public") refl refl

static_word : IsWord (codes "static")
static_word = plain_word (codes "static") refl refl

mods_then : {ok : List ℕ → Type 0} {Q : List Token → Type 0} {text : List ℕ} (b : Bool) → Told ok Q text
    → Told ok (Both (Mods b) Q) (codes "public " ++ (static_text b ++ text))
mods_then false h =
    convert (λ ts (a, us, e, q). (tokens.word a (codes "public") ∷ [], us, e, (refl, refl), q))
    (word_then (codes "public") public_word (λ bytes o. refl) (space_then h))
mods_then true h =
    convert (λ ts (a, us, e, (b, vs, f, q)). (
      tokens.word a (codes "public") ∷ tokens.word b (codes "static") ∷ [],
      vs,
      e ∙ on f,
      (refl, refl),
      q,
    ))
    (word_then (codes "public") public_word (λ bytes o. refl)
    (space_then (word_then (codes "static") static_word (λ bytes o. refl) (space_then h))))

abbrev pub MethodPart : Method → List Token → Type 0
MethodPart m ts = (n : Method) × (bare_method n ≡ bare_method m) × IsMethod n ts

-- the lines of a body between braces
abbrev BodyPart : Stmts → List Token → Type 0
BodyPart body ts =
    (k l : Place) × (us : List Token) × (ts ≡ tokens.sign k signs.OpenBrace ∷ (us ++ tokens.sign l signs.CloseBrace ∷ []))
    × ItemsPart body us

body_told : (body : Stmts) → AreWrittenStmts body → depth_of_stmts body ≤ 399
    → Told Any (BodyPart body) (braced 1 (lines 2 body) ++ codes "\n")
body_told body w d = convert form (both {fine = Any} (braces_told 1 (items_told body w d 2)) (λ bytes o. tt) (line_then nothing))
  where
    form : (ts : List Token) → Both (Braces (ItemsPart body)) (λ us. us ≡ []) ts → BodyPart body ts
    form ts (us, vs, e, (k, t1, e1, (ws, t2, e2, items, (l, t3, e3, none))), last) =
        (k, l, ws, e ∙ past us last ∙ append_nil us ∙ e1 ∙ on (e2 ∙ past ws (e3 ∙ on none)), items)

pub method_told : (m : Method) → IsWrittenMethod m → depth_of_stmts m.body ≤ 399 → Told Any (MethodPart m) (method_lines m)
method_told m w d =
    convert form (space_then (space_then (space_then (space_then (mods_then m.is_static
    (type_then m.result w.word (word_then m.name (named m.name w.name) (λ bytes o. refl) (mark_then signs.OpenParen refl (λ c. refl)
    (both (all_told m w.params) (λ bytes o. refl) (mark_then signs.CloseParen refl (λ c. refl) (space_then
    (body_told m.body w.body d))))))))))))
  where
    form : (ts : List Token)
        → Both (Mods m.is_static) (Front (λ a. tokens.word a (type_word m.result))
        (Front (λ a. tokens.word a m.name) (Front (λ a. tokens.sign a signs.OpenParen)
        (Both (AllParams m) (Front (λ a. tokens.sign a signs.CloseParen) (BodyPart m.body)))))) ts
        → MethodPart m ts
    form ts (us, t1, e1, mods, (a, t2, e2, (b, t3, e3, (c, t4, e4, (vs, t5, e5, ps, (g, t6, e6, (k, l, ws, e7, body))))))) = (
      record {
        place = b;
        end = l;
        is_static = m.is_static;
        result = m.result;
        name = m.name;
        params = ps.0;
        takes_args = m.takes_args;
        body = body.0;
      },
      (λ i. record {
        place = nowhere;
        end = nowhere;
        is_static = m.is_static;
        result = m.result;
        name = m.name;
        params = ps.1 i;
        takes_args = m.takes_args;
        body = body.1 i;
      }),
      (
        w.result,
        w.name.name,
        a,
        c,
        g,
        k,
        us,
        vs,
        ws,
        e1 ∙ past us (e2 ∙ on (e3 ∙ on (e4 ∙ on (e5 ∙ past vs (e6 ∙ on e7))))),
        mods.0,
        mods.1,
        ps.2,
        body.2,
      ),
    )

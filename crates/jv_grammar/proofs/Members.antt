-- Members of classes are read exactly.
use Rattle.std.proofs.Common.{◌≡◌, ℕ, ◌<◌, ◌≤◌, List, [], ◌∷◌, ◌++◌, length, Bool, true, false, Option, Some, None, refl, sym, ap, ◌∙◌}
use Rattle.std.proofs.Common.{subst, append_assoc, length-append, arith, inl, inr, ◌⊎◌, true≢false}
use Rattle.std.specs.Prelude.{◌&&◌, ◌||◌, codes, if◌then◌else◌}
use Rattle.std.specs.Str.{bytes_eq}
use Rattle.std.proofs.lemmas.Slice.Eq.{bytes_eq-Decides}
use Rattle.mg_text.specs.Call.{Name}
use Rattle.mg_text.specs.declared.place.Place.{Place}
use Rattle.mg_read.specs.Reader.{all_of}
use Rattle.mg_read.proofs.Steps.{bind_some, some_is, none_is_not, chosen, Takes}
use Rattle.mg_read.proofs.Lists.{Each, IsExact, Starts, all_sound, all_complete}
use Rattle.ts_tree.specs.declared.parts.TypeName.{TypeName}
use Rattle.ts_tree.specs.declared.parts.TypeName.TheVariants as types
use Rattle.jv_tree.specs.declared.token.Sign.{Sign}
use Rattle.jv_tree.specs.declared.token.Sign.TheVariants as signs
use Rattle.jv_tree.specs.declared.token.TokenKind.{TokenKind}
use Rattle.jv_tree.specs.declared.token.TokenKind.TheVariants as kinds
use Rattle.jv_tree.specs.declared.token.Token.{Token}
use Rattle.jv_tree.specs.Source.{Expr}
use Rattle.jv_tree.specs.Source.{Stmts}
use Rattle.jv_tree.specs.Depth.{depth_of_stmts}
use Rattle.jv_tree.specs.Tokens.{word, sign, is_name, is_among, IsName}
use Rattle.jv_grammar.specs.Base.{sign_at, is_sign, is_sign_kind, word_at, is_word, name_at}
use Rattle.std.specs.List.{list_all}
use Rattle.jv_tree.specs.declared.tree.Param.{Param}
use Rattle.jv_tree.specs.Source.{Field, Method}
use Rattle.jv_tree.specs.Depth.{depth_of_value, depth_of_fields, depth_of_methods}
use Rattle.jv_tree.specs.Statements.{type_word, IsType, IsFinal, AreItems}
use Rattle.jv_tree.specs.Files.{Member, FieldMember, MethodMember, fields_among, methods_among, is_kind_among, AreModifiers, has_static}
use Rattle.jv_tree.specs.Files.{modifiers, IsInitialiser, IsParam, AreMoreParams, AreParams, IsArgs, IsMain, AreParamsOf, IsResult}
use Rattle.jv_tree.specs.Files.{IsMember, AreMembers}
use Rattle.jv_tree.specs.View.{stmts_of}
use Rattle.jv_grammar.specs.Stmts.{ended_at, after_final, type_at, items_at}
use Rattle.jv_grammar.specs.Files.{after_mods, static_mods, result_at, param_at, next_param_at, params_at, is_args, args_at, params_of_at}
use Rattle.jv_grammar.specs.Files.{is_void, is_main, method_at, field_at, member_with, member_at, not_closed, members_at}
use Rattle.jv_grammar.proofs.Steps.{Anything, after, glue, sign_is, word_is, name_is, name_is_not}
use Rattle.jv_grammar.proofs.StmtParts.{ended_exact, final_front, type_is, type_again, type_no_final, final_no_name, no_name_void}
use Rattle.jv_grammar.proofs.Nested.{stmt_exact, items_sound, items_complete, stmts-list_of}

pub no_name_public : is_name (codes "public") ≡ false
unfolding is_name
no_name_public = refl

pub no_name_private : is_name (codes "private") ≡ false
unfolding is_name
no_name_private = refl

pub no_name_protected : is_name (codes "protected") ≡ false
unfolding is_name
no_name_protected = refl

pub no_name_static : is_name (codes "static") ≡ false
unfolding is_name
no_name_static = refl

pub no_name_class : is_name (codes "class") ≡ false
unfolding is_name
no_name_class = refl

pub no_name_enum : is_name (codes "enum") ≡ false
unfolding is_name
no_name_enum = refl

pub no_name_package : is_name (codes "package") ≡ false
unfolding is_name
no_name_package = refl

pub no_name_import : is_name (codes "import") ≡ false
unfolding is_name
no_name_import = refl

pub word_is_not : (w n : Name) → IsName n → is_name w ≡ false → bytes_eq w n ≡ false
word_is_not w n h k = by_cases (bytes_eq w n) refl where
  by_cases : (b : Bool) → bytes_eq w n ≡ b → b ≡ false
  by_cases true e = absurd (true≢false (sym h ∙ ap is_name (sym ((bytes_eq-Decides w n).0 e)) ∙ k))
  by_cases false e = refl

pub and_is : (a b : Bool) → (a && b) ≡ true → (a ≡ true) × (b ≡ true)
and_is true b h = (refl, h)
and_is false b h = absurd cc

-- ---- modifiers

pub mods_front : (words : List Name) (ts : List Token) → (us : List Token) × (ts ≡ us ++ after_mods words ts) × AreModifiers words us
    × (has_static us ≡ static_mods words ts)
mods_front words [] = ([], refl, refl, refl)
mods_front words (t ∷ ts) = by_cases (is_kind_among words t.kind) refl (mods_front words ts) where
  by_cases : (b : Bool) → is_kind_among words t.kind ≡ b → (us : List Token) × (ts ≡ us ++ after_mods words ts) × AreModifiers words us
      × (has_static us ≡ static_mods words ts)
      → (us : List Token) × (t ∷ ts ≡ us ++ (if b then after_mods words ts else t ∷ ts)) × AreModifiers words us
      × (has_static us ≡ (if b then is_kind_among (codes "static" ∷ []) t.kind || static_mods words ts else false))
  by_cases true e more = (
    t ∷ more.0,
    ap (λ (z : List Token). t ∷ z) more.1,
    rw e more.2,
    ap (λ (b : Bool). is_kind_among (codes "static" ∷ []) t.kind || b)
        more.3,
  )
  by_cases false e more = ([], refl, refl, refl)

pub mods_again : (words : List Name) (us rest : List Token) → AreModifiers words us → after_mods words rest ≡ rest →
    static_mods words rest ≡ false
    → (after_mods words (us ++ rest) ≡ rest) × (static_mods words (us ++ rest) ≡ has_static us)
mods_again words [] rest h stops quiet = (stops, quiet)
mods_again words (t ∷ us) rest h stops quiet =
    let both = and_is (is_kind_among words t.kind) (list_all (λ u. is_kind_among words u.kind) us) h in
    let more = mods_again words us rest both.1 stops quiet in
    (rw both.0 more.0, rw both.0 (ap (λ (b : Bool). is_kind_among (codes "static" ∷ []) t.kind || b) more.1))

-- modifiers are words
pub mods_words : (words : List Name) (s : Sign) (us rest : List Token) → AreModifiers words us → is_sign s rest ≡ false →
    is_sign s (us ++ rest) ≡ false
mods_words words s [] rest h k = k
mods_words words s (t ∷ us) rest h k = by_kind t.kind (and_is (is_kind_among words t.kind) (list_all (λ u. is_kind_among words u.kind) us)
    h).0 where
      by_kind : (q : TokenKind) → is_kind_among words q ≡ true → is_sign_kind s q ≡ false
      by_kind (kinds.Word w) e = refl
      by_kind (kinds.Number n) e = absurd cc
      by_kind (kinds.Text t) e = absurd cc
      by_kind (kinds.Sign q) e = absurd cc

-- ---- types

pub result_is : (ts : List Token) (x : TypeName × List Token) → result_at ts ≡ Some x → (p : Place) × (ts ≡ word p (type_word x.0) ∷ x.1)
    × IsResult x.0
unfolding result_at
result_is ts x e =
    elim (chosen (is_word (codes "void") ts) _ _ (Some x) e) [
      | inl t ↦
          let a = bind_some (word_at (codes "void") ts) _ x t.1 in
          subst (λ (y : TypeName × List Token). (p : Place) × (ts ≡ word p (type_word y.0) ∷ y.1) × IsResult y.0)
          (some_is (types.Void, a.0.1) x a.2)
          (a.0.0, word_is (codes "void") ts a.0 a.1, inl refl)
      | inr t ↦ let h = type_is ts x t.1 in (h.0, h.1, inr h.2)
    ]

type_no_void : (ty : TypeName) → IsType ty → bytes_eq (type_word ty) (codes "void") ≡ false
type_no_void types.Void h = absurd h
type_no_void types.Int h = refl
type_no_void types.Boolean h = refl
type_no_void types.Text h = refl
type_no_void (types.Named n) h = name_is_not n (codes "void") h.0 no_name_void

pub result_again : (ty : TypeName) (p : Place) (ts : List Token) → IsResult ty → result_at (word p (type_word ty) ∷ ts) ≡ Some (ty, ts)
unfolding result_at
result_again ty p ts (inl h) = rw h refl
result_again ty p ts (inr h) = rw (type_no_void ty h) (type_again ty p ts h)

-- a type is no modifier
result_no_mod : (ty : TypeName) (p : Place) (ts : List Token) → IsResult ty →
    (after_mods modifiers (word p (type_word ty) ∷ ts) ≡ word p (type_word ty) ∷ ts)
    × (static_mods modifiers (word p (type_word ty) ∷ ts) ≡ false)
result_no_mod types.Void p ts h = (refl, refl)
result_no_mod types.Int p ts h = (refl, refl)
result_no_mod types.Boolean p ts h = (refl, refl)
result_no_mod types.Text p ts h = (refl, refl)
result_no_mod (types.Named n) p ts (inl h) = absurd cc
result_no_mod (types.Named n) p ts (inr (name, other)) = let e = among in (rw e refl, rw e refl) where
  among : is_among modifiers n ≡ false
  among = rw (
    word_is_not (codes "public") n name no_name_public,
    word_is_not (codes "private") n name no_name_private,
    word_is_not (codes "protected") n name no_name_protected,
    word_is_not (codes "static") n name no_name_static,
    word_is_not (codes "final") n name final_no_name,
  ) refl

-- ---- parameters

param_exact : IsExact param_at IsParam Anything
unfolding param_at
param_exact = record { sound = sound; complete = complete } where
  sound : (ts : List Token) (x : Param × List Token) → param_at ts ≡ Some x → Takes (IsParam x.0) ts x.1
  sound ts x e =
      let ty = bind_some (type_at (after_final ts)) _ x e in
      let n = bind_some (name_at ty.0.1) _ x ty.2 in
      let f = final_front ts in
      let of_type = type_is (after_final ts) ty.0 ty.1 in
      let name = name_is ty.0.1 n.0 n.1 in
      let back : List Token = word of_type.0 (type_word ty.0.0) ∷ word n.0.0.0 n.0.0.1 ∷ [] in
      subst (λ (y : Param × List Token). Takes (IsParam y.0) ts y.1)
      (some_is (record { place = n.0.0.0; ty = ty.0.0; name = n.0.0.1 }, n.0.1) x n.2)
      (record {
        front = f.0 ++ back;
        parts = glue f.0 back n.0.1 f.1 (after of_type.1 name.0);
        holds = (of_type.2, name.1, of_type.0, f.0, refl, f.2);
      })

  complete : (p : Param) (ts rest : List Token) → Anything rest → IsParam p ts → param_at (ts ++ rest) ≡ Some (p, rest)
  complete p ts rest fine (of_type, name, a, us, parts, final) = rw (parts, append_assoc) (by_final us final) where
    back : List Token
    back = word a (type_word p.ty) ∷ word p.place p.name ∷ rest

    by_final : (us : List Token) → IsFinal us → param_at (us ++ back) ≡ Some (p, rest)
    by_final us (inl h) = rw (h, type_no_final p.ty of_type, type_again p.ty a (word p.place p.name ∷ rest) of_type, name) refl
    by_final us (inr (q, h)) = rw (h, type_again p.ty a (word p.place p.name ∷ rest) of_type, name) refl

-- a parameter begins with a word, and is not that of `main`
param_led : (p : Param) (ts rest : List Token) → IsParam p ts → (is_sign signs.CloseParen (ts ++ rest) ≡ false)
    × (is_args (ts ++ rest) ≡ false) × (0 < length ts)
param_led p ts rest (of_type, name, a, us, parts, final) = rw (parts, append_assoc) (by_final us final) where
  typed : (ty : TypeName) → IsType ty → is_args (word a (type_word ty) ∷ word p.place p.name ∷ rest) ≡ false
  typed types.Void h = absurd h
  typed types.Int h = refl
  typed types.Boolean h = refl
  typed types.Text h = refl
  typed (types.Named n) h = by_cases (bytes_eq n (codes "String")) refl where
    by_cases : (b : Bool) → bytes_eq n (codes "String") ≡ b → (b && false) ≡ false
    by_cases true e = refl
    by_cases false e = refl

  by_final : (us : List Token) → IsFinal us → (is_sign signs.CloseParen (us ++ (word a (type_word p.ty) ∷ word p.place p.name ∷ rest)) ≡
      false) × (is_args (us ++ (word a (type_word p.ty) ∷ word p.place p.name ∷ rest)) ≡ false)
      × (0 < length (us ++ word a (type_word p.ty) ∷ word p.place p.name ∷ []))
  by_final us (inl h) = rw h (refl, typed p.ty of_type, omega arith)
  by_final us (inr (q, h)) = rw h (refl, refl, omega arith)

abbrev NextParam : Param → List Token → Type 0
NextParam p us = (a : Place) × (vs : List Token) × (us ≡ sign a signs.Comma ∷ vs) × IsParam p vs

next_exact : IsExact next_param_at NextParam Anything
unfolding next_param_at
next_exact = record { sound = sound; complete = complete } where
  sound : (ts : List Token) (x : Param × List Token) → next_param_at ts ≡ Some x → Takes (NextParam x.0) ts x.1
  sound ts x e =
      let a = bind_some (sign_at signs.Comma ts) _ x e in
      let one = param_exact.sound a.0.1 x a.2 in
      record {
        front = sign a.0.0 signs.Comma ∷ one.front;
        parts = after (sign_is signs.Comma ts a.0 a.1) one.parts;
        holds =
            (a.0.0, one.front, refl, one.holds);
      }

  complete : (p : Param) (ts rest : List Token) → Anything rest → NextParam p ts → next_param_at (ts ++ rest) ≡ Some (p, rest)
  complete p ts rest fine (a, vs, parts, h) = rw (parts, param_exact.complete p vs rest tt h) refl

next_goes : (p : Param) (ts rest : List Token) → NextParam p ts → is_sign signs.Comma (ts ++ rest) ≡ true
next_goes p ts rest (a, vs, parts, h) = rw parts refl

next_some : (p : Param) (ts : List Token) → NextParam p ts → 0 < length ts
next_some p ts (a, vs, parts, h) = rw parts (omega arith)

next_starts : Starts (is_sign signs.Comma) NextParam Anything
next_starts = record { follows = λ p ts rest h. tt; goes = next_goes; nonempty = next_some }

pub next_param_shorter : (ts : List Token) (x : Param × List Token) → next_param_at ts ≡ Some x → length x.1 < length ts
next_param_shorter ts x e =
    let t = next_exact.sound ts x e in
    omega (arith, ap length t.parts, length-append t.front x.1, next_some x.0 t.front t.holds)

each_more : (ps : List Param) (us : List Token) → Each NextParam ps us → AreMoreParams ps us
each_more [] us h = h
each_more (p ∷ ps) us (as_, bs, parts, (a, vs, starts, h), more) =
    (a, vs, bs, parts ∙ ap (λ (z : List Token). z ++ bs) starts, h, each_more ps bs more)

more_each : (ps : List Param) (us : List Token) → AreMoreParams ps us → Each NextParam ps us
more_each [] us h = h
more_each (p ∷ ps) us (a, vs, ws, parts, h, more) = (sign a signs.Comma ∷ vs, ws, parts, (a, vs, refl, h), more_each ps ws more)

params_sound : (ts : List Token) (x : List Param × List Token) → params_at ts ≡ Some x → Takes (AreParams x.0) ts x.1
unfolding params_at
params_sound ts x e =
    let s = bind_some (param_at ts) _ x e in
    let b = bind_some (all_of (is_sign signs.Comma) next_param_at s.0.1) _ x s.2 in
    let one = param_exact.sound ts s.0 s.1 in
    let more = all_sound (is_sign signs.Comma) next_param_at NextParam Anything next_exact s.0.1 b.0 b.1 in
    subst (λ (y : List Param × List Token). Takes (AreParams y.0) ts y.1) (some_is (s.0.0 ∷ b.0.0, b.0.1) x b.2)
    (record {
      front = one.front ++ more.front;
      parts = glue one.front more.front b.0.1 one.parts more.parts;
      holds =
          (one.front, more.front, refl, one.holds, each_more b.0.0 more.front more.holds);
    })

params_complete : (p : Param) (ps : List Param) (ts rest : List Token) → is_sign signs.Comma rest ≡ false → AreParams (p ∷ ps) ts →
    params_at (ts ++ rest) ≡ Some (p ∷ ps, rest)
unfolding params_at
params_complete p ps ts rest stops (us, vs, parts, h, more) =
    let first = param_exact.complete p us (vs ++ rest) tt h in
    let others = all_complete (is_sign signs.Comma) next_param_at NextParam Anything next_exact next_starts ps vs rest tt stops
    (more_each ps vs more) in
    rw (parts, append_assoc, first, others) refl

-- parameters, and whether they are that of `main`
abbrev ParamsOf : Bool → List Param × Bool → List Token → Type 0
ParamsOf main x us = ((x.1 ≡ false) × AreParams x.0 us) ⊎ ((x.1 ≡ true) × (x.0 ≡ []) × (main ≡ true) × IsArgs us)

params_of_sound : (main : Bool) (ts : List Token) (x : (List Param × Bool) × List Token) → params_of_at main ts ≡ Some x →
    Takes (ParamsOf main x.0) ts x.1
unfolding params_of_at args_at
params_of_sound main ts x e =
    elim (chosen (is_sign signs.CloseParen ts) _ _ (Some x) e) [
      | inl t ↦ subst (λ (y : (List Param × Bool) × List Token). Takes (ParamsOf main y.0) ts y.1) (some_is (([], false), ts) x t.1)
          (record { front = []; parts = refl; holds = inl (refl, refl) })
      | inr g ↦ elim (chosen (is_args ts) _ _ (Some x) g.1) [
        | inl t ↦ elim (chosen main _ _ (Some x) t.1) [
          | inl u ↦
              let r = bind_some (args_at ts) _ x u.1 in
              let a = bind_some (word_at (codes "String") ts) _ r.0 r.1 in
              let b = bind_some (sign_at signs.OpenBracket a.0.1) _ r.0 a.2 in
              let c = bind_some (sign_at signs.CloseBracket b.0.1) _ r.0 b.2 in
              let n = bind_some (name_at c.0.1) _ r.0 c.2 in
              let name = name_is c.0.1 n.0 n.1 in
              let rest : n.0.1 ≡ r.0 = some_is n.0.1 r.0 n.2 in
              subst (λ (y : (List Param × Bool) × List Token). Takes (ParamsOf main y.0) ts y.1) (some_is (([], true), r.0) x r.2)
              (record {
                front = word a.0.0 (codes "String") ∷ sign b.0.0 signs.OpenBracket ∷ sign c.0.0 signs.CloseBracket ∷ word n.0.0.0 n.0.0.1 ∷
                    [];
                parts = after (word_is (codes "String") ts a.0 a.1) (after (sign_is signs.OpenBracket a.0.1 b.0 b.1)
                    (after (sign_is signs.CloseBracket b.0.1 c.0 c.1)
                    (name.0 ∙ ap (λ (z : List Token). word n.0.0.0 n.0.0.1 ∷ z) rest)));
                holds = inr (refl, refl, u.0, (n.0.0.1, name.1, a.0.0, b.0.0, c.0.0, n.0.0.0, refl));
              })
          | inr u ↦ absurd (none_is_not x u.1)
        ]
        | inr t ↦
            let ps = bind_some (params_at ts) _ x t.1 in
            let one = params_sound ts ps.0 ps.1 in
            subst (λ (y : (List Param × Bool) × List Token). Takes (ParamsOf main y.0) ts y.1) (some_is ((ps.0.0, false), ps.0.1) x ps.2)
            (record { front = one.front; parts = one.parts; holds = inl (refl, one.holds) })
      ]
    ]

params_of_complete : (main takes : Bool) (ps : List Param) (c : Place) (us rest : List Token) → ParamsOf main (ps, takes) us →
    params_of_at main (us ++ sign c signs.CloseParen ∷ rest) ≡ Some ((ps, takes), sign c signs.CloseParen ∷ rest)
unfolding params_of_at args_at
params_of_complete main takes [] c us rest (inl (no_args, h)) = rw (h, no_args) refl
params_of_complete main takes (p ∷ ps) c us rest (inl (no_args, (vs, ws, parts, h, more))) =
    let led = param_led p vs (ws ++ sign c signs.CloseParen ∷ rest) h in
    let together : us ++ sign c signs.CloseParen ∷ rest ≡ vs ++ (ws ++ sign c signs.CloseParen ∷ rest) =
    ap (λ (z : List Token). z ++ sign c signs.CloseParen ∷ rest) parts ∙ append_assoc vs ws (sign c signs.CloseParen ∷ rest) in
    let unclosed : is_sign signs.CloseParen (us ++ sign c signs.CloseParen ∷ rest) ≡ false = ap (is_sign signs.CloseParen) together ∙
    led.0 in
    let no_main : is_args (us ++ sign c signs.CloseParen ∷ rest) ≡ false = ap is_args together ∙ led.1 in
    rw (unclosed, no_main, params_complete p ps us (sign c signs.CloseParen ∷ rest) refl (vs, ws, parts, h, more), no_args) refl
params_of_complete main takes ps c us rest (inr (args, none, is, (n, name, a, b, d, e, parts))) = rw (parts, args, none, is, name) refl

-- ---- methods

main_is : (static : Bool) (result : TypeName) (name : Name) → is_main static result name ≡ true → (static ≡ true) × (result ≡ types.Void)
    × (name ≡ codes "main")
main_is static result name h =
    let one = and_is static (is_void result && bytes_eq name (codes "main")) h in
    let two = and_is (is_void result) (bytes_eq name (codes "main")) one.1 in
    (one.0, void result two.0, (bytes_eq-Decides name (codes "main")).0 two.1) where
      void : (ty : TypeName) → is_void ty ≡ true → ty ≡ types.Void
      void types.Void h = refl
      void types.Int h = absurd cc
      void types.Boolean h = absurd cc
      void types.Text h = absurd cc
      void (types.Named n) h = absurd cc

main_again : (m : Method) → IsMain m → is_main m.is_static m.result m.name ≡ true
main_again m (static, result, name) = rw (static, result, name) refl

-- a method behind its name
abbrev Headed : Bool → TypeName → Place → Name → Method → List Token → Type 0
Headed static result p n m us =
    (m.is_static ≡ static) × (m.result ≡ result) × (m.place ≡ p) × (m.name ≡ n) × (b c g : Place) × (vs ws : List Token)
    × (us ≡ sign b signs.OpenParen ∷ (vs ++ sign c signs.CloseParen ∷ sign g signs.OpenBrace ∷ (ws ++ sign m.end signs.CloseBrace ∷ [])))
    × AreParamsOf m vs × AreItems m.body ws × (depth_of_stmts m.body ≤ 200)

method_sound : (static : Bool) (result : TypeName) (p : Place) (n : Name) (ts : List Token) (x : Method × List Token) →
    method_at static result p n ts ≡ Some x → Takes (Headed static result p n x.0) ts x.1
unfolding method_at items_at
method_sound static result p n ts x e =
    let a = bind_some (sign_at signs.OpenParen ts) _ x e in
    let ps = bind_some (params_of_at (is_main static result n) a.0.1) _ x a.2 in
    let c = bind_some (sign_at signs.CloseParen ps.0.1) _ x ps.2 in
    let g = bind_some (sign_at signs.OpenBrace c.0.1) _ x c.2 in
    let b = bind_some (items_at 200 g.0.1) _ x g.2 in
    let k = bind_some (sign_at signs.CloseBrace b.0.1) _ x b.2 in
    let params = params_of_sound (is_main static result n) a.0.1 ps.0 ps.1 in
    let body = items_sound 200 _ (stmt_exact 200) g.0.1 b.0 b.1 in
    let m : Method = record {
      place = p;
      end = k.0.0;
      is_static = static;
      result = result;
      name = n;
      params = ps.0.0.0;
      takes_args =
          ps.0.0.1;
      body = stmts_of b.0.0;
    } in
    let tail : List Token = sign c.0.0 signs.CloseParen ∷ sign g.0.0 signs.OpenBrace ∷ (body.front ++ sign k.0.0 signs.CloseBrace ∷ []) in
    let behind_params : ps.0.1 ≡ tail ++ k.0.1 =
    after (sign_is signs.CloseParen ps.0.1 c.0 c.1)
    (after (sign_is signs.OpenBrace c.0.1 g.0 g.1) (glue body.front (sign k.0.0 signs.CloseBrace ∷ []) k.0.1 body.parts
    (sign_is signs.CloseBrace b.0.1 k.0 k.1))) in
    subst (λ (y : Method × List Token). Takes (Headed static result p n y.0) ts y.1) (some_is (m, k.0.1) x k.2)
    (record {
      front = sign a.0.0 signs.OpenParen ∷ (params.front ++ tail);
      parts = after (sign_is signs.OpenParen ts a.0 a.1) (glue params.front tail k.0.1 params.parts behind_params);
      holds = (
        refl,
        refl,
        refl,
        refl,
        a.0.0,
        c.0.0,
        g.0.0,
        params.front,
        body.front,
        refl,
        of ps.0.0.0 ps.0.0.1 k.0.0 (stmts_of b.0.0)
            params.front params.holds,
        body.holds.0,
        body.holds.1,
      );
    }) where
      of : (ps : List Param) (takes : Bool) (end : Place) (body : Stmts) (us : List Token) → ParamsOf (is_main static result n) (ps, takes)
          us
          → AreParamsOf (record {
            place = p;
            end = end;
            is_static = static;
            result = result;
            name = n;
            params = ps;
            takes_args =
                takes;
            body = body;
          }) us
      of ps takes end body us (inl h) = inl h
      of ps takes end body us (inr (args, none, is, h)) = inr (args, none, main_is static result n is, h)

method_complete : (m : Method) (ts rest : List Token) → Headed m.is_static m.result m.place m.name m ts →
    method_at m.is_static m.result m.place m.name (ts ++ rest) ≡ Some (m, rest)
unfolding method_at items_at
method_complete m ts rest (s, r, q, k, b, c, g, vs, ws, parts, params, body, le) =
    let behind_params : List Token = sign g signs.OpenBrace ∷ ((ws ++ sign m.end signs.CloseBrace ∷ []) ++ rest) in
    let first = params_of_complete (is_main m.is_static m.result m.name) m.takes_args m.params c vs behind_params (of vs params) in
    let second = items_complete 200 _ (stmt_exact 200) m.body ws (sign m.end signs.CloseBrace ∷ rest) refl refl body le in
    rw (parts, append_assoc, first, append_assoc, second, stmts-list_of m.body) refl where
      of : (us : List Token) → AreParamsOf m us → ParamsOf (is_main m.is_static m.result m.name) (m.params, m.takes_args) us
      of us (inl h) = inl h
      of us (inr (args, none, is, h)) = inr (args, none, main_again m is, h)

-- ---- fields

-- a field behind its name
abbrev Valued : TypeName → Place → Name → Field → List Token → Type 0
Valued ty p n f us = (f.ty ≡ ty) × (f.place ≡ p) × (f.name ≡ n) × (b : Place) × (vs : List Token) × (us ≡ vs ++ sign b signs.Semicolon ∷ [])
    × IsInitialiser f.value vs × (depth_of_value f.value ≤ 200)

field_sound : (ty : TypeName) (p : Place) (n : Name) (ts : List Token) (x : Field × List Token) → field_at ty p n ts ≡ Some x →
    Takes (Valued ty p n x.0) ts x.1
unfolding field_at
field_sound ty p n ts x e =
    elim (chosen (is_sign signs.Assign ts) _ _ (Some x) e) [
      | inl t ↦
          let a = bind_some (sign_at signs.Assign ts) _ x t.1 in
          let v = bind_some (ended_at 200 a.0.1) _ x a.2 in
          let one = (ended_exact 200).sound a.0.1 v.0 v.1 in
          let (c, vs, parts, free, le) = one.holds in
          let f : Field = record { place = p; ty = ty; name = n; value = Some v.0.0 } in
          subst (λ (y : Field × List Token). Takes (Valued ty p n y.0) ts y.1) (some_is (f, v.0.1) x v.2)
          (record {
            front = sign a.0.0 signs.Assign ∷ one.front;
            parts = after (sign_is signs.Assign ts a.0 a.1) one.parts;
            holds = (
              refl,
              refl,
              refl,
              c,
              sign a.0.0 signs.Assign ∷ vs,
              ap (λ (z : List Token). sign a.0.0 signs.Assign ∷ z) parts,
              (a.0.0, vs, refl, free),
              le,
            );
          })
      | inr t ↦
          let a = bind_some (sign_at signs.Semicolon ts) _ x t.1 in
          let f : Field = record { place = p; ty = ty; name = n; value = None } in
          subst (λ (y : Field × List Token). Takes (Valued ty p n y.0) ts y.1) (some_is (f, a.0.1) x a.2)
          (record {
            front = sign a.0.0 signs.Semicolon ∷ [];
            parts = sign_is signs.Semicolon ts a.0 a.1;
            holds =
                (refl, refl, refl, a.0.0, [], refl, refl, omega arith);
          })
    ]

field_complete : (f : Field) (b : Place) (vs rest : List Token) → IsInitialiser f.value vs → depth_of_value f.value ≤ 200 →
    field_at f.ty f.place f.name (vs ++ sign b signs.Semicolon ∷ rest) ≡ Some (f, rest)
unfolding field_at
field_complete f b vs rest init le = by_value f.value init le where
  whole : Option Expr → Field
  whole v = record { place = f.place; ty = f.ty; name = f.name; value = v }

  by_value : (v : Option Expr) → IsInitialiser v vs → depth_of_value v ≤ 200 →
      field_at f.ty f.place f.name (vs ++ sign b signs.Semicolon ∷ rest) ≡ Some (
        record {
          place = f.place;
          ty = f.ty;
          name = f.name;
          value =
              v;
        },
        rest,
      )
  by_value None h le = rw h refl
  by_value (Some e) (a, us, parts, free) le =
      let reads : ended_at 200 ((us ++ sign b signs.Semicolon ∷ []) ++ rest) ≡ Some (e, rest) =
      (ended_exact 200).complete e (us ++ sign b signs.Semicolon ∷ []) rest tt (b, us, refl, free, le) in
      let read : ended_at 200 (us ++ sign b signs.Semicolon ∷ rest) ≡ Some (e, rest) =
      ap (ended_at 200) (sym (append_assoc us (sign b signs.Semicolon ∷ []) rest)) ∙ reads in
      rw (parts, read) refl

-- ---- members

abbrev pub depth_of_member : Member → ℕ
depth_of_member (FieldMember f) = depth_of_value f.value
depth_of_member (MethodMember m) = depth_of_stmts m.body

abbrev pub DeepMember : Member → List Token → Type 0
DeepMember m us = IsMember m us × (depth_of_member m ≤ 200)

or_is : (a b : Bool) → (a || b) ≡ false → (a ≡ false) × (b ≡ false)
or_is true b h = absurd cc
or_is false b h = (refl, h)

result_type : (ty : TypeName) → IsResult ty → is_void ty ≡ false → IsType ty
result_type types.Void h k = absurd cc
result_type types.Int h k = tt
result_type types.Boolean h k = tt
result_type types.Text h k = tt
result_type (types.Named n) (inl h) k = absurd cc
result_type (types.Named n) (inr h) k = h

type_not_void : (ty : TypeName) → IsType ty → is_void ty ≡ false
type_not_void types.Void h = absurd h
type_not_void types.Int h = refl
type_not_void types.Boolean h = refl
type_not_void types.Text h = refl
type_not_void (types.Named n) h = refl

-- the same tokens with a member's own type, place and name
place_in : (us : List Token) (a : Place) {ty ty' : TypeName} {p p' : Place} {n n' : Name} {ws vs : List Token} → ty' ≡ ty → p' ≡ p → n' ≡ n
    → ws ≡ vs
    → us ++ word a (type_word ty) ∷ word p n ∷ ws ≡ us ++ word a (type_word ty') ∷ word p' n' ∷ vs
place_in us a e f g h = λ i. us ++ word a (type_word (sym e i)) ∷ word (sym f i) (sym g i) ∷ h i

with_sound : (static : Bool) (us ts : List Token) (x : Member × List Token) → AreModifiers modifiers us → has_static us ≡ static →
    member_with static ts ≡ Some x → Takes (λ vs. DeepMember x.0 (us ++ vs)) ts x.1
unfolding member_with
with_sound static us ts x mods is e =
    let r = bind_some (result_at ts) _ x e in
    let n = bind_some (name_at r.0.1) _ x r.2 in
    let result = result_is ts r.0 r.1 in
    let name = name_is r.0.1 n.0 n.1 in
    let head : List Token = word result.0 (type_word r.0.0) ∷ word n.0.0.0 n.0.0.1 ∷ [] in
    elim (chosen (is_sign signs.OpenParen n.0.1) _ _ (Some x) n.2) [
      | inl t ↦
          let m = bind_some (method_at static r.0.0 n.0.0.0 n.0.0.1 n.0.1) _ x t.1 in
          let one = method_sound static r.0.0 n.0.0.0 n.0.0.1 n.0.1 m.0 m.1 in
          let (s, ty, q, k, b, c, g, vs, ws, parts, params, body, le) = one.holds in
          subst (λ (y : Member × List Token). Takes (λ vs. DeepMember y.0 (us ++ vs)) ts y.1) (some_is (MethodMember m.0.0, m.0.1) x m.2)
          (record {
            front = head ++ one.front;
            parts = after result.1 (after name.0 one.parts);
            holds = (
              (
                subst IsResult (sym ty) result.2,
                subst IsName (sym k) name.1,
                result.0,
                b,
                c,
                g,
                us,
                vs,
                ws,
                place_in us result.0 ty q k parts,
                mods,
                is ∙ sym s,
                params,
                body,
              ),
              le,
            );
          })
      | inr t ↦ elim (chosen (static || is_void r.0.0) _ _ (Some x) t.1) [
        | inl u ↦ absurd (none_is_not x u.1)
        | inr u ↦
            let f = bind_some (field_at r.0.0 n.0.0.0 n.0.0.1 n.0.1) _ x u.1 in
            let one = field_sound r.0.0 n.0.0.0 n.0.0.1 n.0.1 f.0 f.1 in
            let (ty, q, k, b, vs, parts, init, le) = one.holds in
            let both = or_is static (is_void r.0.0) u.0 in
            subst (λ (y : Member × List Token). Takes (λ vs. DeepMember y.0 (us ++ vs)) ts y.1) (some_is (FieldMember f.0.0, f.0.1) x f.2)
            (record {
              front = head ++ one.front;
              parts = after result.1 (after name.0 one.parts);
              holds = (
                (
                  subst IsType (sym ty) (result_type r.0.0 result.2 both.1),
                  subst IsName (sym k) name.1,
                  result.0,
                  b,
                  us,
                  vs,
                  place_in us result.0 ty q k parts,
                  mods,
                  is ∙ both.0,
                  init,
                ),
                le,
              );
            })
      ]
    ]

member_sound : (ts : List Token) (x : Member × List Token) → member_at ts ≡ Some x → Takes (DeepMember x.0) ts x.1
unfolding member_at
member_sound ts x e =
    let m = mods_front modifiers ts in
    let one = with_sound (static_mods modifiers ts) m.0 (after_mods modifiers ts) x m.2 m.3 e in
    record { front = m.0 ++ one.front; parts = glue m.0 one.front x.1 m.1 one.parts; holds = one.holds }

member_complete : (m : Member) (ts rest : List Token) → Anything rest → DeepMember m ts → member_at (ts ++ rest) ≡ Some (m, rest)
unfolding member_at member_with
member_complete (FieldMember f) ts rest fine ((of_type, name, a, b, us, vs, parts, mods, unstatic, init), le) =
    let back : List Token = word a (type_word f.ty) ∷ word f.place f.name ∷ ((vs ++ sign b signs.Semicolon ∷ []) ++ rest) in
    let quiet = result_no_mod f.ty a (word f.place f.name ∷ ((vs ++ sign b signs.Semicolon ∷ []) ++ rest)) (inr of_type) in
    let m = mods_again modifiers us back mods quiet.0 quiet.1 in
    let reads = result_again f.ty a (word f.place f.name ∷ (vs ++ sign b signs.Semicolon ∷ rest)) (inr of_type) in
    let field = field_complete f b vs rest init le in
    let shut : is_sign signs.OpenParen (vs ++ sign b signs.Semicolon ∷ rest) ≡ false = closed f.value vs init in
    rw (parts, append_assoc, m.0, m.1, append_assoc, reads, name, shut, unstatic, type_not_void f.ty of_type, field) refl where
      closed : (v : Option Expr) (vs : List Token) → IsInitialiser v vs → is_sign signs.OpenParen (vs ++ sign b signs.Semicolon ∷ rest) ≡
          false
      closed None vs h = rw h refl
      closed (Some e) vs (c, ws, starts, free) = rw starts refl
member_complete (MethodMember m) ts rest fine ((of_type, name, a, b, c, g, us, vs, ws, parts, mods, static, params, body), le) =
    let inside : List Token = sign b signs.OpenParen ∷ (vs ++ sign c signs.CloseParen ∷ sign g signs.OpenBrace ∷
    (ws ++ sign m.end signs.CloseBrace ∷ [])) in
    let back : List Token = word a (type_word m.result) ∷ word m.place m.name ∷ (inside ++ rest) in
    let quiet = result_no_mod m.result a (word m.place m.name ∷ (inside ++ rest)) of_type in
    let k = mods_again modifiers us back mods quiet.0 quiet.1 in
    let reads = result_again m.result a (word m.place m.name ∷ (inside ++ rest)) of_type in
    let method = method_complete m inside rest (refl, refl, refl, refl, b, c, g, vs, ws, refl, params, body, le) in
    rw (parts, append_assoc, k.0, k.1, static, reads, name, method) refl

member_exact : IsExact member_at DeepMember Anything
member_exact = record { sound = member_sound; complete = member_complete }

member_led : (m : Member) (ts rest : List Token) → DeepMember m ts → (is_sign signs.CloseBrace (ts ++ rest) ≡ false) × (0 < length ts)
member_led (FieldMember f) ts rest ((of_type, name, a, b, us, vs, parts, mods, unstatic, init), le) = (
  rw (parts, append_assoc) (mods_words modifiers signs.CloseBrace us (word a (type_word f.ty) ∷ word f.place f.name ∷
      ((vs ++ sign b signs.Semicolon ∷ []) ++ rest)) mods refl),
  omega (arith, ap length parts, length-append us (word a (type_word f.ty) ∷ word f.place f.name ∷ (vs ++ sign b signs.Semicolon ∷ []))),
)
member_led (MethodMember m) ts rest ((of_type, name, a, b, c, g, us, vs, ws, parts, mods, static, params, body), le) =
    let inside : List Token = sign b signs.OpenParen ∷ (vs ++ sign c signs.CloseParen ∷ sign g signs.OpenBrace ∷
    (ws ++ sign m.end signs.CloseBrace ∷ [])) in (
      rw (parts, append_assoc) (mods_words modifiers signs.CloseBrace us (word a (type_word m.result) ∷ word m.place m.name ∷
          (inside ++ rest)) mods refl),
      omega (arith, ap length parts, length-append us (word a (type_word m.result) ∷ word m.place m.name ∷ inside)),
    )

member_starts : Starts not_closed DeepMember Anything
member_starts = record {
  follows = λ m ts rest h. tt;
  goes = λ m ts rest h. rw (member_led m ts rest h).0 refl;
  nonempty = λ m ts h. (member_led m ts [] h).1;
}

pub member_shorter : (ts : List Token) (x : Member × List Token) → member_at ts ≡ Some x → length x.1 < length ts
member_shorter ts x e =
    let t = member_sound ts x e in
    omega (arith, ap length t.parts, length-append t.front x.1, member_starts.nonempty x.0 t.front t.holds)

each_members : (ms : List Member) (us : List Token) → Each DeepMember ms us → AreMembers ms us × (depth_of_fields (fields_among ms) ≤ 200)
    × (depth_of_methods (methods_among ms) ≤ 200)
each_members [] us h = (h, omega arith, omega arith)
each_members (FieldMember f ∷ ms) us (as_, bs, parts, (h, le), more) =
    let r = each_members ms bs more in ((as_, bs, parts, h, r.0), omega (arith, r.1, le), r.2)
each_members (MethodMember m ∷ ms) us (as_, bs, parts, (h, le), more) = let r = each_members ms bs more in (
  (as_, bs, parts, h, r.0),
  r.1,
  omega (arith, r.2, le),
)

members_each : (ms : List Member) (us : List Token) → AreMembers ms us → depth_of_fields (fields_among ms) ≤ 200 →
    depth_of_methods (methods_among ms) ≤ 200 → Each DeepMember ms us
members_each [] us h lf lm = h
members_each (FieldMember f ∷ ms) us (as_, bs, parts, h, more) lf lm =
    (as_, bs, parts, (h, omega arith), members_each ms bs more (omega arith) lm)
members_each (MethodMember m ∷ ms) us (as_, bs, parts, h, more) lf lm =
    (as_, bs, parts, (h, omega arith), members_each ms bs more lf (omega arith))

-- "{" { member } "}"
abbrev pub Braced : List Member → List Token → Type 0
Braced ms us =
    (b g : Place) × (ws : List Token) × (us ≡ sign b signs.OpenBrace ∷ (ws ++ sign g signs.CloseBrace ∷ [])) × AreMembers ms ws
    × (depth_of_fields (fields_among ms) ≤ 200) × (depth_of_methods (methods_among ms) ≤ 200)

pub members_exact : IsExact members_at Braced Anything
unfolding members_at
members_exact = record { sound = sound; complete = complete } where
  sound : (ts : List Token) (x : List Member × List Token) → members_at ts ≡ Some x → Takes (Braced x.0) ts x.1
  sound ts x e =
      let a = bind_some (sign_at signs.OpenBrace ts) _ x e in
      let m = bind_some (all_of not_closed member_at a.0.1) _ x a.2 in
      let c = bind_some (sign_at signs.CloseBrace m.0.1) _ x m.2 in
      let one = all_sound not_closed member_at DeepMember Anything member_exact a.0.1 m.0 m.1 in
      let r = each_members m.0.0 one.front one.holds in
      let end : List Token = sign c.0.0 signs.CloseBrace ∷ [] in
      subst (λ (y : List Member × List Token). Takes (Braced y.0) ts y.1) (some_is (m.0.0, c.0.1) x c.2)
      (record {
        front = sign a.0.0 signs.OpenBrace ∷ (one.front ++ end);
        parts = after (sign_is signs.OpenBrace ts a.0 a.1) (glue one.front end c.0.1 one.parts (sign_is signs.CloseBrace m.0.1 c.0 c.1));
        holds = (a.0.0, c.0.0, one.front, refl, r.0, r.1, r.2);
      })

  complete : (ms : List Member) (ts rest : List Token) → Anything rest → Braced ms ts → members_at (ts ++ rest) ≡ Some (ms, rest)
  complete ms ts rest fine (b, g, ws, parts, h, lf, lm) =
      let inner = all_complete not_closed member_at DeepMember Anything member_exact member_starts ms ws (sign g signs.CloseBrace ∷ rest) tt
      refl (members_each ms ws h lf lm) in
      rw (parts, append_assoc, inner) refl

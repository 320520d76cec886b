-- The parts of statements are read exactly.
use Rattle.std.proofs.Common.{◌≡◌, ℕ, suc, ◌<◌, ◌≤◌, List, [], ◌∷◌, ◌++◌, length, Bool, true, false, Option, Some, None, refl, sym, ap, ◌∙◌}
use Rattle.std.proofs.Common.{subst, append_assoc, length-append, arith, inl, inr, true≢false}
use Rattle.std.specs.Prelude.{codes, if◌then◌else◌}
use Rattle.std.specs.Str.{bytes_eq}
use Rattle.std.proofs.lemmas.Slice.Eq.{bytes_eq-Decides}
use Rattle.mg_text.specs.Call.{Name}
use Rattle.mg_text.specs.declared.place.Place.{Place}
use Rattle.mg_read.specs.Reader.{all_of}
use Rattle.mg_read.proofs.Steps.{bind_some, some_is, none_is_not, chosen, Takes}
use Rattle.mg_read.proofs.Lists.{Each, IsExact, Starts, all_sound, all_complete}
use Rattle.ts_tree.specs.declared.parts.TypeName.{TypeName}
use Rattle.ts_tree.specs.declared.parts.TypeName.TheVariants as types
use Rattle.jv_tree.specs.declared.token.Sign.TheVariants as signs
use Rattle.jv_tree.specs.declared.token.TokenKind.{TokenKind}
use Rattle.jv_tree.specs.declared.token.TokenKind.TheVariants as kinds
use Rattle.jv_tree.specs.declared.token.Token.{Token}
use Rattle.jv_tree.specs.Source.{Expr}
use Rattle.jv_tree.specs.Source.{Stmt, Block, Empty, Local, Assign, If, IfElse, While, Do, Switch, Break, Continue, Return, Print, Eval}
use Rattle.jv_tree.specs.Depth.{depth, depth_of_stmt}
use Rattle.jv_tree.specs.Tokens.{word, sign, is_name, IsName}
use Rattle.jv_grammar.specs.Base.{sign_at, is_sign, word_at, is_word, is_word_kind, name_at, is_named}
use Rattle.jv_tree.specs.Expressions.{IsInner}
use Rattle.jv_tree.specs.Statements.{IsFree, IsCondition, type_word, IsType, IsFinal, IsOptionalName, IsLocal, IsCase, AreMoreCases}
use Rattle.jv_tree.specs.Statements.{AreCases, IsStmt}
use Rattle.jv_grammar.specs.Exprs.{expr_at, inner_at, closed_at}
use Rattle.jv_grammar.specs.Stmts.{cond_at, ended_at, after_final, type_in, type_kind, type_at, declared_at, local_at, is_case, case_at}
use Rattle.jv_grammar.specs.Stmts.{cases_at, jump_at, break_at, continue_at, return_at, empty_at}
use Rattle.jv_grammar.proofs.Steps.{Anything, after, glue, sign_is, word_is, name_is, name_is_not}
use Rattle.jv_grammar.proofs.Args.{before_semicolon, closed_sound, closed_complete}
use Rattle.jv_grammar.proofs.Exprs.{inner_reading, expr_exact, expr_begins}
use Rattle.jv_grammar.proofs.Beginnings.{begins_more, begins_no_sign}

abbrev pub Condition : ℕ → Expr → List Token → Type 0
Condition d e us = IsCondition e us × (depth e ≤ d)

pub cond_exact : (d : ℕ) → IsExact (cond_at d) (Condition d) Anything
unfolding cond_at closed_at
cond_exact d = record { sound = sound; complete = complete } where
  sound : (ts : List Token) (x : Expr × List Token) → cond_at d ts ≡ Some x → Takes (Condition d x.0) ts x.1
  sound ts x e =
      let a = bind_some (sign_at signs.OpenParen ts) _ x e in
      let one = closed_sound (inner_at 400 d) (IsInner 400) d (inner_reading 400 d) a.0.1 x a.2 in
      let (b, vs, parts, (spelled, le)) = one.holds in
      record {
        front = sign a.0.0 signs.OpenParen ∷ one.front;
        parts = after (sign_is signs.OpenParen ts a.0 a.1) one.parts;
        holds = ((a.0.0, b, vs, ap (λ (z : List Token). sign a.0.0 signs.OpenParen ∷ z) parts, spelled), le);
      }

  complete : (e : Expr) (ts rest : List Token) → Anything rest → Condition d e ts → cond_at d (ts ++ rest) ≡ Some (e, rest)
  complete e ts rest fine ((a, b, us, parts, h), le) =
      rw (parts, append_assoc) (closed_complete (inner_at 400 d) (IsInner 400) d (inner_reading 400 d) e b us rest (h, le))

-- expr ";"
abbrev pub EndedExpr : ℕ → Expr → List Token → Type 0
EndedExpr d e us = (c : Place) × (vs : List Token) × (us ≡ vs ++ sign c signs.Semicolon ∷ []) × IsFree e vs × (depth e ≤ d)

pub ended_exact : (d : ℕ) → IsExact (ended_at d) (EndedExpr d) Anything
unfolding ended_at
ended_exact d = record { sound = sound; complete = complete } where
  sound : (ts : List Token) (x : Expr × List Token) → ended_at d ts ≡ Some x → Takes (EndedExpr d x.0) ts x.1
  sound ts x e =
      let a = bind_some (expr_at 400 d ts) _ x e in
      let c = bind_some (sign_at signs.Semicolon a.0.1) _ x a.2 in
      let one = (expr_exact 400 d).sound ts a.0 a.1 in
      subst (λ (y : Expr × List Token). Takes (EndedExpr d y.0) ts y.1) (some_is (a.0.0, c.0.1) x c.2)
      (record {
        front = one.front ++ sign c.0.0 signs.Semicolon ∷ [];
        parts = glue one.front (sign c.0.0 signs.Semicolon ∷ []) c.0.1 one.parts (sign_is signs.Semicolon a.0.1 c.0 c.1);
        holds = (c.0.0, one.front, refl, one.holds.0, one.holds.1);
      })

  complete : (e : Expr) (ts rest : List Token) → Anything rest → EndedExpr d e ts → ended_at d (ts ++ rest) ≡ Some (e, rest)
  complete e ts rest fine (c, us, parts, h, le) = rw (
    parts,
    append_assoc,
    (expr_exact 400 d).complete e us (sign c signs.Semicolon ∷ rest)
        (before_semicolon c rest) (h, le),
  ) refl

-- ---- types and declarations

pub final_front : (ts : List Token) → (us : List Token) × (ts ≡ us ++ after_final ts) × IsFinal us
final_front [] = ([], refl, inl refl)
final_front (t ∷ ts) = by_cases (is_word (codes "final") (t ∷ ts)) refl where
  by_cases : (b : Bool) → is_word (codes "final") (t ∷ ts) ≡ b → (us : List Token) × (t ∷ ts ≡ us ++ (if b then ts else t ∷ ts))
      × IsFinal us
  by_cases true e =
      let reads : word_at (codes "final") (t ∷ ts) ≡ Some (t.place, ts) = reads_word t.place t.kind e in
      (t ∷ [], refl, inr (t.place, ap (λ (z : List Token). first_of z) (word_is (codes "final") (t ∷ ts) (t.place, ts) reads))) where
        first_of : List Token → List Token
        first_of [] = []
        first_of (u ∷ us) = u ∷ []

        reads_word : (p : Place) (k : TokenKind) → is_word_kind (codes "final") k ≡ true →
            word_at (codes "final") (record { kind = k; place = p } ∷ ts) ≡ Some (p, ts)
        reads_word p (kinds.Word w) h = rw h refl
        reads_word p (kinds.Number n) h = absurd cc
        reads_word p (kinds.Text t) h = absurd cc
        reads_word p (kinds.Sign s) h = absurd cc
  by_cases false e = ([], refl, inl refl)

pub final_no_name : is_name (codes "final") ≡ false
unfolding is_name
final_no_name = refl

pub no_name_int : is_name (codes "int") ≡ false
unfolding is_name
no_name_int = refl

pub no_name_boolean : is_name (codes "boolean") ≡ false
unfolding is_name
no_name_boolean = refl

pub no_name_void : is_name (codes "void") ≡ false
unfolding is_name
no_name_void = refl

pub name_String : is_name (codes "String") ≡ true
unfolding is_name
name_String = refl

type_in_is : (w : Name) (ty : TypeName) → type_in w ≡ Some ty → (w ≡ type_word ty) × IsType ty
unfolding type_in
type_in_is w ty e =
    elim (chosen (is_name w) _ _ (Some ty) e) [
      | inl t ↦ named (bytes_eq w (codes "String")) refl t.0 t.1
      | inr f ↦ elim (chosen (bytes_eq w (codes "int")) _ _ (Some ty) f.1) [
        | inl t ↦ subst (λ (y : TypeName). (w ≡ type_word y) × IsType y) (some_is types.Int ty t.1)
            ((bytes_eq-Decides w (codes "int")).0 t.0, tt)
        | inr f ↦ elim (chosen (bytes_eq w (codes "boolean")) _ _ (Some ty) f.1) [
          | inl t ↦ subst (λ (y : TypeName). (w ≡ type_word y) × IsType y) (some_is types.Boolean ty t.1)
              ((bytes_eq-Decides w (codes "boolean")).0 t.0, tt)
          | inr f ↦ absurd (none_is_not ty f.1)
        ]
      ]
    ] where
      named : (b : Bool) → bytes_eq w (codes "String") ≡ b → is_name w ≡ true → Some (if b then types.Text else types.Named w) ≡ Some ty →
          (w ≡ type_word ty) × IsType ty
      named true e name h = subst (λ (y : TypeName). (w ≡ type_word y) × IsType y) (some_is types.Text ty h)
          ((bytes_eq-Decides w (codes "String")).0 e, tt)
      named false e name h =
          subst (λ (y : TypeName). (w ≡ type_word y) × IsType y) (some_is (types.Named w) ty h)
          (refl, (name, λ same. true≢false (sym ((bytes_eq-Decides w (codes "String")).1 same) ∙ e)))

pub type_is : (ts : List Token) (x : TypeName × List Token) → type_at ts ≡ Some x → (p : Place) × (ts ≡ word p (type_word x.0) ∷ x.1)
    × IsType x.0
type_is [] x e = absurd (none_is_not x e)
type_is (t ∷ ts) x e = by_kind t.place t.kind e where
  by_kind : (p : Place) (k : TokenKind) → type_kind k ts ≡ Some x →
      (q : Place) × (record { kind = k; place = p } ∷ ts ≡ word q (type_word x.0) ∷ x.1) × IsType x.0
  by_kind p (kinds.Word w) e =
      let ty = bind_some (type_in w) _ x e in
      let h = type_in_is w ty.0 ty.1 in
      subst (λ (y : TypeName × List Token). (q : Place) × (word p w ∷ ts ≡ word q (type_word y.0) ∷ y.1) × IsType y.0)
      (some_is (ty.0, ts) x ty.2)
      (p, ap (λ (v : Name). word p v ∷ ts) h.0, h.1)
  by_kind p (kinds.Number n) e = absurd (none_is_not x e)
  by_kind p (kinds.Text t) e = absurd (none_is_not x e)
  by_kind p (kinds.Sign s) e = absurd (none_is_not x e)

pub type_in_again : (ty : TypeName) → IsType ty → type_in (type_word ty) ≡ Some ty
unfolding type_in
type_in_again types.Void h = absurd h
type_in_again types.Int h = rw no_name_int refl
type_in_again types.Boolean h = rw no_name_boolean refl
type_in_again types.Text h = rw name_String refl
type_in_again (types.Named n) (name, other) = let differs = not_same (bytes_eq n (codes "String")) refl in rw (name, differs) refl where
  not_same : (b : Bool) → bytes_eq n (codes "String") ≡ b → bytes_eq n (codes "String") ≡ false
  not_same true e = absurd (other ((bytes_eq-Decides n (codes "String")).0 e))
  not_same false e = e

pub type_again : (ty : TypeName) (p : Place) (ts : List Token) → IsType ty → type_at (word p (type_word ty) ∷ ts) ≡ Some (ty, ts)
type_again ty p ts h = rw (type_in_again ty h) refl

-- a type's word is not "final"
pub type_no_final : (ty : TypeName) → IsType ty → bytes_eq (type_word ty) (codes "final") ≡ false
type_no_final types.Void h = absurd h
type_no_final types.Int h = refl
type_no_final types.Boolean h = refl
type_no_final types.Text h = refl
type_no_final (types.Named n) h = name_is_not n (codes "final") h.0 final_no_name

-- the rest of a declaration
abbrev Declared : ℕ → Stmt → List Token → Type 0
Declared d s ts =
    (p a b c : Place) × (ty : TypeName) × (n : Name) × (e : Expr) × (vs : List Token) × (s ≡ Local p ty n e) × IsType ty × IsName n
    × (ts ≡ word a (type_word ty) ∷ word p n ∷ sign b signs.Assign ∷ (vs ++ sign c signs.Semicolon ∷ [])) × IsFree e vs × (depth e ≤ d)

declared_sound : (d : ℕ) (ts : List Token) (x : Stmt × List Token) → declared_at d ts ≡ Some x → Takes (Declared d x.0) ts x.1
unfolding declared_at
declared_sound d ts x e =
    let ty = bind_some (type_at ts) _ x e in
    let n = bind_some (name_at ty.0.1) _ x ty.2 in
    let a = bind_some (sign_at signs.Assign n.0.1) _ x n.2 in
    let v = bind_some (ended_at d a.0.1) _ x a.2 in
    let of_type = type_is ts ty.0 ty.1 in
    let name = name_is ty.0.1 n.0 n.1 in
    let one = (ended_exact d).sound a.0.1 v.0 v.1 in
    let (c, vs, parts, free, le) = one.holds in
    subst (λ (y : Stmt × List Token). Takes (Declared d y.0) ts y.1) (some_is (Local n.0.0.0 ty.0.0 n.0.0.1 v.0.0, v.0.1) x v.2)
    (record {
      front = word of_type.0 (type_word ty.0.0) ∷ word n.0.0.0 n.0.0.1 ∷ sign a.0.0 signs.Assign ∷ one.front;
      parts = after of_type.1 (after name.0 (after (sign_is signs.Assign n.0.1 a.0 a.1) one.parts));
      holds = (
        n.0.0.0,
        of_type.0,
        a.0.0,
        c,
        ty.0.0,
        n.0.0.1,
        v.0.0,
        vs,
        refl,
        of_type.2,
        name.1,
        ap (λ (z : List Token). word of_type.0 (type_word ty.0.0) ∷ word n.0.0.0 n.0.0.1 ∷ sign a.0.0 signs.Assign ∷ z) parts,
        free,
        le,
      );
    })

abbrev pub DeepLocal : ℕ → Stmt → List Token → Type 0
DeepLocal d s us = IsLocal s us × (depth_of_stmt s ≤ suc d)

pub local_sound : (d : ℕ) (ts : List Token) (x : Stmt × List Token) → local_at d ts ≡ Some x → Takes (DeepLocal d x.0) ts x.1
unfolding local_at
local_sound d ts x e =
    let f = final_front ts in
    let one = declared_sound d (after_final ts) x e in
    let (p, a, b, c, ty, n, v, vs, is, of_type, name, parts, free, le) = one.holds in
    record {
      front = f.0 ++ one.front;
      parts = glue f.0 one.front x.1 f.1 one.parts;
      holds = subst (λ (s : Stmt). DeepLocal d s (f.0 ++ one.front)) (sym is)
          ((of_type, name, a, b, c, f.0, vs, ap (λ (z : List Token). f.0 ++ z) parts, f.2, free), omega (arith, le));
    }

pub local_complete : (d : ℕ) (s : Stmt) (ts rest : List Token) → DeepLocal d s ts → local_at d (ts ++ rest) ≡ Some (s, rest)
unfolding local_at declared_at
local_complete d (Block p body end) ts rest (h, le) = absurd h
local_complete d (Empty p) ts rest (h, le) = absurd h
local_complete d (Local p ty n e) ts rest ((of_type, name, a, b, c, us, vs, parts, final, free), le) =
    rw (parts, append_assoc) (by_final us final) where
      reads : declared_at d (word a (type_word ty) ∷ word p n ∷ sign b signs.Assign ∷ ((vs ++ sign c signs.Semicolon ∷ []) ++ rest)) ≡ Some
          (Local p ty n e, rest)
      reads = rw (
        type_in_again ty of_type,
        name,
        (ended_exact d).complete e (vs ++ sign c signs.Semicolon ∷ []) rest tt
            (c, vs, refl, free, omega arith),
      ) refl

      by_final : (us : List Token) → IsFinal us →
          declared_at d (after_final (us ++ (word a (type_word ty) ∷ word p n ∷ sign b signs.Assign ∷ ((vs ++ sign c signs.Semicolon ∷ [])
          ++ rest)))) ≡ Some (Local p ty n e, rest)
      by_final us (inl h) = rw (h, type_no_final ty of_type) reads
      by_final us (inr (q, h)) = rw h reads
local_complete d (Assign p t e) ts rest (h, le) = absurd h
local_complete d (If p c s) ts rest (h, le) = absurd h
local_complete d (IfElse p c s r) ts rest (h, le) = absurd h
local_complete d (While p l c s) ts rest (h, le) = absurd h
local_complete d (Do p l s c) ts rest (h, le) = absurd h
local_complete d (Switch p e gs end) ts rest (h, le) = absurd h
local_complete d (Break p l) ts rest (h, le) = absurd h
local_complete d (Continue p l) ts rest (h, le) = absurd h
local_complete d (Return p e) ts rest (h, le) = absurd h
local_complete d (Print p e) ts rest (h, le) = absurd h
local_complete d (Eval p e) ts rest (h, le) = absurd h

-- ---- the labels of groups

case_sound : (ts : List Token) (x : Option Name × List Token) → case_at ts ≡ Some x → Takes (IsCase x.0) ts x.1
unfolding case_at
case_sound ts x e =
    elim (chosen (is_word (codes "default") ts) _ _ (Some x) e) [
      | inl t ↦
          let a = bind_some (word_at (codes "default") ts) _ x t.1 in
          let b = bind_some (sign_at signs.Colon a.0.1) _ x a.2 in
          subst (λ (y : Option Name × List Token). Takes (IsCase y.0) ts y.1) (some_is (None, b.0.1) x b.2)
          (record {
            front = word a.0.0 (codes "default") ∷ sign b.0.0 signs.Colon ∷ [];
            parts = after (word_is (codes "default") ts a.0 a.1) (sign_is signs.Colon a.0.1 b.0 b.1);
            holds = (a.0.0, b.0.0, refl);
          })
      | inr f ↦
          let a = bind_some (word_at (codes "case") ts) _ x f.1 in
          let n = bind_some (name_at a.0.1) _ x a.2 in
          let b = bind_some (sign_at signs.Colon n.0.1) _ x n.2 in
          let name = name_is a.0.1 n.0 n.1 in
          subst (λ (y : Option Name × List Token). Takes (IsCase y.0) ts y.1) (some_is (Some n.0.0.1, b.0.1) x b.2)
          (record {
            front = word a.0.0 (codes "case") ∷ word n.0.0.0 n.0.0.1 ∷ sign b.0.0 signs.Colon ∷ [];
            parts = after (word_is (codes "case") ts a.0 a.1) (after name.0 (sign_is signs.Colon n.0.1 b.0 b.1));
            holds = (name.1, a.0.0, n.0.0.0, b.0.0, refl);
          })
    ]

case_complete : (l : Option Name) (ts rest : List Token) → Anything rest → IsCase l ts → case_at (ts ++ rest) ≡ Some (l, rest)
unfolding case_at
case_complete None ts rest fine (a, b, parts) = rw parts refl
case_complete (Some n) ts rest fine (name, a, b, c, parts) = rw (parts, name) refl

case_exact : IsExact case_at IsCase Anything
case_exact = record { sound = case_sound; complete = case_complete }

case_goes : (l : Option Name) (ts rest : List Token) → IsCase l ts → is_case (ts ++ rest) ≡ true
case_goes None ts rest (a, b, parts) = rw parts refl
case_goes (Some n) ts rest (name, a, b, c, parts) = rw parts refl

case_some : (l : Option Name) (ts : List Token) → IsCase l ts → 0 < length ts
case_some None ts (a, b, parts) = rw parts (omega arith)
case_some (Some n) ts (name, a, b, c, parts) = rw parts (omega arith)

case_starts : Starts is_case IsCase Anything
case_starts = record { follows = λ l ts rest h. tt; goes = case_goes; nonempty = case_some }

more_each : (ls : List (Option Name)) (us : List Token) → AreMoreCases ls us → Each IsCase ls us
more_each [] us h = h
more_each (l ∷ ls) us (ps, qs, parts, one, more) = (ps, qs, parts, one, more_each ls qs more)

each_more : (ls : List (Option Name)) (us : List Token) → Each IsCase ls us → AreMoreCases ls us
each_more [] us h = h
each_more (l ∷ ls) us (ps, qs, parts, one, more) = (ps, qs, parts, one, each_more ls qs more)

pub case_shorter : (ts : List Token) (x : Option Name × List Token) → case_at ts ≡ Some x → length x.1 < length ts
case_shorter ts x e =
    let t = case_sound ts x e in
    omega (arith, ap length t.parts, length-append t.front x.1, case_some x.0 t.front t.holds)

abbrev pub NotCase : List Token → Type 0
NotCase ts = is_case ts ≡ false

pub cases_exact : IsExact cases_at AreCases NotCase
unfolding cases_at
cases_exact = record { sound = sound; complete = complete } where
  sound : (ts : List Token) (x : List (Option Name) × List Token) → cases_at ts ≡ Some x → Takes (AreCases x.0) ts x.1
  sound ts x e =
      let s = bind_some (case_at ts) _ x e in
      let b = bind_some (all_of is_case case_at s.0.1) _ x s.2 in
      let one = case_sound ts s.0 s.1 in
      let more = all_sound is_case case_at IsCase Anything case_exact s.0.1 b.0 b.1 in
      subst (λ (y : List (Option Name) × List Token). Takes (AreCases y.0) ts y.1) (some_is (s.0.0 ∷ b.0.0, b.0.1) x b.2)
      (record {
        front = one.front ++ more.front;
        parts = glue one.front more.front b.0.1 one.parts more.parts;
        holds =
            (one.front, more.front, refl, one.holds, each_more b.0.0 more.front more.holds);
      })

  complete : (ls : List (Option Name)) (ts rest : List Token) → NotCase rest → AreCases ls ts → cases_at (ts ++ rest) ≡ Some (ls, rest)
  complete [] ts rest fine h = absurd h
  complete (l ∷ ls) ts rest fine (us, vs, parts, one, more) =
      let first = case_complete l us (vs ++ rest) tt one in
      let others = all_complete is_case case_at IsCase Anything case_exact case_starts ls vs rest tt fine (more_each ls vs more) in
      rw (parts, append_assoc, first, others) refl

pub cases_go : (ls : List (Option Name)) (ts rest : List Token) → AreCases ls ts → is_case (ts ++ rest) ≡ true
cases_go [] ts rest h = absurd h
cases_go (l ∷ ls) ts rest (us, vs, parts, one, more) = rw (parts, append_assoc) (case_goes l us (vs ++ rest) one)

pub cases_some : (ls : List (Option Name)) (ts : List Token) → AreCases ls ts → 0 < length ts
cases_some [] ts h = absurd h
cases_some (l ∷ ls) ts (us, vs, parts, one, more) = omega (arith, case_some l us one, ap length parts, length-append us vs)

-- ---- jumps

-- [ name ] ";"
abbrev Jump : Option Name → List Token → Type 0
Jump l us = (a : Place) × (vs : List Token) × (us ≡ vs ++ sign a signs.Semicolon ∷ []) × IsOptionalName l vs

jump_sound : (ts : List Token) (x : Option Name × List Token) → jump_at ts ≡ Some x → Takes (Jump x.0) ts x.1
unfolding jump_at
jump_sound ts x e =
    elim (chosen (is_named ts) _ _ (Some x) e) [
      | inl t ↦
          let n = bind_some (name_at ts) _ x t.1 in
          let c = bind_some (sign_at signs.Semicolon n.0.1) _ x n.2 in
          let name = name_is ts n.0 n.1 in
          subst (λ (y : Option Name × List Token). Takes (Jump y.0) ts y.1) (some_is (Some n.0.0.1, c.0.1) x c.2)
          (record {
            front = word n.0.0.0 n.0.0.1 ∷ sign c.0.0 signs.Semicolon ∷ [];
            parts = after name.0 (sign_is signs.Semicolon n.0.1 c.0 c.1);
            holds = (c.0.0, word n.0.0.0 n.0.0.1 ∷ [], refl, (name.1, n.0.0.0, refl));
          })
      | inr f ↦
          let c = bind_some (sign_at signs.Semicolon ts) _ x f.1 in
          subst (λ (y : Option Name × List Token). Takes (Jump y.0) ts y.1) (some_is (None, c.0.1) x c.2)
          (record { front = sign c.0.0 signs.Semicolon ∷ []; parts = sign_is signs.Semicolon ts c.0 c.1; holds = (c.0.0, [], refl, refl) })
    ]

jump_complete : (l : Option Name) (a : Place) (us rest : List Token) → IsOptionalName l us →
    jump_at ((us ++ sign a signs.Semicolon ∷ []) ++ rest) ≡ Some (l, rest)
unfolding jump_at
jump_complete None a us rest h = rw h refl
jump_complete (Some n) a us rest (name, q, h) = rw (h, name) refl

-- a statement, at most so deep
abbrev pub DeepStmt : ℕ → Stmt → List Token → Type 0
DeepStmt d s us = IsStmt s us × (depth_of_stmt s ≤ d)

pub break_sound : (d : ℕ) (ts : List Token) (x : Stmt × List Token) → break_at ts ≡ Some x → Takes (DeepStmt (suc d) x.0) ts x.1
unfolding break_at
break_sound d ts x e =
    let a = bind_some (word_at (codes "break") ts) _ x e in
    let l = bind_some (jump_at a.0.1) _ x a.2 in
    let one = jump_sound a.0.1 l.0 l.1 in
    let (c, vs, parts, name) = one.holds in
    subst (λ (y : Stmt × List Token). Takes (DeepStmt (suc d) y.0) ts y.1) (some_is (Break a.0.0 l.0.0, l.0.1) x l.2)
    (record {
      front = word a.0.0 (codes "break") ∷ one.front;
      parts = after (word_is (codes "break") ts a.0 a.1) one.parts;
      holds = ((c, vs, ap (λ (z : List Token). word a.0.0 (codes "break") ∷ z) parts, name), omega arith);
    })

pub break_complete : (p : Place) (l : Option Name) (ts rest : List Token) → IsStmt (Break p l) ts →
    break_at (ts ++ rest) ≡ Some (Break p l, rest)
unfolding break_at
break_complete p l ts rest (a, us, parts, name) = rw (parts, jump_complete l a us rest name) refl

pub continue_sound : (d : ℕ) (ts : List Token) (x : Stmt × List Token) → continue_at ts ≡ Some x → Takes (DeepStmt (suc d) x.0) ts x.1
unfolding continue_at
continue_sound d ts x e =
    let a = bind_some (word_at (codes "continue") ts) _ x e in
    let l = bind_some (jump_at a.0.1) _ x a.2 in
    let one = jump_sound a.0.1 l.0 l.1 in
    let (c, vs, parts, name) = one.holds in
    subst (λ (y : Stmt × List Token). Takes (DeepStmt (suc d) y.0) ts y.1) (some_is (Continue a.0.0 l.0.0, l.0.1) x l.2)
    (record {
      front = word a.0.0 (codes "continue") ∷ one.front;
      parts = after (word_is (codes "continue") ts a.0 a.1) one.parts;
      holds = ((c, vs, ap (λ (z : List Token). word a.0.0 (codes "continue") ∷ z) parts, name), omega arith);
    })

pub continue_complete : (p : Place) (l : Option Name) (ts rest : List Token) → IsStmt (Continue p l) ts →
    continue_at (ts ++ rest) ≡ Some (Continue p l, rest)
unfolding continue_at
continue_complete p l ts rest (a, us, parts, name) = rw (parts, jump_complete l a us rest name) refl

pub return_sound : (d : ℕ) (ts : List Token) (x : Stmt × List Token) → return_at d ts ≡ Some x → Takes (DeepStmt (suc d) x.0) ts x.1
unfolding return_at
return_sound d ts x e =
    let a = bind_some (word_at (codes "return") ts) _ x e in
    let start = word_is (codes "return") ts a.0 a.1 in
    elim (chosen (is_sign signs.Semicolon a.0.1) _ _ (Some x) a.2) [
      | inl t ↦
          let c = bind_some (sign_at signs.Semicolon a.0.1) _ x t.1 in
          subst (λ (y : Stmt × List Token). Takes (DeepStmt (suc d) y.0) ts y.1) (some_is (Return a.0.0 None, c.0.1) x c.2)
          (record {
            front = word a.0.0 (codes "return") ∷ sign c.0.0 signs.Semicolon ∷ [];
            parts = after start (sign_is signs.Semicolon a.0.1 c.0 c.1);
            holds = ((c.0.0, [], refl, refl), omega arith);
          })
      | inr f ↦
          let v = bind_some (ended_at d a.0.1) _ x f.1 in
          let one = (ended_exact d).sound a.0.1 v.0 v.1 in
          let (c, vs, parts, free, le) = one.holds in
          subst (λ (y : Stmt × List Token). Takes (DeepStmt (suc d) y.0) ts y.1) (some_is (Return a.0.0 (Some v.0.0), v.0.1) x v.2)
          (record {
            front = word a.0.0 (codes "return") ∷ one.front;
            parts = after start one.parts;
            holds = ((c, vs, ap (λ (z : List Token). word a.0.0 (codes "return") ∷ z) parts, free), omega (arith, le));
          })
    ]

pub return_complete : (d : ℕ) (p : Place) (v : Option Expr) (ts rest : List Token) → DeepStmt (suc d) (Return p v) ts →
    return_at d (ts ++ rest) ≡ Some (Return p v, rest)
unfolding return_at
return_complete d p None ts rest ((a, us, parts, h), le) = rw (parts, h) refl
return_complete d p (Some e) ts rest ((a, us, parts, h), le) =
    let stays : is_sign signs.Semicolon ((us ++ sign a signs.Semicolon ∷ []) ++ rest) ≡ false =
    begins_no_sign signs.Semicolon ((us ++ sign a signs.Semicolon ∷ []) ++ rest) refl (begins_more (us ++ sign a signs.Semicolon ∷ []) rest
    (begins_more us (sign a signs.Semicolon ∷ []) (expr_begins 400 e us h))) in
    rw (parts, stays, (ended_exact d).complete e (us ++ sign a signs.Semicolon ∷ []) rest tt (a, us, refl, h, omega arith)) refl

pub empty_sound : (d : ℕ) (ts : List Token) (x : Stmt × List Token) → empty_at ts ≡ Some x → Takes (DeepStmt (suc d) x.0) ts x.1
unfolding empty_at
empty_sound d ts x e =
    let a = bind_some (sign_at signs.Semicolon ts) _ x e in
    subst (λ (y : Stmt × List Token). Takes (DeepStmt (suc d) y.0) ts y.1) (some_is (Empty a.0.0, a.0.1) x a.2)
    (record { front = sign a.0.0 signs.Semicolon ∷ []; parts = sign_is signs.Semicolon ts a.0 a.1; holds = (refl, omega arith) })

pub empty_complete : (p : Place) (ts rest : List Token) → IsStmt (Empty p) ts → empty_at (ts ++ rest) ≡ Some (Empty p, rest)
unfolding empty_at
empty_complete p ts rest parts = rw parts refl

-- What statements keep that some bytes spell.
use Rattle.std.proofs.Common.{◌≡◌, inl, inr, List, [], ◌∷◌, ◌++◌, Bool, true, false, Option, Some, None, refl, sym, subst, arith, codes}
use Rattle.std.specs.Prelude.{◌&&◌, if◌then◌else◌}
use Rattle.std.specs.Str.{bytes_eq}
use Rattle.mg_text.specs.Call.{Name}
use Rattle.mg_text.specs.declared.place.Place.{Place}
use Rattle.mg_read.specs.Passes.{AllPasses, StartsWith}
use Rattle.mg_read.proofs.Steps.{some_is}
use Rattle.ts_tree.specs.declared.parts.TypeName.{TypeName}
use Rattle.ts_tree.specs.declared.parts.TypeName.TheVariants as types
use Rattle.jv_tree.specs.declared.token.Sign.TheVariants as signs
use Rattle.jv_tree.specs.declared.token.Token.{Token}
use Rattle.jv_tree.specs.Source.{Expr, Int, This, Variable, Member, MethodCall, Exprs, NoExpr, Argument}
use Rattle.jv_tree.specs.Source.{Stmt, Block, Empty, Local, Assign, If, IfElse, While, Do, Switch, Break, Continue, Return, Print, Eval}
use Rattle.jv_tree.specs.Source.{Stmts, NoStmt, Then, Groups, NoGroup, Group}
use Rattle.jv_tree.specs.Tokens as tokens
use Rattle.jv_tree.specs.Sugar.{is_out, only_argument, printed, is_call}
use Rattle.jv_tree.specs.Statements.{IsFree, IsCondition, type_word, IsType, IsOptionalName, IsLabel, IsTarget, IsAssign, IsLocal, IsCase}
use Rattle.jv_tree.specs.Statements.{AreMoreCases, AreCases, IsOptionalExpr, IsStmt, AreItems, AreGroups}
use Rattle.jv_lex.specs.Letters.{is_word_start, is_word_byte}
use Rattle.jv_back.proofs.Told.{IsWord, plain_word, IsNamed}
use Rattle.jv_back.proofs.Told as told
use Rattle.jv_back.proofs.Exprs.{IsWritten, AreWritten}
use Rattle.jv_back.proofs.Kept.{AreGood, in_front, in_back, named, Keeps, expr_kept, condition_kept}
use Rattle.jv_back.proofs.Parts.{IsWrittenTarget, IsTyped}
use Rattle.jv_back.proofs.Stmts.{IsWrittenName, AreWrittenNames, AreWrittenLabels, IsWrittenValue, IsWrittenLocal, IsWrittenStmt}
use Rattle.jv_back.proofs.Stmts.{AreWrittenStmts, AreWrittenGroups}

pub free_kept : Keeps IsFree
free_kept = expr_kept 400

cond_kept : Keeps IsCondition
cond_kept = condition_kept 400

pub typed : (ty : TypeName) → IsType ty → StartsWith is_word_start (type_word ty) × AllPasses is_word_byte (type_word ty) → IsTyped ty
typed types.Void is g = absurd is
typed types.Int is g = (tt, plain_word (codes "int") refl refl)
typed types.Boolean is g = (tt, plain_word (codes "boolean") refl refl)
typed types.Text is g = (tt, plain_word (codes "String") refl refl)
typed (types.Named n) is g = (is, told.named n (named n is.0 g))

-- a sign at the end
abbrev pub ended : Place → List Token
ended a = tokens.sign a signs.Semicolon ∷ []

local_kept : (s : Stmt) (ts : List Token) → IsLocal s ts → AreGood ts → IsWrittenLocal s
local_kept (Local p ty n e) ts (type, is, a, b, c, us, vs, parts, final, free) h =
    let g = in_back us (tokens.word a (type_word ty) ∷ tokens.word p n ∷ tokens.sign b signs.Assign ∷ (vs ++ ended c))
    (subst AreGood parts h) in
    (typed ty type g.0, named n is g.1.0, free_kept e vs free (in_front vs (ended c) g.1.1.1))
local_kept (Block p body end) ts is h = absurd is
local_kept s ts is h = absurd is

target_kept : (t : Expr) (ts : List Token) → IsTarget t ts → AreGood ts → IsWrittenTarget t
target_kept (Variable p n) ts (is, e) h = named n is (subst AreGood e h).0
target_kept (Member p (This q) n) ts (is, place, a, b, e) h = named n is (subst AreGood e h).1.1.0
target_kept _ ts is h = absurd is

target_written : (t : Expr) → IsWrittenTarget t → IsWritten t
target_written (Variable p n) w = w
target_written (Member p (This q) n) w = (tt, w)
target_written _ w = absurd w

assign_kept : (p : Place) (t e : Expr) (ts : List Token) → IsAssign p t e ts → AreGood ts → IsWrittenTarget t × IsWritten e
assign_kept p t e ts (inl (place, a, b, us, vs, parts, is, free)) h =
    let g = subst AreGood parts h in
    let more : List Token = tokens.sign a signs.Assign ∷ (vs ++ ended b) in
    (target_kept t us is (in_front us more g), free_kept e vs free (in_front vs (ended b) (in_back us more g).1))
assign_kept p t e ts (inr (inl (place, s, o, f, a, b, us, vs, parts, sugar, value, is, free))) h =
    let g = subst AreGood parts h in
    let more : List Token = tokens.sign a s ∷ (vs ++ ended b) in
    let target = target_kept t us is (in_front us more g) in
    (target, subst IsWritten (sym value) (target_written t target, free_kept f vs free (in_front vs (ended b) (in_back us more g).1)))
assign_kept p t e ts (inr (inr (inl (place, s, o, a, b, us, parts, sugar, value, is)))) h =
    let g = subst AreGood parts h in
    let target = target_kept t us is (in_front us (tokens.sign a s ∷ ended b) g) in
    (target, subst IsWritten (sym value) (target_written t target, inl (1, omega arith, refl)))
assign_kept p t e ts (inr (inr (inr (s, o, b, us, parts, sugar, value, is)))) h =
    let g = subst AreGood parts h in
    let target = target_kept t us is (in_front us (ended b) g.1) in
    (target, subst IsWritten (sym value) (target_written t target, inl (1, omega arith, refl)))

optional_kept : (l : Option Name) (ts : List Token) → IsOptionalName l ts → AreGood ts → IsWrittenName l
optional_kept None ts is h = tt
optional_kept (Some n) ts (is, a, e) h = named n is (subst AreGood e h).0

label_kept : (p q : Place) (l : Option Name) (ts : List Token) → IsLabel p q l ts → AreGood ts → IsWrittenName l
label_kept p q None ts is h = tt
label_kept p q (Some n) ts (is, a, e) h = named n is (subst AreGood e h).0

case_kept : (l : Option Name) (ts : List Token) → IsCase l ts → AreGood ts → IsWrittenName l
case_kept None ts is h = tt
case_kept (Some n) ts (is, a, b, c, e) h = named n is (subst AreGood e h).1.0

more_cases_kept : (labels : List (Option Name)) (ts : List Token) → AreMoreCases labels ts → AreGood ts → AreWrittenNames labels
more_cases_kept [] ts is h = tt
more_cases_kept (l ∷ ls) ts (us, vs, parts, is, are) h =
    let g = subst AreGood parts h in (case_kept l us is (in_front us vs g), more_cases_kept ls vs are (in_back us vs g))

cases_kept : (labels : List (Option Name)) (ts : List Token) → AreCases labels ts → AreGood ts → AreWrittenLabels labels
cases_kept [] ts is h = absurd is
cases_kept (l ∷ ls) ts is h = more_cases_kept (l ∷ ls) ts is h

value_kept : (value : Option Expr) (ts : List Token) → IsOptionalExpr value ts → AreGood ts → IsWrittenValue value
value_kept None ts is h = tt
value_kept (Some e) ts is h = free_kept e ts is h

only_written : (args : Exprs) (e : Expr) → only_argument args ≡ Some e → AreWritten args → IsWritten e
only_written NoExpr e is w = absurd cc
only_written (Argument f NoExpr) e is w = subst IsWritten (some_is f e is) w.0
only_written (Argument f (Argument g more)) e is w = absurd cc

printed_written : (c e : Expr) → printed c ≡ Some e → IsWritten c → IsWritten e
printed_written (MethodCall p r n args) e is w = go (is_out r && bytes_eq n (codes "println")) is
  where
    go : (b : Bool) → (if b then only_argument args else None) ≡ Some e → IsWritten e
    go true is = only_written args e is w.2
    go false is = absurd cc
printed_written (Int p z) e is w = absurd cc
printed_written c e is w = absurd cc

eval_written : (c e : Expr) → c ≡ e → is_call c ≡ true → printed c ≡ None → IsWritten c
    → IsWritten e × (is_call e ≡ true) × (printed e ≡ None)
eval_written c e same call other w =
    (subst IsWritten same w, subst (λ x. is_call x ≡ true) same call, subst (λ x. printed x ≡ None) same other)

mutual
  stmt_kept : (s : Stmt) (ts : List Token) → IsStmt s ts → AreGood ts → IsWrittenStmt s
  stmt_kept (Block p body end) ts (us, parts, are) h =
      items_kept body us are (in_front us (tokens.sign end signs.CloseBrace ∷ []) (subst AreGood parts h).1)
  stmt_kept (Empty p) ts is h = tt
  stmt_kept (Local p ty n e) ts is h = absurd is
  stmt_kept (Assign p t e) ts is h = assign_kept p t e ts is h
  stmt_kept (If p c s) ts (us, vs, parts, is, are) h =
      let g = (subst AreGood parts h).1 in (cond_kept c us is (in_front us vs g), stmt_kept s vs are (in_back us vs g))
  stmt_kept (IfElse p c s r) ts (a, us, vs, ws, parts, is, are, free, other) h =
      let last : List Token = tokens.word a (codes "else") ∷ ws in
      let g = (subst AreGood parts h).1 in
      let k = in_back us (vs ++ last) g in (
        cond_kept c us is (in_front us (vs ++ last) g),
        stmt_kept s vs are (in_front vs last k),
        free,
        stmt_kept r ws other
            (in_back vs last k).1,
      )
  stmt_kept (While p l c s) ts (a, us, vs, ws, parts, label, is, are) h =
      let more : List Token = tokens.word a (codes "while") ∷ (vs ++ ws) in
      let g = subst AreGood parts h in
      let k = (in_back us more g).1 in
      (label_kept p a l us label (in_front us more g), cond_kept c vs is (in_front vs ws k), stmt_kept s ws are (in_back vs ws k))
  stmt_kept (Do p l s c) ts (a, b, d, us, vs, ws, parts, label, are, is) h =
      let last : List Token = tokens.word b (codes "while") ∷ (ws ++ ended d) in
      let more : List Token = tokens.word a (codes "do") ∷ (vs ++ last) in
      let g = subst AreGood parts h in
      let k = (in_back us more g).1 in (
        label_kept p a l us label (in_front us more g),
        stmt_kept s vs are (in_front vs last k),
        cond_kept c ws is (in_front ws (ended d) (in_back vs last k).1),
      )
  stmt_kept (Switch p e groups end) ts (a, us, vs, parts, is, are) h =
      let more : List Token = tokens.sign a signs.OpenBrace ∷ (vs ++ tokens.sign end signs.CloseBrace ∷ []) in
      let g = (subst AreGood parts h).1 in (
        cond_kept e us is (in_front us more g),
        groups_kept end groups vs are
            (in_front vs (tokens.sign end signs.CloseBrace ∷ []) (in_back us more g).1),
      )
  stmt_kept (Break p l) ts (a, us, parts, is) h = optional_kept l us is (in_front us (ended a) (subst AreGood parts h).1)
  stmt_kept (Continue p l) ts (a, us, parts, is) h = optional_kept l us is (in_front us (ended a) (subst AreGood parts h).1)
  stmt_kept (Return p value) ts (a, us, parts, is) h = value_kept value us is (in_front us (ended a) (subst AreGood parts h).1)
  stmt_kept (Print p e) ts (first, c, a, us, parts, free, is) h =
      printed_written c e is (free_kept c us free (in_front us (ended a) (subst AreGood parts h)))
  stmt_kept (Eval p e) ts (first, c, a, us, parts, free, is) h =
      eval_written c e is.0 is.1 is.2 (free_kept c us free (in_front us (ended a) (subst AreGood parts h)))

  pub items_kept : (ss : Stmts) (ts : List Token) → AreItems ss ts → AreGood ts → AreWrittenStmts ss
  items_kept NoStmt ts is h = tt
  items_kept (Then s more) ts (us, vs, parts, inl is, are) h =
      let g = subst AreGood parts h in (inl (local_kept s us is (in_front us vs g)), items_kept more vs are (in_back us vs g))
  items_kept (Then s more) ts (us, vs, parts, inr is, are) h =
      let g = subst AreGood parts h in (inr (stmt_kept s us is (in_front us vs g)), items_kept more vs are (in_back us vs g))

  groups_kept : (close : Place) (gs : Groups) (ts : List Token) → AreGroups close gs ts → AreGood ts → AreWrittenGroups gs
  groups_kept close NoGroup ts is h = tt
  groups_kept close (Group labels body end more) ts (us, vs, ws, parts, cases, items, are, place, one) h =
      let g = subst AreGood parts h in
      let k = in_back us (vs ++ ws) g in (
        cases_kept labels us cases (in_front us (vs ++ ws) g),
        items_kept body vs items (in_front vs ws k),
        one,
        groups_kept close more ws are (in_back vs ws k),
      )

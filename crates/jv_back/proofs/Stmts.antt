-- The text of a statement is told as the same statement, places aside.
use Rattle.std.proofs.Common.{◌≡◌, ℕ, ◌+◌, ◌≤◌, inl, inr, List, [], ◌∷◌, ◌++◌, true, false, Option, Some, None, refl, sym, ap, ap₂, subst}
use Rattle.std.proofs.Common.{◌∙◌, append_assoc, arith, codes}
use Rattle.std.specs.Prelude.{◌⊎◌}
use Rattle.mg_text.specs.Call.{Name}
use Rattle.mg_text.specs.declared.place.Place.{Place}
use Rattle.ts_tree.specs.declared.parts.TypeName.{TypeName}
use Rattle.jv_tree.specs.declared.token.Sign.TheVariants as signs
use Rattle.jv_tree.specs.declared.token.Token.{Token}
use Rattle.jv_tree.specs.Source.{Expr, place_of}
use Rattle.jv_tree.specs.Source.{Stmt, Block, Empty, Local, Assign, If, IfElse, While, Do, Switch, Break, Continue, Return, Print, Eval}
use Rattle.jv_tree.specs.Source.{Stmts, NoStmt, Then, Groups, NoGroup, Group}
use Rattle.jv_tree.specs.Depth.{depth, depth_of_value, depth_of_stmt, depth_of_stmts, depth_of_groups}
use Rattle.jv_tree.specs.Tokens as tokens
use Rattle.jv_tree.specs.Tokens.{IsName, BeginsAt, first_place}
use Rattle.jv_tree.specs.Sugar.{printed, is_call, takes_else, is_one_group}
use Rattle.jv_tree.specs.Statements.{IsFree, IsCondition, type_word, IsOptionalName, IsLabel, IsTarget, IsLocal, IsCase, AreMoreCases}
use Rattle.jv_tree.specs.Statements.{AreCases, IsStmt, AreItems, AreGroups}
use Rattle.jv_print.specs.Layout.{expr_text, type_text, label_text, case_text, case_lines, target_text, value_text, is_block, body_start}
use Rattle.jv_print.specs.Layout.{body_level, body_text, behind, braced, stmt_text, lines, group_lines}
use Rattle.jv_back.specs.Bare.{bare_stmt, bare_stmts, bare_groups, nowhere}
use Rattle.jv_back.proofs.Told.{Any, NoWord, Told, nothing, convert, regroup, space_then, line_then, indent_then, Front, sign_then}
use Rattle.jv_back.proofs.Told.{mark_then, IsWord, word_then, plain_word, IsNamed, named, Both, both}
use Rattle.jv_back.proofs.Exprs.{IsWritten, Part}
use Rattle.jv_back.proofs.Parts.{on, past, free_told, condition_then, IsWrittenTarget, target_told, call_kept, unprinted_kept, Prints}
use Rattle.jv_back.proofs.Parts.{print_then, IsTyped, type_then, start_then, behind_then, start_follows, begins}

-- ---- statements that can be written

abbrev pub IsWrittenName : Option Name → Type 0
IsWrittenName None = Unit {0}
IsWrittenName (Some n) = IsNamed n

abbrev pub AreWrittenNames : List (Option Name) → Type 0
AreWrittenNames [] = Unit {0}
AreWrittenNames (l ∷ ls) = IsWrittenName l × AreWrittenNames ls

abbrev pub AreWrittenLabels : List (Option Name) → Type 0
AreWrittenLabels [] = ⊥
AreWrittenLabels (l ∷ ls) = AreWrittenNames (l ∷ ls)

abbrev pub IsWrittenValue : Option Expr → Type 0
IsWrittenValue None = Unit {0}
IsWrittenValue (Some e) = IsWritten e

abbrev pub IsWrittenLocal : Stmt → Type 0
IsWrittenLocal (Local p ty n e) = IsTyped ty × IsNamed n × IsWritten e
IsWrittenLocal _ = ⊥

abbrev mutual
  pub IsWrittenStmt : Stmt → Type 0
  IsWrittenStmt (Block p body end) = AreWrittenStmts body
  IsWrittenStmt (Empty p) = Unit {0}
  IsWrittenStmt (Local p ty n e) = ⊥
  IsWrittenStmt (Assign p target value) = IsWrittenTarget target × IsWritten value
  IsWrittenStmt (If p c s) = IsWritten c × IsWrittenStmt s
  IsWrittenStmt (IfElse p c s r) = IsWritten c × IsWrittenStmt s × (takes_else s ≡ false) × IsWrittenStmt r
  IsWrittenStmt (While p l c s) = IsWrittenName l × IsWritten c × IsWrittenStmt s
  IsWrittenStmt (Do p l s c) = IsWrittenName l × IsWrittenStmt s × IsWritten c
  IsWrittenStmt (Switch p e groups end) = IsWritten e × AreWrittenGroups groups
  IsWrittenStmt (Break p l) = IsWrittenName l
  IsWrittenStmt (Continue p l) = IsWrittenName l
  IsWrittenStmt (Return p value) = IsWrittenValue value
  IsWrittenStmt (Print p e) = IsWritten e
  IsWrittenStmt (Eval p e) = IsWritten e × (is_call e ≡ true) × (printed e ≡ None)

  pub AreWrittenStmts : Stmts → Type 0
  AreWrittenStmts NoStmt = Unit {0}
  AreWrittenStmts (Then s more) = (IsWrittenLocal s ⊎ IsWrittenStmt s) × AreWrittenStmts more

  pub AreWrittenGroups : Groups → Type 0
  AreWrittenGroups NoGroup = Unit {0}
  AreWrittenGroups (Group labels body end more) =
      AreWrittenLabels labels × AreWrittenStmts body × (is_one_group body more ≡ false) × AreWrittenGroups more

-- ---- what is told

abbrev StmtPart : Stmt → List Token → Type 0
StmtPart s ts = (t : Stmt) × (bare_stmt t ≡ bare_stmt s) × IsStmt t ts

abbrev ItemPart : Stmt → List Token → Type 0
ItemPart s ts = (t : Stmt) × (bare_stmt t ≡ bare_stmt s) × (IsLocal t ts ⊎ IsStmt t ts)

abbrev pub ItemsPart : Stmts → List Token → Type 0
ItemsPart ss ts = (us : Stmts) × (bare_stmts us ≡ bare_stmts ss) × AreItems us ts

-- in front of a brace at any place
abbrev GroupsPart : Groups → List Token → Type 0
GroupsPart gs ts = (close : Place) → (hs : Groups) × (bare_groups hs ≡ bare_groups gs) × AreGroups close hs ts

-- ---- what places don't change

same_takes : (s : Stmt) → takes_else (bare_stmt s) ≡ takes_else s
same_takes (If p c s) = refl
same_takes (IfElse p c s r) = same_takes r
same_takes (While p l c s) = same_takes s
same_takes (Block p body end) = refl
same_takes (Empty p) = refl
same_takes (Local p ty n e) = refl
same_takes (Assign p target value) = refl
same_takes (Do p l s c) = refl
same_takes (Switch p e groups end) = refl
same_takes (Break p l) = refl
same_takes (Continue p l) = refl
same_takes (Return p value) = refl
same_takes (Print p e) = refl
same_takes (Eval p e) = refl

takes_kept : (s t : Stmt) → bare_stmt t ≡ bare_stmt s → takes_else s ≡ false → takes_else t ≡ false
takes_kept s t same h = sym (same_takes t) ∙ ap takes_else same ∙ same_takes s ∙ h

same_one : (body : Stmts) (more : Groups) → is_one_group (bare_stmts body) (bare_groups more) ≡ is_one_group body more
same_one NoStmt NoGroup = refl
same_one NoStmt (Group labels body end more) = refl
same_one (Then s ss) more = refl

one_kept : (body us : Stmts) (more hs : Groups) → bare_stmts us ≡ bare_stmts body → bare_groups hs ≡ bare_groups more
    → is_one_group body more ≡ false
    → is_one_group us hs ≡ false
one_kept body us more hs same alike h = sym (same_one us hs) ∙ ap₂ is_one_group same alike ∙ same_one body more ∙ h

-- ---- words

if_word : IsWord (codes "if")
if_word = plain_word (codes "if") refl refl

else_word : IsWord (codes "else")
else_word = plain_word (codes "else") refl refl

while_word : IsWord (codes "while")
while_word = plain_word (codes "while") refl refl

do_word : IsWord (codes "do")
do_word = plain_word (codes "do") refl refl

switch_word : IsWord (codes "switch")
switch_word = plain_word (codes "switch") refl refl

break_word : IsWord (codes "break")
break_word = plain_word (codes "break") refl refl

continue_word : IsWord (codes "continue")
continue_word = plain_word (codes "continue") refl refl

return_word : IsWord (codes "return")
return_word = plain_word (codes "return") refl refl

case_word : IsWord (codes "case")
case_word = plain_word (codes "case") refl refl

default_word : IsWord (codes "default")
default_word = plain_word (codes "default") refl refl

-- ---- statements without statements

-- ";" at the end
end_told : {ok : List ℕ → Type 0} → Told ok (Front (λ a. tokens.sign a signs.Semicolon) (λ us. us ≡ [])) (codes ";")
end_told = mark_then signs.Semicolon refl (λ c. refl) nothing

empty_told : (p : Place) → Told Any (StmtPart (Empty p)) (codes ";")
empty_told p = convert (λ ts (a, us, e, none). (Empty a, refl, e ∙ on none)) end_told

local_told : (p : Place) (ty : TypeName) (n : Name) (e : Expr) → IsTyped ty → IsNamed n → IsWritten e → depth e ≤ 399
    → Told Any (ItemPart (Local p ty n e)) (type_text ty ++ (codes " " ++ (n ++ (codes " = " ++ (expr_text e ++ codes ";")))))
local_told p ty n e typed is w d =
    convert form (type_then ty typed.1 (word_then n (named n is) (λ bytes o. refl)
    (space_then (sign_then signs.Assign refl (λ bytes o. refl)
    (space_then (both (free_told e w d) (λ bytes o. refl) end_told))))))
  where
    form : (ts : List Token)
        → Front (λ a. tokens.word a (type_word ty)) (Front (λ a. tokens.word a n) (Front (λ a. tokens.sign a signs.Assign)
        (Both (Part IsFree e) (Front (λ a. tokens.sign a signs.Semicolon) (λ us. us ≡ []))))) ts
        → ItemPart (Local p ty n e) ts
    form ts (a, t1, e1, (b, t2, e2, (c, t3, e3, (us, vs, e4, (f, same, free), (g, t5, e5, none))))) = (
      Local b ty n f,
      ap (λ z. Local nowhere ty n z) same,
      inl (typed.0, is.name, a, c, g, [], us, e1 ∙ on (e2 ∙ on (e3 ∙ on (e4 ∙ past us (e5 ∙ on none)))), inl refl, free),
    )

assign_told : (p : Place) (t e : Expr) → IsWrittenTarget t → IsWritten e → depth e ≤ 399
    → Told Any (StmtPart (Assign p t e)) (expr_text t ++ (codes " = " ++ (expr_text e ++ codes ";")))
assign_told p t e target w d =
    convert form (both (target_told t target) (λ bytes o. refl) (space_then (sign_then signs.Assign refl (λ bytes o. refl)
    (space_then (both (free_told e w d) (λ bytes o. refl) end_told)))))
  where
    form : (ts : List Token)
        → Both (Part IsTarget t) (Front (λ a. tokens.sign a signs.Assign)
        (Both (Part IsFree e) (Front (λ a. tokens.sign a signs.Semicolon) (λ us. us ≡ [])))) ts
        → StmtPart (Assign p t e) ts
    form ts (us, t1, e1, (x, alike, is), (a, t2, e2, (vs, t3, e3, (f, same, free), (b, t4, e4, none)))) = (
      Assign (place_of x) x f,
      ap₂ (λ y z. Assign nowhere y z) alike same,
      inl (refl, a, b, us, vs, e1 ∙ past us (e2 ∙ on (e3 ∙ past vs (e4 ∙ on none))), is, free),
    )

-- a name behind a word, or none
optional_then : {ok : List ℕ → Type 0} {Q : List Token → Type 0} {text : List ℕ} (l : Option Name) → IsWrittenName l
    → ((bytes : List ℕ) → ok bytes → NoWord (text ++ bytes)) → Told ok Q text → Told ok (Both (IsOptionalName l) Q) (target_text l ++ text)
optional_then None w stops h = convert (λ ts q. ([], ts, refl, refl, q)) h
optional_then (Some n) w stops h =
    convert (λ ts (a, us, e, q). (tokens.word a n ∷ [], us, e, (w.name, a, refl), q)) (space_then (word_then n (named n w) stops h))

target_follows : (l : Option Name) (bytes : List ℕ) → NoWord ((target_text l ++ codes ";") ++ bytes)
target_follows None bytes = refl
target_follows (Some n) bytes = refl

jump_told : (w : Name) → IsWord w → (l : Option Name) → IsWrittenName l
    → Told Any (Front (λ a. tokens.word a w) (Both (IsOptionalName l) (Front (λ a. tokens.sign a signs.Semicolon) (λ us. us ≡ []))))
    (w ++ (target_text l ++ codes ";"))
jump_told w is l written = word_then w is (λ bytes o. target_follows l bytes) (optional_then l written (λ bytes o. refl) end_told)

break_told : (p : Place) (l : Option Name) → IsWrittenName l
    → Told Any (StmtPart (Break p l)) (codes "break" ++ (target_text l ++ codes ";"))
break_told p l w =
    convert (λ ts (a, t1, e1, (us, t2, e2, is, (b, t3, e3, none))). (Break a l, refl, (b, us, e1 ∙ on (e2 ∙ past us (e3 ∙ on none)), is)))
    (jump_told (codes "break") break_word l w)

continue_told : (p : Place) (l : Option Name) → IsWrittenName l
    → Told Any (StmtPart (Continue p l)) (codes "continue" ++ (target_text l ++ codes ";"))
continue_told p l w =
    convert (λ ts (a, t1, e1, (us, t2, e2, is, (b, t3, e3, none))).
    (Continue a l, refl, (b, us, e1 ∙ on (e2 ∙ past us (e3 ∙ on none)), is)))
    (jump_told (codes "continue") continue_word l w)

return_told : (p : Place) (value : Option Expr) → IsWrittenValue value → depth_of_value value ≤ 399
    → Told Any (StmtPart (Return p value)) (codes "return" ++ (value_text value ++ codes ";"))
return_told p None w d =
    convert (λ ts (a, us, e, (b, t2, e2, none)). (Return a None, refl, (b, [], e ∙ on (e2 ∙ on none), refl)))
    (word_then (codes "return") return_word (λ bytes o. refl) end_told)
return_told p (Some e) w d =
    convert form (word_then (codes "return") return_word (λ bytes o. refl) (space_then (both (free_told e w d) (λ bytes o. refl) end_told)))
  where
    form : (ts : List Token)
        → Front (λ a. tokens.word a (codes "return")) (Both (Part IsFree e) (Front (λ a. tokens.sign a signs.Semicolon) (λ us. us ≡ []))) ts
        → StmtPart (Return p (Some e)) ts
    form ts (a, t1, e1, (us, t2, e2, (f, same, free), (b, t3, e3, none))) =
        (Return a (Some f), ap (λ z. Return nowhere (Some z)) same, (b, us, e1 ∙ on (e2 ∙ past us (e3 ∙ on none)), free))

print_told : (p : Place) (e : Expr) → IsWritten e → depth e ≤ 399
    → Told Any (StmtPart (Print p e)) (codes "System.out.println(" ++ (expr_text e ++ codes ");"))
print_told p e w d = convert form (print_then 399 e w d end_told)
  where
    form : (ts : List Token) → Both (Prints 400 e) (Front (λ a. tokens.sign a signs.Semicolon) (λ us. us ≡ [])) ts → StmtPart (Print p e) ts
    form ts (us, t1, e1, (c, f, same, is, free), (b, t2, e2, none)) =
        let parts = e1 ∙ past us (e2 ∙ on none) in
        let first = begins us (tokens.sign b signs.Semicolon) in
        (Print first.0 f, ap (λ z. Print nowhere z) same, (subst (BeginsAt first.0) (sym parts) first.1, c, b, us, parts, free, is))

eval_told : (p : Place) (e : Expr) → IsWritten e → is_call e ≡ true → printed e ≡ None → depth e ≤ 399
    → Told Any (StmtPart (Eval p e)) (expr_text e ++ codes ";")
eval_told p e w call other d = convert form (both (free_told e w d) (λ bytes o. refl) end_told)
  where
    form : (ts : List Token) → Both (Part IsFree e) (Front (λ a. tokens.sign a signs.Semicolon) (λ us. us ≡ [])) ts → StmtPart (Eval p e) ts
    form ts (us, t1, e1, (f, same, free), (b, t2, e2, none)) =
        let parts = e1 ∙ past us (e2 ∙ on none) in
        let first = begins us (tokens.sign b signs.Semicolon) in (
          Eval first.0 f,
          ap (λ z. Eval nowhere z) same,
          (
            subst (BeginsAt first.0) (sym parts) first.1,
            f,
            b,
            us,
            parts,
            free,
            (refl, call_kept e f same call, unprinted_kept e f same other),
          ),
        )

-- ---- parts of statements

-- a loop's label, in front of a token at any place
abbrev LabelPart : Option Name → List Token → Type 0
LabelPart l ts = (q : Place) → (p : Place) × IsLabel p q l ts

label_then : {ok : List ℕ → Type 0} {Q : List Token → Type 0} {text : List ℕ} (l : Option Name) → IsWrittenName l → Told ok Q text
    → Told ok (Both (LabelPart l) Q) (label_text l ++ text)
label_then None w h = convert (λ ts q. ([], ts, refl, (λ p. (p, (refl, refl))), q)) h
label_then {Q = Q} {text = text} (Some n) w h =
    regroup (append_assoc n (codes ": ") text)
    (convert form (word_then n (named n w) (λ bytes o. refl) (mark_then signs.Colon refl (λ c. refl) (space_then h))))
  where
    form : (ts : List Token) → Front (λ a. tokens.word a n) (Front (λ a. tokens.sign a signs.Colon) Q) ts → Both (LabelPart (Some n)) Q ts
    form ts (a, us, e, (b, vs, f, q)) = (tokens.word a n ∷ tokens.sign b signs.Colon ∷ [], vs, e ∙ on f, (λ p. (a, (w.name, b, refl))), q)

-- lines between braces
abbrev pub Braces : (List Token → Type 0) → List Token → Type 0
Braces P = Front (λ a. tokens.sign a signs.OpenBrace) (Both P (Front (λ a. tokens.sign a signs.CloseBrace) (λ us. us ≡ [])))

pub braces_told : {ok : List ℕ → Type 0} {P : List Token → Type 0} {inside : List ℕ} (level : ℕ) → Told Any P inside
    → Told ok (Braces P) (braced level inside)
braces_told level h =
    mark_then signs.OpenBrace refl (λ c. refl) (line_then (both h (λ bytes o. tt)
    (indent_then level (mark_then signs.CloseBrace refl (λ c. refl) nothing))))

case_told : (l : Option Name) → IsWrittenName l → Told Any (IsCase l) (case_text l)
case_told None w =
    convert (λ ts (a, us, e, (b, vs, f, none)). (a, b, e ∙ on (f ∙ on none)))
    (word_then (codes "default") default_word (λ bytes o. refl) (mark_then signs.Colon refl (λ c. refl) nothing))
case_told (Some n) w =
    convert (λ ts (a, us, e, (b, vs, f, (c, ws, g, none))). (w.name, a, b, c, e ∙ on (f ∙ on (g ∙ on none))))
    (word_then (codes "case") case_word (λ bytes o. refl) (space_then
    (word_then n (named n w) (λ bytes o. refl) (mark_then signs.Colon refl (λ c. refl) nothing))))

cases_told : (level : ℕ) (labels : List (Option Name)) → AreWrittenNames labels → Told Any (AreMoreCases labels) (case_lines level labels)
cases_told level [] w = nothing
cases_told level (l ∷ ls) w = indent_then level (both (case_told l w.0) (λ bytes o. tt) (line_then (cases_told level ls w.1)))

names_of : (labels : List (Option Name)) → AreWrittenLabels labels → AreWrittenNames labels
names_of [] w = absurd w
names_of (l ∷ ls) w = w

cases_of : (labels : List (Option Name)) (ts : List Token) → AreWrittenLabels labels → AreMoreCases labels ts → AreCases labels ts
cases_of [] ts w h = absurd w
cases_of (l ∷ ls) ts w h = h

-- ---- statements with statements

abbrev Says : Stmt → Type 0
Says s = (level : ℕ) → Told Any (StmtPart s) (stmt_text level s)

body_told : (s : Stmt) (level : ℕ) → Says s
    → Told Any (StmtPart s) (body_start (is_block s) level ++ stmt_text (body_level (is_block s) level) s)
body_told s level says = start_then (is_block s) level (says (body_level (is_block s) level))

if_told : (p : Place) (c : Expr) (s : Stmt) → IsWritten c → depth c ≤ 399 → Says s → Says (If p c s)
if_told p c s w d says level =
    convert form (word_then (codes "if") if_word (λ bytes o. refl) (space_then (condition_then c w d (body_told s level says))))
  where
    form : (ts : List Token) → Front (λ a. tokens.word a (codes "if")) (Both (Part IsCondition c) (StmtPart s)) ts → StmtPart (If p c s) ts
    form ts (a, t1, e1, (us, vs, e2, (f, same, is), (t, alike, are))) =
        (If a f t, ap₂ (λ x y. If nowhere x y) same alike, (us, vs, e1 ∙ on e2, is, are))

if_else_told : (p : Place) (c : Expr) (s r : Stmt) → IsWritten c → depth c ≤ 399 → Says s → takes_else s ≡ false → Says r
    → Says (IfElse p c s r)
if_else_told p c s r w d says free other level =
    convert form (word_then (codes "if") if_word (λ bytes o. refl) (space_then (condition_then c w d
    (both (body_told s level says) (λ bytes o. tt) (behind_then (is_block s) level
    (word_then (codes "else") else_word (λ bytes o. start_follows (is_block r) level (stmt_text (body_level (is_block r) level) r) bytes)
    (body_told r level other)))))))
  where
    form : (ts : List Token)
        → Front (λ a. tokens.word a (codes "if")) (Both (Part IsCondition c) (Both (StmtPart s) (Front (λ a. tokens.word a
        (codes "else")) (StmtPart r)))) ts
        → StmtPart (IfElse p c s r) ts
    form ts (a, t1, e1, (us, t2, e2, (f, same, is), (vs, t3, e3, (t, alike, are), (b, ws, e4, (q, as_well, rest))))) = (
      IfElse a f t q,
      (λ i. IfElse nowhere (same i) (alike i) (as_well i)),
      (b, us, vs, ws, e1 ∙ on (e2 ∙ past us (e3 ∙ past vs e4)), is, are, takes_kept s t alike free, rest),
    )

while_told : (p : Place) (l : Option Name) (c : Expr) (s : Stmt) → IsWrittenName l → IsWritten c → depth c ≤ 399 → Says s
    → Says (While p l c s)
while_told p l c s named w d says level =
    convert form (label_then l named (word_then (codes "while") while_word (λ bytes o. refl)
    (space_then (condition_then c w d (body_told s level says)))))
  where
    form : (ts : List Token)
        → Both (LabelPart l) (Front (λ a. tokens.word a (codes "while")) (Both (Part IsCondition c) (StmtPart s))) ts
        → StmtPart (While p l c s) ts
    form ts (us, t1, e1, label, (a, t2, e2, (vs, ws, e3, (f, same, is), (t, alike, are)))) =
        let b = label a in
        (While b.0 l f t, ap₂ (λ x y. While nowhere l x y) same alike, (a, us, vs, ws, e1 ∙ past us (e2 ∙ on e3), b.1, is, are))

do_told : (p : Place) (l : Option Name) (s : Stmt) (c : Expr) → IsWrittenName l → Says s → IsWritten c → depth c ≤ 399 → Says (Do p l s c)
do_told p l s c named says w d level =
    convert form (label_then l named (word_then (codes "do") do_word
    (λ bytes o. subst NoWord (sym (append_assoc (body_text level s) (rest_text c) bytes))
    (start_follows (is_block s) level (stmt_text (body_level (is_block s) level) s) (rest_text c ++ bytes)))
    (both (body_told s level says) (λ bytes o. tt) (behind_then (is_block s) level
    (word_then (codes "while") while_word (λ bytes o. refl) (space_then (condition_then c w d end_told)))))))
  where
    rest_text : Expr → List ℕ
    rest_text c = behind (is_block s) level ++ (codes "while (" ++ (expr_text c ++ codes ");"))

    form : (ts : List Token)
        → Both (LabelPart l) (Front (λ a. tokens.word a (codes "do")) (Both (StmtPart s) (Front (λ a. tokens.word a (codes "while"))
        (Both (Part IsCondition c) (Front (λ a. tokens.sign a signs.Semicolon) (λ us. us ≡ [])))))) ts
        → StmtPart (Do p l s c) ts
    form ts (us, t1, e1, label, (a, t2, e2, (vs, t3, e3, (t, alike, are), (b, t4, e4, (ws, t5, e5, (f, same, is), (g, t6, e6, none)))))) =
        let q = label a in (
          Do q.0 l t f,
          ap₂ (λ x y. Do nowhere l x y) alike same,
          (a, b, g, us, vs, ws, e1 ∙ past us (e2 ∙ on (e3 ∙ past vs (e4 ∙ on (e5 ∙ past ws (e6 ∙ on none))))), q.1, are, is),
        )

switch_told : (p : Place) (c : Expr) (groups : Groups) (end : Place) → IsWritten c → depth c ≤ 399
    → ((level : ℕ) → Told Any (GroupsPart groups) (group_lines level groups)) → Says (Switch p c groups end)
switch_told p c groups end w d says level =
    convert form (word_then (codes "switch") switch_word (λ bytes o. refl)
    (space_then (condition_then c w d (space_then (braces_told level (says (level + 1)))))))
  where
    form : (ts : List Token) → Front (λ a. tokens.word a (codes "switch")) (Both (Part IsCondition c) (Braces (GroupsPart groups))) ts
        → StmtPart (Switch p c groups end) ts
    form ts (a, t1, e1, (us, t2, e2, (f, same, is), (b, t3, e3, (vs, t4, e4, inside, (g, t5, e5, none))))) =
        let h = inside g in (
          Switch a f h.0 g,
          ap₂ (λ x y. Switch nowhere x y nowhere) same h.1,
          (b, us, vs, e1 ∙ on (e2 ∙ past us (e3 ∙ on (e4 ∙ past vs (e5 ∙ on none)))), is, h.2),
        )

block_told : (p : Place) (body : Stmts) (end : Place) → ((level : ℕ) → Told Any (ItemsPart body) (lines level body))
    → Says (Block p body end)
block_told p body end says level = convert form (braces_told level (says (level + 1)))
  where
    form : (ts : List Token) → Braces (ItemsPart body) ts → StmtPart (Block p body end) ts
    form ts (a, t1, e1, (us, t2, e2, (ss, same, are), (b, t3, e3, none))) =
        (Block a ss b, ap (λ z. Block nowhere z nowhere) same, (us, e1 ∙ on (e2 ∙ past us (e3 ∙ on none)), are))

local_item : (s : Stmt) → IsWrittenLocal s → depth_of_stmt s ≤ 399 → (level : ℕ) → Told Any (ItemPart s) (stmt_text level s)
local_item (Local p ty n e) w d level = local_told p ty n e w.0 w.1 w.2 (omega (arith, d))
local_item (Block p body end) w d level = absurd w
local_item s w d level = absurd w

from_stmt : {text : List ℕ} (s : Stmt) → Told Any (StmtPart s) text → Told Any (ItemPart s) text
from_stmt s h = convert (λ ts (t, same, is). (t, same, inr is)) h

then_told : (s : Stmt) (more : Stmts) (level : ℕ) → Told Any (ItemPart s) (stmt_text level s) → Told Any (ItemsPart more) (lines level more)
    → Told Any (ItemsPart (Then s more)) (lines level (Then s more))
then_told s more level h g = convert form (indent_then level (both h (λ bytes o. tt) (line_then g)))
  where
    form : (ts : List Token) → Both (ItemPart s) (ItemsPart more) ts → ItemsPart (Then s more) ts
    form ts (us, vs, e, (t, same, is), (rest, alike, are)) = (Then t rest, ap₂ (λ x y. Then x y) same alike, (us, vs, e, is, are))

group_told : (labels : List (Option Name)) (body : Stmts) (end : Place) (more : Groups) (level : ℕ) → AreWrittenLabels labels
    → is_one_group body more ≡ false
    → Told Any (ItemsPart body) (lines (level + 1) body) → Told Any (GroupsPart more) (group_lines level more)
    → Told Any (GroupsPart (Group labels body end more)) (group_lines level (Group labels body end more))
group_told labels body end more level w apart h g =
    convert form (both (cases_told level labels (names_of labels w)) (λ bytes o. tt) (both h (λ bytes o. tt) g))
  where
    form : (ts : List Token) → Both (AreMoreCases labels) (Both (ItemsPart body) (GroupsPart more)) ts
        → GroupsPart (Group labels body end more) ts
    form ts (us, t1, e1, cases, (vs, ws, e2, (b, same, items), inside)) = λ close.
        let k = inside close in (
          Group labels b (first_place ws close) k.0,
          (λ i. Group labels (same i) nowhere (k.1 i)),
          (us, vs, ws, e1 ∙ past us e2, cases_of labels us w cases, items, k.2, refl, one_kept body b more k.0 same k.1 apart),
        )

mutual
  stmt_told : (s : Stmt) → IsWrittenStmt s → depth_of_stmt s ≤ 399 → Says s
  stmt_told (Block p body end) w d = block_told p body end (items_told body w (omega (arith, d)))
  stmt_told (Empty p) w d = λ level. empty_told p
  stmt_told (Local p ty n e) w d = absurd w
  stmt_told (Assign p t e) w d = λ level. assign_told p t e w.0 w.1 (omega (arith, d))
  stmt_told (If p c s) w d = if_told p c s w.0 (omega (arith, d)) (stmt_told s w.1 (omega (arith, d)))
  stmt_told (IfElse p c s r) w d =
      if_else_told p c s r w.0 (omega (arith, d)) (stmt_told s w.1 (omega (arith, d))) w.2 (stmt_told r w.3 (omega (arith, d)))
  stmt_told (While p l c s) w d = while_told p l c s w.0 w.1 (omega (arith, d)) (stmt_told s w.2 (omega (arith, d)))
  stmt_told (Do p l s c) w d = do_told p l s c w.0 (stmt_told s w.1 (omega (arith, d))) w.2 (omega (arith, d))
  stmt_told (Switch p c groups end) w d = switch_told p c groups end w.0 (omega (arith, d)) (groups_told groups w.1 (omega (arith, d)))
  stmt_told (Break p l) w d = λ level. break_told p l w
  stmt_told (Continue p l) w d = λ level. continue_told p l w
  stmt_told (Return p value) w d = λ level. return_told p value w (omega (arith, d))
  stmt_told (Print p e) w d = λ level. print_told p e w (omega (arith, d))
  stmt_told (Eval p e) w d = λ level. eval_told p e w.0 w.1 w.2 (omega (arith, d))

  pub items_told : (ss : Stmts) → AreWrittenStmts ss → depth_of_stmts ss ≤ 399 → (level : ℕ) → Told Any (ItemsPart ss) (lines level ss)
  items_told NoStmt w d level = convert (λ ts e. (NoStmt, refl, e)) nothing
  items_told (Then s more) (inl w, ws) d level =
      then_told s more level (local_item s w (omega (arith, d)) level) (items_told more ws (omega (arith, d)) level)
  items_told (Then s more) (inr w, ws) d level =
      then_told s more level (from_stmt s (stmt_told s w (omega (arith, d)) level)) (items_told more ws (omega (arith, d)) level)

  groups_told : (gs : Groups) → AreWrittenGroups gs → depth_of_groups gs ≤ 399 → (level : ℕ)
      → Told Any (GroupsPart gs) (group_lines level gs)
  groups_told NoGroup w d level = convert (λ ts e close. (NoGroup, refl, e)) nothing
  groups_told (Group labels body end more) w d level =
      group_told labels body end more level w.0 w.2 (items_told body w.1 (omega (arith, d)) (level + 1))
      (groups_told more w.3 (omega (arith, d)) level)

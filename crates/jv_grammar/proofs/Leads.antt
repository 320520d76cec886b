-- How statements begin, and which statement comes next.
use Rattle.std.proofs.Common.{◌≡◌, ℕ, ◌<◌, List, [], ◌∷◌, ◌++◌, length, Bool, true, false, Option, Some, None, refl, sym, ap, ◌∙◌, subst}
use Rattle.std.proofs.Common.{append_assoc, arith, inl, inr, true≢false}
use Rattle.std.specs.Prelude.{◌&&◌, codes, if◌then◌else◌}
use Rattle.std.specs.Str.{bytes_eq}
use Rattle.std.proofs.lemmas.Slice.Eq.{bytes_eq-Decides}
use Rattle.mg_text.specs.Call.{Name}
use Rattle.mg_text.specs.declared.place.Place.{Place}
use Rattle.mg_read.proofs.Steps.{none_is_not}
use Rattle.ts_tree.specs.declared.parts.TypeName.{TypeName}
use Rattle.ts_tree.specs.declared.parts.TypeName.TheVariants as types
use Rattle.jv_tree.specs.declared.tree.Op.{Op}
use Rattle.jv_tree.specs.declared.token.Sign.{Sign}
use Rattle.jv_tree.specs.declared.token.Sign.TheVariants as signs
use Rattle.jv_tree.specs.declared.token.TokenKind.{TokenKind}
use Rattle.jv_tree.specs.declared.token.TokenKind.TheVariants as kinds
use Rattle.jv_tree.specs.declared.token.Token.{Token}
use Rattle.jv_tree.specs.Source.{Expr, Int, Truth, Text, Null, This, Variable, Member, Neg, Not, Binary, Call, MethodCall, New}
use Rattle.jv_tree.specs.Source.{Stmt, Block, Empty, Local, Assign, If, IfElse, While, Do, Switch, Break, Continue, Return, Print, Eval}
use Rattle.jv_tree.specs.Tokens.{word, number, quoted, sign, is_name, is_among, IsName}
use Rattle.jv_grammar.specs.Base.{same_sign, is_sign, is_sign_kind, is_word, is_word_kind, is_named}
use Rattle.jv_tree.specs.Expressions.{Language, AreArguments, IsSimple, IsPrimary, IsPost}
use Rattle.jv_tree.specs.Sugar.{counter}
use Rattle.jv_tree.specs.Statements.{IsTarget, IsType, type_word, IsFinal, IsLabel, IsLocal, IsAssign, IsStmt}
use Rattle.jv_grammar.specs.Stmts.{is_decl, is_case, goes_on, is_counter, is_change, is_assign, is_label}
use Rattle.jv_grammar.proofs.Steps.{same_is, name_is_not}
use Rattle.jv_grammar.proofs.Primaries.{no_name_true, no_name_false, no_name_null, no_name_this, no_name_new}
use Rattle.jv_grammar.proofs.Exprs.{expr_begins}
use Rattle.jv_grammar.proofs.Beginnings.{begins_sign, begins_word, begins_kind, Begins}
use Rattle.jv_grammar.proofs.Assigns.{TargetHead, Named, Own, target_head}
use Rattle.jv_grammar.proofs.StmtParts.{no_name_int, no_name_boolean, final_no_name, name_String}

-- ---- words that are no names

pub no_name_if : is_name (codes "if") ≡ false
unfolding is_name
no_name_if = refl

pub no_name_else : is_name (codes "else") ≡ false
unfolding is_name
no_name_else = refl

pub no_name_while : is_name (codes "while") ≡ false
unfolding is_name
no_name_while = refl

pub no_name_do : is_name (codes "do") ≡ false
unfolding is_name
no_name_do = refl

pub no_name_switch : is_name (codes "switch") ≡ false
unfolding is_name
no_name_switch = refl

pub no_name_break : is_name (codes "break") ≡ false
unfolding is_name
no_name_break = refl

pub no_name_continue : is_name (codes "continue") ≡ false
unfolding is_name
no_name_continue = refl

pub no_name_return : is_name (codes "return") ≡ false
unfolding is_name
no_name_return = refl

pub no_name_case : is_name (codes "case") ≡ false
unfolding is_name
no_name_case = refl

pub no_name_default : is_name (codes "default") ≡ false
unfolding is_name
no_name_default = refl

-- whether an item may begin so
abbrev pub item_sign : Sign → Bool
item_sign s =
    if begins_sign s then true
    else (if same_sign s signs.OpenBrace then true else
    (if same_sign s signs.Semicolon then true else (if same_sign s signs.PlusPlus then true else same_sign s signs.MinusMinus)))

abbrev pub item_words : List Name
item_words = codes "if" ∷ codes "while" ∷ codes "do" ∷ codes "switch" ∷ codes "break" ∷ codes "continue" ∷ codes "return" ∷ codes "final" ∷
    codes "int" ∷ codes "boolean" ∷ []

abbrev pub item_word : Name → Bool
item_word w = if begins_word w then true else is_among item_words w

abbrev pub item_kind : TokenKind → Bool
item_kind (kinds.Word w) = item_word w
item_kind (kinds.Number n) = true
item_kind (kinds.Text t) = true
item_kind (kinds.Sign s) = item_sign s

-- the first token of these may begin an item
pub record Starting (us : List Token) : Type 0 where
  pub token : Token
  pub others : List Token
  pub parts : us ≡ token ∷ others
  pub kind : item_kind token.kind ≡ true

pub starting_more : (us vs : List Token) → Starting us → Starting (us ++ vs)
starting_more us vs b = record { token = b.token; others = b.others ++ vs; parts = ap (λ (r : List Token). r ++ vs) b.parts; kind = b.kind }

pub starting_some : (us : List Token) → Starting us → 0 < length us
starting_some us b = omega (arith, ap length b.parts)

of_begins : (us : List Token) → Begins us → Starting us
of_begins us b = record { token = b.token; others = b.others; parts = b.parts; kind = by_kind b.token.kind b.kind } where
  by_kind : (k : TokenKind) → begins_kind k ≡ true → item_kind k ≡ true
  by_kind (kinds.Word w) h = rw h refl
  by_kind (kinds.Number n) h = refl
  by_kind (kinds.Text t) h = refl
  by_kind (kinds.Sign s) h = rw h refl

starting_no_sign : (s : Sign) (us : List Token) → item_sign s ≡ false → Starting us → is_sign s us ≡ false
starting_no_sign s us never b = rw b.parts (by_kind b.token.kind b.kind) where
  by_sign : (k : Sign) → item_sign k ≡ true → (x : Bool) → same_sign k s ≡ x → x ≡ false
  by_sign k h false e = refl
  by_sign k h true e = absurd (true≢false (sym h ∙ ap item_sign (same_is k s e) ∙ never))

  by_kind : (k : TokenKind) → item_kind k ≡ true → is_sign_kind s k ≡ false
  by_kind (kinds.Word w) h = refl
  by_kind (kinds.Number n) h = refl
  by_kind (kinds.Text t) h = refl
  by_kind (kinds.Sign k) h = by_sign k h (same_sign k s) refl

starting_no_word : (w : Name) (us : List Token) → item_word w ≡ false → Starting us → is_word w us ≡ false
starting_no_word w us never b = rw b.parts (by_kind b.token.kind b.kind) where
  by_word : (v : Name) → item_word v ≡ true → (x : Bool) → bytes_eq v w ≡ x → x ≡ false
  by_word v h false e = refl
  by_word v h true e = absurd (true≢false (sym h ∙ ap item_word ((bytes_eq-Decides v w).0 e) ∙ never))

  by_kind : (k : TokenKind) → item_kind k ≡ true → is_word_kind w k ≡ false
  by_kind (kinds.Word v) h = by_word v h (bytes_eq v w) refl
  by_kind (kinds.Number n) h = refl
  by_kind (kinds.Text t) h = refl
  by_kind (kinds.Sign k) h = refl

pub starting_no_else : (us : List Token) → Starting us → is_word (codes "else") us ≡ false
starting_no_else us b = starting_no_word (codes "else") us (rw no_name_else refl) b

pub starting_goes : (us : List Token) → Starting us → goes_on us ≡ true
starting_goes us b =
    rw (
      starting_no_sign signs.CloseBrace us refl b,
      starting_no_word (codes "case") us (rw no_name_case refl) b,
      starting_no_word (codes "default") us (rw no_name_default refl) b,
    ) refl

pub starting_no_case : (us : List Token) → Starting us → is_case us ≡ false
starting_no_case us b = rw (
  starting_no_word (codes "case") us (rw no_name_case refl) b,
  starting_no_word (codes "default") us
      (rw no_name_default refl) b,
) refl

-- an item begins with a word of its own
own_word : (p : Place) (w : Name) (us vs : List Token) → us ≡ word p w ∷ vs → item_word w ≡ true → Starting us
own_word p w us vs parts h = record { token = word p w; others = vs; parts = parts; kind = h }

own_sign : (p : Place) (s : Sign) (us vs : List Token) → us ≡ sign p s ∷ vs → item_sign s ≡ true → Starting us
own_sign p s us vs parts h = record { token = sign p s; others = vs; parts = parts; kind = h }

name_starts : (n : Name) → IsName n → item_word n ≡ true
name_starts n h = rw h refl

this_starts : item_word (codes "this") ≡ true
this_starts = rw no_name_this refl

target_starts : (t : Expr) (us : List Token) → IsTarget t us → Starting us
target_starts t us h = by_head (target_head t us h) where
  by_head : TargetHead t us → Starting us
  by_head (Named p n name parts) = own_word p n us [] parts (name_starts n name)
  by_head (Own p a b n name parts) = own_word p (codes "this") us _ parts this_starts

counter_starts : (s : Sign) (o : Op) → counter s ≡ Some o → item_sign s ≡ true
counter_starts signs.OpenBrace o h = absurd (none_is_not o h)
counter_starts signs.CloseBrace o h = absurd (none_is_not o h)
counter_starts signs.OpenParen o h = absurd (none_is_not o h)
counter_starts signs.CloseParen o h = absurd (none_is_not o h)
counter_starts signs.OpenBracket o h = absurd (none_is_not o h)
counter_starts signs.CloseBracket o h = absurd (none_is_not o h)
counter_starts signs.Semicolon o h = absurd (none_is_not o h)
counter_starts signs.Comma o h = absurd (none_is_not o h)
counter_starts signs.Dot o h = absurd (none_is_not o h)
counter_starts signs.Assign o h = absurd (none_is_not o h)
counter_starts signs.Equal o h = absurd (none_is_not o h)
counter_starts signs.NotEqual o h = absurd (none_is_not o h)
counter_starts signs.Less o h = absurd (none_is_not o h)
counter_starts signs.LessEqual o h = absurd (none_is_not o h)
counter_starts signs.Greater o h = absurd (none_is_not o h)
counter_starts signs.GreaterEqual o h = absurd (none_is_not o h)
counter_starts signs.Plus o h = absurd (none_is_not o h)
counter_starts signs.Minus o h = absurd (none_is_not o h)
counter_starts signs.Star o h = absurd (none_is_not o h)
counter_starts signs.Slash o h = absurd (none_is_not o h)
counter_starts signs.Percent o h = absurd (none_is_not o h)
counter_starts signs.PlusPlus o h = refl
counter_starts signs.MinusMinus o h = refl
counter_starts signs.PlusAssign o h = absurd (none_is_not o h)
counter_starts signs.MinusAssign o h = absurd (none_is_not o h)
counter_starts signs.StarAssign o h = absurd (none_is_not o h)
counter_starts signs.SlashAssign o h = absurd (none_is_not o h)
counter_starts signs.PercentAssign o h = absurd (none_is_not o h)
counter_starts signs.Bang o h = absurd (none_is_not o h)
counter_starts signs.AndAnd o h = absurd (none_is_not o h)
counter_starts signs.OrOr o h = absurd (none_is_not o h)
counter_starts signs.Colon o h = absurd (none_is_not o h)
counter_starts signs.At o h = absurd (none_is_not o h)
counter_starts signs.Question o h = absurd (none_is_not o h)
counter_starts signs.Ampersand o h = absurd (none_is_not o h)
counter_starts signs.Bar o h = absurd (none_is_not o h)
counter_starts signs.Caret o h = absurd (none_is_not o h)
counter_starts signs.Tilde o h = absurd (none_is_not o h)

assign_starts : (p : Place) (t v : Expr) (us : List Token) → IsAssign p t v us → Starting us
assign_starts p t v us (inl (place, a, b, vs, ws, parts, target, free)) =
    subst Starting (sym parts) (starting_more vs _ (target_starts t vs target))
assign_starts p t v us (inr (inl (place, s, o, e, a, b, vs, ws, parts, comp, is, target, free))) =
    subst Starting (sym parts) (starting_more vs _ (target_starts t vs target))
assign_starts p t v us (inr (inr (inl (place, s, o, a, b, vs, parts, count, is, target)))) =
    subst Starting (sym parts) (starting_more vs _ (target_starts t vs target))
assign_starts p t v us (inr (inr (inr (s, o, b, vs, parts, count, is, target)))) = own_sign p s us _ parts (counter_starts s o count)

label_starts : (p a : Place) (l : Option Name) (w : Name) (us vs : List Token) → IsLabel p a l us → item_word w ≡ true →
    Starting (us ++ word a w ∷ vs)
label_starts p a None w us vs (same, parts) h = rw parts (own_word a w (word a w ∷ vs) vs refl h)
label_starts p a (Some n) w us vs (name, b, parts) h = rw parts (own_word p n _ _ refl (name_starts n name))

starts_if : item_word (codes "if") ≡ true
starts_if = rw no_name_if refl

starts_while : item_word (codes "while") ≡ true
starts_while = rw no_name_while refl

starts_do : item_word (codes "do") ≡ true
starts_do = rw no_name_do refl

starts_switch : item_word (codes "switch") ≡ true
starts_switch = rw no_name_switch refl

starts_break : item_word (codes "break") ≡ true
starts_break = rw no_name_break refl

starts_continue : item_word (codes "continue") ≡ true
starts_continue = rw no_name_continue refl

starts_return : item_word (codes "return") ≡ true
starts_return = rw no_name_return refl

starts_final : item_word (codes "final") ≡ true
starts_final = rw final_no_name refl

starts_int : item_word (codes "int") ≡ true
starts_int = rw no_name_int refl

starts_boolean : item_word (codes "boolean") ≡ true
starts_boolean = rw no_name_boolean refl

pub stmt_starts : (s : Stmt) (us : List Token) → IsStmt s us → Starting us
stmt_starts (Block p body end) us (vs, parts, h) = own_sign p signs.OpenBrace us _ parts refl
stmt_starts (Empty p) us parts = own_sign p signs.Semicolon us [] parts refl
stmt_starts (Local p ty n e) us h = absurd h
stmt_starts (Assign p t e) us h = assign_starts p t e us h
stmt_starts (If p c s) us (vs, ws, parts, cond, h) = own_word p (codes "if") us _ parts starts_if
stmt_starts (IfElse p c s r) us (a, vs, ws, xs, parts, cond, h, open_if, g) = own_word p (codes "if") us _ parts starts_if
stmt_starts (While p l c s) us (a, vs, ws, xs, parts, label, cond, h) =
    subst Starting (sym parts) (label_starts p a l (codes "while") vs _ label starts_while)
stmt_starts (Do p l s c) us (a, b, d, vs, ws, xs, parts, label, h, cond) =
    subst Starting (sym parts) (label_starts p a l (codes "do") vs _ label starts_do)
stmt_starts (Switch p e gs end) us (a, vs, ws, parts, cond, h) = own_word p (codes "switch") us _ parts starts_switch
stmt_starts (Break p l) us (a, vs, parts, h) = own_word p (codes "break") us _ parts starts_break
stmt_starts (Continue p l) us (a, vs, parts, h) = own_word p (codes "continue") us _ parts starts_continue
stmt_starts (Return p e) us (a, vs, parts, h) = own_word p (codes "return") us _ parts starts_return
stmt_starts (Print p e) us (begins, c, a, vs, parts, free, is) =
    subst Starting (sym parts) (starting_more vs _ (of_begins vs (expr_begins 400 c vs free)))
stmt_starts (Eval p e) us (begins, c, a, vs, parts, free, is) =
    subst Starting (sym parts) (starting_more vs _ (of_begins vs (expr_begins 400 c vs free)))

type_starts : (ty : TypeName) → IsType ty → item_word (type_word ty) ≡ true
type_starts types.Void h = absurd h
type_starts types.Int h = starts_int
type_starts types.Boolean h = starts_boolean
type_starts types.Text h = rw name_String refl
type_starts (types.Named n) h = name_starts n h.0

pub local_starts : (s : Stmt) (us : List Token) → IsLocal s us → Starting us
local_starts (Block p body end) us h = absurd h
local_starts (Empty p) us h = absurd h
local_starts (Local p ty n e) us (of_type, name, a, b, c, vs, ws, parts, final, free) = subst Starting (sym parts) (by_final vs final) where
  by_final : (vs : List Token) → IsFinal vs →
      Starting (vs ++ word a (type_word ty) ∷ word p n ∷ sign b signs.Assign ∷ (ws ++ sign c signs.Semicolon ∷ []))
  by_final vs (inl h) = rw h (own_word a (type_word ty) _ _ refl (type_starts ty of_type))
  by_final vs (inr (q, h)) = rw h (own_word q (codes "final") _ _ refl starts_final)
local_starts (Assign p t e) us h = absurd h
local_starts (If p c s) us h = absurd h
local_starts (IfElse p c s r) us h = absurd h
local_starts (While p l c s) us h = absurd h
local_starts (Do p l s c) us h = absurd h
local_starts (Switch p e gs end) us h = absurd h
local_starts (Break p l) us h = absurd h
local_starts (Continue p l) us h = absurd h
local_starts (Return p e) us h = absurd h
local_starts (Print p e) us h = absurd h
local_starts (Eval p e) us h = absurd h

-- ---- which comes next

-- a declaration is told by its first two tokens
pub local_decl : (s : Stmt) (us rest : List Token) → IsLocal s us → is_decl (us ++ rest) ≡ true
local_decl (Block p body end) us rest h = absurd h
local_decl (Empty p) us rest h = absurd h
local_decl (Local p ty n e) us rest (of_type, name, a, b, c, vs, ws, parts, final, free) = rw (parts, append_assoc) (by_final vs final)
  where
    back : List Token
    back = word a (type_word ty) ∷ word p n ∷ sign b signs.Assign ∷ ((ws ++ sign c signs.Semicolon ∷ []) ++ rest)

    typed : (ty : TypeName) → IsType ty →
        is_decl (word a (type_word ty) ∷ word p n ∷ sign b signs.Assign ∷ ((ws ++ sign c signs.Semicolon ∷ []) ++ rest)) ≡ true
    typed types.Void h = absurd h
    typed types.Int h = refl
    typed types.Boolean h = refl
    typed types.Text h = rw (name_String, name) refl
    typed (types.Named m) h = rw (
      h.0,
      name,
      name_is_not m (codes "final") h.0 final_no_name,
      name_is_not m (codes "int") h.0 no_name_int,
      name_is_not m (codes "boolean") h.0 no_name_boolean,
    ) refl

    by_final : (vs : List Token) → IsFinal vs → is_decl (vs ++ back) ≡ true
    by_final vs (inl h) = rw h (typed ty of_type)
    by_final vs (inr (q, h)) = rw h refl
local_decl (Assign p t e) us rest h = absurd h
local_decl (If p c s) us rest h = absurd h
local_decl (IfElse p c s r) us rest h = absurd h
local_decl (While p l c s) us rest h = absurd h
local_decl (Do p l s c) us rest h = absurd h
local_decl (Switch p e gs end) us rest h = absurd h
local_decl (Break p l) us rest h = absurd h
local_decl (Continue p l) us rest h = absurd h
local_decl (Return p e) us rest h = absurd h
local_decl (Print p e) us rest h = absurd h
local_decl (Eval p e) us rest h = absurd h

-- What a post expression never begins: a declaration, a label, an assignment.
pub record Quiet (ts : List Token) : Type 0 where
  pub undeclared : is_decl ts ≡ false
  pub unlabelled : is_label ts ≡ false
  pub unassigned : is_assign ts ≡ false

-- what may follow an expression that is no target and no label
pub record After (ts : List Token) : Type 0 where
  pub unnamed : is_named ts ≡ false
  pub uncolon : is_sign signs.Colon ts ≡ false
  pub unchanged : is_change ts ≡ false
  pub member : (a b : Token) (us : List Token) → ts ≡ a ∷ b ∷ us → is_sign signs.Dot (a ∷ []) ≡ true → is_named (b ∷ []) ≡ true →
      is_change us ≡ false

pub after_semicolon : (p : Place) (ts : List Token) → After (sign p signs.Semicolon ∷ ts)
after_semicolon p ts = record {
  unnamed = refl;
  uncolon = refl;
  unchanged = refl;
  member =
      λ a b us e dot name. absurd (no_dot a b us e dot);
} where
  kind_of_first : List Token → TokenKind
  kind_of_first [] = kinds.Number 0
  kind_of_first (t ∷ ts) = t.kind

  no_dot : (a b : Token) (us : List Token) → sign p signs.Semicolon ∷ ts ≡ a ∷ b ∷ us → is_sign signs.Dot (a ∷ []) ≡ true → ⊥
  no_dot a b us e dot = true≢false (sym dot ∙ ap (is_sign_kind signs.Dot) (sym (ap kind_of_first e)))

after_paren : (p : Place) (ts : List Token) → After (sign p signs.OpenParen ∷ ts)
after_paren p ts = record { unnamed = refl; uncolon = refl; unchanged = refl; member = λ a b us e dot name. absurd (no_dot a b us e dot) }
  where
    kind_of_first : List Token → TokenKind
    kind_of_first [] = kinds.Number 0
    kind_of_first (t ∷ ts) = t.kind

    no_dot : (a b : Token) (us : List Token) → sign p signs.OpenParen ∷ ts ≡ a ∷ b ∷ us → is_sign signs.Dot (a ∷ []) ≡ true → ⊥
    no_dot a b us e dot = true≢false (sym dot ∙ ap (is_sign_kind signs.Dot) (sym (ap kind_of_first e)))

after_dot : (p q : Place) (n : Name) (ts : List Token) → is_change ts ≡ false → After (sign p signs.Dot ∷ word q n ∷ ts)
after_dot p q n ts h = record { unnamed = refl; uncolon = refl; unchanged = refl; member = member } where
  rest_of : List Token → List Token
  rest_of [] = []
  rest_of (a ∷ []) = []
  rest_of (a ∷ b ∷ us) = us

  member : (a b : Token) (us : List Token) → sign p signs.Dot ∷ word q n ∷ ts ≡ a ∷ b ∷ us → is_sign signs.Dot (a ∷ []) ≡ true →
      is_named (b ∷ []) ≡ true → is_change us ≡ false
  member a b us e dot name = ap is_change (sym (ap rest_of e)) ∙ h

-- a word in front of what follows an expression
quiet_name : (p : Place) (n : Name) (ts : List Token) → IsName n → After ts → Quiet (word p n ∷ ts)
quiet_name p n ts name a = record {
  undeclared = rw (
    name_is_not n (codes "final") name final_no_name,
    name_is_not n (codes "int") name no_name_int,
    name_is_not n (codes "boolean") name no_name_boolean,
    name,
    a.unnamed,
  ) refl;
  unlabelled = rw (name, a.uncolon) refl;
  unassigned = by_field ts a.unchanged;
} where
  by_field : (ts : List Token) → is_change ts ≡ false → is_assign (word p n ∷ ts) ≡ false
  by_field [] h = rw name refl
  by_field (x ∷ []) h = rw (name, h) refl
  by_field (x ∷ y ∷ us) h = rw (name, h, name_is_not n (codes "this") name no_name_this) refl

quiet_this : (p : Place) (ts : List Token) → After ts → Quiet (word p (codes "this") ∷ ts)
quiet_this p ts a = record { undeclared = rw no_name_this refl; unlabelled = rw no_name_this refl; unassigned = by_field ts a.member } where
  and_false : (x y z : Bool) → (x ≡ true → y ≡ true → z ≡ false) → (x && (y && z)) ≡ false
  and_false false y z h = refl
  and_false true false z h = refl
  and_false true true z h = h refl refl

  by_field : (ts : List Token) → ((a b : Token) (us : List Token) → ts ≡ a ∷ b ∷ us → is_sign signs.Dot (a ∷ []) ≡ true →
      is_named (b ∷ []) ≡ true → is_change us ≡ false) → is_assign (word p (codes "this") ∷ ts) ≡ false
  by_field [] h = rw no_name_this refl
  by_field (x ∷ []) h = rw no_name_this refl
  by_field (x ∷ y ∷ us) h = rw (no_name_this, and_false (is_sign signs.Dot (x ∷ [])) (is_named (y ∷ [])) (is_change us) (h x y us refl))
      refl

-- another word that begins an expression
quiet_word : (p : Place) (w : Name) (ts : List Token) → is_name w ≡ false → bytes_eq w (codes "final") ≡ false →
    bytes_eq w (codes "int") ≡ false → bytes_eq w (codes "boolean") ≡ false → bytes_eq w (codes "this") ≡ false → Quiet (word p w ∷ ts)
quiet_word p w ts h a b c d = record { undeclared = rw (h, a, b, c) refl; unlabelled = rw h refl; unassigned = by_field ts } where
  by_field : (ts : List Token) → is_assign (word p w ∷ ts) ≡ false
  by_field [] = rw h refl
  by_field (x ∷ []) = rw h refl
  by_field (x ∷ y ∷ us) = rw (h, d) refl

quiet_other : (t : Token) (ts : List Token) → is_decl (t ∷ ts) ≡ false → is_named (t ∷ []) ≡ false → is_counter (t ∷ ts) ≡ false →
    is_word (codes "this") (t ∷ []) ≡ false → Quiet (t ∷ ts)
quiet_other t ts decl name count this = record { undeclared = decl; unlabelled = rw name refl; unassigned = by_field ts count } where
  by_field : (ts : List Token) → is_counter (t ∷ ts) ≡ false → is_assign (t ∷ ts) ≡ false
  by_field [] c = rw (c, name) refl
  by_field (x ∷ []) c = rw (c, name) refl
  by_field (x ∷ y ∷ us) c = rw (c, name, this) refl

module _ (m : ℕ) (G : Language) where
  simple_quiet : (e : Expr) (us rest : List Token) → After rest → IsSimple m G e us → Quiet (us ++ rest)
  simple_quiet (Int p z) us rest a (inl (n, less, value, parts)) = rw parts (quiet_other (number p n) rest refl refl refl refl)
  simple_quiet (Int p z) us rest a (inr (n, q, less, value, parts)) =
      rw parts (quiet_other (sign p signs.Minus) (number q n ∷ rest) refl refl refl refl)
  simple_quiet (Truth p true) us rest a parts = rw parts (quiet_word p (codes "true") rest no_name_true refl refl refl refl)
  simple_quiet (Truth p false) us rest a parts = rw parts (quiet_word p (codes "false") rest no_name_false refl refl refl refl)
  simple_quiet (Text p t) us rest a parts = rw parts (quiet_other (quoted p t) rest refl refl refl refl)
  simple_quiet (Null p) us rest a parts = rw parts (quiet_word p (codes "null") rest no_name_null refl refl refl refl)
  simple_quiet (This p) us rest a parts = rw parts (quiet_this p rest a)
  simple_quiet (Variable p n) us rest a (name, parts) = rw parts (quiet_name p n rest name a)
  simple_quiet (Call p n args) us rest a (name, vs, parts, (less, b, c, ws, opens, h)) =
      rw (parts, opens) (quiet_name p n _ name (after_paren b _))
  simple_quiet (New p n) us rest a (less, name, b, c, d, parts) = rw parts (quiet_word p (codes "new") _ no_name_new refl refl refl refl)
  simple_quiet (Member p e n) us rest a h = absurd h
  simple_quiet (Neg p e) us rest a h = absurd h
  simple_quiet (Not p e) us rest a h = absurd h
  simple_quiet (Binary p o l r) us rest a h = absurd h
  simple_quiet (MethodCall p e n args) us rest a h = absurd h

  primary_quiet : (e : Expr) (us rest : List Token) → After rest → IsPrimary m G e us → Quiet (us ++ rest)
  primary_quiet e us rest a (inl h) = simple_quiet e us rest a h
  primary_quiet e us rest a (inr (b, c, vs, parts, h)) = rw parts (quiet_other (sign b signs.OpenParen) _ refl refl refl refl)

  pub post_quiet : (e : Expr) (us rest : List Token) → After rest → IsPost m G e us → Quiet (us ++ rest)
  post_quiet (Int p z) us rest x h = primary_quiet (Int p z) us rest x h
  post_quiet (Truth p b) us rest x h = primary_quiet (Truth p b) us rest x h
  post_quiet (Text p t) us rest x h = primary_quiet (Text p t) us rest x h
  post_quiet (Null p) us rest x h = primary_quiet (Null p) us rest x h
  post_quiet (This p) us rest x h = primary_quiet (This p) us rest x h
  post_quiet (Variable p n) us rest x h = primary_quiet (Variable p n) us rest x h
  post_quiet (Member p e n) us rest x (inl h) = primary_quiet (Member p e n) us rest x h
  post_quiet (Member p e n) us rest x (inr (name, place, a, b, vs, parts, h)) =
      rw (parts, append_assoc) (post_quiet e vs (sign a signs.Dot ∷ word b n ∷ rest) (after_dot a b n rest x.unchanged) h)
  post_quiet (Neg p e) us rest x h = primary_quiet (Neg p e) us rest x h
  post_quiet (Not p e) us rest x h = primary_quiet (Not p e) us rest x h
  post_quiet (Binary p o l r) us rest x h = primary_quiet (Binary p o l r) us rest x h
  post_quiet (Call p n args) us rest x h = primary_quiet (Call p n args) us rest x h
  post_quiet (MethodCall p e n args) us rest x (inl h) = primary_quiet (MethodCall p e n args) us rest x h
  post_quiet (MethodCall p e n args) us rest x (inr (name, place, a, b, vs, ws, parts, h, given)) =
      rw (parts, append_assoc) (post_quiet e vs (sign a signs.Dot ∷ word b n ∷ (ws ++ rest))
      (after_dot a b n (ws ++ rest) (opened ws given)) h) where
        opened : (ws : List Token) → AreArguments m G args ws → is_change (ws ++ rest) ≡ false
        opened ws (less, c, d, xs, opens, h) = rw opens refl
  post_quiet (New p n) us rest x h = primary_quiet (New p n) us rest x h

-- Signs: the longest that stands there.
use Rattle.std.proofs.Common.{◌≡◌, ℕ, List, [], ◌∷◌, ◌++◌, length, Bool, true, false, cond, eqb, Option, Some, None, refl, sym, ap, ◌∙◌}
use Rattle.std.proofs.Common.{subst, inl, inr, ◌⊎◌, arith}
use Rattle.std.specs.Prelude.{slice_index, Ok, ◌||◌, ◌==◌}
use Rattle.std.proofs.lemmas.Bool.{eqb-true}
use Rattle.std.proofs.lemmas.Bool.Decides.{nat_tests}
use Rattle.mg_read.specs.Passes.{StopsAt}
use Rattle.mg_read.proofs.Steps.{some_is, none_is_not, chosen}
use Rattle.mg_read.proofs.Spans.{either}
use Rattle.jv_tree.specs.declared.token.Sign.{Sign}
use Rattle.jv_tree.specs.declared.token.Sign.TheVariants as signs
use Rattle.jv_lex.specs.Signs.{written, goes_on}
use Rattle.jv_lex.specs.Pieces.{Piece, sign}
use Rattle.jv_lex.specs.Faults.{is_start, bad_byte}
use Rattle.jv_lex.specs.inner.Front.{bracket, operator, mark, or_else, single, with_equals, doubled, pair, or_alone, longest, sign_from}
use Rattle.jv_lex.specs.inner.Front.{sign_at, front_at}
use Rattle.jv_lex.proofs.Texts.{neither}
use Rattle.jv_lex.proofs.Right.{Stands, Right}

-- the first byte of a sign
abbrev pub head : Sign → ℕ
head s = slice_index (written s) 0

-- ---- the sign that a byte is

-- a step of a table
row : (c k : ℕ) (t s : Sign) (other : Option Sign) → written t ≡ k ∷ [] → cond (eqb c k) (Some t) other ≡ Some s →
    (other ≡ Some s → written s ≡ c ∷ []) → written s ≡ c ∷ []
row c k t s other is e more = elim (chosen (eqb c k) (Some t) other (Some s) e) [
  | inl h ↦ let same : t ≡ s = some_is t s h.1 in ap written (sym same) ∙ is ∙ ap (λ (z : ℕ). z ∷ []) (sym (eqb-true c k h.0))
  | inr h ↦ more h.1
]

bracket_is : (c : ℕ) (s : Sign) → bracket c ≡ Some s → written s ≡ c ∷ []
bracket_is c s e =
    row c 123 signs.OpenBrace s _ refl e (λ e.
    row c 125 signs.CloseBrace s _ refl e (λ e.
    row c 40 signs.OpenParen s _ refl e (λ e.
    row c 41 signs.CloseParen s _ refl e (λ e.
    row c 91 signs.OpenBracket s _ refl e (λ e.
    row c 93 signs.CloseBracket s _ refl e (λ e.
    row c 59 signs.Semicolon s _ refl e (λ e.
    row c 44 signs.Comma s _ refl e (λ e.
    row c 46 signs.Dot s _ refl e (λ e. absurd (none_is_not s e))))))))))

operator_is : (c : ℕ) (s : Sign) → operator c ≡ Some s → written s ≡ c ∷ []
operator_is c s e =
    row c 61 signs.Assign s _ refl e (λ e.
    row c 60 signs.Less s _ refl e (λ e.
    row c 62 signs.Greater s _ refl e (λ e.
    row c 43 signs.Plus s _ refl e (λ e.
    row c 45 signs.Minus s _ refl e (λ e.
    row c 42 signs.Star s _ refl e (λ e.
    row c 47 signs.Slash s _ refl e (λ e.
    row c 37 signs.Percent s _ refl e (λ e.
    row c 33 signs.Bang s _ refl e (λ e. absurd (none_is_not s e))))))))))

mark_is : (c : ℕ) (s : Sign) → mark c ≡ Some s → written s ≡ c ∷ []
mark_is c s e =
    row c 58 signs.Colon s _ refl e (λ e.
    row c 64 signs.At s _ refl e (λ e.
    row c 63 signs.Question s _ refl e (λ e.
    row c 38 signs.Ampersand s _ refl e (λ e.
    row c 124 signs.Bar s _ refl e (λ e.
    row c 94 signs.Caret s _ refl e (λ e.
    row c 126 signs.Tilde s _ refl e (λ e. absurd (none_is_not s e))))))))

either_sign : (a b : Option Sign) (s : Sign) → or_else a b ≡ Some s → (a ≡ Some s) ⊎ (b ≡ Some s)
either_sign (Some t) b s e = inl e
either_sign None b s e = inr e

-- what is found is written so
pub single_is : (c : ℕ) (s : Sign) → single c ≡ Some s → written s ≡ c ∷ []
single_is c s e = elim (either_sign (bracket c) (or_else (operator c) (mark c)) s e) [
  | inl h ↦ bracket_is c s h
  | inr h ↦ elim (either_sign (operator c) (mark c) s h) [
    | inl h ↦ operator_is c s h
    | inr h ↦ mark_is c s h
  ]
]

-- the first byte of each sign is a sign
single_head : (s : Sign) → (t : Sign) × (single (head s) ≡ Some t)
single_head signs.OpenBrace = (signs.OpenBrace, refl)
single_head signs.CloseBrace = (signs.CloseBrace, refl)
single_head signs.OpenParen = (signs.OpenParen, refl)
single_head signs.CloseParen = (signs.CloseParen, refl)
single_head signs.OpenBracket = (signs.OpenBracket, refl)
single_head signs.CloseBracket = (signs.CloseBracket, refl)
single_head signs.Semicolon = (signs.Semicolon, refl)
single_head signs.Comma = (signs.Comma, refl)
single_head signs.Dot = (signs.Dot, refl)
single_head signs.Assign = (signs.Assign, refl)
single_head signs.Equal = (signs.Assign, refl)
single_head signs.NotEqual = (signs.Bang, refl)
single_head signs.Less = (signs.Less, refl)
single_head signs.LessEqual = (signs.Less, refl)
single_head signs.Greater = (signs.Greater, refl)
single_head signs.GreaterEqual = (signs.Greater, refl)
single_head signs.Plus = (signs.Plus, refl)
single_head signs.Minus = (signs.Minus, refl)
single_head signs.Star = (signs.Star, refl)
single_head signs.Slash = (signs.Slash, refl)
single_head signs.Percent = (signs.Percent, refl)
single_head signs.PlusPlus = (signs.Plus, refl)
single_head signs.MinusMinus = (signs.Minus, refl)
single_head signs.PlusAssign = (signs.Plus, refl)
single_head signs.MinusAssign = (signs.Minus, refl)
single_head signs.StarAssign = (signs.Star, refl)
single_head signs.SlashAssign = (signs.Slash, refl)
single_head signs.PercentAssign = (signs.Percent, refl)
single_head signs.Bang = (signs.Bang, refl)
single_head signs.AndAnd = (signs.Ampersand, refl)
single_head signs.OrOr = (signs.Bar, refl)
single_head signs.Colon = (signs.Colon, refl)
single_head signs.At = (signs.At, refl)
single_head signs.Question = (signs.Question, refl)
single_head signs.Ampersand = (signs.Ampersand, refl)
single_head signs.Bar = (signs.Bar, refl)
single_head signs.Caret = (signs.Caret, refl)
single_head signs.Tilde = (signs.Tilde, refl)

-- a sign is some bytes
written_head : (s : Sign) (after : List ℕ) → slice_index (written s ++ after) 0 ≡ head s
written_head signs.OpenBrace after = refl
written_head s after = refl

-- where a byte is no sign, none begins
no_sign : (c : ℕ) (cs : List ℕ) → single c ≡ None → (s : Sign) (after : List ℕ) → c ∷ cs ≡ written s ++ after → ⊥
no_sign c cs e s after parts =
    let is : c ≡ head s = ap (λ (z : List ℕ). slice_index z 0) parts ∙ written_head s after in
    let t = single_head s in
    none_is_not t.0 (sym e ∙ ap single is ∙ t.1)

-- where none begins, the byte is none
pub single_none : (c : ℕ) (cs : List ℕ) → ((s : Sign) (after : List ℕ) → c ∷ cs ≡ written s ++ after → ⊥) → single c ≡ None
single_none c cs none = go (single c) refl where
  go : (o : Option Sign) → single c ≡ o → single c ≡ None
  go None e = e
  go (Some s) e = absurd (none s cs (ap (λ (z : List ℕ). z ++ cs) (sym (single_is c s e))))

-- ---- the longer sign

-- a sign with "=" behind it
equals_is : (s t : Sign) → with_equals s ≡ Some t → written t ≡ written s ++ 61 ∷ []
equals_is signs.Assign t e = ap written (sym (some_is signs.Equal t e))
equals_is signs.Bang t e = ap written (sym (some_is signs.NotEqual t e))
equals_is signs.Less t e = ap written (sym (some_is signs.LessEqual t e))
equals_is signs.Greater t e = ap written (sym (some_is signs.GreaterEqual t e))
equals_is signs.Plus t e = ap written (sym (some_is signs.PlusAssign t e))
equals_is signs.Minus t e = ap written (sym (some_is signs.MinusAssign t e))
equals_is signs.Star t e = ap written (sym (some_is signs.StarAssign t e))
equals_is signs.Slash t e = ap written (sym (some_is signs.SlashAssign t e))
equals_is signs.Percent t e = ap written (sym (some_is signs.PercentAssign t e))
equals_is s t e = absurd (none_is_not t e)

-- a step of a table
twice : (c k : ℕ) (u t : Sign) (other : Option Sign) → written u ≡ k ∷ k ∷ [] → cond (eqb c k) (Some u) other ≡ Some t →
    (other ≡ Some t → written t ≡ c ∷ c ∷ []) → written t ≡ c ∷ c ∷ []
twice c k u t other is e more = elim (chosen (eqb c k) (Some u) other (Some t) e) [
  | inl h ↦ let same : u ≡ t = some_is u t h.1 in ap written (sym same) ∙ is ∙ ap (λ (z : ℕ). z ∷ z ∷ []) (sym (eqb-true c k h.0))
  | inr h ↦ more h.1
]

doubled_is : (c : ℕ) (t : Sign) → doubled c ≡ Some t → written t ≡ c ∷ c ∷ []
doubled_is c t e =
    twice c 43 signs.PlusPlus t _ refl e (λ e.
    twice c 45 signs.MinusMinus t _ refl e (λ e.
    twice c 38 signs.AndAnd t _ refl e (λ e.
    twice c 124 signs.OrOr t _ refl e (λ e. absurd (none_is_not t e)))))

-- what is found is written so
pub pair_is : (s : Sign) (c d : ℕ) (t : Sign) → written s ≡ c ∷ [] → pair s c d ≡ Some t → written t ≡ c ∷ d ∷ []
pair_is s c d t is e = elim (chosen (eqb d 61) (with_equals s) (cond (eqb c d) (doubled c) None) (Some t) e) [
  | inl h ↦ equals_is s t h.1 ∙ ap (λ (z : List ℕ). z ++ 61 ∷ []) is ∙ ap (λ (z : ℕ). c ∷ z ∷ []) (sym (eqb-true d 61 h.0))
  | inr h ↦ elim (chosen (eqb c d) (doubled c) None (Some t) h.1) [
    | inl h ↦ doubled_is c t h.1 ∙ ap (λ (z : ℕ). c ∷ z ∷ []) (eqb-true c d h.0)
    | inr h ↦ absurd (none_is_not t h.1)
  ]
]

-- no sign is of three bytes
two_at_most : (t : Sign) (d : ℕ) → length (written t) ≡ 2 → goes_on t d ≡ false
two_at_most signs.Equal d h = refl
two_at_most signs.NotEqual d h = refl
two_at_most signs.LessEqual d h = refl
two_at_most signs.GreaterEqual d h = refl
two_at_most signs.PlusPlus d h = refl
two_at_most signs.MinusMinus d h = refl
two_at_most signs.PlusAssign d h = refl
two_at_most signs.MinusAssign d h = refl
two_at_most signs.StarAssign d h = refl
two_at_most signs.SlashAssign d h = refl
two_at_most signs.PercentAssign d h = refl
two_at_most signs.AndAnd d h = refl
two_at_most signs.OrOr d h = refl
two_at_most t d h = absurd (omega arith)

-- ---- where no longer sign stands

-- the first way was not taken
off : (b : Bool) (x : Sign) (o : Option Sign) → cond b (Some x) o ≡ None → (b ≡ false) × (o ≡ None)
off true x o e = absurd (none_is_not x (sym e))
off false x o e = (refl, e)

-- a test the other way round
turned : (k d : ℕ) → eqb d k ≡ false → eqb k d ≡ false
turned k d h = grind (arith, nat_tests)

-- the same where no sign ends with "="
twice_off : (k d : ℕ) (t : Sign) → eqb k 61 ≡ false → cond (eqb d 61) None (cond (eqb k d) (Some t) None) ≡ None → eqb k d ≡ false
twice_off k d t other e = elim (chosen (eqb d 61) None (cond (eqb k d) (Some t) None) None e) [
  | inl h ↦ ap (λ (z : ℕ). eqb k z) (eqb-true d 61 h.0) ∙ other
  | inr h ↦ (off (eqb k d) t None h.1).0
]

-- bytes that begin a comment behind a "/"
abbrev pub begins_comment : ℕ → Bool
begins_comment c = c == 47 || c == 42

-- where no longer sign is found, none is written
quiet_at : (s : Sign) (d : ℕ) → length (written s) ≡ 1 → (s ≡ signs.Slash → begins_comment d ≡ false) → pair s (head s) d ≡ None →
    goes_on s d ≡ false
quiet_at signs.OpenBrace d one slash e = refl
quiet_at signs.CloseBrace d one slash e = refl
quiet_at signs.OpenParen d one slash e = refl
quiet_at signs.CloseParen d one slash e = refl
quiet_at signs.OpenBracket d one slash e = refl
quiet_at signs.CloseBracket d one slash e = refl
quiet_at signs.Semicolon d one slash e = refl
quiet_at signs.Comma d one slash e = refl
quiet_at signs.Dot d one slash e = refl
quiet_at signs.Colon d one slash e = refl
quiet_at signs.At d one slash e = refl
quiet_at signs.Question d one slash e = refl
quiet_at signs.Caret d one slash e = refl
quiet_at signs.Tilde d one slash e = refl
quiet_at signs.Assign d one slash e =
    let a : eqb 61 d ≡ false = turned 61 d (off (eqb d 61) signs.Equal _ e).0 in
    rw a refl
quiet_at signs.Bang d one slash e =
    let a : eqb 61 d ≡ false = turned 61 d (off (eqb d 61) signs.NotEqual _ e).0 in
    rw a refl
quiet_at signs.Less d one slash e =
    let a : eqb 61 d ≡ false = turned 61 d (off (eqb d 61) signs.LessEqual _ e).0 in
    rw a refl
quiet_at signs.Greater d one slash e =
    let a : eqb 61 d ≡ false = turned 61 d (off (eqb d 61) signs.GreaterEqual _ e).0 in
    rw a refl
quiet_at signs.Star d one slash e =
    let a : eqb 61 d ≡ false = turned 61 d (off (eqb d 61) signs.StarAssign _ e).0 in
    rw a refl
quiet_at signs.Percent d one slash e =
    let a : eqb 61 d ≡ false = turned 61 d (off (eqb d 61) signs.PercentAssign _ e).0 in
    rw a refl
quiet_at signs.Plus d one slash e =
    let p = off (eqb d 61) signs.PlusAssign (cond (eqb 43 d) (Some signs.PlusPlus) None) e in
    let a : eqb 61 d ≡ false = turned 61 d p.0 in
    let b : eqb 43 d ≡ false = (off (eqb 43 d) signs.PlusPlus None p.1).0 in
    rw (a, b) refl
quiet_at signs.Minus d one slash e =
    let p = off (eqb d 61) signs.MinusAssign (cond (eqb 45 d) (Some signs.MinusMinus) None) e in
    let a : eqb 61 d ≡ false = turned 61 d p.0 in
    let b : eqb 45 d ≡ false = (off (eqb 45 d) signs.MinusMinus None p.1).0 in
    rw (a, b) refl
quiet_at signs.Ampersand d one slash e =
    let b : eqb 38 d ≡ false = twice_off 38 d signs.AndAnd refl e in
    rw b refl
quiet_at signs.Bar d one slash e =
    let b : eqb 124 d ≡ false = twice_off 124 d signs.OrOr refl e in
    rw b refl
quiet_at signs.Slash d one slash e =
    let a : eqb 61 d ≡ false = turned 61 d (off (eqb d 61) signs.SlashAssign _ e).0 in
    let n = neither (eqb d 47) (eqb d 42) (slash refl) in
    let b : eqb 47 d ≡ false = turned 47 d n.0 in
    let c : eqb 42 d ≡ false = turned 42 d n.1 in
    rw (a, b, c) refl
quiet_at s d one slash e = absurd (omega arith)

quiet : (s : Sign) (c d : ℕ) → written s ≡ c ∷ [] → (c ≡ 47 → begins_comment d ≡ false) → pair s c d ≡ None → goes_on s d ≡ false
quiet s c d is slash e =
    let head_is : c ≡ head s = ap (λ (z : List ℕ). slice_index z 0) (sym is) in
    quiet_at s d (ap length is) (λ h. slash (head_is ∙ ap head h)) (subst (λ (z : ℕ). pair s z d ≡ None) head_is e)

-- the longest sign stands
longest_right : (s : Sign) (c : ℕ) (cs : List ℕ) → written s ≡ c ∷ [] → (c ≡ 47 → StopsAt begins_comment cs) →
    Stands (c ∷ cs) (longest s c cs)
longest_right s c [] is slash = (ap (λ (z : List ℕ). z ++ []) (sym is), tt)
longest_right s c (d ∷ ds) is slash = go (pair s c d) refl where
  stops : (t : Sign) (xs : List ℕ) → length (written t) ≡ 2 → StopsAt (goes_on t) xs
  stops t [] h = tt
  stops t (x ∷ xs) h = two_at_most t x h

  go : (o : Option Sign) → pair s c d ≡ o → Stands (c ∷ d ∷ ds) (or_alone s (d ∷ ds) o)
  go None e = (ap (λ (z : List ℕ). z ++ d ∷ ds) (sym is), quiet s c d is slash e)
  go (Some t) e = let w = pair_is s c d t is e in (ap (λ (z : List ℕ). z ++ ds) (sym w), stops t ds (ap length w))

-- what is found of signs is right
pub sign_right : (c : ℕ) (cs : List ℕ) → is_start c ≡ false → (c ≡ 47 → StopsAt begins_comment cs) → Right (c ∷ cs) (sign_at c cs)
sign_right c cs start slash = go (single c) refl where
  go : (o : Option Sign) → single c ≡ o → Right (c ∷ cs) (sign_from c cs o)
  go None e = bad_byte c cs refl start (no_sign c cs e)
  go (Some s) e = longest_right s c cs (single_is c s e) slash

-- ---- a sign that may stand is found

-- where no longer sign is written, none is found
pair_none : (s : Sign) (d : ℕ) → goes_on s d ≡ false → ((goes_on s 61 ≡ true) ⊎ (with_equals s ≡ None)) →
    ((goes_on s (head s) ≡ true) ⊎ (doubled (head s) ≡ None))
    → pair s (head s) d ≡ None
pair_none s d h equals double = elim (either (eqb d 61)) [
  | inl t ↦ rw t (elim equals [
    | inl on ↦ let no : true ≡ false = sym on ∙ ap (goes_on s) (sym (eqb-true d 61 t)) ∙ h in absurd cc
    | inr none ↦ none
  ])
  | inr f ↦ rw f (elim (either (eqb (head s) d)) [
    | inl t ↦ rw t (elim double [
      | inl on ↦ let no : true ≡ false = sym on ∙ ap (goes_on s) (eqb-true (head s) d t) ∙ h in absurd cc
      | inr none ↦ none
    ])
    | inr f ↦ rw f refl
  ])
]

alone : (s : Sign) (rest : List ℕ) → StopsAt (goes_on s) rest → ((goes_on s 61 ≡ true) ⊎ (with_equals s ≡ None)) →
    ((goes_on s (head s) ≡ true) ⊎ (doubled (head s) ≡ None))
    → longest s (head s) rest ≡ (sign s, rest)
alone s [] h equals double = refl
alone s (d ∷ ds) h equals double = ap (or_alone s (d ∷ ds)) (pair_none s d h equals double)

-- a "/" that begins no comment
slash_alone : (rest : List ℕ) → StopsAt (goes_on signs.Slash) rest → front_at (47 ∷ rest) ≡ Ok (sign signs.Slash, rest)
slash_alone [] h = refl
slash_alone (d ∷ ds) h =
    let a : eqb d 47 ≡ false = absent 47 refl in
    let b : eqb d 42 ≡ false = absent 42 refl in
    rw (a, b) (ap (λ (x : Piece × List ℕ). Ok x) (alone signs.Slash (d ∷ ds) h (inl refl) (inl refl))) where
      absent : (k : ℕ) → goes_on signs.Slash k ≡ true → eqb d k ≡ false
      absent k on = elim (either (eqb d k)) [
        | inl t ↦ let no : true ≡ false = sym on ∙ ap (goes_on signs.Slash) (sym (eqb-true d k t)) ∙ h in absurd cc
        | inr f ↦ f
      ]

pub sign_again : (s : Sign) (rest : List ℕ) → StopsAt (goes_on s) rest → front_at (written s ++ rest) ≡ Ok (sign s, rest)
sign_again signs.Slash rest h = slash_alone rest h
sign_again signs.OpenBrace rest h = ap (λ (x : Piece × List ℕ). Ok x) (alone signs.OpenBrace rest h (inr refl) (inr refl))
sign_again signs.CloseBrace rest h = ap (λ (x : Piece × List ℕ). Ok x) (alone signs.CloseBrace rest h (inr refl) (inr refl))
sign_again signs.OpenParen rest h = ap (λ (x : Piece × List ℕ). Ok x) (alone signs.OpenParen rest h (inr refl) (inr refl))
sign_again signs.CloseParen rest h = ap (λ (x : Piece × List ℕ). Ok x) (alone signs.CloseParen rest h (inr refl) (inr refl))
sign_again signs.OpenBracket rest h = ap (λ (x : Piece × List ℕ). Ok x) (alone signs.OpenBracket rest h (inr refl) (inr refl))
sign_again signs.CloseBracket rest h = ap (λ (x : Piece × List ℕ). Ok x) (alone signs.CloseBracket rest h (inr refl) (inr refl))
sign_again signs.Semicolon rest h = ap (λ (x : Piece × List ℕ). Ok x) (alone signs.Semicolon rest h (inr refl) (inr refl))
sign_again signs.Comma rest h = ap (λ (x : Piece × List ℕ). Ok x) (alone signs.Comma rest h (inr refl) (inr refl))
sign_again signs.Dot rest h = ap (λ (x : Piece × List ℕ). Ok x) (alone signs.Dot rest h (inr refl) (inr refl))
sign_again signs.Colon rest h = ap (λ (x : Piece × List ℕ). Ok x) (alone signs.Colon rest h (inr refl) (inr refl))
sign_again signs.At rest h = ap (λ (x : Piece × List ℕ). Ok x) (alone signs.At rest h (inr refl) (inr refl))
sign_again signs.Question rest h = ap (λ (x : Piece × List ℕ). Ok x) (alone signs.Question rest h (inr refl) (inr refl))
sign_again signs.Caret rest h = ap (λ (x : Piece × List ℕ). Ok x) (alone signs.Caret rest h (inr refl) (inr refl))
sign_again signs.Tilde rest h = ap (λ (x : Piece × List ℕ). Ok x) (alone signs.Tilde rest h (inr refl) (inr refl))
sign_again signs.Assign rest h = ap (λ (x : Piece × List ℕ). Ok x) (alone signs.Assign rest h (inl refl) (inl refl))
sign_again signs.Bang rest h = ap (λ (x : Piece × List ℕ). Ok x) (alone signs.Bang rest h (inl refl) (inr refl))
sign_again signs.Less rest h = ap (λ (x : Piece × List ℕ). Ok x) (alone signs.Less rest h (inl refl) (inr refl))
sign_again signs.Greater rest h = ap (λ (x : Piece × List ℕ). Ok x) (alone signs.Greater rest h (inl refl) (inr refl))
sign_again signs.Star rest h = ap (λ (x : Piece × List ℕ). Ok x) (alone signs.Star rest h (inl refl) (inr refl))
sign_again signs.Percent rest h = ap (λ (x : Piece × List ℕ). Ok x) (alone signs.Percent rest h (inl refl) (inr refl))
sign_again signs.Plus rest h = ap (λ (x : Piece × List ℕ). Ok x) (alone signs.Plus rest h (inl refl) (inl refl))
sign_again signs.Minus rest h = ap (λ (x : Piece × List ℕ). Ok x) (alone signs.Minus rest h (inl refl) (inl refl))
sign_again signs.Ampersand rest h = ap (λ (x : Piece × List ℕ). Ok x) (alone signs.Ampersand rest h (inr refl) (inl refl))
sign_again signs.Bar rest h = ap (λ (x : Piece × List ℕ). Ok x) (alone signs.Bar rest h (inr refl) (inl refl))
sign_again s rest h = refl

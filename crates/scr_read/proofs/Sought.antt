-- Looking for the first word that isn't supported: whatever words of marks aren't.
use Rattle.std.proofs.Common.{◌≡◌, List, [], ◌∷◌, length, Option, Some, None, refl, sym, ap, subst, ◌∙◌, arith}
use Rattle.mg_text.specs.Call.{Name}
use Rattle.mg_text.specs.declared.place.Place.{Place}
use Rattle.mg_read.specs.Culprit.{Culprit, culprit}
use Rattle.mg_read.specs.First.{Judged, clean, here, later}
use Rattle.mg_read.specs.FirstLaws.{IsSingle}
use Rattle.mg_read.proofs.Steps.{some_is, none_is_not}
use Rattle.scr_tree.specs.Tok.{Tok, named, quoted, marked, tok, toks, tok_at}
use Rattle.scr_tree.specs.declared.token.Token.{Token}
use Rattle.scr_tree.specs.declared.token.TokenKind.{TokenKind}
use Rattle.scr_tree.specs.declared.token.TokenKind.TheVariants as kinds
use Rattle.scr_tree.specs.declared.token.Mark.{Mark}

module _ (word_of : Mark → Option Name) where
  -- the word that a token is, if it isn't supported
  abbrev pub word_at : Tok → Option Name
  word_at (named place name) = None
  word_at (quoted place name) = None
  word_at (marked place mark) = word_of mark

  -- a token is such a word
  abbrev pub IsWord : Tok → Culprit → Type 0
  IsWord (marked place mark) c = (word : Name) × (word_of mark ≡ Some word) × (c ≡ culprit place word)
  IsWord _ c = ⊥

  -- what the rest answers, the whole does
  pub record Left (rest whole : List Tok) : Type 0 where
    pub left : (r : Option Culprit) → Judged IsWord rest r → Judged IsWord whole r

  pub left_start : (ts : List Tok) → Left ts ts
  left_start ts = record { left = λ r j. j }

  supported : (t : Tok) → word_at t ≡ None → (c : Culprit) → IsWord t c → ⊥
  supported (named p n) e c h = h
  supported (quoted p n) e c h = h
  supported (marked p m) e c (word, is, at) = none_is_not word (sym e ∙ is)

  pub left_later : (t : Tok) (ts whole : List Tok) → word_at t ≡ None → Left (t ∷ ts) whole → Left ts whole
  left_later t ts whole e l = record { left = λ r j. l.left r (later (supported t e) j) }

  unsupported : (place : Place) (kind : TokenKind) (word : Name) → word_at (tok_at place kind) ≡ Some word
      → IsWord (tok_at place kind) (culprit place word)
  unsupported place (kinds.Name n) word e = absurd (none_is_not word e)
  unsupported place (kinds.Quoted n) word e = absurd (none_is_not word e)
  unsupported place (kinds.Mark m) word e = (word, e, refl)

  pub left_here : (t : Token) (ts whole : List Tok) (word : Name) → word_at (tok t) ≡ Some word → Left (tok t ∷ ts) whole
      → Judged IsWord whole (Some (culprit t.place word))
  left_here t ts whole word e l = l.left (Some (culprit t.place word)) (here (unsupported t.place t.kind word e))

  pub left_end : (whole : List Tok) → Left [] whole → Judged IsWord whole None
  left_end whole l = l.left None clean

  pub single : IsSingle IsWord
  single (named p n) c d h g = absurd h
  single (quoted p n) c d h g = absurd h
  single (marked p m) c d (v, is, at) (w, also, too) =
      let same : v ≡ w = some_is v w (sym is ∙ also) in
      at ∙ ap (culprit p) same ∙ sym too

  -- ---- a turn of the loop, over the tokens of the program

  pub turn_later : (rest behind : List Token) (t : Token) (whole : List Tok) → rest ≡ t ∷ behind → word_at (tok t) ≡ None
      → Left (toks rest) whole → Left (toks behind) whole
  turn_later rest behind t whole parts e l = left_later (tok t) (toks behind) whole e
      (subst (λ (ts : List Token). Left (toks ts) whole) parts l)

  pub turn_here : (rest behind : List Token) (t : Token) (whole : List Tok) (word : Name) → rest ≡ t ∷ behind → word_at (tok t) ≡ Some word
      → Left (toks rest) whole
      → Judged IsWord whole (Some (culprit t.place word))
  turn_here rest behind t whole word parts e l = left_here t (toks behind) whole word e
      (subst (λ (ts : List Token). Left (toks ts) whole) parts l)

  pub turn_end : (rest : List Token) (whole : List Tok) → length rest ≡ 0 → Left (toks rest) whole → Judged IsWord whole None
  turn_end [] whole e l = left_end whole l
  turn_end (t ∷ ts) whole e l = absurd (omega arith)

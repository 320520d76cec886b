-- One step of a reader of tokens, taken apart.
use Rattle.std.proofs.Common.{◌≡◌, ℕ, zero, suc, List, [], ◌∷◌, length, Bool, true, false, eqb, Some, None, refl, sym, ap, ◌∙◌, subst, inl}
use Rattle.std.proofs.Common.{inr}
use Rattle.std.proofs.lemmas.Bool.{eqb-true, eq-eqb}
use Rattle.mg_text.specs.Call.{Name}
use Rattle.mg_text.specs.declared.place.Place.{Place}
use Rattle.mg_read.proofs.Steps.{some_is, none_is_not, chosen}
pub use Rattle.mg_read.proofs.Steps.{Anything, after}
use Rattle.scr_tree.specs.Tok.{Tok, named, quoted, marked, toks}
use Rattle.scr_tree.specs.declared.token.Mark.{Mark}
use Rattle.scr_tree.specs.declared.token.Mark.TheVariants as marks
use Rattle.scr_tree.specs.declared.token.Token.{Token}
use Rattle.scr_parse.specs.inner.Reading.{mark_at, name_at, quoted_at, is_at, not_closed, code}

pub length_toks : (ts : List Token) → length (toks ts) ≡ length ts
length_toks [] = refl
length_toks (t ∷ ts) = ap suc (length_toks ts)

-- the mark with a number
in_order : List Mark
in_order =
    marks.Module ∷ marks.Type ∷ marks.As ∷ marks.From ∷ marks.To ∷ marks.At ∷ marks.Local ∷ marks.Protocol ∷ marks.Role ∷ marks.Myself
    ∷ marks.Choice ∷ marks.Or ∷ marks.Rec ∷ marks.Continue ∷ marks.Par ∷ marks.Interruptible ∷ marks.Do ∷ marks.Global ∷ marks.Import
    ∷ marks.Sig ∷ marks.OpenParen ∷ marks.CloseParen ∷ marks.OpenBrace ∷ marks.CloseBrace ∷ marks.Less ∷ marks.Greater ∷ marks.Comma
    ∷ marks.Semicolon ∷ marks.Dot ∷ []

nth : ℕ → List Mark → Mark
nth n [] = marks.Module
nth zero (m ∷ ms) = m
nth (suc n) (m ∷ ms) = nth n ms

nth-code : (m : Mark) → nth (code m) in_order ≡ m
unfolding nth in_order
nth-code marks.Module = refl
nth-code marks.Type = refl
nth-code marks.As = refl
nth-code marks.From = refl
nth-code marks.To = refl
nth-code marks.At = refl
nth-code marks.Local = refl
nth-code marks.Protocol = refl
nth-code marks.Role = refl
nth-code marks.Myself = refl
nth-code marks.Choice = refl
nth-code marks.Or = refl
nth-code marks.Rec = refl
nth-code marks.Continue = refl
nth-code marks.Par = refl
nth-code marks.Interruptible = refl
nth-code marks.Do = refl
nth-code marks.Global = refl
nth-code marks.Import = refl
nth-code marks.Sig = refl
nth-code marks.OpenParen = refl
nth-code marks.CloseParen = refl
nth-code marks.OpenBrace = refl
nth-code marks.CloseBrace = refl
nth-code marks.Less = refl
nth-code marks.Greater = refl
nth-code marks.Comma = refl
nth-code marks.Semicolon = refl
nth-code marks.Dot = refl

code_same : (k m : Mark) → eqb (code k) (code m) ≡ true → k ≡ m
code_same k m e = sym (nth-code k) ∙ ap (λ (n : ℕ). nth n in_order) (eqb-true (code k) (code m) e) ∙ nth-code m

code_self : (m : Mark) → eqb (code m) (code m) ≡ true
code_self m = eq-eqb (code m) (code m) refl

-- a mark that was read stands there
pub mark_is : (m : Mark) (ts : List Tok) (x : Place × List Tok) → mark_at m ts ≡ Some x → ts ≡ marked x.0 m ∷ x.1
mark_is m [] x e = absurd cc
mark_is m (named p n ∷ ts) x e = absurd cc
mark_is m (quoted p n ∷ ts) x e = absurd cc
mark_is m (marked p k ∷ ts) x e =
    elim (chosen (eqb (code k) (code m)) (Some (p, ts)) None (Some x) e) [
      | inl t ↦ let same = code_same k m t.0 in
          subst (λ (y : Place × List Tok). marked p k ∷ ts ≡ marked y.0 m ∷ y.1) (some_is (p, ts) x t.1)
          (ap (λ (j : Mark). marked p j ∷ ts) same)
      | inr f ↦ absurd (none_is_not x f.1)
    ]

-- a name that was read stands there
pub name_is : (ts : List Tok) (x : (Place × Name) × List Tok) → name_at ts ≡ Some x → ts ≡ named x.0.0 x.0.1 ∷ x.1
name_is [] x e = absurd cc
name_is (named p n ∷ ts) x e = ap (λ (y : (Place × Name) × List Tok). named y.0.0 y.0.1 ∷ y.1) (some_is ((p, n), ts) x e)
name_is (quoted p n ∷ ts) x e = absurd cc
name_is (marked p k ∷ ts) x e = absurd cc

-- so does a quoted text
pub quoted_is : (ts : List Tok) (x : Name × List Tok) → quoted_at ts ≡ Some x → (p : Place) × (ts ≡ quoted p x.0 ∷ x.1)
quoted_is [] x e = absurd cc
quoted_is (named p n ∷ ts) x e = absurd cc
quoted_is (quoted p n ∷ ts) x e = (p, ap (λ (y : Name × List Tok). quoted p y.0 ∷ y.1) (some_is (n, ts) x e))
quoted_is (marked p k ∷ ts) x e = absurd cc

-- a mark that stands there is read
pub mark_again : (m : Mark) (p : Place) (ts : List Tok) → mark_at m (marked p m ∷ ts) ≡ Some (p, ts)
mark_again m p ts = rw code_self refl

pub is_at_again : (m : Mark) (p : Place) (ts : List Tok) → is_at m (marked p m ∷ ts) ≡ true
is_at_again m p ts = code_self m

pub not_closed_goes : (b : Bool) (ts : List Tok) → b ≡ is_at marks.CloseBrace ts → b ≡ false → not_closed ts ≡ true
not_closed_goes b ts e h = let at : is_at marks.CloseBrace ts ≡ false = sym e ∙ h in rw at refl

pub not_closed_stops : (b : Bool) (ts : List Tok) → b ≡ is_at marks.CloseBrace ts → b ≡ true → not_closed ts ≡ false
not_closed_stops b ts e h = let at : is_at marks.CloseBrace ts ≡ true = sym e ∙ h in rw at refl

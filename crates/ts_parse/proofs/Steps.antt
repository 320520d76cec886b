-- One step of a reader of tokens, taken apart.
use Rattle.std.proofs.Common.{◌≡◌, ℕ, zero, suc, List, [], ◌∷◌, length, Bool, true, false, eqb, Some, None, refl, sym, ap, ◌∙◌, subst, inl}
use Rattle.std.proofs.Common.{inr}
use Rattle.std.proofs.lemmas.Bool.{eqb-true, eq-eqb}
use Rattle.mg_text.specs.declared.place.Place.{Place}
use Rattle.mg_read.proofs.Steps.{some_is, none_is_not, chosen}
pub use Rattle.mg_read.proofs.Steps.{Anything, after}
use Rattle.ts_parse.specs.Tok.{Tok, named, marked, toks}
use Rattle.ts_parse.specs.declared.token.Mark.{Mark}
use Rattle.ts_parse.specs.declared.token.Mark.TheVariants as marks
use Rattle.ts_parse.specs.declared.token.Token.{Token}
use Rattle.ts_parse.specs.declared.written.Naming.{Naming}
use Rattle.ts_parse.specs.inner.Reading.{mark_at, name_at, is_at, not_closed, code}

pub length_toks : (ts : List Token) → length (toks ts) ≡ length ts
length_toks [] = refl
length_toks (t ∷ ts) = ap suc (length_toks ts)

-- the mark with a number
in_order : List Mark
in_order =
    marks.Typestate ∷ marks.Package ∷ marks.Import ∷ marks.OpenBrace ∷ marks.CloseBrace ∷ marks.OpenParen ∷ marks.CloseParen ∷ marks.Less
    ∷ marks.Greater ∷ marks.Equals ∷ marks.Comma ∷ marks.Colon ∷ marks.Semicolon ∷ marks.Dot ∷ marks.Star ∷ []

nth : ℕ → List Mark → Mark
nth n [] = marks.Typestate
nth zero (m ∷ ms) = m
nth (suc n) (m ∷ ms) = nth n ms

nth-code : (m : Mark) → nth (code m) in_order ≡ m
unfolding nth in_order
nth-code marks.Typestate = refl
nth-code marks.Package = refl
nth-code marks.Import = refl
nth-code marks.OpenBrace = refl
nth-code marks.CloseBrace = refl
nth-code marks.OpenParen = refl
nth-code marks.CloseParen = refl
nth-code marks.Less = refl
nth-code marks.Greater = refl
nth-code marks.Equals = refl
nth-code marks.Comma = refl
nth-code marks.Colon = refl
nth-code marks.Semicolon = refl
nth-code marks.Dot = refl
nth-code marks.Star = refl

code_same : (k m : Mark) → eqb (code k) (code m) ≡ true → k ≡ m
code_same k m e = sym (nth-code k) ∙ ap (λ (n : ℕ). nth n in_order) (eqb-true (code k) (code m) e) ∙ nth-code m

code_self : (m : Mark) → eqb (code m) (code m) ≡ true
code_self m = eq-eqb (code m) (code m) refl

-- a mark that was read stands there
pub mark_is : (m : Mark) (ts : List Tok) (x : Place × List Tok) → mark_at m ts ≡ Some x → ts ≡ marked x.0 m ∷ x.1
mark_is m [] x e = absurd cc
mark_is m (named p n ∷ ts) x e = absurd cc
mark_is m (marked p k ∷ ts) x e =
    elim (chosen (eqb (code k) (code m)) (Some (p, ts)) None (Some x) e) [
      | inl t ↦ let same = code_same k m t.0 in
          subst (λ (y : Place × List Tok). marked p k ∷ ts ≡ marked y.0 m ∷ y.1) (some_is (p, ts) x t.1)
          (ap (λ (j : Mark). marked p j ∷ ts) same)
      | inr f ↦ absurd (none_is_not x f.1)
    ]

-- a name that was read stands there
pub name_is : (ts : List Tok) (x : Naming × List Tok) → name_at ts ≡ Some x → ts ≡ named x.0.place x.0.text ∷ x.1
name_is [] x e = absurd cc
name_is (named p n ∷ ts) x e = ap (λ (y : Naming × List Tok). named y.0.place y.0.text ∷ y.1)
    (some_is (record { place = p; text = n }, ts) x e)
name_is (marked p k ∷ ts) x e = absurd cc

-- a mark that stands there is read
pub mark_again : (m : Mark) (p : Place) (ts : List Tok) → mark_at m (marked p m ∷ ts) ≡ Some (p, ts)
mark_again m p ts = rw code_self refl

pub is_at_again : (m : Mark) (p : Place) (ts : List Tok) → is_at m (marked p m ∷ ts) ≡ true
is_at_again m p ts = code_self m

pub not_closed_goes : (b : Bool) (ts : List Tok) → b ≡ is_at marks.CloseBrace ts → b ≡ false → not_closed ts ≡ true
not_closed_goes b ts e h = let at : is_at marks.CloseBrace ts ≡ false = sym e ∙ h in rw at refl

pub not_closed_stops : (b : Bool) (ts : List Tok) → b ≡ is_at marks.CloseBrace ts → b ≡ true → not_closed ts ≡ false
not_closed_stops b ts e h = let at : is_at marks.CloseBrace ts ≡ true = sym e ∙ h in rw at refl

-- One step of a reader of tokens, taken apart.
use Rattle.std.proofs.Common.{◌≡◌, ℕ, ◌≤◌, List, [], ◌∷◌, ◌++◌, true, false, Bool, Some, None, refl, sym, ap, ◌∙◌, subst, inl, inr}
use Rattle.std.proofs.Common.{true≢false, append_assoc}
use Rattle.std.specs.Prelude.{leb}
use Rattle.std.specs.Str.{bytes_eq}
use Rattle.std.proofs.lemmas.Bool.{leb-true, le-leb}
use Rattle.std.proofs.lemmas.Slice.Eq.{bytes_eq-Decides}
use denote.Enum.Bare.{same_true, true_same}
use Rattle.mg_text.specs.Call.{Name}
use Rattle.mg_text.specs.declared.place.Place.{Place}
use Rattle.mg_read.proofs.Steps.{some_is, none_is_not, chosen}
pub use Rattle.mg_read.proofs.Steps.{Anything, after}
use Rattle.jv_tree.specs.declared.token.Sign.{Sign}
use Rattle.jv_tree.specs.contracts.token.Sign.{the_type}
use Rattle.jv_tree.specs.declared.token.TokenKind.{TokenKind}
use Rattle.jv_tree.specs.declared.token.TokenKind.TheVariants as kinds
use Rattle.jv_tree.specs.declared.token.Token.{Token}
use Rattle.jv_tree.specs.Source.{Expr}
use Rattle.jv_tree.specs.Depth.{depth}
use Rattle.jv_tree.specs.Tokens.{word, sign, is_name, IsName}
use Rattle.jv_grammar.specs.Base.{same_sign, sign_in, sign_at, word_in, word_at, name_in, name_at, fits}

-- one list in front of another
pub glue : {ts us : List Token} (f g rest : List Token) → ts ≡ f ++ us → us ≡ g ++ rest → ts ≡ (f ++ g) ++ rest
glue f g rest a b = a ∙ ap (λ (r : List Token). f ++ r) b ∙ sym (append_assoc f g rest)

-- ---- signs

pub same_is : (k s : Sign) → same_sign k s ≡ true → k ≡ s
same_is k s e = same_true the_type tt k s e

pub same_self : (s : Sign) → same_sign s s ≡ true
same_self s = true_same the_type s s refl

-- a sign that was read stands there
sign_in_is : (s : Sign) (p : Place) (k : TokenKind) (ts : List Token) (x : Place × List Token) → sign_in s p k ts ≡ Some x →
    record { kind = k; place = p } ∷ ts ≡ sign x.0 s ∷ x.1
sign_in_is s p (kinds.Word w) ts x e = absurd (none_is_not x e)
sign_in_is s p (kinds.Number n) ts x e = absurd (none_is_not x e)
sign_in_is s p (kinds.Text t) ts x e = absurd (none_is_not x e)
sign_in_is s p (kinds.Sign k) ts x e =
    elim (chosen (same_sign k s) (Some (p, ts)) None (Some x) e) [
      | inl t ↦ subst (λ (y : Place × List Token). sign p k ∷ ts ≡ sign y.0 s ∷ y.1) (some_is (p, ts) x t.1)
          (ap (λ (j : Sign). sign p j ∷ ts) (same_is k s t.0))
      | inr f ↦ absurd (none_is_not x f.1)
    ]

pub sign_is : (s : Sign) (ts : List Token) (x : Place × List Token) → sign_at s ts ≡ Some x → ts ≡ sign x.0 s ∷ x.1
sign_is s [] x e = absurd (none_is_not x e)
sign_is s (t ∷ ts) x e = sign_in_is s t.place t.kind ts x e

-- ---- words

word_in_is : (w : Name) (p : Place) (k : TokenKind) (ts : List Token) (x : Place × List Token) → word_in w p k ts ≡ Some x →
    record { kind = k; place = p } ∷ ts ≡ word x.0 w ∷ x.1
word_in_is w p (kinds.Word v) ts x e =
    elim (chosen (bytes_eq v w) (Some (p, ts)) None (Some x) e) [
      | inl t ↦
          let same : v ≡ w = (bytes_eq-Decides v w).0 t.0 in
          subst (λ (y : Place × List Token). word p v ∷ ts ≡ word y.0 w ∷ y.1) (some_is (p, ts) x t.1)
          (ap (λ (m : Name). word p m ∷ ts) same)
      | inr f ↦ absurd (none_is_not x f.1)
    ]
word_in_is w p (kinds.Number n) ts x e = absurd (none_is_not x e)
word_in_is w p (kinds.Text t) ts x e = absurd (none_is_not x e)
word_in_is w p (kinds.Sign s) ts x e = absurd (none_is_not x e)

-- a word that was read stands there
pub word_is : (w : Name) (ts : List Token) (x : Place × List Token) → word_at w ts ≡ Some x → ts ≡ word x.0 w ∷ x.1
word_is w [] x e = absurd (none_is_not x e)
word_is w (t ∷ ts) x e = word_in_is w t.place t.kind ts x e

-- a name is no word of the language
pub name_is_not : (n w : Name) → IsName n → is_name w ≡ false → bytes_eq n w ≡ false
name_is_not n w h k = by_cases (bytes_eq n w) refl where
  by_cases : (b : Bool) → bytes_eq n w ≡ b → b ≡ false
  by_cases true e = absurd (true≢false (sym h ∙ ap is_name ((bytes_eq-Decides n w).0 e) ∙ k))
  by_cases false e = refl

-- ---- names

name_in_is : (p : Place) (k : TokenKind) (ts : List Token) (x : (Place × Name) × List Token) → name_in p k ts ≡ Some x →
    (record { kind = k; place = p } ∷ ts ≡ word x.0.0 x.0.1 ∷ x.1) × IsName x.0.1
name_in_is p (kinds.Word w) ts x e =
    elim (chosen (is_name w) (Some ((p, w), ts)) None (Some x) e) [
      | inl t ↦ subst (λ (y : (Place × Name) × List Token). (word p w ∷ ts ≡ word y.0.0 y.0.1 ∷ y.1) × IsName y.0.1)
          (some_is ((p, w), ts) x t.1) (refl, t.0)
      | inr f ↦ absurd (none_is_not x f.1)
    ]
name_in_is p (kinds.Number n) ts x e = absurd (none_is_not x e)
name_in_is p (kinds.Text t) ts x e = absurd (none_is_not x e)
name_in_is p (kinds.Sign s) ts x e = absurd (none_is_not x e)

-- a name that was read stands there
pub name_is : (ts : List Token) (x : (Place × Name) × List Token) → name_at ts ≡ Some x → (ts ≡ word x.0.0 x.0.1 ∷ x.1) × IsName x.0.1
name_is [] x e = absurd (none_is_not x e)
name_is (t ∷ ts) x e = name_in_is t.place t.kind ts x e

-- ---- depth

pub fits_is : (d : ℕ) (e : Expr) (ts : List Token) (x : Expr × List Token) → fits d e ts ≡ Some x → ((e, ts) ≡ x) × (depth e ≤ d)
fits_is d e ts x h =
    elim (chosen (leb (depth e) d) (Some (e, ts)) None (Some x) h) [
      | inl t ↦ (some_is (e, ts) x t.1, leb-true (depth e) d t.0)
      | inr f ↦ absurd (none_is_not x f.1)
    ]

pub fits_again : (d : ℕ) (e : Expr) (ts : List Token) → depth e ≤ d → fits d e ts ≡ Some (e, ts)
fits_again d e ts le = rw (le-leb (depth e) d le) refl

-- Texts that were met, and methods that come first.
use Rattle.std.proofs.Common.{◌≡◌, ℕ, Bool, true, false, cond, not, ◌||◌, List, [], ◌∷◌, ◌++◌, length, map, fold, Option, Some, None}
use Rattle.std.proofs.Common.{position, nat_lt, refl, sym, ap, ◌∙◌, true≢false}
use Rattle.std.specs.Prelude.{is_some, option_map}
use Rattle.std.specs.List.{list_any, position_or_len}
use Rattle.std.specs.Borrow.{Bor}
use Rattle.std.specs.Str.{bytes_eq}
use Rattle.std.proofs.lemmas.List.{map-append}
use Rattle.std.proofs.lemmas.List.Folds.{list_any-append}
use Rattle.std.proofs.lemmas.Slice.Eq.{bytes_eq-Decides}
use Rattle.mg_text.specs.Call.{Name}
use Rattle.mg_text.specs.Interned.{with_text}
use Rattle.mg_text.proofs.Numbered.{list_any-position}
use Rattle.ts_tree.specs.declared.parts.Method.{Method as KeptMethod}
use Rattle.ts_tree.specs.View.{method_of}
use Rattle.ts_tree.specs.Typestate.{Method}
use Rattle.lsp_offers.specs.declared.firsts.By.{By}
use Rattle.lsp_offers.specs.Firsts.{text_by}
use Rattle.lsp_offers.specs.inner.Seen.{seen}

pub any_at : (name : Name) (names : List Name) → is_some (position (bytes_eq name) names) ≡ list_any (bytes_eq name) names
any_at name names = go (list_any (bytes_eq name) names) (list_any-position (bytes_eq name) names)
  where
    go : (b : Bool) → b ≡ nat_lt (position_or_len (bytes_eq name) names) (length names) →
        is_some (cond (nat_lt (position_or_len (bytes_eq name) names) (length names)) (Some (position_or_len (bytes_eq name) names)) None)
        ≡ b
    go true e = ap (λ t. is_some (cond t (Some (position_or_len (bytes_eq name) names)) None)) (sym e)
    go false e = ap (λ t. is_some (cond t (Some (position_or_len (bytes_eq name) names)) None)) (sym e)

some_or_none : {X : Type 0} (f : X → ℕ) (o : Option X) (r : Option ℕ) → option_map f o ≡ r → is_some o ≡ is_some r
some_or_none f None r e = ap is_some e
some_or_none f (Some x) r e = ap is_some e

-- whether a text is in a table
pub any_found : {X : Type 0} (f : X → ℕ) (name : Name) (names : List Name) (o : Option X) (r : Bool) →
    option_map f o ≡ position (bytes_eq name) names → r ≡ is_some o → r ≡ list_any (bytes_eq name) names
any_found f name names o r e s = s ∙ some_or_none f o (position (bytes_eq name) names) e ∙ any_at name names

-- what a table is with one text more
pub with_text_by : (met : List Name) (text : Name) → with_text met text ≡ cond (list_any (bytes_eq text) met) met (met ++ text ∷ [])
with_text_by met text = ap (λ (b : Bool). cond b met (met ++ text ∷ [])) (any_at text met)

pub text_there : (met : List Name) (text : Name) (b : Bool) → b ≡ list_any (bytes_eq text) met → b ≡ true → met ≡ with_text met text
text_there met text b is there =
    sym (with_text_by met text ∙ ap (λ (c : Bool). cond c met (met ++ text ∷ [])) (sym is ∙ there))

absorbed : (a b : Bool) → (b ≡ true → a ≡ true) → (a || b) ≡ a
absorbed true b h = refl
absorbed false true h = absurd (true≢false (sym (h refl)))
absorbed false false h = refl

or_none : (a : Bool) → (a || false) ≡ a
or_none true = refl
or_none false = refl

or_or : (a b c : Bool) → ((a || b) || c) ≡ (a || (b || c))
or_or true b c = refl
or_or false b c = refl

-- a text that stands there already changes nothing
any_with : (n : Name) (met : List Name) (x : Name) → list_any (bytes_eq n) (with_text met x) ≡
    (list_any (bytes_eq n) met || bytes_eq n x)
any_with n met x = ap (list_any (bytes_eq n)) (with_text_by met x) ∙ go (list_any (bytes_eq x) met) refl
  where
    go : (b : Bool) → list_any (bytes_eq x) met ≡ b → list_any (bytes_eq n) (cond b met (met ++ x ∷ [])) ≡ (list_any (bytes_eq n) met ||
        bytes_eq n x)
    go true e = sym (absorbed (list_any (bytes_eq n) met) (bytes_eq n x)
        (λ h. ap (λ y. list_any (bytes_eq y) met) ((bytes_eq-Decides n x).0 h) ∙ e))
    go false e = list_any-append (bytes_eq n) met (x ∷ []) ∙ ap (λ b. list_any (bytes_eq n) met || b) (or_none (bytes_eq n x))

-- a table has the texts that were noted in it
pub any_noted : (n : Name) (met xs : List Name) → list_any (bytes_eq n) (fold with_text met xs) ≡ (list_any (bytes_eq n) met || list_any
    (bytes_eq n) xs)
any_noted n met [] = sym (or_none (list_any (bytes_eq n) met))
any_noted n met (x ∷ xs) =
    any_noted n (with_text met x) xs ∙ ap (λ b. b || list_any (bytes_eq n) xs) (any_with n met x)
    ∙ or_or (list_any (bytes_eq n) met) (bytes_eq n x) (list_any (bytes_eq n) xs)

-- A method that is put, where its text is new, and left where it isn't.
module _ (by : By) (met met' : List Name) (found : List Method) (m : Method) (text : Name) (b : Bool)
    (same : met ≡ map (text_by by) found) (is : text ≡ text_by by m) (new : b ≡ not (list_any (bytes_eq text) met))
    (noted : met' ≡ with_text met text)
  where
    abbrev was : Bool
    was = list_any (bytes_eq text) met

    turned : (c d : Bool) → c ≡ not d → (c ≡ true → d ≡ false) × (c ≡ false → d ≡ true)
    turned c true e = ((λ h. absurd (true≢false (sym h ∙ e))), (λ h. refl))
    turned c false e = ((λ h. refl), (λ h. absurd (true≢false (sym e ∙ h))))

    met_is : met' ≡ cond was met (met ++ text ∷ [])
    met_is = noted ∙ with_text_by met text

    pub met_kept : b ≡ false → met' ≡ map (text_by by) found
    met_kept old = met_is ∙ ap (λ (c : Bool). cond c met (met ++ text ∷ [])) ((turned b was new).1 old) ∙ same

    module _ (found' : List Method) (put : found' ≡ found ++ m ∷ []) where
      pub met_more : b ≡ true → met' ≡ map (text_by by) found'
      met_more fresh =
          met_is ∙ ap (λ (c : Bool). cond c met (met ++ text ∷ [])) ((turned b was new).0 fresh)
          ∙ ap (λ (ts : List Name). ts ++ text ∷ []) same ∙ ap (λ (t : Name). map (text_by by) found ++ t ∷ []) is
          ∙ sym (ap (map (text_by by)) put ∙ map-append (text_by by) found (m ∷ []))

pub seen_push : (old new : List (Bor KeptMethod)) (x : Bor KeptMethod) → new ≡ old ++ x ∷ [] → seen new ≡ seen old
    ++ method_of x.now ∷ []
seen_push old new x e = ap seen e ∙ map-append (λ (m : Bor KeptMethod). method_of m.now) old (x ∷ [])

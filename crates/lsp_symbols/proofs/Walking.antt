-- The walk over tokens, two by two.
use Rattle.std.proofs.Common.{◌≡◌, ◌<◌, List, [], ◌∷◌, ◌++◌, length, refl, sym, ap, ◌∙◌, arith}
use Rattle.std.proofs.lemmas.List.{append-nil}
use Rattle.lsp_symbols.specs.declared.things.Declared.{Declared}
use Rattle.lsp_symbols.specs.declared.named.Language.{Language}
use Rattle.lsp_symbols.specs.declared.tokens.Token.{Token}
use Rattle.lsp_symbols.specs.Named.{Found, found_in, Inside, nested}

module _ (l : Language) where
  -- fewer than two tokens declare nothing
  found_few : (ts : List Token) → length ts < 2 → found_in l ts ≡ []
  found_few [] h = refl
  found_few (t ∷ []) h = refl
  found_few (t ∷ u ∷ more) h = absurd (omega (arith, h))

  -- the end of the walk
  pub walked_all : (ts rest : List Token) (declared : List Declared) (i first : Inside) → length rest < 2 →
      declared ++ nested i (found_in l rest) ≡ nested first (found_in l ts) → declared ≡ nested first (found_in l ts)
  walked_all ts rest declared i first few so_far =
      sym (append-nil declared)
      ∙ ap (λ (fs : List Found). declared ++ nested i fs) (sym (found_few rest few))
      ∙ so_far

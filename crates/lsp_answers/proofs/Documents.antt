-- The document of a number, by its name and its bytes.
use Rattle.std.proofs.Common.{◌≡◌, ℕ, zero, suc, ◌<◌, Bool, true, false, true≢false, List, [], ◌∷◌, length, get_or, codes}
use Rattle.std.proofs.Common.{sym, ◌∙◌, subst, arith}
use Rattle.std.specs.Prelude.{IsTrue, ◌↔◌}
use Rattle.mg_sources.specs.Files.{EndsWith}
use Rattle.lsp_text.specs.declared.encoding.Encoding.{Encoding}
use Rattle.lsp_messages.specs.declared.outgoing.Symbol.{Symbol}
use Rattle.lsp_sights.specs.Answers.{bytes_at}
use Rattle.lsp_symbols.specs.Symbols.{AreSymbols}

-- what stands at an index
pub at_index : (xs : List (List ℕ)) (i : ℕ) (x : List ℕ) → i < length xs → x ≡ get_or xs i x → bytes_at xs i ≡ x
at_index [] i x below is = absurd (omega (arith, below))
at_index (y ∷ ys) zero x below is = sym is
at_index (y ∷ ys) (suc i) x below is = at_index ys i x (omega (arith, below)) is

-- the symbols of the document
pub symbols_at : (encoding : Encoding) (names contents : List (List ℕ)) (file : ℕ) (name bytes : List ℕ) (symbols : List Symbol) →
    bytes_at names file ≡ name → bytes_at contents file ≡ bytes → AreSymbols encoding name bytes symbols →
    AreSymbols encoding (bytes_at names file) (bytes_at contents file) symbols
symbols_at encoding names contents file name bytes symbols named held are =
    subst (λ (n : List ℕ). AreSymbols encoding n (bytes_at contents file) symbols) (sym named)
    (subst (λ (b : List ℕ). AreSymbols encoding name b symbols) (sym held) are)

-- whether it is a Java source
module _ (names : List (List ℕ)) (file : ℕ) (name : List ℕ) (told : Bool) (named : bytes_at names file ≡ name)
    (tells : IsTrue told ↔ EndsWith (codes ".java") name) where
  pub is_java : told ≡ true → EndsWith (codes ".java") (bytes_at names file)
  is_java true_told = subst (EndsWith (codes ".java")) (sym named) (tells.0 true_told)

  pub no_java : told ≡ false → EndsWith (codes ".java") (bytes_at names file) → ⊥
  no_java false_told is = true≢false (sym (tells.1 (subst (EndsWith (codes ".java")) named is)) ∙ false_told)

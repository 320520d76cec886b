use Rattle.std.proofs.Common.{◌≡◌, ◌∷◌, List, ℕ, [], codes, refl, sym, subst, ◌∙◌}
use Rattle.std.proofs.lemmas.List.Elements.{All-from_recursion}
use Rattle.mg_sources.specs.Files.{Kind, EndsWith, suffix_of, Scribble, Java, HaveKinds}
use Rattle.lsp_tests.proofs.offering.offered.Goals as goal

abbrev HasKind : List ℕ → Type 0
HasKind name = (kind : Kind) × EndsWith (suffix_of kind) name

two : (a b : List ℕ) → a ≡ codes "C.scr" → b ≡ codes "CMain.java" → HaveKinds (a ∷ b ∷ [])
two a b ea eb =
    All-from_recursion HasKind (a ∷ b ∷ [])
    (subst HasKind (sym ea) (Scribble, (codes "C", refl)), (subst HasKind (sym eb) (Java, (codes "CMain", refl)), tt))

pub offers-requires-clause-kinds : goal.offers-requires-clause-kinds
offers-requires-clause-kinds c =
    subst HaveKinds (sym (c.as_slice.ensures.value ∙ c.in_ok-names.ensures.items)) (two _ _ c.in_ok-of.ensures c.in_ok-of-2.ensures)

-- Whether a name is declared beforehand with another class.
use Rattle.std.proofs.Common.{◌≡◌, ◌↔◌, Bool, true, false, not, IsTrue, Some, Decides, refl, sym, subst, ◌∙◌, true≢false}
use Rattle.std.specs.Str.{bytes_eq}
use Rattle.std.proofs.lemmas.Slice.Eq.{bytes_eq-Decides}
use Rattle.mg_text.specs.Call.{Name}
use Rattle.scr_tree.specs.declared.written.Declaration.{Declaration}
use Rattle.scr_tree.specs.Written.{class_beforehand}
use Rattle.scr_judge.specs.inner.Listed.{IsOtherwise}

module _ (d : Declaration) (class : Name) (known : class_beforehand d.alias ≡ Some class) where
  decided : (t : Bool) → Decides t (d.class ≡ class) → IsTrue (not t) ↔ IsOtherwise d
  decided true e = (λ n. absurd (true≢false (sym n)), λ o. absurd (o.2 (same o.0 o.1 ∙ sym (e.0 refl))))
    where
      same : (other : Name) → class_beforehand d.alias ≡ Some other → other ≡ class
      same other h = let both : Some other ≡ Some class = sym h ∙ known in cc
  decided false e = (λ n. (class, known, λ same. true≢false (sym (e.1 (sym same)))), λ o. refl)

  pub otherwise : (b : Bool) → b ≡ not (bytes_eq d.class class) → IsTrue b ↔ IsOtherwise d
  otherwise b e = subst (λ x. IsTrue x ↔ IsOtherwise d) (sym e) (decided (bytes_eq d.class class) (bytes_eq-Decides d.class class))

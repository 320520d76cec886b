use Rattle.std.proofs.Common.{◌≡◌, ◌∙◌, ◌∷◌, List, ap, map, sym}
use Rattle.std.proofs.lemmas.Result.{IfOk-weaker}
use Rattle.ts_refine.specs.declared.search.Visit.{Visit}
use Rattle.ts_refine.specs.inner.Keeping.{Met}
use Rattle.ts_refine.proofs.Pairing.{mets-pairs}
use Rattle.ts_refine.proofs.search.Search.into_pairs.Goals as goal

pub returns : goal.returns
returns c =
    IfOk-weaker c.pairs_of.result (λ l. l.items ≡ c.self.inside.first ∷ map (λ v. v.pair) c.as_slice.result.now)
    (λ l. l.items ≡ map (λ m. m.pair) c.args.self) (λ l is.
    is ∙ ap (λ (vs : List Visit). c.self.inside.first ∷ map (λ (v : Visit). v.pair) vs) c.as_slice.ensures.items
    ∙ sym (mets-pairs c.self.inside.first c.self.inside.visits.items) ∙ ap (λ (ms : List Met). map (λ (m : Met). m.pair) ms) c.self.view_is)
    c.pairs_of.ensures

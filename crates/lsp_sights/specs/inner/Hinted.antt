-- Hints of calls at positions, one by one, by what is kept of their places.
use Rattle.std.specs.Prelude.{List, [], ◌∷◌, Option}
use Rattle.jv_core.specs.Tree.{Program}
use Rattle.use_rules.specs.Elements.{Set}
use Rattle.lsp_text.specs.declared.positions.Position.{Position}
use Rattle.lsp_messages.specs.declared.outgoing.Hint.{Hint}
use Rattle.mg_shown.specs.declared.seen.PlaceKey.{PlaceKey}
use Rattle.mg_shown.specs.inner.Seeing.{at_place}
use Rattle.lsp_sights.specs.declared.located.Located.{Located}
use Rattle.lsp_sights.specs.Texts.{hint_at}

module _ (p : Program) (find : PlaceKey → Option Set) where
  abbrev pub hint_by : Located → Position → Hint
  hint_by c q = record { position = q; text = hint_at p c.site (at_place find c.site.place) }

  abbrev pub hinted : List Located → List Position → List Hint
  hinted [] qs = []
  hinted (c ∷ cs) [] = []
  hinted (c ∷ cs) (q ∷ qs) = hint_by c q ∷ hinted cs qs

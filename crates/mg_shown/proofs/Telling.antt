-- The lines of calls, by what is kept of their places, are those that are shown.
use Rattle.std.proofs.Common.{◌≡◌, Bool, List, flat_map, ap, ◌∙◌}
use Rattle.mg_text.specs.Call.{Name}
use Rattle.jv_core.specs.Tree.{Program}
use Rattle.use_rules.specs.Elements.{Set}
use Rattle.use_rules.specs.Keys.{Tables}
use Rattle.use_rules.specs.State.{Sight}
use Rattle.use_rules.specs.Tables.{all_sights}
use Rattle.use_sights.specs.declared.site.Site.{Site}
use Rattle.use_sights.specs.Sights.{sights_at, together, before}
use Rattle.mg_shown.specs.declared.seen.PlaceKey.{PlaceKey}
use Rattle.std.specs.Prelude.{Option}
use Rattle.mg_shown.specs.Shown.{site_line, shown_text}
use Rattle.mg_shown.specs.inner.Lines.{line_at}
use Rattle.mg_shown.specs.inner.Seeing.{at_place, AreSeen}
use Rattle.mg_shown.proofs.Single.{flat_same}

module _ (names : List Name) (p : Program) (reached : List (List Bool)) (t : Tables) where
  same_line : (s : Site) (b : Set) → b ≡ before p reached t s.place → line_at names p s b ≡ site_line names p reached t s
  same_line s b e = ap (line_at names p s) e

  pub all_told : (sights : List Sight) (find : PlaceKey → Option Set) (sites : List Site) → AreSeen sights find →
      sights ≡ all_sights p reached t →
      flat_map (λ (s : Site). line_at names p s (at_place find s.place)) sites ≡ shown_text names p reached t sites
  all_told sights find sites seen is = flat_same (λ (s : Site). line_at names p s (at_place find s.place)) (site_line names p reached t)
      (λ s. same_line s (at_place find s.place) (seen.each s.place ∙ ap (λ xs. together (sights_at s.place xs)) is)) sites

use Rattle.std.proofs.Common.{◌≡◌, ◌++◌, drop, flat_map}
use Rattle.std.specs.Prelude.{string_bytes}
use Rattle.indexmap.specs.IndexMap.{get}
use Rattle.mg_shown.specs.inner.Lines.{line_at}
use Rattle.mg_shown.specs.inner.Seeing.{at_place}
use Rattle.mg_shown.proofs.Seeing.{key_eq}
use Rattle.mg_shown.proofs.shown.Shower.put_sites.Given as goal

abbrev pub invariant-loop-site : goal.invariant-loop-site
invariant-loop-site l =
    string_bytes l.out ++ flat_map (λ s. line_at l.self.names.now l.self.core.now s (at_place (get key_eq l.seen) s.place))
    (drop l.site-index l.sites)
    ≡ string_bytes l.initial.out ++ flat_map (λ s. line_at l.self.names.now l.self.core.now s (at_place (get key_eq l.seen) s.place)) l.sites

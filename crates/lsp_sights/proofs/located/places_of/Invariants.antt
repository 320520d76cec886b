use Rattle.std.proofs.Common.{◌≡◌, take, map}
use Rattle.lsp_sights.proofs.located.places_of.Given as goal

abbrev pub invariant-loop-site : goal.invariant-loop-site
invariant-loop-site l = l.places.items ≡ map (λ s. s.place) (take l.site-index l.sites)

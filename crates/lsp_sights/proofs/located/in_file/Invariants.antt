use Rattle.std.proofs.Common.{◌≡◌, take}
use Rattle.std.specs.Prelude.{filter}
use Rattle.lsp_sights.specs.Located.{is_in}
use Rattle.lsp_sights.proofs.located.in_file.Given as goal

abbrev pub invariant-loop-site : goal.invariant-loop-site
invariant-loop-site l = l.found.items ≡ filter (is_in l.file) (take l.site-index l.sites)

use Rattle.std.proofs.Common.{◌≡◌, ◌++◌, length}
use Rattle.lsp_symbols.specs.Named.{found_in, nested, declared_in}
use Rattle.lsp_symbols.specs.inner.Walk.{inside_of}
use Rattle.lsp_symbols.proofs.named.declared_in.Given as goal

abbrev pub invariant-tokens : goal.invariant-tokens
invariant-tokens l = l.declared.items ++ nested (inside_of l.inside) (found_in l.language l.rest) ≡ declared_in l.language l.tokens

abbrev pub decreases-tokens : goal.decreases-tokens
decreases-tokens l = length l.rest

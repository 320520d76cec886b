use Rattle.std.proofs.Common.{None, arith}
use Rattle.lsp_symbols.specs.Named.{inside}
use Rattle.lsp_symbols.specs.inner.Walk.{inside_of}
use Rattle.lsp_symbols.proofs.Walking.{walked_all}
use Rattle.lsp_symbols.proofs.named.declared_in.Goals as goal

pub returns : goal.returns
returns c = walked_all c.args.language c.args.tokens.now c.tokens.rest.now c.tokens.declared.items (inside_of c.tokens.inside)
    (inside None None) (omega (arith, c.in_default.len_below)) c.tokens.invariant

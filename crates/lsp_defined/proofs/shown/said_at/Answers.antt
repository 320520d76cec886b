use Rattle.std.proofs.Common.{ℕ, List, sym, subst}
use Rattle.std.specs.Prelude.{All}
use Rattle.lsp_spans.proofs.Zipped.{IsWithin, offsets_within}
use Rattle.lsp_defined.proofs.shown.said_at.Goals as goal

pub covering-requires : goal.covering-requires
covering-requires c =
    let text = c.args.text.now in
    subst (λ (bs : List ℕ). All (λ (o : ℕ). IsWithin bs o) c.as_slice-2.result.now) (sym c.as_bytes.ensures.value)
    (subst (λ (os : List ℕ). All (IsWithin text) os) (sym c.as_slice-2.ensures.value)
    (offsets_within text c.as_slice.result.now c.in_ok-starts.starts.items c.in_ok-starts.ensures))

use Rattle.std.proofs.Common.{List, ℕ, string_bytes, subst}
use Rattle.lsp_text.specs.Positions.{Means}
use Rattle.lsp_text.proofs.ChangeLaws.{replaced}
use Rattle.lsp_text.proofs.changes.replace.Goals as goal

pub returns-clause-ok : goal.returns-clause-ok
returns-clause-ok c = record {
  start = c.offset_of-start.result;
  «end» = c.offset_of-end.result;
  begins = subst (λ (z : List ℕ). Means c.args.encoding z c.args.range.start c.offset_of-start.result) c.as_str.ensures.value
      c.offset_of-start.ensures.means;
  ends = subst (λ (z : List ℕ). Means c.args.encoding z c.args.range.end c.offset_of-end.result) c.as_str-2.ensures.value
      c.offset_of-end.ensures.means;
  now = replaced (string_bytes c.args.text.now) c.args.inserted.now (string_bytes c.replace_range.new.self) c.offset_of-start.result
      c.offset_of-end.result c.min.result c.max.result c.min.ensures c.max.ensures c.in_ok-replace_range.ensures.bytes;
}

use Rattle.std.proofs.Common.{rules, refl, ap, ◌∙◌, ◌++◌, List, ℕ, take, nat_lt, arith}
use Rattle.std.proofs.lemmas.Grind.{common_steps}
use Rattle.lsp_serving.proofs.Joins.{consumes_kept}
use Rattle.lsp_serving.proofs.Hears.{fed_count}
use Rattle.lsp_serving.proofs.hearing.feed.Goals as goal

pub returns-in-Err : goal.returns-in-Err
returns-in-Err g c = (
  refl,
  consumes_kept (g.R.Read.remaining c.args.reader.now)
      (g.R.Read.remaining c.read.new.self) c.in-Err.ensures.bytes,
)

pub returns-in-Ok-feed : goal.returns-in-Ok-feed
returns-in-Ok-feed g c =
    fed_count (g.R.Read.remaining c.args.reader.now) (g.R.Read.remaining c.read.new.self) c.args.frames.now c.feed.new.self c.read.new.buf
    c.in-Ok.count c.in-Ok.ensures.bytes.0 c.in-Ok.ensures.bytes.1 (search rules)
    (c.in-Ok-feed.ensures.ok ∙ ap (λ (bs : List ℕ). c.args.frames.now ++ bs) (grind (arith, common_steps))) (nat_lt 0 c.in-Ok.count) refl

pub returns-in-Err-feed : goal.returns-in-Err-feed
returns-in-Err-feed g c = (c.in-Err-feed.ensures.err, (take c.in-Ok.count c.read.new.buf, c.in-Ok.ensures.bytes.0))

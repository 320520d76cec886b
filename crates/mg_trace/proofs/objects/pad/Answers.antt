use Rattle.std.proofs.Common.{◌+◌, ◌∙◌, ap, length}
use Rattle.std.proofs.lemmas.List.{length-append}
use Rattle.mg_trace.specs.inner.Kept.{known_at}
use Rattle.mg_trace.proofs.Tracks.{known_padded, none_tracked}
use Rattle.mg_trace.proofs.objects.pad.Goals as goal

pub loop-preserved : goal.loop-preserved
loop-preserved c = record {
  end = c.loop.invariant.end;
  long = ap length c.in_ok-push.ensures.items ∙ length-append c.loop.objects.items _
      ∙ ap (λ n. n + 1) c.loop.invariant.long;
  same = λ o. ap (λ l. known_at l o) c.in_ok-push.ensures.items
      ∙ known_padded c.loop.objects.items _ o (none_tracked c.new.result c.new.ensures.items) ∙ c.loop.invariant.same o;
}

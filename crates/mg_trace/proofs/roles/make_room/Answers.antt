use Rattle.std.proofs.Common.{◌+◌, ◌∙◌, ap, length}
use Rattle.std.proofs.lemmas.List.{length-append}
use Rattle.mg_trace.specs.inner.Kept.{objects_at}
use Rattle.mg_trace.proofs.Tracks.{roles_padded}
use Rattle.mg_trace.proofs.roles.make_room.Goals as goal

pub loop-preserved : goal.loop-preserved
loop-preserved c = record {
  end = c.loop.invariant.end;
  long = ap length c.in_ok-push.ensures.items ∙ length-append c.loop.roles.items _ ∙ ap (λ n. n + 1) c.loop.invariant.long;
  same = λ r. ap (λ l. objects_at l r) c.in_ok-push.ensures.items
      ∙ roles_padded c.loop.roles.items _ r c.new.ensures.items ∙ c.loop.invariant.same r;
}

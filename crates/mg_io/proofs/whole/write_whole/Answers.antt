use Rattle.std.proofs.Common.{◌∙◌}
use Rattle.mg_io.proofs.Written.{front_after_write, left_after_write, written_kept, front_from_written}
use Rattle.mg_io.proofs.whole.write_whole.Goals as goal

pub returns-in_err-taken-clause-front : goal.returns-in_err-taken-clause-front
returns-in_err-taken-clause-front g c =
    front_after_write (g.W.Write.contents c.args.writer.now) (g.W.Write.contents c.loop-rest.writer)
    (g.W.Write.contents c.write-answer.new.self)
    c.args.bytes.now c.loop-rest.rest.now c.write-answer.result c.loop-rest.invariant.written c.write-answer.ensures.bytes

pub loop-rest-preserved : goal.loop-rest-preserved
loop-rest-preserved g c = record {
  written = left_after_write _ (g.W.Write.contents c.loop-rest.writer) _ _ c.loop-rest.rest.now c.write-answer.result c.in_ok-taken.taken
      c.loop-rest.invariant.written c.write-answer.ensures.bytes c.in_ok-taken.ensures.taken;
  uncounted = c.in_ok-taken.ensures.counted ∙ c.loop-rest.invariant.uncounted;
}

pub returns-clause-front : goal.returns-clause-front
returns-clause-front g c =
    front_from_written (g.W.Write.contents c.args.writer.now) (g.W.Write.contents c.flush.new.self) c.args.bytes.now c.loop-rest.rest.now
    (written_kept _ (g.W.Write.contents c.loop-rest.writer) _ _ c.loop-rest.rest.now c.loop-rest.invariant.written c.flush.ensures.bytes)

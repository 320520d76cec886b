use Rattle.std.proofs.Common.{◌≡◌, ◌∙◌, sym, arith, pos, ◌+ℤ◌}
use Rattle.std.proofs.lemmas.Int.{ints}
use Rattle.cls_code.proofs.Marks.{reached_at, reached_before}
use Rattle.cls_code.proofs.jumps.is_reached.Goals as goal

pub returns : goal.returns
returns c = λ starts m. c.mark_at.ensures ∙ reached_at starts c.args.marks.now (pos c.args.place +ℤ c.args.distance) _ m
    (omega (arith, ints))

pub returns-then-target-lt0 : goal.returns-then-target-lt0
returns-then-target-lt0 c = λ starts m. sym (reached_before starts (pos c.args.place +ℤ c.args.distance) (omega (arith, ints)))

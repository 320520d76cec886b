use Rattle.gen_members.proofs.Counting.{IsCounted}
use Rattle.gen_members.proofs.texts.is_long_text.Given as goal

abbrev pub invariant-loop-character : goal.invariant-loop-character
invariant-loop-character l = IsCounted l.size l.yielded

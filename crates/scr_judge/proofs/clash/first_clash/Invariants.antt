use Rattle.std.proofs.Common.{take}
use Rattle.mg_read.proofs.Scanning.{Left}
use Rattle.scr_judge.specs.inner.Listed.{Clash}
use Rattle.scr_judge.specs.inner.View.{call_of, does, clashing}
use Rattle.scr_judge.proofs.KeyTable.{Indexes}
use Rattle.scr_judge.proofs.clash.first_clash.Given as goal

abbrev pub invariant-loop-i : goal.invariant-loop-i
invariant-loop-i l = record {
  indexes : Indexes call_of does l.firsts (take l.i l.actions);
  left : Left (Clash call_of does clashing)
      l.actions l.i;
}

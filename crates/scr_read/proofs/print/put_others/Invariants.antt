use Rattle.std.proofs.Common.{◌≡◌, ◌++◌, drop, string_bytes}
use Rattle.scr_read.proofs.Laid.{texts_of}
use Rattle.scr_read.proofs.print.put_others.Given as goal

abbrev pub invariant-loop-part : goal.invariant-loop-part
invariant-loop-part l =
    string_bytes l.initial.out ++ texts_of l.me l.roles l.others ≡ string_bytes l.out ++ texts_of l.me l.roles (drop l.part-index l.others)

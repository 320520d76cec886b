use denote.Shadow.{shadow}
use denote.Text.{Utf8}
use Rattle.std.proofs.Common.{◌≡◌, ◌++◌, [], drop, string_bytes}
use Rattle.scr_read.specs.Layout.{argument_list}
use Rattle.scr_read.proofs.print.put_arguments.Given as goal

abbrev pub invariant-loop-role : goal.invariant-loop-role
invariant-loop-role l =
    shadow (Utf8 l.before) × (string_bytes l.initial.out ++ argument_list [] l.roles ≡ string_bytes l.out ++ argument_list l.before
    (drop l.role-index l.roles))

use denote.Shadow.{shadow}
use denote.Text.{Utf8}
use Rattle.std.proofs.Common.{◌≡◌, ◌++◌, [], drop, string_bytes}
use Rattle.jv_print.specs.Layout.{names_text}
use Rattle.jv_print.proofs.files.put_names.Given as goal

abbrev pub invariant-loop-name : goal.invariant-loop-name
invariant-loop-name l =
    shadow (Utf8 l.before) × (string_bytes l.initial.out ++ names_text [] l.names ≡ string_bytes l.out ++ names_text l.before
    (drop l.name-index l.names))

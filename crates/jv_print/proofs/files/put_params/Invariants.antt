use denote.Shadow.{shadow}
use denote.Text.{Utf8}
use Rattle.std.proofs.Common.{◌≡◌, ◌++◌, [], drop, string_bytes}
use Rattle.jv_print.specs.Layout.{params_text}
use Rattle.jv_print.proofs.files.put_params.Given as goal

abbrev pub invariant-loop-param : goal.invariant-loop-param
invariant-loop-param l =
    shadow (Utf8 l.before) × (string_bytes l.initial.out ++ params_text [] l.params ≡ string_bytes l.out ++ params_text l.before
    (drop l.param-index l.params))

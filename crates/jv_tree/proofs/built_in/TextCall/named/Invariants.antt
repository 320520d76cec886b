use Rattle.std.proofs.Common.{◌≡◌, drop}
use Rattle.std.specs.List.{find}
use Rattle.std.specs.Str.{bytes_eq}
use Rattle.jv_tree.specs.BuiltIn.{text_method, text_calls, text_named}
use Rattle.jv_tree.proofs.built_in.TextCall.named.Given as goal

abbrev pub invariant-loop-call : goal.invariant-loop-call
invariant-loop-call l = find (λ c. bytes_eq (text_method c).name l.name) (drop l.call-index text_calls) ≡ text_named l.name

use Rattle.std.proofs.Common.{◌≡◌, drop}
use Rattle.std.specs.List.{find}
use Rattle.std.specs.Str.{bytes_eq}
use Rattle.jv_tree.specs.BuiltIn.{session_method, session_calls, session_named}
use Rattle.jv_tree.proofs.built_in.SessionCall.named.Given as goal

abbrev pub invariant-loop-call : goal.invariant-loop-call
invariant-loop-call l = find (λ c. bytes_eq (session_method c).name l.name) (drop l.call-index session_calls) ≡ session_named l.name

use Rattle.std.proofs.Common.{◌≡◌, ◌++◌, drop, map}
use Rattle.std.specs.Prelude.{string_bytes}
use Rattle.ts_refine.specs.Verdicts.{call_of}
use Rattle.mg_refined.specs.Refined.{calls_text}
use Rattle.mg_refined.proofs.telling.push_calls.Given as goal

abbrev pub invariant-loop-call : goal.invariant-loop-call
invariant-loop-call l = string_bytes l.text ++ calls_text (map call_of (drop l.call-index l.calls)) ≡ string_bytes l.initial.text
    ++ calls_text (map call_of l.calls)

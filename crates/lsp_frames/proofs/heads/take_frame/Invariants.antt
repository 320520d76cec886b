use Rattle.std.proofs.Common.{◌-◌, ◌≤◌, length, drop, option_to_list, []}
use Rattle.lsp_frames.specs.declared.heads.Taken.{Taken}
use Rattle.lsp_frames.specs.Reading.{head_limit}
use Rattle.lsp_frames.specs.inner.Walk.{IsReadFrom}
use Rattle.lsp_frames.proofs.heads.take_frame.Given as goal

abbrev pub invariant-loop-taken : goal.invariant-loop-taken
invariant-loop-taken l = (l.at ≤ length l.bytes) × (l.at ≤ head_limit)
    × ((taken : Taken) → IsReadFrom l.limit l.at (option_to_list l.told) (drop l.at l.bytes) taken → IsReadFrom l.limit 0 [] l.bytes taken)

abbrev pub decreases-loop-taken : goal.decreases-loop-taken
decreases-loop-taken l = length l.bytes - l.at

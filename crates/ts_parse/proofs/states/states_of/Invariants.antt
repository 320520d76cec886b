use Rattle.std.proofs.Common.{length, map}
use Rattle.mg_read.proofs.Loop.{Left}
use Rattle.mg_read.specs.Reader.{all_of}
use Rattle.ts_parse.specs.Tok.{toks}
use Rattle.ts_parse.specs.Written.{wstate_of}
use Rattle.ts_parse.specs.inner.Reading.{not_closed, state_at}
use Rattle.ts_parse.proofs.states.states_of.Given as goal

abbrev pub invariant-others : goal.invariant-others
invariant-others l = Left not_closed state_at (map wstate_of l.states.items) (toks l.rest) (all_of not_closed state_at (toks l.fn.tokens))

abbrev pub decreases-others : goal.decreases-others
decreases-others l = length l.rest

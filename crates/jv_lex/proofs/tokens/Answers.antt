use Rattle.jv_lex.specs.Outcome.{too_large}
use Rattle.jv_lex.proofs.Scans.{only_answer}
use Rattle.jv_lex.proofs.tokens.Goals as goal

pub returns-then-bytes-gt-MOST_BYTES-clause-found : goal.returns-then-bytes-gt-MOST_BYTES-clause-found
returns-then-bytes-gt-MOST_BYTES-clause-found c = rw c.start.ensures (too_large c.if-bytes-gt-MOST_BYTES.true)

pub returns-clause-only : goal.returns-clause-only
returns-clause-only c = only_answer c.args.file c.args.bytes.now c.scan.result c.scan.ensures

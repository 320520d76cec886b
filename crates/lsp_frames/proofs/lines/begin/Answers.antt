use Rattle.std.proofs.Common.{arith}
use Rattle.lsp_frames.proofs.Begins.{is_wants, is_over, is_bare, is_line}
use Rattle.lsp_frames.proofs.lines.begin.Goals as goal

pub returns-in-None-clause-value : goal.returns-in-None-clause-value
returns-in-None-clause-value c =
    is_wants c.args.bytes.now c.args.room c.min.result c.min.ensures c.in-None.ensures c.if-bytes-room.true

pub returns-in-None-2-clause-value : goal.returns-in-None-2-clause-value
returns-in-None-2-clause-value c =
    is_over c.args.bytes.now c.args.room c.min.result c.min.ensures c.in-None-2.ensures c.if-bytes-room.false

pub returns-in-Some-eq0-clause-value : goal.returns-in-Some-eq0-clause-value
returns-in-Some-eq0-clause-value c =
    is_bare c.args.bytes.now c.args.room c.min.result c.in-Some-eq0.field-0 c.min.ensures c.in-Some-eq0.ensures.0 c.in-Some-eq0.ensures.1
    (λ some. let is = c.in-Some-eq0.field-0-is in absurd (omega (arith, is)))

pub returns-then-bytes-at-eq13-clause-value : goal.returns-then-bytes-at-eq13-clause-value
returns-then-bytes-at-eq13-clause-value c =
    is_line c.args.bytes.now c.args.room c.min.result c.in-Some.at c.min.ensures c.in-Some.ensures.0 c.in-Some.ensures.1
    (omega (arith, c.in-Some.at-is)) c.if-bytes-at-eq13.true

pub returns-else-bytes-at-eq13-clause-value : goal.returns-else-bytes-at-eq13-clause-value
returns-else-bytes-at-eq13-clause-value c =
    is_bare c.args.bytes.now c.args.room c.min.result c.in-Some.at c.min.ensures c.in-Some.ensures.0 c.in-Some.ensures.1
    (λ some. c.if-bytes-at-eq13.false)

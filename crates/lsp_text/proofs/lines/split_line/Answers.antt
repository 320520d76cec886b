use Rattle.std.proofs.Common.{ℕ, List, length, take, subst, sym}
use Rattle.std.specs.Str.{NonePass, IsCharBoundary}
use Rattle.memchr.specs.Find.{NoneBefore, Passes, is_byte2}
use Rattle.lsp_text.specs.Lines.{is_line_end, IsFirstLine}
use Rattle.lsp_text.specs.inner.Fitting.{IsEndLength}
use Rattle.lsp_text.proofs.LineFinds.{none_found, first_line_found, end_boundary}
use Rattle.lsp_text.proofs.lines.split_line.Goals as goal

pub returns-in-None-clause-line : goal.returns-in-None-clause-line
returns-in-None-clause-line c =
    subst (NonePass is_line_end) c.as_bytes.ensures.value (none_found c.as_bytes.result.now c.in-None.ensures)

pub split_at-requires-2 : goal.split_at-requires-2
split_at-requires-2 c =
    subst (λ (z : List ℕ). IsCharBoundary z c.end_len.result) c.as_bytes-2.ensures.value
    (end_boundary c.as_bytes-2.result.now c.end_len.result c.as_bytes-2.ensures.utf8 c.end_len.ensures)

pub returns-clause-line : goal.returns-clause-line
returns-clause-line c =
    let none : NoneBefore (Passes (is_byte2 10 13) c.args.text.now) 0 (length c.args.text.now) c.in-Some.at =
    subst (λ (z : List ℕ). NoneBefore (Passes (is_byte2 10 13) z) 0 (length z) c.in-Some.at) c.as_bytes.ensures.value c.in-Some.ensures.0 in
    let long = subst (λ (z : List ℕ). IsEndLength z c.end_len.result) c.as_bytes-2.ensures.value c.end_len.ensures in
    let found = first_line_found c.args.text.now c.split_at.result.1.now c.in-Some.at c.end_len.result none c.split_at.ensures.back long in
    subst (λ (z : List ℕ). IsFirstLine c.args.text.now z c.split_at-2.result.1.now) (sym c.split_at.ensures.front)
    (subst (λ (z : List ℕ). IsFirstLine c.args.text.now (take c.in-Some.at c.args.text.now) z) (sym c.split_at-2.ensures.back) found)

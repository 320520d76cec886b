use Rattle.std.proofs.Common.{◌≡◌, ℕ, length, subst, sym, ap, add-one, arith}
use Rattle.lsp_text.specs.Lines.{IsBehind}
use Rattle.lsp_text.proofs.LineLaws.{behind_more, same_first_line, no_first_line}
use Rattle.lsp_text.proofs.LineFinds.{after_utf8}
use Rattle.lsp_text.proofs.positions.line_from.Goals as goal

pub returns-then-text-after-clause-line : goal.returns-then-text-after-clause-line
returns-then-text-after-clause-line c = record {
  behind = c.lines.invariant.behind;
  reached = c.lines.invariant.reached;
  shorter = c.lines.invariant.shorter;
  last = λ l a f.
      let same = same_first_line c.lines.rest.now l a _ _ f c.in-Some.ensures.line in
      let long : length a ≡ length c.in-Some.after.now = ap length same.1 in
      omega arith;
}

pub lines-preserved : goal.lines-preserved
lines-preserved c =
    let more = behind_more c.lines.line c.args.text.now c.lines.rest.now _ c.in-Some.after.now c.lines.invariant.behind c.in-Some.ensures.line in
    record {
      text = after_utf8 c.lines.rest.now _ c.in-Some.after.now c.lines.invariant.text c.in-Some.ensures.line;
      behind = subst (λ (n : ℕ). IsBehind n c.args.text.now c.in-Some.after.now) (sym (add-one c.lines.line)) more;
      reached = omega (arith, c.in-Some.ensures.shorter);
      shorter = omega (arith, c.in-Some.ensures.shorter);
    }

pub returns-clause-line : goal.returns-clause-line
returns-clause-line c = record {
  behind = c.lines.invariant.behind;
  reached = c.lines.invariant.reached;
  shorter = c.lines.invariant.shorter;
  last = λ l a f. no_first_line c.lines.rest.now l a c.in_default.ensures.line f;
}

use Rattle.std.proofs.Common.{◌≡◌, ℕ, ◌<◌, subst, sym, add-one, refl, inr, arith}
use Rattle.lsp_text.specs.Lines.{IsBehind}
use Rattle.lsp_text.proofs.LineLaws.{behind_more, no_line}
use Rattle.lsp_text.proofs.LineFinds.{after_utf8}
use Rattle.lsp_text.proofs.PlaceLaws.{means_at, boundary_at, place_found}
use Rattle.lsp_text.proofs.positions.offset_of.Goals as goal

pub returns-in-None-clause-means : goal.returns-in-None-clause-means
returns-in-None-clause-means c =
    let less : c.loop-line._line < c.args.position.line = omega arith in
    inr (
      (λ r. no_line c.loop-line._line c.args.position.line c.args.text.now c.loop-line.rest.now r c.loop-line.invariant.behind
          c.in-None.ensures.line less),
      refl,
    )

pub loop-line-preserved : goal.loop-line-preserved
loop-line-preserved c =
    let more = behind_more c.loop-line._line c.args.text.now c.loop-line.rest.now _ c.in-Some.after.now c.loop-line.invariant.behind
    c.in-Some.ensures.line in
    record {
      text = after_utf8 c.loop-line.rest.now _ c.in-Some.after.now c.loop-line.invariant.text c.in-Some.ensures.line;
      behind = subst (λ (n : ℕ). IsBehind n c.args.text.now c.in-Some.after.now) (sym (add-one c.loop-line._line)) more;
      shorter = omega (arith, c.in-Some.ensures.shorter);
    }

pub overflow_add-result : goal.overflow_add-result
overflow_add-result c =
    let all : c.loop-line._line ≡ c.args.position.line = omega arith in
    let behind = subst (λ (n : ℕ). IsBehind n c.args.text.now c.loop-line.rest.now) all c.loop-line.invariant.behind in
    let p = place_found c.args.encoding c.args.encoding c.args.position.character c.args.position.line c.args.text.now c.loop-line.rest.now
    c.line_of.result.now behind c.line_of.ensures c.line_of.utf8 in
    omega (arith, p.here, c.column.ensures)

pub returns-clause-means : goal.returns-clause-means
returns-clause-means c =
    let all : c.loop-line._line ≡ c.args.position.line = omega arith in
    let behind = subst (λ (n : ℕ). IsBehind n c.args.text.now c.loop-line.rest.now) all c.loop-line.invariant.behind in
    means_at c.args.encoding c.args.position c.column.result c.args.text.now c.loop-line.rest.now c.line_of.result.now
    behind c.line_of.ensures c.line_of.utf8 c.column.ensures

pub returns-clause-boundary : goal.returns-clause-boundary
returns-clause-boundary c =
    let all : c.loop-line._line ≡ c.args.position.line = omega arith in
    let behind = subst (λ (n : ℕ). IsBehind n c.args.text.now c.loop-line.rest.now) all c.loop-line.invariant.behind in
    boundary_at c.args.encoding c.args.position.character c.args.position.line c.column.result c.args.text.now c.loop-line.rest.now
    c.line_of.result.now behind c.line_of.ensures c.line_of.utf8 c.loop-line.invariant.text c.column.ensures

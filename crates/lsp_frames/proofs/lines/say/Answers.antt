use Rattle.std.proofs.Common.{ℕ, List, take, drop, ◌+◌, ◌∙◌, sym, subst, true≢false}
use Rattle.std.proofs.lemmas.List.{take_rest}
use Rattle.lsp_frames.specs.Fields.{Numbers}
use Rattle.lsp_frames.proofs.Begins.{nowhere, found, field_at, not_empty}
use Rattle.lsp_frames.proofs.lines.say.Goals as goal

pub returns-in-None-2 : goal.returns-in-None-2
returns-in-None-2 c = (not_empty c.args.line.now (sym c.is_empty.ensures ∙ c.if-is_empty.false), nowhere 58 c.args.line.now c.in-None-2.ensures)

pub returns-then-not-is_length_name : goal.returns-then-not-is_length_name
returns-then-not-is_length_name c = (
  take c.in-Some.colon c.args.line.now,
  drop (c.in-Some.colon + 1) c.args.line.now,
  field_at c.args.line.now c.in-Some.colon (found 58 c.args.line.now c.in-Some.colon c.in-Some.ensures.0 c.in-Some.ensures.1),
  λ is. true≢false (sym (c.is_length_name.ensures.1 is) ∙ c.if-not-is_length_name.true),
)

pub returns-in-Some-length_in : goal.returns-in-Some-length_in
returns-in-Some-length_in c = (
  take c.in-Some.colon c.args.line.now,
  drop (c.in-Some.colon + 1) c.args.line.now,
  field_at c.args.line.now c.in-Some.colon (found 58 c.args.line.now c.in-Some.colon c.in-Some.ensures.0 c.in-Some.ensures.1),
  c.is_length_name.ensures.0 c.if-not-is_length_name.false,
  subst (λ (zs : List ℕ). Numbers c.args.limit zs c.in-Some-length_in.length) (take_rest c.args.line.now (c.in-Some.colon + 1))
      c.in-Some-length_in.ensures,
)

pub returns-in-None-length_in : goal.returns-in-None-length_in
returns-in-None-length_in c = (
  take c.in-Some.colon c.args.line.now,
  drop (c.in-Some.colon + 1) c.args.line.now,
  field_at c.args.line.now c.in-Some.colon (found 58 c.args.line.now c.in-Some.colon c.in-Some.ensures.0 c.in-Some.ensures.1),
  c.is_length_name.ensures.0 c.if-not-is_length_name.false,
  λ n h. c.in-None-length_in.ensures n (subst (λ (zs : List ℕ). Numbers c.args.limit zs n) (sym (take_rest c.args.line.now (c.in-Some.colon + 1))) h),
)

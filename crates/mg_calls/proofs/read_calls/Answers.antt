use Rattle.std.proofs.Common.{◌≡◌, ◌∙◌, ap, sym, map, option_map, Option, List, ℕ, refl, arith}
use Rattle.mg_calls.specs.Answer.{call_of}
use Rattle.mg_calls.proofs.FileLemmas.{at_text, first_bad, left_end, silent_step, call_step, smaller}
use Rattle.mg_calls.proofs.read_calls.Goals as goal
use Rattle.mg_calls.proofs.read_calls.Goals.{in-Nothing, in-Call+in_ok-push-in-Call}

pub returns-in-Bad : goal.returns-in-Bad
returns-in-Bad c =
    let left = at_text c.args.file c.args.bytes.now c.loop-rest.rest c.in-Some.text c.loop-rest.line (map call_of c.loop-rest.calls.items)
    c.in-Some.is c.loop-rest.invariant in (
      (omega (arith, c.if-bytes-gt-MAX_BYTES.false)),
      first_bad c.args.file c.args.bytes.now c.in-Some.text.now c.loop-rest.line (map call_of c.loop-rest.calls.items) left
          c.line_end-end.result c.line_end-end.ensures.value c.in-Bad.ensures,
    )

pub loop-rest-smaller : goal.loop-rest-smaller
loop-rest-smaller c = smaller c.line_end-end.result c.in-Some.text.now _ _ c.behind-rest.ensures (ap (option_map (λ b. b.now)) c.in-Some.is)

pub loop-rest-preserved : goal.loop-rest-preserved
loop-rest-preserved c =
    let left = at_text c.args.file c.args.bytes.now c.loop-rest.rest c.in-Some.text c.loop-rest.line (map call_of c.loop-rest.calls.items)
    c.in-Some.is c.loop-rest.invariant in
    elim c.match-read_line.branch [
      | in-Nothing w ↦ silent_step c.args.file c.args.bytes.now c.in-Some.text.now c.loop-rest.line c.loop-rest.calls.items _
          c.line_end-end.result _ left c.line_end-end.ensures.value w.in-Nothing.ensures (ap (λ z. z.items) w.calls-is)
          c.behind-rest.ensures
      | in-Call+in_ok-push-in-Call w ↦ call_step c.args.file c.args.bytes.now c.in-Some.text.now c.loop-rest.line c.loop-rest.calls.items _
          c.line_end-end.result _ _ left c.line_end-end.ensures.value w.in-Call.ensures refl
          (ap (λ z. z.items) w.calls-is ∙ w.in_ok-push-in-Call.ensures.ok) c.behind-rest.ensures
    ]

pub returns : goal.returns
returns c = (
  (omega (arith, c.if-bytes-gt-MAX_BYTES.false)),
  left_end c.args.file c.args.bytes.now _ c.loop-rest.line (map call_of c.loop-rest.calls.items)
      (ap (option_map (λ b. b.now)) c.in_default.is) c.loop-rest.invariant,
)

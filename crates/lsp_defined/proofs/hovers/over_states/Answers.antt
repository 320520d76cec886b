use Rattle.std.proofs.Common.{ℕ, List, sym, subst}
use Rattle.std.proofs.lemmas.Result.{IfOk-weaker}
use Rattle.ts_read.specs.Outcome.{Spells}
use Rattle.lsp_defined.proofs.Hovering.{states_by, none_written}
use Rattle.lsp_defined.proofs.hovers.over_states.Goals as goal

pub unreachable-requires : goal.unreachable-requires
unreachable-requires c =
    none_written c.requires.0 c.in_ok-written.field-0 c.in_default.is (c.in_ok-written.ensures c.requires.0
    (subst (λ (bs : List ℕ). Spells c.args.file bs c.requires.0) (sym c.as_bytes.ensures.value) c.requires.1))

pub returns : goal.returns
returns c =
    IfOk-weaker c.said_at.result _ _ (λ a h.
    states_by c.args.encoding c.args.position c.args.file c.args.text.now c.args.typestate.now c.requires.0 c.in_ok-written.field-0 _ _
    c.as_slice.result.now a c.requires.1 c.in-Some.is (c.in_ok-written.ensures c.requires.0
    (subst (λ (bs : List ℕ). Spells c.args.file bs c.requires.0) (sym c.as_bytes.ensures.value) c.requires.1))
    c.in_ok-spots.ensures c.as_slice.ensures.value h) c.said_at.ensures

use Rattle.gen_symbolic.proofs.Whole.{method_is}
use Rattle.gen_symbolic.proofs.method.method_code.Goals as goal

pub returns-clause-code : goal.returns-clause-code
returns-clause-code c =
    method_is (record { alloc = c.args.alloc; core = c.args.core; method = c.args.method }) c.in_ok-draft.draft _ c.as_slice.result.now
    c.as_slice-2.result.now c.in_ok-draft.ensures c.as_slice.ensures.value c.as_slice-2.ensures.value
    (c.in_ok-instrs.ensures c.args.core.now)

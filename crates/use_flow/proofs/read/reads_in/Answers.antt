use Rattle.std.proofs.Common.{sym, ap, ◌∙◌, ◌++◌, slice_get}
use Rattle.std.specs.Prelude.{option_map}
use Rattle.std.proofs.lemmas.Result.{IfOk-weaker}
use Rattle.jv_core.specs.View.{method_of}
use Rattle.use_flow.specs.Runs.{starts_of}
use Rattle.use_flow.specs.inner.Reading.{read_entries}
use Rattle.use_flow.proofs.Asked.{keys_in, read_some}
use Rattle.use_flow.proofs.read.reads_in.Goals as goal

pub returns : goal.returns
returns c =
    IfOk-weaker c.keys_of.result _ _ (λ l k.
    read_some c.args.core.now c.args.tables.now c.args.context (method_of c.in-Some.method.now) (starts_of c.args.runs.now)
    c.in_ok-here.here
    c.add_read.new.entries.items l.items c.requires.made c.requires.runs
    (ap (option_map (λ m. method_of m.now)) (sym c.in-Some.is) ∙ c.method_at.ensures.method ∙ ap (slice_get c.args.core.now.methods)
    c.method_in.ensures)
    c.in_ok-here.ensures
    (c.in_ok-add_read.ensures ∙ ap (λ es. es ++ read_entries c.args.core.now (starts_of c.args.runs.now) c.in_ok-here.here c.args.context
    (method_of c.in-Some.method.now)) c.new-entries.ensures) (k ∙ ap keys_in c.as_slice.ensures.items)) c.keys_of.ensures

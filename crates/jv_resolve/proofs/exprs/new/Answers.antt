use Rattle.std.proofs.Common.{Some, sym, ap, ◌∙◌}
use Rattle.jv_core.specs.Tree as Core
use Rattle.jv_core.specs.declared.program.CoreType.TheVariants as types
use Rattle.jv_core.proofs.ViewLaws.{kind-New}
use Rattle.jv_resolve_law.specs.Tables.{◌>>=◌, Entry}
use Rattle.jv_resolve_law.specs.Expressions.{typed}
use Rattle.jv_resolve.proofs.exprs.new.Goals as goal

pub returns-in-Some : goal.returns-in-Some
returns-in-Some c =
    let n = c.in-Some.entry.now.number in
    ap (λ o. o >>= λ (k : Entry). Some (typed (Core.New c.args.place k.number) (types.Object k.number))) (sym c.in-Some.ensures)
    ∙ ap Some (sym (c.typed.ensures ∙ ap (λ e. typed e (types.Object n)) (kind-New n c.args.place)))

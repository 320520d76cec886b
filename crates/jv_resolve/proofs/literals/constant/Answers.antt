use Rattle.std.proofs.Common.{arith, Some, sym, ap, ◌∙◌}
use Rattle.std.proofs.lemmas.Grind.{common_steps}
use Rattle.jv_meaning.specs.Program.{constant_position}
use Rattle.jv_core.specs.Tree as Core
use Rattle.jv_core.specs.declared.program.CoreType.TheVariants as types
use Rattle.jv_core.proofs.ViewLaws.{kind-Constant}
use Rattle.jv_resolve_law.specs.Tables.{◌>>=◌, Numbered}
use Rattle.jv_resolve_law.specs.Expressions.{typed}
use Rattle.jv_resolve.specs.inner.Seen.{numbered_seen}
use Rattle.jv_resolve.proofs.literals.constant.Goals as goal

pub returns : goal.returns
returns c =
    let k = numbered_seen c.in-Some.numbered in
    let i = c.in-Some-constant_place.position in
    ap (λ o. o >>= λ (e : Numbered). constant_position e.enum c.args.name.now
    >>= λ j. Some (typed (Core.Constant c.args.place e.number j) (types.Enum e.number))) (sym c.in-Some.ensures)
    ∙ ap (λ o. o >>= λ j. Some (typed (Core.Constant c.args.place k.number j) (types.Enum k.number)))
    (sym c.in-Some-constant_place.ensures)
    ∙ ap Some (sym (c.typed.ensures ∙ ap (λ e. typed e (types.Enum k.number)) (kind-Constant k.number i c.args.place)))

pub returns-in_default-constant_place : goal.returns-in_default-constant_place
returns-in_default-constant_place c = grind (arith, common_steps)

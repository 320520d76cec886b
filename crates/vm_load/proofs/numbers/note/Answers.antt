use Rattle.std.proofs.Common.{Some, cond, sym, ap, ◌∙◌}
use Rattle.indexmap.specs.IndexMap.{get}
use Rattle.vm_load.proofs.Noted.{key_eq, noted_there, noted_absent}
use Rattle.vm_load.proofs.numbers.note.Goals as goal

pub returns-then-is_some : goal.returns-then-is_some
returns-then-is_some c = λ ds d h own number.
    noted_there _ ds h c.args.key d own (λ x. x.now) c.get.result c.get.ensures.value (sym c.is_some.ensures ∙ c.if-is_some.true)

pub returns : goal.returns
returns c = λ ds d h own number.
    noted_absent _ ds h c.args.key d own (λ x. x.now) c.get.result c.get.ensures.value (sym c.is_some.ensures ∙ c.if-is_some.false) _
    (λ q. c.in_ok-insert.ensures.updates.0 q ∙ ap (λ n. cond (key_eq c.args.key q) (Some n) (get key_eq c.args.numbers.now q)) number)

use Rattle.std.proofs.Common.{◌≡◌, ◌∷◌, None, ap, subst, ◌∙◌, arith}
use Rattle.std.proofs.lemmas.Grind.{common_steps}
use Rattle.std.specs.HashMap.{get_by_text}
use Rattle.jv_scope.specs.Row.{declared_seen, row_seen}
use Rattle.jv_scope.specs.inner.Kept.{AreLookedUp}
use Rattle.jv_scope.proofs.RowSteps.{row_push, looked_up_less, changed_at}
use Rattle.jv_scope.proofs.locals.Locals.undeclare.Goals as goal

pub invariant_of-self : goal.invariant_of-self
invariant_of-self g c =
    let u = changed_at c.self.inside.by_name c.remove.new.self c.in-Some.last.name.now None c.remove.ensures.updates in
    let whole : row_seen c.self.inside.stack.items ≡ declared_seen c.in-Some.last ∷ row_seen c.pop.new.self.items =
    ap row_seen c.in-Some.ensures.items ∙ row_push c.pop.new.self.items c.in-Some.last in
    looked_up_less (row_seen c.pop.new.self.items) (declared_seen c.in-Some.last) (get_by_text c.self.inside.by_name)
    (get_by_text c.remove.new.self)
    (subst (AreLookedUp (get_by_text c.self.inside.by_name)) whole c.self.invariant) u

pub returns-in-Some : goal.returns-in-Some
returns-in-Some g c = grind (arith, common_steps)

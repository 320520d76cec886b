-- What an assignment is resolved to, from its target and its value.
use Rattle.std.proofs.Common.{◌≡◌, List, [], Option, Some, sym, ap, ◌∙◌}
use Rattle.mg_text.specs.declared.place.Place.{Place}
use Rattle.jv_tree.specs.Source
use Rattle.jv_core.specs.Tree as Core
use Rattle.jv_core.specs.declared.tree.CoreVar.{CoreVar}
use Rattle.jv_resolve_law.specs.Tables.{◌>>=◌, Tables}
use Rattle.jv_resolve_law.specs.Expressions.{Known, Standing, Resolved, resolved, variable_in}
use Rattle.jv_resolve_law.specs.Statements.{Counted, Counting, stmt}
use Rattle.jv_resolve.specs.declared.given.Unresolved.{Unresolved}
use Rattle.jv_resolve.specs.inner.Counted.{counting}
use Rattle.jv_resolve.specs.inner.Gives.{Fails}
use Rattle.jv_resolve.specs.inner.Targets.{target_meant}
use Rattle.jv_resolve.proofs.Chains.{fails_then, fails_as, two_steps}

module _ (tables : Tables) (at : Standing) (locals : List Known) (p : Place) (target value : Source.Expr) (s : Counted) where
  abbrev then_made : CoreVar → Resolved → Option (Counting Core.Stmt)
  then_made x w = Some (counting (Core.Assign p x w.expr) s)

  abbrev then_value : CoreVar → Option (Counting Core.Stmt)
  then_value x = resolved tables at locals value >>= then_made x

  opened : stmt tables at (Source.Assign p target value) [] locals s ≡ (target_meant tables at locals target >>= then_value)
  opened = two_steps (resolved tables at locals target) (λ (r : Resolved). variable_in r.expr) then_value

  pub target_fails : (err : Unresolved) → Fails err (target_meant tables at locals target) →
      Fails err (stmt tables at (Source.Assign p target value) [] locals s)
  target_fails err h = fails_as err _ _ opened (fails_then err (target_meant tables at locals target) then_value h)

  module _ (x : CoreVar) (meant : target_meant tables at locals target ≡ Some x) where
    targeted : stmt tables at (Source.Assign p target value) [] locals s ≡ then_value x
    targeted = opened ∙ ap (λ o. o >>= then_value) meant

    pub value_fails : (err : Unresolved) → Fails err (resolved tables at locals value) →
        Fails err (stmt tables at (Source.Assign p target value) [] locals s)
    value_fails err h = fails_as err _ _ targeted (fails_then err (resolved tables at locals value) (then_made x) h)

    pub assigned_made : (v : Resolved) (made : Core.Stmt) → resolved tables at locals value ≡ Some v → made ≡ Core.Assign p x v.expr →
        stmt tables at (Source.Assign p target value) [] locals s ≡ Some (counting made s)
    assigned_made v made h is = targeted ∙ ap (λ o. o >>= then_made x) h ∙ ap (λ u. Some (counting u s)) (sym is)

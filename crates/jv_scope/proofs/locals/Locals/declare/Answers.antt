use Rattle.std.proofs.Common.{◌≡◌, ◌++◌, ◌∷◌, [], string_bytes, Some, None, sym, ap, subst, ◌∙◌, refl, arith}
use Rattle.std.proofs.lemmas.Grind.{common_steps}
use Rattle.std.specs.HashMap.{get_by_text, UpdatesBy}
use Rattle.std.specs.Str.{bytes_eq}
use Rattle.std.specs.String.{string_eq}
use Rattle.jv_scope.specs.declared.locals.Declared.{Declared}
use Rattle.jv_scope.specs.Named.{under, named}
use Rattle.jv_scope.specs.Row.{row_seen}
use Rattle.jv_scope.specs.inner.Kept.{AreLookedUp}
use Rattle.jv_scope.proofs.RowSteps.{row_push, looked_up_more, changed_at}
use Rattle.jv_scope.proofs.locals.Locals.declare.Goals as goal

pub invariant_of-self-2 : goal.invariant_of-self-2
invariant_of-self-2 g c =
    let key : string_bytes c.in_ok-key.key ≡ c.args.name.now = c.in_ok-key.ensures.ok in
    let u = changed_at c.self.inside.by_name c.insert.new.self c.args.name.now (Some c.args.it)
    (subst (λ n. UpdatesBy string_eq (λ k. bytes_eq n (string_bytes k)) c.self.inside.by_name c.insert.new.self (Some c.args.it)) key
    c.in_ok-insert.ensures.updates) in
    let new : named (row_seen c.self.inside.stack.items) c.args.name.now ≡ None = ap (λ l. named l c.args.name.now)
    c.self.view_is ∙ c.requires in
    let d : Declared g.row.T.Denot = record { name = c.args.name; it = c.args.it } in
    let pushed = ap row_seen (c.in_ok-push.ensures.items ∙ ap (λ xs. xs ++ d ∷ []) c.in_ok-reserve.ensures.items) ∙
    row_push c.self.inside.stack.items d in
    subst (AreLookedUp (get_by_text c.insert.new.self)) (sym pushed)
    (looked_up_more (row_seen c.self.inside.stack.items) (under c.args.name.now c.args.it) (get_by_text c.self.inside.by_name)
    (get_by_text c.insert.new.self) c.self.invariant new u)

pub returns : goal.returns
returns g c = grind (arith, common_steps)

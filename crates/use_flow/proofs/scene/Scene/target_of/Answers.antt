use Rattle.std.proofs.Common.{◌≡◌, is_some, position, sym, ap, ◌∙◌, rules}
use Rattle.std.proofs.lemmas.Bool.{OnTrue_at}
use Rattle.use_rules.specs.declared.key.Context.TheVariants as contexts
use Rattle.use_rules.specs.Keys.{same_context}
use Rattle.use_flow.specs.View.{contexts_of}
use Rattle.use_flow.specs.inner.Followed.{seen}
use Rattle.use_flow.proofs.Placing.{untold}
use Rattle.use_flow.proofs.scene.Scene.target_of.Goals as goal

pub returns-then-is_told : goal.returns-then-is_told
returns-then-is_told c =
    let e : c.in-Ok.number ≡ c.args.state = search rules in
    untold (seen c.args.self.now) c.args.key c.args.state (OnTrue_at c.if-is_told.true c.is_told.ensures) c.args.self.now.listed
    (ap (λ q. is_some (position (same_context (contexts.Protocol c.args.key.class q c.args.key.number)) (contexts_of c.args.self.now.tables.now)))
    (sym e) ∙ sym c.place_in.ensures ∙ ap is_some c.in-None.is)

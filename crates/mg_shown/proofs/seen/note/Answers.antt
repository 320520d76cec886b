use Rattle.std.proofs.Common.{◌≡◌, cond, Option, Some, ap, ◌∙◌, subst}
use Rattle.indexmap.specs.IndexMap.{get}
use Rattle.use_rules.specs.Elements.{Set, union}
use Rattle.use_flow.specs.View.{sight_of}
use Rattle.mg_shown.specs.declared.seen.PlaceKey.{PlaceKey}
use Rattle.mg_shown.specs.inner.Seeing.{key_of, set_or_none}
use Rattle.mg_shown.proofs.Seeing.{key_eq, sight_noted}
use Rattle.mg_shown.proofs.seen.note.Goals as goal

pub returns : goal.returns
returns c =
    let s = sight_of c.args.sight.now in
    let key : c.key_of-key.result ≡ key_of s.place = c.key_of-key.ensures in
    sight_noted s (get key_eq c.args.seen.now) (get key_eq c.insert.new.self) c.in_ok-all.all
    (c.in_ok-all.ensures
    ∙ ap (λ (o : Option Set). union (set_or_none o) s.set) (c.get.ensures.value ∙ ap (get key_eq c.args.seen.now) key))
    (subst (λ (k : PlaceKey). (q : PlaceKey) → get key_eq c.insert.new.self q
    ≡ cond (key_eq k q) (Some c.in_ok-all.all) (get key_eq c.args.seen.now q)) key c.in_ok-insert.ensures.updates.0)

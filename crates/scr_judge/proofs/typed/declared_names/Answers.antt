use Rattle.std.proofs.Common.{◌≡◌, take_all, map, subst, ◌∙◌, arith, string_bytes}
use Rattle.std.specs.HashSet.{contains_text}
use Rattle.scr_judge.specs.inner.Listed.{alias_of}
use Rattle.scr_judge.proofs.Duplicates.{HasNames, has_none, has_one_more}
use Rattle.scr_judge.proofs.typed.declared_names.Goals as goal

pub loop-declaration-init : goal.loop-declaration-init
loop-declaration-init c = has_none _ c.no_names-names.ensures

pub loop-declaration-preserved : goal.loop-declaration-preserved
loop-declaration-preserved c =
    let same : string_bytes c.in_ok-name.name ≡ c.declaration-item.result.alias = c.in_ok-name.ensures.ok ∙ c.as_str.ensures in
    has_one_more alias_of (contains_text c.loop-declaration.names) c.args.types.now c.loop-declaration.declaration-index
    c.declaration-item.result c.loop-declaration-test.true c.declaration-item.is c.loop-declaration.invariant
    (string_bytes c.in_ok-name.name) same (contains_text c.add_name.new.names) c.in_ok-add_name.ensures.names

pub returns : goal.returns
returns c = (subst (λ xs. HasNames (contains_text c.loop-declaration.names) (map alias_of xs))
    (take_all c.loop-declaration.declaration-index c.args.types.now (omega arith)) c.loop-declaration.invariant).each

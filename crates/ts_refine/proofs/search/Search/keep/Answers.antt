use Rattle.std.proofs.Common.{◌<◌, ◌∙◌, ◌++◌, ◌∷◌, [], List, length, ap, sym, subst}
use Rattle.ts_refine.specs.declared.search.Visit.{Visit}
use Rattle.ts_refine.specs.inner.Keeping.{Met, met_by}
use Rattle.ts_refine.specs.inner.Marking.{is_marked}
use Rattle.ts_refine.proofs.Pairing.{kept-more, kept-view}
use Rattle.ts_refine.proofs.search.Search.keep.Goals as goal

pub number-number-requires-clause-a : goal.number-number-requires-clause-a
number-number-requires-clause-a c = c.self.invariant.few_a

pub number-number-requires-clause-b : goal.number-number-requires-clause-b
number-number-requires-clause-b c = c.self.invariant.few_b

pub invariant_of-self-2 : goal.invariant_of-self-2
invariant_of-self-2 c =
    kept-more c.self.inside.a c.self.inside.b (is_marked c.self.inside.marks) (is_marked c.mark.new.self) c.self.inside.first
    c.self.inside.visits.items c.add.new.self.items
    (record { pair = c.args.pair; step = c.args.step }) c.number-number.result c.self.invariant
    (subst (λ (ms : List Met). c.args.step.parent < length ms) (sym c.self.view_is) c.requires)
    (c.add.ensures.items ∙ ap (λ (vs : List Visit). vs ++ record { pair = c.args.pair; step = c.args.step } ∷ []) c.reserve.ensures.items)
    c.number-number.ensures.value c.in_ok-mark.ensures.ok

pub returns : goal.returns
returns c =
    kept-view c.self.inside.first c.self.inside.visits.items c.add.new.self.items (record { pair = c.args.pair; step = c.args.step })
    (c.add.ensures.items ∙ ap (λ (vs : List Visit). vs ++ record { pair = c.args.pair; step = c.args.step } ∷ []) c.reserve.ensures.items)
    ∙ ap (λ (ms : List Met). ms ++ met_by c.args.pair c.args.step ∷ []) c.self.view_is

use Rattle.ts_refine.proofs.Labelling.{labelled}
use Rattle.ts_refine.proofs.places.LabelPlaces.place_of.Goals as goal

pub returns-then-label_stands_at : goal.returns-then-label_stands_at
returns-then-label_stands_at c = labelled c.args.branches.now _ c.args.label.now c.label_stands_at.result c.label_stands_at.ensures
    c.if-label_stands_at.true

pub returns-then-label_stands_at-2 : goal.returns-then-label_stands_at-2
returns-then-label_stands_at-2 c = labelled c.args.branches.now _ c.args.label.now c.label_stands_at-2.result c.label_stands_at-2.ensures
    c.if-label_stands_at-2.true

pub returns-then-label_stands_at-3 : goal.returns-then-label_stands_at-3
returns-then-label_stands_at-3 c = labelled c.args.branches.now _ c.args.label.now c.label_stands_at-3.result c.label_stands_at-3.ensures
    c.if-label_stands_at-3.true

use Rattle.ts_refine.proofs.Offering.{stood}
use Rattle.ts_refine.proofs.places.MethodPlaces.place_in.Goals as goal

pub returns-then-stands_at : goal.returns-then-stands_at
returns-then-stands_at c = stood c.args.methods.now _ c.args.name.now c.stands_at.result c.requires c.stands_at.ensures c.if-stands_at.true

pub returns-then-stands_at-2 : goal.returns-then-stands_at-2
returns-then-stands_at-2 c = stood c.args.methods.now _ c.args.name.now c.stands_at-2.result c.requires c.stands_at-2.ensures
    c.if-stands_at-2.true

pub returns-then-stands_at-3 : goal.returns-then-stands_at-3
returns-then-stands_at-3 c = stood c.args.methods.now _ c.args.name.now c.stands_at-3.result c.requires c.stands_at-3.ensures
    c.if-stands_at-3.true

use Rattle.mg_projected.proofs.Stops.{unmerged_stop}
use Rattle.mg_projected.proofs.told.stop_of_projection.Goals as goal

pub returns-in-NotMergeable : goal.returns-in-NotMergeable
returns-in-NotMergeable c =
    unmerged_stop c.args.fault c.in-NotMergeable.place c.in-NotMergeable.name c.named.result c.in-NotMergeable.is c.named.ensures

use Rattle.mg_projected.proofs.Stops.{unread_stop, unprojected_stop}
use Rattle.mg_projected.proofs.told.stop_of.Goals as goal

pub returns-in-Unread : goal.returns-in-Unread
returns-in-Unread c = unread_stop c.args.fault c.in-Unread.fault c.stop_of_global.result c.in-Unread.is c.stop_of_global.ensures

pub returns-in-Unprojected : goal.returns-in-Unprojected
returns-in-Unprojected c =
    unprojected_stop c.args.fault c.in-Unprojected.fault c.stop_of_projection.result c.in-Unprojected.is c.stop_of_projection.ensures

use Rattle.std.proofs.Common.{ap}
use Rattle.mg_text.specs.declared.place.Place.{Place}
use Rattle.lsp_notes.proofs.Grouping.{groups_none, groups_more}
use Rattle.lsp_notes.proofs.homes.groups_of.Goals as goal

pub loop-refusal-init : goal.loop-refusal-init
loop-refusal-init c = groups_none c.args.count _ c.in_ok-groups.ensures

pub loop-refusal-preserved : goal.loop-refusal-preserved
loop-refusal-preserved c =
    groups_more c.args.count c.loop-refusal.yielded c.in-Some.refusal _ _ c.place_in-place.result.file
    (ap (λ (p : Place). p.file) c.place_in-place.ensures.place) c.loop-refusal.invariant c.in_ok-put.ensures

use Rattle.std.proofs.Common.{[], ◌∷◌, map, Some, subst}
use Rattle.scr_global_tree.specs.Global.{tree_of}
use Rattle.mg_sources.specs.Parts.{part_of}
use Rattle.mg_fits.specs.Conditions.{Unplayed, Stranger, SharedMain, NoProtocol, OtherProtocol, OwnSession, MadeElsewhere, NotMade}
use Rattle.fit_judge.proofs.Firsts.{First, fault_front, behind, behind_ok}
use Rattle.fit_judge.proofs.Telling.{mains_differ}
use Rattle.fit_judge.proofs.first.first_unfit.Goals as goal

pub unfit_code-requires : goal.unfit_code-requires
unfit_code-requires c =
    let g = tree_of c.args.global.now in
    let ps = map part_of c.args.parts.now in
    let p = c.args.core.now in
    let ms = c.args.mains.now in
    mains_differ g ps p ms (subst (First g ps p ms (Unplayed ∷ Stranger ∷ SharedMain ∷ [])) c.in_default.is (c.in_ok-refusal.ensures ps p))

pub returns-in-Some : goal.returns-in-Some
returns-in-Some c =
    let g = tree_of c.args.global.now in
    let ps = map part_of c.args.parts.now in
    let p = c.args.core.now in
    let ms = c.args.mains.now in
    fault_front g ps p ms (Unplayed ∷ Stranger ∷ SharedMain ∷ []) (NoProtocol ∷ OtherProtocol ∷ OwnSession ∷ MadeElsewhere ∷ NotMade ∷ [])
    c.in-Some.refusal (subst (First g ps p ms (Unplayed ∷ Stranger ∷ SharedMain ∷ [])) c.in-Some.is (c.in_ok-refusal.ensures ps p))

pub returns-in-Some-2 : goal.returns-in-Some-2
returns-in-Some-2 c =
    let g = tree_of c.args.global.now in
    let ps = map part_of c.args.parts.now in
    let p = c.args.core.now in
    let ms = c.args.mains.now in
    behind g ps p ms (Unplayed ∷ Stranger ∷ SharedMain ∷ []) (NoProtocol ∷ OtherProtocol ∷ OwnSession ∷ MadeElsewhere ∷ NotMade ∷ [])
    (Some c.in-Some-2.found)
    (subst (First g ps p ms (Unplayed ∷ Stranger ∷ SharedMain ∷ [])) c.in_default.is (c.in_ok-refusal.ensures ps p))
    (fault_front g ps p ms (NoProtocol ∷ OtherProtocol ∷ []) (OwnSession ∷ MadeElsewhere ∷ NotMade ∷ []) c.in-Some-2.found
    (subst (First g ps p ms (NoProtocol ∷ OtherProtocol ∷ [])) c.in-Some-2.is (c.in_ok-found.ensures p ms)))

pub returns-in-None : goal.returns-in-None
returns-in-None c =
    let g = tree_of c.args.global.now in
    let ps = map part_of c.args.parts.now in
    let p = c.args.core.now in
    let ms = c.args.mains.now in
    behind_ok g ps p ms (Unplayed ∷ Stranger ∷ SharedMain ∷ []) (NoProtocol ∷ OtherProtocol ∷ OwnSession ∷ MadeElsewhere ∷ NotMade ∷ [])
    c.unfit_code.result
    (subst (First g ps p ms (Unplayed ∷ Stranger ∷ SharedMain ∷ [])) c.in_default.is (c.in_ok-refusal.ensures ps p))
    (behind_ok g ps p ms (NoProtocol ∷ OtherProtocol ∷ []) (OwnSession ∷ MadeElsewhere ∷ NotMade ∷ []) c.unfit_code.result
    (subst (First g ps p ms (NoProtocol ∷ OtherProtocol ∷ [])) c.in-None.is (c.in_ok-found.ensures p ms))
    (c.unfit_code.ensures g))

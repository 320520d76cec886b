use Rattle.std.proofs.Common.{[], ◌∷◌, Some, subst}
use Rattle.scr_global_tree.specs.Global.{tree_of}
use Rattle.mg_fits.specs.Conditions.{Unplayed, Stranger, SharedMain}
use Rattle.fit_judge.proofs.Firsts.{Answer, fault, onward, onward_ok, last_ok}
use Rattle.fit_judge.proofs.first.unfit_roles.Goals as goal

pub unplayed-requires : goal.unplayed-requires
unplayed-requires c = c.requires.written.placed

pub returns-in-Some : goal.returns-in-Some
returns-in-Some c = λ ps p.
    let g = tree_of c.args.global.now in
    let ms = c.args.mains.now in
    fault g ps p ms Unplayed (Stranger ∷ SharedMain ∷ []) c.in-Some.refusal
    (subst (Answer g ps p ms Unplayed) c.in-Some.is (c.in_ok-refusal.ensures ps p))

pub returns-in-Some-2 : goal.returns-in-Some-2
returns-in-Some-2 c = λ ps p.
    let g = tree_of c.args.global.now in
    let ms = c.args.mains.now in
    onward g ps p ms Unplayed (Stranger ∷ SharedMain ∷ []) (Some c.in-Some-2.found)
    (subst (Answer g ps p ms Unplayed) c.in_default.is (c.in_ok-refusal.ensures ps p))
    (fault g ps p ms Stranger (SharedMain ∷ []) c.in-Some-2.found
    (subst (Answer g ps p ms Stranger) c.in-Some-2.is (c.in_ok-found.ensures ps p)))

pub returns-in-None : goal.returns-in-None
returns-in-None c = λ ps p.
    let g = tree_of c.args.global.now in
    let ms = c.args.mains.now in
    onward_ok g ps p ms Unplayed (Stranger ∷ SharedMain ∷ []) c.shared_main.result
    (subst (Answer g ps p ms Unplayed) c.in_default.is (c.in_ok-refusal.ensures ps p))
    (onward_ok g ps p ms Stranger (SharedMain ∷ []) c.shared_main.result
    (subst (Answer g ps p ms Stranger) c.in-None.is (c.in_ok-found.ensures ps p))
    (last_ok g ps p ms SharedMain c.shared_main.result (c.shared_main.ensures g ps p)))

use Rattle.std.proofs.Common.{◌≡◌, [], ◌∷◌, map, Some, subst, ◌∙◌}
use Rattle.mg_sources.specs.Parts.{part_of}
use Rattle.mg_fits.specs.Conditions.{OwnSession, MadeElsewhere, NotMade}
use Rattle.mg_fits.specs.Parts.{roles_in, own_uses}
use Rattle.fit_judge.proofs.Firsts.{Answer, fault, onward, onward_ok, last_ok}
use Rattle.fit_judge.proofs.Telling.{own_told, made_told}
use Rattle.fit_judge.proofs.first.unfit_code.Goals as goal

pub returns-in-Some : goal.returns-in-Some
returns-in-Some c = λ g.
    let ps = map part_of c.args.parts.now in
    let p = c.args.core.now in
    let ms = c.args.mains.now in
    let same : c.as_slice-uses.result.now ≡ own_uses (roles_in ps) p ms = c.as_slice-uses.ensures.items
    ∙ c.in_ok-own.ensures (roles_in ps) ms c.in_ok-classes.ensures c.in_ok-makes.ensures in
    fault g ps p ms OwnSession (MadeElsewhere ∷ NotMade ∷ []) c.in-Some.refusal
    (subst (Answer g ps p ms OwnSession) c.in-Some.is
    (own_told g ps p ms c.as_slice-uses.result.now (own_uses (roles_in ps) p ms) same c.in_ok-refusal.ensures))

pub returns-in-Some-2 : goal.returns-in-Some-2
returns-in-Some-2 c = λ g.
    let ps = map part_of c.args.parts.now in
    let p = c.args.core.now in
    let ms = c.args.mains.now in
    let same : c.as_slice-uses.result.now ≡ own_uses (roles_in ps) p ms = c.as_slice-uses.ensures.items
    ∙ c.in_ok-own.ensures (roles_in ps) ms c.in_ok-classes.ensures c.in_ok-makes.ensures in
    onward g ps p ms OwnSession (MadeElsewhere ∷ NotMade ∷ []) (Some c.in-Some-2.found)
    (subst (Answer g ps p ms OwnSession) c.in_default.is
    (own_told g ps p ms c.as_slice-uses.result.now (own_uses (roles_in ps) p ms) same c.in_ok-refusal.ensures))
    (fault g ps p ms MadeElsewhere (NotMade ∷ []) c.in-Some-2.found
    (subst (Answer g ps p ms MadeElsewhere) c.in-Some-2.is
    (made_told g ps p ms c.as_slice-uses.result.now (own_uses (roles_in ps) p ms) same
    (c.in_ok-found.ensures (roles_in ps) c.in_ok-classes.ensures))))

pub returns : goal.returns
returns c = λ g.
    let ps = map part_of c.args.parts.now in
    let p = c.args.core.now in
    let ms = c.args.mains.now in
    let same : c.as_slice-uses.result.now ≡ own_uses (roles_in ps) p ms = c.as_slice-uses.ensures.items
    ∙ c.in_ok-own.ensures (roles_in ps) ms c.in_ok-classes.ensures c.in_ok-makes.ensures in
    onward_ok g ps p ms OwnSession (MadeElsewhere ∷ NotMade ∷ []) c.not_made.result
    (subst (Answer g ps p ms OwnSession) c.in_default.is
    (own_told g ps p ms c.as_slice-uses.result.now (own_uses (roles_in ps) p ms) same c.in_ok-refusal.ensures))
    (onward_ok g ps p ms MadeElsewhere (NotMade ∷ []) c.not_made.result
    (subst (Answer g ps p ms MadeElsewhere) c.in-None.is
    (made_told g ps p ms c.as_slice-uses.result.now (own_uses (roles_in ps) p ms) same
    (c.in_ok-found.ensures (roles_in ps) c.in_ok-classes.ensures)))
    (last_ok g ps p ms NotMade c.not_made.result (c.not_made.ensures g ps)))

use Rattle.std.proofs.Common.{[], ◌∷◌, map, subst}
use Rattle.scr_global_tree.specs.Global.{tree_of}
use Rattle.mg_sources.specs.Parts.{part_of}
use Rattle.mg_fits.specs.Conditions.{NoProtocol, OtherProtocol}
use Rattle.fit_judge.proofs.Firsts.{Answer, fault, onward_ok, last_ok}
use Rattle.fit_judge.proofs.first.unfit_protocols.Goals as goal

pub no_protocol-requires : goal.no_protocol-requires
no_protocol-requires c = c.requires.valid.written.placed

pub returns-in-Some : goal.returns-in-Some
returns-in-Some c = λ p ms.
    let g = tree_of c.args.global.now in
    let ps = map part_of c.args.parts.now in
    fault g ps p ms NoProtocol (OtherProtocol ∷ []) c.in-Some.refusal
    (subst (Answer g ps p ms NoProtocol) c.in-Some.is (c.in_ok-refusal.ensures p ms))

pub returns-in-None : goal.returns-in-None
returns-in-None c = λ p ms.
    let g = tree_of c.args.global.now in
    let ps = map part_of c.args.parts.now in
    onward_ok g ps p ms NoProtocol (OtherProtocol ∷ []) c.other_protocol.result
    (subst (Answer g ps p ms NoProtocol) c.in-None.is (c.in_ok-refusal.ensures p ms))
    (last_ok g ps p ms OtherProtocol c.other_protocol.result (c.other_protocol.ensures p ms))

use Rattle.std.proofs.Common.{sym, ap, ◌∙◌}
use Rattle.std.proofs.lemmas.Result.{IfOk-weaker}
use Rattle.std.specs.Option.{option_map}
use Rattle.scr_judge.proofs.Guarded.{back_by, back_none}
use Rattle.scr_judge.proofs.cycles.Round.goes_back.Goals as goal

pub returns-in-Some : goal.returns-in-Some
returns-in-Some c =
    IfOk-weaker c.comes_back.result _ _
    (λ b x ps to h k. back_by ps c.args.self.now h c.args.name.now to _ _ b (sym c.find.ensures ∙ ap (option_map (λ n. n.0)) c.in-Some.is) k
    x) c.comes_back.ensures

pub returns-in-None : goal.returns-in-None
returns-in-None c = λ ps to h k. back_none ps c.args.self.now h c.args.name.now to _
    (sym c.find.ensures ∙ ap (option_map (λ n. n.0)) c.in-None.is) k

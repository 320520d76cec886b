use Rattle.std.proofs.Common.{sym, ap, ◌∙◌, position}
use Rattle.std.proofs.lemmas.Result.{IfOk-weaker}
use Rattle.std.specs.Option.{option_map}
use Rattle.std.specs.Str.{bytes_eq}
use Rattle.mg_text.specs.Call.{Name}
use Rattle.scr_judge.proofs.Guarded.{part_numbered}
use Rattle.scr_judge.proofs.cycles.Round.goal_of.Goals as goal

pub returns-in-Some : goal.returns-in-Some
returns-in-Some c =
    IfOk-weaker c.goal_from.result _ _
    (λ g f ps h k. f ps c.args.part.now.name h
    (sym (ap (λ (t : Name). position (bytes_eq t) c.args.self.now.names) c.as_str.ensures) ∙ sym c.find.ensures ∙
    ap (option_map (λ n. n.0)) c.in-Some.is)) c.goal_from.ensures

pub returns-in-None : goal.returns-in-None
returns-in-None c = λ ps h k.
    absurd (part_numbered ps c.args.self.now h c.args.part.now k
    (sym (ap (λ (t : Name). position (bytes_eq t) c.args.self.now.names) c.as_str.ensures) ∙ sym c.find.ensures ∙
    ap (option_map (λ n. n.0)) c.in-None.is))

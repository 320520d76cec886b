use Rattle.std.proofs.Common.{arith}
use Rattle.scr_judge.proofs.Edges.{number_steps}
use Rattle.std.proofs.Common.{◌≡◌, [], None, get_or, sym, ap, ◌∙◌}
use Rattle.std.specs.Borrow.{Bor}
use Rattle.std.specs.Option.{option_map}
use Rattle.mg_text.specs.Call.{Name}
use Rattle.scr_judge.proofs.Edges.{numbers_more}
use Rattle.std.proofs.lemmas.List.{append-nil, get_or_default}
use Rattle.scr_judge.proofs.cycles.numbers_of.Goals as goal
use Rattle.scr_judge.proofs.cycles.numbers_of.Goals.{in-Some+in_ok-push-in-Some, in-None}

pub loop-name-preserved : goal.loop-name-preserved
loop-name-preserved c =
    let none : Bor Name = record { ref_ptr = (0, 0); now = [] } in
    let here : Bor Name = get_or c.args.sought.now c.loop-name.name-index none in
    let is : here ≡ get_or c.args.sought.now c.loop-name.name-index here = get_or_default c.args.sought.now c.loop-name.name-index none here
    c.loop-name-test.true in
    elim c.match-find.branch [
      | in-Some+in_ok-push-in-Some w ↦
          numbers_more c.args.names.now c.args.sought.now c.loop-name.name-index here c.loop-name-test.true is _ c.loop-name.numbers.items
          c.match-find.numbers.items _ c.loop-name.invariant
          (ap (option_map (λ n. n.0)) (sym w.in-Some.is) ∙ c.find.ensures) (ap (λ v. v.items) w.numbers-is ∙
          w.in_ok-push-in-Some.ensures.items)
      | in-None w ↦
          numbers_more c.args.names.now c.args.sought.now c.loop-name.name-index here c.loop-name-test.true is _ c.loop-name.numbers.items
          c.match-find.numbers.items None c.loop-name.invariant
          (ap (option_map (λ n. n.0)) (sym w.in-None.is) ∙ c.find.ensures) (ap (λ v. v.items) w.numbers-is ∙
          sym (append-nil c.loop-name.numbers.items))
    ]

pub returns : goal.returns
returns c = grind (arith, number_steps)

use Rattle.std.proofs.Common.{[], Some, None, get_or, refl, arith}
use Rattle.std.specs.Borrow.{Bor}
use Rattle.mg_text.specs.Call.{Name}
use Rattle.scr_tree.specs.Going.{Leads}
use Rattle.scr_judge.specs.inner.Round.{FoundBad, titles}
use Rattle.scr_judge.proofs.Guarded.{bad_here, bad_later}
use Rattle.std.proofs.lemmas.List.{get_or_default}
use Rattle.scr_judge.proofs.Owned.{rest_start, rest_end, rest_here, rest_later, first_map}
use Rattle.scr_judge.proofs.cycles.Round.first_back.Goals as goal

pub loop-i-init : goal.loop-i-init
loop-i-init c = λ ps to h k. rest_start (λ (b : Bor Name). FoundBad (λ n. Leads (titles ps) n to) b.now) c.args.names.now

pub returns-then-back : goal.returns-then-back
returns-then-back c = λ ps to h k.
    let none : Bor Name = record { ref_ptr = (0, 0); now = [] } in
    let here : Bor Name = get_or c.args.names.now c.loop-i.i none in
    first_map (FoundBad (λ n. Leads (titles ps) n to)) (λ (b : Bor Name). b.now)
    (rest_here (λ (b : Bor Name). FoundBad (λ n. Leads (titles ps) n to) b.now) c.args.names.now c.loop-i.i (c.loop-i.invariant ps to h k)
    c.loop-i-test.true here
    (get_or_default c.args.names.now c.loop-i.i none here c.loop-i-test.true)
    _ (Some here.now) (bad_here (λ n. Leads (titles ps) n to) here.now c.in_ok-back.back (c.in_ok-back.ensures ps to h k) c.if-back.true)
    refl)

pub loop-i-preserved : goal.loop-i-preserved
loop-i-preserved c = λ ps to h k.
    let none : Bor Name = record { ref_ptr = (0, 0); now = [] } in
    let here : Bor Name = get_or c.args.names.now c.loop-i.i none in
    rest_later (λ (b : Bor Name). FoundBad (λ n. Leads (titles ps) n to) b.now) c.args.names.now c.loop-i.i (c.loop-i.invariant ps to h k)
    c.loop-i-test.true here
    (get_or_default c.args.names.now c.loop-i.i none here c.loop-i-test.true)
    None (bad_later (λ n. Leads (titles ps) n to) here.now c.in_ok-back.back (c.in_ok-back.ensures ps to h k) c.if-back.false) refl

pub returns : goal.returns
returns c = λ ps to h k.
    first_map (FoundBad (λ n. Leads (titles ps) n to)) (λ (b : Bor Name). b.now)
    (rest_end (λ (b : Bor Name). FoundBad (λ n. Leads (titles ps) n to) b.now) c.args.names.now c.loop-i.i (c.loop-i.invariant ps to h k)
    (omega arith))

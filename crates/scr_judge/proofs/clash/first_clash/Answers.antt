use Rattle.std.proofs.Common.{◌≡◌, ◌+◌, Some, None, take, refl, sym, ap, subst, ◌∙◌, true≢false, arith, rules}
use Rattle.std.specs.HashMap.{get_by_text}
use Rattle.mg_read.specs.Culprit.{culprit}
use Rattle.mg_read.proofs.Scanning.{left_end, left_here, left_later}
use Rattle.scr_judge.specs.inner.Listed.{Clash}
use Rattle.scr_judge.specs.inner.View.{call_of, does, clashing}
use Rattle.scr_judge.proofs.KeyTable.{Indexes}
use Rattle.scr_judge.proofs.KeySteps.{below, differs, same_fine, same_indexes, none_fine, new_indexed}
use Rattle.scr_judge.proofs.clash.first_clash.Goals as goal
use Rattle.scr_judge.proofs.clash.first_clash.Goals.{in-Some+else-not-is_same_deed, in-None+in_ok-key-in-None+in_ok-insert-in-None}

pub bounds-actions-first : goal.bounds-actions-first
bounds-actions-first c =
    let seen : get_by_text c.loop-i.firsts c.index-actions-i.result.call ≡ Some c.in-Some.first.now =
    ap (get_by_text c.loop-i.firsts) (sym c.as_str-name.ensures) ∙ sym c.in-Some.ensures.value in
    below call_of does c.loop-i.firsts c.args.actions.now c.loop-i.i c.index-actions-i.result c.loop-i-test.true c.index-actions-i.is
    c.loop-i.invariant.indexes c.in-Some.first.now seen

pub offset_bounds-actions-first : goal.offset_bounds-actions-first
offset_bounds-actions-first c = let within = bounds-actions-first c in search rules

pub returns-then-not-is_same_deed : goal.returns-then-not-is_same_deed
returns-then-not-is_same_deed c =
    let seen : get_by_text c.loop-i.firsts c.index-actions-i.result.call ≡ Some c.in-Some.first.now =
    ap (get_by_text c.loop-i.firsts) (sym c.as_str-name.ensures) ∙ sym c.in-Some.ensures.value in
    left_here (Clash call_of does clashing) c.loop-i.invariant.left c.index-actions-i.result c.loop-i-test.true c.index-actions-i.is _ (
      ap (culprit c.index-actions-i.result.place) c.as_str-name.ensures,
      differs call_of does c.loop-i.firsts c.args.actions.now c.loop-i.i c.index-actions-i.result c.loop-i-test.true c.index-actions-i.is
          c.loop-i.invariant.indexes c.in-Some.first.now seen
          c.index-actions-first.result c.index-actions-first.is (λ same. true≢false (sym (c.if-not-is_same_deed.ensures.1 same))),
    )

pub loop-i-preserved : goal.loop-i-preserved
loop-i-preserved c =
    elim c.match-get.branch [
      | in-Some+else-not-is_same_deed w ↦
          let seen : get_by_text c.loop-i.firsts c.index-actions-i.result.call ≡ Some w.in-Some.first.now =
          ap (get_by_text c.loop-i.firsts) (sym c.as_str-name.ensures) ∙ sym w.in-Some.ensures.value in
          let same = w.if-not-is_same_deed.ensures.0 refl in
          record {
            indexes = subst (λ m. Indexes call_of does m (take (c.loop-i.i + 1) c.args.actions.now)) (sym w.firsts-is)
                (same_indexes call_of does c.loop-i.firsts c.args.actions.now c.loop-i.i c.index-actions-i.result c.loop-i-test.true
                c.index-actions-i.is c.loop-i.invariant.indexes
                w.in-Some.first.now seen w.index-actions-first.result w.index-actions-first.is same);
            left = left_later (Clash call_of does clashing) c.loop-i.invariant.left c.index-actions-i.result c.loop-i-test.true
                c.index-actions-i.is
                (λ k a. same_fine call_of does c.loop-i.firsts c.args.actions.now c.loop-i.i c.index-actions-i.result c.loop-i-test.true
                c.index-actions-i.is c.loop-i.invariant.indexes
                w.in-Some.first.now seen w.index-actions-first.result w.index-actions-first.is same a.1);
          }
      | in-None+in_ok-key-in-None+in_ok-insert-in-None w ↦
          let none : get_by_text c.loop-i.firsts c.index-actions-i.result.call ≡ None =
          ap (get_by_text c.loop-i.firsts) (sym c.as_str-name.ensures) ∙ sym w.in-None.ensures.value in
          record {
            indexes = subst (λ m. Indexes call_of does m (take (c.loop-i.i + 1) c.args.actions.now)) (sym w.firsts-is)
                (new_indexed call_of does c.loop-i.firsts c.args.actions.now c.loop-i.i c.index-actions-i.result c.loop-i-test.true
                c.index-actions-i.is c.loop-i.invariant.indexes none
                w.insert.new.self w.in_ok-key-in-None.key (w.in_ok-key-in-None.ensures.ok ∙ c.as_str-name.ensures)
                w.in_ok-insert-in-None.ensures.updates);
            left = left_later (Clash call_of does clashing) c.loop-i.invariant.left c.index-actions-i.result c.loop-i-test.true
                c.index-actions-i.is
                (λ k a. none_fine call_of does c.loop-i.firsts c.args.actions.now c.loop-i.i c.index-actions-i.result c.loop-i-test.true
                c.index-actions-i.is c.loop-i.invariant.indexes none a.1);
          }
    ]

pub returns : goal.returns
returns c = left_end (Clash call_of does clashing) c.loop-i.invariant.left (omega arith)

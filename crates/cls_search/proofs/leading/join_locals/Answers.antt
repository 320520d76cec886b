use Rattle.std.proofs.Common.{rules, ◌≡◌, sym, ap₂, ◌∙◌}
use Rattle.cls_kinds.specs.Numbers.{is_raised}
use Rattle.cls_search.proofs.LedLemmas.{joined_second}
use Rattle.cls_search.proofs.leading.join_locals.Goals as goal

pub returns-then-not-raises_row-2 : goal.returns-then-not-raises_row-2
returns-then-not-raises_row-2 c =
    let old = c.args.old.now.value.items in
    let new = c.args.new.now.value.items in
    let kept : c.as_slice-kept.result.now ≡ old = rw c.as_ref.ensures at c.as_slice-kept.ensures.value in
    let led : c.as_slice-led.result.now ≡ new = rw c.as_ref-2.ensures at c.as_slice-led.ensures.value in
    let row : c.in_ok-row.row.value.items ≡ new = search rules in (
      ap₂ is_raised (sym kept) (sym led) ∙ sym c.raises_row.ensures ∙ c.if-not-raises_row.false,
      row ∙ joined_second old new c.requires (ap₂ is_raised (sym led) (sym kept) ∙ sym c.raises_row-2.ensures ∙ c.if-not-raises_row-2.true),
    )

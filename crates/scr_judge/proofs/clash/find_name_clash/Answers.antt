use Rattle.std.proofs.Common.{sym}
use Rattle.std.proofs.lemmas.Result.{IfOk-weaker}
use Rattle.scr_judge.proofs.Clashes.{clashes}
use Rattle.scr_judge.proofs.Files.{all_texts}
use Rattle.scr_judge.proofs.clash.find_name_clash.Goals as goal

pub returns : goal.returns
returns c = IfOk-weaker c.with_name.result _ _ (λ n same.
    clashes c.as_slice-3.result.now c.collect_parts.new.out.items c.new-actions.result.items _ _ _ c.as_slice-3.ensures.value
    c.new-actions.ensures.items
    (all_texts c.args.written.now _ _ c.collect_all.new.out.items _ _ _ c.as_slice.ensures.items c.as_slice-2.ensures.items
    c.in_ok-next.ensures.actions c.in_ok-next.ensures.next c.in_ok-collect_parts.ensures)
    (sym same) c.in_ok-clash.ensures) c.with_name.ensures

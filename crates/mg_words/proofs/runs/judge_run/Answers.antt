use Rattle.std.proofs.lemmas.Grind.{common_steps}
use Rattle.std.proofs.Common.{refl, sym, arith}
use Rattle.mg_words.proofs.CodeLemmas.{begun, begun_keeps, more_at, never_at, keeps_at, stuck_at, barred_at, end_at}
use Rattle.mg_words.proofs.runs.judge_run.Goals as goal

pub loop-word-init : goal.loop-word-init
loop-word-init c = record {
  read = begun c.args.words.now _ refl refl refl refl refl refl;
  keeps = begun_keeps c.args.input;
}

pub returns-then-is_barred : goal.returns-then-is_barred
returns-then-is_barred c =
    never_at c.args.input c.args.words.now c.loop-word.asked _ _ _ _ c.loop-word.invariant.read c.loop-word.invariant.keeps
    c.in-Some.ensures.cases.0 c.in-Some-option_named.ensures (sym c.if-is_barred.ensures)

pub loop-word-preserved : goal.loop-word-preserved
loop-word-preserved c = record {
  read = more_at c.args.words.now c.loop-word.asked _ _ _ _ c.in-More.more _ c.in-More.left.now c.loop-word.invariant.read
      c.in-Some.ensures.cases.0 c.in-Some-option_named.ensures c.in-More.ensures refl (λ rs. refl);
  keeps = keeps_at c.args.input c.loop-word.asked c.in-More.more _ _ c.in-More.left.now c.loop-word.invariant.keeps
      (sym c.if-is_barred.ensures) c.in-More.ensures;
}

pub returns-in-Stuck : goal.returns-in-Stuck
returns-in-Stuck c =
    stuck_at c.args.input c.args.words.now c.loop-word.asked _ _ _ _ _ c.loop-word.invariant.read c.loop-word.invariant.keeps
    (sym c.if-is_barred.ensures) (omega arith) c.in-Some.ensures.cases.0 c.in-Some-option_named.ensures c.in-Stuck.ensures

pub returns-in-Barred : goal.returns-in-Barred
returns-in-Barred c =
    barred_at c.args.input c.args.words.now c.loop-word.asked _ _ _ _ c.loop-word.invariant.read c.loop-word.invariant.keeps
    c.in-Some.ensures.cases.0 c.in-Some-option_named.ensures c.in-Barred.ensures

pub returns : goal.returns
returns c =
    end_at c.args.input c.args.words.now c.loop-word.asked _ c.loop-word.invariant.read c.loop-word.invariant.keeps
    (rw c.in_default.is at c.split_first.ensures.cases)

pub slice_bounds-asked-count : goal.slice_bounds-asked-count
slice_bounds-asked-count c = grind (arith, common_steps)

use Rattle.std.proofs.Common.{refl}
use Rattle.mg_words.specs.inner.Judging.{names_in, names_left}
use Rattle.mg_words.proofs.WordsLemmas.{refuted}
use Rattle.mg_words.proofs.CodeLemmas.{not_names, names_kept}
use Rattle.mg_words.proofs.options.are_names.Goals as goal

pub returns-then-not-is_name : goal.returns-then-not-is_name
returns-then-not-is_name c =
    not_names (names_in c.args.word.now) c.loop-left.left c.in-Some.text c.first_name.result.0.now
    (names_left c.first_name.result.1) c.loop-left.invariant.0 c.in-Some.is c.first_name.ensures
    (refuted c.if-not-is_name.ensures.1)

pub loop-left-preserved : goal.loop-left-preserved
loop-left-preserved c =
    names_kept (names_in c.args.word.now) c.loop-left.left c.in-Some.text c.first_name.result.0.now
    (names_left c.first_name.result.1) c.loop-left.invariant c.in-Some.is c.first_name.ensures
    (c.if-not-is_name.ensures.0 refl)

use Rattle.std.proofs.Common.{All, take, drop, suc, sym, subst, arith, ◌∙◌, ap, ◌++◌, ◌∷◌, [], refl}
use Rattle.std.proofs.lemmas.List.{take_more, take_all}
use Rattle.mg_words.specs.Words.{Word, IsFileOf}
use Rattle.mg_words.proofs.WordsLemmas.{All-push, refuted, at_index}
use Rattle.mg_words.proofs.names.other_file.Goals as goal

pub loop-word-init : goal.loop-word-init
loop-word-init c = λ k d lt. absurd (omega arith)

pub returns-then-not-is_file : goal.returns-then-not-is_file
returns-then-not-is_file c = (
  take c.loop-word.word-index c.args.words.now,
  drop (suc c.loop-word.word-index) c.args.words.now,
  at_index c.args.words.now c.loop-word.word-index c.word-item.result c.loop-word-test.true c.word-item.is,
  c.loop-word.invariant,
  refuted c.if-not-is_file.ensures.1,
)

pub loop-word-preserved : goal.loop-word-preserved
loop-word-preserved c =
    subst (All (IsFileOf c.args.suffix.now))
    (sym (take_more c.args.words.now c.loop-word.word-index c.word-item.result c.loop-word-test.true ∙
    ap (λ (z : Word). take c.loop-word.word-index c.args.words.now ++ z ∷ []) (sym c.word-item.is)))
    (All-push (IsFileOf c.args.suffix.now) (take c.loop-word.word-index c.args.words.now) c.word-item.result c.loop-word.invariant
    (c.if-not-is_file.ensures.0 refl))

pub returns : goal.returns
returns c = subst (All (IsFileOf c.args.suffix.now)) (take_all c.loop-word.word-index c.args.words.now (omega arith)) c.loop-word.invariant

use Rattle.std.proofs.Common.{refl}
use Rattle.mg_words.specs.inner.Judging.{role_word_of}
use Rattle.mg_words.proofs.WordsLemmas.{refuted}
use Rattle.mg_words.proofs.FittingLemmas.{no_role_name, no_role_class, can_named}
use Rattle.mg_words.proofs.fits.can_be_named.Goals as goal

pub returns-then-not-is_name : goal.returns-then-not-is_name
returns-then-not-is_name c =
    no_role_name c.args.names.now c.args.word.now (role_word_of c.role_of-named.result) c.role_of-named.ensures
    (refuted c.if-not-is_name.ensures.1)

pub returns-then-not-is_name-2 : goal.returns-then-not-is_name-2
returns-then-not-is_name-2 c =
    no_role_class c.args.names.now c.args.word.now (role_word_of c.role_of-named.result) c.role_of-named.ensures
    (refuted c.if-not-is_name-2.ensures.1)

pub returns : goal.returns
returns c =
    can_named c.args.names.now c.args.word.now (role_word_of c.role_of-named.result) (λ n. n.0) c.find.result c.is_none.result
    c.role_of-named.ensures (c.if-not-is_name.ensures.0 refl) (c.if-not-is_name-2.ensures.0 refl) c.find.ensures c.is_none.ensures

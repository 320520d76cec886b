use Rattle.std.proofs.Common.{refl, sym, ◌∙◌}
use Rattle.mg_words.specs.inner.Judging.{role_word_of}
use Rattle.mg_words.proofs.WordsLemmas.{refuted}
use Rattle.mg_words.proofs.CodeLemmas.{not_alone, no_role_name, no_role_class, named_before, not_wanted, role_value}
use Rattle.mg_words.proofs.CodeLemmas.{class_given, class_free}
use Rattle.mg_words.proofs.options.with_role.Goals as goal

pub returns-then-is_some : goal.returns-then-is_some
returns-then-is_some c =
    not_alone c.args.asked c.args.value.now (role_word_of c.role_of-named.result) c.role_of-named.ensures
    (class_given c.args.asked.class (sym c.is_some.ensures ∙ c.if-is_some.true))

pub returns-then-not-is_name : goal.returns-then-not-is_name
returns-then-not-is_name c =
    no_role_name c.args.asked c.args.value.now (role_word_of c.role_of-named.result) c.role_of-named.ensures
    (refuted c.if-not-is_name.ensures.1)

pub returns-then-not-is_name-2 : goal.returns-then-not-is_name-2
returns-then-not-is_name-2 c =
    no_role_class c.args.asked c.args.value.now (role_word_of c.role_of-named.result) c.role_of-named.ensures
    (refuted c.if-not-is_name-2.ensures.1)

pub returns-then-has_role : goal.returns-then-has_role
returns-then-has_role c =
    named_before c.args.asked c.args.value.now (role_word_of c.role_of-named.result) c.role_of-named.ensures (sym c.if-has_role.ensures)

pub returns-then-not-is_wanted : goal.returns-then-not-is_wanted
returns-then-not-is_wanted c =
    not_wanted c.args.asked c.args.value.now (role_word_of c.role_of-named.result) c.role_of-named.ensures
    (sym c.if-not-is_wanted.ensures)

pub returns : goal.returns
returns c =
    role_value c.args.asked c.args.value.now (role_word_of c.role_of-named.result) c.role_of-named.ensures
    (c.if-not-is_name.ensures.0 refl) (c.if-not-is_name-2.ensures.0 refl)
    (class_free c.args.asked.class (sym c.is_some.ensures ∙ c.if-is_some.false)) (sym c.if-has_role.ensures)
    (sym c.if-not-is_wanted.ensures)

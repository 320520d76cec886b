use Rattle.std.proofs.Common.{refl, arith}
use Rattle.mg_words.specs.Words.{role_names}
use Rattle.mg_words.specs.inner.Judging.{roles_in, role_word_of}
use Rattle.mg_words.proofs.LawLemmas.{names_pushed}
use Rattle.mg_words.proofs.asked.names_of_roles.Goals as goal

pub loop-named-preserved : goal.loop-named-preserved
loop-named-preserved c =
    names_pushed c.loop-named.names c.add.new.self (role_names (roles_in c.args.words.now)) (roles_in c.loop-named.left.now)
    (roles_in c.in-Some.behind.now) (role_word_of c.in-Some.named) c.in-Some.named.role.now c.requires c.loop-named.invariant.0
    c.in-Some.ensures.0 refl c.in_ok-add.ensures.ok (omega arith)

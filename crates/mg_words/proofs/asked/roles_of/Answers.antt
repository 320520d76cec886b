use Rattle.mg_words.specs.inner.Judging.{roles_in, role_word_of}
use Rattle.mg_words.proofs.LawLemmas.{roles_pushed}
use Rattle.mg_words.proofs.asked.roles_of.Goals as goal

pub loop-named-preserved : goal.loop-named-preserved
loop-named-preserved c =
    roles_pushed c.loop-named.mains.items c.push.new.self.items _ (roles_in c.loop-named.left.now) (roles_in c.in-Some.behind.now)
    (roles_in c.args.words.now) (role_word_of c.in-Some.named) c.loop-named.invariant c.in-Some.ensures.0 c.in_ok-push.ensures.ok
    (λ i. record { role = c.in_ok-of.ensures i; class = c.in_ok-of-2.ensures i })

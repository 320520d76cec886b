use Rattle.std.proofs.Common.{sym, ◌∙◌, arith}
use Rattle.std.proofs.lemmas.List.{at_drop_all}
use Rattle.mg_sets.specs.Sets.{members_from}
use Rattle.mg_sets.proofs.NextLaws.{first_left, none_left, shorter}
use Rattle.mg_sets.proofs.members.MembersIterator.next.Goals as goal

pub returns-in-Some-clause-steps : goal.returns-in-Some-clause-steps
returns-in-Some-clause-steps c =
    sym c.self.view_is ∙ first_left c.self.inside.set.now c.self.inside.next c.in-Some.place c.in-Some.ensures

pub returns-in-Some-clause-goes : goal.returns-in-Some-clause-goes
returns-in-Some-clause-goes c = record {
  on = λ finite. (
    tt,
    tt,
    shorter _ _ c.in-Some.place
        (sym c.self.view_is ∙ first_left c.self.inside.set.now c.self.inside.next c.in-Some.place c.in-Some.ensures),
  );
  keeps = tt;
  rests = λ finite. tt;
}

pub returns-in-None-clause-steps : goal.returns-in-None-clause-steps
returns-in-None-clause-steps c = (
  sym c.self.view_is ∙ none_left c.self.inside.set.now c.self.inside.next c.self.invariant c.in-None.ensures,
  at_drop_all (members_from c.width-width.result) c.self.inside.set.now c.width-width.result (omega (arith, c.width-width.ensures)),
)

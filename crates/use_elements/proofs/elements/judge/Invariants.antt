use Rattle.std.proofs.Common.{◌≡◌, ◌++◌, option_map}
use Rattle.use_rules.specs.State.{judged}
use Rattle.use_elements.specs.Mappings.{typestate_or_end, rule_of, title_in}
use Rattle.use_elements.proofs.Rests.{blamed_all}
use Rattle.use_elements.proofs.elements.judge.Given as goal

abbrev pub invariant-loop-element : goal.invariant-loop-element
invariant-loop-element l =
    let rule = rule_of l.rule (typestate_or_end (option_map (λ t. t.now) l.typestate)) in
    l.failed.items ++ blamed_all rule l.subject.place l.subject.variable (title_in l.names l.subject.title) l.subject.class l.element-iterator
    ≡ l.initial.failed.items ++ judged rule l.subject.place l.subject.variable (title_in l.names l.subject.title) l.subject.class l.set

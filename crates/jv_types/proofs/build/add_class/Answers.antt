use Rattle.std.proofs.Common.{length, ◌+◌, sym, ap, ◌∙◌}
use Rattle.jv_types.specs.inner.Numbers.{number_named}
use Rattle.jv_types.proofs.Building.{member_of_class, follow_more, class_more}
use Rattle.jv_types.proofs.Numbering.{numbered_more}
use Rattle.jv_types.proofs.build.add_class.Goals as goal

pub class_entry-requires-clause-new : goal.class_entry-requires-clause-new
class_entry-requires-clause-new c = member_of_class c.args.decl.now c.in-Class.class c.in-Class.is c.requires.member

pub returns-clause-classes : goal.returns-clause-classes
returns-clause-classes c =
    class_more _ _ c.in_ok-entry.entry c.in-Class.class c.args.decl.now c.in-Class.is c.in_ok-entry.ensures.class c.in_ok-push.ensures.items

pub returns-clause-follow : goal.returns-clause-follow
returns-clause-follow c =
    follow_more c.args.typestates.now _ _ c.in_ok-entry.entry c.in-Class.class _ c.in_ok-entry.ensures.class c.in_ok-entry.ensures.typestate
    c.typestate_for-typestate.ensures.it c.in_ok-push.ensures.items

pub returns-clause-numbers : goal.returns-clause-numbers
returns-clause-numbers c = λ h.
    let class = c.in_ok-entry.ensures.class in
    numbered_more c.args.names.now _ _ _ _ c.in_ok-entry.entry h c.in_ok-push.ensures.items
    (c.in_ok-entry.ensures.number ∙ c.in_ok-number.ensures ∙ ap (λ k. 0 + k) (c.len.ensures ∙ c.args.entries.now.ok.0))
    c.in_ok-entry.ensures.first_method
    (c.in_ok-entry.ensures.named ∙ c.typestate_for-typestate.ensures.number ∙ ap (λ k. number_named c.args.names.now k.typestate)
    (sym class))
    (c.in_ok-behind.ensures ∙ ap (λ k. c.args.methods.now + k) (c.len-2.ensures.value ∙ ap (λ k. length k.methods.items) (sym class)))

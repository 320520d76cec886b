use Rattle.std.proofs.Common.{◌≡◌, ◌++◌, ◌∷◌, ◌<◌, ◌≤◌, [], ℕ, List, length, map, ap, ◌∙◌, arith, rules}
use Rattle.std.proofs.lemmas.List.{map-append}
use Rattle.use_flow.specs.declared.offers.Offer.{Offer}
use Rattle.use_flow.proofs.Offering.{known_list, new_list}
use Rattle.use_flow.proofs.offers.Offers.note.Goals as goal

abbrev states : List Offer → List ℕ
states = map (λ (x : Offer). x.state)

pub returns-then-number-len-clause-one : goal.returns-then-number-len-clause-one
returns-then-number-len-clause-one c = λ m.
    known_list (λ l. states l.items) c.args.self.now.names c.add.new.self c.args.self.now.lists.items c.args.name.now c.args.offer.state
    c.in_ok-number.field-0.0 c.requires c.in_ok-number.ensures.ok c.in_ok-number.ensures.name m
    c.index_mut-list.result.now c.push.new.self (search rules) c.index_mut-list.ensures.value
    (ap states c.in_ok-push.ensures.items ∙ map-append (λ (x : Offer). x.state) c.index_mut-list.result.now.items (c.args.offer ∷ []))

pub returns-clause-one : goal.returns-clause-one
returns-clause-one c = λ m.
    new_list (λ l. states l.items) c.args.self.now.names c.add.new.self c.args.self.now.lists.items c.args.name.now c.args.offer.state
    c.in_ok-number.field-0.0 c.requires c.in_ok-number.ensures.ok c.in_ok-number.ensures.name m
    c.push-3.new.self.items c.push-2.new.self (search rules)
    (ap states (c.in_ok-push-2.ensures.items ∙ ap (λ (l : List Offer). l ++ c.args.offer ∷ []) c.new-list.ensures.items))
    c.in_ok-push-3.ensures.items

use Rattle.std.proofs.Common.{◌≡◌, ap, sym, ◌∙◌, arith, rules, true, false}
use Rattle.std.specs.Option.{is_some}
use Rattle.std.specs.HashMap.{get_by_text}
use Rattle.jv_core.specs.Tree.{Class}
use Rattle.jv_core.specs.View.{class_of}
use Rattle.jv_core.specs.Lookup.{text_at}
use Rattle.jv_core.specs.declared.program.CoreClass.{CoreClass}
use Rattle.fit_judge.proofs.Named.{number_kept, number_added, numbers_all}
use Rattle.fit_judge.proofs.names.class_numbers.Goals as goal

pub loop-number-preserved-then-contains_key : goal.loop-number-preserved-then-contains_key
loop-number-preserved-then-contains_key c =
    let has : is_some (get_by_text c.loop-number.numbers (text_at c.args.core.now c.index-classes-number.result.name.0)) ≡ true =
    ap (λ q. is_some (get_by_text c.loop-number.numbers q)) (sym c.name_text-name.ensures) ∙ sym c.if-contains_key.ensures in
    number_kept (λ (class : CoreClass). text_at c.args.core.now class.name.0) c.classes-classes.result.now c.loop-number.number
    c.index-classes-number.result c.loop-number-test.true c.index-classes-number.is c.loop-number.numbers c.loop-number.invariant has

pub loop-number-preserved : goal.loop-number-preserved
loop-number-preserved c =
    let has : is_some (get_by_text c.loop-number.numbers (text_at c.args.core.now c.index-classes-number.result.name.0)) ≡ false =
    ap (λ q. is_some (get_by_text c.loop-number.numbers q)) (sym c.name_text-name.ensures) ∙ sym c.if-contains_key.ensures in
    number_added (λ (class : CoreClass). text_at c.args.core.now class.name.0) c.classes-classes.result.now c.loop-number.number
    c.index-classes-number.result c.loop-number-test.true c.index-classes-number.is c.loop-number.numbers c.loop-number.invariant has c.insert.new.self
    c.in_ok-key.key c.in-Ok.number (c.in_ok-key.ensures.ok ∙ c.name_text-name.ensures) (search rules) c.in_ok-insert.ensures.updates

pub returns : goal.returns
returns c = numbers_all class_of (λ (class : Class). text_at c.args.core.now class.name) c.classes-classes.result.now
    c.args.core.now.classes c.loop-number.number c.loop-number.numbers (omega arith) c.classes-classes.ensures c.loop-number.invariant

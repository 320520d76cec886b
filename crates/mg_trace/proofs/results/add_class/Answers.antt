use Rattle.std.proofs.Common.{ap, sym, ◌∙◌}
use Rattle.std.specs.Option.{is_some}
use Rattle.std.specs.HashMap.{get_by_text}
use Rattle.jv_core.specs.View.{class_of}
use Rattle.mg_trace.proofs.Tabling.{kept_class, added_class}
use Rattle.mg_trace.proofs.results.add_class.Goals as goal

pub returns-then-contains_key : goal.returns-then-contains_key
returns-then-contains_key c =
    kept_class c.args.core.now (class_of c.args.class.now) c.args.by_class.now
    (ap (λ q. is_some (get_by_text c.args.by_class.now q)) (sym c.name_text-name.ensures) ∙ sym c.if-contains_key.ensures)

pub returns : goal.returns
returns c =
    added_class c.args.core.now (class_of c.args.class.now) c.args.by_class.now c.insert.new.self c.in_ok-key.key c.in_ok-own.own
    (c.in_ok-key.ensures.ok ∙ c.name_text-name.ensures)
    (ap (λ q. is_some (get_by_text c.args.by_class.now q)) (sym c.name_text-name.ensures) ∙ sym c.if-contains_key.ensures)
    c.in_ok-own.ensures c.in_ok-insert.ensures.updates

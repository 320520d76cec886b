use Rattle.std.proofs.Common.{◌≡◌, ◌<◌, ℕ, List, Some, length, map, get_or, refl, ap, sym, ◌∙◌}
use Rattle.std.proofs.lemmas.Option.{slice_get-map, slice_get_read, slice_get_past}
use Rattle.std.specs.Prelude.{slice_get, option_map}
use Rattle.std.specs.Option.{is_some}
use Rattle.std.specs.HashMap.{get_by_text}
use Rattle.jv_core.specs.declared.program.CoreMethod.{CoreMethod}
use Rattle.jv_core.specs.View.{method_of}
use Rattle.mg_trace.proofs.Tabling.{no_method, kept_method, added_method}
use Rattle.mg_trace.proofs.results.add_method.Goals as goal

method_at : (ms : List CoreMethod) (n : ℕ) (m : CoreMethod) → n < length ms → m ≡ get_or ms n m →
    slice_get (map method_of ms) n ≡ Some (method_of m)
method_at ms n m within is = slice_get-map method_of ms n ∙ ap (option_map method_of) (slice_get_read ms (length ms) n m refl within is)

pub returns-in_default : goal.returns-in_default
returns-in_default c =
    no_method c.args.core.now c.args.own.now c.args.number
    (ap (λ ms. slice_get ms c.args.number) (sym c.methods.ensures.all) ∙ slice_get-map method_of c.methods.result.now c.args.number
    ∙ ap (option_map method_of) (slice_get_past c.methods.result.now c.args.number c.in_default.ensures.lookup.3))

pub returns-then-contains_key : goal.returns-then-contains_key
returns-then-contains_key c =
    kept_method c.args.core.now c.args.number (method_of c.in-Some.method.now)
    (ap (λ ms. slice_get ms c.args.number) (sym c.methods.ensures.all)
    ∙ method_at c.methods.result.now c.args.number c.in-Some.method.now c.in-Some.ensures.lookup.3.0 c.in-Some.ensures.lookup.1)
    c.args.own.now (ap (λ q. is_some (get_by_text c.args.own.now q)) (sym c.name_text-name.ensures) ∙ sym c.if-contains_key.ensures)

pub returns : goal.returns
returns c =
    added_method c.args.core.now c.args.number (method_of c.in-Some.method.now)
    (ap (λ ms. slice_get ms c.args.number) (sym c.methods.ensures.all)
    ∙ method_at c.methods.result.now c.args.number c.in-Some.method.now c.in-Some.ensures.lookup.3.0 c.in-Some.ensures.lookup.1)
    c.args.own.now c.insert.new.self c.in_ok-key.key
    (c.in_ok-key.ensures.ok ∙ c.name_text-name.ensures)
    (ap (λ q. is_some (get_by_text c.args.own.now q)) (sym c.name_text-name.ensures) ∙ sym c.if-contains_key.ensures)
    c.in_ok-insert.ensures.updates

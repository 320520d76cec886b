use Rattle.jv_types.proofs.Finding.{found}
use Rattle.std.proofs.Common.{refl, sym, ap, ◌∙◌, position, arith}
use Rattle.std.specs.Str.{bytes_eq}
use Rattle.jv_tree.specs.View.{field_of}
use Rattle.jv_types.proofs.Finding.{found_at, found_none}
use Rattle.jv_types.proofs.entry.ClassEntry.field.Goals as goal

pub returns-in-Some : goal.returns-in-Some
returns-in-Some c =
    let named = ap (position (bytes_eq c.args.name.now)) (sym c.args.self.now.named_fields) in
    found_at c.args.name.now (λ x. x.name) field_of (λ x. x.name) (λ x. refl) _ c.as_slice.result.now c.as_slice.ensures.items
    c.in-Some.number.0 c.index-as_slice-number.result (named ∙ sym c.in-Some.ensures) c.index-as_slice-number.is

pub returns-in-None : goal.returns-in-None
returns-in-None c =
    let named = ap (position (bytes_eq c.args.name.now)) (sym c.args.self.now.named_fields) in
    found_none c.args.name.now (λ x. x.name) field_of (λ x. x.name) (λ x. refl) _ (named ∙ sym c.in-None.ensures)

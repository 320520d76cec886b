use Rattle.std.proofs.Common.{◌≡◌, ℕ, ◌+◌, List, ◌++◌, reverse, refl, sym, ap, ◌∙◌, Bool, false, arith}
use Rattle.cls_layout.specs.declared.format.Field.{Field}
use Rattle.cls_layout.specs.Parts.{brings, ends_row}
use Rattle.cls_layout.specs.Row.{is_code, is_cut}
use Rattle.cls_layout.specs.Laying.{field}
use Rattle.cls_layout.proofs.Laid.{cut_stops, same_stops, same_due, end_within}
use Rattle.cls_layout.proofs.layout.lay.Goals as goal

pub returns-then-ends_in : goal.returns-then-ends_in
returns-then-ends_in c =
    let f : Field = field c.args.layout.now.at c.args.part in
    record {
      row = c.in_ok-push.ensures.ok;
      ends = cut_stops c.args.bytes.now c.args.layout.now.places.items f (sym c.ends_in.ensures ∙ c.if-ends_in.true);
      places = refl;
    }

pub returns-then-is_last : goal.returns-then-is_last
returns-then-is_last c =
    let f : Field = field c.args.layout.now.at c.args.part in
    let n = c.number_in-number.result in
    let read = c.number_in-number.ensures in
    let named : c.is_code_name-named.result ≡ is_code c.args.bytes.now c.args.layout.now.places.items n = c.is_code_name-named.ensures ∙
    ap (λ (p : List ℕ). is_code c.args.bytes.now p n) c.as_slice.ensures.items in
    record {
      row = c.in_ok-push.ensures.ok;
      ends = same_stops c.args.bytes.now c.args.layout.now.places.items f n read.one read.two read.four _
          (sym c.ends_in.ensures ∙ c.if-ends_in.false)
          (ap (λ (b : Bool). ends_row c.args.part n b) (sym named) ∙ (sym c.is_last.ensures ∙ c.if-is_last.true));
      places = refl;
    }

pub add_brought-requires : goal.add_brought-requires
add_brought-requires c =
    let f : Field = field c.args.layout.now.at c.args.part in
    let k = end_within c.args.bytes.now f (sym c.ends_in.ensures ∙ c.if-ends_in.false) c.requires.within in
    let s = c.requires.short in
    omega arith

pub overflow_add-layout : goal.overflow_add-layout
overflow_add-layout c =
    let f : Field = field c.args.layout.now.at c.args.part in
    let k = end_within c.args.bytes.now f (sym c.ends_in.ensures ∙ c.if-ends_in.false) c.requires.within in
    let s = c.requires.short in
    let e = c.size_of.ensures in
    omega arith

pub returns : goal.returns
returns c =
    let f : Field = field c.args.layout.now.at c.args.part in
    let n = c.number_in-number.result in
    let read = c.number_in-number.ensures in
    let named : c.is_code_name-named.result ≡ is_code c.args.bytes.now c.args.layout.now.places.items n = c.is_code_name-named.ensures ∙
    ap (λ (p : List ℕ). is_code c.args.bytes.now p n) c.as_slice.ensures.items in
    let whole : is_cut c.args.bytes.now f ≡ false = sym c.ends_in.ensures ∙ c.if-ends_in.false in
    let k = end_within c.args.bytes.now f whole c.requires.within in
    let e = c.size_of.ensures in
    record {
      row = c.in_ok-push.ensures.ok;
      goes_on = same_stops c.args.bytes.now c.args.layout.now.places.items f n read.one read.two read.four _ whole
          (ap (λ (b : Bool). ends_row c.args.part n b) (sym named) ∙ (sym c.is_last.ensures ∙ c.if-is_last.false));
      places = c.in_ok-enter.ensures;
      at = ap (λ k. c.args.layout.now.at + k) e;
      due = c.in_ok-add_brought.ensures
          ∙ ap (λ xs. xs ++ reverse c.args.layout.now.due.items) (ap (λ (b : Bool). brings c.args.part c.args.layout.now.at n b) named ∙
          same_due c.args.bytes.now c.args.layout.now.places.items f n read.one read.two read.four);
      within = omega arith;
    }

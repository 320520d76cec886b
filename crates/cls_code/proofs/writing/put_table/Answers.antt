use Rattle.std.proofs.Common.{◌≡◌, ◌++◌, replicate, length, pos, ◌+ℤ◌, ◌-ℤ◌, ap, ◌∙◌, rules}
use Rattle.std.proofs.lemmas.Int.{to_z-of_z}
use Rattle.std.specs.List.{flat_map}
use Rattle.std.specs.Int.RustNames.{FitsSigned}
use mir.Syntax.{w32}
use Rattle.cls_tree.specs.Layout.{pad, s4, highest}
use Rattle.cls_code.proofs.Layouts.{five}
use Rattle.cls_code.proofs.writing.put_table.Goals as goal

pub returns : goal.returns
returns c =
    let f : FitsSigned w32 c.highest_of.result = search rules in
    five c.args.out.now c.put_pad.new.out c.put_s4.new.out c.put_s4-2.new.out c.put_s4-3.new.out c.put_words.new.out
    (replicate (pad c.args.place) 0) (s4 c.args.default) (s4 c.args.low) (s4 (highest c.args.low c.args.offsets.now))
    (flat_map s4 c.args.offsets.now)
    c.in_ok-put_pad.ensures
    (c.in_ok-put_s4.ensures ∙ ap (λ z. c.put_pad.new.out ++ s4 z) (to_z-of_z w32 c.args.default c.ranges.default))
    (c.in_ok-put_s4-2.ensures ∙ ap (λ z. c.put_s4.new.out ++ s4 z) (to_z-of_z w32 c.args.low c.ranges.low))
    (c.in_ok-put_s4-3.ensures ∙ ap (λ z. c.put_s4-2.new.out ++ s4 z) (to_z-of_z w32 c.highest_of.result f ∙ c.highest_of.ensures ∙
    ap (λ low. (low +ℤ pos (length c.args.offsets.now)) -ℤ pos 1) (to_z-of_z w32 c.args.low c.ranges.low)))
    c.in_ok-put_words.ensures

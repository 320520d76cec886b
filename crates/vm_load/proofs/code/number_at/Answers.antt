use Rattle.std.proofs.Common.{◌≡◌, pos, get_or, sym, ap, arith}
use mir.Syntax.{w64}
use mir.Val.{to_z, of_z}
use lib.IntN.{nat_abs}
use Rattle.std.proofs.lemmas.Int.{ints, to_z-of_z}
use Rattle.vm_model.specs.Links.{started}
use Rattle.vm_load.proofs.Maps.{if_ok}
use Rattle.vm_load.proofs.Rising.{apart, no_start_at}
use Rattle.vm_load.proofs.code.number_at.Goals as goal

pub returns-then-place-lt0 : goal.returns-then-place-lt0
returns-then-place-lt0 c =
    let same = to_z-of_z w64 c.args.place c.ranges.place in
    if_ok _ _ (sym (no_start_at c.args.starts.now c.args.place (λ k within. apart (get_or c.args.starts.now k 0) c.args.place
    (λ e. omega (arith, ints, e, same)))))
    c.listed.result c.listed.ensures

pub returns-then-place-gt4294967295 : goal.returns-then-place-gt4294967295
returns-then-place-gt4294967295 c =
    let same = to_z-of_z w64 c.args.place c.ranges.place in
    if_ok _ _ (sym (no_start_at c.args.starts.now c.args.place (λ k within.
    let fits = (c.type_inv.starts k).fits in
    apart (get_or c.args.starts.now k 0) c.args.place (λ e. omega (arith, ints, e, same, fits)))))
    c.listed-then-place-gt4294967295.result c.listed-then-place-gt4294967295.ensures

pub returns : goal.returns
returns c =
    let same = to_z-of_z w64 c.args.place c.ranges.place in
    let value : pos (nat_abs (to_z w64 (of_z w64 c.args.place))) ≡ c.args.place = omega (arith, ints, same) in
    if_ok _ _ (ap (started c.args.starts.now) value) c.number_of.result c.number_of.ensures

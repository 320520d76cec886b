use Rattle.std.proofs.Common.{◌≤◌, length, sym, ap, ◌∙◌, arith}
use Rattle.cls_tree.specs.View.{instrs_of}
use Rattle.cls_tree.specs.Jumps.{first_outside}
use Rattle.cls_code.specs.Code.{long}
use Rattle.cls_code.proofs.Layouts.{all_inside, one_outside}
use Rattle.cls_code.proofs.decoded.Goals as goal

pub returns-then-bytes-gt-LONGEST : goal.returns-then-bytes-gt-LONGEST
returns-then-bytes-gt-LONGEST c = long (omega arith)

pub returns-in-None : goal.returns-in-None
returns-in-None c = all_inside c.args.bytes.now c.in_ok-placed.placed.instrs.items c.in_ok-placed.placed.starts.items
    c.if-bytes-gt-LONGEST.false c.in_ok-placed.ensures
    (sym c.in-None.is ∙ c.in_ok-first_outside.ensures ∙ ap (λ ks. first_outside (instrs_of ks)) c.as_slice.ensures.items)

pub returns-in-Some : goal.returns-in-Some
returns-in-Some c = one_outside c.args.bytes.now c.in_ok-placed.placed.instrs.items c.in_ok-placed.placed.starts.items c.in-Some.offset
    c.if-bytes-gt-LONGEST.false c.in_ok-placed.ensures
    (sym c.in-Some.is ∙ c.in_ok-first_outside.ensures ∙ ap (λ ks. first_outside (instrs_of ks)) c.as_slice.ensures.items)

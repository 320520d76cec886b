use Rattle.std.proofs.Common.{◌≡◌, ap, ◌∙◌, rules}
use Rattle.jv_core.specs.View.{class_of}
use Rattle.gen_expressions.specs.View.{instrs_of}
use Rattle.gen_class.proofs.Programs.{constructor_made}
use Rattle.gen_class.proofs.making.constructor_making.Goals as goal

pub returns : goal.returns
returns c =
    let p = c.args.core.now in
    let number = c.in-Ok.number in
    let class = class_of c.args.class.now in
    let same : number ≡ c.args.number = search rules in
    let code = c.in_ok-instrs.ensures p in
    constructor_made p c.args.number number class _ _ _ _ same c.in_ok-descriptor.ensures.ok
    (c.depth_of.ensures p number class (ap (instrs_of p) c.as_slice.ensures.items ∙ code)) code c.name_text.ensures

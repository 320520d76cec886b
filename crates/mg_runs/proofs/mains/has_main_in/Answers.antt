use Rattle.std.proofs.Common.{◌∙◌, sym, ap}
use Rattle.std.specs.List.{list_any}
use Rattle.jv_core.specs.View.{method_of}
use Rattle.mg_runs.proofs.Naming.{any-map, is_main_of, has_main_is}
use Rattle.mg_runs.proofs.mains.has_main_in.Goals as goal

pub returns : goal.returns
returns c =
    let p = c.args.core.now in
    has_main_is p c.args.class p.methods c.some_main.result
    (c.some_main.ensures ∙ sym (any-map method_of (is_main_of c.args.class) c.methods.result.now) ∙ ap (list_any (is_main_of c.args.class))
    c.methods.ensures.all)

use Rattle.std.proofs.Common.{List, map, ap, ◌∙◌}
use Rattle.mg_text.specs.Call.{Name}
use Rattle.scr_tree.specs.CallNames.{message_call}
use Rattle.scr_tree.specs.Meaning.{message_of}
use Rattle.ts_tree.specs.declared.parts.TypeName.TheVariants as types
use Rattle.jv_tree.specs.declared.tree.Param.{Param}
use Rattle.jv_tree.specs.View.{stmt_of}
use Rattle.stm_gen.specs.Laid.{carried_params}
use Rattle.stm_api.specs.Api.{method_with, value_param}
use Rattle.stm_api.proofs.methods.send_method.Goals as goal

pub returns : goal.returns
returns c =
    let p = c.args.place in
    let m = c.args.message.now in
    c.method.ensures
    ∙ ap (λ (n : Name). method_with p types.Void n c.in_ok-params.params.items (map stmt_of c.in_ok-body.body.items)) c.requires
    ∙ ap (λ (ps : List Param). method_with p types.Void (message_call (message_of m)) ps (map stmt_of c.in_ok-body.body.items))
    c.in_ok-params.ensures
    ∙ ap (method_with p types.Void (message_call (message_of m)) (map (value_param p) (carried_params m.payload))) c.in_ok-body.ensures

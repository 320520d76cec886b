use Rattle.std.proofs.Common.{List, [], map, ap, ◌∙◌}
use Rattle.mg_text.specs.Call.{Name}
use Rattle.scr_tree.specs.CallNames.{message_call}
use Rattle.scr_tree.specs.Meaning.{message_of}
use Rattle.ts_tree.specs.declared.parts.TypeName.{TypeName}
use Rattle.jv_tree.specs.declared.tree.Param.{Param}
use Rattle.jv_tree.specs.View.{stmt_of}
use Rattle.stm_gen.specs.Laid.{carried_type}
use Rattle.stm_api.specs.Api.{method_with}
use Rattle.stm_api.proofs.methods.take_method.Goals as goal

pub returns : goal.returns
returns c =
    let p = c.args.place in
    let m = c.args.message.now in
    let name = message_call (message_of m) in
    c.method.ensures
    ∙ ap (λ (t : TypeName). method_with p t c.args.name c.new.result.items (map stmt_of c.in_ok-body.body.items))
    c.carried-result.ensures
    ∙ ap (λ (n : Name). method_with p (carried_type m.payload) n c.new.result.items (map stmt_of c.in_ok-body.body.items))
    c.requires
    ∙ ap (λ (ps : List Param). method_with p (carried_type m.payload) name ps (map stmt_of c.in_ok-body.body.items)) c.new.ensures
    ∙ ap (method_with p (carried_type m.payload) name []) c.in_ok-body.ensures

use Rattle.std.proofs.Common.{Some, sym, ap, ◌∙◌, option_map}
use Rattle.jv_tree.specs.BuiltIn.{text_method}
use Rattle.jv_rules.specs.Typing.{plain_signature}
use Rattle.jv_rules.proofs.BuiltInTypes.{text_signed}
use Rattle.jv_types.proofs.signature.text_method.Goals as goal

pub returns-in-Some : goal.returns-in-Some
returns-in-Some c program =
    ap Some (c.plain_signature.ensures program ∙ ap plain_signature c.method.ensures)
    ∙ ap (option_map (λ k. plain_signature (text_method k))) (sym c.in-Some.is ∙ c.named.ensures)
    ∙ sym (text_signed c.args.name.now)

pub returns-in-None : goal.returns-in-None
returns-in-None c program =
    ap (option_map (λ k. plain_signature (text_method k))) (sym c.in-None.is ∙ c.named.ensures) ∙ sym (text_signed c.args.name.now)

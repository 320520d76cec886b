use Rattle.std.proofs.Common.{rules, ◌++◌, ◌∙◌, string_bytes, ap, sym}
use Rattle.lsp_sentences.proofs.Filling.{plain_char}
use Rattle.lsp_sentences.proofs.shown.put_character.Goals as goal

pub returns-in_ok-push-in_default : goal.returns-in_ok-push-in_default
returns-in_ok-push-in_default c =
    c.in_ok-push-in_default.ensures.bytes
    ∙ ap (λ x. string_bytes c.args.out.now ++ x)
    (sym (plain_char c.args.word.now c.args.state.now c.args.character (λ e. search rules) (λ e. search rules)))

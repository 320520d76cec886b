use Rattle.std.proofs.Common.{arith, rules, ◌++◌, ◌∙◌, string_bytes, ap, sym}
use Rattle.std.proofs.lemmas.Grind.{common_steps}
use Rattle.jv_print.proofs.Texts.{plain_char}
use Rattle.jv_print.proofs.words.put_character.Goals as goal

pub returns-in_ok-push-in_default : goal.returns-in_ok-push-in_default
returns-in_ok-push-in_default c =
    c.in_ok-push-in_default.ensures.bytes
    ∙ ap (λ x. string_bytes c.args.out.now ++ x)
    (sym (plain_char c.args.c (λ e. search rules) (λ e. search rules) (λ e. search rules) (λ e. search rules) (λ e. search rules)
    (λ e. search rules) (λ e. search rules)))

pub returns-in_ok-push_str-in-10 : goal.returns-in_ok-push_str-in-10
returns-in_ok-push_str-in-10 c = grind (arith, common_steps)

pub returns-in_ok-push_str-in-12 : goal.returns-in_ok-push_str-in-12
returns-in_ok-push_str-in-12 c = grind (arith, common_steps)

pub returns-in_ok-push_str-in-13 : goal.returns-in_ok-push_str-in-13
returns-in_ok-push_str-in-13 c = grind (arith, common_steps)

pub returns-in_ok-push_str-in-34 : goal.returns-in_ok-push_str-in-34
returns-in_ok-push_str-in-34 c = grind (arith, common_steps)

pub returns-in_ok-push_str-in-8 : goal.returns-in_ok-push_str-in-8
returns-in_ok-push_str-in-8 c = grind (arith, common_steps)

pub returns-in_ok-push_str-in-9 : goal.returns-in_ok-push_str-in-9
returns-in_ok-push_str-in-9 c = grind (arith, common_steps)

pub returns-in_ok-push_str-in-92 : goal.returns-in_ok-push_str-in-92
returns-in_ok-push_str-in-92 c = grind (arith, common_steps)

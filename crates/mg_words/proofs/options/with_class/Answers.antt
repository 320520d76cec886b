use Rattle.std.proofs.Common.{Some, refl, subst}
use Rattle.scr_tree.specs.Words.{IsName}
use Rattle.mg_words.proofs.CodeLemmas.{class_value}
use Rattle.mg_words.proofs.options.with_class.Goals as goal

pub returns : goal.returns
returns c =
    class_value c.args.asked (record c.args.asked { class = Some c.args.value }) c.args.value.now
    (subst IsName c.as_str.ensures (c.if-not-is_name.ensures.0 refl)) c.requires (λ rs. refl)

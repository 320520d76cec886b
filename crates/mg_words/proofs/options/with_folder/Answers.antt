use Rattle.std.proofs.Common.{Some, refl}
use Rattle.mg_words.proofs.CodeLemmas.{folder_value}
use Rattle.mg_words.proofs.options.with_folder.Goals as goal

pub returns : goal.returns
returns c =
    folder_value c.args.asked (record c.args.asked { folder = Some c.args.value }) c.args.value.now (c.if-not-is_file_name.ensures.0 refl)
    c.requires (λ rs. refl)

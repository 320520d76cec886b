use Rattle.std.proofs.Common.{◌∙◌}
use Rattle.mg_words.proofs.WordsLemmas.{file_is}
use Rattle.mg_words.proofs.names.is_file.Goals as goal

pub returns-then-first-ne45 : goal.returns-then-first-ne45
returns-then-first-ne45 c =
    file_is c.ends_with.result c.args.word.now c.args.suffix.now c.as_bytes-bytes.result.now (c.as_bytes-bytes.ensures.value ∙
    c.as_str.ensures) c.in-len1-up.len_at_least c.if-first-ne45.true c.ends_with.ensures.value

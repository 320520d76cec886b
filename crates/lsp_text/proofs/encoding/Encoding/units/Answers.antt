use Rattle.std.proofs.Common.{arith}
use Rattle.std.proofs.lemmas.Str.{length-encode, len_utf8_bounds}
use Rattle.std.proofs.lemmas.Bool.Decides.{nat_tests}
use Rattle.lsp_text.proofs.encoding.Encoding.units.Goals as goal

pub returns-in-Utf16-clause-bound : goal.returns-in-Utf16-clause-bound
returns-in-Utf16-clause-bound c =
    let l = length-encode c.args.character in
    let b = len_utf8_bounds c.args.character in
    grind (arith, nat_tests)

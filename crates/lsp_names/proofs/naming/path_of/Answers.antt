use Rattle.std.proofs.Common.{rules}
use Rattle.lsp_names.proofs.naming.path_of.Goals as goal

pub returns-in-Err-Utf8 : goal.returns-in-Err-Utf8
returns-in-Err-Utf8 c = (c.in-Some-escaped_path.path.now, (search rules, search rules), λ u. search rules)

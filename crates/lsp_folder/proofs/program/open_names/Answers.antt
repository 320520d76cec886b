use Rattle.std.proofs.Common.{rules, ◌≡◌, String, List, map, ap, ◌∙◌}
use Rattle.std.specs.Prelude.{string_bytes}
use Rattle.std.specs.declared.alloc.Global.{Global}
use Rattle.std.specs.Map.Iter.{deref_pair}
use Rattle.std.proofs.lemmas.Map.Iter.{iter_end}
use Rattle.lsp_text.specs.declared.documents.Document.{Document}
use Rattle.lsp_text.specs.Documents.{entries}
use Rattle.lsp_folder.specs.Names.{plain}
use Rattle.lsp_folder.proofs.program.open_names.Goals as goal

pub returns : goal.returns
returns c =
    let all : map deref_pair c.loop-name.yielded ≡ entries c.args.documents.now = search (rules, iter_end) in
    c.loop-name.invariant ∙ ap (λ (es : List (String Global × Document)). map (λ e. plain (string_bytes e.0)) es) all

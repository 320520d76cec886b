-- What a file's reader says of reading its tokens.
use Rattle.std.specs.Prelude.{◌≡◌, List, Some, None, Result, Ok, Err}
use Rattle.mg_read.specs.Culprit.{culprit}
use Rattle.mg_read.specs.First.{Judged}
use Rattle.jv_tree.specs.declared.token.Token.{Token}
use Rattle.jv_tree.specs.declared.tree.File.{File as KeptFile}
use Rattle.jv_tree.specs.View.{file_of}
use Rattle.jv_grammar.specs.Files.{file_at}
use Rattle.jv_parse.specs.Unsupported.{IsUnsupported}
use Rattle.jv_parse.specs.declared.fault.ParseFault.{ParseFault}
use Rattle.jv_parse.specs.declared.fault.ParseFault.TheVariants as faults

abbrev pub Parsed : Result KeptFile ParseFault → List Token → Type 0
Parsed (Ok file) ts = Judged IsUnsupported ts None × (file_at ts ≡ Some (file_of file))
Parsed (Err (faults.Syntax place)) ts = Judged IsUnsupported ts None × (file_at ts ≡ None)
Parsed (Err (faults.Unsupported place text)) ts = Judged IsUnsupported ts (Some (culprit place text))
Parsed (Err faults.Memory) ts = Unit {0}

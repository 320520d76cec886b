-- Those of some methods that come first: the first of each name, or of each result type.
use Rattle.std.specs.Prelude.{List, [], ◌∷◌, ◌++◌, map, fold, if◌then◌else◌}
use Rattle.std.specs.List.{list_any}
use Rattle.std.specs.Str.{bytes_eq}
use Rattle.mg_text.specs.Call.{Name}
use Rattle.ts_tree.specs.Typestate.{Method}
use Rattle.lsp_offers.specs.declared.firsts.By.{By}
use Rattle.lsp_offers.specs.declared.firsts.By.TheVariants as bys
use Rattle.lsp_offers.specs.Calls.{type_text}

-- the text by which methods are told apart
abbrev pub text_by : By → Method → Name
text_by bys.Name m = m.name
text_by bys.Result m = type_text m.result

-- one method more, unless one of its text is there
abbrev pub with_first : By → List Method → Method → List Method
with_first by found m = if list_any (bytes_eq (text_by by m)) (map (text_by by) found) then found else found ++ m ∷ []

-- one after another
abbrev pub firsts : By → List Method → List Method
firsts by ms = fold (with_first by) [] ms

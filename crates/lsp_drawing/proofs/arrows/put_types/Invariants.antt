use Rattle.std.proofs.Common.{◌≡◌, ◌++◌, string_bytes, take}
use Rattle.ts_read.specs.Layout.{type_text}
use Rattle.lsp_drawing.proofs.Separated.{behind_commas}
use Rattle.lsp_drawing.proofs.arrows.put_types.Given as goal

abbrev pub invariant-loop-name : goal.invariant-loop-name
invariant-loop-name l = string_bytes l.out ≡ string_bytes l.initial.out ++ behind_commas type_text (take l.name-index l.rest)

-- A part of the table of reserved words.
use Rattle.std.specs.Prelude.{Option, Some, None, if◌then◌else◌, codes}
use Rattle.std.specs.Str.{bytes_eq}
use Rattle.mg_text.specs.Call.{Name}
use Rattle.scr_tree.specs.declared.token.Mark.{Mark}
use Rattle.scr_tree.specs.declared.token.Mark.TheVariants as marks

-- the mark that a word is, if it is one of those that begin or part statements, or that aren't supported
abbrev pub statement_word : Name → Option Mark
statement_word text =
    if bytes_eq text (codes "choice") then Some marks.Choice
    else (if bytes_eq text (codes "or") then Some marks.Or
    else (if bytes_eq text (codes "rec") then Some marks.Rec
    else (if bytes_eq text (codes "continue") then Some marks.Continue
    else (if bytes_eq text (codes "par") then Some marks.Par
    else (if bytes_eq text (codes "interruptible") then Some marks.Interruptible
    else (if bytes_eq text (codes "do") then Some marks.Do
    else (if bytes_eq text (codes "global") then Some marks.Global
    else (if bytes_eq text (codes "import") then Some marks.Import
    else (if bytes_eq text (codes "sig") then Some marks.Sig
    else None)))))))))

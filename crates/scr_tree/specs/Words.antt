-- The words of Scribble: names, and the words and signs that are no names.
use Rattle.std.specs.Prelude.{◌≡◌, ◌≤◌, ℕ, length, Option, Some, None, if◌then◌else◌, ◌==◌, codes}
use Rattle.std.specs.Str.{bytes_eq}
use Rattle.mg_text.specs.Call.{Name}
use Rattle.mg_read.specs.Passes.{AllPasses, StartsWith}
pub use Rattle.mg_read.specs.Letters.{is_name_start, is_name_byte, is_quotable}
use Rattle.scr_tree.specs.declared.token.Mark.{Mark}
use Rattle.scr_tree.specs.declared.token.Mark.TheVariants as marks

abbrev pub sign_of : ℕ → Option Mark
sign_of c =
    if c == 40 then Some marks.OpenParen
    else (if c == 41 then Some marks.CloseParen
    else (if c == 123 then Some marks.OpenBrace
    else (if c == 125 then Some marks.CloseBrace
    else (if c == 60 then Some marks.Less
    else (if c == 62 then Some marks.Greater
    else (if c == 44 then Some marks.Comma
    else (if c == 59 then Some marks.Semicolon
    else (if c == 46 then Some marks.Dot
    else None))))))))

-- the mark that a word is, if it is reserved
unfoldable pub reserved : Name → Option Mark
reserved text =
    if bytes_eq text (codes "module") then Some marks.Module
    else (if bytes_eq text (codes "type") then Some marks.Type
    else (if bytes_eq text (codes "as") then Some marks.As
    else (if bytes_eq text (codes "from") then Some marks.From
    else (if bytes_eq text (codes "to") then Some marks.To
    else (if bytes_eq text (codes "at") then Some marks.At
    else (if bytes_eq text (codes "local") then Some marks.Local
    else (if bytes_eq text (codes "protocol") then Some marks.Protocol
    else (if bytes_eq text (codes "role") then Some marks.Role
    else (if bytes_eq text (codes "self") then Some marks.Myself
    else (if bytes_eq text (codes "choice") then Some marks.Choice
    else (if bytes_eq text (codes "or") then Some marks.Or
    else (if bytes_eq text (codes "rec") then Some marks.Rec
    else (if bytes_eq text (codes "continue") then Some marks.Continue
    else (if bytes_eq text (codes "par") then Some marks.Par
    else (if bytes_eq text (codes "interruptible") then Some marks.Interruptible
    else (if bytes_eq text (codes "do") then Some marks.Do
    else (if bytes_eq text (codes "global") then Some marks.Global
    else (if bytes_eq text (codes "import") then Some marks.Import
    else (if bytes_eq text (codes "sig") then Some marks.Sig
    else None)))))))))))))))))))

-- a name: it has at most 255 bytes, and is no reserved word
pub record IsName (text : Name) : Type 0 where
  pub starts : StartsWith is_name_start text
  pub bytes : AllPasses is_name_byte text
  pub short : length text ≤ 255
  pub free : reserved text ≡ None

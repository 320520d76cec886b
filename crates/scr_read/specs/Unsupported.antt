-- The words that are reserved and not supported, by the kind of protocol.
use Rattle.std.specs.Prelude.{◌≡◌, Option, Some, None, codes}
use Rattle.mg_text.specs.Call.{Name}
use Rattle.mg_read.specs.Culprit.{Culprit, culprit}
use Rattle.scr_tree.specs.declared.token.Mark.{Mark}
use Rattle.scr_tree.specs.declared.token.Mark.TheVariants as marks
use Rattle.scr_tree.specs.Tok.{Tok, marked}
use Rattle.scr_read.specs.declared.words.ProtocolKind.{ProtocolKind}
use Rattle.scr_read.specs.declared.words.ProtocolKind.TheVariants as kinds

-- a word in a protocol of one kind alone
abbrev pub in_local : ProtocolKind → Name → Option Name
in_local kinds.Local word = Some word
in_local kinds.Global word = None

abbrev pub in_global : ProtocolKind → Name → Option Name
in_global kinds.Local word = None
in_global kinds.Global word = Some word

abbrev pub unsupported_word : ProtocolKind → Mark → Option Name
unsupported_word kind marks.Par = Some (codes "par")
unsupported_word kind marks.Interruptible = Some (codes "interruptible")
unsupported_word kind marks.Import = Some (codes "import")
unsupported_word kind marks.Sig = Some (codes "sig")
unsupported_word kind marks.Global = in_local kind (codes "global")
unsupported_word kind marks.Do = in_global kind (codes "do")
unsupported_word kind marks.Myself = in_global kind (codes "self")
unsupported_word kind marks.Local = in_global kind (codes "local")
unsupported_word kind _ = None

-- Unsupported: a token is such a word
abbrev pub IsUnsupported : ProtocolKind → Tok → Culprit → Type 0
IsUnsupported kind (marked place mark) c = (word : Name) × (unsupported_word kind mark ≡ Some word) × (c ≡ culprit place word)
IsUnsupported kind _ c = ⊥

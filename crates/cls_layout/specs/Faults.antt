-- Which fields are wrong. The first of them in the row decides.
use Rattle.std.specs.Prelude.{◌≡◌, ℕ, ◌+◌, List, [], ◌∷◌, length, drop, take, Option, Some, None, Bool, true, false, nat_lt, ◌&&◌, ◌==◌}
use Rattle.std.specs.Prelude.{not, if◌then◌else◌}
use Rattle.std.specs.Str.{IsUtf8}
use Rattle.cls_tree.specs.declared.instr.Form.{Form}
use Rattle.cls_tree.specs.declared.instr.Form.TheVariants as forms
use Rattle.cls_tree.specs.Opcodes.{form_of}
use Rattle.cls_tree.specs.Modified.{modified}
use Rattle.cls_tree.specs.Layout.{instr_bytes}
use Rattle.cls_tree.specs.Tree.{Args, Pool, Instr}
use Rattle.cls_code.specs.declared.CodeFault.{CodeFault}
use Rattle.cls_code.specs.declared.CodeFault.TheVariants as codes
use Rattle.cls_code.specs.Code.{Decodes, Instrs, Fault}
use Rattle.cls_layout.specs.declared.format.Part.{Part}
use Rattle.cls_layout.specs.declared.format.Part.TheVariants as parts
use Rattle.cls_layout.specs.declared.format.Field.{Field}
use Rattle.cls_layout.specs.declared.ClassFault.{ClassFault}
use Rattle.cls_layout.specs.declared.ClassFault.TheVariants as faults
use Rattle.cls_layout.specs.Parts.{is_tag}
use Rattle.cls_layout.specs.Row.{LaysAll, number, is_cut, is_bad_entry, is_code}

-- a fault, unless this holds
abbrev pub unless : Bool → ClassFault → Option ClassFault
unless true fault = None
unless false fault = Some fault

-- The content of a code ends where its length says, if its end was reached.
abbrev pub ends_here : Part → ℕ → Bool → Bool
ends_here (parts.ContentEnd from length) at later = at == from + length
ends_here part at later = later

unfoldable pub ends_well : List Field → Bool
ends_well [] = true
ends_well (f ∷ later) = ends_here f.part f.at (ends_well later)

-- These bytes are a text in modified UTF-8, or else there is a fault.
pub data JudgesText (bytes : List ℕ) (at : ℕ) : Option ClassFault → Type 0 where
  spelled : (text : List ℕ) → IsUtf8 text → modified text ≡ bytes → JudgesText bytes at None
  unspelled : ((text : List ℕ) → IsUtf8 text → modified text ≡ bytes → ⊥) → JudgesText bytes at (Some (faults.BadText at))

-- the fault of a code that begins at this place
abbrev pub moved : ℕ → CodeFault → CodeFault
moved at (codes.CodeTooLong offset) = codes.CodeTooLong (at + offset)
moved at (codes.UnknownOpcode offset) = codes.UnknownOpcode (at + offset)
moved at (codes.Short offset) = codes.Short (at + offset)
moved at (codes.BadSwitch offset) = codes.BadSwitch (at + offset)
moved at (codes.JumpOutside offset) = codes.JumpOutside (at + offset)
moved at codes.Memory = codes.Memory

-- whether the number behind an opcode of this form can't name a constant of the kind that it needs
abbrev pub is_misnamed : (ℕ → ℕ → Bool) → Option Form → ℕ → Bool
is_misnamed bad (Some forms.NearConstant) n = bad 3 n && bad 8 n
is_misnamed bad (Some forms.Constant) n = bad 3 n && bad 8 n
is_misnamed bad (Some forms.Field) n = bad 9 n
is_misnamed bad (Some forms.Method) n = bad 10 n
is_misnamed bad (Some forms.Class) n = bad 7 n
is_misnamed bad form n = false

abbrev pub args_misnamed : (ℕ → ℕ → Bool) → ℕ → Args → Bool
args_misnamed bad op (Pool n) = is_misnamed bad (form_of op) n
args_misnamed bad op other = false

-- the place of the first instruction whose number can't name what it needs, from this place on
unfoldable pub first_misnamed : (ℕ → ℕ → Bool) → ℕ → List Instr → Option ℕ
first_misnamed bad place [] = None
first_misnamed bad place (i ∷ is) =
    if args_misnamed bad i.op i.args then Some place else first_misnamed bad (place + length (instr_bytes place i)) is

-- A code is right, or has a fault; its numbers are judged only where the code has none.
pub data JudgesCode (bad : ℕ → ℕ → Bool) (code : List ℕ) (at : ℕ) : Option ClassFault → Type 0 where
  faulty : {fault : CodeFault} → Decodes code (Fault fault) → JudgesCode bad code at (Some (faults.Code (moved at fault)))
  misnamed : {is : List Instr} {place : ℕ} → Decodes code (Instrs is) → first_misnamed bad 0 is ≡ Some place →
      JudgesCode bad code at (Some (faults.BadIndex (at + place)))
  right : {is : List Instr} → Decodes code (Instrs is) → first_misnamed bad 0 is ≡ None → JudgesCode bad code at None

-- what a name of an attribute of a method is judged: it is a text, and code only once
abbrev pub judged_name : ℕ → Bool → Bool → Option ClassFault
judged_name at true again = Some (faults.BadIndex at)
judged_name at false again = unless (not again) (faults.BadAttribute at)

module _ (bytes places : List ℕ) where
  -- what a part at this place in which this number stands is judged, before these fields
  abbrev pub judged : List Field → Part → ℕ → ℕ → Option ClassFault
  judged later parts.Magic at n = unless (n == 3405691582) (faults.BadMagic at)
  judged later parts.Minor at n = unless (n == 0) (faults.Version at)
  judged later parts.Major at n = unless (n == 49) (faults.Version at)
  judged later parts.PoolCount at n = unless (nat_lt 0 n) (faults.BadIndex at)
  judged later parts.Tag at n = unless (is_tag n) (faults.BadTag at)
  judged later (parts.Reference tag) at n = unless (not (is_bad_entry bytes places tag n)) (faults.BadIndex at)
  judged later parts.Interfaces at n = unless (n == 0) (faults.Unsupported at)
  judged later parts.AttributeName at n = unless (not (is_bad_entry bytes places 1 n)) (faults.BadIndex at)
  judged later (parts.MethodAttribute left seen) at n = judged_name at (is_bad_entry bytes places 1 n) (seen && is_code bytes places n)
  judged later parts.CodeLength at n = unless (ends_well later) (faults.BadAttribute at)
  judged later parts.Handlers at n = unless (n == 0) (faults.Unsupported at)
  judged later part at n = None

  -- what a part is judged, all of which stands at this place, with its number and the bytes from there on
  abbrev pub Judges : List Field → Part → ℕ → ℕ → List ℕ → Option ClassFault → Type 0
  Judges later (parts.Letters len) at n rest r = JudgesText (take len rest) at r
  Judges later (parts.Code len) at n rest r = JudgesCode (is_bad_entry bytes places) (take len rest) at r
  Judges later parts.End at n rest r = r ≡ unless (length rest == 0) (faults.TrailingBytes at)
  Judges later part at n rest r = r ≡ judged later part at n

  -- what a field is judged before these others
  pub data JudgesField (f : Field) (later : List Field) : Option ClassFault → Type 0 where
    cut : is_cut bytes f ≡ true → JudgesField f later (Some (faults.Short f.at))
    whole : {r : Option ClassFault} → is_cut bytes f ≡ false → Judges later f.part f.at (number bytes f) (drop f.at bytes) r →
        JudgesField f later r

  -- the fault of the first field that has one, or none
  pub data First : List Field → Option ClassFault → Type 0 where
    clean : First [] None
    here : {f : Field} {later : List Field} {fault : ClassFault} → JudgesField f later (Some fault) → First (f ∷ later) (Some fault)
    behind : {f : Field} {later : List Field} {r : Option ClassFault} → JudgesField f later None → First later r → First (f ∷ later) r

-- The fault of the bytes: that of the first field that is wrong.
pub record Fails (bytes : List ℕ) (fault : ClassFault) : Type 0 where
  pub row : List Field
  pub places : List ℕ
  pub lays : LaysAll bytes row places
  pub first : First bytes places row (Some fault)

-- no field of the bytes is wrong
pub record IsRight (bytes : List ℕ) : Type 0 where
  pub row : List Field
  pub places : List ℕ
  pub lays : LaysAll bytes row places
  pub first : First bytes places row None

-- the fault of the bytes, or none
abbrev pub Found : List ℕ → Option ClassFault → Type 0
Found bytes None = IsRight bytes
Found bytes (Some fault) = Fails bytes fault

-- What encoding and decoding may answer. Want of memory is free.
use Rattle.std.specs.Prelude.{◌≡◌, ℕ, List, Result, Ok, Err}
use Rattle.mg_text.specs.Row.{Row}
use Rattle.cls_tree.specs.declared.instr.Instr.{Instr as Kept}
use Rattle.cls_tree.specs.View.{instrs_of}
use Rattle.cls_code.specs.declared.CodeFault.{CodeFault}
use Rattle.cls_code.specs.declared.CodeFault.TheVariants as faults
use Rattle.cls_code.specs.Code.{Decodes, Decoding, Instrs, Fault, Encoding, Code, Refused}

-- these bytes or this fault were answered, or memory ran out
abbrev pub IsEncoded : Encoding → Result (List ℕ) CodeFault → Type 0
IsEncoded (Code bytes) (Ok b) = b ≡ bytes
IsEncoded (Refused fault) (Ok b) = ⊥
IsEncoded encoding (Err faults.Memory) = Unit {0}
IsEncoded (Code bytes) (Err e) = ⊥
IsEncoded (Refused fault) (Err e) = e ≡ fault

-- what was answered is so, or memory ran out
abbrev pub IsDecoded : List ℕ → Result (Row Kept) CodeFault → Type 0
IsDecoded bytes (Ok is) = Decodes bytes (Instrs (instrs_of is.items))
IsDecoded bytes (Err faults.Memory) = Unit {0}
IsDecoded bytes (Err e) = Decodes bytes (Fault e)

-- this was answered, or memory ran out
abbrev pub IsDecodedOrMemory : Decoding → Result (Row Kept) CodeFault → Type 0
IsDecodedOrMemory (Instrs is) (Ok r) = instrs_of r.items ≡ is
IsDecodedOrMemory (Fault fault) (Ok r) = ⊥
IsDecodedOrMemory decoding (Err faults.Memory) = Unit {0}
IsDecodedOrMemory (Instrs is) (Err e) = ⊥
IsDecodedOrMemory (Fault fault) (Err e) = e ≡ fault

-- no bytes are two things
abbrev pub DecodesOnce : Type 0
DecodesOnce = (bytes : List ℕ) (a b : Decoding) → Decodes bytes a → Decodes bytes b → a ≡ b

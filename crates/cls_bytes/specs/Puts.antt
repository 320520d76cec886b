-- What the parts of writing promise one another.
use Rattle.std.specs.Prelude.{◌≡◌, ◌++◌, ℕ, List, Option, Some, None, Result, Ok, Err}
use Rattle.cls_code.specs.declared.CodeFault.{CodeFault}
use Rattle.cls_code.specs.Code.{Encoding, Code, Refused}
use Rattle.cls_bytes.specs.declared.WriteFault.{WriteFault}
use Rattle.cls_bytes.specs.declared.WriteFault.TheVariants as refused

-- these bytes were appended, where nothing is refused
pub record Appended (old now bytes : List ℕ) (refusal : Option CodeFault) : Type 0 where
  pub none : refusal ≡ None
  pub all : now ≡ old ++ bytes

-- a code was refused so, or memory ran out
abbrev pub Refuses : Option CodeFault → WriteFault → Type 0
Refuses refusal refused.Memory = Unit {0}
Refuses refusal (refused.Code fault) = refusal ≡ Some fault

-- bytes were appended, or a code was refused so, or memory ran out
abbrev pub Puts : {X : Type 0} → List ℕ → List ℕ → List ℕ → Option CodeFault → Result X WriteFault → Type 0
Puts old new bytes refusal (Ok x) = Appended old new bytes refusal
Puts old new bytes refusal (Err e) = Refuses refusal e

-- the bytes of instructions, or what refuses them
abbrev pub Encodes : Encoding → Result (List ℕ) WriteFault → Type 0
Encodes encoding (Ok bytes) = encoding ≡ Code bytes
Encodes encoding (Err refused.Memory) = Unit {0}
Encodes encoding (Err (refused.Code fault)) = encoding ≡ Refused fault

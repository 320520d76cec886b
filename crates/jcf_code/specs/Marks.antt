-- Which places of a code are beginnings of instructions.
use Rattle.std.specs.Prelude.{ℕ, zero, suc, ◌-◌, List, [], ◌∷◌, ◌++◌, drop, length, replicate, Result, Ok, Err, Bool, true, false}
use Rattle.jcf_effects.specs.declared.Row.{Row}
use Rattle.jcf_code.specs.declared.fault.CodeFault.{CodeFault}
use Rattle.jcf_code.specs.Layout.{laid}

abbrev pub marked : Result (Row × ℕ) CodeFault → (ℕ → List Bool) → List Bool
marked (Err kind) later = []
marked (Ok x) later = (true ∷ replicate (x.1 - 1) false) ++ later x.1

-- Which places of a code are beginnings of instructions, from where this rest of it stands: as far as they can be laid out.
-- There are no more instructions than bytes.
unfoldable pub marks_from : ℕ → List ℕ → List ℕ → List Bool
marks_from zero code rest = []
marks_from (suc n) code [] = []
marks_from (suc n) code (op ∷ rest) =
    marked (laid (length code - length (op ∷ rest)) (op ∷ rest)) (λ size. marks_from n code (drop size (op ∷ rest)))

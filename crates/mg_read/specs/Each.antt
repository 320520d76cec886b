-- Lists of parts, spelled one after another.
use Rattle.std.specs.Prelude.{◌≡◌, List, [], ◌∷◌, ◌++◌}

-- xs are spelled one after another
abbrev pub Each : {T A : Type 0} → (A → List T → Type 0) → List A → List T → Type 0
Each {T = T} G [] ts = ts ≡ []
Each {T = T} G (x ∷ xs) ts = (us vs : List T) × (ts ≡ us ++ vs) × G x us × Each G xs vs

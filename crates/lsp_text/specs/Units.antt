-- What characters count in each encoding.
use Rattle.std.specs.Prelude.{ℕ, ◌+◌, List, [], ◌∷◌, length, nat_lt, if◌then◌else◌}
use Rattle.std.specs.Char.{encode_utf8}
use Rattle.lsp_text.specs.declared.encoding.Encoding.{Encoding}
use Rattle.lsp_text.specs.declared.encoding.Encoding.TheVariants.{Utf8, Utf16}

-- a scalar value counts its bytes of UTF-8, or its code units of UTF-16: one below 0x10000, else two
abbrev pub unit_count : Encoding → ℕ → ℕ
unit_count Utf8 c = length (encode_utf8 c)
unit_count Utf16 c = if nat_lt c 0x1_0000 then 1 else 2

-- what these scalar values count together
abbrev pub units : Encoding → List ℕ → ℕ
units e [] = 0
units e (c ∷ cs) = unit_count e c + units e cs

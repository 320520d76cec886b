-- The bytes of a class file as a row of fields from left to right, as far as they can be laid out.
use Rattle.std.specs.Prelude.{◌≡◌, ℕ, ◌+◌, ◌-◌, ◌*◌, List, [], ◌∷◌, ◌++◌, length, drop, get_or, Bool, true, false, nat_lt, ◌==◌, ◌||◌, ◌&&◌}
use Rattle.std.specs.Prelude.{not}
use Rattle.byteorder.specs.Endian.{big_number}
use Rattle.cls_layout.specs.declared.format.Part.{Part}
use Rattle.cls_layout.specs.declared.format.Part.TheVariants as parts
use Rattle.cls_layout.specs.declared.format.Field.{Field}
use Rattle.cls_layout.specs.Parts.{size, whole, brings, ends_row}

-- the number that stands in a field
unfoldable pub number : List ℕ → Field → ℕ
number bytes f = big_number (size f.part) (drop f.at bytes)

-- whether the bytes end in the field
unfoldable pub is_cut : List ℕ → Field → Bool
is_cut bytes f = nat_lt (length (drop f.at bytes)) (size f.part)

-- the pool's count, which stands behind magic and version
unfoldable pub pool_count : List ℕ → ℕ
pool_count bytes = 256 * get_or bytes 8 0 + get_or bytes 9 0

-- whether the constant of this number can't be one with that tag: there is none of the number, or the one that begins at its place has
-- another
unfoldable pub is_bad_entry : List ℕ → List ℕ → ℕ → ℕ → Bool
is_bad_entry bytes places tag n =
    (n == 0) || (not (nat_lt n (pool_count bytes))
    || (nat_lt (n - 1) (length places) && not (get_or bytes (get_or places (n - 1) 0) 0 == tag)))

-- the text `Code` as a constant
abbrev pub is_code_text : List ℕ → Bool
is_code_text rest =
    (get_or rest 0 0 == 1) && ((get_or rest 1 0 == 0) && ((get_or rest 2 0 == 4) && ((get_or rest 3 0 == 67)
    && ((get_or rest 4 0 == 111) && ((get_or rest 5 0 == 100) && (get_or rest 6 0 == 101))))))

-- whether the constant of this number is there, and is the text `Code`
unfoldable pub is_code : List ℕ → List ℕ → ℕ → Bool
is_code bytes places n =
    not (n == 0) && (nat_lt (n - 1) (length places) && is_code_text (drop (get_or places (n - 1) 0) bytes))

-- where the constants begin, if this part is the tag of one more
abbrev pub entered : Part → ℕ → List ℕ → List ℕ
entered parts.Tag at places = places ++ at ∷ []
entered part at places = places

-- whether nothing can be laid out behind the field
unfoldable pub stops : List ℕ → List ℕ → Field → Bool
stops bytes places f = is_cut bytes f || ends_row f.part (number bytes f) (is_code bytes places (number bytes f))

-- what is due behind the field
unfoldable pub due_behind : List ℕ → List ℕ → Field → List Part
due_behind bytes places f = brings f.part f.at (number bytes f) (is_code bytes places (number bytes f))

-- From a place on, where constants were seen to begin at these places and these parts are due, the bytes are this row of fields,
-- at whose end constants begin at the last places: up to where nothing more is due, or to the field that ends the row.
pub data Lays (bytes : List ℕ) : List ℕ → ℕ → List Part → List Field → List ℕ → Type 0 where
  complete : {places : List ℕ} {at : ℕ} → Lays bytes places at [] [] places
  stopped : {places : List ℕ} {at : ℕ} {part : Part} {due : List Part} {f : Field}
      → f ≡ record { at = at; part = part }
      → stops bytes places f ≡ true
      → Lays bytes places at (part ∷ due) (f ∷ []) places
  next : {places last : List ℕ} {at : ℕ} {part : Part} {due : List Part} {f : Field} {row : List Field}
      → f ≡ record { at = at; part = part }
      → stops bytes places f ≡ false
      → Lays bytes (entered part at places) (at + size part) (due_behind bytes places f ++ due) row last
      → Lays bytes places at (part ∷ due) (f ∷ row) last

-- all of the bytes
abbrev pub LaysAll : List ℕ → List Field → List ℕ → Type 0
LaysAll bytes row places = Lays bytes [] 0 whole row places

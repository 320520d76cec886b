-- Where the jumps of a code lead, and which codes can be encoded.
use Rattle.std.specs.Prelude.{◌≡◌, ◌≤◌, ℕ, ℤ, pos, ◌+◌, ◌+ℤ◌, List, [], ◌∷◌, length, Option, Some, None, Bool, not, if◌then◌else◌}
use Rattle.std.specs.List.{AllByRecursion, list_any}
use Rattle.std.specs.Ordering.{int_eq}
use Rattle.cls_tree.specs.Tree.{Args, Jump, Table, Instr, Attr, Coded, Other, Member, Class}
use Rattle.cls_tree.specs.Layout.{instr_bytes, code_bytes}

-- the places at which instructions start, the first of them here
unfoldable pub starts_from : ℕ → List Instr → List ℕ
starts_from place [] = []
starts_from place (i ∷ is) = place ∷ starts_from (place + length (instr_bytes place i)) is

-- the distances of an instruction's jumps
abbrev pub distances : Args → List ℤ
distances (Jump distance) = distance ∷ []
distances (Table default low offsets) = default ∷ offsets
distances other = []

-- whether an instruction starts there
abbrev pub is_start : List ℕ → ℤ → Bool
is_start starts target = list_any (λ s. int_eq (pos s) target) starts

-- whether an instruction at this place jumps to where none starts
unfoldable pub jumps_outside : List ℕ → ℕ → Instr → Bool
jumps_outside starts place i = list_any (λ d. not (is_start starts (pos place +ℤ d))) (distances i.args)

unfoldable pub first_outside_from : List ℕ → ℕ → List Instr → Option ℕ
first_outside_from starts place [] = None
first_outside_from starts place (i ∷ is) =
    if jumps_outside starts place i then Some place
    else first_outside_from starts (place + length (instr_bytes place i)) is

-- the place of the first instruction that jumps to where none starts
abbrev pub first_outside : List Instr → Option ℕ
first_outside is = first_outside_from (starts_from 0 is) 0 is

-- the code has at most 32,767 bytes, and each jump reaches the start of an instruction
pub record IsSound (is : List Instr) : Type 0 where
  pub short : length (code_bytes is) ≤ 32767
  pub inside : first_outside is ≡ None

abbrev pub IsSoundAttr : Attr → Type 0
IsSoundAttr (Coded c) = IsSound c.instrs
IsSoundAttr (Other name bytes) = Unit {0}

abbrev pub IsSoundMember : Member → Type 0
IsSoundMember m = AllByRecursion IsSoundAttr m.attributes

-- each code of the methods is so
abbrev pub HasSoundCode : Class → Type 0
HasSoundCode c = AllByRecursion IsSoundMember c.methods

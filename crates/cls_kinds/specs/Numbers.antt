-- Kinds by numbers: the least kind that two fit, which fit which, and how often a kind can be raised.
use Rattle.std.specs.Prelude.{ℕ, ◌+◌, Bool, true, false, List, [], ◌∷◌, if◌then◌else◌, ◌==◌, ◌||◌, not}
use Rattle.cls_kinds.specs.declared.kind.Kind.{Kind}

-- no reference is of an int's kind, and not each of any kind
abbrev pub is_plain : ℕ → Bool
is_plain k = k == 0 || k == 3

abbrev pub joined_number : ℕ → ℕ → ℕ
joined_number k l = if k == l then k else if is_plain k || is_plain l then 3 else if k == 2 then l else if l == 2 then k else 4

abbrev pub joined : Kind → Kind → Kind
joined k l = record { 0 = joined_number k.0 l.0 }

abbrev pub fits_number : ℕ → ℕ → Bool
fits_number k l = if k == l || l == 3 then true else if is_plain k || is_plain l then false else k == 2 || l == 4

abbrev pub fits_in : Kind → Kind → Bool
fits_in k l = fits_number k.0 l.0

-- of two lists of one length
abbrev pub joined_all : List Kind → List Kind → List Kind
joined_all [] ls = []
joined_all (k ∷ ks) [] = []
joined_all (k ∷ ks) (l ∷ ls) = joined k l ∷ joined_all ks ls

-- how often a kind can still be raised: from null to a text or an object, from there to any reference, from there to anything
abbrev pub room_of : ℕ → ℕ
room_of k = if k == 3 then 0 else if k == 0 || k == 4 then 1 else if k == 2 then 3 else 2

abbrev pub room_in : List Kind → ℕ
room_in [] = 0
room_in (k ∷ ks) = room_of k.0 + room_in ks

-- whether a list isn't the least that it and another one fit
abbrev pub is_raised : List Kind → List Kind → Bool
is_raised [] ls = false
is_raised (k ∷ ks) [] = false
is_raised (k ∷ ks) (l ∷ ls) = not (joined_number k.0 l.0 == k.0) || is_raised ks ls

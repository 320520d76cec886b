-- What the layout needs of the statements of a protocol.
use Rattle.std.proofs.Common.{◌≡◌, List, [], ◌∷◌, Contains, subst, ◌⊎◌, ⊎_elim, Bool, true, false, ◌&&◌, ◌||◌}
use Rattle.std.specs.Str.{bytes_eq}
use Rattle.mg_text.specs.Call.{Name}
use Rattle.scr_tree.specs.Tree.{Statements, Nothing, Says, Choice, Rec, Continue, Do, Branches, NoBranch, Branch}

-- these statements may come to their end with no message
abbrev pub passes : Statements → Bool
passes Nothing = true
passes (Says m rest) = false
passes (Choice place at branches rest) = false
passes (Rec place name body rest) = passes body && passes rest
passes (Continue place name rest) = false
passes (Do place name rest) = false

-- no way from here to `continue name` is without a message
abbrev pub Guards : Name → Statements → Type 0
Guards name Nothing = Unit {0}
Guards name (Says m rest) = Unit {0}
Guards name (Choice place at branches rest) = Unit {0}
Guards name (Rec place other body rest) = Guards name body × (passes body ≡ true → Guards name rest)
Guards name (Continue place other rest) = bytes_eq name other ≡ false
Guards name (Do place other rest) = Unit {0}

abbrev pub is_among : Name → List Name → Bool
is_among name [] = false
is_among name (other ∷ names) = bytes_eq name other || is_among name names

-- the end of these statements, which make no choice, is not reached
abbrev pub stays : Statements → Bool
stays Nothing = false
stays (Says m rest) = stays rest
stays (Choice place at branches rest) = false
stays (Rec place name body rest) = stays body || stays rest
stays (Continue place name rest) = true
stays (Do place name rest) = true

-- a `do` of this name stands where no message stands before it
abbrev pub Opens : Name → Statements → Type 0
Opens name Nothing = ⊥
Opens name (Says m rest) = ⊥
Opens name (Choice place at branches rest) = ⊥
Opens name (Rec place other body rest) = Opens name body ⊎ ((passes body ≡ true) × Opens name rest)
Opens name (Continue place other rest) = ⊥
Opens name (Do place other rest) = other ≡ name

-- `protocols` are the names of the protocols of the file
module _ (protocols : List Name) where
  -- Each `continue` stands inside its rec, on each way with a message between; nothing stands behind a `continue` or a `do`, or behind a
  -- rec that is never left; each branch begins with a message; each `do` names a protocol. `around` are the names of the recs around.
  abbrev mutual
    pub Sound : List Name → Statements → Type 0
    Sound around Nothing = Unit {0}
    Sound around (Says m rest) = Sound around rest
    Sound around (Choice place at branches rest) = SoundIn around branches × Sound around rest
    Sound around (Rec place name body rest) = Guards name body × Sound (name ∷ around) body × (stays body ≡ true → rest ≡ Nothing)
        × Sound around rest
    Sound around (Continue place name rest) = (is_among name around ≡ true) × (rest ≡ Nothing)
    Sound around (Do place name rest) = Contains protocols name × (rest ≡ Nothing)

    pub SoundIn : List Name → Branches → Type 0
    SoundIn around NoBranch = Unit {0}
    SoundIn around (Branch branch more) = SoundFirst around branch × SoundIn around more

    pub SoundFirst : List Name → Statements → Type 0
    SoundFirst around (Says m rest) = Sound around rest
    SoundFirst around _ = ⊥

  -- a `do` that stands at once names a protocol
  pub opens_known : (t : Statements) (around : List Name) → Sound around t → (name : Name) → Opens name t → Contains protocols name
  opens_known Nothing around h name o = absurd o
  opens_known (Says m rest) around h name o = absurd o
  opens_known (Choice place at branches rest) around h name o = absurd o
  opens_known (Rec place other body rest) around h name o = ⊎_elim (λ b. opens_known body (other ∷ around) h.1 name b)
      (λ r. opens_known rest around h.3 name r.1) o
  opens_known (Continue place other rest) around h name o = absurd o
  opens_known (Do place other rest) around h name o = subst (Contains protocols) o h.0

-- How groups are numbered: by the first place that has them, the held ones before.
use Rattle.std.specs.Prelude.{◌≡◌, ℕ, zero, suc, ◌==◌, Bool, true, false, List, [], ◌∷◌, Option, None, if◌then◌else◌, is_some}
use Rattle.insp_rules.specs.Program.{nth, shape}
use Rattle.insp_rules.specs.Frames.{Known, Bare, Object, Answer, Group, Sight, sight, is_below}
use Rattle.insp_rules.specs.Skeleton.{listed}
use Rattle.insp_rules.specs.Program.{Bare as BareOf, Other, Bit, Map, Constant}
use Rattle.insp_rules.specs.Reached.{Context, Numbering}

abbrev pub size : List ℕ → ℕ
size [] = zero
size (a ∷ xs) = suc (size xs)

abbrev pub snoc : List ℕ → ℕ → List ℕ
snoc [] g = g ∷ []
snoc (a ∷ xs) g = a ∷ snoc xs g

abbrev pub put_in : Bool → List ℕ → ℕ → List ℕ
put_in true os g = os
put_in false os g = snoc os g

-- these, and behind them the groups of the places that aren't among them yet
abbrev pub gather : List ℕ → List Known → List ℕ
gather os [] = os
gather os (Object g ∷ xs) = gather (put_in (listed g os) os g) xs
gather os (_ ∷ xs) = gather os xs

abbrev pub up_to : ℕ → List ℕ
up_to zero = []
up_to (suc n) = snoc (up_to n) n

-- the number of a group
abbrev pub spot : ℕ → List ℕ → ℕ
spot g [] = zero
spot g (a ∷ xs) = if a == g then zero else suc (spot g xs)

abbrev pub only_if : Bool → Option Group → Option Group
only_if true o = o
only_if false o = None

abbrev pub numbered_groups : List ℕ → (ℕ → Option Group) → ℕ → Option Group
numbered_groups os groups i = only_if (is_below (size os) i) (groups (nth 0 os i))

-- which values that have nothing to do with an object become Other
abbrev pub coarse : (BareOf → Bool) → BareOf → BareOf
coarse drops b = if drops b then Other else b

abbrev pub numbered : (ℕ → Bool) → (BareOf → Bool) → List ℕ → Known → Known
numbered tells drops os (Bare b) = Bare (coarse drops b)
numbered tells drops os (Object g) = Object (spot g os)
numbered tells drops os (Answer g form) = if tells g then Answer (spot g os) form else Bare Other

abbrev pub number_all : (ℕ → Bool) → (BareOf → Bool) → List ℕ → List Known → List Known
number_all tells drops os [] = []
number_all tells drops os (x ∷ xs) = numbered tells drops os x ∷ number_all tells drops os xs

-- the numbers 0 and 1
abbrev pub is_bit : BareOf → Bool
is_bit (Bit b) = true
is_bit _ = false

-- what isn't handed over to another method
abbrev pub is_local : BareOf → Bool
is_local (Map m class) = true
is_local (Constant class label) = true
is_local _ = false

-- whether some of these is an object
abbrev pub has_object : List Known → Bool
has_object [] = false
has_object (Object g ∷ xs) = true
has_object (_ ∷ xs) = has_object xs

-- in a frame without objects the numbers 0 and 1 aren't told apart from others
abbrev pub drops_in : Sight → BareOf → Bool
drops_in f b = if has_object f.shape.locals then false else (if has_object f.shape.operands then false else is_bit b)

-- the groups of a frame in their order
abbrev pub order : ℕ → Sight → List ℕ
order held f = gather (gather (up_to held) f.shape.locals) f.shape.operands

-- answers of groups that stay
abbrev pub tells : List ℕ → (ℕ → Option Group) → ℕ → Bool
tells os groups g = if listed g os then is_some (groups g) else false

abbrev pub canonical_by : List ℕ → Sight → Sight
canonical_by os f =
    sight (shape (number_all (tells os f.groups) (drops_in f) os f.shape.locals)
    (number_all (tells os f.groups) (drops_in f) os f.shape.operands))
    (numbered_groups os f.groups) (size os)

abbrev pub canonical : ℕ → Sight → Sight
canonical held f = canonical_by (order held f) f

-- a method with these arguments
abbrev pub context_by : ℕ → List Known → List ℕ → Sight → Context
context_by method args os f =
    record { method = method; args = number_all (λ g. false) is_local os args; held = size os; groups = numbered_groups os f.groups }

abbrev pub context_of : ℕ → List Known → Sight → Context
context_of method args f = context_by method args (gather [] args) f

-- This is a way to number groups.
pub record CanonicalNumbers : Type 0 where
  pub numbering : Numbering
  pub frames : (held : ℕ) (f : Sight) → numbering.tidy held f ≡ canonical held f
  pub contexts : (method : ℕ) (args : List Known) (f : Sight) → numbering.context method args f ≡ context_of method args f

-- The order of work: which refusal is the first, and what a call answers of it.
use Rattle.std.specs.Prelude.{◌≡◌, ℕ, Option, Some, None, Result, Ok, Err}
use Rattle.mg_refusal.specs.Refusals.{Refusal, in_file}
use Rattle.mg_refusal.specs.declared.stop.Stop.{Stop}
use Rattle.mg_refusal.specs.declared.stop.Stop.TheVariants as stops

-- what is found, and how it is refused
abbrev pub Finds : {F : Type 0} → (Is : F → Type 0) → (refusal_of : F → Refusal) → Refusal → Type 0
Finds {F} Is refusal_of r = (f : F) × Is f × (r ≡ refusal_of f)

-- what is said of the text of this number is refused there
abbrev pub InFile : (file : ℕ) → (Said : Refusal → Type 0) → Refusal → Type 0
InFile file Said r = Finds Said (in_file file) r

-- The first refusal of two steps of work: that of the first step, or, where this passes with some value, that of the next over the value.
pub data Then {A : Type 0} (First : Refusal → Type 0) (Passes : A → Type 0) (Next : A → Refusal → Type 0) (r : Refusal) : Type 0 where
  at_first : First r → Then First Passes Next r
  at_next : (a : A) → Passes a → Next a r → Then First Passes Next r

-- what is wanted, or the first refusal, or want of memory
abbrev pub Answers : {A : Type 0} → (Right : A → Type 0) → (First : Refusal → Type 0) → Result A Stop → Type 0
Answers Right First (Ok a) = Right a
Answers Right First (Err (stops.Refused r)) = First r
Answers Right First (Err stops.Memory) = Unit {0}

-- what is wanted, or want of memory
abbrev pub AnswersOnly : {A : Type 0} → (Right : A → Type 0) → Result A Stop → Type 0
AnswersOnly Right answer = Answers Right (λ r. ⊥) answer

-- the refusal that what is told of a fault comes to; of want of memory nothing is told
abbrev pub IsStopOf : {F : Type 0} → (Comes : F → Refusal → Type 0) → (told : Option F) → Stop → Type 0
IsStopOf Comes (Some f) (stops.Refused r) = Comes f r
IsStopOf Comes (Some f) stops.Memory = ⊥
IsStopOf Comes None (stops.Refused r) = ⊥
IsStopOf Comes None stops.Memory = Unit {0}

-- the same, or want of memory for the refusal itself
abbrev pub IsStopBy : {F : Type 0} → (Comes : F → Refusal → Type 0) → (told : Option F) → Stop → Type 0
IsStopBy {F} Comes told (stops.Refused r) = (f : F) × (told ≡ Some f) × Comes f r
IsStopBy Comes told stops.Memory = Unit {0}

abbrev pub stop_in : (file : ℕ) → Stop → Stop
stop_in file (stops.Refused r) = stops.Refused (in_file file r)
stop_in file stops.Memory = stops.Memory

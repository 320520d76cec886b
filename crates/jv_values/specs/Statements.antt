-- How statements complete, and how they combine: lists, loops and switches.
use Rattle.std.specs.Prelude.{ℕ, Bool, true, false, List, [], ◌∷◌, Option, Some, None, ◌||◌, nat_eq, if◌then◌else◌}
use Rattle.jv_values.specs.Values.{Value, Row, Lives}
use Rattle.jv_values.specs.Doing.{Run, Gives, ◌>>=◌, give}

-- how a statement completes; K names loops
pub data Completion (K : Type 0) : Type 0 where
  Normal : Completion K
  Breaks : Option K → Completion K
  Continues : Option K → Completion K
  Returns : Option Value → Completion K

-- what a statement does
abbrev pub Does : Type 0 → Type 0
Does K = Run (Lives K) (Completion K)

-- the next statement, where the one before it completes normally
abbrev pub next_do : {K : Type 0} → Does K → Completion K → Does K
next_do next Normal = next
next_do next (Breaks l) = give (Breaks l)
next_do next (Continues l) = give (Continues l)
next_do next (Returns v) = give (Returns v)

-- the row with a local's new value, or else what is done where there is no such local
abbrev pub assigned : {K : Type 0} → Option (Row K) → Does K → Does K
assigned None otherwise = otherwise
assigned (Some row) otherwise = λ s. Gives Normal (record s { locals = row })

-- Loops.

-- whether an exit, without or with a label, is this loop's
abbrev pub Mine : Type 0 → Type 0
Mine K = Option K → Bool

abbrev pub after_body : {K : Type 0} → (break continue : Mine K) → (again : Does K) → Completion K → Does K
after_body b c again Normal = again
after_body b c again (Breaks l) = if b l then give Normal else give (Breaks l)
after_body b c again (Continues l) = if c l then again else give (Continues l)
after_body b c again (Returns v) = give (Returns v)

-- a turn of `while` begins at its test
abbrev pub while_turn : {K : Type 0} → (break continue : Mine K) → Run (Lives K) Bool → (body again : Does K) → Does K
while_turn b c test body again = do
  t ← test
  if t then body >>= after_body b c again else give Normal

-- a turn of `do` begins at its body
abbrev pub do_turn : {K : Type 0} → (break continue : Mine K) → (body : Does K) → Run (Lives K) Bool → (again : Does K) → Does K
do_turn b c body test again = body >>= after_body b c (test >>= λ t. if t then again else give Normal)

-- Switches. A label that is none is `default`.

abbrev pub is_default : {L : Type 0} → Option L → Bool
is_default None = true
is_default (Some l) = false

-- whether a label is the constant of position n, where it has this position
abbrev pub case_at : ℕ → Option ℕ → Bool
case_at n None = false
case_at n (Some k) = nat_eq k n

abbrev pub any_label : {L : Type 0} → (Option L → Bool) → List (Option L) → Bool
any_label test [] = false
any_label test (l ∷ ls) = test l || any_label test ls

-- a `break` without a label leaves the switch
abbrev pub after_switch : {K : Type 0} → Completion K → Does K
after_switch Normal = give Normal
after_switch (Breaks l) = if is_default l then give Normal else give (Breaks l)
after_switch (Continues l) = give (Continues l)
after_switch (Returns v) = give (Returns v)

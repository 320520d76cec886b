-- The conditions of a typestate file, each by who breaks it: the first such name in the order of the text, at its place.
use Rattle.std.specs.Prelude.{◌≡◌, ◌≢◌, List, [], ◌∷◌, map, Option, codes}
use Rattle.std.specs.List.{Contains, flat_map}
use Rattle.mg_text.specs.Call.{Name}
use Rattle.mg_read.specs.Culprit.{Culprit, culprit}
use Rattle.mg_read.specs.First.{Judged, FirstOf, with_earlier}
use Rattle.ts_parse.specs.declared.written.Naming.{Naming}
use Rattle.ts_parse.specs.declared.written.WrittenBranch.{WrittenBranch}
use Rattle.ts_parse.specs.Written.{WTarget, to_one, by_label, WMethod, WEntry, offer, drop_end, WState, WFile, methods_in}
use Rattle.ts_read.specs.declared.condition.Condition.{Condition}
use Rattle.ts_read.specs.declared.condition.Condition.TheVariants as conditions

-- ---- what is written, in the order of the text

abbrev pub state_names : WFile → List Naming
state_names w = map (λ s. s.name) w.states

abbrev pub methods_of : WFile → List WMethod
methods_of w = flat_map (λ s. methods_in s.entries) w.states

abbrev pub branches_of : WTarget → List WrittenBranch
branches_of (to_one n) = []
branches_of (by_label branches) = branches

abbrev pub labels_of : WMethod → List Naming
labels_of m = map (λ b. b.label) (branches_of m.target)

-- the names that a method leads to
abbrev pub leads_to : WTarget → List Naming
leads_to (to_one n) = n ∷ []
leads_to (by_label branches) = map (λ b. b.to) branches

abbrev pub targets_of : WFile → List Naming
targets_of w = flat_map (λ m. leads_to m.target) (methods_of w)

abbrev pub texts : List Naming → List Name
texts names = map (λ n. n.text) names

-- ---- who breaks a condition

abbrev pub blamed : Naming → Culprit
blamed n = culprit n.place n.text

-- a name that stands among the earlier ones
abbrev pub IsRepeat : List Naming × Naming → Culprit → Type 0
IsRepeat x c = (c ≡ blamed x.1) × Contains (texts x.0) x.1.text

-- two methods of one name, or `drop: end` both
abbrev pub SameEntry : WEntry → WEntry → Type 0
SameEntry (offer m) (offer n) = m.name.text ≡ n.name.text
SameEntry (drop_end p) (drop_end q) = Unit {0}
SameEntry _ _ = ⊥

-- the name of a method, or the word "drop", where it stands
abbrev pub entry_blamed : WEntry → Culprit
entry_blamed (offer m) = blamed m.name
entry_blamed (drop_end place) = culprit place (codes "drop")

-- an entry that is the same as an earlier one; a method may be named "drop" beside `drop: end`
abbrev pub IsTwice : List WEntry × WEntry → Culprit → Type 0
IsTwice x c = (c ≡ entry_blamed x.1) × (e : WEntry) × Contains x.0 e × SameEntry e x.1

-- a target that is neither the end nor a state
abbrev pub IsUnknown : List Naming → Naming → Culprit → Type 0
IsUnknown states n c = (c ≡ blamed n) × (n.text ≢ codes "end") × (Contains (texts states) n.text → ⊥)

abbrev pub SameSignature : WMethod → WMethod → Type 0
SameSignature m n = (m.result ≡ n.result) × (m.params ≡ n.params)

-- a method with an earlier one of its name that has another result or other parameters
abbrev pub HasOther : List WMethod × WMethod → Culprit → Type 0
HasOther x c = (c ≡ blamed x.1.name) × (m : WMethod) × Contains x.0 m × (m.name.text ≡ x.1.name.text) × (SameSignature m x.1 → ⊥)

-- a state that is named as the end is
abbrev pub IsNamedEnd : Naming → Culprit → Type 0
IsNamedEnd n c = (c ≡ blamed n) × (n.text ≡ codes "end")

-- what judging a condition answers
abbrev pub Judges : WFile → Condition → Option Culprit → Type 0
-- two states of one name
Judges w conditions.DuplicateState = Judged IsRepeat (with_earlier (state_names w))
-- a target that is no state
Judges w conditions.UnknownState = Judged (IsUnknown (state_names w)) (targets_of w)
-- a name twice in a state, or `drop: end` twice
Judges w conditions.DuplicateMethod = Judged IsTwice (flat_map (λ s. with_earlier s.entries) w.states)
-- one method name with two results or parameter lists
Judges w conditions.SignatureDiffers = Judged HasOther (with_earlier (methods_of w))
-- a label twice in one list
Judges w conditions.DuplicateLabel = Judged IsRepeat (flat_map (λ m. with_earlier (labels_of m)) (methods_of w))
-- a state named "end"
Judges w conditions.ReservedEnd = Judged IsNamedEnd (state_names w)

-- the conditions in the order of their numbers
abbrev pub in_order : List Condition
in_order =
    conditions.DuplicateState ∷ conditions.UnknownState ∷ conditions.DuplicateMethod ∷ conditions.SignatureDiffers ∷
    conditions.DuplicateLabel
    ∷ conditions.ReservedEnd ∷ []

-- the first condition that doesn't hold, with its first culprit, or none where all hold
abbrev pub IsFault : WFile → Option (Condition × Culprit) → Type 0
IsFault w = FirstOf (Judges w) in_order

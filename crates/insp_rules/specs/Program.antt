-- Code, as far as it moves, tests and calls followed objects. Behind each instruction stands which of a class file are written so; a long
-- or a double is two words, of which nothing is known.
use Rattle.std.specs.Prelude.{ℕ, zero, suc, Bool, true, false, not, List, [], ◌∷◌, Option, Some, None, slice_get, option_and_then, is_some}
use Rattle.std.specs.Prelude.{if◌then◌else◌}
use Rattle.std.specs.Prelude.{◌==◌, codes}
use Rattle.std.specs.Str.{bytes_eq}
use Rattle.mg_text.specs.Call.{Name}
use Rattle.ts_tree.specs.Typestate.{State, Typestate}
use Rattle.ts_tree.specs.Calls.{offered_in}

-- a class that is followed, with its typestate, the names of the classes that it extends, and whether it is an interface
pub record Class : Type 0 where
  pub name : Name
  pub typestate : Typestate
  pub above : List Name
  pub is_interface : Bool

abbrev pub has_method : List State → Name → Bool
has_method [] name = false
has_method (s ∷ ss) name = if is_some (offered_in s.methods name) then true else has_method ss name

-- whether some state of the typestate has a method of this name; descriptors aren't compared
abbrev pub names : Typestate → Name → Bool
names t name = has_method t.states name

abbrev pub is_among : Name → List Name → Bool
is_among name [] = false
is_among name (x ∷ xs) = if bytes_eq x name then true else is_among name xs

-- one is the other, or extends it
abbrev pub related : Class → Class → Bool
related a b =
    if bytes_eq a.name b.name then true else (if is_among b.name a.above then true else is_among a.name b.above)

-- what an answer is of: a truth, or a constant of the class of this name
pub data Kind : Type 0 where
  Truth : Kind
  Constants : Name → Kind

-- how an answer is at hand: as it was given; as the place of the constant in its class; as the number that a switch map has for it
pub data Form : Type 0 where
  Itself : Kind → Form
  Ordinal : Name → Form
  Mapped : ℕ → Form

-- what is known of a value that has nothing to do with an object that is followed:
pub data Bare : Type 0 where
  -- nothing, it isn't followed
  Other : Bare
  -- the numbers 0 and 1
  Bit : Bool → Bare
  Null : Bare
  -- it is of a followed class, and came from outside what is followed
  Lost : Bare
  -- perhaps it is an object with this typestate, and it isn't known which
  Alias : Typestate → Bare
  -- the switch map of this number, which has constants of the class of this name; a constant of a class
  Map : ℕ → Name → Bare
  Constant : Name → Name → Bare

-- what an instruction puts on the operands: one of those that it took, the last one has number 0; or a value of its own
pub data Give : Type 0 where
  From : ℕ → Give
  Just : Bare → Give

-- the result of a method: none, so many words that aren't followed, a truth, or a value of a class, which may be followed
pub data Result : Type 0 where
  Void : Result
  Words : ℕ → Result
  Boolean : Result
  Of : Name → Option Class → Result

-- the followed class that a result is of
abbrev pub class_of : Result → Option Class
class_of Void = None
class_of (Words n) = None
class_of Boolean = None
class_of (Of name class) = class

-- how many operands it is
abbrev pub size_of : Result → ℕ
size_of Void = zero
size_of (Words n) = n
size_of Boolean = suc zero
size_of (Of name class) = suc zero

-- a call, as a class file has it
pub record Invocation : Type 0 where
  pub name : Name
  -- how many operands its arguments are, and whether a receiver is below them
  pub words : ℕ
  pub has_receiver : Bool
  -- the class that it names, where that is followed
  pub named : Option Class
  pub result : Result
  -- the method of the program that is meant for sure
  pub sure : Option ℕ
  -- whether the type of a parameter or of the result is a followed class
  pub typed : Bool
  -- the methods of the program that may be meant
  pub meant : List ℕ
  -- whether it is one of the methods of every object that don't hand it on (`getClass()`, `toString()`, `hashCode()`, `equals(Object)`),
  -- or the constructor's call on the object that was just made
  pub harmless : Bool

-- how many operands it takes
abbrev pub taken : Invocation → ℕ
taken v = if v.has_receiver then suc v.words else v.words

-- it is a call of a protocol by the class that it names
abbrev pub is_protocol : Invocation → Bool
is_protocol v = elim v.named [ None ↦ false | Some class ↦ names class.typestate v.name ]

-- how numbers are compared
pub data Comparison : Type 0 where
  Equal : Comparison
  Unequal : Comparison
  Less : Comparison
  AtLeast : Comparison
  More : Comparison
  AtMost : Comparison

-- a number and where a switch goes for it
pub record Arm : Type 0 where
  pub number : ℕ
  pub to : ℕ

-- an instruction; where it goes on is the next one, or a place that it names
pub data Instruction : Type 0 where
  -- takes so many operands, and gives these, the last one first (`pop`, `dup` and those like it, `swap`, constants, arithmetic,
  -- conversions, arrays, fields that are read, `new` of a class that isn't followed, `instanceof`, `monitorenter`, `monitorexit`)
  Move : ℕ → List Give → Instruction
  -- a local is put on the operands; the last operand goes into a local; a local becomes something that isn't followed (`iinc`, and the
  -- two of a long or a double behind a `Move` that takes its words)
  Load : ℕ → Instruction
  Store : ℕ → Instruction
  Forget : ℕ → Instruction
  -- the last operand is taken to be of a followed class (`checkcast` to one)
  Cast : Instruction
  -- takes an array and a number, the last one, and gives what the array has there (`iaload`)
  Index : Instruction
  -- takes a constant, and gives its place in its class (`ordinal()`)
  TakeOrdinal : Instruction
  -- goes on at this place (`goto`); either there or at the next one (tests of which nothing is followed)
  Go : ℕ → Instruction
  Either : ℕ → Instruction
  -- takes an operand, and goes on there where it is null, or where it isn't (`ifnull`, `ifnonnull`)
  IfNull : Bool → ℕ → Instruction
  -- takes two, and goes on there where they are the same, or where they aren't (`if_acmpeq`, `if_acmpne`)
  IfSame : Bool → ℕ → Instruction
  -- takes a number, and goes on there where it compares so with 0; takes two, and goes on there where they compare so
  IfSign : Comparison → ℕ → Instruction
  IfNumbers : Comparison → ℕ → Instruction
  -- takes a number, and goes on at the arm that has it, or at this place
  Switch : List Arm → ℕ → Instruction
  -- a new object of a class that is followed (`new`; its `<init>` is a call)
  Make : Class → Instruction
  -- a method of a protocol, with so many arguments, and its result
  Call : Name → ℕ → Result → Instruction
  -- a call on null: nothing is behind it
  CallNull : Instruction
  -- a method of the program, of this number, with so many arguments, and so many words of a result
  CallIn : ℕ → ℕ → ℕ → Instruction
  -- a method outside; its result is null or an object that nobody else has where it is of a followed class, and isn't followed else
  CallOut : Invocation → Instruction
  -- keeps so many operands somewhere else (what `putfield`, `putstatic` and `aastore` store, and what `invokedynamic` takes; what they take
  -- besides goes by a `Move`)
  Keep : ℕ → Instruction
  -- with so many words of a result
  Return : ℕ → Instruction
  -- throws the last operand (`athrow`); only handlers are behind it
  Throw : Instruction

-- what code is made of: instructions, and calls, of which the receiver decides what they do
pub data Operation : Type 0 where
  Does : Instruction → Operation
  Invoke : Invocation → Operation

-- a receiver, as far as it decides: there is none; null; an object of a class; perhaps one with this typestate; nothing is known of it
pub data Receiver : Type 0 where
  Nobody : Receiver
  OfNull : Receiver
  Whole : Class → Receiver
  Perhaps : Typestate → Receiver
  Unknown : Receiver

-- a call that goes on in the method that is meant for sure, where it is followed and there is one
abbrev pub into_or_out : Invocation → (is_followed : Bool) → Instruction
into_or_out v true = elim v.sure [ None ↦ CallOut v | Some method ↦ CallIn method (taken v) (size_of v.result) ]
into_or_out v false = CallOut v

-- what an operation does on a receiver
abbrev pub does : Operation → Receiver → Instruction
does (Does i) r = i
does (Invoke v) Nobody = into_or_out v v.typed
does (Invoke v) OfNull = CallNull
does (Invoke v) (Whole class) = if names class.typestate v.name then Call v.name v.words v.result else into_or_out v true
does (Invoke v) (Perhaps t) = into_or_out v (if v.typed then true else not (names t v.name))
does (Invoke v) Unknown = into_or_out v v.typed

pub record Method : Type 0 where
  pub code : List Operation
  -- where a throw may be caught, for each place
  pub handlers : ℕ → List ℕ
  -- how many locals there are besides the arguments
  pub locals : ℕ
  -- whether its class is followed
  pub is_of_followed : Bool
  -- whether calls that aren't followed may mean it: it is an instance method that isn't private or is of an interface, and no
  -- constructor, or a handle names it
  pub otherwise : Bool
  pub gives : Result

-- in a switch map the constant with this label has this number
pub record Entry : Type 0 where
  pub label : Name
  pub number : ℕ

pub record Program : Type 0 where
  pub methods : List Method
  pub maps : List (List Entry)

abbrev pub code_at : Program → ℕ → ℕ → Option Operation
code_at p m at = option_and_then (λ (method : Method). slice_get method.code at) (slice_get p.methods m)

abbrev pub handlers_at : Program → ℕ → ℕ → List ℕ
handlers_at p m at = elim (slice_get p.methods m) [ None ↦ [] | Some method ↦ method.handlers at ]

abbrev pub locals_at : Program → ℕ → ℕ
locals_at p m = elim (slice_get p.methods m) [ None ↦ zero | Some method ↦ method.locals ]

abbrev pub is_of_followed : Program → ℕ → Bool
is_of_followed p m = elim (slice_get p.methods m) [ None ↦ false | Some method ↦ method.is_of_followed ]

abbrev pub is_called_otherwise : Program → ℕ → Bool
is_called_otherwise p m = elim (slice_get p.methods m) [ None ↦ false | Some method ↦ method.otherwise ]

abbrev pub result_of : Program → ℕ → Result
result_of p m = elim (slice_get p.methods m) [ None ↦ Void | Some method ↦ method.gives ]

-- the number that the last entry of a constant has
abbrev pub number_in : List Entry → Name → Option ℕ
number_in [] label = None
number_in (e ∷ es) label =
    elim (number_in es label) [ None ↦ if bytes_eq e.label label then Some e.number else None | Some number ↦ Some number ]

-- the number that a switch map has for a constant: 0 where it has no entry of it
abbrev pub number_of : Program → ℕ → Name → ℕ
number_of p m label = elim (option_and_then (λ es. number_in es label) (slice_get p.maps m)) [ None ↦ zero | Some number ↦ number ]

-- the arm for a number, or for none
abbrev pub arm_of : List Arm → ℕ → Option ℕ
arm_of [] number = None
arm_of (a ∷ arms) number = if a.number == number then Some a.to else arm_of arms number

-- where a switch goes that has this place for others
abbrev pub goes_for : List Arm → ℕ → Option ℕ → ℕ
goes_for arms other number = elim (option_and_then (arm_of arms) number) [ None ↦ other | Some to ↦ to ]

abbrev pub agree : Bool → Bool → Bool
agree true b = b
agree false b = not b

-- whether these compare so, where false is 0 and true is 1
abbrev pub compares : Comparison → Bool → Bool → Bool
compares Equal a b = if a then b else not b
compares Unequal a b = if a then not b else b
compares Less a b = if a then false else b
compares AtLeast a b = if a then true else not b
compares More a b = if a then not b else false
compares AtMost a b = if a then b else true

-- whether a number is 0 where it compares so with 0 or doesn't; None where that doesn't tell
abbrev pub is_zero_by : Comparison → Bool → Option Bool
is_zero_by Equal b = Some b
is_zero_by Unequal b = Some (not b)
is_zero_by Less b = None
is_zero_by AtLeast b = None
is_zero_by More b = None
is_zero_by AtMost b = None

-- the label of a truth
abbrev pub truth : (is_zero : Bool) → Name
truth true = codes "false"
truth false = codes "true"

-- ---- what is the same for values and for what is known of them

-- locals, and operands with the last one first
pub record Shape (A : Type 0) : Type 0 where
  pub locals : List A
  pub operands : List A

-- the values that an instruction makes, how it takes one to be of a followed class, what an array has, and where a constant stands
pub record Kit (A : Type 0) : Type 0 where
  pub bare : Bare → A
  pub cast : A → A
  pub index : A → A → A
  pub ordinal : A → A

abbrev pub unknown : {A : Type 0} → Kit A → A
unknown k = k.bare Other

abbrev pub nth : {A : Type 0} → A → List A → ℕ → A
nth d [] i = d
nth d (x ∷ xs) zero = x
nth d (x ∷ xs) (suc i) = nth d xs i

abbrev pub first : {A : Type 0} → ℕ → List A → List A
first zero xs = []
first (suc n) [] = []
first (suc n) (x ∷ xs) = x ∷ first n xs

abbrev pub rest : {A : Type 0} → ℕ → List A → List A
rest zero xs = xs
rest (suc n) [] = []
rest (suc n) (x ∷ xs) = rest n xs

abbrev pub placed : {A : Type 0} → List A → ℕ → A → List A
placed [] i y = []
placed (x ∷ xs) zero y = y ∷ xs
placed (x ∷ xs) (suc i) y = x ∷ placed xs i y

abbrev pub filled : {A : Type 0} → A → ℕ → List A → List A
filled d zero xs = xs
filled d (suc n) xs = d ∷ filled d n xs

abbrev pub given : {A : Type 0} → Kit A → List A → Give → A
given k taken (From i) = nth (unknown k) taken i
given k taken (Just b) = k.bare b

abbrev pub gives : {A : Type 0} → Kit A → List A → List Give → List A → List A
gives k taken [] xs = xs
gives k taken (g ∷ gs) xs = given k taken g ∷ gives k taken gs xs

abbrev pub shape : {A : Type 0} → List A → List A → Shape A
shape ls os = record { locals = ls; operands = os }

-- what the receiver is of an operation on these operands
abbrev pub receiver : {A : Type 0} → A → (A → Receiver) → Operation → List A → Receiver
receiver d of (Does i) xs = Nobody
receiver d of (Invoke v) xs = if v.has_receiver then of (nth d xs v.words) else Nobody

-- what is done on these operands
abbrev pub done : {A : Type 0} → A → (A → Receiver) → Option Operation → List A → Option Instruction
done d of None xs = None
done d of (Some o) xs = Some (does o (receiver d of o xs))

-- a result that isn't followed
abbrev pub plainly : {A : Type 0} → A → Result → List A → List A
plainly d Void xs = xs
plainly d (Words n) xs = filled d n xs
plainly d Boolean xs = d ∷ xs
plainly d (Of name class) xs = d ∷ xs

-- without so many operands, and with one more
abbrev pub popped : {A : Type 0} → ℕ → Shape A → Shape A
popped n s = shape s.locals (rest n s.operands)

abbrev pub pushed : {A : Type 0} → A → Shape A → Shape A
pushed x s = shape s.locals (x ∷ s.operands)

-- what an instruction does that only moves values; None of others
abbrev pub straight : {A : Type 0} → Kit A → Instruction → Shape A → Option (Shape A)
straight k (Move n gs) s = Some (shape s.locals (gives k (first n s.operands) gs (rest n s.operands)))
straight k (Load i) s = Some (pushed (nth (unknown k) s.locals i) s)
straight k (Store i) s = Some (shape (placed s.locals i (nth (unknown k) s.operands 0)) (rest 1 s.operands))
straight k (Forget i) s = Some (shape (placed s.locals i (unknown k)) s.operands)
straight k Cast s = Some (pushed (k.cast (nth (unknown k) s.operands 0)) (popped 1 s))
straight k Index s =
    Some (pushed (k.index (nth (unknown k) s.operands 1) (nth (unknown k) s.operands 0)) (popped 2 s))
straight k TakeOrdinal s = Some (pushed (k.ordinal (nth (unknown k) s.operands 0)) (popped 1 s))
straight k _ s = None

-- where a test goes on
abbrev pub way : Bool → (there at : ℕ) → ℕ
way true there at = there
way false there at = suc at

-- behind a throw that is caught: the locals, and what was thrown
abbrev pub caught : {A : Type 0} → Kit A → Shape A → Shape A
caught k s = shape s.locals ((unknown k) ∷ [])

-- these the other way round, before those
abbrev pub turned : {A : Type 0} → List A → List A → List A
turned [] ys = ys
turned (x ∷ xs) ys = turned xs (x ∷ ys)

-- where a method begins: with its arguments, of which the last one comes first, and other locals behind them
abbrev pub begun : {A : Type 0} → Kit A → (locals : ℕ) → List A → Shape A
begun k n args = shape (turned args (filled (unknown k) n [])) []

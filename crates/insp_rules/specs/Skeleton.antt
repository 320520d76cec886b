-- The machine: frames over objects with the calls that were made on them.
use Rattle.std.specs.Prelude.{◌≡◌, ℕ, zero, suc, ◌==◌, Bool, true, false, List, [], ◌∷◌, ◌++◌, Contains, Option, Some, None, if◌then◌else◌}
use Rattle.std.specs.Prelude.{option_and_then, codes}
use Rattle.std.specs.Str.{bytes_eq}
use Rattle.mg_text.specs.Call.{Name, Call as CallOf}
use Rattle.ts_tree.specs.declared.parts.To.{To}
use Rattle.ts_tree.specs.declared.parts.To.TheVariants as tos
use Rattle.ts_tree.specs.Typestate.{Target, One, ByAnswer, Method as Offer, State as StateOf, Typestate}
use Rattle.ts_tree.specs.Calls.{initial, by_label, offered, led}
use Rattle.insp_rules.specs.Program.{Class, Kind, Truth, Constants, Form, Itself, Ordinal, Mapped, Bare, Result, Void, Words, Boolean, Of}
use Rattle.insp_rules.specs.Program.{related, Comparison, Arm, Instruction, Go, Either, IfNull, IfSame, IfSign, IfNumbers, Switch, Make}
use Rattle.insp_rules.specs.Program.{Call, CallIn, CallOut, Keep, Return, Program, code_at, number_of, goes_for, compares, is_zero_by}
use Rattle.insp_rules.specs.Program.{Invocation, Receiver, OfNull, Whole, Perhaps, Unknown, taken, class_of, done, plainly}
use Rattle.insp_rules.specs.Program.{agree, unknown}
use Rattle.insp_rules.specs.Program.{handlers_at, locals_at, Shape, Kit, nth, first, rest, filled, shape, popped, pushed, straight, way}
use Rattle.insp_rules.specs.Program.{caught, begun}
use Rattle.insp_rules.specs.Program as program

-- something that isn't followed and of which nothing is known, null, one of the numbers 0 and 1, a switch map, a constant of a class, an
-- object, an object once more, as its own method gave it back, something else that an object's own method gave back, and an answer
pub data Value : Type 0 where
  Plain : Value
  Nil : Value
  Bit : Bool → Value
  Map : ℕ → Name → Value
  Constant : Name → Name → Value
  Ref : ℕ → Value
  Again : Typestate → ℕ → Value
  Another : Typestate → Value
  Said : Form → Name → Value

-- nothing is followed by it, no object's own method gave it back, and it is no null that is known to be one
abbrev pub is_loose : Value → Bool
is_loose Nil = false
is_loose (Ref o) = false
is_loose (Again t o) = false
is_loose (Another t) = false
is_loose _ = true

-- it is an object, also once more
abbrev pub is_followed : Value → Bool
is_followed (Ref o) = true
is_followed (Again t o) = true
is_followed _ = false

-- an object: whether null was handed out in its place, whether a throw came upon it, its calls since then, or all of them, and what the
-- last of these answered
pub record Thing : Type 0 where
  pub of : Class
  pub null : Bool
  pub came : Bool
  pub calls : List CallOf
  pub answer : Option Name

pub record Frame : Type 0 where
  pub method : ℕ
  pub at : ℕ
  pub shape : Shape Value

-- the frame that runs first, then those that wait for it; the objects, and how many were made
pub record State : Type 0 where
  pub stack : List Frame
  pub things : ℕ → Thing
  pub next : ℕ

abbrev pub frame : (method at : ℕ) → Shape Value → Frame
frame m at s = record { method = m; at = at; shape = s }

abbrev pub state : List Frame → (ℕ → Thing) → ℕ → State
state fs things n = record { stack = fs; things = things; next = n }

abbrev pub bare : Bare → Value
bare program.Other = Plain
bare (program.Bit b) = Bit b
bare program.Null = Nil
bare program.Lost = Plain
bare (program.Alias t) = Another t
bare (program.Map m class) = Map m class
bare (program.Constant class label) = Constant class label

-- what a switch map has at the place of a constant
abbrev pub index : Value → Value → Value
index (Map m class) (Said (Ordinal other) label) = if bytes_eq class other then Said (Mapped m) label else Plain
index _ _ = Plain

abbrev pub ordinal : Value → Value
ordinal (Said (Itself (Constants class)) label) = Said (Ordinal class) label
ordinal _ = Plain

abbrev pub values : Kit Value
values = record { bare = bare; cast = λ v. v; index = index; ordinal = ordinal }

-- the same but for one number
abbrev pub put : {A : Type 0} → ℕ → A → (ℕ → A) → ℕ → A
put n x f k = if k == n then x else f k

-- ---- objects

-- the number of the state with this name
abbrev pub named_from : ℕ → List StateOf → Name → Option To
named_from n [] name = None
named_from n (s ∷ ss) name = if bytes_eq s.name name then Some (tos.State n) else named_from (suc n) ss name

-- the state that says what may be called on an object that a throw came upon
abbrev pub thrown_at : Class → Option To
thrown_at c = named_from 0 c.typestate.states (codes "thrown")

abbrev pub begins : Class → Bool → Option To
begins c true = thrown_at c
begins c false = Some (initial c.typestate)

-- where the calls of an object lead
abbrev pub place : Thing → Option To
place x = option_and_then (λ from. led x.of.typestate from x.calls) (begins x.of x.came)

abbrev pub handed : Bool → Class → Thing
handed null c = record { of = c; null = null; came = false; calls = []; answer = None }

abbrev pub made : Class → Thing
made c = handed false c

abbrev pub called : Thing → Name → Option Name → Thing
called x name answer = record {
  of = x.of;
  null = x.null;
  came = x.came;
  calls = x.calls ++ record { method = name; answer = answer } ∷ [];
  answer = answer;
}

-- a throw comes upon it
abbrev pub upset : Thing → Thing
upset x = record { of = x.of; null = x.null; came = true; calls = []; answer = None }

-- the method of this name that a place offers
abbrev pub offered_at : Class → To → Name → Option Offer
offered_at c (tos.State q) name = offered c.typestate q name
offered_at c tos.End name = None

-- an answer that calls which lead there may give
abbrev pub Fits : Target → Option Name → Type 0
Fits (One to) answer = answer ≡ None
Fits (ByAnswer branches) answer = (label : Name) × (to : To) × (answer ≡ Some label) × (by_label branches label ≡ Some to)

-- where its typestate offers the method the object answers by it; else it may answer anything
abbrev pub MayAnswer : Thing → Name → Option Name → Type 0
MayAnswer x name answer = (to : To) (m : Offer) → place x ≡ Some to → offered_at x.of to name ≡ Some m → Fits m.target answer

-- the kind of a result that tells a label; None of others
abbrev pub kind_of : Result → Option Kind
kind_of Void = None
kind_of (Words n) = None
kind_of Boolean = Some Truth
kind_of (Of class followed) = Some (Constants class)

-- what a call on an object of a class that answers with no label may leave on the operands, but for something new: where the result is of
-- the object's own class, or one of the two extends the other, the object once more, or something else
pub data Leaves (o : ℕ) (c : Class) : Result → List Value → List Value → Type 0 where
  nothing : {vs : List Value} → Leaves o c Void vs vs
  words : {n : ℕ} {vs : List Value} → Leaves o c (Words n) vs (filled Plain n vs)
  truth : {vs : List Value} → Leaves o c Boolean vs (Plain ∷ vs)
  plain : {class : Name} {vs : List Value} → Leaves o c (Of class None) vs (Plain ∷ vs)
  again : {class : Name} {d : Class} {vs : List Value} → related c d ≡ true →
      Leaves o c (Of class (Some d)) vs (Again c.typestate o ∷ vs)
  another : {class : Name} {d : Class} {vs : List Value} → related c d ≡ true →
      Leaves o c (Of class (Some d)) vs (Another c.typestate ∷ vs)

-- what a call leaves that answers with this label
abbrev pub told : Result → Name → List Value → List Value
told Void label vs = vs
told (Words n) label vs = filled Plain n vs
told Boolean label vs = Said (Itself Truth) label ∷ vs
told (Of class followed) label vs = Said (Itself (Constants class)) label ∷ vs

-- the class of which a call on an object of the class c gives something new, or null: it is followed, and not related to c
abbrev pub fresh_of : Class → Result → Option Class
fresh_of c Void = None
fresh_of c (Words n) = None
fresh_of c Boolean = None
fresh_of c (Of class None) = None
fresh_of c (Of class (Some d)) = if related c d then None else Some d

-- ---- tests: each way where nothing is known

-- a test goes this way: it is known to, or nothing is known
pub data Tells : Option Bool → Bool → Type 0 where
  known : {b : Bool} → Tells (Some b) b
  either : {b : Bool} → Tells None b

abbrev pub is_nil : (ℕ → Thing) → Value → Option Bool
is_nil h Nil = Some true
is_nil h (Ref o) = Some (h o).null
is_nil h _ = None

abbrev pub both : Bool → Bool → Bool
both a b = if a then b else false

abbrev pub are_same : (ℕ → Thing) → Value → Value → Option Bool
are_same h (Ref a) (Ref b) = Some (if a == b then true else both (h a).null (h b).null)
are_same h Nil Nil = Some true
are_same h (Ref a) Nil = Some (h a).null
are_same h Nil (Ref b) = Some (h b).null
are_same h _ _ = None

-- of which of them a test that finds null, or both the same, shows that they are null
abbrev pub null_shows : Value → List ℕ
null_shows (Ref o) = o ∷ []
null_shows _ = []

abbrev pub same_shows : Value → Value → List ℕ
same_shows (Ref a) (Ref b) = if a == b then [] else a ∷ b ∷ []
same_shows (Ref a) Nil = a ∷ []
same_shows Nil (Ref b) = b ∷ []
same_shows _ _ = []

abbrev pub listed : ℕ → List ℕ → Bool
listed g [] = false
listed g (a ∷ xs) = if a == g then true else listed g xs

-- null in the places of these
abbrev pub nulled : List ℕ → List Value → List Value
nulled os [] = []
nulled os (Ref o ∷ vs) = (if listed o os then Nil else Ref o) ∷ nulled os vs
nulled os (v ∷ vs) = v ∷ nulled os vs

-- behind a test that showed that these are null, or didn't
abbrev pub shown : Bool → List ℕ → Shape Value → Shape Value
shown true os s = shape (nulled os s.locals) (nulled os s.operands)
shown false os s = s

abbrev pub comparing : Comparison → Value → Value → Option Bool
comparing c (Bit a) (Bit b) = Some (compares c a b)
comparing c _ _ = None

-- the label of a truth that is compared with 0; of a constant that is compared with one of its class, and that one's
abbrev pub sign_asks : Comparison → Value → Option Name
sign_asks c (Said (Itself Truth) label) = elim (is_zero_by c true) [ None ↦ None | Some z ↦ Some label ]
sign_asks c _ = None

abbrev pub constant_asks : Value → Value → Option (Name × Name)
constant_asks (Said (Itself (Constants a)) label) (Constant b other) = if bytes_eq a b then Some (label, other) else None
constant_asks (Constant b other) (Said (Itself (Constants a)) label) = if bytes_eq a b then Some (label, other) else None
constant_asks _ _ = None

-- the label of a constant whose number in a switch map is at hand, with the map
abbrev pub switch_asks : Value → Option (ℕ × Name)
switch_asks (Said (Mapped m) label) = Some (m, label)
switch_asks _ = None

-- `Jumps p h i at s to t`: the instruction there takes the frame to this place
pub data Jumps (p : Program) (h : ℕ → Thing) (i : Instruction) (at : ℕ) (s : Shape Value) : ℕ → Shape Value → Type 0 where
  go : (there : ℕ) → i ≡ Go there → Jumps p h i at s there s
  either : (there : ℕ) (b : Bool) → i ≡ Either there → Jumps p h i at s (way b there at) s
  null : (is : Bool) (there : ℕ) (b : Bool) → i ≡ IfNull is there → Tells (is_nil h (nth Plain s.operands 0)) b →
      Jumps p h i at s (way (agree is b) there at) (shown b (null_shows (nth Plain s.operands 0)) (popped 1 s))
  same : (is : Bool) (there : ℕ) (b : Bool) → i ≡ IfSame is there →
      constant_asks (nth Plain s.operands 0) (nth Plain s.operands 1) ≡ None →
      Tells (are_same h (nth Plain s.operands 0) (nth Plain s.operands 1)) b → Jumps p h i at s (way (agree is b) there at)
      (shown b (same_shows (nth Plain s.operands 0) (nth Plain s.operands 1)) (popped 2 s))
  constant : (is : Bool) (there : ℕ) (label other : Name) → i ≡ IfSame is there →
      constant_asks (nth Plain s.operands 0) (nth Plain s.operands 1) ≡ Some (label, other) →
      Jumps p h i at s (way (agree is (bytes_eq label other)) there at) (popped 2 s)
  sign : (c : Comparison) (there : ℕ) (b : Bool) → i ≡ IfSign c there → sign_asks c (nth Plain s.operands 0) ≡ None →
      Tells (comparing c (nth Plain s.operands 0) (Bit false)) b → Jumps p h i at s (way b there at) (popped 1 s)
  truth : (c : Comparison) (there : ℕ) (b z : Bool) (label : Name) → i ≡ IfSign c there →
      sign_asks c (nth Plain s.operands 0) ≡ Some label → is_zero_by c b ≡ Some z → bytes_eq label (program.truth z) ≡ true →
      Jumps p h i at s (way b there at) (popped 1 s)
  numbers : (c : Comparison) (there : ℕ) (b : Bool) → i ≡ IfNumbers c there →
      Tells (comparing c (nth Plain s.operands 1) (nth Plain s.operands 0)) b → Jumps p h i at s (way b there at) (popped 2 s)
  switch : (arms : List Arm) (other : ℕ) (number : Option ℕ) → i ≡ Switch arms other →
      switch_asks (nth Plain s.operands 0) ≡ None → Jumps p h i at s (goes_for arms other number) (popped 1 s)
  mapped : (arms : List Arm) (other m : ℕ) (label : Name) → i ≡ Switch arms other →
      switch_asks (nth Plain s.operands 0) ≡ Some (m, label) →
      Jumps p h i at s (goes_for arms other (Some (number_of p m label))) (popped 1 s)

-- what a method gives back
abbrev pub result : ℕ → Shape Value → Value
result (suc zero) s = nth Plain s.operands 0
result _ s = Plain

-- what so many words of it are on the operands
abbrev pub returned : {A : Type 0} → Kit A → ℕ → A → List A → List A
returned k (suc zero) x xs = x ∷ xs
returned k n x xs = filled (unknown k) n xs

-- ---- steps

abbrev pub receiver_of : (ℕ → Thing) → Value → Receiver
receiver_of h Nil = OfNull
receiver_of h (Ref o) = Whole (h o).of
receiver_of h (Again t o) = Perhaps t
receiver_of h (Another t) = Perhaps t
receiver_of h _ = Unknown

-- what is done at a place by a frame
abbrev pub instruction_at : Program → (ℕ → Thing) → (method at : ℕ) → Shape Value → Option Instruction
instruction_at p h m at s = done Plain (receiver_of h) (code_at p m at) s.operands

-- a value in the hands of a method outside, where nothing is followed
abbrev pub let_go : Value → Value
let_go (Ref o) = Plain
let_go (Again t o) = Plain
let_go (Another t) = Plain
let_go v = v

abbrev pub let_go_all : List Value → List Value
let_go_all [] = []
let_go_all (v ∷ vs) = let_go v ∷ let_go_all vs

-- one instruction of the frame that runs
pub data Step (p : Program) : State → State → Type 0 where
  moves : {m at : ℕ} {s t : Shape Value} {fs : List Frame} {h : ℕ → Thing} {n : ℕ} (i : Instruction) → instruction_at p h m at s ≡ Some i →
      straight values i s ≡ Some t → Step p (state (frame m at s ∷ fs) h n) (state (frame m (suc at) t ∷ fs) h n)
  jumps : {m at to : ℕ} {s t : Shape Value} {fs : List Frame} {h : ℕ → Thing} {n : ℕ} (i : Instruction) →
      instruction_at p h m at s ≡ Some i →
      Jumps p h i at s to t → Step p (state (frame m at s ∷ fs) h n) (state (frame m to t ∷ fs) h n)
  makes : {m at : ℕ} {s : Shape Value} {fs : List Frame} {h : ℕ → Thing} {n : ℕ} (c : Class) → instruction_at p h m at s ≡ Some (Make c) →
      Step p (state (frame m at s ∷ fs) h n) (state (frame m (suc at) (pushed (Ref n) s) ∷ fs) (put n (made c) h) (suc n))
  -- what it gives but for something new: with a label, and with none
  tells : {m at : ℕ} {s : Shape Value} {fs : List Frame} {h : ℕ → Thing} {n : ℕ} (name : Name) (k : ℕ) (has : Result) (o : ℕ)
      (label : Name) → instruction_at p h m at s ≡ Some (Call name k has) → nth Plain s.operands k ≡ Ref o → (h o).null ≡ false →
      MayAnswer (h o) name (Some label) →
      Step p (state (frame m at s ∷ fs) h n)
      (state (frame m (suc at) (shape s.locals (told has label (rest (suc k) s.operands))) ∷ fs)
      (put o (called (h o) name (Some label)) h) n)
  calls : {m at : ℕ} {s : Shape Value} {fs : List Frame} {h : ℕ → Thing} {n : ℕ} (name : Name) (k : ℕ) (has : Result) (o : ℕ)
      (vs : List Value) → instruction_at p h m at s ≡ Some (Call name k has) → nth Plain s.operands k ≡ Ref o → (h o).null ≡ false →
      MayAnswer (h o) name None →
      Leaves o (h o).of has (rest (suc k) s.operands) vs →
      Step p (state (frame m at s ∷ fs) h n)
      (state (frame m (suc at) (shape s.locals vs) ∷ fs) (put o (called (h o) name None) h) n)
  calls_made : {m at : ℕ} {s : Shape Value} {fs : List Frame} {h : ℕ → Thing} {n : ℕ} (name : Name) (k : ℕ) (has : Result) (o : ℕ)
      (d : Class) (null : Bool) → instruction_at p h m at s ≡ Some (Call name k has) → nth Plain s.operands k ≡ Ref o →
      (h o).null ≡ false → MayAnswer (h o) name None →
      fresh_of (h o).of has ≡ Some d →
      Step p (state (frame m at s ∷ fs) h n)
      (state (frame m (suc at) (shape s.locals (Ref n ∷ rest (suc k) s.operands)) ∷ fs)
      (put n (handed null d) (put o (called (h o) name None) h)) (suc n))
  outside : {m at : ℕ} {s : Shape Value} {fs : List Frame} {h : ℕ → Thing} {n : ℕ} (v : Invocation) →
      instruction_at p h m at s ≡ Some (CallOut v) → class_of v.result ≡ None →
      Step p (state (frame m at s ∷ fs) h n)
      (state (frame m (suc at) (shape s.locals (plainly Plain v.result (rest (taken v) s.operands))) ∷ fs) h n)
  -- it gives an object that nobody else has, or null
  outside_made : {m at : ℕ} {s : Shape Value} {fs : List Frame} {h : ℕ → Thing} {n : ℕ} (v : Invocation) (c : Class) (null : Bool) →
      instruction_at p h m at s ≡ Some (CallOut v) → class_of v.result ≡ Some c →
      Step p (state (frame m at s ∷ fs) h n)
      (state (frame m (suc at) (pushed (Ref n) (popped (taken v) s)) ∷ fs) (put n (handed null c) h) (suc n))
  keeps : {m at : ℕ} {s : Shape Value} {fs : List Frame} {h : ℕ → Thing} {n : ℕ} (k : ℕ) → instruction_at p h m at s ≡ Some (Keep k) →
      Step p (state (frame m at s ∷ fs) h n) (state (frame m (suc at) (popped k s) ∷ fs) h n)
  -- the arguments stay where they are while the method runs
  enters : {m at : ℕ} {s : Shape Value} {fs : List Frame} {h : ℕ → Thing} {n : ℕ} (callee k words : ℕ) →
      instruction_at p h m at s ≡ Some (CallIn callee k words) →
      Step p (state (frame m at s ∷ fs) h n)
      (state (frame callee 0 (begun values (locals_at p callee) (first k s.operands)) ∷ frame m at s ∷ fs) h n)
  returns : {m at m0 at0 : ℕ} {s s0 : Shape Value} {fs : List Frame} {h : ℕ → Thing} {n : ℕ} (callee k words : ℕ) →
      instruction_at p h m at s ≡ Some (Return words) → instruction_at p h m0 at0 s0 ≡ Some (CallIn callee k words) →
      Step p (state (frame m at s ∷ frame m0 at0 s0 ∷ fs) h n)
      (state (frame m0 (suc at0) (shape s0.locals (returned values words (result words s) (rest k s0.operands))) ∷ fs) h n)
  ends : {m at : ℕ} {s : Shape Value} {h : ℕ → Thing} {n : ℕ} (words : ℕ) → instruction_at p h m at s ≡ Some (Return words) →
      Step p (state (frame m at s ∷ []) h n) (state [] h n)

-- ---- throws

-- the instruction is no call of a method of the program
abbrev pub IsNoCallIn : Instruction → Type 0
IsNoCallIn i = (callee k words : ℕ) → i ≡ CallIn callee k words → ⊥

-- a throw there leaves all objects as they were: the instruction is no call of a method of the program, and no call of a protocol on an
-- object
pub record LeavesAll (h : ℕ → Thing) (i : Instruction) (s : Shape Value) : Type 0 where
  pub no_call : IsNoCallIn i
  pub on_null : (name : Name) (k : ℕ) (has : Result) (o : ℕ) → i ≡ Call name k has → nth Plain s.operands k ≡ Ref o → (h o).null ≡ true

-- whether one of these is the object
abbrev pub among : ℕ → List Value → Bool
among o [] = false
among o (Ref a ∷ vs) = if a == o then true else among o vs
among o (_ ∷ vs) = among o vs

-- a throw comes upon those among these
abbrev pub upset_all : List Value → (ℕ → Thing) → ℕ → Thing
upset_all vs h o = if among o vs then upset (h o) else h o

-- a throw comes out of a method that these wait for: the first that catches it goes on, and the arguments of its call were come upon
pub data Unwinds (p : Program) (h : ℕ → Thing) (n : ℕ) : List Frame → State → Type 0 where
  out : Unwinds p h n [] (state [] h n)
  caught_in : {m at : ℕ} {s : Shape Value} {fs : List Frame} (callee k words to : ℕ) →
      instruction_at p h m at s ≡ Some (CallIn callee k words) →
      Contains (handlers_at p m at) to →
      Unwinds p h n (frame m at s ∷ fs) (state (frame m to (caught values s) ∷ fs) (upset_all (first k s.operands) h) n)
  passes : {f : Frame} {fs : List Frame} {s : State} → Unwinds p h n fs s → Unwinds p h n (f ∷ fs) s
  -- it came out of a method that was called back: a frame that doesn't wait for a method of the program is where it was, and may throw in
  -- turn
  stops : {f : Frame} {fs : List Frame} (i : Instruction) → instruction_at p h f.method f.at f.shape ≡ Some i → IsNoCallIn i →
      Unwinds p h n (f ∷ fs) (state (f ∷ fs) h n)

-- Each instruction may throw. A call of a protocol has come to the object then, but where that is null; the arguments of a call of a
-- method of the program are come upon, also where the method hasn't begun; elsewhere all objects are as they were.
pub data Throws (p : Program) : State → State → Type 0 where
  before : {m at : ℕ} {s : Shape Value} {fs : List Frame} {h : ℕ → Thing} {n : ℕ} (to : ℕ) (i : Instruction) →
      Contains (handlers_at p m at) to → instruction_at p h m at s ≡ Some i → LeavesAll h i s →
      Throws p (state (frame m at s ∷ fs) h n) (state (frame m to (caught values s) ∷ fs) h n)
  unbegun : {m at : ℕ} {s : Shape Value} {fs : List Frame} {h : ℕ → Thing} {n : ℕ} (to callee k words : ℕ) →
      Contains (handlers_at p m at) to → instruction_at p h m at s ≡ Some (CallIn callee k words) →
      Throws p (state (frame m at s ∷ fs) h n) (state (frame m to (caught values s) ∷ fs) (upset_all (first k s.operands) h) n)
  amid : {m at : ℕ} {s : Shape Value} {fs : List Frame} {h : ℕ → Thing} {n : ℕ} (to : ℕ) (name : Name) (k : ℕ) (has : Result) (o : ℕ) →
      Contains (handlers_at p m at) to → instruction_at p h m at s ≡ Some (Call name k has) → nth Plain s.operands k ≡ Ref o →
      Throws p (state (frame m at s ∷ fs) h n) (state (frame m to (caught values s) ∷ fs) (put o (upset (h o)) h) n)
  through : {f : Frame} {fs : List Frame} {h : ℕ → Thing} {n : ℕ} {s : State} → Unwinds p h n fs s → Throws p (state (f ∷ fs) h n) s

-- whether some frame has the object: in a local, or among the operands, those that it handed to a call under way too
abbrev pub has_it : ℕ → Shape Value → Bool
has_it o s = if among o s.locals then true else among o s.operands

abbrev pub someone_has : ℕ → List Frame → Bool
someone_has o [] = false
someone_has o (f ∷ fs) = if has_it o f.shape then true else someone_has o fs

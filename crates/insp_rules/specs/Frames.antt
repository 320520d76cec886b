-- Abstract frames: what is known of each place, and of each object that a place has.
use Rattle.std.specs.Prelude.{◌≡◌, ℕ, zero, suc, ◌≤◌, ◌==◌, Bool, true, false, List, [], ◌∷◌, Option, Some, None, if◌then◌else◌}
use Rattle.std.specs.Prelude.{option_and_then}
use Rattle.std.specs.List.{AllByRecursion}
use Rattle.std.specs.Str.{bytes_eq}
use Rattle.mg_text.specs.Call.{Name}
use Rattle.ts_tree.specs.declared.parts.To.{To}
use Rattle.ts_tree.specs.declared.parts.Branch.{Branch}
use Rattle.ts_tree.specs.Typestate.{One, ByAnswer, Method as Offer, Typestate}
use Rattle.ts_tree.specs.Calls.{initial, by_label, may_end}
use Rattle.insp_rules.specs.Program.{Class, Kind, Truth, Constants, Form, Itself, Ordinal, Mapped, Bare as BareOf, Other, Bit, Null, Lost}
use Rattle.insp_rules.specs.Program.{Alias, Map}
use Rattle.insp_rules.specs.Program.{Constant, Result, Void, Words, Boolean, Of, related, Comparison, Arm, Instruction, Go, Either, IfNull}
use Rattle.insp_rules.specs.Program.{IfSame}
use Rattle.insp_rules.specs.Program.{IfSign, IfNumbers, Switch, Make, Call, CallOut, Keep, Return, Throw, Program, number_of, arm_of}
use Rattle.insp_rules.specs.Program.{goes_for}
use Rattle.insp_rules.specs.Program.{compares}
use Rattle.insp_rules.specs.Program.{is_zero_by, agree, Shape, Kit, nth, first, rest, filled, shape, popped, pushed, straight, way}
use Rattle.insp_rules.specs.Program.{Invocation, Receiver, OfNull, Whole, Perhaps, Unknown, taken, class_of, names, is_protocol, done}
use Rattle.insp_rules.specs.Program.{plainly}
use Rattle.insp_rules.specs.Program.{code_at}
use Rattle.insp_rules.specs.Program as program
use Rattle.insp_rules.specs.Skeleton.{put, thrown_at, offered_at, fresh_of, Tells, both, listed}

-- what is known of a value: it has nothing to do with an object that is followed; it is the object of this group; it is what the last call
-- on that object answered, in this form
pub data Known : Type 0 where
  Bare : BareOf → Known
  Object : ℕ → Known
  Answer : ℕ → Form → Known

-- where an object is: at one place of its typestate; at one of these, by the label that its last call answered; nothing may be called on it
pub data Element : Type 0 where
  At : To → Element
  Pending : List Branch → Element
  Broken : Element

-- an object: its class, where it is, and whether it may be null instead
pub record Group : Type 0 where
  pub of : Class
  pub element : Element
  pub null : Bool

-- an abstract frame: what is known of its places, the groups, and a number above theirs
pub record Sight : Type 0 where
  pub shape : Shape Known
  pub groups : ℕ → Option Group
  pub count : ℕ

abbrev pub group : Class → Element → Bool → Group
group c e null = record { of = c; element = e; null = null }

-- an object in its initial state
abbrev pub new_group : Bool → Class → Group
new_group null c = group c (At (initial c.typestate)) null

abbrev pub sight : Shape Known → (ℕ → Option Group) → ℕ → Sight
sight s gs n = record { shape = s; groups = gs; count = n }

abbrev pub unknown : Known
unknown = Bare Other

abbrev pub cast : Known → Known
cast (Bare Other) = Bare Lost
cast x = x

-- what a switch map has at the place of a constant
abbrev pub index : Known → Known → Known
index (Bare (Map m class)) (Answer g (Ordinal other)) = if bytes_eq class other then Answer g (Mapped m) else Bare Other
index _ _ = Bare Other

abbrev pub ordinal : Known → Known
ordinal (Answer g (Itself (Constants class))) = Answer g (Ordinal class)
ordinal _ = Bare Other

abbrev pub knowns : Kit Known
knowns = record { bare = λ b. Bare b; cast = cast; index = index; ordinal = ordinal }

-- ---- elements

abbrev pub all_end : Typestate → List Branch → Bool
all_end t [] = true
all_end t (b ∷ bs) = if may_end t b.to then all_end t bs else false

-- whether the object may be left
abbrev pub finished : Group → Bool
finished x = elim x.element [ At to ↦ may_end x.of.typestate to | Pending branches ↦ all_end x.of.typestate branches | Broken ↦ true ]

pub data MayBe : Element → To → Type 0 where
  at : {to : To} → MayBe (At to) to
  by : {branches : List Branch} {to : To} (label : Name) → by_label branches label ≡ Some to → MayBe (Pending branches) to

-- the branches with these labels
abbrev pub kept : (Name → Bool) → List Branch → List Branch
kept fits [] = []
kept fits (b ∷ bs) = if fits b.label then b ∷ kept fits bs else kept fits bs

abbrev pub narrowed : List Branch → Option Element
narrowed [] = None
narrowed (b ∷ []) = Some (At b.to)
narrowed (b ∷ c ∷ bs) = Some (Pending (b ∷ c ∷ bs))

-- where the answer is one of these labels; None where that can't be
abbrev pub refined : (Name → Bool) → Element → Option Element
refined fits (At to) = Some (At to)
refined fits (Pending branches) = narrowed (kept fits branches)
refined fits Broken = Some Broken

abbrev pub thrown_by : Option To → Element
thrown_by None = Broken
thrown_by (Some to) = At to

-- the object after a throw came upon it
abbrev pub upset_group : Group → Group
upset_group x = group x.of (thrown_by (thrown_at x.of)) x.null

-- ---- places

abbrev pub known_among : ℕ → List Known → Bool
known_among g [] = false
known_among g (Object a ∷ xs) = if a == g then true else known_among g xs
known_among g (_ ∷ xs) = known_among g xs

-- whether a place of the frame has it
abbrev pub has_group : ℕ → Shape Known → Bool
has_group g s = if known_among g s.locals then true else known_among g s.operands

-- answers of these are no longer told apart
abbrev pub forgets : (ℕ → Bool) → Known → Known
forgets these (Bare b) = Bare b
forgets these (Object g) = Object g
forgets these (Answer g form) = if these g then Bare Other else Answer g form

abbrev pub forget_all : (ℕ → Bool) → List Known → List Known
forget_all these [] = []
forget_all these (x ∷ xs) = forgets these x ∷ forget_all these xs

-- ---- what an instruction does

-- whether the object of a group may be null
abbrev pub null_of : Option Group → Bool
null_of None = false
null_of (Some x) = x.null

abbrev pub is_null : (ℕ → Option Group) → Known → Option Bool
is_null gs (Bare Null) = Some true
is_null gs (Object g) = if null_of (gs g) then None else Some false
is_null gs _ = None

abbrev pub unless : Bool → Bool → Option Bool
unless maybe b = if maybe then None else Some b

-- two objects that may both be null are perhaps the same
abbrev pub are_same : (ℕ → Option Group) → Known → Known → Option Bool
are_same gs (Object g) (Object h) = if g == h then Some true else unless (both (null_of (gs g)) (null_of (gs h))) false
are_same gs (Bare Null) (Bare Null) = Some true
are_same gs (Object g) (Bare Null) = unless (null_of (gs g)) false
are_same gs (Bare Null) (Object g) = unless (null_of (gs g)) false
are_same gs _ _ = None

-- the groups of which a test that finds null, or both the same, shows that they are null
abbrev pub null_shows : Known → List ℕ
null_shows (Object g) = g ∷ []
null_shows _ = []

abbrev pub same_shows : Known → Known → List ℕ
same_shows (Object g) (Object h) = if g == h then [] else g ∷ h ∷ []
same_shows (Object g) (Bare Null) = g ∷ []
same_shows (Bare Null) (Object g) = g ∷ []
same_shows _ _ = []

-- null in the places of these
abbrev pub nulled : List ℕ → List Known → List Known
nulled gs [] = []
nulled gs (Bare b ∷ xs) = Bare b ∷ nulled gs xs
nulled gs (Object g ∷ xs) = (if listed g gs then Bare Null else Object g) ∷ nulled gs xs
nulled gs (Answer g form ∷ xs) = (if listed g gs then Bare Other else Answer g form) ∷ nulled gs xs

abbrev pub is_below : (n g : ℕ) → Bool
is_below zero g = false
is_below (suc n) g = if n == g then true else is_below n g

-- without these, but for those that are held
abbrev pub without : (held : ℕ) → List ℕ → (ℕ → Option Group) → ℕ → Option Group
without held these gs g = if is_below held g then gs g else (if listed g these then None else gs g)

-- the one of these, where it is one, isn't null
abbrev pub surely : List ℕ → (ℕ → Option Group) → ℕ → Option Group
surely (g ∷ []) gs = λ a. if a == g then option_and_then (λ x. Some (group x.of x.element false)) (gs a) else gs a
surely _ gs = gs

-- behind a test that showed that these are null, or didn't
abbrev pub shown : (held : ℕ) → Bool → List ℕ → Shape Known → Sight → Sight
shown held true these s f = sight (shape (nulled these s.locals) (nulled these s.operands)) (without held these f.groups) f.count
shown held false these s f = sight s (surely these f.groups) f.count

abbrev pub comparing : Comparison → Known → Known → Option Bool
comparing c (Bare (Bit a)) (Bare (Bit b)) = Some (compares c a b)
comparing c _ _ = None

-- the group whose answer, a truth, is compared with 0; whose answer is compared with a constant of its class, and that one's label
abbrev pub sign_asks : Comparison → Known → Option ℕ
sign_asks c (Answer g (Itself Truth)) = elim (is_zero_by c true) [ None ↦ None | Some z ↦ Some g ]
sign_asks c _ = None

abbrev pub constant_asks : Known → Known → Option (ℕ × Name)
constant_asks (Answer g (Itself (Constants a))) (Bare (Constant b other)) = if bytes_eq a b then Some (g, other) else None
constant_asks (Bare (Constant b other)) (Answer g (Itself (Constants a))) = if bytes_eq a b then Some (g, other) else None
constant_asks _ _ = None

-- the group of whose answer a switch map has the number, with the map
abbrev pub switch_asks : Known → Option (ℕ × ℕ)
switch_asks (Answer g (Mapped m)) = Some (g, m)
switch_asks _ = None

-- the number by which a switch chooses: that of an arm, or none
abbrev pub chosen : List Arm → ℕ → Option ℕ
chosen arms number = option_and_then (λ to. Some number) (arm_of arms number)

abbrev pub is_choice : Option ℕ → Option ℕ → Bool
is_choice None None = true
is_choice None (Some n) = false
is_choice (Some m) None = false
is_choice (Some m) (Some n) = m == n

abbrev pub with_shape : Sight → Shape Known → Sight
with_shape f s = sight s f.groups f.count

-- one more group, which the last operand has
abbrev pub added : Group → Shape Known → Sight → Sight
added x s f = sight (pushed (Object f.count) s) (put f.count (Some x) f.groups) (suc f.count)

abbrev pub is_it : ℕ → ℕ → Bool
is_it g h = h == g

-- behind a call on g, with these on the operands
abbrev pub behind : ℕ → Group → List Known → Shape Known → Sight → Sight
behind g x top s f = sight (shape (forget_all (is_it g) s.locals) top) (put g (Some x) f.groups) f.count

-- what a call on an object of a class leaves that gives nothing new
abbrev pub leaves : Class → Result → List Known → List Known
leaves c Void xs = xs
leaves c (Words n) xs = filled (Bare Other) n xs
leaves c Boolean xs = Bare Other ∷ xs
leaves c (Of class None) xs = Bare Other ∷ xs
leaves c (Of class (Some d)) xs = Bare (Alias c.typestate) ∷ xs

-- what a call on g leaves that answers with a label
abbrev pub told : ℕ → Result → List Known → List Known
told g Void xs = xs
told g (Words n) xs = filled (Bare Other) n xs
told g Boolean xs = Answer g (Itself Truth) ∷ xs
told g (Of class followed) xs = Answer g (Itself (Constants class)) ∷ xs

-- where the answer of a group's object is one of these labels, with these operands
abbrev pub asked : ℕ → Group → Element → Shape Known → Sight → Sight
asked g x e s f = sight s (put g (Some (group x.of e x.null)) f.groups) f.count

-- what is known of a receiver
abbrev pub class_known : Option Group → Receiver
class_known None = Unknown
class_known (Some x) = Whole x.of

abbrev pub receiver_of : (ℕ → Option Group) → Known → Receiver
receiver_of gs (Bare Null) = OfNull
receiver_of gs (Bare (Alias t)) = Perhaps t
receiver_of gs (Object g) = class_known (gs g)
receiver_of gs _ = Unknown

-- what is done at a place by a frame of which this is known
abbrev pub seen_at : Program → (method place : ℕ) → Sight → Option Instruction
seen_at p m place f = done unknown (receiver_of f.groups) (code_at p m place) f.shape.operands

-- `Way p held i at f to g`: behind the instruction i at this place may be, at the place `to`, what is known by g
pub data Way (p : Program) (held : ℕ) (i : Instruction) (at : ℕ) (f : Sight) : ℕ → Sight → Type 0 where
  moves : (s : Shape Known) → straight knowns i f.shape ≡ Some s → Way p held i at f (suc at) (with_shape f s)
  go : (there : ℕ) → i ≡ Go there → Way p held i at f there f
  either : (there : ℕ) (b : Bool) → i ≡ Either there → Way p held i at f (way b there at) f
  null : (is : Bool) (there : ℕ) (b : Bool) → i ≡ IfNull is there → Tells (is_null f.groups (nth unknown f.shape.operands 0)) b →
      Way p held i at f (way (agree is b) there at) (shown held b (null_shows (nth unknown f.shape.operands 0)) (popped 1 f.shape) f)
  same : (is : Bool) (there : ℕ) (b : Bool) → i ≡ IfSame is there →
      constant_asks (nth unknown f.shape.operands 0) (nth unknown f.shape.operands 1) ≡ None →
      Tells (are_same f.groups (nth unknown f.shape.operands 0) (nth unknown f.shape.operands 1)) b →
      Way p held i at f (way (agree is b) there at)
      (shown held b (same_shows (nth unknown f.shape.operands 0) (nth unknown f.shape.operands 1)) (popped 2 f.shape) f)
  constant : (is : Bool) (there : ℕ) (b : Bool) (g : ℕ) (label : Name) (x : Group) (e : Element) → i ≡ IfSame is there →
      constant_asks (nth unknown f.shape.operands 0) (nth unknown f.shape.operands 1) ≡ Some (g, label) → f.groups g ≡ Some x →
      refined (λ l. agree b (bytes_eq l label)) x.element ≡ Some e →
      Way p held i at f (way (agree is b) there at) (asked g x e (popped 2 f.shape) f)
  sign : (c : Comparison) (there : ℕ) (b : Bool) → i ≡ IfSign c there → sign_asks c (nth unknown f.shape.operands 0) ≡ None →
      Tells (comparing c (nth unknown f.shape.operands 0) (Bare (Bit false))) b →
      Way p held i at f (way b there at) (with_shape f (popped 1 f.shape))
  truth : (c : Comparison) (there : ℕ) (b z : Bool) (g : ℕ) (x : Group) (e : Element) → i ≡ IfSign c there →
      sign_asks c (nth unknown f.shape.operands 0) ≡ Some g → is_zero_by c b ≡ Some z → f.groups g ≡ Some x →
      refined (λ l. bytes_eq l (program.truth z)) x.element ≡ Some e →
      Way p held i at f (way b there at) (asked g x e (popped 1 f.shape) f)
  numbers : (c : Comparison) (there : ℕ) (b : Bool) → i ≡ IfNumbers c there →
      Tells (comparing c (nth unknown f.shape.operands 1) (nth unknown f.shape.operands 0)) b →
      Way p held i at f (way b there at) (with_shape f (popped 2 f.shape))
  switch : (arms : List Arm) (other : ℕ) (number : Option ℕ) → i ≡ Switch arms other →
      switch_asks (nth unknown f.shape.operands 0) ≡ None → Way p held i at f (goes_for arms other number) (with_shape f (popped 1 f.shape))
  mapped : (arms : List Arm) (other g m : ℕ) (choice : Option ℕ) (x : Group) (e : Element) → i ≡ Switch arms other →
      switch_asks (nth unknown f.shape.operands 0) ≡ Some (g, m) → f.groups g ≡ Some x →
      refined (λ l. is_choice choice (chosen arms (number_of p m l))) x.element ≡ Some e →
      Way p held i at f (goes_for arms other choice) (asked g x e (popped 1 f.shape) f)
  makes : (c : Class) → i ≡ Make c → Way p held i at f (suc at) (added (new_group false c) f.shape f)
  leads : (name : Name) (k : ℕ) (has : Result) (g : ℕ) (x : Group) (from to : To) (m : Offer) → i ≡ Call name k has →
      nth unknown f.shape.operands k ≡ Object g → f.groups g ≡ Some x → MayBe x.element from → offered_at x.of from name ≡ Some m →
      m.target ≡ One to → fresh_of x.of has ≡ None →
      Way p held i at f (suc at)
      (behind g (group x.of (At to) false) (leaves x.of has (forget_all (is_it g) (rest (suc k) f.shape.operands))) f.shape f)
  leads_made : (name : Name) (k : ℕ) (has : Result) (d : Class) (g : ℕ) (x : Group) (from to : To) (m : Offer) → i ≡ Call name k has →
      nth unknown f.shape.operands k ≡ Object g → f.groups g ≡ Some x → MayBe x.element from → offered_at x.of from name ≡ Some m →
      m.target ≡ One to → fresh_of x.of has ≡ Some d →
      Way p held i at f (suc at)
      (added (new_group true d)
      (shape (forget_all (is_it g) f.shape.locals) (forget_all (is_it g) (rest (suc k) f.shape.operands)))
      (behind g (group x.of (At to) false) (forget_all (is_it g) (rest (suc k) f.shape.operands)) f.shape f))
  answers : (name : Name) (k : ℕ) (has : Result) (g : ℕ) (x : Group) (from : To) (branches : List Branch) (m : Offer) →
      i ≡ Call name k has →
      nth unknown f.shape.operands k ≡ Object g → f.groups g ≡ Some x → MayBe x.element from → offered_at x.of from name ≡ Some m →
      m.target ≡ ByAnswer branches →
      Way p held i at f (suc at)
      (behind g (group x.of (Pending branches) false) (told g has (forget_all (is_it g) (rest (suc k) f.shape.operands))) f.shape f)
  outside : (v : Invocation) → i ≡ CallOut v → class_of v.result ≡ None →
      Way p held i at f (suc at) (with_shape f (shape f.shape.locals (plainly unknown v.result (rest (taken v) f.shape.operands))))
  outside_made : (v : Invocation) (c : Class) → i ≡ CallOut v → class_of v.result ≡ Some c →
      Way p held i at f (suc at) (added (new_group true c) (popped (taken v) f.shape) f)
  keeps : (k : ℕ) → i ≡ Keep k → Way p held i at f (suc at) (with_shape f (popped k f.shape))

-- ---- demands

-- whether it is an object, or perhaps one
abbrev pub is_followed : Known → Bool
is_followed (Bare (Alias t)) = true
is_followed (Bare _) = false
is_followed (Object g) = true
is_followed (Answer g form) = false

-- none of these is
abbrev pub NoneFollowed : List Known → Type 0
NoneFollowed xs = AllByRecursion (λ x. is_followed x ≡ false) xs

-- a call of a protocol is on an object, at each place where that may be the method is offered, and no argument is an object
pub record CallHolds (name : Name) (k : ℕ) (f : Sight) : Type 0 where
  pub g : ℕ
  pub x : Group
  pub receiver : nth unknown f.shape.operands k ≡ Object g
  pub is : f.groups g ≡ Some x
  pub unbroken : x.element ≡ Broken → ⊥
  pub offers : (to : To) → MayBe x.element to → (m : Offer) × (offered_at x.of to name ≡ Some m)
  pub plain : NoneFollowed (first k f.shape.operands)

-- what a frame and its own objects come to: each that no place has any more may be left
abbrev pub NoneOpen : (held : ℕ) → Sight → Type 0
NoneOpen held f = (g : ℕ) (x : Group) → f.groups g ≡ Some x → held ≤ g → has_group g f.shape ≡ false → finished x ≡ true

abbrev pub given_back : ℕ → Shape Known → Known
given_back (suc zero) s = nth unknown s.operands 0
given_back _ s = Bare Other

-- a receiver that isn't handed out: the method hands none on, or it is one that the class's files don't have
pub data StaysHere (v : Invocation) : Type 0 where
  harmless : v.harmless ≡ true → StaysHere v
  elsewhere : (c : Class) → v.named ≡ Some c → v.meant ≡ [] → StaysHere v

pub record Holds (p : Program) (held at : ℕ) (i : Instruction) (f : Sight) : Type 0 where
  pub calls : (name : Name) (k : ℕ) (has : Result) → i ≡ Call name k has → CallHolds name k f
  pub hands : (v : Invocation) → i ≡ CallOut v → NoneFollowed (first v.words f.shape.operands)
  pub receives : (v : Invocation) → i ≡ CallOut v → v.has_receiver ≡ true → is_followed (nth unknown f.shape.operands v.words) ≡ true →
      StaysHere v
  pub keeps : (k : ℕ) → i ≡ Keep k → NoneFollowed (first k f.shape.operands)
  pub throws : i ≡ Throw → NoneFollowed (first 1 f.shape.operands)
  pub open_behind : (to : ℕ) (after : Sight) → Way p held i at f to after → NoneOpen held after
  pub returns : (words : ℕ) → i ≡ Return words → (g : ℕ) (x : Group) → f.groups g ≡ Some x → held ≤ g →
      known_among g (given_back words f.shape ∷ []) ≡ false → finished x ≡ true

-- whether it is a call of a protocol on something of which it isn't known which object it is; in a method of a class that is followed
-- itself only on what may be an object that is followed
abbrev pub is_unknown_call : (is_of_followed : Bool) → Invocation → Known → Bool
is_unknown_call followed v (Object g) = false
is_unknown_call followed v (Bare Null) = false
is_unknown_call followed v (Bare Lost) = is_protocol v
is_unknown_call followed v (Bare (Alias t)) = if names t v.name then true else is_protocol v
is_unknown_call followed v _ = if followed then false else is_protocol v

-- the receiver of a call
pub record Receives (is_of_followed : Bool) (v : Invocation) (a : Known) : Type 0 where
  pub not_null : a ≡ Bare Null → is_protocol v ≡ false
  pub known : is_unknown_call is_of_followed v a ≡ false

-- what a method may give back as an object of a class: null, an object of its own in its initial state, and for an interface something that
-- isn't followed
pub data IsNew (held : ℕ) (groups : ℕ → Option Group) (class : Class) : Known → Type 0 where
  null : IsNew held groups class (Bare Null)
  new : {g : ℕ} (x : Group) → held ≤ g → groups g ≡ Some x → x.of.typestate ≡ class.typestate →
      x.element ≡ At (initial class.typestate) → IsNew held groups class (Object g)
  other : class.is_interface ≡ true → IsNew held groups class (Bare Other)

-- what a method with this result gives back that may be called otherwise
pub record IsHandedBack (has : Result) (held : ℕ) (groups : ℕ → Option Group) (a : Known) : Type 0 where
  pub new : (class : Class) → class_of has ≡ Some class → IsNew held groups class a
  pub plain : class_of has ≡ None → is_followed a ≡ false

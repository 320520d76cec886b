-- Which abstract frames are reached: contexts, and what methods give back.
use Rattle.std.specs.Prelude.{◌≡◌, ℕ, zero, suc, ◌<◌, ◌≤◌, ◌==◌, Bool, true, false, List, [], ◌∷◌, Contains, Option, Some, None}
use Rattle.std.specs.Prelude.{if◌then◌else◌}
use Rattle.mg_text.specs.Call.{Name}
use Rattle.insp_rules.specs.Program.{Kind, Form, Itself, Ordinal, Mapped, Bare as BareOf, Other, Bit, Null, Lost, Alias, Map, Constant}
use Rattle.insp_rules.specs.Program.{Result, Instruction, Call, CallIn, Return, Program, code_at, handlers_at, locals_at, Shape, nth}
use Rattle.insp_rules.specs.Program.{first, rest, shape}
use Rattle.insp_rules.specs.Program.{caught, begun}
use Rattle.insp_rules.specs.Program.{Invocation, Invoke, CallOut, taken, class_of, result_of, is_called_otherwise, is_of_followed}
use Rattle.insp_rules.specs.Skeleton.{returned, IsNoCallIn}
use Rattle.insp_rules.specs.Frames.{Known, Bare, Object, Answer, Group, Sight, sight, knowns, upset_group}
use Rattle.insp_rules.specs.Frames.{unknown, known_among, has_group, forget_all, added, Way, Holds, given_back, NoneOpen, seen_at}
use Rattle.insp_rules.specs.Frames.{Receives, IsHandedBack, is_followed}

-- each of the one list with each of the other
pub data Both {A B : Type 0} (R : A → B → Type 0) : List A → List B → Type 0 where
  none : Both R [] []
  more : {a : A} {b : B} {xs : List A} {ys : List B} → R a b → Both R xs ys → Both R (a ∷ xs) (b ∷ ys)

-- a method with what is known of its arguments, the last one first; the groups below `held` are objects that its caller has too
pub record Context : Type 0 where
  pub method : ℕ
  pub args : List Known
  pub held : ℕ
  pub groups : ℕ → Option Group

-- ---- numbering

-- whether nobody misses it where it isn't followed any more
abbrev pub is_plain : BareOf → Bool
is_plain Other = true
is_plain (Bit b) = true
is_plain Null = false
is_plain Lost = false
is_plain (Alias t) = false
is_plain (Map m class) = true
is_plain (Constant class label) = true

-- what a place knows after the groups were numbered anew, `old` telling what number each had
pub data Stands (old : ℕ → ℕ) (groups : ℕ → Option Group) : Known → Known → Type 0 where
  bare : {b : BareOf} → Stands old groups (Bare b) (Bare b)
  coarser : {b : BareOf} → is_plain b ≡ true → Stands old groups (Bare Other) (Bare b)
  object : {g : ℕ} (x : Group) → groups g ≡ Some x → Stands old groups (Object g) (Object (old g))
  answer : {g : ℕ} {form : Form} (x : Group) → groups g ≡ Some x → Stands old groups (Answer g form) (Answer (old g) form)
  forgotten : {g : ℕ} {form : Form} → Stands old groups (Bare Other) (Answer g form)

-- g is f with its groups numbered anew: the held ones stay, and of the others those that a place has
pub record Renames (held : ℕ) (f g : Sight) : Type 0 where
  pub old : ℕ → ℕ
  pub locals : Both (Stands old g.groups) g.shape.locals f.shape.locals
  pub operands : Both (Stands old g.groups) g.shape.operands f.shape.operands
  pub live : (a : ℕ) (x : Group) → g.groups a ≡ Some x → f.groups (old a) ≡ Some x
  pub within : (a : ℕ) (x : Group) → g.groups a ≡ Some x → a < g.count
  pub apart : (a b : ℕ) (x y : Group) → g.groups a ≡ Some x → g.groups b ≡ Some y → old a ≡ old b → a ≡ b
  pub stay : (a : ℕ) → a < held → old a ≡ a
  pub all : (a : ℕ) (x : Group) → a < held → f.groups a ≡ Some x → g.groups a ≡ Some x
  pub above : (a : ℕ) (x : Group) → g.groups a ≡ Some x → held ≤ a → held ≤ old a
  pub had : (a : ℕ) (x : Group) → g.groups a ≡ Some x → held ≤ a → has_group a g.shape ≡ true

-- the context c has these arguments of the frame f
pub record Takes (method : ℕ) (args : List Known) (f : Sight) (c : Context) : Type 0 where
  pub is : c.method ≡ method
  pub old : ℕ → ℕ
  pub arguments : Both (Stands old c.groups) c.args args
  pub live : (a : ℕ) (x : Group) → c.groups a ≡ Some x → f.groups (old a) ≡ Some x
  pub within : (a : ℕ) (x : Group) → c.groups a ≡ Some x → a < c.held
  pub all : (a : ℕ) → a < c.held → (x : Group) × (c.groups a ≡ Some x)
  pub apart : (a b : ℕ) → a < c.held → b < c.held → old a ≡ old b → a ≡ b
  pub handed : (a : ℕ) → a < c.held → known_among (old a) args ≡ true

-- each object that a place knows is a group, and groups have numbers below the count
pub record IsWhole (f : Sight) : Type 0 where
  pub within : (g : ℕ) (x : Group) → f.groups g ≡ Some x → g < f.count
  pub live : (g : ℕ) → has_group g f.shape ≡ true → (x : Group) × (f.groups g ≡ Some x)

-- a way to number groups; which one doesn't matter
pub record Numbering : Type 0 where
  pub tidy : (held : ℕ) → Sight → Sight
  pub renames : (held : ℕ) (f : Sight) → IsWhole f → Renames held f (tidy held f)
  pub context : (method : ℕ) → List Known → Sight → Context
  pub takes : (method : ℕ) (args : List Known) (f : Sight) →
      ((g : ℕ) → known_among g args ≡ true → (x : Group) × (f.groups g ≡ Some x)) → Takes method args f (context method args f)

-- ---- what a method gives back

pub data Outcome : Type 0 where
  -- a value that has nothing to do with an object
  Plainly : BareOf → Outcome
  -- one of the held objects; what one of them answered
  Held : ℕ → Outcome
  Told : ℕ → Kind → Outcome
  -- another object
  New : Group → Outcome

-- what the caller knows of such a value
abbrev pub kept_plain : BareOf → BareOf
kept_plain (Map m class) = Other
kept_plain (Constant class label) = Other
kept_plain b = b

-- how a method may be left: where the held objects are then, and its result
pub record Exit : Type 0 where
  pub groups : ℕ → Option Group
  pub outcome : Outcome

abbrev pub is_itself : Form → Bool
is_itself (Itself kind) = true
is_itself (Ordinal class) = false
is_itself (Mapped m) = false

pub data Outcomes (held : ℕ) (groups : ℕ → Option Group) : Known → Outcome → Type 0 where
  bare : {b : BareOf} → Outcomes held groups (Bare b) (Plainly (kept_plain b))
  answer_held : {g : ℕ} {kind : Kind} → g < held → Outcomes held groups (Answer g (Itself kind)) (Told g kind)
  answer_own : {g : ℕ} {form : Form} → held ≤ g → Outcomes held groups (Answer g form) (Plainly Other)
  answer_form : {g : ℕ} {form : Form} → is_itself form ≡ false → Outcomes held groups (Answer g form) (Plainly Other)
  held_one : {g : ℕ} → g < held → Outcomes held groups (Object g) (Held g)
  new : {g : ℕ} (x : Group) → held ≤ g → groups g ≡ Some x → Outcomes held groups (Object g) (New x)

-- which of the first so many is it that had this number
abbrev pub back : (ℕ → ℕ) → ℕ → ℕ → Option ℕ
back old zero g = None
back old (suc n) g = if old n == g then Some n else back old n g

abbrev pub by_exit : (ℕ → Option Group) → Option Group → Option ℕ → Option Group
by_exit groups was None = was
by_exit groups was (Some i) = groups i

-- the groups of the caller behind the call
abbrev pub groups_behind : (ℕ → ℕ) → ℕ → Exit → Sight → ℕ → Option Group
groups_behind old held e f g = by_exit e.groups (f.groups g) (back old held g)

abbrev pub handed_over : List Known → ℕ → Bool
handed_over args g = known_among g args

-- the caller with so many words of a result: this in one word; a new object
abbrev pub answering : ℕ → Known → Shape Known → Sight → Sight
answering words x s f = sight (shape s.locals (returned knowns words x s.operands)) f.groups f.count

abbrev pub with_new : ℕ → Group → Shape Known → Sight → Sight
with_new (suc zero) x s f = added x s f
with_new words x s f = answering words unknown s f

-- the caller behind a call that was left so
abbrev pub resumed_by : ℕ → Outcome → (ℕ → ℕ) → Shape Known → Sight → Sight
resumed_by words (Plainly b) old s f = answering words (Bare b) s f
resumed_by words (Held i) old s f = answering words (Object (old i)) s f
resumed_by words (Told i kind) old s f = answering words (Answer (old i) (Itself kind)) s f
resumed_by words (New x) old s f = with_new words x s f

abbrev pub resumed : (ℕ → ℕ) → (held k words : ℕ) → Exit → Sight → Sight
resumed old held k words e f =
    resumed_by words e.outcome old (shape (forget_all (handed_over (first k f.shape.operands)) f.shape.locals)
    (forget_all (handed_over (first k f.shape.operands)) (rest k f.shape.operands)))
    (sight f.shape (groups_behind old held e f) f.count)

-- ---- throws

abbrev pub caught_before : Sight → Sight
caught_before f = sight (caught knowns f.shape) f.groups f.count

abbrev pub upset_if : Bool → Option Group → Option Group
upset_if true (Some x) = Some (upset_group x)
upset_if true None = None
upset_if false was = was

-- a throw came upon the objects among these
abbrev pub caught_upon : List Known → Sight → Sight
caught_upon args f = sight (caught knowns (shape (forget_all (handed_over args) f.shape.locals) []))
    (λ g. upset_if (known_among g args) (f.groups g)) f.count

-- a throw there leaves all objects as they were: the instruction is no call of a method of the program, and no call of a protocol on an
-- object but on one that may be null
pub record MayLeaveAll (i : Instruction) (f : Sight) : Type 0 where
  pub no_call : IsNoCallIn i
  pub on_null : (name : Name) (k : ℕ) (has : Result) (g : ℕ) (x : Group) → i ≡ Call name k has → nth unknown f.shape.operands k ≡ Object g →
      f.groups g ≡ Some x → x.null ≡ true

-- ---- what is reached

-- a context is entered, also from outside; a frame is reached; a context is left
pub data Fact : Type 0 where
  Entered : Context → Fact
  Outside : Context → Fact
  Reached : Context → ℕ → Sight → Fact
  Left : Context → Exit → Fact

-- a context to begin with has no object
pub record IsRoot (c : Context) : Type 0 where
  pub held : c.held ≡ 0
  pub groups : (g : ℕ) → c.groups g ≡ None

-- what is known of a value in the hands of a method outside, where nothing is followed
abbrev pub let_go_bare : BareOf → BareOf
let_go_bare (Alias t) = Lost
let_go_bare (Map m class) = Other
let_go_bare (Constant class label) = Other
let_go_bare b = b

abbrev pub let_go : Known → Known
let_go (Bare b) = Bare (let_go_bare b)
let_go (Object g) = Bare Lost
let_go (Answer g form) = Bare Other

abbrev pub let_go_all : List Known → List Known
let_go_all [] = []
let_go_all (x ∷ xs) = let_go x ∷ let_go_all xs

-- a method that is called from outside with what was handed out
abbrev pub outside_context : ℕ → List Known → Context
outside_context method args = record { method = method; args = let_go_all args; held = 0; groups = λ g. None }

abbrev pub entry : Program → Context → Sight
entry p c = sight (begun knowns (locals_at p c.method) c.args) c.groups c.held

pub data Found (p : Program) (numbering : Numbering) (roots : List Context) : Fact → Type 0 where
  root : {c : Context} → Contains roots c → IsRoot c → Found p numbering roots (Outside c)
  -- each method of the program that a call may mean which isn't followed
  meant : {c : Context} {at : ℕ} {f : Sight} (v : Invocation) (method : ℕ) → Found p numbering roots (Reached c at f) →
      seen_at p c.method at f ≡ Some (CallOut v) → Contains v.meant method →
      Found p numbering roots (Outside (outside_context method (first (taken v) f.shape.operands)))
  called : {c : Context} → Found p numbering roots (Outside c) → Found p numbering roots (Entered c)
  begins : {c : Context} → Found p numbering roots (Entered c) → Found p numbering roots (Reached c 0 (numbering.tidy c.held (entry p c)))
  steps : {c : Context} {at to : ℕ} {f g : Sight} (i : Instruction) → Found p numbering roots (Reached c at f) →
      seen_at p c.method at f ≡ Some i → Way p c.held i at f to g → Found p numbering roots (Reached c to (numbering.tidy c.held g))
  enters : {c : Context} {at : ℕ} {f : Sight} (method k words : ℕ) → Found p numbering roots (Reached c at f) →
      seen_at p c.method at f ≡ Some (CallIn method k words) →
      Found p numbering roots (Entered (numbering.context method (first k f.shape.operands) f))
  leaves : {c : Context} {at : ℕ} {f : Sight} {o : Outcome} (words : ℕ) → Found p numbering roots (Reached c at f) →
      seen_at p c.method at f ≡ Some (Return words) → Outcomes c.held f.groups (given_back words f.shape) o →
      Found p numbering roots (Left c (record { groups = f.groups; outcome = o }))
  returns : {c : Context} {at : ℕ} {f : Sight} {e : Exit} (method k words : ℕ) → Found p numbering roots (Reached c at f) →
      seen_at p c.method at f ≡ Some (CallIn method k words) →
      Found p numbering roots (Left (numbering.context method (first k f.shape.operands) f) e) →
      (takes : Takes method (first k f.shape.operands) f (numbering.context method (first k f.shape.operands) f)) →
      Found p numbering roots (Reached c (suc at)
      (numbering.tidy c.held (resumed takes.old (numbering.context method (first k f.shape.operands) f).held k words e f)))
  throws : {c : Context} {at : ℕ} {f : Sight} (to : ℕ) (i : Instruction) → Found p numbering roots (Reached c at f) →
      Contains (handlers_at p c.method at) to → seen_at p c.method at f ≡ Some i → MayLeaveAll i f →
      Found p numbering roots (Reached c to (numbering.tidy c.held (caught_before f)))
  throws_amid : {c : Context} {at : ℕ} {f : Sight} (to : ℕ) (name : Name) (k : ℕ) (has : Result) (g : ℕ) →
      Found p numbering roots (Reached c at f) → Contains (handlers_at p c.method at) to →
      seen_at p c.method at f ≡ Some (Call name k has) → nth unknown f.shape.operands k ≡ Object g →
      Found p numbering roots (Reached c to (numbering.tidy c.held (caught_upon (Object g ∷ []) f)))
  throws_through : {c : Context} {at : ℕ} {f : Sight} (to method k words : ℕ) → Found p numbering roots (Reached c at f) →
      Contains (handlers_at p c.method at) to → seen_at p c.method at f ≡ Some (CallIn method k words) →
      Found p numbering roots (Reached c to (numbering.tidy c.held (caught_upon (first k f.shape.operands) f)))

-- no demand fails
pub record Inspected (p : Program) (numbering : Numbering) (roots : List Context) : Type 0 where
  pub holds : (c : Context) (at : ℕ) (f : Sight) (i : Instruction) → Found p numbering roots (Reached c at f) →
      seen_at p c.method at f ≡ Some i → Holds p c.held at i f
  -- behind a followed call too, each object that no place has any more may be left
  pub returned : (c : Context) (at : ℕ) (f : Sight) (e : Exit) (method k words : ℕ) → Found p numbering roots (Reached c at f) →
      seen_at p c.method at f ≡ Some (CallIn method k words) →
      Found p numbering roots (Left (numbering.context method (first k f.shape.operands) f) e) →
      (takes : Takes method (first k f.shape.operands) f (numbering.context method (first k f.shape.operands) f)) →
      NoneOpen c.held (resumed takes.old (numbering.context method (first k f.shape.operands) f).held k words e f)
  -- receivers of calls are known
  pub receives : (c : Context) (at : ℕ) (f : Sight) (v : Invocation) → Found p numbering roots (Reached c at f) →
      code_at p c.method at ≡ Some (Invoke v) → v.has_receiver ≡ true →
      Receives (is_of_followed p c.method) v (nth unknown f.shape.operands v.words)
  -- what is given back by a method that may be called otherwise, and, where the result is of no followed class, to a call from outside
  pub gives : (c : Context) (at : ℕ) (f : Sight) (words : ℕ) → Found p numbering roots (Reached c at f) →
      seen_at p c.method at f ≡ Some (Return words) → is_called_otherwise p c.method ≡ true →
      IsHandedBack (result_of p c.method) c.held f.groups (given_back words f.shape)
  pub gives_outside : (c : Context) (at : ℕ) (f : Sight) (words : ℕ) → Found p numbering roots (Reached c at f) →
      Found p numbering roots (Outside c) → seen_at p c.method at f ≡ Some (Return words) → class_of (result_of p c.method) ≡ None →
      is_followed (given_back words f.shape) ≡ false

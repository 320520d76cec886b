-- When an abstract frame fits a frame: each of its groups is an object of its own.
use Rattle.std.proofs.Common.{◌≡◌, ◌⊎◌, inl, inr, ℕ, ◌<◌, ◌≤◌, Bool, true, false, true≢false, List, [], Option, Some, None}
use Rattle.std.proofs.Common.{refl, sym, ap, ◌∙◌, subst}
use Rattle.mg_text.specs.Call.{Name}
use Rattle.ts_tree.specs.declared.parts.To.{To}
use Rattle.ts_tree.specs.declared.parts.Branch.{Branch}
use Rattle.ts_tree.specs.Calls.{by_label}
use Rattle.insp_rules.specs.Program.{Form, Itself, Ordinal, Mapped, Constants, Bare as BareOf, Other, Null, Lost, Alias, Instruction, Move}
use Rattle.insp_rules.specs.Program.{Load, Store}
use Rattle.insp_rules.specs.Program.{Forget, Cast, Index, TakeOrdinal, Go, Either, IfNull, IfSame, IfSign, IfNumbers, Switch, Make, Call}
use Rattle.insp_rules.specs.Program.{CallNull, CallIn}
use Rattle.insp_rules.specs.Program as program
use Rattle.std.specs.Str.{bytes_eq}
use Rattle.std.specs.Prelude.{if◌then◌else◌}
use Rattle.insp_rules.specs.Program.{CallOut, Keep, Return, Throw, Shape, nth, popped, pushed, straight}
use Rattle.insp_rules.specs.Skeleton.{Value, Plain, Nil, Ref, Said, Bit, Map, Constant, Again, Another, is_loose, Thing, values, begins}
use Rattle.insp_rules.specs.Skeleton.{place}
use Rattle.insp_rules.specs.Skeleton as skeleton
use Rattle.insp_law.specs.Laws.{Bears}
use Rattle.insp_law.specs.Laws as laws
use Rattle.insp_rules.specs.Frames.{Known, Bare, unknown, Object, Answer, Element, At, Pending, Broken, Group, Sight, knowns, cast}
use Rattle.insp_rules.specs.Frames as frames
use Rattle.insp_rules.specs.Frames.{has_group}
use Rattle.insp_rules.specs.Reached.{Both, more}
use Rattle.insp_rules.proofs.Lists.{some_is, none_some, both_nth, both_first, both_rest, both_placed, both_gives, Kits}

-- what is known of a value, where `obj` tells the object of each group; of the stale ones it isn't known what they answered
pub data Says (h : ℕ → Thing) (obj : ℕ → ℕ) (groups : ℕ → Option Group) (stale : ℕ → Bool) : Known → Value → Type 0 where
  bare : {b : BareOf} {v : Value} → Bears b v → Says h obj groups stale (Bare b) v
  object : {g o : ℕ} (x : Group) → groups g ≡ Some x → o ≡ obj g → Says h obj groups stale (Object g) (Ref o)
  answer : {g : ℕ} {form : Form} {label : Name} (x : Group) → groups g ≡ Some x →
      (stale g ≡ true) ⊎ ((h (obj g)).answer ≡ Some label) → Says h obj groups stale (Answer g form) (Said form label)

-- where the object is
pub data Is (x : Thing) : Element → Type 0 where
  at : {to : To} → place x ≡ Some to → Is x (At to)
  pending : {branches : List Branch} (label : Name) (to : To) → x.answer ≡ Some label → by_label branches label ≡ Some to →
      place x ≡ Some to → Is x (Pending branches)
  broken : begins x.of x.came ≡ None → x.calls ≡ [] → Is x Broken

-- of which class it is, and that it may be null where it is
pub record KindOf (x : Group) (thing : Thing) : Type 0 where
  pub of : x.of ≡ thing.of
  pub null : thing.null ≡ true → x.null ≡ true

pub record Accords (x : Group) (thing : Thing) : Type 0 where
  pub kind : KindOf x thing
  pub is : thing.null ≡ false → Is thing x.element

-- what no call changes
pub record Kin (a b : Thing) : Type 0 where
  pub of : a.of ≡ b.of
  pub null : a.null ≡ b.null

pub kin : {a b : Thing} → a ≡ b → Kin a b
kin e = record { of = ap (λ (z : Thing). z.of) e; null = ap (λ (z : Thing). z.null) e }

pub kin_kind : {x : Group} {a b : Thing} → Kin a b → KindOf x b → KindOf x a
kin_kind k d = record { of = d.of ∙ sym k.of; null = λ e. d.null (sym k.null ∙ e) }

pub record Fits (h : ℕ → Thing) (obj : ℕ → ℕ) (groups : ℕ → Option Group) (stale : ℕ → Bool) (s : Shape Known)
    (t : Shape Value) : Type 0 where
  pub locals : Both (Says h obj groups stale) s.locals t.locals
  pub operands : Both (Says h obj groups stale) s.operands t.operands

-- the groups are objects: the held ones those of the caller, the others with numbers from the mark on
pub record Sits (obj : ℕ → ℕ) (held : ℕ) (hold : ℕ → ℕ) (mark next : ℕ) (groups : ℕ → Option Group) (count : ℕ) : Type 0 where
  pub within : (g : ℕ) (x : Group) → groups g ≡ Some x → g < count
  pub sits : (g : ℕ) (x : Group) → groups g ≡ Some x → (g < held) × (obj g ≡ hold g) ⊎ (held ≤ g) × (mark ≤ obj g)
  pub bounded : (g : ℕ) (x : Group) → groups g ≡ Some x → obj g < next
  pub apart : (a b : ℕ) (x y : Group) → groups a ≡ Some x → groups b ≡ Some y → obj a ≡ obj b → a ≡ b
  pub holds : (g : ℕ) → g < held → (x : Group) × (groups g ≡ Some x)

pub record Fit (h : ℕ → Thing) (obj : ℕ → ℕ) (stale : ℕ → Bool) (held : ℕ) (hold : ℕ → ℕ) (mark next : ℕ) (f : Sight) (t : Shape Value) :
    Type 0 where
  pub fits : Fits h obj f.groups stale f.shape t
  pub sits : Sits obj held hold mark next f.groups f.count
  pub agrees : (g : ℕ) (x : Group) → f.groups g ≡ Some x → (stale g ≡ true) ⊎ Accords x (h (obj g))
  pub kinds : (g : ℕ) (x : Group) → f.groups g ≡ Some x → KindOf x (h (obj g))

-- each group but the held ones is in some place
abbrev pub Had : (held : ℕ) → Sight → Type 0
Had held f = (g : ℕ) (x : Group) → f.groups g ≡ Some x → held ≤ g → has_group g f.shape ≡ true

abbrev pub fresh : ℕ → Bool
fresh g = false

-- ---- instructions that only move values

module _ (h : ℕ → Thing) (obj : ℕ → ℕ) (groups : ℕ → Option Group) (stale : ℕ → Bool) where
  abbrev pub R : Known → Value → Type 0
  R = Says h obj groups stale

  pub others : R unknown Plain
  others = bare (laws.other refl)

  pub kits : Kits R knowns values
  kits = record { bare = λ b. bare (bears b); cast = casts; index = indexes; ordinal = ordinals }
    where
      bears : (b : BareOf) → Bears b (skeleton.bare b)
      bears Other = laws.other refl
      bears (program.Bit b) = laws.bit
      bears Null = laws.null
      bears Lost = laws.lost refl
      bears (Alias t) = laws.another
      bears (program.Map m class) = laws.map
      bears (program.Constant class label) = laws.constant

      casts : (a : Known) (b : Value) → Says h obj groups stale a b → Says h obj groups stale (cast a) b
      casts a b (bare (laws.other l)) = bare (laws.lost l)
      casts a b (bare (laws.lost l)) = bare (laws.lost l)
      casts a b (bare laws.bit) = bare laws.bit
      casts a b (bare laws.null) = bare laws.null
      casts a b (bare laws.again) = bare laws.again
      casts a b (bare laws.another) = bare laws.another
      casts a b (bare laws.map) = bare laws.map
      casts a b (bare laws.constant) = bare laws.constant
      casts a b (object x e i) = object x e i
      casts a b (answer x e i) = answer x e i

      loose_index : (b d : Value) → is_loose (skeleton.index b d) ≡ true
      loose_index (Map m class) (Said (Ordinal other) label) = go (bytes_eq class other)
        where
          go : (b : Bool) → is_loose (if b then Said (Mapped m) label else Plain) ≡ true
          go true = refl
          go false = refl
      loose_index (Map m class) (Said (Itself kind) label) = refl
      loose_index (Map m class) (Said (Mapped n) label) = refl
      loose_index (Map m class) Plain = refl
      loose_index (Map m class) Nil = refl
      loose_index (Map m class) (Bit b) = refl
      loose_index (Map m class) (Map n other) = refl
      loose_index (Map m class) (Constant other label) = refl
      loose_index (Map m class) (Ref o) = refl
      loose_index (Map m class) (Again t o) = refl
      loose_index (Map m class) (Another t) = refl
      loose_index Plain d = refl
      loose_index Nil d = refl
      loose_index (Bit b) d = refl
      loose_index (Constant class label) d = refl
      loose_index (Ref o) d = refl
      loose_index (Again t o) d = refl
      loose_index (Another t) d = refl
      loose_index (Said form label) d = refl

      loosely : (b d : Value) → Says h obj groups stale (Bare Other) (skeleton.index b d)
      loosely b d = bare (laws.other (loose_index b d))

      indexes : (a c : Known) (b d : Value) → Says h obj groups stale a b → Says h obj groups stale c d →
          Says h obj groups stale (frames.index a c) (skeleton.index b d)
      indexes a c b d (object x e i) s = loosely b d
      indexes a c b d (answer x e i) s = loosely b d
      indexes a c b d (bare (laws.other l)) s = loosely b d
      indexes a c b d (bare (laws.lost l)) s = loosely b d
      indexes a c b d (bare laws.bit) s = loosely b d
      indexes a c b d (bare laws.null) s = loosely b d
      indexes a c b d (bare laws.again) s = loosely b d
      indexes a c b d (bare laws.another) s = loosely b d
      indexes a c b d (bare laws.constant) s = loosely b d
      indexes a c b d (bare laws.map) (bare s) = loosely b d
      indexes a c b d (bare laws.map) (object x e i) = loosely b d
      indexes a c b d (bare laws.map) (answer {form = Itself kind} x e i) = loosely b d
      indexes a c b d (bare laws.map) (answer {form = Mapped n} x e i) = loosely b d
      indexes a c b d (bare (laws.map {m = m} {class = class})) (answer {g = g} {form = Ordinal other} {label = label} x e i) =
          go (bytes_eq class other)
        where
          go : (t : Bool) → Says h obj groups stale (if t then Answer g (Mapped m) else Bare Other)
              (if t then Said (Mapped m) label else Plain)
          go true = answer x e i
          go false = bare (laws.other refl)

      loose_ordinal : (b : Value) → is_loose (skeleton.ordinal b) ≡ true
      loose_ordinal (Said (Itself (Constants class)) label) = refl
      loose_ordinal (Said (Itself program.Truth) label) = refl
      loose_ordinal (Said (Ordinal class) label) = refl
      loose_ordinal (Said (Mapped n) label) = refl
      loose_ordinal Plain = refl
      loose_ordinal Nil = refl
      loose_ordinal (Bit b) = refl
      loose_ordinal (Map n class) = refl
      loose_ordinal (Constant class label) = refl
      loose_ordinal (Ref o) = refl
      loose_ordinal (Again t o) = refl
      loose_ordinal (Another t) = refl

      ordinals : (a : Known) (b : Value) → Says h obj groups stale a b → Says h obj groups stale (frames.ordinal a) (skeleton.ordinal b)
      ordinals a b (bare s) = bare (laws.other (loose_ordinal b))
      ordinals a b (object x e i) = bare (laws.other (loose_ordinal b))
      ordinals a b (answer {form = Itself (Constants class)} x e i) = answer x e i
      ordinals a b (answer {form = Itself program.Truth} x e i) = bare (laws.other (loose_ordinal b))
      ordinals a b (answer {form = Ordinal class} x e i) = bare (laws.other (loose_ordinal b))
      ordinals a b (answer {form = Mapped n} x e i) = bare (laws.other (loose_ordinal b))

  pub data Alike : Option (Shape Known) → Option (Shape Value) → Type 0 where
    neither : Alike None None
    both : {s : Shape Known} {t : Shape Value} → Fits h obj groups stale s t → Alike (Some s) (Some t)

  pub pushes : (s : Shape Known) (t : Shape Value) (a : Known) (b : Value) → Says h obj groups stale a b → Fits h obj groups stale s t →
      Fits h obj groups stale (pushed a s) (pushed b t)
  pushes s t a b r f = record { locals = f.locals; operands = more r f.operands }

  pub pops : (s : Shape Known) (t : Shape Value) (n : ℕ) → Fits h obj groups stale s t → Fits h obj groups stale (popped n s) (popped n t)
  pops s t n f = record { locals = f.locals; operands = both_rest R n f.operands }

  -- an operand
  pub operand : (s : Shape Known) (t : Shape Value) → Fits h obj groups stale s t → (n : ℕ) →
      R (nth unknown s.operands n) (nth Plain t.operands n)
  operand s t f n = both_nth R unknown Plain others n f.operands

  pub straights : (i : Instruction) (s : Shape Known) (t : Shape Value) → Fits h obj groups stale s t →
      Alike (straight knowns i s) (straight values i t)
  straights (Move n gs) s t f =
      both (record {
        locals = f.locals;
        operands = both_gives R knowns values kits (both_first R n f.operands) (both_rest R n f.operands) gs;
      })
  straights (Load i) s t f = both (record { locals = f.locals; operands = more (both_nth R unknown Plain others i f.locals) f.operands })
  straights (Store i) s t f =
      both (record {
        locals = both_placed R (nth unknown s.operands 0) (nth Plain t.operands 0) (operand s t f 0) i f.locals;
        operands = both_rest R 1 f.operands;
      })
  straights (Forget i) s t f = both (record { locals = both_placed R unknown Plain others i f.locals; operands = f.operands })
  straights Cast s t f =
      both (record {
        locals = f.locals;
        operands = more (kits.cast (nth unknown s.operands 0) (nth Plain t.operands 0) (operand s t f 0)) (both_rest R 1 f.operands);
      })
  straights Index s t f =
      both (record {
        locals = f.locals;
        operands = more (kits.index (nth unknown s.operands 1) (nth unknown s.operands 0) (nth Plain t.operands 1) (nth Plain t.operands 0)
            (operand s t f 1) (operand s t f 0)) (both_rest R 2 f.operands);
      })
  straights TakeOrdinal s t f =
      both (record {
        locals = f.locals;
        operands = more (kits.ordinal (nth unknown s.operands 0) (nth Plain t.operands 0) (operand s t f 0)) (both_rest R 1 f.operands);
      })
  straights (Go x) s t f = neither
  straights (Either x) s t f = neither
  straights (IfNull x y) s t f = neither
  straights (IfSame x y) s t f = neither
  straights (IfSign x y) s t f = neither
  straights (IfNumbers x y) s t f = neither
  straights (Switch x y) s t f = neither
  straights (Make x) s t f = neither
  straights (Call x y z) s t f = neither
  straights CallNull s t f = neither
  straights (CallIn x y z) s t f = neither
  straights (CallOut x) s t f = neither
  straights (Keep x) s t f = neither
  straights (Return x) s t f = neither
  straights Throw s t f = neither

  pub alike_some : {a : Option (Shape Known)} {b : Option (Shape Value)} → Alike a b → (t : Shape Value) → b ≡ Some t →
      (s : Shape Known) × (a ≡ Some s) × Fits h obj groups stale s t
  alike_some neither t e = none_some e
  alike_some (both {s = s} {t = u} f) t e = (s, refl, subst (Fits h obj groups stale s) (some_is e) f)

pub or_none : {A : Type 0} (g : ℕ) → (fresh g ≡ true) ⊎ A → A
or_none g (inl s) = absurd (true≢false (sym s))
or_none g (inr a) = a

-- What a search comes to, from how it begins to its end.
use Rattle.std.proofs.Common.{◌≡◌, ℕ, zero, suc, ◌+◌, ◌-◌, ◌*◌, ◌<◌, ◌≤◌, ◌⊎◌, inl, inr, Bool, true, false, List, [], ◌∷◌, ◌++◌, length}
use Rattle.std.proofs.Common.{map, take, get_or, Option, Some, None, option_map, refl, sym, ap, ap₂, subst, ◌∙◌, arith}
use Rattle.std.specs.Prelude.{slice_get, slice_set, replicate, min, if◌then◌else◌, Result, Ok, Err, IfOk, ◌==◌}
use Rattle.mg_text.specs.declared.memory.Memory.{Memory}
use Rattle.std.proofs.lemmas.Bool.{true≢false, cases_lt}
use Rattle.std.proofs.lemmas.List.{length-map, length-append, length-replicate, take_more, take_min}
use Rattle.std.proofs.lemmas.Option.{slice_get-map, slice_get_within, slice_get-get_or, get_or_from_slice_get}
use Rattle.mg_text.specs.Call.{Name}
use Rattle.vm_model.specs.declared.linked.LinkedInstr.{LinkedInstr}
use Rattle.vm_model.specs.declared.linked.LinkedMethod.{LinkedMethod}
use Rattle.vm_model.specs.declared.linked.LinkedClass.{LinkedClass}
use Rattle.vm_model.specs.Program.{Program, MethodOf, ClassOf, class_at, method_at, methods_in, name_in}
use Rattle.vm_model.specs.Start.{is_main}
use Rattle.vm_model.specs.View.{instr_of, method_of, class_of, classes_of}
use Rattle.cls_verify.specs.Typing.{Kinds, Typing, AllTypable, arguments, first_locals}
use Rattle.cls_kinds.specs.declared.kind.Kind.{Kind}
use Rattle.cls_kinds.specs.Named.{kind_of}
use Rattle.cls_table.specs.declared.classes.MethodKinds.{MethodKinds}
use Rattle.cls_table.specs.declared.classes.ClassKinds.{ClassKinds}
use Rattle.cls_table.specs.declared.classes.ProgramKinds.{ProgramKinds}
use Rattle.cls_table.specs.Tables.{IsMethod, AreMethods, IsClass, AreKinds}
use Rattle.cls_rows.proofs.Alike.{kinds_with}
use Rattle.cls_rows.specs.declared.frame.Frame.{Frame}
use Rattle.cls_rows.specs.Frames.{kinds_at}
use Rattle.cls_search.specs.declared.leading.Found.{Found}
use Rattle.cls_search.specs.declared.walk.Body.{Body}
use Rattle.cls_search.specs.Setting.{Setting}
use Rattle.cls_search.specs.Kept.{IsRight, frame_at, waits, left, rooms}
use Rattle.cls_search.specs.Marked.{AreJoins}
use Rattle.cls_search.specs.Beginning.{any_number, first_kinds, IsBegun, MethodIs, ClassIs, TypableIs, FirstIn, FirstOr}
use Rattle.cls_search.specs.Walking.{WalksFrom, WalkIs, HasBegun, SearchIs}
use Rattle.cls_search.specs.Verified.{IsBefore, FirstAt, FirstUntypable, Says}
use Rattle.cls_search.specs.declared.fault.VerifyFault.{VerifyFault}
use Rattle.cls_search.specs.declared.fault.VerifyFault.TheVariants as faults
use Rattle.cls_search.proofs.Walked.{taken_right, taken_settled, taken_less, taken_waits, nothing_waits}
use Rattle.cls_search.proofs.Begins.{setting, body_is, begins_right, begins_settled, no_code}

-- The first row.

first_at : (m : MethodOf) (ks : List Kind) (i : ℕ) → get_or (first_kinds m ks) i any_number ≡ get_or (if is_main m then [] else ks) i
    any_number
first_at m ks i = go (is_main m)
  where
    same : (n j : ℕ) → get_or (replicate n any_number) j any_number ≡ any_number
    same zero j = refl
    same (suc n) zero = refl
    same (suc n) (suc j) = same n j

    front : (xs : List Kind) (n j : ℕ) → get_or (xs ++ replicate n any_number) j any_number ≡ get_or xs j any_number
    front [] n j = same n j
    front (x ∷ xs) n zero = refl
    front (x ∷ xs) n (suc j) = front xs n j

    go : (b : Bool) → get_or (if b then replicate m.max_locals any_number else ks ++ replicate (m.max_locals - length ks) any_number) i
        any_number
        ≡ get_or (if b then [] else ks) i any_number
    go true = same m.max_locals i
    go false = front ks (m.max_locals - length ks) i

pub first_many : (m : MethodOf) (ks : List Kind) → length ks ≤ m.max_locals → length (first_kinds m ks) ≡ m.max_locals
first_many m ks h = go (is_main m)
  where
    go : (b : Bool) → length (if b then replicate m.max_locals any_number else ks ++ replicate (m.max_locals - length ks) any_number)
        ≡ m.max_locals
    go true = length-replicate m.max_locals any_number
    go false = let a = length-append ks (replicate (m.max_locals - length ks) any_number) in
        let r = length-replicate (m.max_locals - length ks) any_number in omega (arith, a, r, h)

pub row_more : (m : MethodOf) (ks row : List Kind) (i : ℕ) (k : Kind) → row ≡ take i (first_kinds m ks) → length ks ≤ m.max_locals →
    i < m.max_locals →
    k ≡ get_or (if is_main m then [] else ks) i any_number → row ++ k ∷ [] ≡ take (i + 1) (first_kinds m ks)
row_more m ks row i k e h w is =
    ap₂ (λ r x. r ++ x ∷ []) e (is ∙ sym (first_at m ks i))
    ∙ sym (take_more (first_kinds m ks) i any_number (let l = first_many m ks h in omega (arith, l, w)))

pub row_all : (m : MethodOf) (ks row : List Kind) (count : ℕ) → length ks ≤ m.max_locals → count ≡ min m.max_locals 256 →
    row ≡ take count (first_kinds m ks) →
    row ≡ take 256 (first_kinds m ks)
row_all m ks row count h e r =
    r ∙ ap (λ n. take n (first_kinds m ks))
    (let l = first_many m ks h in let f : count ≡ min 256 (length (first_kinds m ks)) = omega (arith, e, l) in f)
    ∙ take_min 256 (first_kinds m ks)

-- The measure of a search, by what is kept at the first place.

abbrev row_width : Option Frame → ℕ
row_width None = 0
row_width (Some g) = length g.locals.value.items

abbrev pub width_of : Found → ℕ
width_of f = row_width (frame_at f 0)

abbrev pub measure : (first now : Found) → Body → ℕ
measure first now b = rooms (3 * (width_of first + b.scene.max_stack)) now.stacks now.frames.items now.waiting

width_is : (s : Setting) (f : Found) → IsRight s f → width_of f ≡ s.width
width_is s f r = go (frame_at f 0) refl
  where
    go : (o : Option Frame) → frame_at f 0 ≡ o → row_width o ≡ s.width
    go (Some g) e = (r.fit 0 g e).width
    go None e = absurd (let none_is : ◌≡◌ {A = Option Kinds} None (Some (kinds_with (first_locals s.p s.class s.m) [])) =
        sym (ap (option_map (λ g. kinds_at s.names s.rest f.stacks g)) e) ∙ r.first in cc none_is)

pub measure_is : (s : Setting) (first now : Found) (b : Body) → HasBegun s first b → measure first now b ≡ left s now
measure_is s first now b h = ap (λ n. rooms n now.stacks now.frames.items now.waiting)
    (let w = width_is s first h.right in let m = h.body.scene.max_stack in
    let e : 3 * (width_of first + b.scene.max_stack) ≡ 3 * (s.width + s.m.max_stack) = ap₂ (λ x y. 3 * (x + y)) w m in e)

-- One turn of a search.

waits_within : (ws : List Bool) (i : ℕ) → get_or ws i false ≡ true → i < length ws
waits_within [] i e = absurd (true≢false (sym e))
waits_within (w ∷ ws) zero e = omega arith
waits_within (w ∷ ws) (suc i) e = let h = waits_within ws i e in omega (arith, h)

module _ (s : Setting) (old : Found) (b : Body) (h : HasBegun s old b) where
  pub search_ends : ((place : ℕ) → waits old place ≡ false) → SearchIs s true
  search_ends none = nothing_waits s old h.right h.settled none

  module _ (mid : Found) (place : ℕ) (frames : mid.frames.items ≡ old.frames.items) (stacks : mid.stacks ≡ old.stacks)
      (waiting : mid.waiting ≡ slice_set old.waiting place false) (waited : waits old place ≡ true) where
    within : place < length old.waiting
    within = waits_within old.waiting place waited

    pub search_walks : WalksFrom s mid b place
    search_walks = record {
      right = taken_right s old mid place frames stacks waiting waited h.right;
      body = h.body;
      settled = taken_settled s old mid place frames stacks waiting waited h.settled;
      still = taken_waits s old mid place frames stacks waiting waited within;
    }

    pub search_on : (new : Found) → WalkIs s mid new true → HasBegun s new b
    search_on new w = record { right = w.0.right; body = h.body; settled = w.1 }

    pub search_less : (new : Found) → WalkIs s mid new true → left s new < left s old
    search_less new w =
        let a = w.0.less in
        let t = taken_less s old mid place frames stacks waiting waited h.right (let x = within in let y = h.right.waiting in omega
        (arith, x, y)) in
        omega (arith, a, t)

pub walk_true : (s : Setting) (old new : Found) (c : Bool) → WalkIs s old new c → c ≡ true → WalkIs s old new true
walk_true s old new c w e = subst (WalkIs s old new) e w

pub walk_false : (s : Setting) (old new : Found) (c : Bool) → WalkIs s old new c → c ≡ false → SearchIs s false
walk_false s old new c w e = let f : WalkIs s old new false = subst (WalkIs s old new) e w in f

-- A method.

module _ (p : Program) (class number : ℕ) (k : ProgramKinds) (m : MethodOf) (x : MethodKinds) (i : MethodIs p class number k m x) where
  takes_many : length x.takes.items ≡ length (arguments p class m)
  takes_many = sym (length-map x.takes.items (kind_of k.names)) ∙ ap length i.is.takes

  pub too_many : m.max_locals < length x.takes.items → Typing p class number m → ⊥
  too_many h t = let f = t.fits in let n = takes_many in omega (arith, h, f, n)

  pub no_instruction : length m.code ≡ 0 → Typing p class number m → ⊥
  no_instruction e t = no_code p class number m e t

-- What the search of a method begins with.
pub record IsReady (d : LinkedMethod) (x : MethodKinds) (f : Found) (b : Body) : Type 0 where
  pub fits : length x.takes.items ≤ d.max_locals
  pub code : map instr_of b.code.now ≡ (method_of d).code
  pub some : 0 < length (method_of d).code
  pub joins : AreJoins (method_of d).code b.joins.now
  pub begun : IsBegun (method_of d) x.takes.items f
  pub result : b.scene.result ≡ x.result
  pub most : b.scene.max_stack ≡ d.max_stack

-- there is an instruction where a code isn't empty
some_code : (xs : List LinkedInstr) (b : Bool) → b ≡ (length xs == 0) → b ≡ false → 0 < length (map instr_of xs)
some_code [] b is f = absurd (true≢false (sym is ∙ f))
some_code (x ∷ xs) b is f = omega arith

pub method_ready : (d : LinkedMethod) (x : MethodKinds) (f : Found) (b : Body) {marks : List Bool} {empty : Bool} →
    length x.takes.items ≤ d.max_locals → b.code.now ≡ d.code.items → empty ≡ (length b.code.now == 0) → empty ≡ false →
    AreJoins (map instr_of b.code.now) marks → b.joins.now ≡ marks → IsBegun (method_of d) x.takes.items f →
    b.scene.result ≡ x.result → b.scene.max_stack ≡ d.max_stack → IsReady d x f b
method_ready d x f b {marks = marks} fits code is full joins marked begun result most =
    let same : map instr_of b.code.now ≡ (method_of d).code = ap (map instr_of) code in
    record {
      fits = fits;
      code = same;
      some = subst (λ is. 0 < length is) same (some_code b.code.now _ is full);
      joins = subst (AreJoins (method_of d).code) (sym marked) (subst (λ is. AreJoins is marks) same joins);
      begun = begun;
      result = result;
      most = most;
    }

module _ {d : LinkedMethod} {x : MethodKinds} {f : Found} {b : Body} (r : IsReady d x f b) where
  module _ (p : Program) (class number : ℕ) (i : MethodIs p class number b.scene.program.now (method_of d) x) where
    abbrev pub method_setting : Setting
    method_setting = setting p class number (method_of d) i.there b.scene.program.now.names i.kinds.names x i.is r.fits b.joins.now r.joins

    pub method_begun : HasBegun method_setting f b
    method_begun = record {
      right = begins_right p class number (method_of d) i.there b.scene.program.now.names i.kinds.names x i.is r.fits b.joins.now r.joins
          f r.begun r.some;
      body = body_is p class number (method_of d) i.there b.scene.program.now.names i.kinds.names x i.is r.fits b.joins.now r.joins b
          i.kinds refl r.code refl r.result r.most;
      settled = begins_settled p class number (method_of d) i.there b.scene.program.now.names i.kinds.names x i.is r.fits b.joins.now
          r.joins f r.begun r.some;
    }

    method_says : (c : Bool) → SearchIs method_setting c → TypableIs p class number (method_of d) c
    method_says true h = h
    method_says false h = h

  -- where a search was answered as it is
  pub method_then : (e : Result Bool Memory) → IfOk e (λ c. (s : Setting) → HasBegun s f b → SearchIs s c) →
      IfOk e (λ c. (p : Program) (class number : ℕ) → MethodIs p class number b.scene.program.now (method_of d) x →
      TypableIs p class number (method_of d) c)
  method_then (Err e) h = tt
  method_then (Ok c) h = λ p class number i.
      method_says p class number i c (h (method_setting p class number i) (method_begun p class number i))

-- The methods of a class.

methods_at : (names : List Name) (class : Name) (ms : List MethodOf) (xs : List MethodKinds) → AreMethods names class ms xs →
    (i : ℕ) (d : MethodOf) (e : MethodKinds) →
    i < length ms → IsMethod names class (get_or ms i d) (get_or xs i e)
methods_at names class [] xs a i d e h = absurd (omega (arith, h))
methods_at names class (m ∷ ms) [] a i d e h = absurd a
methods_at names class (m ∷ ms) (x ∷ xs) a zero d e h = a.0
methods_at names class (m ∷ ms) (x ∷ xs) a (suc i) d e h = methods_at names class ms xs a.1 i d e (omega (arith, h))

methods_many : (names : List Name) (class : Name) (ms : List MethodOf) (xs : List MethodKinds) → AreMethods names class ms xs →
    length xs ≡ length ms
methods_many names class [] [] a = refl
methods_many names class [] (x ∷ xs) a = absurd a
methods_many names class (m ∷ ms) [] a = absurd a
methods_many names class (m ∷ ms) (x ∷ xs) a = ap (λ n. suc n) (methods_many names class ms xs a.1)

module _ (p : Program) (class : ℕ) (k : ProgramKinds) (c : LinkedClass) (x : ClassKinds) (i : ClassIs p class k (class_of c) x) where
  pub class_many : length x.methods.items ≡ length c.methods.items
  class_many = methods_many k.names c.name (map method_of c.methods.items) x.methods.items i.is.methods ∙
      length-map c.methods.items method_of

  pub method_there : (number : ℕ) → method_at p class number ≡ slice_get (map method_of c.methods.items) number
  method_there number = ap (λ (o : Option ClassOf). slice_get (methods_in o) number) i.there

  pub method_is : (number : ℕ) (d : LinkedMethod) (e : MethodKinds) → number < length c.methods.items →
      MethodIs p class number k (method_of (get_or c.methods.items number d)) (get_or x.methods.items number e)
  method_is number d e h = record {
    there = method_there number ∙ slice_get-map method_of c.methods.items number
        ∙ ap (option_map method_of) (slice_get-get_or c.methods.items number d h);
    kinds = i.kinds;
    is = subst (λ name. IsMethod k.names name (method_of (get_or c.methods.items number d)) (get_or x.methods.items number e))
        (sym (ap name_in i.there))
        (subst (λ mo. IsMethod k.names c.name mo (get_or x.methods.items number e)) (at number h)
        (methods_at k.names c.name (map method_of c.methods.items) x.methods.items i.is.methods number (method_of d) e
        (let l = length-map c.methods.items method_of in omega (arith, l, h))));
  }
    where
      mapped : (ms : List LinkedMethod) (n : ℕ) → get_or (map method_of ms) n (method_of d) ≡ method_of (get_or ms n d)
      mapped [] n = refl
      mapped (y ∷ ms) zero = refl
      mapped (y ∷ ms) (suc n) = mapped ms n

      at : (n : ℕ) → n < length c.methods.items → get_or (map method_of c.methods.items) n (method_of d)
          ≡ method_of (get_or c.methods.items n d)
      at n l = mapped c.methods.items n

  -- the same of what was read of lists
  pub method_read : (number : ℕ) (d : LinkedMethod) (e : MethodKinds) → number < length c.methods.items →
      d ≡ get_or c.methods.items number d →
      e ≡ get_or x.methods.items number e → MethodIs p class number k (method_of d) e
  method_read number d e h is are = subst (λ (y : MethodKinds). MethodIs p class number k (method_of d) y) (sym are)
      (subst (λ (y : LinkedMethod). MethodIs p class number k (method_of y) (get_or x.methods.items number e)) (sym is)
      (method_is number d e h))

  -- those before a number have typings
  abbrev pub Before : ℕ → Type 0
  Before number = (n : ℕ) (other : MethodOf) → n < number → method_at p class n ≡ Some other → Typing p class n other

  pub before_none : Before 0
  before_none n other h e = absurd (omega (arith, h))

  pub before_more : (number : ℕ) (d : LinkedMethod) (t : Bool) → Before number → number < length c.methods.items →
      TypableIs p class number (method_of (get_or c.methods.items number d)) t → t ≡ true → Before (number + 1)
  before_more number d t b within typed is n other h e = by (cases_lt n number)
    where
      typing : Typing p class number (method_of (get_or c.methods.items number d))
      typing = subst (TypableIs p class number (method_of (get_or c.methods.items number d))) is typed

      there : method_at p class number ≡ Some (method_of (get_or c.methods.items number d))
      there = method_there number ∙ slice_get-map method_of c.methods.items number ∙ ap (option_map method_of)
          (slice_get-get_or c.methods.items number d within)

      by : (n < number) ⊎ (number ≤ n) → Typing p class n other
      by (inl l) = b n other l e
      by (inr l) =
          let same : number ≡ n = omega (arith, h, l) in
          let is_it : method_of (get_or c.methods.items number d) ≡ other =
          let q : Some (method_of (get_or c.methods.items number d)) ≡ Some other =
          sym there ∙ ap (method_at p class) same ∙ e in cc q in
          subst (λ q. Typing p class q other) same (subst (λ o. Typing p class number o) is_it typing)

  pub first_is : (number : ℕ) (d : LinkedMethod) (t : Bool) → Before number → number < length c.methods.items →
      TypableIs p class number (method_of (get_or c.methods.items number d)) t → t ≡ false → FirstIn p class number
  first_is number d t b within typed is = record {
    found = method_of (get_or c.methods.items number d);
    there = method_there number ∙ slice_get-map method_of c.methods.items number ∙ ap (option_map method_of)
        (slice_get-get_or c.methods.items number d within);
    untypable = (let none_is : TypableIs p class number (method_of (get_or c.methods.items number d)) false =
        subst (TypableIs p class number (method_of (get_or c.methods.items number d))) is typed in none_is);
    before = b;
  }

  pub read_more : (number : ℕ) (d : LinkedMethod) (t : Bool) → Before number → number < length c.methods.items →
      d ≡ get_or c.methods.items number d → TypableIs p class number (method_of d) t → t ≡ true → Before (number + 1)
  read_more number d t b within is typed e =
      before_more number d t b within (subst (λ (y : LinkedMethod). TypableIs p class number (method_of y) t) is typed) e

  pub read_first : (number : ℕ) (d : LinkedMethod) (t : Bool) → Before number → number < length c.methods.items →
      d ≡ get_or c.methods.items number d → TypableIs p class number (method_of d) t → t ≡ false → FirstIn p class number
  read_first number d t b within is typed e =
      first_is number d t b within (subst (λ (y : LinkedMethod). TypableIs p class number (method_of y) t) is typed) e

  pub all_before : (number : ℕ) → Before number → length c.methods.items ≤ number → FirstOr p class None
  all_before number b h n other e =
      let w = slice_get_within (map method_of c.methods.items) n other (sym (method_there n) ∙ e) in
      let l = length-map c.methods.items method_of in
      b n other (omega (arith, w, l, h)) e

-- The classes of a program.

module _ (cs : List LinkedClass) (k : ProgramKinds) (a : AreKinds (classes_of cs) k) where
  abbrev program : Program
  program = classes_of cs

  pub class_is : (class : ℕ) (d : LinkedClass) (e : ClassKinds) → class < length cs → ClassIs program class k (class_of (get_or cs class d))
      (get_or k.classes.items class e)
  class_is class d e h = record {
    there = slice_get-map class_of cs class ∙ ap (option_map class_of) (slice_get-get_or cs class d h);
    kinds = a;
    is = subst (λ c. IsClass k.names c (get_or k.classes.items class e)) (mapped cs class)
        (a.each_class class (class_of d) e (let l = length-map cs class_of in omega (arith, l, h)));
  }
    where
      mapped : (xs : List LinkedClass) (n : ℕ) → get_or (map class_of xs) n (class_of d) ≡ class_of (get_or xs n d)
      mapped [] n = refl
      mapped (y ∷ xs) zero = refl
      mapped (y ∷ xs) (suc n) = mapped xs n

  -- the same of what was read of lists
  pub class_read : (class : ℕ) (d : LinkedClass) (e : ClassKinds) → class < length cs → d ≡ get_or cs class d →
      e ≡ get_or k.classes.items class e →
      ClassIs program class k (class_of d) e
  class_read class d e h is are = subst (λ (y : ClassKinds). ClassIs program class k (class_of d) y) (sym are)
      (subst (λ (y : LinkedClass). ClassIs program class k (class_of y) (get_or k.classes.items class e)) (sym is) (class_is class d e h))

  abbrev pub Earlier : ℕ → Type 0
  Earlier class = (c m : ℕ) (other : MethodOf) → c < class → method_at program c m ≡ Some other → Typing program c m other

  pub earlier_more : (class : ℕ) → Earlier class → FirstOr program class None → Earlier (class + 1)
  earlier_more class b f c m other h e = by (cases_lt c class)
    where
      by : (c < class) ⊎ (class ≤ c) → Typing program c m other
      by (inl l) = b c m other l e
      by (inr l) = let same : class ≡ c = omega (arith, h, l) in
          subst (λ q. Typing program q m other) same (f m other (ap (λ q. method_at program q m) same ∙ e))

  pub first_found : (class method : ℕ) → Earlier class → FirstIn program class method → FirstAt program class method
  first_found class method b f = record {
    found = f.found;
    there = f.there;
    untypable = f.untypable;
    before = λ c m other e o. before c m other e o;
  }
    where
      before : (c m : ℕ) (other : MethodOf) → method_at program c m ≡ Some other → IsBefore c m class method → Typing program c m other
      before c m other e (inl h) = b c m other h e
      before c m other e (inr h) = subst (λ q. Typing program q m other) (sym h.0)
          (f.before m other h.1 (ap (λ q. method_at program q m) (sym h.0) ∙ e))

  pub all_earlier : (class : ℕ) → Earlier class → length cs ≤ class → AllTypable program
  all_earlier class b h c m other e =
      let w : c < length program = within program e in
      let l = length-map cs class_of in b c m other (omega (arith, w, l, h)) e
    where
      within : (p : Program) → method_at p c m ≡ Some other → c < length p
      within p f = at (class_at p c) refl f
        where
          at : (o : Option ClassOf) → class_at p c ≡ o → slice_get (methods_in o) m ≡ Some other → c < length p
          at None g q = absurd (cc q)
          at (Some d) g q = slice_get_within p c d g

-- what a fault says
pub first_named : (cs : List LinkedClass) (class method : ℕ) (d : LinkedClass) (e : LinkedMethod) → FirstAt (classes_of cs) class method →
    (class < length cs) × ((method < length (get_or cs class d).methods.items)
    × FirstUntypable (classes_of cs) (get_or cs class d).name (get_or (get_or cs class d).methods.items method e).name)
first_named cs class method d e f = go (slice_get cs class) refl
  where
    there : slice_get (methods_in (option_map class_of (slice_get cs class))) method ≡ Some f.found
    there = sym (ap (λ (o : Option ClassOf). slice_get (methods_in o) method) (slice_get-map class_of cs class)) ∙ f.there

    go : (o : Option LinkedClass) → slice_get cs class ≡ o → (class < length cs) × ((method < length (get_or cs class d).methods.items)
        × FirstUntypable (classes_of cs) (get_or cs class d).name (get_or (get_or cs class d).methods.items method e).name)
    go None g = absurd (let q : None ≡ Some f.found =
        sym (ap (λ (o : Option LinkedClass). slice_get (methods_in (option_map class_of o)) method) g) ∙ there in cc q)
    go (Some c) g = (
      slice_get_within cs class c g,
      (
        subst (λ y. method < length y.methods.items) (sym same) within,
        record {
          class = class;
          method = method;
          first = f;
          class_named = ap (λ (y : LinkedClass). y.name) same ∙
              sym (ap name_in (slice_get-map class_of cs class ∙ ap (option_map class_of) g));
          method_named = ap (λ (y : LinkedClass). (get_or y.methods.items method e).name) same ∙ named;
        },
      ),
    )
      where
        same : get_or cs class d ≡ c
        same = get_or_from_slice_get cs class c d g

        at : slice_get (map method_of c.methods.items) method ≡ Some f.found
        at = sym (ap (λ (o : Option LinkedClass). slice_get (methods_in (option_map class_of o)) method) g) ∙ there

        within : method < length c.methods.items
        within = let w = slice_get_within (map method_of c.methods.items) method f.found at in let l = length-map c.methods.items method_of
            in omega (arith, w, l)

        named : (get_or c.methods.items method e).name ≡ f.found.name
        named =
            let q : Some (method_of (get_or c.methods.items method e)) ≡ Some f.found =
            sym (slice_get-map method_of c.methods.items method ∙ ap (option_map method_of)
            (slice_get-get_or c.methods.items method e within)) ∙ at in
            let r : method_of (get_or c.methods.items method e) ≡ f.found = cc q in
            ap (λ (y : MethodOf). y.name) r

-- some method, where one is the first
some_method : (cs : List LinkedClass) (class method : ℕ) → FirstAt (classes_of cs) class method → LinkedMethod
some_method cs class method f = go (slice_get cs class) refl
  where
    there : slice_get (methods_in (option_map class_of (slice_get cs class))) method ≡ Some f.found
    there = sym (ap (λ (o : Option ClassOf). slice_get (methods_in o) method) (slice_get-map class_of cs class)) ∙ f.there

    one_of : (ms : List LinkedMethod) → slice_get (map method_of ms) method ≡ Some f.found → LinkedMethod
    one_of [] q = absurd (cc q)
    one_of (x ∷ ms) q = x

    go : (o : Option LinkedClass) → slice_get cs class ≡ o → LinkedMethod
    go None g = absurd (let q : None ≡ Some f.found =
        sym (ap (λ (o : Option LinkedClass). slice_get (methods_in (option_map class_of o)) method) g) ∙ there in cc q)
    go (Some c) g = one_of c.methods.items
        (sym (ap (λ (o : Option LinkedClass). slice_get (methods_in (option_map class_of o)) method) g) ∙ there)

pub fault_named : (cs : List LinkedClass) (class method : ℕ) (item : LinkedClass) (fault : VerifyFault) → item ≡ get_or cs class item →
    FirstAt (classes_of cs) class method →
    ((d : LinkedMethod) → fault ≡ faults.Unverified item.name (get_or item.methods.items method d).name) → Says (classes_of cs) fault
fault_named cs class method item fault is f named =
    let e = some_method cs class method f in
    subst (Says (classes_of cs)) (sym (named e))
    (subst (λ (c : LinkedClass). FirstUntypable (classes_of cs) c.name (get_or c.methods.items method e).name) (sym is)
    (first_named cs class method item e f).1.1)

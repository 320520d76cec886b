-- What the conditions on the declarations answer by computing is right.
use Rattle.std.proofs.Common.{◌≡◌, ◌≢◌, ◌⊎◌, inl, inr, ⊎_elim, List, [], ◌∷◌, map, Option, Some, None, Bool, true, false, not, ◌&&◌, ◌||◌}
use Rattle.std.proofs.Common.{Contains, Decides, refl, sym, ap, subst, ◌∙◌, true≢false}
use Rattle.std.specs.Prelude.{is_some, option_and_then}
use Rattle.std.specs.List.{list_any}
use Rattle.std.specs.Str.{bytes_eq}
use Rattle.std.proofs.lemmas.Bool.Decides.{Decides-and, Decides-or, Decides-not}
use Rattle.std.proofs.lemmas.Slice.Eq.{bytes_eq-Decides}
use Rattle.mg_text.specs.Call.{Name}
use Rattle.mg_text.specs.declared.place.Place.{Place}
use Rattle.mg_read.specs.Culprit.{Culprit, culprit}
use Rattle.ts_tree.specs.Typestate as protocols
use Rattle.ts_tree.specs.declared.parts.TypeName.{TypeName}
use Rattle.ts_tree.specs.declared.parts.TypeName.TheVariants as written
use Rattle.jv_tree.specs.Source.{Expr, Int, Truth, Text, Null, This, Variable, Member, Neg, Not, Binary, Call, MethodCall, New, Field}
use Rattle.jv_tree.specs.Source.{Method, Class, Enum}
use Rattle.jv_meaning.specs.Program.{class_named, enum_named, typestate_named, method_named}
use Rattle.jv_rules.specs.Program.{Program, typestate_of}
use Rattle.jv_rules.specs.Members.{Mention, Written, Made, ClassMember, OfField, OfMethod}
use Rattle.jv_rules.specs.Declarations.{IsUsableClass, IsUsable, UnknownClass, UnknownTypestate, IsInstance, MissingMethod, Owned}
use Rattle.jv_rules.specs.Declarations.{IsDemanded, SignatureDiffers, AreConstants, AreLabelsOf, AnswersBy, LabelsDiffer, HasConstant}
use Rattle.jv_rules.specs.Declarations.{IsConstantOf, NeedsValue, LacksConstant, FieldNeedsValue, Standing, InstanceInPlain}
use Rattle.jv_rules.specs.inner.Deciding.{when, has_constant}
use Rattle.jv_rules.proofs.Deciding.{Answers, when_wrong}
use Rattle.jv_rules.proofs.Tests.{holds, fails, decides_as, any_decides, nothing_in, in_cases, in_first, in_later, some-Decides}
use Rattle.jv_types.specs.declared.demands.Demand.{Demand}
use Rattle.jv_types.specs.declared.demands.Demand.TheVariants as demands
use Rattle.jv_types.specs.inner.Declaring.{is_usable_class, is_usable, unknown_class, offers_of, is_instance, missing_method, type_eq}
use Rattle.jv_types.specs.inner.Declaring.{types_eq, all_in, are_constants, are_labels_of, other_labels, breaks, broken_method, is_int}
use Rattle.jv_types.specs.inner.Declaring.{is_truth, is_text, is_member_of, is_constant_named, is_constant_of, needs_value, lacks_constant}
use Rattle.jv_types.specs.inner.Declaring.{field_needs_value, plain_member}

-- a test that decides that something is wrong
wrong : (P : Type 0) (b : Bool) (k : Culprit) → Decides b P → Answers (λ c. (c ≡ k) × P) (when b k)
wrong P b k d = when_wrong (λ c. (c ≡ k) × P) P b k d (λ c a. a) (λ p. (refl, p))

-- a test that decides that all is right
wrong_unless : (P : Type 0) (b : Bool) (k : Culprit) → Decides b P → Answers (λ c. (c ≡ k) × (P → ⊥)) (when (not b) k)
wrong_unless P b k d = wrong (P → ⊥) (not b) k (Decides-not b d)

-- 3
usable_class-Decides : (o : Option Class) → Decides (is_usable_class o) (IsUsableClass o)
usable_class-Decides None = fails (λ h. h)
usable_class-Decides (Some c) = some-Decides c.typestate

usable-Decides : (program : Program) (name : Name) → Decides (is_usable program name) (IsUsable program name)
usable-Decides program name = Decides-or _ _ (some-Decides (enum_named program.files name))
    (usable_class-Decides (class_named program.files name))

pub unknown_class-right : (program : Program) (m : Mention) → Answers (UnknownClass program m) (unknown_class program m)
unknown_class-right program (Written p written.Void) = λ c a. a
unknown_class-right program (Written p written.Int) = λ c a. a
unknown_class-right program (Written p written.Boolean) = λ c a. a
unknown_class-right program (Written p written.Text) = λ c a. a
unknown_class-right program (Written p (written.Named name)) = wrong_unless (IsUsable program name) (is_usable program name)
    (culprit p name) (usable-Decides program name)
unknown_class-right program (Made p name) = wrong_unless (IsUsableClass (class_named program.files name)) _ (culprit p name)
    (usable_class-Decides (class_named program.files name))

-- 4
none-Decides : {X : Type 0} (o : Option X) → Decides (not (is_some o)) (o ≡ None)
none-Decides None = holds refl
none-Decides (Some x) = fails (λ e. let no : ⊥ = cc in no)

abbrev typestate_answer : Option protocols.Typestate → Class → Option Name → Option Culprit
typestate_answer found c t = elim t [ None ↦ None | Some name ↦ when (not (is_some found)) (culprit c.place name) ]

pub typestate-right : (program : Program) (c : Class) (t : Option Name) → c.typestate ≡ t →
    Answers (UnknownTypestate program c) (typestate_answer (option_and_then (typestate_named program.typestates) t) c t)
typestate-right program c None e = λ k a. let no : ⊥ = let h : None ≡ Some a.0 = sym e ∙ a.1 in cc in no
typestate-right program c (Some name) e =
    when_wrong (UnknownTypestate program c) (typestate_named program.typestates name ≡ None)
    (not (is_some (typestate_named program.typestates name))) (culprit c.place name)
    (none-Decides (typestate_named program.typestates name))
    (λ k a. let both : Some a.0 ≡ Some name = sym a.1 ∙ e in let same : a.0 ≡ name = cc in (
      a.2 ∙ ap (culprit c.place) same,
      subst (λ n. typestate_named program.typestates n ≡ None) same a.3,
    ))
    (λ n. (name, e, refl, n))

-- 5
instance-Decides : (o : Option Method) → Decides (is_instance o) (IsInstance o)
instance-Decides None = fails (λ h. h)
instance-Decides (Some m) = go m.is_static
  where
    go : (b : Bool) → Decides (not b) (b ≡ false)
    go true = fails (λ e. true≢false e)
    go false = holds refl

pub missing_method-right : (c : Class) (m : protocols.Method) → Answers (MissingMethod (c, m)) (missing_method c m)
missing_method-right c m = wrong_unless (IsInstance (method_named c m.name)) _ (culprit c.place m.name)
    (instance-Decides (method_named c m.name))

-- 6 and 7
any_by : {X : Type 0} (p : X → Bool) (P : X → Type 0) → ((x : X) → Decides (p x) (P x)) → (xs : List X) →
    Decides (list_any p xs) ((x : X) × Contains xs x × P x)
any_by p P each [] = fails (λ h. nothing_in h.0 h.1)
any_by {X} p P each (x ∷ xs) =
    decides_as (p x || list_any p xs) (Decides-or (p x) (list_any p xs) (each x) (any_by p P each xs))
    (λ q. ⊎_elim (λ a. (x, in_first xs x, a)) (λ h. (h.0, in_later xs x h.0 h.1, h.2)) q)
    (λ h. ⊎_elim (λ e. inl (subst P (sym e) h.2)) (λ k. inr (h.0, k, h.2)) (in_cases xs x h.0 h.1))

demanded_by : (program : Program) (c : Class) (m : protocols.Method) (o : Option protocols.Typestate) → typestate_of program c ≡ o →
    Contains (offers_of o) m → IsDemanded program c m
demanded_by program c m None e h = absurd (nothing_in m h)
demanded_by program c m (Some t) e h = (t, e, h)

offered_by : (program : Program) (c : Class) (m : protocols.Method) → IsDemanded program c m → Contains (offers_of (typestate_of program c))
    m
offered_by program c m d = subst (λ o. Contains (offers_of o) m) (sym d.1) d.2

pub type_is : (a b : TypeName) → type_eq a b ≡ true → a ≡ b
type_is written.Void written.Void e = refl
type_is written.Int written.Int e = refl
type_is written.Boolean written.Boolean e = refl
type_is written.Text written.Text e = refl
type_is (written.Named a) (written.Named b) e = ap written.Named ((bytes_eq-Decides a b).0 e)
type_is a b e = absurd cc

type_self : (a : TypeName) → type_eq a a ≡ true
type_self written.Void = refl
type_self written.Int = refl
type_self written.Boolean = refl
type_self written.Text = refl
type_self (written.Named a) = (bytes_eq-Decides a a).1 refl

type-Decides : (a b : TypeName) → Decides (type_eq a b) (a ≡ b)
type-Decides a b = (type_is a b, λ e. subst (λ x. type_eq a x ≡ true) e (type_self a))

types-Decides : (xs ys : List TypeName) → Decides (types_eq xs ys) (xs ≡ ys)
types-Decides [] [] = holds refl
types-Decides [] (y ∷ ys) = fails (λ e. let no : ⊥ = cc in no)
types-Decides (x ∷ xs) [] = fails (λ e. let no : ⊥ = cc in no)
types-Decides (x ∷ xs) (y ∷ ys) =
    decides_as (type_eq x y && types_eq xs ys) (Decides-and _ _ (type-Decides x y) (types-Decides xs ys))
    (λ h. ap (λ z. z ∷ xs) h.0 ∙ ap (λ zs. y ∷ zs) h.1) (λ e. let h : x ≡ y = cc in let t : xs ≡ ys = cc in (h, t))

not_both : {A B : Type 0} (a b : Bool) → Decides a A → Decides b B → Decides (not (a && b)) ((A → ⊥) ⊎ (B → ⊥))
not_both true true d e = fails (λ h. ⊎_elim (λ n. n (d.0 refl)) (λ n. n (e.0 refl)) h)
not_both true false d e = holds (inr (λ x. true≢false (sym (e.1 x))))
not_both false b d e = holds (inl (λ x. true≢false (sym (d.1 x))))

static-Decides : (b : Bool) → Decides (not b) (b ≡ false)
static-Decides true = fails (λ e. true≢false e)
static-Decides false = holds refl

-- what a broken method breaks
module _ (program : Program) (k : Demand) (c : Class) (m : Method) (Breaks : protocols.Method → Type 0) (each : (d : protocols.Method) →
    Decides (breaks program k m d) (Breaks d)) where
  abbrev Broken : Type 0
  Broken = (m.is_static ≡ false) × ((d : protocols.Method) × Contains (offers_of (typestate_of program c)) d
      × ((d.name ≡ m.name) × Breaks d))

  broken-Decides : Decides (not m.is_static && list_any (λ d. bytes_eq d.name m.name && breaks program k m d)
      (offers_of (typestate_of program c))) Broken
  broken-Decides =
      Decides-and _ _ (static-Decides m.is_static)
      (any_by (λ d. bytes_eq d.name m.name && breaks program k m d) (λ d. (d.name ≡ m.name) × Breaks d)
      (λ d. Decides-and _ _ (bytes_eq-Decides d.name m.name) (each d)) (offers_of (typestate_of program c)))

abbrev owned : Class → Method → Owned
owned c m = record { owner = c; method = m }

abbrev OtherSignature : Method → protocols.Method → Type 0
OtherSignature m d = (d.result ≢ m.result) ⊎ (d.params ≢ map (λ p. p.ty) m.params)

pub signature-right : (program : Program) (c : Class) (m : Method) → Answers (SignatureDiffers program (owned c m))
    (broken_method program demands.OfSignature (offers_of (typestate_of program c)) m)
signature-right program c m =
    when_wrong (SignatureDiffers program (owned c m)) (Broken program demands.OfSignature c m (OtherSignature m) each) _
    (culprit m.place m.name)
    (broken-Decides program demands.OfSignature c m (OtherSignature m) each)
    (λ k a. (a.0, (a.1, (a.2, offered_by program c a.2 a.3, (a.4, a.5)))))
    (λ p. (refl, p.0, p.1.0, demanded_by program c p.1.0 (typestate_of program c) refl p.1.1, p.1.2.0, p.1.2.1))
  where
    each : (d : protocols.Method) → Decides (breaks program demands.OfSignature m d) (OtherSignature m d)
    each d = not_both (type_eq d.result m.result) (types_eq d.params (map (λ p. p.ty) m.params)) (type-Decides d.result m.result)
        (types-Decides d.params (map (λ p. p.ty) m.params))

name_in-Decides : (names : List Name) (x : Name) → Decides (list_any (bytes_eq x) names) (Contains names x)
name_in-Decides names x = any_decides (bytes_eq x) x (λ y. decides_as (bytes_eq x y) (bytes_eq-Decides x y) (λ e. sym e) (λ e. sym e)) names

all_in-Decides : (names xs : List Name) → Decides (all_in names xs) ((n : Name) → Contains xs n → Contains names n)
all_in-Decides names [] = holds (λ n h. absurd (nothing_in n h))
all_in-Decides names (x ∷ xs) =
    decides_as (list_any (bytes_eq x) names && all_in names xs) (Decides-and _ _ (name_in-Decides names x) (all_in-Decides names xs))
    (λ p n h. ⊎_elim (λ e. subst (Contains names) e p.0) (λ k. p.1 n k) (in_cases xs x n h))
    (λ f. (f x (in_first xs x), λ n h. f n (in_later xs x n h)))

constants-Decides : (o : Option Enum) (labels : List Name) → Decides (are_constants o labels) (AreConstants o labels)
constants-Decides None labels = fails (λ h. h)
constants-Decides (Some e) labels =
    decides_as (all_in e.constants labels && all_in labels e.constants) (Decides-and _ _ (all_in-Decides e.constants labels)
    (all_in-Decides labels e.constants))
    (λ p n. (p.0 n, p.1 n)) (λ f. (λ n. (f n).0, λ n. (f n).1))

labels-Decides : (program : Program) (ty : TypeName) (labels : List Name) → Decides (are_labels_of program ty labels)
    (AreLabelsOf program ty labels)
labels-Decides program written.Void labels = fails (λ h. h)
labels-Decides program written.Int labels = fails (λ h. h)
labels-Decides program written.Boolean labels = fails (λ h. h)
labels-Decides program written.Text labels = fails (λ h. h)
labels-Decides program (written.Named name) labels = constants-Decides (enum_named program.files name) labels

abbrev OtherLabels : Program → TypeName → protocols.Target → Type 0
OtherLabels program ty target = (labels : List Name) × AnswersBy target labels × (AreLabelsOf program ty labels → ⊥)

other_labels-Decides : (program : Program) (ty : TypeName) (target : protocols.Target) → Decides (other_labels program ty target)
    (OtherLabels program ty target)
other_labels-Decides program ty (protocols.One to) = fails (λ h. h.1)
other_labels-Decides program ty (protocols.ByAnswer branches) =
    decides_as (not (are_labels_of program ty (map (λ b. b.label) branches)))
    (Decides-not _ (labels-Decides program ty (map (λ b. b.label) branches)))
    (λ n. (map (λ b. b.label) branches, refl, n)) (λ h l. h.2 (subst (AreLabelsOf program ty) (sym h.1) l))

pub labels-right : (program : Program) (c : Class) (m : Method) → Answers (LabelsDiffer program (owned c m))
    (broken_method program demands.OfLabels (offers_of (typestate_of program c)) m)
labels-right program c m =
    when_wrong (LabelsDiffer program (owned c m)) (Broken program demands.OfLabels c m Other each) _ (culprit m.place m.name)
    (broken-Decides program demands.OfLabels c m Other each)
    (λ k a. (a.0, (a.1, (a.2, offered_by program c a.2 a.4, (a.5, (a.3, a.6, a.7))))))
    (λ p. (refl, p.0, p.1.0, p.1.2.1.0, demanded_by program c p.1.0 (typestate_of program c) refl p.1.1, p.1.2.0, p.1.2.1.1, p.1.2.1.2))
  where
    Other : protocols.Method → Type 0
    Other d = OtherLabels program m.result d.target

    each : (d : protocols.Method) → Decides (breaks program demands.OfLabels m d) (Other d)
    each d = other_labels-Decides program m.result d.target

-- 8
constant-Decides : (o : Option Enum) (name : Name) → Decides (has_constant o name) (HasConstant o name)
constant-Decides None name = fails (λ h. h)
constant-Decides (Some e) name = name_in-Decides e.constants name

module _ (program : Program) where
  void-Decides : (e : Expr) → Decides (is_constant_of program written.Void e) (IsConstantOf program written.Void e)
  void-Decides (Int p z) = fails (λ h. h)
  void-Decides (Truth p b) = fails (λ h. h)
  void-Decides (Text p t) = fails (λ h. h)
  void-Decides (Null p) = fails (λ h. h)
  void-Decides (This p) = fails (λ h. h)
  void-Decides (Variable p x) = fails (λ h. h)
  void-Decides (Member p e n) = fails (λ h. h)
  void-Decides (Neg p e) = fails (λ h. h)
  void-Decides (Not p e) = fails (λ h. h)
  void-Decides (Binary p o l r) = fails (λ h. h)
  void-Decides (Call p n args) = fails (λ h. h)
  void-Decides (MethodCall p e n args) = fails (λ h. h)
  void-Decides (New p n) = fails (λ h. h)

  int-Decides : (e : Expr) → Decides (is_int e) (IsConstantOf program written.Int e)
  int-Decides (Int p z) = holds tt
  int-Decides (Truth p b) = fails (λ h. h)
  int-Decides (Text p t) = fails (λ h. h)
  int-Decides (Null p) = fails (λ h. h)
  int-Decides (This p) = fails (λ h. h)
  int-Decides (Variable p x) = fails (λ h. h)
  int-Decides (Member p e n) = fails (λ h. h)
  int-Decides (Neg p e) = fails (λ h. h)
  int-Decides (Not p e) = fails (λ h. h)
  int-Decides (Binary p o l r) = fails (λ h. h)
  int-Decides (Call p n args) = fails (λ h. h)
  int-Decides (MethodCall p e n args) = fails (λ h. h)
  int-Decides (New p n) = fails (λ h. h)

  truth-Decides : (e : Expr) → Decides (is_truth e) (IsConstantOf program written.Boolean e)
  truth-Decides (Int p z) = fails (λ h. h)
  truth-Decides (Truth p b) = holds tt
  truth-Decides (Text p t) = fails (λ h. h)
  truth-Decides (Null p) = fails (λ h. h)
  truth-Decides (This p) = fails (λ h. h)
  truth-Decides (Variable p x) = fails (λ h. h)
  truth-Decides (Member p e n) = fails (λ h. h)
  truth-Decides (Neg p e) = fails (λ h. h)
  truth-Decides (Not p e) = fails (λ h. h)
  truth-Decides (Binary p o l r) = fails (λ h. h)
  truth-Decides (Call p n args) = fails (λ h. h)
  truth-Decides (MethodCall p e n args) = fails (λ h. h)
  truth-Decides (New p n) = fails (λ h. h)

  text-Decides : (e : Expr) → Decides (is_text e) (IsConstantOf program written.Text e)
  text-Decides (Int p z) = fails (λ h. h)
  text-Decides (Truth p b) = fails (λ h. h)
  text-Decides (Text p t) = holds tt
  text-Decides (Null p) = fails (λ h. h)
  text-Decides (This p) = fails (λ h. h)
  text-Decides (Variable p x) = fails (λ h. h)
  text-Decides (Member p e n) = fails (λ h. h)
  text-Decides (Neg p e) = fails (λ h. h)
  text-Decides (Not p e) = fails (λ h. h)
  text-Decides (Binary p o l r) = fails (λ h. h)
  text-Decides (Call p n args) = fails (λ h. h)
  text-Decides (MethodCall p e n args) = fails (λ h. h)
  text-Decides (New p n) = fails (λ h. h)

  member-Decides : (name : Name) (p : Place) (e : Expr) (n : Name) → Decides (is_member_of program name e n)
      (IsConstantOf program (written.Named name) (Member p e n))
  member-Decides name p (Int q z) n = fails (λ h. h)
  member-Decides name p (Truth q b) n = fails (λ h. h)
  member-Decides name p (Text q t) n = fails (λ h. h)
  member-Decides name p (Null q) n = fails (λ h. h)
  member-Decides name p (This q) n = fails (λ h. h)
  member-Decides name p (Variable q x) n = Decides-and _ _ (bytes_eq-Decides x name) (constant-Decides (enum_named program.files name) n)
  member-Decides name p (Member q d k) n = fails (λ h. h)
  member-Decides name p (Neg q d) n = fails (λ h. h)
  member-Decides name p (Not q d) n = fails (λ h. h)
  member-Decides name p (Binary q o l r) n = fails (λ h. h)
  member-Decides name p (Call q k args) n = fails (λ h. h)
  member-Decides name p (MethodCall q d k args) n = fails (λ h. h)
  member-Decides name p (New q k) n = fails (λ h. h)

  named-Decides : (name : Name) (e : Expr) → Decides (is_constant_named program name e) (IsConstantOf program (written.Named name) e)
  named-Decides name (Int p z) = fails (λ h. h)
  named-Decides name (Truth p b) = fails (λ h. h)
  named-Decides name (Text p t) = fails (λ h. h)
  named-Decides name (Null p) = some-Decides (class_named program.files name)
  named-Decides name (This p) = fails (λ h. h)
  named-Decides name (Variable p x) = fails (λ h. h)
  named-Decides name (Member p e n) = member-Decides name p e n
  named-Decides name (Neg p e) = fails (λ h. h)
  named-Decides name (Not p e) = fails (λ h. h)
  named-Decides name (Binary p o l r) = fails (λ h. h)
  named-Decides name (Call p n args) = fails (λ h. h)
  named-Decides name (MethodCall p e n args) = fails (λ h. h)
  named-Decides name (New p n) = fails (λ h. h)

  constant_of-Decides : (ty : TypeName) (e : Expr) → Decides (is_constant_of program ty e) (IsConstantOf program ty e)
  constant_of-Decides written.Void e = void-Decides e
  constant_of-Decides written.Int e = int-Decides e
  constant_of-Decides written.Boolean e = truth-Decides e
  constant_of-Decides written.Text e = text-Decides e
  constant_of-Decides (written.Named name) e = named-Decides name e

  needs-Decides : (ty : TypeName) → Decides (needs_value program ty) (NeedsValue program ty)
  needs-Decides written.Void = fails (λ h. h)
  needs-Decides written.Int = fails (λ h. h)
  needs-Decides written.Boolean = fails (λ h. h)
  needs-Decides written.Text = holds tt
  needs-Decides (written.Named name) = some-Decides (enum_named program.files name)

  lacks-Decides : (ty : TypeName) (value : Option Expr) → Decides (lacks_constant program ty value) (LacksConstant program ty value)
  lacks-Decides ty None = needs-Decides ty
  lacks-Decides ty (Some e) = Decides-not _ (constant_of-Decides ty e)

  pub field-right : (f : Field) → Answers (FieldNeedsValue program f) (field_needs_value program f)
  field-right f = wrong (LacksConstant program f.ty f.value) (lacks_constant program f.ty f.value) (culprit f.place f.name)
      (lacks-Decides f.ty f.value)

-- 9
abbrev standing : Option Name → ClassMember → Standing
standing t m = record { typestate = t; member = m }

pub plain-right : (t : Option Name) (m : ClassMember) → Answers (InstanceInPlain (standing t m)) (plain_member t m)
plain-right (Some t) (OfField f) = λ c a. let no : ⊥ = let h : Some t ≡ None = a.1 in cc in no
plain-right (Some t) (OfMethod m) = λ c a. let no : ⊥ = let h : Some t ≡ None = a.1 in cc in no
plain-right None (OfField f) = (refl, refl)
plain-right None (OfMethod m) =
    when_wrong (InstanceInPlain (standing None (OfMethod m))) (m.is_static ≡ false) (not m.is_static) (culprit m.place [])
    (static-Decides m.is_static)
    (λ c a. (a.0, a.2)) (λ e. (refl, refl, e))

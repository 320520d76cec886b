-- What the conditions answer by computing is right.
use Rattle.std.proofs.Common.{◌≡◌, ◌≢◌, ◌⊎◌, inl, inr, ⊎_elim, ℕ, List, [], ◌∷◌, length, Option, Some, None, zero, suc, Bool, true, false}
use Rattle.std.proofs.Common.{not, ◌==◌, Contains, Decides, refl, sym, ap, subst, ◌∙◌, true≢false, codes}
use Rattle.std.specs.List.{list_any}
use Rattle.std.specs.Option.{option_or}
use Rattle.std.specs.Str.{bytes_eq}
use Rattle.std.proofs.lemmas.Bool.Decides.{Decides-and, Decides-or, Decides-not, Decides-eqb}
use Rattle.std.proofs.lemmas.Option.{same_Some}
use Rattle.std.proofs.lemmas.Slice.Eq.{bytes_eq-Decides}
use Rattle.mg_text.specs.Call.{Name}
use Rattle.mg_text.specs.declared.place.Place.{Place}
use Rattle.mg_read.specs.Culprit.{Culprit, culprit}
use Rattle.mg_read.specs.First.{Judged, clean, here, later, FirstOf, none, this, next}
use Rattle.mg_read.proofs.Judging.{no_both, no_both_first}
use Rattle.ts_tree.specs.declared.parts.TypeName.{TypeName}
use Rattle.ts_tree.specs.declared.parts.TypeName.TheVariants as written
use Rattle.jv_tree.specs.Source.{Expr, Int, Truth, Text, Null, This, Variable, Member, Neg, Not, Binary, Call, MethodCall, New, Exprs}
use Rattle.jv_tree.specs.Source.{NoExpr, Argument, place_of}
use Rattle.jv_tree.specs.Source.{Block, Empty, Local, Assign, If, IfElse, While, Do, Switch, Break, Continue, Return, Print, Eval, Enum}
use Rattle.jv_tree.specs.Source.{Method, Field}
use Rattle.jv_meaning.specs.Program.{class_named, enum_named, method_named}
use Rattle.jv_rules.specs.declared.condition.Condition.{Condition}
use Rattle.jv_rules.specs.declared.condition.Condition.TheVariants as conditions
use Rattle.jv_rules.specs.Program.{Program, is_of_protocol}
use Rattle.jv_rules.specs.Types.{ValueType, NoValue, IntType, BooleanType, TextType, EnumType, ClassType, NullType, Signature, Fits, same}
use Rattle.jv_rules.specs.Types.{null}
use Rattle.jv_rules.specs.Scope.{Scope, Loop, Target, local_named, variable_type, field_of, is_variable}
use Rattle.jv_rules.specs.Scope as targets
use Rattle.jv_rules.specs.Completes.{Through}
use Rattle.jv_rules.specs.Typing.{type_of, called, called_on}
use Rattle.jv_rules.specs.Spots.{Value, Receiver, Qualifier, Spot, AtNode, AtStatement, AtParameter, AtEnd, spots}
use Rattle.jv_rules.specs.Taking.{Wanted, Fitting, Writable, AnyEnum, ClassVariable, Nothing, IsWritable, IsEnum, IsClass, Suits, Taking}
use Rattle.jv_rules.specs.Taking.{Takes, Lacks, count_of, taken_at}
use Rattle.jv_rules.specs.Conditions.{NamesClass, IsReceiver, IsQualifier, UnknownName, DuplicateLocal, TypeMismatch, Arity, CanBreak}
use Rattle.jv_rules.specs.Conditions.{CanContinue, Labelled, BreakAt, ContinueAt, LoopAt, CaseAt, label_name, labelled_at, IsConstant}
use Rattle.jv_rules.specs.Conditions.{BadLabel, MissingReturn, IsProtocol, IsHelper, SelfCall, ThisAsValue, CallsHelper, CallsHelperIn}
use Rattle.jv_rules.specs.Conditions.{ArgsMayMove}
use Rattle.jv_rules.specs.Faults.{AtSpot, on_methods, IsAtFault, IsFault}
use Rattle.jv_rules.specs.inner.Leaving.{same_label}
use Rattle.jv_rules.specs.inner.Deciding.{when, first_by, told, first_kind, names_class, is_receiver, is_qualifier, unknown_name}
use Rattle.jv_rules.specs.inner.Deciding.{duplicate_local, tag, type_name, same_type, fits, is_writable, suits, suits_some, type_mismatch}
use Rattle.jv_rules.specs.inner.Deciding.{count_differs, arity, is_loop, has_label, can_break, can_continue, has_constant, is_case_of}
use Rattle.jv_rules.specs.inner.Deciding.{bad_label, is_void, missing_return, is_protocol, is_helper, self_call, this_as_value}
use Rattle.jv_rules.specs.inner.Deciding.{calls_helper, calls_helper_in, args_may_move, answer, fault_at, method_fault}
use Rattle.jv_rules.proofs.Tests.{nothing_in, holds, fails, decides_as, any_decides, in_cases, in_first, in_later, some-Decides}
use Rattle.jv_rules.proofs.Tests.{lacks-Decides}
use Rattle.jv_rules.proofs.Leaving.{same_label-Decides, leaves_all-Decides}

-- what an element answers
abbrev pub Answers : {C : Type 0} → (C → Type 0) → Option C → Type 0
Answers {C} At None = (c : C) → At c → ⊥
Answers At (Some c) = At c

-- the first answer is that of the first element that has one
pub judged_by : {X C : Type 0} {At : X → C → Type 0} (f : X → Option C) → ((x : X) → Answers (At x) (f x)) → (xs : List X) →
    Judged At xs (first_by f xs)
judged_by f each [] = clean
judged_by {X} {C} {At} f each (x ∷ xs) = go (f x) (each x) (judged_by f each xs)
  where
    go : (r : Option C) → Answers (At x) r → Judged At xs (first_by f xs) → Judged At (x ∷ xs) (option_or r (first_by f xs))
    go None a j = later a j
    go (Some c) a j = here a

pub judged_one : {X C : Type 0} {At : X → C → Type 0} (x : X) (r : Option C) → Answers (At x) r → Judged At (x ∷ []) r
judged_one x None a = later a clean
judged_one x (Some c) a = here a

-- the first condition that has an answer
pub first_kind-FirstOf : {K C : Type 0} {Of : K → Option C → Type 0} (f : K → Option C) → ((k : K) → Of k (f k)) → (ks : List K) →
    FirstOf Of ks (first_kind f ks)
first_kind-FirstOf f each [] = none
first_kind-FirstOf {K} {C} {Of} f each (k ∷ ks) = go (f k) (each k) (first_kind-FirstOf f each ks)
  where
    go : (r : Option C) → Of k r → FirstOf Of ks (first_kind f ks) → FirstOf Of (k ∷ ks) (told k r (first_kind f ks))
    go None a j = next a j
    go (Some c) a j = this a

-- a test that decides that something is wrong
pub when_wrong : (At : Culprit → Type 0) (P : Type 0) (b : Bool) (k : Culprit) → Decides b P → ((c : Culprit) → At c → (c ≡ k) × P) →
    (P → At k) → Answers At (when b k)
when_wrong At P true k d out back = back (d.0 refl)
when_wrong At P false k d out back = λ c a. true≢false (sym (d.1 (out c a).1))

wrong : (P : Type 0) (b : Bool) (k : Culprit) → Decides b P → Answers (λ c. (c ≡ k) × P) (when b k)
wrong P b k d = when_wrong (λ c. (c ≡ k) × P) P b k d (λ c a. a) (λ p. (refl, p))

-- a test that decides that all is right
wrong_unless : (P : Type 0) (b : Bool) (k : Culprit) → Decides b P → Answers (λ c. (c ≡ k) × (P → ⊥)) (when (not b) k)
wrong_unless P b k d = wrong (P → ⊥) (not b) k (Decides-not b d)

-- 10
named_class-Decides : (scope : Scope) (x : Name) → Decides (names_class scope x) (NamesClass scope x)
named_class-Decides scope x = Decides-or _ _ (bytes_eq-Decides x (codes "Session")) (some-Decides (class_named scope.program.files x))

receiver-Decides : (scope : Scope) (x : Name) → Decides (is_receiver scope x) (IsReceiver scope x)
receiver-Decides scope x = Decides-or _ _ (some-Decides (variable_type scope x)) (named_class-Decides scope x)

qualifier-Decides : (scope : Scope) (x : Name) → Decides (is_qualifier scope x) (IsQualifier scope x)
qualifier-Decides scope x =
    Decides-or _ _ (some-Decides (variable_type scope x)) (Decides-or _ _ (some-Decides (enum_named scope.program.files x))
    (named_class-Decides scope x))

unknown_name-right : (s : Spot) → Answers (UnknownName s) (unknown_name s)
unknown_name-right (AtNode scope (Receiver p x)) = wrong_unless (IsReceiver scope x) (is_receiver scope x) (culprit p x)
    (receiver-Decides scope x)
unknown_name-right (AtNode scope (Qualifier p x)) = wrong_unless (IsQualifier scope x) (is_qualifier scope x) (culprit p x)
    (qualifier-Decides scope x)
unknown_name-right (AtNode scope (Value (Int p z))) = λ c a. a
unknown_name-right (AtNode scope (Value (Truth p b))) = λ c a. a
unknown_name-right (AtNode scope (Value (Text p t))) = λ c a. a
unknown_name-right (AtNode scope (Value (Null p))) = λ c a. a
unknown_name-right (AtNode scope (Value (This p))) = λ c a. a
unknown_name-right (AtNode scope (Value (Variable p x))) = wrong _ _ (culprit p x) (lacks-Decides (variable_type scope x))
unknown_name-right (AtNode scope (Value (Member p e name))) = wrong _ _ (culprit p name) (lacks-Decides (type_of scope (Member p e name)))
unknown_name-right (AtNode scope (Value (Neg p e))) = λ c a. a
unknown_name-right (AtNode scope (Value (Not p e))) = λ c a. a
unknown_name-right (AtNode scope (Value (Binary p o l r))) = λ c a. a
unknown_name-right (AtNode scope (Value (Call p name args))) = wrong _ _ (culprit p name) (lacks-Decides (called scope name))
unknown_name-right (AtNode scope (Value (MethodCall p e name args))) =
    wrong _ _ (culprit p name) (lacks-Decides (called_on scope e (type_of scope e) name))
unknown_name-right (AtNode scope (Value (New p n))) = λ c a. a
unknown_name-right (AtStatement scope s) = λ c a. a
unknown_name-right (AtParameter scope p) = λ c a. a
unknown_name-right (AtEnd m) = λ c a. a

-- 11
duplicate_local-right : (s : Spot) → Answers (DuplicateLocal s) (duplicate_local s)
duplicate_local-right (AtNode scope n) = λ c a. a
duplicate_local-right (AtStatement scope (Block p b e)) = λ c a. a
duplicate_local-right (AtStatement scope (Empty p)) = λ c a. a
duplicate_local-right (AtStatement scope (Local p ty name e)) = wrong _ _ (culprit p name) (some-Decides (local_named scope name))
duplicate_local-right (AtStatement scope (Assign p t v)) = λ c a. a
duplicate_local-right (AtStatement scope (If p e s)) = λ c a. a
duplicate_local-right (AtStatement scope (IfElse p e s r)) = λ c a. a
duplicate_local-right (AtStatement scope (While p l e s)) = λ c a. a
duplicate_local-right (AtStatement scope (Do p l s e)) = λ c a. a
duplicate_local-right (AtStatement scope (Switch p e gs end)) = λ c a. a
duplicate_local-right (AtStatement scope (Break p l)) = λ c a. a
duplicate_local-right (AtStatement scope (Continue p l)) = λ c a. a
duplicate_local-right (AtStatement scope (Return p v)) = λ c a. a
duplicate_local-right (AtStatement scope (Print p e)) = λ c a. a
duplicate_local-right (AtStatement scope (Eval p e)) = λ c a. a
duplicate_local-right (AtParameter scope p) = wrong _ _ (culprit p.place p.name) (some-Decides (local_named scope p.name))
duplicate_local-right (AtEnd m) = λ c a. a

-- 12
abbrev type_by : ℕ → Name → ValueType
type_by zero n = NoValue
type_by (suc zero) n = IntType
type_by (suc (suc zero)) n = BooleanType
type_by (suc (suc (suc zero))) n = TextType
type_by (suc (suc (suc (suc zero)))) n = EnumType n
type_by (suc (suc (suc (suc (suc zero))))) n = ClassType n
type_by _ n = NullType

type_by-is : (t : ValueType) → type_by (tag t) (type_name t) ≡ t
type_by-is NoValue = refl
type_by-is IntType = refl
type_by-is BooleanType = refl
type_by-is TextType = refl
type_by-is (EnumType n) = refl
type_by-is (ClassType n) = refl
type_by-is NullType = refl

pub same_type-Decides : (s t : ValueType) → Decides (same_type s t) (s ≡ t)
same_type-Decides s t =
    decides_as (same_type s t) (Decides-and _ _ (Decides-eqb (tag s) (tag t)) (bytes_eq-Decides (type_name s) (type_name t)))
    (λ q. sym (type_by-is s) ∙ ap (λ n. type_by n (type_name s)) q.0 ∙ ap (type_by (tag t)) q.1 ∙ type_by-is t)
    (λ e. (ap tag e, ap type_name e))

class_by_tag : (t : ValueType) → tag t ≡ 5 → t ≡ ClassType (type_name t)
class_by_tag t e = sym (type_by-is t) ∙ ap (λ n. type_by n (type_name t)) e

null_by_tag : (t : ValueType) → tag t ≡ 6 → t ≡ NullType
null_by_tag t e = sym (type_by-is t) ∙ ap (λ n. type_by n (type_name t)) e

fits-cases : (taken given : ValueType) → Fits taken given → (taken ≡ given) ⊎ ((tag taken ≡ 5) × (tag given ≡ 6))
fits-cases taken given same = inl refl
fits-cases taken given null = inr (refl, refl)

pub fits-Decides : (taken given : ValueType) → Decides (fits taken given) (Fits taken given)
fits-Decides taken given =
    decides_as (fits taken given)
    (Decides-or _ _ (same_type-Decides taken given) (Decides-and _ _ (Decides-eqb (tag taken) 5) (Decides-eqb (tag given) 6)))
    (λ q. ⊎_elim (λ e. subst (λ g. Fits taken g) e same) (λ h. both h.0 h.1) q) (fits-cases taken given)
  where
    both : tag taken ≡ 5 → tag given ≡ 6 → Fits taken given
    both h k = subst (λ t. Fits t given) (sym (class_by_tag taken h)) (subst (λ g. Fits (ClassType (type_name taken)) g)
        (sym (null_by_tag given k)) null)

writable-Decides : (t : ValueType) → Decides (is_writable t) (IsWritable t)
writable-Decides NoValue = fails (λ x. x)
writable-Decides IntType = holds tt
writable-Decides BooleanType = holds tt
writable-Decides TextType = holds tt
writable-Decides (EnumType n) = fails (λ x. x)
writable-Decides (ClassType n) = fails (λ x. x)
writable-Decides NullType = fails (λ x. x)

enum-Decides : (t : ValueType) → Decides (tag t == 4) (IsEnum t)
enum-Decides NoValue = fails (λ x. x)
enum-Decides IntType = fails (λ x. x)
enum-Decides BooleanType = fails (λ x. x)
enum-Decides TextType = fails (λ x. x)
enum-Decides (EnumType n) = holds tt
enum-Decides (ClassType n) = fails (λ x. x)
enum-Decides NullType = fails (λ x. x)

class-Decides : (t : ValueType) → Decides (tag t == 5) (IsClass t)
class-Decides NoValue = fails (λ x. x)
class-Decides IntType = fails (λ x. x)
class-Decides BooleanType = fails (λ x. x)
class-Decides TextType = fails (λ x. x)
class-Decides (EnumType n) = fails (λ x. x)
class-Decides (ClassType n) = holds tt
class-Decides NullType = fails (λ x. x)

pub suits-Decides : (w : Wanted) (e : Expr) (t : ValueType) → Decides (suits w e t) (Suits w e t)
suits-Decides (Fitting taken) e t = fits-Decides taken t
suits-Decides Writable e t = writable-Decides t
suits-Decides AnyEnum e t = enum-Decides t
suits-Decides ClassVariable e t = Decides-and _ _ (class-Decides t) (λ h. h, λ h. h)
suits-Decides Nothing e t = fails (λ x. x)

some-suits : (w : Wanted) (e : Expr) (o : Option ValueType) →
    Decides (not (suits_some w e o)) ((type : ValueType) → o ≡ Some type → Suits w e type → ⊥)
some-suits w e None = holds (λ t h. let no : ⊥ = cc in absurd no)
some-suits w e (Some t) =
    decides_as (not (suits w e t)) (Decides-not _ (suits-Decides w e t)) (λ n s h q. n (subst (Suits w e) (sym (same_Some t s h)) q))
    (λ n q. n t refl q)

type_mismatch-right : (t : Taking) → Answers (TypeMismatch t) (type_mismatch t)
type_mismatch-right (Takes scope t) = wrong _ _ (culprit (place_of t.value) []) (some-suits t.wanted t.value (type_of scope t.value))
type_mismatch-right (Lacks p) = refl

-- 13
count_differs-right : (p : Place) (o : Option Signature) (args : Exprs) →
    Answers (λ c. (c ≡ culprit p []) × (s : Signature) × (o ≡ Some s) × (count_of args ≢ length s.params)) (count_differs p o args)
count_differs-right p None args = λ c a. none a.1 a.2
  where
    none : (s : Signature) → None ≡ Some s → ⊥
    none s e = cc
count_differs-right p (Some s) args =
    when_wrong _ (count_of args ≢ length s.params) (not (count_of args == length s.params)) (culprit p [])
    (Decides-not _ (Decides-eqb (count_of args) (length s.params)))
    (λ c a. (a.0, λ e. a.3 (e ∙ ap (λ z. length z.params) (same_Some s a.1 a.2)))) (λ n. (refl, s, refl, n))

arity-right : (s : Spot) → Answers (Arity s) (arity s)
arity-right (AtNode scope (Receiver p x)) = λ c a. a
arity-right (AtNode scope (Qualifier p x)) = λ c a. a
arity-right (AtNode scope (Value (Int p z))) = λ c a. a
arity-right (AtNode scope (Value (Truth p b))) = λ c a. a
arity-right (AtNode scope (Value (Text p t))) = λ c a. a
arity-right (AtNode scope (Value (Null p))) = λ c a. a
arity-right (AtNode scope (Value (This p))) = λ c a. a
arity-right (AtNode scope (Value (Variable p x))) = λ c a. a
arity-right (AtNode scope (Value (Member p e name))) = λ c a. a
arity-right (AtNode scope (Value (Neg p e))) = λ c a. a
arity-right (AtNode scope (Value (Not p e))) = λ c a. a
arity-right (AtNode scope (Value (Binary p o l r))) = λ c a. a
arity-right (AtNode scope (Value (Call p name args))) = count_differs-right p (called scope name) args
arity-right (AtNode scope (Value (MethodCall p e name args))) = count_differs-right p (called_on scope e (type_of scope e) name) args
arity-right (AtNode scope (Value (New p n))) = λ c a. a
arity-right (AtStatement scope s) = λ c a. a
arity-right (AtParameter scope p) = λ c a. a
arity-right (AtEnd m) = λ c a. a

-- 14
label_in : Target → Option Name
label_in (Loop label) = label
label_in targets.Switch = None

has_label-Decides : (name : Name) (t : Target) → Decides (has_label name t) (t ≡ Loop (Some name))
unfolding label_in
has_label-Decides name (Loop label) = decides_as (same_label label (Some name)) (same_label-Decides label (Some name)) (λ e. ap Loop e)
    (λ e. ap label_in e)
has_label-Decides name targets.Switch = fails (λ e. let no : ⊥ = cc in no)

labelled-Decides : (name : Name) (around : List Target) → Decides (list_any (has_label name) around) (Contains around (Loop (Some name)))
labelled-Decides name around = any_decides (has_label name) (Loop (Some name)) (has_label-Decides name) around

loops-Decides : (around : List Target) → Decides (list_any is_loop around) ((label : Option Name) × Contains around (Loop label))
loops-Decides [] = fails (λ q. nothing_in (Loop q.0) q.1)
loops-Decides (Loop label ∷ ts) = holds (label, in_first ts (Loop label))
loops-Decides (targets.Switch ∷ ts) =
    decides_as (list_any is_loop ts) (loops-Decides ts) (λ q. (q.0, in_later ts targets.Switch (Loop q.0) q.1))
    (λ q. (q.0, ⊎_elim (λ e. no q.0 e) (λ h. h) (in_cases ts targets.Switch (Loop q.0) q.1)))
  where
    no : (l : Option Name) → targets.Switch ≡ Loop l → Contains ts (Loop l)
    no l e = let x : ⊥ = cc in absurd x

break-Decides : (around : List Target) (label : Option Name) → Decides (can_break around label) (CanBreak around label)
break-Decides [] None = fails (λ n. n refl)
break-Decides (t ∷ ts) None = holds (λ e. let no : ⊥ = cc in no)
break-Decides [] (Some name) = labelled-Decides name []
break-Decides (t ∷ ts) (Some name) = labelled-Decides name (t ∷ ts)

continue-Decides : (around : List Target) (label : Option Name) → Decides (can_continue around label) (CanContinue around label)
continue-Decides around None = loops-Decides around
continue-Decides around (Some name) = labelled-Decides name around

constant-Decides : (o : Option Enum) (name : Name) → Decides (has_constant o name) (IsConstant o name)
constant-Decides None name = fails (λ x. x)
constant-Decides (Some e) name =
    any_decides (bytes_eq name) name (λ y. decides_as (bytes_eq name y) (bytes_eq-Decides name y) (λ e. sym e) (λ e. sym e)) e.constants

case_of : (program : Program) (o : Option ValueType) (name : Name) →
    Decides (is_case_of program o name) ((of : Name) × (o ≡ Some (EnumType of)) × IsConstant (enum_named program.files of) name)
case_of program None name = fails (λ q. let e : None ≡ Some (EnumType q.0) = q.1 in let no : ⊥ = cc in no)
case_of program (Some (EnumType of)) name =
    decides_as _ (constant-Decides (enum_named program.files of) name) (λ h. (of, refl, h))
    (λ q. subst (λ z. IsConstant (enum_named program.files z) name) (sym (ap type_name (same_Some (EnumType of) (EnumType q.0) q.1))) q.2)
case_of program (Some NoValue) name = fails (λ q. let e : NoValue ≡ EnumType q.0 = same_Some NoValue (EnumType q.0) q.1 in let no : ⊥ = cc
    in no)
case_of program (Some IntType) name = fails (λ q. let e : IntType ≡ EnumType q.0 = same_Some IntType (EnumType q.0) q.1 in let no : ⊥ = cc
    in no)
case_of program (Some BooleanType) name = fails (λ q. let e : BooleanType ≡ EnumType q.0 = same_Some BooleanType (EnumType q.0) q.1 in
    let no : ⊥ = cc in no)
case_of program (Some TextType) name = fails (λ q. let e : TextType ≡ EnumType q.0 = same_Some TextType (EnumType q.0) q.1 in
    let no : ⊥ = cc in no)
case_of program (Some (ClassType n)) name = fails (λ q. let e : ClassType n ≡ EnumType q.0 = same_Some (ClassType n) (EnumType q.0) q.1 in
    let no : ⊥ = cc in no)
case_of program (Some NullType) name = fails (λ q. let e : NullType ≡ EnumType q.0 = same_Some NullType (EnumType q.0) q.1 in
    let no : ⊥ = cc in no)

earlier-Decides : (earlier : List (Option Name)) (l : Option Name) → Decides (list_any (same_label l) earlier) (Contains earlier l)
earlier-Decides earlier l = any_decides (same_label l) l (λ y. decides_as _ (same_label-Decides l y) (λ e. sym e) (λ e. sym e)) earlier

bad_label-right : (l : Labelled) → Answers (BadLabel l) (bad_label l)
bad_label-right (BreakAt scope p label) = wrong_unless _ _ (culprit p (label_name label)) (break-Decides scope.around label)
bad_label-right (ContinueAt scope p label) = wrong_unless _ _ (culprit p (label_name label)) (continue-Decides scope.around label)
bad_label-right (LoopAt scope p None) = λ c a. a
bad_label-right (LoopAt scope p (Some label)) = wrong _ _ (culprit p label) (labelled-Decides label scope.around)
bad_label-right (CaseAt scope p e (earlier, None)) = wrong _ _ (culprit p []) (earlier-Decides earlier None)
bad_label-right (CaseAt scope p e (earlier, Some name)) =
    wrong _ _ (culprit p name) (Decides-or _ _ (earlier-Decides earlier (Some name))
    (Decides-not _ (case_of scope.program (type_of scope e) name)))

-- 15
void-Decides : (t : TypeName) → Decides (is_void t) (t ≡ written.Void)
void-Decides written.Void = holds refl
void-Decides written.Int = fails (λ e. let no : ⊥ = cc in no)
void-Decides written.Boolean = fails (λ e. let no : ⊥ = cc in no)
void-Decides written.Text = fails (λ e. let no : ⊥ = cc in no)
void-Decides (written.Named n) = fails (λ e. let no : ⊥ = cc in no)

missing_return-right : (s : Spot) → Answers (MissingReturn s) (missing_return s)
missing_return-right (AtNode scope n) = λ c a. a
missing_return-right (AtStatement scope s) = λ c a. a
missing_return-right (AtParameter scope p) = λ c a. a
missing_return-right (AtEnd m) =
    when_wrong (MissingReturn (AtEnd m)) _ _ (culprit m.end []) (Decides-and _ _ (Decides-not _ (void-Decides m.result))
    (leaves_all-Decides m.body Through))
    (λ c a. (a.0, (a.1, a.2))) (λ q. (refl, q.0, q.1))

-- 16
own-Decides : (o : Option Method) → Decides (elim o [ None ↦ false | Some m ↦ not m.is_static ])
    ((m : Method) × (o ≡ Some m) × (m.is_static ≡ false))
own-Decides None = fails (λ q. let e : None ≡ Some q.0 = q.1 in let no : ⊥ = cc in no)
own-Decides (Some m) = decides_as _ (static-Decides m.is_static) (λ e. (m, refl, e)) (λ q. ap (λ z. z.is_static) (same_Some m q.0 q.1) ∙
    q.2)
  where
    static-Decides : (b : Bool) → Decides (not b) (b ≡ false)
    static-Decides true = fails true≢false
    static-Decides false = holds refl

not-Decides : (b : Bool) → Decides (not b) (b ≡ false)
not-Decides true = fails true≢false
not-Decides false = holds refl

protocol-Decides : (scope : Scope) (name : Name) → Decides (is_protocol scope name) (IsProtocol scope name)
protocol-Decides scope name = Decides-and _ _ (own-Decides (method_named scope.class name)) (λ e. e, λ e. e)

helper-Decides : (scope : Scope) (name : Name) → Decides (is_helper scope name) (IsHelper scope name)
helper-Decides scope name = Decides-and _ _ (own-Decides (method_named scope.class name))
    (not-Decides (is_of_protocol scope.program scope.class name))

self_call-right : (s : Spot) → Answers (SelfCall s) (self_call s)
self_call-right (AtNode scope (Receiver p x)) = λ c a. a
self_call-right (AtNode scope (Qualifier p x)) = λ c a. a
self_call-right (AtNode scope (Value (Int p z))) = λ c a. a
self_call-right (AtNode scope (Value (Truth p b))) = λ c a. a
self_call-right (AtNode scope (Value (Text p t))) = λ c a. a
self_call-right (AtNode scope (Value (Null p))) = λ c a. a
self_call-right (AtNode scope (Value (This p))) = λ c a. a
self_call-right (AtNode scope (Value (Variable p x))) = λ c a. a
self_call-right (AtNode scope (Value (Member p e name))) = λ c a. a
self_call-right (AtNode scope (Value (Neg p e))) = λ c a. a
self_call-right (AtNode scope (Value (Not p e))) = λ c a. a
self_call-right (AtNode scope (Value (Binary p o l r))) = λ c a. a
self_call-right (AtNode scope (Value (Call p name args))) = wrong _ _ (culprit p name) (protocol-Decides scope name)
self_call-right (AtNode scope (Value (MethodCall p (This q) name args))) = wrong _ _ (culprit p name) (protocol-Decides scope name)
self_call-right (AtNode scope (Value (MethodCall p (Int q z) name args))) = λ c a. a
self_call-right (AtNode scope (Value (MethodCall p (Truth q b) name args))) = λ c a. a
self_call-right (AtNode scope (Value (MethodCall p (Text q t) name args))) = λ c a. a
self_call-right (AtNode scope (Value (MethodCall p (Null q) name args))) = λ c a. a
self_call-right (AtNode scope (Value (MethodCall p (Variable q x) name args))) = λ c a. a
self_call-right (AtNode scope (Value (MethodCall p (Member q r n) name args))) = λ c a. a
self_call-right (AtNode scope (Value (MethodCall p (Neg q r) name args))) = λ c a. a
self_call-right (AtNode scope (Value (MethodCall p (Not q r) name args))) = λ c a. a
self_call-right (AtNode scope (Value (MethodCall p (Binary q o l r) name args))) = λ c a. a
self_call-right (AtNode scope (Value (MethodCall p (Call q n as') name args))) = λ c a. a
self_call-right (AtNode scope (Value (MethodCall p (MethodCall q r n as') name args))) = λ c a. a
self_call-right (AtNode scope (Value (MethodCall p (New q n) name args))) = λ c a. a
self_call-right (AtNode scope (Value (New p n))) = λ c a. a
self_call-right (AtStatement scope s) = λ c a. a
self_call-right (AtParameter scope p) = λ c a. a
self_call-right (AtEnd m) = λ c a. a

-- 17
this_as_value-right : (s : Spot) → Answers (ThisAsValue s) (this_as_value s)
this_as_value-right (AtNode scope (Receiver p x)) = λ c a. a
this_as_value-right (AtNode scope (Qualifier p x)) = λ c a. a
this_as_value-right (AtNode scope (Value (Int p z))) = λ c a. a
this_as_value-right (AtNode scope (Value (Truth p b))) = λ c a. a
this_as_value-right (AtNode scope (Value (Text p t))) = λ c a. a
this_as_value-right (AtNode scope (Value (Null p))) = λ c a. a
this_as_value-right (AtNode scope (Value (This p))) = refl
this_as_value-right (AtNode scope (Value (Variable p x))) = λ c a. a
this_as_value-right (AtNode scope (Value (Member p e name))) = λ c a. a
this_as_value-right (AtNode scope (Value (Neg p e))) = λ c a. a
this_as_value-right (AtNode scope (Value (Not p e))) = λ c a. a
this_as_value-right (AtNode scope (Value (Binary p o l r))) = λ c a. a
this_as_value-right (AtNode scope (Value (Call p name args))) = λ c a. a
this_as_value-right (AtNode scope (Value (MethodCall p e name args))) = λ c a. a
this_as_value-right (AtNode scope (Value (New p n))) = λ c a. a
this_as_value-right (AtStatement scope s) = λ c a. a
this_as_value-right (AtParameter scope p) = λ c a. a
this_as_value-right (AtEnd m) = λ c a. a

-- 18
mutual
  pub calls_helper-Decides : (scope : Scope) (e : Expr) → Decides (calls_helper scope e) (CallsHelper scope e)
  calls_helper-Decides scope (Int p z) = fails (λ x. x)
  calls_helper-Decides scope (Truth p b) = fails (λ x. x)
  calls_helper-Decides scope (Text p t) = fails (λ x. x)
  calls_helper-Decides scope (Null p) = fails (λ x. x)
  calls_helper-Decides scope (This p) = fails (λ x. x)
  calls_helper-Decides scope (Variable p x) = fails (λ x. x)
  calls_helper-Decides scope (New p n) = fails (λ x. x)
  calls_helper-Decides scope (Member p e name) = calls_helper-Decides scope e
  calls_helper-Decides scope (Neg p e) = calls_helper-Decides scope e
  calls_helper-Decides scope (Not p e) = calls_helper-Decides scope e
  calls_helper-Decides scope (Binary p o l r) = Decides-or _ _ (calls_helper-Decides scope l) (calls_helper-Decides scope r)
  calls_helper-Decides scope (Call p name args) = Decides-or _ _ (helper-Decides scope name) (calls_helper_in-Decides scope args)
  calls_helper-Decides scope (MethodCall p (This q) name args) = Decides-or _ _ (helper-Decides scope name)
      (calls_helper_in-Decides scope args)
  calls_helper-Decides scope (MethodCall p (Int q z) name args) = Decides-or _ _ (calls_helper-Decides scope (Int q z))
      (calls_helper_in-Decides scope args)
  calls_helper-Decides scope (MethodCall p (Truth q b) name args) = Decides-or _ _ (calls_helper-Decides scope (Truth q b))
      (calls_helper_in-Decides scope args)
  calls_helper-Decides scope (MethodCall p (Text q t) name args) = Decides-or _ _ (calls_helper-Decides scope (Text q t))
      (calls_helper_in-Decides scope args)
  calls_helper-Decides scope (MethodCall p (Null q) name args) = Decides-or _ _ (calls_helper-Decides scope (Null q))
      (calls_helper_in-Decides scope args)
  calls_helper-Decides scope (MethodCall p (Variable q x) name args) = Decides-or _ _ (calls_helper-Decides scope (Variable q x))
      (calls_helper_in-Decides scope args)
  calls_helper-Decides scope (MethodCall p (Member q r n) name args) = Decides-or _ _ (calls_helper-Decides scope (Member q r n))
      (calls_helper_in-Decides scope args)
  calls_helper-Decides scope (MethodCall p (Neg q r) name args) = Decides-or _ _ (calls_helper-Decides scope (Neg q r))
      (calls_helper_in-Decides scope args)
  calls_helper-Decides scope (MethodCall p (Not q r) name args) = Decides-or _ _ (calls_helper-Decides scope (Not q r))
      (calls_helper_in-Decides scope args)
  calls_helper-Decides scope (MethodCall p (Binary q o l r) name args) = Decides-or _ _ (calls_helper-Decides scope (Binary q o l r))
      (calls_helper_in-Decides scope args)
  calls_helper-Decides scope (MethodCall p (Call q n as') name args) = Decides-or _ _ (calls_helper-Decides scope (Call q n as'))
      (calls_helper_in-Decides scope args)
  calls_helper-Decides scope (MethodCall p (MethodCall q r n as') name args) =
      Decides-or _ _ (calls_helper-Decides scope (MethodCall q r n as')) (calls_helper_in-Decides scope args)
  calls_helper-Decides scope (MethodCall p (New q n) name args) = Decides-or _ _ (calls_helper-Decides scope (New q n))
      (calls_helper_in-Decides scope args)

  pub calls_helper_in-Decides : (scope : Scope) (args : Exprs) → Decides (calls_helper_in scope args) (CallsHelperIn scope args)
  calls_helper_in-Decides scope NoExpr = fails (λ x. x)
  calls_helper_in-Decides scope (Argument e more) = Decides-or _ _ (calls_helper-Decides scope e) (calls_helper_in-Decides scope more)

moves-right : (p : Place) (o : Option Field) (b : Bool) (P : Type 0) → Decides b P →
    Answers (λ c. (f : Field) × (o ≡ Some f) × (c ≡ culprit p f.name) × P) (elim o [ None ↦ None | Some f ↦ when b (culprit p f.name) ])
moves-right p None b P d = λ c a. none a.0 a.1
  where
    none : (f : Field) → None ≡ Some f → ⊥
    none f e = cc
moves-right p (Some f) b P d =
    when_wrong _ P b (culprit p f.name) d (λ c a. (a.2 ∙ sym (ap (λ z. culprit p z.name) (same_Some f a.0 a.1)), a.3))
    (λ q. (f, refl, refl, q))

args_may_move-right : (s : Spot) → Answers (ArgsMayMove s) (args_may_move s)
args_may_move-right (AtNode scope (Receiver p x)) = λ c a. a
args_may_move-right (AtNode scope (Qualifier p x)) = λ c a. a
args_may_move-right (AtNode scope (Value (Int p z))) = λ c a. a
args_may_move-right (AtNode scope (Value (Truth p b))) = λ c a. a
args_may_move-right (AtNode scope (Value (Text p t))) = λ c a. a
args_may_move-right (AtNode scope (Value (Null p))) = λ c a. a
args_may_move-right (AtNode scope (Value (This p))) = λ c a. a
args_may_move-right (AtNode scope (Value (Variable p x))) = λ c a. a
args_may_move-right (AtNode scope (Value (Member p e name))) = λ c a. a
args_may_move-right (AtNode scope (Value (Neg p e))) = λ c a. a
args_may_move-right (AtNode scope (Value (Not p e))) = λ c a. a
args_may_move-right (AtNode scope (Value (Binary p o l r))) = λ c a. a
args_may_move-right (AtNode scope (Value (Call p name args))) = λ c a. a
args_may_move-right (AtNode scope (Value (MethodCall p e name args))) = moves-right p (field_of scope e) _ _
    (calls_helper_in-Decides scope args)
args_may_move-right (AtNode scope (Value (New p n))) = λ c a. a
args_may_move-right (AtStatement scope s) = λ c a. a
args_may_move-right (AtParameter scope p) = λ c a. a
args_may_move-right (AtEnd m) = λ c a. a

-- what a condition answers at a spot is right
pub answer-right : (s : Spot) (k : Condition) → AtSpot s k (answer s k)
answer-right s conditions.DuplicateName = refl
answer-right s conditions.DuplicateMember = refl
answer-right s conditions.UnknownClass = refl
answer-right s conditions.UnknownTypestate = refl
answer-right s conditions.MissingMethod = refl
answer-right s conditions.SignatureDiffers = refl
answer-right s conditions.LabelsDiffer = refl
answer-right s conditions.FieldNeedsValue = refl
answer-right s conditions.InstanceInPlain = refl
answer-right s conditions.UnknownName = judged_one s (unknown_name s) (unknown_name-right s)
answer-right s conditions.DuplicateLocal = judged_one s (duplicate_local s) (duplicate_local-right s)
answer-right s conditions.TypeMismatch = judged_by type_mismatch type_mismatch-right (taken_at s)
answer-right s conditions.Arity = judged_one s (arity s) (arity-right s)
answer-right s conditions.BadLabel = judged_by bad_label bad_label-right (labelled_at s)
answer-right s conditions.MissingReturn = judged_one s (missing_return s) (missing_return-right s)
answer-right s conditions.SelfCall = judged_one s (self_call s) (self_call-right s)
answer-right s conditions.ThisAsValue = judged_one s (this_as_value s) (this_as_value-right s)
answer-right s conditions.ArgsMayMove = judged_one s (args_may_move s) (args_may_move-right s)

-- no condition answers twice
never : (s : Spot) (k : Condition) (c : Culprit) → AtSpot s k None → AtSpot s k (Some c) → ⊥
never s conditions.DuplicateName c n e = let no : ⊥ = cc in no
never s conditions.DuplicateMember c n e = let no : ⊥ = cc in no
never s conditions.UnknownClass c n e = let no : ⊥ = cc in no
never s conditions.UnknownTypestate c n e = let no : ⊥ = cc in no
never s conditions.MissingMethod c n e = let no : ⊥ = cc in no
never s conditions.SignatureDiffers c n e = let no : ⊥ = cc in no
never s conditions.LabelsDiffer c n e = let no : ⊥ = cc in no
never s conditions.FieldNeedsValue c n e = let no : ⊥ = cc in no
never s conditions.InstanceInPlain c n e = let no : ⊥ = cc in no
never s conditions.UnknownName c n e = no_both n e
never s conditions.DuplicateLocal c n e = no_both n e
never s conditions.TypeMismatch c n e = no_both n e
never s conditions.Arity c n e = no_both n e
never s conditions.BadLabel c n e = no_both n e
never s conditions.MissingReturn c n e = no_both n e
never s conditions.SelfCall c n e = no_both n e
never s conditions.ThisAsValue c n e = no_both n e
never s conditions.ArgsMayMove c n e = no_both n e

pub fault_at-right : (s : Spot) → Answers (IsAtFault s) (fault_at s)
fault_at-right s = go (fault_at s) (first_kind-FirstOf (answer s) (answer-right s) on_methods)
  where
    go : (r : Option (Condition × Culprit)) → FirstOf (AtSpot s) on_methods r → Answers (IsAtFault s) r
    go None p = λ f q. no_both_first (never s) p q
    go (Some f) p = p

-- the fault of a program's methods
pub method_fault-right : (program : Program) → IsFault program (method_fault program)
method_fault-right program = judged_by fault_at fault_at-right (spots program)

pub ruleset judging = (method_fault-right)

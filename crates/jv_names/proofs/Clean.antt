-- What it says that nothing is at fault in a program: at each spot of each method each condition is clean.
use Rattle.std.proofs.Common.{◌≡◌, ℕ, zero, suc, List, [], ◌∷◌, ◌++◌, Option, Some, None, refl, subst}
use Rattle.std.specs.Prelude.{slice_get}
use Rattle.std.specs.List.{AllByRecursion}
use Rattle.mg_read.specs.Culprit.{Culprit}
use Rattle.mg_read.specs.First.{Judged, clean, here, later, FirstOf, none, this, next, Clean}
use Rattle.mg_text.specs.declared.place.Place.{Place}
use Rattle.jv_tree.specs.declared.tree.Op.{Op}
use Rattle.jv_tree.specs.Source.{Class, Method, Expr, Binary, Exprs, Argument}
use Rattle.jv_meaning.specs.Program.{classes_of}
use Rattle.jv_rules.specs.declared.condition.Condition.{Condition}
use Rattle.jv_rules.specs.declared.condition.Condition.TheVariants as conditions
use Rattle.jv_rules.specs.Program.{Program}
use Rattle.jv_rules.specs.Scope.{Scope}
use Rattle.jv_rules.specs.Spots.{Node, Value, nodes, nodes_in, Spot, AtNode, at_nodes, spots, method_spots, methods_spots, classes_spots}
use Rattle.jv_rules.specs.Taking.{taken_at}
use Rattle.jv_rules.specs.Conditions as says
use Rattle.jv_rules.specs.Conditions.{labelled_at}
use Rattle.jv_rules.specs.Faults.{AtSpot, on_methods, IsAtFault, IsWellTyped}

some_is : {A : Type 0} {a b : A} → Some a ≡ Some b → a ≡ b
some_is e = cc

-- none of these has a culprit
pub not_judged : {X C : Type 0} (At : X → C → Type 0) (xs : List X) → ((c : C) → Judged At xs (Some c) → ⊥) → Judged At xs None
not_judged At [] n = clean
not_judged {C = C} At (x ∷ xs) n =
    let head : (c : C) → At x c → ⊥ = λ c h. n c (here h) in
    later head (not_judged At xs (λ c h. n c (later head h)))

pub judged_clean : {X C : Type 0} (At : X → C → Type 0) (xs : List X) → Judged At xs None → Clean At xs
judged_clean At _ clean = tt
judged_clean At _ (later {xs = xs} n h) = (n, judged_clean At xs h)

no_first : {K C : Type 0} (Of : K → Option C → Type 0) (ks : List K) → ((k : K) → ((c : C) → Of k (Some c) → ⊥) → Of k None) →
    ((f : K × C) → FirstOf Of ks (Some f) → ⊥) → FirstOf Of ks None
no_first Of [] settle n = none
no_first Of (k ∷ ks) settle n =
    let head = settle k (λ c h. n (k, c) (this h)) in
    next head (no_first Of ks settle (λ f h. n f (next head h)))

settled : (spot : Spot) (k : Condition) → ((c : Culprit) → AtSpot spot k (Some c) → ⊥) → AtSpot spot k None
settled spot conditions.UnknownName n = not_judged says.UnknownName (spot ∷ []) n
settled spot conditions.DuplicateLocal n = not_judged says.DuplicateLocal (spot ∷ []) n
settled spot conditions.TypeMismatch n = not_judged says.TypeMismatch (taken_at spot) n
settled spot conditions.Arity n = not_judged says.Arity (spot ∷ []) n
settled spot conditions.BadLabel n = not_judged says.BadLabel (labelled_at spot) n
settled spot conditions.MissingReturn n = not_judged says.MissingReturn (spot ∷ []) n
settled spot conditions.SelfCall n = not_judged says.SelfCall (spot ∷ []) n
settled spot conditions.ThisAsValue n = not_judged says.ThisAsValue (spot ∷ []) n
settled spot conditions.ArgsMayMove n = not_judged says.ArgsMayMove (spot ∷ []) n
settled spot conditions.DuplicateName n = refl
settled spot conditions.DuplicateMember n = refl
settled spot conditions.UnknownClass n = refl
settled spot conditions.UnknownTypestate n = refl
settled spot conditions.MissingMethod n = refl
settled spot conditions.SignatureDiffers n = refl
settled spot conditions.LabelsDiffer n = refl
settled spot conditions.FieldNeedsValue n = refl
settled spot conditions.InstanceInPlain n = refl

-- no condition on methods is at fault at a spot
pub record NoFaultAt (spot : Spot) : Type 0 where
  pub known_name : (c : Culprit) → says.UnknownName spot c → ⊥
  pub new_local : (c : Culprit) → says.DuplicateLocal spot c → ⊥
  pub types : Clean says.TypeMismatch (taken_at spot)
  pub arity : (c : Culprit) → says.Arity spot c → ⊥
  pub labels : Clean says.BadLabel (labelled_at spot)
  pub returns : (c : Culprit) → says.MissingReturn spot c → ⊥
  pub no_self_call : (c : Culprit) → says.SelfCall spot c → ⊥
  pub no_this : (c : Culprit) → says.ThisAsValue spot c → ⊥
  pub no_move : (c : Culprit) → says.ArgsMayMove spot c → ⊥

one : {X C : Type 0} (At : X → C → Type 0) (x : X) → Judged At (x ∷ []) None → (c : C) → At x c → ⊥
one At x h = (judged_clean At (x ∷ []) h).0

no_fault : (spot : Spot) → FirstOf (AtSpot spot) on_methods None → NoFaultAt spot
no_fault spot (next a (next b (next c (next d (next e (next f (next g (next h (next i none))))))))) = record {
  known_name = one says.UnknownName spot a;
  new_local = one says.DuplicateLocal spot b;
  types = judged_clean says.TypeMismatch (taken_at spot) c;
  arity = one says.Arity spot d;
  labels = judged_clean says.BadLabel (labelled_at spot) e;
  returns = one says.MissingReturn spot f;
  no_self_call = one says.SelfCall spot g;
  no_this = one says.ThisAsValue spot h;
  no_move = one says.ArgsMayMove spot i;
}

pub all_clean : (xs : List Spot) → Judged IsAtFault xs None → AllByRecursion NoFaultAt xs
all_clean _ clean = tt
all_clean _ (later {x = x} {xs = xs} n h) = (no_fault x (no_first (AtSpot x) on_methods (settled x) n), all_clean xs h)

-- Of lists one behind another, each.

pub all_left : {X : Type 0} (P : X → Type 0) (xs ys : List X) → AllByRecursion P (xs ++ ys) → AllByRecursion P xs
all_left P [] ys h = tt
all_left P (x ∷ xs) ys h = (h.0, all_left P xs ys h.1)

pub all_right : {X : Type 0} (P : X → Type 0) (xs ys : List X) → AllByRecursion P (xs ++ ys) → AllByRecursion P ys
all_right P [] ys h = h
all_right P (x ∷ xs) ys h = all_right P xs ys h.1

in_methods : (program : Program) (class : Class) (ms : List Method) → AllByRecursion NoFaultAt (methods_spots program class ms) →
    (i : ℕ) (m : Method) → slice_get ms i ≡ Some m →
    AllByRecursion NoFaultAt (method_spots program class m)
in_methods program class [] h i m e = absurd (cc)
in_methods program class (k ∷ ms) h zero m e = first
    (all_left NoFaultAt (method_spots program class k) (methods_spots program class ms) h) e
  where
    first : AllByRecursion NoFaultAt (method_spots program class k) → Some k ≡ Some m →
        AllByRecursion NoFaultAt (method_spots program class m)
    first h e = subst (λ m. AllByRecursion NoFaultAt (method_spots program class m)) (some_is e) h
in_methods program class (k ∷ ms) h (suc i) m e = in_methods program class ms
    (all_right NoFaultAt (method_spots program class k) (methods_spots program class ms) h) i m e

in_classes : (program : Program) (cs : List Class) → AllByRecursion NoFaultAt (classes_spots program cs) → (i : ℕ) (c : Class) →
    slice_get cs i ≡ Some c →
    AllByRecursion NoFaultAt (methods_spots program c c.methods)
in_classes program [] h i c e = absurd (cc)
in_classes program (k ∷ cs) h zero c e = subst (λ c. AllByRecursion NoFaultAt (methods_spots program c c.methods)) (some_is e)
    (all_left NoFaultAt (methods_spots program k k.methods) (classes_spots program cs) h)
in_classes program (k ∷ cs) h (suc i) c e = in_classes program cs
    (all_right NoFaultAt (methods_spots program k k.methods) (classes_spots program cs) h) i c e

-- In a well typed program nothing is at fault at the spots of each method.
pub method_clean : (program : Program) → IsWellTyped program → (i j : ℕ) (class : Class) (m : Method) →
    slice_get (classes_of program.files) i ≡ Some class → slice_get class.methods j ≡ Some m →
    AllByRecursion NoFaultAt (method_spots program class m)
method_clean program well i j class m e f =
    in_methods program class class.methods (in_classes program (classes_of program.files)
    (all_clean (spots program) well.methods) i class e) j m f

-- Nothing is at fault in an expression, where nothing is at fault at its nodes.
abbrev pub CleanNodes : Scope → List Node → Type 0
CleanNodes scope ns = AllByRecursion NoFaultAt (at_nodes scope ns)

pub nodes_left : (scope : Scope) (xs ys : List Node) → CleanNodes scope (xs ++ ys) → CleanNodes scope xs
nodes_left scope [] ys h = tt
nodes_left scope (x ∷ xs) ys h = (h.0, nodes_left scope xs ys h.1)

pub nodes_right : (scope : Scope) (xs ys : List Node) → CleanNodes scope (xs ++ ys) → CleanNodes scope ys
nodes_right scope [] ys h = h
nodes_right scope (x ∷ xs) ys h = nodes_right scope xs ys h.1

abbrev pub CleanExpr : Scope → Expr → Type 0
CleanExpr scope e = CleanNodes scope (nodes e)

abbrev pub CleanArgs : Scope → Exprs → Type 0
CleanArgs scope es = CleanNodes scope (nodes_in es)

pub first_arg : (scope : Scope) (e : Expr) (more : Exprs) → CleanArgs scope (Argument e more) → CleanExpr scope e
first_arg scope e more h = nodes_left scope (nodes e) (nodes_in more) h

pub other_args : (scope : Scope) (e : Expr) (more : Exprs) → CleanArgs scope (Argument e more) → CleanArgs scope more
other_args scope e more h = nodes_right scope (nodes e) (nodes_in more) h

-- the operands of a binary operator, and the operator itself
pub left_operand : (scope : Scope) (p : Place) (o : Op) (l r : Expr) → CleanExpr scope (Binary p o l r) → CleanExpr scope l
left_operand scope p o l r h = nodes_left scope (nodes l) (nodes r ++ Value (Binary p o l r) ∷ []) h

pub right_operand : (scope : Scope) (p : Place) (o : Op) (l r : Expr) → CleanExpr scope (Binary p o l r) → CleanExpr scope r
right_operand scope p o l r h = nodes_left scope (nodes r) (Value (Binary p o l r) ∷ [])
    (nodes_right scope (nodes l) (nodes r ++ Value (Binary p o l r) ∷ []) h)

pub operator : (scope : Scope) (p : Place) (o : Op) (l r : Expr) → CleanExpr scope (Binary p o l r) →
    NoFaultAt (AtNode scope (Value (Binary p o l r)))
operator scope p o l r h = (nodes_right scope (nodes r) (Value (Binary p o l r) ∷ [])
    (nodes_right scope (nodes l) (nodes r ++ Value (Binary p o l r) ∷ []) h)).0

-- What is spelled is shaped, production by production.
use Rattle.std.proofs.Common.{◌≡◌, inl, inr, ⊎_elim, true, true≢false, List, [], ◌∷◌, ◌++◌, refl, sym, ◌∙◌, subst, flat_map}
use Rattle.std.specs.List.{AllByRecursion}
use Rattle.mg_text.specs.declared.place.Place.{Place}
use Rattle.ts_tree.specs.declared.parts.TypeName.{TypeName}
use Rattle.ts_tree.specs.declared.parts.TypeName.TheVariants as written
use Rattle.jv_tree.specs.declared.tree.Param.{Param}
use Rattle.jv_tree.specs.declared.token.Token.{Token}
use Rattle.jv_tree.specs.Source
use Rattle.jv_tree.specs.Source.{ClassDecl, EnumDecl, Decl, File}
use Rattle.jv_tree.specs.Statements.{IsType, IsTarget, IsAssign, IsLocal, IsStmt, AreItems, AreGroups}
use Rattle.jv_tree.specs.Files.{Member, FieldMember, MethodMember, fields_among, methods_among, AreParams, AreMoreParams, IsMethod}
use Rattle.jv_tree.specs.Files.{AreMembers, IsClass, AreDecls}
use Rattle.jv_meaning.specs.Program.{Sources, class_in, classes_of}
use Rattle.jv_rules.specs.Scope.{is_variable}
use Rattle.jv_rules.specs.Shape.{IsOfValues, DeclaresValues, AllDeclareValues, GroupsDeclareValues, IsShapedMethod, IsShapedClass}
use Rattle.jv_resolve_law.specs.Targets.{AssignsVariables, AllAssignVariables, GroupsAssignVariables, ClassAssignsVariables}
use Rattle.jv_resolve_law.specs.ShapedLaws.{IsSpelled, SpelledIsShaped}

of_values : (ty : TypeName) → IsType ty → IsOfValues ty
of_values written.Void h e = h
of_values written.Int h e = cc
of_values written.Boolean h e = cc
of_values written.Text h e = cc
of_values (written.Named n) h e = cc

target : (e : Source.Expr) (ts : List Token) → IsTarget e ts → is_variable e ≡ true
target (Source.Variable p n) ts h = refl
target (Source.Member p (Source.This q) n) ts h = refl
target e ts h = absurd h

assigned : (p : Place) (e v : Source.Expr) (ts : List Token) → IsAssign p e v ts → is_variable e ≡ true
assigned p e v ts (inl h) = target e h.3 h.6
assigned p e v ts (inr (inl h)) = target e h.6 h.11
assigned p e v ts (inr (inr (inl h))) = target e h.5 h.9
assigned p e v ts (inr (inr (inr h))) = target e h.3 h.7

-- a statement declares values and assigns to variables
record Fine (s : Source.Stmt) : Type 0 where
  values : DeclaresValues s
  assigns : AssignsVariables s

record AllFine (ss : Source.Stmts) : Type 0 where
  values : AllDeclareValues ss
  assigns : AllAssignVariables ss

record GroupsFine (gs : Source.Groups) : Type 0 where
  values : GroupsDeclareValues gs
  assigns : GroupsAssignVariables gs

declared : (s : Source.Stmt) (ts : List Token) → IsLocal s ts → Fine s
declared (Source.Local p ty n e) ts h = record { values = of_values ty h.0; assigns = tt }
declared s ts h = absurd h

mutual
  stmt : (s : Source.Stmt) (ts : List Token) → IsStmt s ts → Fine s
  stmt (Source.Block p body end) ts h = let w = items body h.0 h.2 in record { values = w.values; assigns = w.assigns }
  stmt (Source.Empty p) ts h = record { values = tt; assigns = tt }
  stmt (Source.Local p ty n e) ts h = absurd h
  stmt (Source.Assign p e v) ts h = record { values = tt; assigns = assigned p e v ts h }
  stmt (Source.If p c s) ts h = let w = stmt s h.1 h.4 in record { values = w.values; assigns = w.assigns }
  stmt (Source.IfElse p c s r) ts h =
      let w = stmt s h.2 h.6 in
      let v = stmt r h.3 h.8 in
      record { values = (w.values, v.values); assigns = (w.assigns, v.assigns) }
  stmt (Source.While p l c s) ts h = let w = stmt s h.3 h.7 in record { values = w.values; assigns = w.assigns }
  stmt (Source.Do p l s c) ts h = let w = stmt s h.4 h.8 in record { values = w.values; assigns = w.assigns }
  stmt (Source.Switch p e gs end) ts h = let w = groups end gs h.2 h.5 in record { values = w.values; assigns = w.assigns }
  stmt (Source.Break p l) ts h = record { values = tt; assigns = tt }
  stmt (Source.Continue p l) ts h = record { values = tt; assigns = tt }
  stmt (Source.Return p e) ts h = record { values = tt; assigns = tt }
  stmt (Source.Print p e) ts h = record { values = tt; assigns = tt }
  stmt (Source.Eval p e) ts h = record { values = tt; assigns = tt }

  items : (ss : Source.Stmts) (ts : List Token) → AreItems ss ts → AllFine ss
  items Source.NoStmt ts h = record { values = tt; assigns = tt }
  items (Source.Then s more) ts h =
      let w : Fine s = ⊎_elim (λ l. declared s h.0 l) (λ q. stmt s h.0 q) h.3 in
      let v = items more h.1 h.4 in
      record { values = (w.values, v.values); assigns = (w.assigns, v.assigns) }

  groups : (close : Place) (gs : Source.Groups) (ts : List Token) → AreGroups close gs ts → GroupsFine gs
  groups close Source.NoGroup ts h = record { values = tt; assigns = tt }
  groups close (Source.Group labels body end more) ts h =
      let w = items body h.1 h.5 in
      let v = groups close more h.2 h.6 in
      record { values = (w.values, v.values); assigns = (w.assigns, v.assigns) }

-- Members.

more_params : (ps : List Param) (ts : List Token) → AreMoreParams ps ts → AllByRecursion (λ p. IsOfValues p.ty) ps
more_params [] ts h = tt
more_params (p ∷ ps) ts h = (of_values p.ty h.4.0, more_params ps h.2 h.5)

params : (ps : List Param) (ts : List Token) → AreParams ps ts → AllByRecursion (λ p. IsOfValues p.ty) ps
params [] ts h = tt
params (p ∷ ps) ts h = (of_values p.ty h.3.0, more_params ps h.1 h.4)

method : (m : Source.Method) (ts : List Token) → IsMethod m ts → IsShapedMethod m
method m ts h = ⊎_elim
    (λ q. record {
      main = λ t. absurd (true≢false (sym t ∙ q.0));
      params = params m.params h.7 q.1;
      body =
          (items m.body h.8 h.13).values;
    })
    (λ q. record {
      main = λ t. record { is_static = q.2.0; result = q.2.1; name = q.2.2; params = q.1 };
      params = subst (AllByRecursion (λ p. IsOfValues p.ty)) (sym q.1) tt;
      body = (items m.body h.8 h.13).values;
    }) h.12

fields_shaped : (ms : List Member) (ts : List Token) → AreMembers ms ts → AllByRecursion (λ f. IsOfValues f.ty) (fields_among ms)
fields_shaped [] ts h = tt
fields_shaped (FieldMember f ∷ ms) ts h = (of_values f.ty h.3.0, fields_shaped ms h.1 h.4)
fields_shaped (MethodMember m ∷ ms) ts h = fields_shaped ms h.1 h.4

methods_shaped : (ms : List Member) (ts : List Token) → AreMembers ms ts → AllByRecursion IsShapedMethod (methods_among ms)
methods_shaped [] ts h = tt
methods_shaped (FieldMember f ∷ ms) ts h = methods_shaped ms h.1 h.4
methods_shaped (MethodMember m ∷ ms) ts h = (method m h.0 h.3, methods_shaped ms h.1 h.4)

methods_assign : (ms : List Member) (ts : List Token) → AreMembers ms ts →
    AllByRecursion (λ m. AllAssignVariables m.body) (methods_among ms)
methods_assign [] ts h = tt
methods_assign (FieldMember f ∷ ms) ts h = methods_assign ms h.1 h.4
methods_assign (MethodMember m ∷ ms) ts h = ((items m.body h.3.8 h.3.13).assigns, methods_assign ms h.1 h.4)

class : (c : Source.Class) (ts : List Token) → IsClass c ts → IsShapedClass c
class c ts h = record {
  fields = subst (AllByRecursion (λ (f : Source.Field). IsOfValues f.ty)) h.12 (fields_shaped h.10 h.6 h.11);
  methods = subst (AllByRecursion IsShapedMethod) h.13 (methods_shaped h.10 h.6 h.11);
}

class_assigns : (c : Source.Class) (ts : List Token) → IsClass c ts → ClassAssignsVariables c
class_assigns c ts h = subst (AllByRecursion (λ (m : Source.Method). AllAssignVariables m.body)) h.13 (methods_assign h.10 h.6 h.11)

-- Files.

decls : (P : Source.Class → Type 0) → ((c : Source.Class) (ts : List Token) → IsClass c ts → P c) → (ds : List Decl) (ts : List Token) →
    AreDecls ds ts →
    AllByRecursion P (flat_map class_in ds)
decls P f [] ts h = tt
decls P f (ClassDecl c ∷ ds) ts h = (f c h.0 h.3, decls P f ds h.1 h.4)
decls P f (EnumDecl e ∷ ds) ts h = decls P f ds h.1 h.4

all_append : {A : Type 0} (P : A → Type 0) (xs ys : List A) → AllByRecursion P xs → AllByRecursion P ys → AllByRecursion P (xs ++ ys)
all_append P [] ys h k = k
all_append P (x ∷ xs) ys h k = (h.0, all_append P xs ys h.1 k)

files : (P : Source.Class → Type 0) → ((c : Source.Class) (ts : List Token) → IsClass c ts → P c) → (fs : Sources) →
    AllByRecursion IsSpelled fs →
    AllByRecursion P (classes_of fs)
files P f [] h = tt
files P f (x ∷ fs) h =
    let file = h.0.spelled.0 in
    all_append P (flat_map class_in x) (classes_of fs) (decls P f x file.3 file.7) (files P f fs h.1)

pub spelled_is_shaped : SpelledIsShaped
spelled_is_shaped program h = record {
  shaped = files IsShapedClass class program.files h;
  assigns = files ClassAssignsVariables class_assigns program.files h;
}

-- The API of a protocol is as the grammar has it, however long its text is.
use Rattle.std.proofs.Common.{List, [], ◌∷◌, ◌++◌, map, true≢false, sym, subst}
use Rattle.std.specs.List.{AllByRecursion}
use Rattle.mg_text.specs.Call.{Name}
use Rattle.mg_text.specs.Places.{start_of}
use Rattle.mg_text.specs.declared.place.Place.{Place}
use Rattle.scr_tree.specs.Tree.{LocalTree}
use Rattle.scr_tree.specs.Meaning.{protocol_of}
use Rattle.scr_tree.specs.Protocol.{Send, Take}
use Rattle.scr_tree.specs.declared.syntax.Payload.{Payload}
use Rattle.scr_tree.specs.declared.syntax.Payload.TheVariants as payloads
use Rattle.ts_tree.specs.declared.parts.TypeName.TheVariants as types
use Rattle.stm_gen.specs.Laid.{carried_params, choice_enum}
use Rattle.jv_tree.specs.Source.{Class, Stmt, Method}
use Rattle.jv_tree.specs.View.{stmts_of}
use Rattle.jv_meaning.specs.Program.{classes_of}
use Rattle.jv_rules.specs.Shape.{IsOfValues, DeclaresValues, AllDeclareValues, IsShapedMethod, IsShapedClass}
use Rattle.jv_resolve_law.specs.Targets.{AssignsVariables, AllAssignVariables, ClassAssignsVariables}
use Rattle.stm_api.specs.Doings.{Doing, Passes, Asks, all_doings}
use Rattle.stm_api.specs.Api.{ApiText, IsApi, send_body, take_body, look_body, label_test, first_label, refusal, value_param, method_of}
use Rattle.stm_api.specs.Api.{class_with, enum_files}

-- a statement declares values and assigns to variables
record Fine (s : Stmt) : Type 0 where
  values : DeclaresValues s
  assigns : AssignsVariables s

values_of : (ss : List Stmt) → AllByRecursion Fine ss → AllDeclareValues (stmts_of ss)
values_of [] h = tt
values_of (s ∷ ss) h = (h.0.values, values_of ss h.1)

assigns_of : (ss : List Stmt) → AllByRecursion Fine ss → AllAssignVariables (stmts_of ss)
assigns_of [] h = tt
assigns_of (s ∷ ss) h = (h.0.assigns, assigns_of ss h.1)

both : {X : Type 0} (P : X → Type 0) (xs ys : List X) → AllByRecursion P xs → AllByRecursion P ys → AllByRecursion P (xs ++ ys)
both P [] ys h k = k
both P (x ∷ xs) ys h k = (h.0, both P xs ys h.1 k)

sends : (p : Place) (peer label : Name) (kind : Payload) → AllByRecursion Fine (send_body p peer label kind)
sends p peer label kind = (record { values = tt; assigns = tt }, tt)

takes : (p : Place) (peer label : Name) (kind : Payload) → AllByRecursion Fine (take_body p peer label kind)
takes p peer label payloads.Nothing = (record { values = tt; assigns = tt }, tt)
takes p peer label payloads.Int = (record { values = tt; assigns = tt }, tt)
takes p peer label payloads.Boolean = (record { values = tt; assigns = tt }, tt)
takes p peer label payloads.Text = (record { values = tt; assigns = tt }, tt)

tests : (p : Place) (enum : Name) (labels : List Name) → AllByRecursion Fine (map (label_test p enum) labels)
tests p enum [] = tt
tests p enum (label ∷ labels) = (record { values = (tt, tt); assigns = (tt, tt) }, tests p enum labels)

firsts : (p : Place) (enum : Name) (labels : List Name) → AllByRecursion Fine (first_label p enum labels)
firsts p enum [] = tt
firsts p enum (label ∷ labels) = (record { values = tt; assigns = tt }, tt)

text_value : IsOfValues types.Text
text_value e = cc

looks : (p : Place) (enum peer : Name) (labels : List Name) → AllByRecursion Fine (look_body p enum peer labels)
looks p enum peer labels = (
  record { values = text_value; assigns = tt },
  both Fine (map (label_test p enum) labels) (refusal p peer ∷ first_label p enum labels) (tests p enum labels)
      (record { values = tt; assigns = tt }, firsts p enum labels),
)

int_value : IsOfValues types.Int
int_value e = cc

boolean_value : IsOfValues types.Boolean
boolean_value e = cc

params : (p : Place) (kind : Payload) → AllByRecursion (λ q. IsOfValues q.ty) (map (value_param p) (carried_params kind))
params p payloads.Nothing = tt
params p payloads.Int = (int_value, tt)
params p payloads.Boolean = (boolean_value, tt)
params p payloads.Text = (text_value, tt)

method_shaped : (p : Place) (me : Name) (d : Doing) → IsShapedMethod (method_of p me d)
method_shaped p me (Passes (Send peer label kind)) =
    record {
      main = λ e. absurd (true≢false (sym e));
      params = params p kind;
      body = values_of (send_body p peer label kind)
          (sends p peer label kind);
    }
method_shaped p me (Passes (Take peer label kind)) =
    record {
      main = λ e. absurd (true≢false (sym e));
      params = tt;
      body = values_of (take_body p peer label kind)
          (takes p peer label kind);
    }
method_shaped p me (Asks number peer labels) =
    let enum = choice_enum me number in
    record {
      main = λ e. absurd (true≢false (sym e));
      params = tt;
      body = values_of (look_body p enum peer labels)
          (looks p enum peer labels);
    }

method_assigns : (p : Place) (me : Name) (d : Doing) → AllAssignVariables (method_of p me d).body
method_assigns p me (Passes (Send peer label kind)) = assigns_of (send_body p peer label kind) (sends p peer label kind)
method_assigns p me (Passes (Take peer label kind)) = assigns_of (take_body p peer label kind) (takes p peer label kind)
method_assigns p me (Asks number peer labels) =
    let enum = choice_enum me number in assigns_of (look_body p enum peer labels) (looks p enum peer labels)

-- what holds of the method of each doing holds of all methods
each_method : (P : Method → Type 0) (p : Place) (me : Name) → ((d : Doing) → P (method_of p me d)) → (ds : List Doing) →
    AllByRecursion P (map (method_of p me) ds)
each_method P p me h [] = tt
each_method P p me h (d ∷ ds) = (h d, each_method P p me h ds)

pub api_class_shaped : (p : Place) (me : Name) (ds : List Doing) → IsShapedClass (class_with p me ds)
api_class_shaped p me ds = record { fields = tt; methods = each_method IsShapedMethod p me (method_shaped p me) ds }

pub api_class_assigns : (p : Place) (me : Name) (ds : List Doing) → ClassAssignsVariables (class_with p me ds)
api_class_assigns p me ds = each_method (λ m. AllAssignVariables m.body) p me (method_assigns p me) ds

-- enums are no classes
no_classes : (P : Class → Type 0) (p : Place) (me : Name) (ds : List Doing) →
    AllByRecursion P (classes_of (map (λ f. f.tree) (enum_files p me ds)))
no_classes P p me [] = tt
no_classes P p me (Passes message ∷ ds) = no_classes P p me ds
no_classes P p me (Asks number peer labels ∷ ds) = no_classes P p me ds

-- what holds of the class of an API holds of all classes of its files
pub api_classes : (P : Class → Type 0) → ((p : Place) (me : Name) (ds : List Doing) → P (class_with p me ds)) →
    (local : LocalTree) (api : List ApiText) → IsApi local api
    → AllByRecursion P (classes_of (map (λ f. f.tree) api))
api_classes P h local api is =
    let p : Place = start_of local.file in
    subst (λ (z : List ApiText). AllByRecursion P (classes_of (map (λ f. f.tree) z))) (sym is.are_files)
    (h p local.me is.firsts, no_classes P p local.me (all_doings (protocol_of local)))

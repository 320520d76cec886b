-- Texts that are written one after another.
use Rattle.std.proofs.Common.{◌≡◌, ℕ, ◌+◌, ◌<◌, Bool, Option, Some, get_or, drop, length, map, List, [], ◌++◌, sym, ap, ◌∙◌, append_assoc}
use Rattle.std.proofs.Common.{codes}
use Rattle.std.proofs.lemmas.List.{append-nil}
use Rattle.std.specs.List.{flat_map}
use Rattle.std.specs.declared.boxed.Box.{Box}
use Rattle.std.specs.declared.alloc.Global.{Global}
use Rattle.mg_text.specs.Call.{Name}
use Rattle.mg_text.specs.Row.{Row}
use Rattle.jv_tree.specs.declared.tree.Expr.{Expr as KeptExpr}
use Rattle.jv_tree.specs.declared.tree.ExprKind.{ExprKind as KeptExprKind}
use Rattle.jv_tree.specs.declared.tree.ExprKind.TheVariants as kinds
use Rattle.jv_tree.specs.Source.{Expr}
use Rattle.jv_tree.proofs.ViewLaws.{expr_of-is, kind-MethodCall}
use Rattle.jv_tree.specs.declared.tree.MethodDecl.{MethodDecl}
use Rattle.jv_tree.specs.declared.tree.Param.{Param}
use Rattle.jv_tree.specs.View.{expr_of, exprs_of, kind_of, method_of}
use Rattle.jv_print.specs.Layout.{expr_text, args_text, call_text, within, is_apart, quoted_text, annotation, names_text, params_text}
use Rattle.jv_print.specs.Layout.{param_text, type_text, method_lines}
use Rattle.jv_print.proofs.Laid.{names-step, params-step, methods-step}

pub two : (o o1 o2 a b : List ℕ) → o1 ≡ o ++ a → o2 ≡ o1 ++ b → o2 ≡ o ++ (a ++ b)
two o o1 o2 a b e1 e2 = e2 ∙ ap (λ x. x ++ b) e1 ∙ append_assoc o a b

pub three : (o o1 o2 o3 a b c : List ℕ) → o1 ≡ o ++ a → o2 ≡ o1 ++ b → o3 ≡ o2 ++ c → o3 ≡ o ++ (a ++ (b ++ c))
three o o1 o2 o3 a b c e1 e2 e3 = two o1 o2 o3 b c e2 e3 ∙ ap (λ x. x ++ (b ++ c)) e1 ∙ append_assoc o a (b ++ c)

pub five : (o o1 o2 o3 o4 o5 a b c d e : List ℕ) → o1 ≡ o ++ a → o2 ≡ o1 ++ b → o3 ≡ o2 ++ c → o4 ≡ o3 ++ d → o5 ≡ o4 ++ e →
    o5 ≡ o ++ (a ++ (b ++ (c ++ (d ++ e))))
five o o1 o2 o3 o4 o5 a b c d e e1 e2 e3 e4 e5 = three o2 o3 o4 o5 c d e e3 e4 e5 ∙ ap (λ x. x ++ (c ++ (d ++ e))) (two o o1 o2 a b e1 e2) ∙
    append_assoc o (a ++ b) _ ∙ ap (λ x. o ++ x) (append_assoc a b _)

-- a type, a blank and a name, before the rest
typed : (ty name tail rest : List ℕ) → (ty ++ (codes " " ++ (name ++ tail))) ++ rest ≡ ty ++ (codes " " ++ (name ++ (tail ++ rest)))
typed ty name tail rest = append_assoc ty _ rest ∙ ap (λ x. ty ++ (codes " " ++ x)) (append_assoc name tail rest)

pub enum_joined : (o o1 o2 o3 name n constants names : List ℕ) → n ≡ name → names ≡ constants →
    o1 ≡ o ++ (codes "public enum " ++ (n ++ codes " {\n    ")) → o2 ≡ o1 ++ names → o3 ≡ o2 ++ codes "\n}\n" →
    o3 ≡ o ++ (codes "public enum " ++ (name ++ (codes " {\n    " ++ (constants ++ codes "\n}\n"))))
enum_joined o o1 o2 o3 name n constants names en ec e1 e2 e3 =
    three o o1 o2 o3 _ names (codes "\n}\n") e1 e2 e3 ∙ ap (λ x. o ++ (codes "public enum " ++ x))
    (append_assoc n (codes " {\n    ") (names ++ codes "\n}\n"))
    ∙ ap (λ x. o ++ (codes "public enum " ++ (x ++ (codes " {\n    " ++ (names ++ codes "\n}\n"))))) en
    ∙ ap (λ x. o ++ (codes "public enum " ++ (name ++ (codes " {\n    " ++ (x ++ codes "\n}\n"))))) ec

pub field_joined : (o o1 o2 o3 ty t name n value : List ℕ) → t ≡ ty → n ≡ name →
    o1 ≡ o ++ (codes "    private " ++ (t ++ (codes " " ++ (n ++ [])))) → o2 ≡ o1 ++ value → o3 ≡ o2 ++ codes ";\n" →
    o3 ≡ o ++ (codes "    private " ++ (ty ++ (codes " " ++ (name ++ (value ++ codes ";\n")))))
field_joined o o1 o2 o3 ty t name n value et en e1 e2 e3 =
    three o o1 o2 o3 _ value (codes ";\n") e1 e2 e3 ∙ ap (λ x. o ++ (codes "    private " ++ x)) (typed t n [] (value ++ codes ";\n"))
    ∙ ap (λ x. o ++ (codes "    private " ++ (x ++ (codes " " ++ (n ++ (value ++ codes ";\n")))))) et
    ∙ ap (λ x. o ++ (codes "    private " ++ (ty ++ (codes " " ++ (x ++ (value ++ codes ";\n")))))) en

pub annotated : (o o1 o2 o3 : List ℕ) (typestate : Option (List ℕ)) (text t : List ℕ) → typestate ≡ Some text → t ≡ text →
    o1 ≡ o ++ codes "@Typestate(" → o2 ≡ o1 ++ quoted_text t → o3 ≡ o2 ++ codes ")\n" →
    o3 ≡ o ++ annotation typestate
annotated o o1 o2 o3 typestate text t is et e1 e2 e3 =
    three o o1 o2 o3 (codes "@Typestate(") (quoted_text t) (codes ")\n") e1 e2 e3 ∙ ap (λ x. o ++ annotation (Some x)) et ∙
    ap (λ x. o ++ annotation x) (sym is)

pub method_joined : (o o1 o2 o3 o4 o5 o6 static s ty t name n params ps body b : List ℕ) → s ≡ static → t ≡ ty → n ≡ name → ps ≡ params →
    b ≡ body →
    o1 ≡ o ++ (codes "    public " ++ (s ++ [])) → o2 ≡ o1 ++ (t ++ (codes " " ++ (n ++ codes "("))) → o3 ≡ o2 ++ ps → o4 ≡ o3 ++ codes ") "
    → o5 ≡ o4 ++ b → o6 ≡ o5 ++ codes "\n" →
    o6 ≡ o ++ (codes "    public "
    ++ (static ++ (ty ++ (codes " " ++ (name ++ (codes "(" ++ (params ++ (codes ") " ++ (body ++ codes "\n")))))))))
method_joined o o1 o2 o3 o4 o5 o6 static s ty t name n params ps body b es et en ep eb e1 e2 e3 e4 e5 e6 =
    let rest = ps ++ (codes ") " ++ (b ++ codes "\n")) in
    let tail = params ++ (codes ") " ++ (body ++ codes "\n")) in
    five o1 o2 o3 o4 o5 o6 _ ps (codes ") ") b (codes "\n") e2 e3 e4 e5 e6
    ∙ ap (λ x. x ++ ((t ++ (codes " " ++ (n ++ codes "("))) ++ rest)) (e1 ∙ ap (λ x. o ++ (codes "    public " ++ x)) (append-nil s ∙ es))
    ∙ append_assoc o _ _
    ∙ ap (λ x. o ++ (codes "    public " ++ (static ++ x))) (typed t n (codes "(") rest)
    ∙ ap (λ x. o ++ (codes "    public " ++ (static ++ (x ++ (codes " " ++ (n ++ (codes "(" ++ rest))))))) et
    ∙ ap (λ x. o ++ (codes "    public " ++ (static ++ (ty ++ (codes " " ++ (x ++ (codes "(" ++ rest))))))) en
    ∙ ap (λ x. o ++ (codes "    public "
    ++ (static ++ (ty ++ (codes " " ++ (name ++ (codes "(" ++ (x ++ (codes ") " ++ (b ++ codes "\n")))))))))) ep
    ∙ ap (λ x. o ++ (codes "    public "
    ++ (static ++ (ty ++ (codes " " ++ (name ++ (codes "(" ++ (params ++ (codes ") " ++ (x ++ codes "\n")))))))))) eb

pub class_joined : (o o1 o2 o3 o4 o5 before name n fields fs methods ms : List ℕ) → n ≡ name → fs ≡ fields → ms ≡ methods →
    o1 ≡ o ++ before → o2 ≡ o1 ++ (codes "public class " ++ (n ++ codes " {\n")) → o3 ≡ o2 ++ fs → o4 ≡ o3 ++ ms → o5 ≡ o4 ++ codes "}\n" →
    o5 ≡ o ++ (before ++ (codes "public class " ++ (name ++ (codes " {\n" ++ (fields ++ (methods ++ codes "}\n"))))))
class_joined o o1 o2 o3 o4 o5 before name n fields fs methods ms en ef em e1 e2 e3 e4 e5 =
    five o o1 o2 o3 o4 o5 before _ fs ms (codes "}\n") e1 e2 e3 e4 e5
    ∙ ap (λ x. o ++ (before ++ (codes "public class " ++ x))) (append_assoc n (codes " {\n") (fs ++ (ms ++ codes "}\n")))
    ∙ ap (λ x. o ++ (before ++ (codes "public class " ++ (x ++ (codes " {\n" ++ (fs ++ (ms ++ codes "}\n"))))))) en
    ∙ ap (λ x. o ++ (before ++ (codes "public class " ++ (name ++ (codes " {\n" ++ (x ++ (ms ++ codes "}\n"))))))) ef
    ∙ ap (λ x. o ++ (before ++ (codes "public class " ++ (name ++ (codes " {\n" ++ (fields ++ (x ++ codes "}\n"))))))) em

pub called_joined : (e : KeptExpr) (of : Box KeptExpr Global) (name : Name) (args : Row KeptExpr) (o o1 o2 o3 n : List ℕ)
    (given : List KeptExpr) (apart : Bool) →
    e.kind ≡ kinds.MethodCall of name args → n ≡ name → given ≡ args.items → apart ≡ is_apart (expr_of of.value) →
    o1 ≡ o ++ within apart (expr_text (expr_of of.value)) → o2 ≡ o1 ++ codes "." →
    o3 ≡ o2 ++ call_text n (args_text [] (exprs_of (map expr_of given))) →
    o3 ≡ o ++ expr_text (expr_of e)
called_joined e of name args o o1 o2 o3 n given apart is en eg ea e1 e2 e3 =
    three o o1 o2 o3 _ (codes ".") _ e1 e2 e3
    ∙ ap (λ (b : Bool). o ++ (within b (expr_text (expr_of of.value))
    ++ (codes "." ++ call_text n (args_text [] (exprs_of (map expr_of given)))))) ea
    ∙ ap (λ x. o ++ (within (is_apart (expr_of of.value)) (expr_text (expr_of of.value))
    ++ (codes "." ++ call_text x (args_text [] (exprs_of (map expr_of given)))))) en
    ∙ ap (λ (x : List KeptExpr). o ++ (within (is_apart (expr_of of.value)) (expr_text (expr_of of.value))
    ++ (codes "." ++ call_text name (args_text [] (exprs_of (map expr_of x)))))) eg
    ∙ ap (λ (x : Expr). o ++ expr_text x)
    (sym (expr_of-is e ∙ ap (λ (k : KeptExprKind). kind_of k e.place) is ∙ kind-MethodCall of name args e.place))

-- one more is written
behind_it : (out new before item text more : List ℕ) → item ≡ text → new ≡ out ++ (before ++ item) →
    out ++ (before ++ (text ++ more)) ≡ new ++ more
behind_it out new before item text more same e =
    ap (λ z. out ++ (before ++ (z ++ more))) (sym same) ∙ ap (λ z. out ++ z) (sym (append_assoc before item more))
    ∙ sym (append_assoc out (before ++ item) more) ∙ ap (λ z. z ++ more) (sym e)

pub name_more : (out new before : List ℕ) (names : List Name) (i : ℕ) (x y : Name) → i < length names → x ≡ get_or names i x → y ≡ x →
    new ≡ out ++ (before ++ (y ++ [])) →
    out ++ names_text before (drop i names) ≡ new ++ names_text (codes ", ") (drop (i + 1) names)
name_more out new before names i x y within is same e =
    ap (λ z. out ++ z) (names-step before names i x within is)
    ∙ behind_it out new before (y ++ []) x (names_text (codes ", ") (drop (i + 1) names)) (append-nil y ∙ same) e

pub param_more : (out new before : List ℕ) (ps : List Param) (i : ℕ) (x : Param) (t n : List ℕ) → i < length ps → x ≡ get_or ps i x →
    t ≡ type_text x.ty → n ≡ x.name → new ≡ out ++ (before ++ (t ++ (codes " " ++ (n ++ [])))) →
    out ++ params_text before (drop i ps) ≡ new ++ params_text (codes ", ") (drop (i + 1) ps)
param_more out new before ps i x t n within is et en e =
    ap (λ z. out ++ z) (params-step before ps i x within is)
    ∙ behind_it out new before (t ++ (codes " " ++ (n ++ []))) (param_text x) (params_text (codes ", ") (drop (i + 1) ps))
    (ap (λ z. t ++ (codes " " ++ z)) (append-nil n ∙ en) ∙ ap (λ z. z ++ (codes " " ++ x.name)) et) e

pub method_more : (out o1 : List ℕ) (ms : List MethodDecl) (i : ℕ) (x : MethodDecl) → i < length ms → x ≡ get_or ms i x →
    o1 ≡ out ++ method_lines (method_of x) →
    out ++ flat_map method_lines (map method_of (drop i ms)) ≡ o1 ++ flat_map method_lines (map method_of (drop (i + 1) ms))
method_more out o1 ms i x within is e =
    let more = flat_map method_lines (map method_of (drop (i + 1) ms)) in
    ap (λ z. out ++ z) (methods-step ms i x within is) ∙ sym (append_assoc out (method_lines (method_of x)) more) ∙ ap (λ z. z ++ more)
    (sym e)

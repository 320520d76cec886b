-- What is laid out of the part at an index, and of those behind it.
use Rattle.std.proofs.Common.{◌≡◌, ℕ, ◌+◌, ◌<◌, ◌≤◌, get_or, drop, length, map, List, [], ◌∷◌, ◌++◌, Option, refl, sym, ap, ◌∙◌}
use Rattle.std.proofs.Common.{append_assoc, codes}
use Rattle.std.proofs.lemmas.List.{append-nil, at_drop_more, at_drop_all}
use Rattle.std.proofs.lemmas.Grind.{common_steps}
use Rattle.std.specs.List.{flat_map}
use Rattle.mg_text.specs.Call.{Name}
use Rattle.mg_text.specs.declared.place.Place.{Place}
use Rattle.jv_tree.specs.declared.tree.Expr.{Expr as KeptExpr}
use Rattle.jv_tree.specs.declared.tree.Stmt.{Stmt as KeptStmt}
use Rattle.jv_tree.specs.declared.tree.Group.{Group as KeptGroup, out-Group, fold_out-Group}
use Rattle.jv_tree.specs.declared.tree.Field.{Field as KeptField}
use Rattle.jv_tree.specs.declared.tree.MethodDecl.{MethodDecl}
use Rattle.jv_tree.specs.declared.tree.Decl.{Decl as KeptDecl}
use Rattle.jv_tree.specs.declared.tree.Param.{Param}
use Rattle.jv_tree.specs.Source.{Stmt}
use Rattle.jv_tree.specs.View.{exprs_of, expr_of, stmts_of, stmt_of, groups_of, group_of, OneGroup, stmt_layer, group_layer}
use Rattle.jv_tree.specs.View.{placed_stmt_layer, field_of, method_of, decl_of}
use Rattle.jv_tree.proofs.ViewLaws.{views}
use Rattle.jv_print.specs.Layout.{indent, expr_text, args_text, stmt_text, lines, group_lines, case_text, case_lines, names_text}
use Rattle.jv_print.specs.Layout.{params_text, param_text, field_line, method_lines, decl_lines}

pub group_of-is : (g : KeptGroup) → group_of g ≡ record {
  labels = (out-Group g).labels.items;
  body =
      stmts_of (map stmt_of (out-Group g).body.items);
  end = (out-Group g).end;
}
unfolding group_of stmt_of
group_of-is g = fold_out-Group (Place → Stmt) OneGroup Stmt stmt_layer group_layer placed_stmt_layer g

-- ---- the part at an index, and those behind it

pub args-step : (before : List ℕ) (es : List KeptExpr) (i : ℕ) (x : KeptExpr) → i < length es → x ≡ get_or es i x →
    args_text before (exprs_of (map expr_of (drop i es))) ≡ before
    ++ (expr_text (expr_of x) ++ args_text (codes ", ") (exprs_of (map expr_of (drop (i + 1) es))))
args-step before es i x within is =
    at_drop_more (λ l. args_text before (exprs_of (map expr_of l))) es i x within
    ∙ ap (λ y. before ++ (expr_text (expr_of y) ++ args_text (codes ", ") (exprs_of (map expr_of (drop (i + 1) es))))) (sym is)

pub args-past : (before : List ℕ) (es : List KeptExpr) (i : ℕ) → length es ≤ i → args_text before (exprs_of (map expr_of (drop i es))) ≡ []
args-past before es i h = at_drop_all (λ l. args_text before (exprs_of (map expr_of l))) es i h

pub lines-step : (level : ℕ) (ss : List KeptStmt) (i : ℕ) (x : KeptStmt) → i < length ss → x ≡ get_or ss i x →
    lines level (stmts_of (map stmt_of (drop i ss))) ≡ indent level
    ++ (stmt_text level (stmt_of x) ++ (codes "\n" ++ lines level (stmts_of (map stmt_of (drop (i + 1) ss)))))
lines-step level ss i x within is =
    at_drop_more (λ l. lines level (stmts_of (map stmt_of l))) ss i x within
    ∙ ap (λ y. indent level ++ (stmt_text level (stmt_of y) ++ (codes "\n" ++ lines level (stmts_of (map stmt_of (drop (i + 1) ss))))))
    (sym is)

pub lines-past : (level : ℕ) (ss : List KeptStmt) (i : ℕ) → length ss ≤ i → lines level (stmts_of (map stmt_of (drop i ss))) ≡ []
lines-past level ss i h = at_drop_all (λ l. lines level (stmts_of (map stmt_of l))) ss i h

pub groups-step : (level : ℕ) (gs : List KeptGroup) (i : ℕ) (x : KeptGroup) → i < length gs → x ≡ get_or gs i x →
    group_lines level (groups_of (map group_of (drop i gs)))
    ≡ case_lines level (out-Group x).labels.items ++ (lines (level + 1) (stmts_of (map stmt_of (out-Group x).body.items))
    ++ group_lines level (groups_of (map group_of (drop (i + 1) gs))))
groups-step level gs i x within is =
    let more = groups_of (map group_of (drop (i + 1) gs)) in
    at_drop_more (λ l. group_lines level (groups_of (map group_of l))) gs i x within
    ∙ ap (λ y. case_lines level (group_of y).labels ++ (lines (level + 1) (group_of y).body ++ group_lines level more)) (sym is)
    ∙ ap (λ (g : OneGroup). case_lines level g.labels ++ (lines (level + 1) g.body ++ group_lines level more)) (group_of-is x)

pub groups-past : (level : ℕ) (gs : List KeptGroup) (i : ℕ) → length gs ≤ i → group_lines level (groups_of (map group_of (drop i gs))) ≡ []
groups-past level gs i h = at_drop_all (λ l. group_lines level (groups_of (map group_of l))) gs i h

pub cases-step : (level : ℕ) (labels : List (Option Name)) (i : ℕ) (x : Option Name) → i < length labels → x ≡ get_or labels i x →
    case_lines level (drop i labels) ≡ indent level ++ (case_text x ++ (codes "\n" ++ case_lines level (drop (i + 1) labels)))
cases-step level labels i x within is =
    at_drop_more (case_lines level) labels i x within ∙
    ap (λ y. indent level ++ (case_text y ++ (codes "\n" ++ case_lines level (drop (i + 1) labels)))) (sym is)

pub cases-past : (level : ℕ) (labels : List (Option Name)) (i : ℕ) → length labels ≤ i → case_lines level (drop i labels) ≡ []
cases-past level labels i h = at_drop_all (case_lines level) labels i h

pub names-step : (before : List ℕ) (names : List Name) (i : ℕ) (x : Name) → i < length names → x ≡ get_or names i x →
    names_text before (drop i names) ≡ before ++ (x ++ names_text (codes ", ") (drop (i + 1) names))
names-step before names i x within is =
    at_drop_more (names_text before) names i x within ∙ ap (λ y. before ++ (y ++ names_text (codes ", ") (drop (i + 1) names))) (sym is)

pub names-past : (before : List ℕ) (names : List Name) (i : ℕ) → length names ≤ i → names_text before (drop i names) ≡ []
names-past before names i h = at_drop_all (names_text before) names i h

pub params-step : (before : List ℕ) (ps : List Param) (i : ℕ) (x : Param) → i < length ps → x ≡ get_or ps i x →
    params_text before (drop i ps) ≡ before ++ (param_text x ++ params_text (codes ", ") (drop (i + 1) ps))
params-step before ps i x within is =
    at_drop_more (params_text before) ps i x within
    ∙ ap (λ (y : Param). before ++ (param_text y ++ params_text (codes ", ") (drop (i + 1) ps))) (sym is)

pub params-past : (before : List ℕ) (ps : List Param) (i : ℕ) → length ps ≤ i → params_text before (drop i ps) ≡ []
params-past before ps i h = at_drop_all (params_text before) ps i h

-- parts that are laid out one after another
each-step : {A B : Type 0} (f : B → List ℕ) (view : A → B) (xs : List A) (i : ℕ) (x : A) → i < length xs → x ≡ get_or xs i x →
    flat_map f (map view (drop i xs)) ≡ f (view x) ++ flat_map f (map view (drop (i + 1) xs))
each-step f view xs i x within is =
    at_drop_more (λ l. flat_map f (map view l)) xs i x within ∙ ap (λ y. f (view y) ++ flat_map f (map view (drop (i + 1) xs))) (sym is)

each-past : {A B : Type 0} (f : B → List ℕ) (view : A → B) (xs : List A) (i : ℕ) → length xs ≤ i → flat_map f (map view (drop i xs)) ≡ []
each-past f view xs i h = at_drop_all (λ l. flat_map f (map view l)) xs i h

pub fields-step : (xs : List KeptField) (i : ℕ) (x : KeptField) → i < length xs → x ≡ get_or xs i x →
    flat_map field_line (map field_of (drop i xs)) ≡ field_line (field_of x) ++ flat_map field_line (map field_of (drop (i + 1) xs))
fields-step = each-step field_line field_of

pub fields-past : (xs : List KeptField) (i : ℕ) → length xs ≤ i → flat_map field_line (map field_of (drop i xs)) ≡ []
fields-past = each-past field_line field_of

pub methods-step : (xs : List MethodDecl) (i : ℕ) (x : MethodDecl) → i < length xs → x ≡ get_or xs i x →
    flat_map method_lines (map method_of (drop i xs)) ≡ method_lines (method_of x) ++ flat_map method_lines
    (map method_of (drop (i + 1) xs))
methods-step = each-step method_lines method_of

pub methods-past : (xs : List MethodDecl) (i : ℕ) → length xs ≤ i → flat_map method_lines (map method_of (drop i xs)) ≡ []
methods-past = each-past method_lines method_of

pub decls-step : (xs : List KeptDecl) (i : ℕ) (x : KeptDecl) → i < length xs → x ≡ get_or xs i x →
    flat_map decl_lines (map decl_of (drop i xs)) ≡ decl_lines (decl_of x) ++ flat_map decl_lines (map decl_of (drop (i + 1) xs))
decls-step = each-step decl_lines decl_of

pub decls-past : (xs : List KeptDecl) (i : ℕ) → length xs ≤ i → flat_map decl_lines (map decl_of (drop i xs)) ≡ []
decls-past = each-past decl_lines decl_of

pub ruleset laid = (common_steps, views, append_assoc, append-nil)

pub ruleset arg_steps = (common_steps, args-step, args-past, append_assoc, append-nil)

pub ruleset line_steps = (common_steps, lines-step, lines-past, append_assoc, append-nil)

pub ruleset group_steps = (common_steps, groups-step, groups-past, append_assoc, append-nil)

pub ruleset case_steps = (common_steps, cases-step, cases-past, append_assoc, append-nil)

pub ruleset name_steps = (common_steps, names-step, names-past, append_assoc, append-nil)

pub ruleset param_steps = (common_steps, params-step, params-past, append_assoc, append-nil)

pub ruleset field_steps = (common_steps, fields-step, fields-past, append_assoc, append-nil)

pub ruleset method_steps = (common_steps, methods-step, methods-past, append_assoc, append-nil)

pub ruleset decl_steps = (common_steps, decls-step, decls-past, append_assoc, append-nil)

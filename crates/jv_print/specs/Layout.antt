-- How a Java file is laid out: four spaces a level, one statement a line, no blank lines.
use Rattle.std.specs.Prelude.{ℕ, ◌+◌, ◌*◌, Bool, true, false, List, [], ◌∷◌, ◌++◌, Option, Some, None, codes, replicate, ◌==◌}
use Rattle.std.specs.Prelude.{if◌then◌else◌}
use Rattle.std.specs.List.{flat_map}
use Rattle.std.specs.Fmt.{signed_decimal}
use Rattle.mg_text.specs.Call.{Name}
use Rattle.ts_tree.specs.declared.parts.TypeName.{TypeName}
use Rattle.ts_tree.specs.declared.parts.TypeName.TheVariants as types
use Rattle.jv_tree.specs.declared.tree.Op.{Op}
use Rattle.jv_tree.specs.declared.tree.Op.TheVariants as ops
use Rattle.jv_tree.specs.declared.tree.Param.{Param}
use Rattle.jv_tree.specs.Source.{Expr, Int, Truth, Text, Null, This, Variable, Member, Neg, Not, Binary, Call, MethodCall, New, Exprs}
use Rattle.jv_tree.specs.Source.{NoExpr, Argument}
use Rattle.jv_tree.specs.Source.{Stmt, Block, Empty, Local, Assign, If, IfElse, While, Do, Switch, Break, Continue, Return, Print, Eval}
use Rattle.jv_tree.specs.Source.{Stmts, NoStmt, Then, Groups, NoGroup, Group}
use Rattle.jv_tree.specs.Source.{Field, Method, Class, Enum, Decl, ClassDecl, EnumDecl, File}
use Rattle.jv_tree.specs.Expressions.{truth_word}

abbrev pub indent : ℕ → List ℕ
indent level = replicate (4 * level) 32

-- ---- words, texts and types

-- a character of a text: those that no text may hold, and the quote and the backslash, have escapes
abbrev pub character : ℕ → List ℕ
character c =
    if c == 8 then codes "\\b" else (if c == 9 then codes "\\t" else (if c == 10 then codes "\\n" else (if c == 12 then codes "\\f"
    else (if c == 13 then codes "\\r" else (if c == 34 then codes "\\\"" else (if c == 92 then codes "\\\\" else c ∷ []))))))

abbrev pub quoted_text : List ℕ → List ℕ
quoted_text text = codes "\"" ++ (flat_map character text ++ codes "\"")

abbrev pub type_text : TypeName → List ℕ
type_text types.Void = codes "void"
type_text types.Int = codes "int"
type_text types.Boolean = codes "boolean"
type_text types.Text = codes "String"
type_text (types.Named name) = name

abbrev pub op_text : Op → List ℕ
op_text ops.Or = codes "||"
op_text ops.And = codes "&&"
op_text ops.Eq = codes "=="
op_text ops.Ne = codes "!="
op_text ops.Lt = codes "<"
op_text ops.Le = codes "<="
op_text ops.Gt = codes ">"
op_text ops.Ge = codes ">="
op_text ops.Add = codes "+"
op_text ops.Sub = codes "-"
op_text ops.Mul = codes "*"
op_text ops.Div = codes "/"
op_text ops.Rem = codes "%"

-- ---- expressions

-- an operand that is a unary or a binary expression stands in parentheses
abbrev pub has_operator : Expr → Bool
has_operator (Neg p e) = true
has_operator (Not p e) = true
has_operator (Binary p op l r) = true
has_operator _ = false

-- under a unary minus and before `.name` a number does so too
abbrev pub is_apart : Expr → Bool
is_apart (Int p z) = true
is_apart (Neg p e) = true
is_apart (Not p e) = true
is_apart (Binary p op l r) = true
is_apart _ = false

abbrev pub within : Bool → List ℕ → List ℕ
within true text = codes "(" ++ (text ++ codes ")")
within false text = text

-- a name, with the text of arguments
abbrev pub call_text : Name → List ℕ → List ℕ
call_text name args = name ++ (codes "(" ++ (args ++ codes ")"))

abbrev mutual
  pub expr_text : Expr → List ℕ
  expr_text (Int p z) = signed_decimal z
  expr_text (Truth p b) = truth_word b
  expr_text (Text p t) = quoted_text t
  expr_text (Null p) = codes "null"
  expr_text (This p) = codes "this"
  expr_text (Variable p name) = name
  expr_text (Member p e name) = within (is_apart e) (expr_text e) ++ (codes "." ++ name)
  expr_text (Neg p e) = codes "-" ++ within (is_apart e) (expr_text e)
  expr_text (Not p e) = codes "!" ++ within (has_operator e) (expr_text e)
  expr_text (Binary p op l r) =
      within (has_operator l) (expr_text l) ++ (codes " " ++ (op_text op ++ (codes " " ++ within (has_operator r) (expr_text r))))
  expr_text (Call p name args) = call_text name (args_text [] args)
  expr_text (MethodCall p e name args) = within (is_apart e) (expr_text e) ++ (codes "." ++ call_text name (args_text [] args))
  expr_text (New p name) = codes "new " ++ (name ++ codes "()")

  -- arguments, with what stands before the first; before each of the others stands a comma
  pub args_text : List ℕ → Exprs → List ℕ
  args_text before NoExpr = []
  args_text before (Argument e more) = before ++ (expr_text e ++ args_text (codes ", ") more)

-- ---- statements

-- a loop's label
abbrev pub label_text : Option Name → List ℕ
label_text None = []
label_text (Some name) = name ++ codes ": "

-- the label of a group
abbrev pub case_text : Option Name → List ℕ
case_text None = codes "default:"
case_text (Some name) = codes "case " ++ (name ++ codes ":")

-- the lines of a group's labels
abbrev pub case_lines : ℕ → List (Option Name) → List ℕ
case_lines level [] = []
case_lines level (label ∷ labels) = indent level ++ (case_text label ++ (codes "\n" ++ case_lines level labels))

-- the loop that is left or gone on with
abbrev pub target_text : Option Name → List ℕ
target_text None = []
target_text (Some name) = codes " " ++ name

abbrev pub value_text : Option Expr → List ℕ
value_text None = []
value_text (Some e) = codes " " ++ expr_text e

abbrev pub is_block : Stmt → Bool
is_block (Block p body end) = true
is_block _ = false

-- what stands between a statement and what follows it: a blank behind a block, and otherwise a new line
abbrev pub behind : Bool → ℕ → List ℕ
behind true level = codes " "
behind false level = codes "\n" ++ indent level

-- what a branch or a body begins with: a block goes on in the line, another statement stands in the next one, one level in
abbrev pub body_start : Bool → ℕ → List ℕ
body_start true level = codes " "
body_start false level = codes "\n" ++ indent (level + 1)

abbrev pub body_level : Bool → ℕ → ℕ
body_level true level = level
body_level false level = level + 1

-- a branch or a body, whose text is known at each level
abbrev pub as_body : Bool → ℕ → (ℕ → List ℕ) → List ℕ
as_body block level text = body_start block level ++ text (body_level block level)

-- lines between braces; the closing brace is at the level of the opening line
abbrev pub braced : ℕ → List ℕ → List ℕ
braced level inside = codes "{\n" ++ (inside ++ (indent level ++ codes "}"))

abbrev mutual
  -- a statement that begins in a line at this level, without the end of its last line
  pub stmt_text : ℕ → Stmt → List ℕ
  stmt_text level (Block p body end) = braced level (lines (level + 1) body)
  stmt_text level (Empty p) = codes ";"
  stmt_text level (Local p ty name e) = type_text ty ++ (codes " " ++ (name ++ (codes " = " ++ (expr_text e ++ codes ";"))))
  stmt_text level (Assign p target e) = expr_text target ++ (codes " = " ++ (expr_text e ++ codes ";"))
  stmt_text level (If p e s) = codes "if (" ++ (expr_text e ++ (codes ")" ++ as_body (is_block s) level (λ l. stmt_text l s)))
  stmt_text level (IfElse p e s other) =
      codes "if (" ++ (expr_text e ++ (codes ")" ++ (as_body (is_block s) level (λ l. stmt_text l s)
      ++ (behind (is_block s) level ++ (codes "else" ++ as_body (is_block other) level (λ l. stmt_text l other))))))
  stmt_text level (While p label e s) =
      label_text label ++ (codes "while (" ++ (expr_text e ++ (codes ")" ++ as_body (is_block s) level (λ l. stmt_text l s))))
  stmt_text level (Do p label s e) =
      label_text label ++ (codes "do" ++ (as_body (is_block s) level (λ l. stmt_text l s)
      ++ (behind (is_block s) level ++ (codes "while (" ++ (expr_text e ++ codes ");")))))
  stmt_text level (Switch p e groups end) =
      codes "switch (" ++ (expr_text e ++ (codes ") " ++ braced level (group_lines (level + 1) groups)))
  stmt_text level (Break p label) = codes "break" ++ (target_text label ++ codes ";")
  stmt_text level (Continue p label) = codes "continue" ++ (target_text label ++ codes ";")
  stmt_text level (Return p value) = codes "return" ++ (value_text value ++ codes ";")
  stmt_text level (Print p e) = codes "System.out.println(" ++ (expr_text e ++ codes ");")
  stmt_text level (Eval p e) = expr_text e ++ codes ";"

  -- the lines of statements
  pub lines : ℕ → Stmts → List ℕ
  lines level NoStmt = []
  lines level (Then s more) = indent level ++ (stmt_text level s ++ (codes "\n" ++ lines level more))

  -- the lines of groups: a line for each label, and the statements one level in
  pub group_lines : ℕ → Groups → List ℕ
  group_lines level NoGroup = []
  group_lines level (Group labels body end more) = case_lines level labels ++ (lines (level + 1) body ++ group_lines level more)

-- a branch or a body
abbrev pub body_text : ℕ → Stmt → List ℕ
body_text level s = as_body (is_block s) level (λ l. stmt_text l s)

-- ---- members

abbrev pub field_value : Option Expr → List ℕ
field_value None = []
field_value (Some e) = codes " = " ++ expr_text e

abbrev pub field_line : Field → List ℕ
field_line f = codes "    private " ++ (type_text f.ty ++ (codes " " ++ (f.name ++ (field_value f.value ++ codes ";\n"))))

abbrev pub param_text : Param → List ℕ
param_text param = type_text param.ty ++ (codes " " ++ param.name)

-- parameters, with what stands before the first; before each of the others stands a comma
abbrev pub params_text : List ℕ → List Param → List ℕ
params_text before [] = []
params_text before (param ∷ params) = before ++ (param_text param ++ params_text (codes ", ") params)

-- the parameter of a program's first method, or the method's own
abbrev pub all_params : Bool → List Param → List ℕ
all_params true params = codes "String[] args"
all_params false params = params_text [] params

abbrev pub static_text : Bool → List ℕ
static_text true = codes "static "
static_text false = []

abbrev pub method_lines : Method → List ℕ
method_lines m =
    codes "    public " ++ (static_text m.is_static ++ (type_text m.result ++ (codes " " ++ (m.name ++ (codes "("
    ++ (all_params m.takes_args m.params ++ (codes ") " ++ (braced 1 (lines 2 m.body) ++ codes "\n"))))))))

-- ---- declarations

abbrev pub annotation : Option (List ℕ) → List ℕ
annotation None = []
annotation (Some text) = codes "@Typestate(" ++ (quoted_text text ++ codes ")\n")

abbrev pub class_lines : Class → List ℕ
class_lines c =
    annotation c.typestate ++ (codes "public class " ++ (c.name ++ (codes " {\n"
    ++ (flat_map field_line c.fields ++ (flat_map method_lines c.methods ++ codes "}\n")))))

-- names, with what stands before the first; before each of the others stands a comma
abbrev pub names_text : List ℕ → List Name → List ℕ
names_text before [] = []
names_text before (name ∷ names) = before ++ (name ++ names_text (codes ", ") names)

abbrev pub enum_lines : Enum → List ℕ
enum_lines e = codes "public enum " ++ (e.name ++ (codes " {\n    " ++ (names_text [] e.constants ++ codes "\n}\n")))

abbrev pub decl_lines : Decl → List ℕ
decl_lines (ClassDecl c) = class_lines c
decl_lines (EnumDecl e) = enum_lines e

-- the text of a file
abbrev pub layout : File → List ℕ
layout decls = flat_map decl_lines decls

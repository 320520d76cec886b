-- What a program declares and which types it names, in file and text order.
-- Fields and methods of a class are merged by their places; at equal places a field comes first.
use Rattle.std.specs.Prelude.{ℕ, List, [], ◌∷◌, ◌++◌, map, Option, Some, None, Bool, ◌&&◌, ◌||◌, ◌==◌, nat_lt, if◌then◌else◌}
use Rattle.std.specs.List.{flat_map}
use Rattle.mg_text.specs.Call.{Name}
use Rattle.mg_text.specs.declared.place.Place.{Place}
use Rattle.mg_text.specs.Places.{start_of}
use Rattle.mg_read.specs.First.{with_earlier}
use Rattle.ts_tree.specs.Typestate as protocols
use Rattle.ts_tree.specs.declared.parts.TypeName.{TypeName}
use Rattle.jv_tree.specs.declared.tree.Param.{Param}
use Rattle.jv_tree.specs.Source.{Expr, Member, Neg, Not, Binary, Call, MethodCall, New, Exprs, NoExpr, Argument}
use Rattle.jv_tree.specs.Source.{Stmt, Block, Empty, Local, Assign, If, IfElse, While, Do, Switch, Break, Continue, Return, Print, Eval}
use Rattle.jv_tree.specs.Source.{Stmts, NoStmt, Then, Groups, NoGroup, Group, Field, Method, Class, Decl, ClassDecl, EnumDecl}
use Rattle.jv_rules.specs.Program.{Program, decls_of}

-- a place stands before another one of its file
abbrev pub is_before : Place → Place → Bool
is_before a b = nat_lt a.line b.line || ((a.line == b.line) && nat_lt a.column b.column)

pub data ClassMember : Type 0 where
  OfField : Field → ClassMember
  OfMethod : Method → ClassMember

-- those at the front that stand before a place, and the rest
abbrev pub methods_before : Place → List Method → List Method
methods_before p [] = []
methods_before p (m ∷ ms) = if is_before m.place p then m ∷ methods_before p ms else []

abbrev pub methods_from : Place → List Method → List Method
methods_from p [] = []
methods_from p (m ∷ ms) = if is_before m.place p then methods_from p ms else m ∷ ms

-- both lists in one
abbrev pub merged : List Field → List Method → List ClassMember
merged [] ms = map OfMethod ms
merged (f ∷ fs) ms = map OfMethod (methods_before f.place ms) ++ OfField f ∷ merged fs (methods_from f.place ms)

abbrev pub members_of : Class → List ClassMember
members_of c = merged c.fields c.methods

-- the kinds of what is declared; names are told apart by kind
pub data Sort : Type 0 where
  -- a class or an enum
  OfType : Sort
  OfTypestate : Sort
  FieldName : Sort
  MethodName : Sort
  ConstantName : Sort

-- a declared name
pub record Entry : Type 0 where
  pub place : Place
  pub sort : Sort
  pub name : Name

abbrev pub entry : Place → Sort → Name → Entry
entry place sort name = record { place = place; sort = sort; name = name }

abbrev pub decl_entry : Decl → Entry
decl_entry (ClassDecl c) = entry c.place OfType c.name
decl_entry (EnumDecl e) = entry e.place OfType e.name

-- A typestate stands where its file begins; `origins` are the numbers of their files.
abbrev pub typestate_entries : List protocols.Typestate → List ℕ → List Entry
typestate_entries [] origins = []
typestate_entries (t ∷ ts) [] = []
typestate_entries (t ∷ ts) (file ∷ files) = entry (start_of file) OfTypestate t.name ∷ typestate_entries ts files

-- classes and enums, and then typestates
abbrev pub entries : Program → List ℕ → List Entry
entries program origins = map decl_entry (decls_of program.files) ++ typestate_entries program.typestates origins

abbrev pub member_entry : ClassMember → Entry
member_entry (OfField f) = entry f.place FieldName f.name
member_entry (OfMethod m) = entry m.place MethodName m.name

-- what a declaration declares; constants stand at the enum's name
abbrev pub entries_in : Decl → List Entry
entries_in (ClassDecl c) = map member_entry (members_of c)
entries_in (EnumDecl e) = map (entry e.place ConstantName) e.constants

-- each name that a declaration declares, with those before it
abbrev pub member_entries : Program → List (List Entry × Entry)
member_entries program = flat_map (λ d. with_earlier (entries_in d)) (decls_of program.files)

-- a type that is named: one that is written, at what is declared with it, or the class of `new`
pub data Mention : Type 0 where
  Written : Place → TypeName → Mention
  Made : Place → Name → Mention

abbrev mutual
  pub mentions_in : Expr → List Mention
  mentions_in (Member p e name) = mentions_in e
  mentions_in (Neg p e) = mentions_in e
  mentions_in (Not p e) = mentions_in e
  mentions_in (Binary p op l r) = mentions_in l ++ mentions_in r
  mentions_in (Call p name args) = mentions_in_args args
  mentions_in (MethodCall p e name args) = mentions_in e ++ mentions_in_args args
  mentions_in (New p class) = Made p class ∷ []
  mentions_in _ = []

  pub mentions_in_args : Exprs → List Mention
  mentions_in_args NoExpr = []
  mentions_in_args (Argument e more) = mentions_in e ++ mentions_in_args more

abbrev pub mentions_in_value : Option Expr → List Mention
mentions_in_value None = []
mentions_in_value (Some e) = mentions_in e

abbrev mutual
  pub mentions_in_stmt : Stmt → List Mention
  mentions_in_stmt (Block p body end) = mentions_in_stmts body
  mentions_in_stmt (Empty p) = []
  mentions_in_stmt (Local p ty name e) = Written p ty ∷ mentions_in e
  mentions_in_stmt (Assign p target value) = mentions_in target ++ mentions_in value
  mentions_in_stmt (If p c s) = mentions_in c ++ mentions_in_stmt s
  mentions_in_stmt (IfElse p c s r) = mentions_in c ++ (mentions_in_stmt s ++ mentions_in_stmt r)
  mentions_in_stmt (While p label c s) = mentions_in c ++ mentions_in_stmt s
  mentions_in_stmt (Do p label s c) = mentions_in_stmt s ++ mentions_in c
  mentions_in_stmt (Switch p e groups end) = mentions_in e ++ mentions_in_groups groups
  mentions_in_stmt (Break p label) = []
  mentions_in_stmt (Continue p label) = []
  mentions_in_stmt (Return p value) = mentions_in_value value
  mentions_in_stmt (Print p e) = mentions_in e
  mentions_in_stmt (Eval p e) = mentions_in e

  pub mentions_in_stmts : Stmts → List Mention
  mentions_in_stmts NoStmt = []
  mentions_in_stmts (Then s more) = mentions_in_stmt s ++ mentions_in_stmts more

  pub mentions_in_groups : Groups → List Mention
  mentions_in_groups NoGroup = []
  mentions_in_groups (Group labels body end more) = mentions_in_stmts body ++ mentions_in_groups more

abbrev pub param_mention : Param → Mention
param_mention p = Written p.place p.ty

-- a result stands at the method's name
abbrev pub mentions_in_member : ClassMember → List Mention
mentions_in_member (OfField f) = Written f.place f.ty ∷ mentions_in_value f.value
mentions_in_member (OfMethod m) = Written m.place m.result ∷ (map param_mention m.params ++ mentions_in_stmts m.body)

abbrev pub mentions_in_class : Class → List Mention
mentions_in_class c = flat_map mentions_in_member (members_of c)

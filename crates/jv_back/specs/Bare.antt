-- Java sources without their places: one and the same place stands for each.
use Rattle.std.specs.Prelude.{map, option_map}
use Rattle.mg_text.specs.declared.place.Place.{Place}
use Rattle.jv_tree.specs.declared.tree.Param.{Param}
use Rattle.jv_tree.specs.Source.{Expr, Int, Truth, Text, Null, This, Variable, Member, Neg, Not, Binary, Call, MethodCall, New, Exprs}
use Rattle.jv_tree.specs.Source.{NoExpr, Argument}
use Rattle.jv_tree.specs.Source.{Stmt, Block, Empty, Local, Assign, If, IfElse, While, Do, Switch, Break, Continue, Return, Print, Eval}
use Rattle.jv_tree.specs.Source.{Stmts, NoStmt, Then, Groups, NoGroup, Group, Field, Method, Class, Enum, Decl, ClassDecl, EnumDecl, File}

-- what stands in each place
abbrev pub nowhere : Place
nowhere = record { file = 0; line = 0; column = 0 }

abbrev mutual
  pub bare : Expr → Expr
  bare (Int p z) = Int nowhere z
  bare (Truth p b) = Truth nowhere b
  bare (Text p t) = Text nowhere t
  bare (Null p) = Null nowhere
  bare (This p) = This nowhere
  bare (Variable p n) = Variable nowhere n
  bare (Member p e n) = Member nowhere (bare e) n
  bare (Neg p e) = Neg nowhere (bare e)
  bare (Not p e) = Not nowhere (bare e)
  bare (Binary p o l r) = Binary nowhere o (bare l) (bare r)
  bare (Call p n args) = Call nowhere n (bare_args args)
  bare (MethodCall p e n args) = MethodCall nowhere (bare e) n (bare_args args)
  bare (New p n) = New nowhere n

  pub bare_args : Exprs → Exprs
  bare_args NoExpr = NoExpr
  bare_args (Argument e more) = Argument (bare e) (bare_args more)

abbrev mutual
  pub bare_stmt : Stmt → Stmt
  bare_stmt (Block p body end) = Block nowhere (bare_stmts body) nowhere
  bare_stmt (Empty p) = Empty nowhere
  bare_stmt (Local p ty n e) = Local nowhere ty n (bare e)
  bare_stmt (Assign p target value) = Assign nowhere (bare target) (bare value)
  bare_stmt (If p c s) = If nowhere (bare c) (bare_stmt s)
  bare_stmt (IfElse p c s r) = IfElse nowhere (bare c) (bare_stmt s) (bare_stmt r)
  bare_stmt (While p l c s) = While nowhere l (bare c) (bare_stmt s)
  bare_stmt (Do p l s c) = Do nowhere l (bare_stmt s) (bare c)
  bare_stmt (Switch p e groups end) = Switch nowhere (bare e) (bare_groups groups) nowhere
  bare_stmt (Break p l) = Break nowhere l
  bare_stmt (Continue p l) = Continue nowhere l
  bare_stmt (Return p value) = Return nowhere (option_map bare value)
  bare_stmt (Print p e) = Print nowhere (bare e)
  bare_stmt (Eval p e) = Eval nowhere (bare e)

  pub bare_stmts : Stmts → Stmts
  bare_stmts NoStmt = NoStmt
  bare_stmts (Then s more) = Then (bare_stmt s) (bare_stmts more)

  pub bare_groups : Groups → Groups
  bare_groups NoGroup = NoGroup
  bare_groups (Group labels body end more) = Group labels (bare_stmts body) nowhere (bare_groups more)

abbrev pub bare_field : Field → Field
bare_field f = record { place = nowhere; ty = f.ty; name = f.name; value = option_map bare f.value }

abbrev pub bare_param : Param → Param
bare_param p = record { place = nowhere; ty = p.ty; name = p.name }

abbrev pub bare_method : Method → Method
bare_method m = record {
  place = nowhere;
  end = nowhere;
  is_static = m.is_static;
  result = m.result;
  name = m.name;
  params = map bare_param m.params;
  takes_args = m.takes_args;
  body = bare_stmts m.body;
}

abbrev pub bare_class : Class → Class
bare_class c = record {
  place = nowhere;
  name = c.name;
  typestate = c.typestate;
  fields = map bare_field c.fields;
  methods = map bare_method c.methods;
}

abbrev pub bare_enum : Enum → Enum
bare_enum e = record { place = nowhere; name = e.name; constants = e.constants }

abbrev pub bare_decl : Decl → Decl
bare_decl (ClassDecl c) = ClassDecl (bare_class c)
bare_decl (EnumDecl e) = EnumDecl (bare_enum e)

-- files that are the same, places aside, are one file without places
abbrev pub bare_file : File → File
bare_file decls = map bare_decl decls

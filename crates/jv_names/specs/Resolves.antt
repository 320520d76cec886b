-- Which resolved program stands for which sources: names and numbers meet, construct by construct.
use Rattle.std.specs.Prelude.{◌≡◌, ◌≢◌, ℕ, zero, suc, ℤ, Bool, true, false, List, [], ◌∷◌, ◌++◌, length, map, reverse, Option, Some, None}
use Rattle.std.specs.Prelude.{slice_get, codes, ◌≤◌, ◌-◌, ◌+◌, ◌^◌}
use Rattle.std.specs.List.{AllByRecursion}
use Rattle.mg_text.specs.Call.{Name}
use Rattle.mg_text.specs.declared.place.Place.{Place}
use Rattle.ts_tree.specs.Typestate.{Typestate}
use Rattle.ts_tree.specs.declared.parts.TypeName.{TypeName}
use Rattle.ts_tree.specs.declared.parts.TypeName.TheVariants as written
use Rattle.jv_tree.specs.declared.tree.Op.{Op}
use Rattle.jv_tree.specs.declared.tree.Param.{Param}
use Rattle.jv_tree.specs.declared.built_in.TextCall.TheVariants as texts
use Rattle.jv_tree.specs.BuiltIn.{session_method, text_method}
use Rattle.jv_tree.specs.Source
use Rattle.jv_tree.specs.Source.{place_of}
use Rattle.jv_meaning.specs.Program.{classes_of, enums_of, class_named, enum_named, method_named, typestate_named, constant_position}
use Rattle.jv_rules.specs.Program.{Program, is_of_protocol}
use Rattle.jv_rules.specs.Types.{ClassType, TextType}
use Rattle.jv_rules.specs.Scope.{Scope, Declared, Loop, Switch, Target, entered, declare, within, with_params, local_named, own_field}
use Rattle.jv_rules.specs.Scope.{variable_type}
use Rattle.jv_rules.specs.Typing.{type_of}
use Rattle.jv_core.specs.declared.tree.Var.{Var}
use Rattle.jv_core.specs.declared.tree.Var.TheVariants as vars
use Rattle.jv_core.specs.declared.tree.CoreVar.{CoreVar}
use Rattle.jv_tree.specs.declared.built_in.SessionCall.{SessionCall}
use Rattle.jv_core.specs.declared.program.CoreType.{CoreType}
use Rattle.jv_core.specs.declared.program.CoreType.TheVariants as types
use Rattle.jv_core.specs.declared.program.MethodKind.{MethodKind}
use Rattle.jv_core.specs.declared.program.MethodKind.TheVariants as kinds
use Rattle.jv_core.specs.Tree as Core
use Rattle.jv_core.specs.Numbering
use Rattle.jv_core.specs.Numbering.{IsNumbered}
use Rattle.jv_core.specs.Meaning.{type_given}

-- Lists that stand for each other, item by item.
pub data Aligned {A B : Type 0} (Is : A → B → Type 0) : List A → List B → Type 0 where
  none : Aligned Is [] []
  more : {a : A} {b : B} {as' : List A} {bs : List B} → Is a b → Aligned Is as' bs → Aligned Is (a ∷ as') (b ∷ bs)

-- a class with its number
pub record Numbered : Type 0 where
  pub number : ℕ
  pub class : Source.Class

-- a method with its class
pub record Owned : Type 0 where
  pub owner : Numbered
  pub method : Source.Method

abbrev pub numbered_from : ℕ → List Source.Class → List Numbered
numbered_from n [] = []
numbered_from n (c ∷ cs) = record { number = n; class = c } ∷ numbered_from (suc n) cs

abbrev pub methods_in : List Numbered → List Owned
methods_in [] = []
methods_in (k ∷ ks) = map (λ m. record { owner = k; method = m }) k.class.methods ++ methods_in ks

-- The methods of all classes, in file and text order: each has its number by its position.
abbrev pub methods_of : Program → List Owned
methods_of program = methods_in (numbered_from 0 (classes_of program.files))

-- the numbers of the slots in scope and of the loops around, the innermost first, as `locals` and `around` of a scope
pub record Numbers : Type 0 where
  pub slots : List ℕ
  pub loops : List (Option ℕ)

abbrev pub with_slot : ℕ → Numbers → Numbers
with_slot k n = record n { slots = k ∷ n.slots }

abbrev pub in_loop : ℕ → Numbers → Numbers
in_loop k n = record n { loops = Some k ∷ n.loops }

abbrev pub in_switch : Numbers → Numbers
in_switch n = record n { loops = None ∷ n.loops }

-- so many slots in scope, the last innermost
abbrev pub first_slots : (count : ℕ) → List ℕ
first_slots zero = []
first_slots (suc n) = n ∷ first_slots n

-- the innermost local of this name has this slot, and no local nearer by has it
pub data HasSlot (name : Name) : List Declared → List ℕ → ℕ → Type 0 where
  here : {d : Declared} {ds : List Declared} {k : ℕ} {ks : List ℕ} → d.name ≡ name → HasSlot name (d ∷ ds) (k ∷ ks) k
  there : {d : Declared} {ds : List Declared} {j k : ℕ} {ks : List ℕ} → d.name ≢ name → j ≢ k → HasSlot name ds ks k →
      HasSlot name (d ∷ ds) (j ∷ ks) k

-- A `break` with this label, or without one, leads to this loop, and no loop nearer by has its number; without a number it leaves the
-- innermost switch.
pub data BreakLeads : List Target → List (Option ℕ) → Option Name → Option ℕ → Type 0 where
  breaks_loop : {l : Option Name} {k : ℕ} {ts : List Target} {ks : List (Option ℕ)} → BreakLeads (Loop l ∷ ts) (Some k ∷ ks) None (Some k)
  breaks_switch : {ts : List Target} {ks : List (Option ℕ)} → BreakLeads (Switch ∷ ts) (None ∷ ks) None None
  breaks_named : {l : Name} {k : ℕ} {ts : List Target} {ks : List (Option ℕ)} → BreakLeads (Loop (Some l) ∷ ts) (Some k ∷ ks) (Some l)
      (Some k)
  breaks_other : {l : Name} {m : Option Name} {j k : ℕ} {ts : List Target} {ks : List (Option ℕ)} →
      m ≢ Some l → j ≢ k → BreakLeads ts ks (Some l) (Some k) → BreakLeads (Loop m ∷ ts) (Some j ∷ ks) (Some l) (Some k)
  breaks_out : {l : Name} {k : ℕ} {ts : List Target} {ks : List (Option ℕ)} → BreakLeads ts ks (Some l) (Some k) →
      BreakLeads (Switch ∷ ts) (None ∷ ks) (Some l) (Some k)

-- A `continue` with this label, or without one, goes on with this loop, and no loop nearer by has its number.
pub data ContinueLeads : List Target → List (Option ℕ) → Option Name → ℕ → Type 0 where
  goes_on : {l : Option Name} {k : ℕ} {ts : List Target} {ks : List (Option ℕ)} → ContinueLeads (Loop l ∷ ts) (Some k ∷ ks) None k
  goes_on_named : {l : Name} {k : ℕ} {ts : List Target} {ks : List (Option ℕ)} → ContinueLeads (Loop (Some l) ∷ ts) (Some k ∷ ks) (Some l) k
  goes_on_other : {l : Name} {m : Option Name} {j k : ℕ} {ts : List Target} {ks : List (Option ℕ)} →
      m ≢ Some l → j ≢ k → ContinueLeads ts ks (Some l) k → ContinueLeads (Loop m ∷ ts) (Some j ∷ ks) (Some l) k
  goes_on_out : {l : Option Name} {k : ℕ} {ts : List Target} {ks : List (Option ℕ)} → ContinueLeads ts ks l k →
      ContinueLeads (Switch ∷ ts) (None ∷ ks) l k

-- the method of the class `Session` that has this name
abbrev pub IsSession : Name → SessionCall → Type 0
IsSession name call = name ≡ (session_method call).name

module _ (program : Program) (core : Core.Program) where
  -- a number of the table of names stands for this name
  abbrev pub IsNamed : ℕ → Name → Type 0
  IsNamed n name = slice_get core.names n ≡ Some name

  -- the class of this name has this number
  pub record IsClass (name : Name) (c : ℕ) : Type 0 where
    pub class : Source.Class
    pub named : class_named program.files name ≡ Some class
    pub at : slice_get (classes_of program.files) c ≡ Some class

  -- the enum of this name has this number
  pub record IsEnum (name : Name) (e : ℕ) (enum : Source.Enum) : Type 0 where
    pub named : enum_named program.files name ≡ Some enum
    pub at : slice_get (enums_of program.files) e ≡ Some enum

  -- the method f of the class of this name has this number
  pub record IsMethod (class f : Name) (m : ℕ) (method : Source.Method) : Type 0 where
    pub owner : Numbered
    pub owner_named : class_named program.files class ≡ Some owner.class
    pub named : method_named owner.class f ≡ Some method
    pub at : slice_get (methods_of program) m ≡ Some (record { owner = owner; method = method })

  -- a written type, and what it is
  pub data IsType : TypeName → CoreType → Type 0 where
    void_type : IsType written.Void types.Void
    int_type : IsType written.Int types.Int
    boolean_type : IsType written.Boolean types.Boolean
    text_type : IsType written.Text types.Text
    class_type : {name : Name} {c : ℕ} → IsClass name c → IsType (written.Named name) (types.Object c)
    enum_type : {name : Name} {e : ℕ} {k : Source.Enum} → class_named program.files name ≡ None → IsEnum name e k →
        IsType (written.Named name) (types.Enum e)

  -- a label of a switch over this enum
  pub data IsLabel (enum : Source.Enum) : Option Name → Option ℕ → Type 0 where
    default_label : IsLabel enum None None
    case_label : {l : Name} {n : ℕ} → constant_position enum l ≡ Some n → IsLabel enum (Some l) (Some n)

  -- an own field, in code that runs on an object
  pub record IsOwnField (scope : Scope) (f : Name) (k : ℕ) : Type 0 where
    pub field : Source.Field
    pub visible : own_field scope f ≡ Some field
    pub at : slice_get scope.class.fields k ≡ Some field

  -- a variable: a local, or else an own field
  pub data IsVar (scope : Scope) (numbers : Numbers) : Source.Expr → Var → Type 0 where
    a_local : {p : Place} {x : Name} {k : ℕ} → HasSlot x scope.locals numbers.slots k → IsVar scope numbers (Source.Variable p x)
        (vars.Slot k)
    a_field : {p : Place} {x : Name} {k : ℕ} → local_named scope x ≡ None → IsOwnField scope x k → IsVar scope numbers (Source.Variable p x)
        (vars.Field k)
    own : {p q : Place} {x : Name} {k : ℕ} → IsOwnField scope x k → IsVar scope numbers (Source.Member p (Source.This q) x) (vars.Field k)

  -- a variable that is assigned or called on, with its place
  pub record IsPlaced (scope : Scope) (numbers : Numbers) (e : Source.Expr) (v : CoreVar) : Type 0 where
    pub place : v.place ≡ place_of e
    pub is : IsVar scope numbers e v.var

  mutual
    pub data IsExpr (scope : Scope) (numbers : Numbers) : Source.Expr → Core.Expr → Type 0 where
      int : {p : Place} {z : ℤ} → IsExpr scope numbers (Source.Int p z) (Core.Int p z)
      truth : {p : Place} {b : Bool} → IsExpr scope numbers (Source.Truth p b) (Core.Truth p b)
      text : {p : Place} {t : List ℕ} → IsExpr scope numbers (Source.Text p t) (Core.Text p t)
      null : {p : Place} → IsExpr scope numbers (Source.Null p) (Core.Null p)
      variable : {e : Source.Expr} {x : Var} → IsVar scope numbers e x → IsExpr scope numbers e (Core.Variable (place_of e) x)
      -- `E.A`, where no variable is named E
      constant : {p q : Place} {e a : Name} {k : Source.Enum} {n i : ℕ} →
          variable_type scope e ≡ None → IsEnum e n k → constant_position k a ≡ Some i →
          IsExpr scope numbers (Source.Member p (Source.Variable q e) a) (Core.Constant p n i)
      negative : {p : Place} {e : Source.Expr} {e' : Core.Expr} → IsExpr scope numbers e e' → IsExpr scope numbers (Source.Neg p e)
          (Core.Neg p e')
      opposite : {p : Place} {e : Source.Expr} {e' : Core.Expr} → IsExpr scope numbers e e' → IsExpr scope numbers (Source.Not p e)
          (Core.Not p e')
      binary : {p : Place} {o : Op} {l r : Source.Expr} {l' r' : Core.Expr} →
          IsExpr scope numbers l l' → IsExpr scope numbers r r' → IsExpr scope numbers (Source.Binary p o l r) (Core.Binary p o l' r')
      -- `f(..)`, a static method of the own class
      static : {p : Place} {f : Name} {m : ℕ} {method : Source.Method} {args : Source.Exprs} {args' : Core.Exprs} →
          IsMethod scope.class.name f m method → method.is_static ≡ true → IsExprs scope numbers args args' →
          IsExpr scope numbers (Source.Call p f args) (Core.Static p m args')
      -- `C.f(..)`, where no variable is named C
      class_static : {p q : Place} {c f : Name} {m : ℕ} {method : Source.Method} {args : Source.Exprs} {args' : Core.Exprs} →
          variable_type scope c ≡ None → c ≢ codes "Session" → IsMethod c f m method → method.is_static ≡ true →
          IsExprs scope numbers args args' →
          IsExpr scope numbers (Source.MethodCall p (Source.Variable q c) f args) (Core.Static p m args')
      -- `Session.f(..)`, where no variable is named so
      session : {p q : Place} {f : Name} {call : SessionCall} {args : Source.Exprs} {args' : Core.Exprs} →
          variable_type scope (codes "Session") ≡ None → IsSession f call → IsExprs scope numbers args args' →
          IsExpr scope numbers (Source.MethodCall p (Source.Variable q (codes "Session")) f args) (Core.Session p call args')
      -- `f(..)`, a method of the own object
      helper : {p : Place} {f : Name} {m : ℕ} {method : Source.Method} {args : Source.Exprs} {args' : Core.Exprs} →
          IsMethod scope.class.name f m method → method.is_static ≡ false → IsExprs scope numbers args args' →
          IsExpr scope numbers (Source.Call p f args) (Core.Helper p m args')
      -- `this.f(..)`
      this_helper : {p q : Place} {f : Name} {m : ℕ} {method : Source.Method} {args : Source.Exprs} {args' : Core.Exprs} →
          IsMethod scope.class.name f m method → method.is_static ≡ false → IsExprs scope numbers args args' →
          IsExpr scope numbers (Source.MethodCall p (Source.This q) f args) (Core.Helper p m args')
      -- `x.f(..)`, where x is a variable of a class
      protocol : {p : Place} {e : Source.Expr} {x : CoreVar} {c f : Name} {m : ℕ} {method : Source.Method} {args : Source.Exprs}
          {args' : Core.Exprs} →
          IsPlaced scope numbers e x → type_of scope e ≡ Some (ClassType c) → IsMethod c f m method → method.is_static ≡ false →
          IsExprs scope numbers args args' →
          IsExpr scope numbers (Source.MethodCall p e f args) (Core.Protocol p x m args')
      -- `e.equals(a)` and `e.concat(a)`, where e is a text
      equals : {p : Place} {e a : Source.Expr} {e' a' : Core.Expr} → type_of scope e ≡ Some TextType → IsExpr scope numbers e e' →
          IsExpr scope numbers a a' →
          IsExpr scope numbers (Source.MethodCall p e (text_method texts.Equals).name (Source.Argument a Source.NoExpr))
          (Core.Equals p e' a')
      concat : {p : Place} {e a : Source.Expr} {e' a' : Core.Expr} → type_of scope e ≡ Some TextType → IsExpr scope numbers e e' →
          IsExpr scope numbers a a' →
          IsExpr scope numbers (Source.MethodCall p e (text_method texts.Concat).name (Source.Argument a Source.NoExpr))
          (Core.Concat p e' a')
      new : {p : Place} {c : Name} {k : ℕ} → IsClass c k → IsExpr scope numbers (Source.New p c) (Core.New p k)

    pub data IsExprs (scope : Scope) (numbers : Numbers) : Source.Exprs → Core.Exprs → Type 0 where
      no_args : IsExprs scope numbers Source.NoExpr Core.NoExpr
      arg : {e : Source.Expr} {e' : Core.Expr} {rest : Source.Exprs} {rest' : Core.Exprs} →
          IsExpr scope numbers e e' → IsExprs scope numbers rest rest' → IsExprs scope numbers (Source.Argument e rest)
          (Core.Argument e' rest')

  -- slot k of a method is this local
  pub record IsSlot (method : Core.Method) (k : ℕ) (name : Name) (ty : TypeName) : Type 0 where
    pub slot : Core.Slot
    pub at : slice_get method.slots k ≡ Some slot
    pub named : IsNamed slot.name name
    pub type : IsType ty slot.ty

  -- loop k of a method stands here, with these slots in scope, in rising order
  abbrev pub IsLoop : Core.Method → ℕ → Place → List ℕ → Type 0
  IsLoop method k p slots = slice_get method.loops k ≡ Some (record { place = p; scope = reverse slots })

  -- the core's expression gives constants of this enum
  abbrev pub GivesEnum : Core.Method → Core.Expr → ℕ → Type 0
  GivesEnum method e n = (number : ℕ) → slice_get core.methods number ≡ Some method → type_given core number e ≡ Some (types.Enum n)

  -- the value of a `return`
  pub data IsValue (scope : Scope) (numbers : Numbers) : Option Source.Expr → Option Core.Expr → Type 0 where
    without : IsValue scope numbers None None
    with_value : {e : Source.Expr} {e' : Core.Expr} → IsExpr scope numbers e e' → IsValue scope numbers (Some e) (Some e')

  module _ (method : Core.Method) where
    mutual
      pub data IsStmt : Scope → Numbers → Source.Stmt → Core.Stmt → Type 0 where
        block : {sc : Scope} {ns : Numbers} {p end : Place} {body : Source.Stmts} {body' : Core.Stmts} →
            IsStmts sc ns body body' → IsStmt sc ns (Source.Block p body end) (Core.Block p body' end)
        empty : {sc : Scope} {ns : Numbers} {p : Place} → IsStmt sc ns (Source.Empty p) (Core.Empty p)
        -- a declaration that stands alone: nothing is in its scope
        local : {sc : Scope} {ns : Numbers} {p : Place} {ty : TypeName} {x : Name} {k : ℕ} {e : Source.Expr} {e' : Core.Expr} →
            IsExpr sc ns e e' → IsSlot method k x ty → IsStmt sc ns (Source.Local p ty x e) (Core.Local p k e')
        assign : {sc : Scope} {ns : Numbers} {p : Place} {target value : Source.Expr} {x : CoreVar} {value' : Core.Expr} →
            IsPlaced sc ns target x → IsExpr sc ns value value' → IsStmt sc ns (Source.Assign p target value) (Core.Assign p x value')
        if_then : {sc : Scope} {ns : Numbers} {p : Place} {c : Source.Expr} {c' : Core.Expr} {s : Source.Stmt} {s' : Core.Stmt} →
            IsExpr sc ns c c' → IsStmt sc ns s s' → IsStmt sc ns (Source.If p c s) (Core.If p c' s')
        if_else : {sc : Scope} {ns : Numbers} {p : Place} {c : Source.Expr} {c' : Core.Expr} {s r : Source.Stmt} {s' r' : Core.Stmt} →
            IsExpr sc ns c c' → IsStmt sc ns s s' → IsStmt sc ns r r' → IsStmt sc ns (Source.IfElse p c s r) (Core.IfElse p c' s' r')
        while_loop : {sc : Scope} {ns : Numbers} {p : Place} {l : Option Name} {k : ℕ} {c : Source.Expr} {c' : Core.Expr} {s : Source.Stmt}
            {s' : Core.Stmt} →
            IsLoop method k p ns.slots → IsExpr sc ns c c' → IsStmt (within (Loop l) sc) (in_loop k ns) s s' →
            IsStmt sc ns (Source.While p l c s) (Core.While p k c' s')
        do_loop : {sc : Scope} {ns : Numbers} {p : Place} {l : Option Name} {k : ℕ} {c : Source.Expr} {c' : Core.Expr} {s : Source.Stmt}
            {s' : Core.Stmt} →
            IsLoop method k p ns.slots → IsStmt (within (Loop l) sc) (in_loop k ns) s s' → IsExpr sc ns c c' →
            IsStmt sc ns (Source.Do p l s c) (Core.Do p k s' c')
        switch : {sc : Scope} {ns : Numbers} {p end : Place} {e : Source.Expr} {e' : Core.Expr} {of : Name} {n : ℕ} {enum : Source.Enum}
            {gs : Source.Groups} {gs' : Core.Groups} →
            IsExpr sc ns e e' → IsEnum of n enum → GivesEnum method e' n → IsGroups enum (within Switch sc) (in_switch ns) gs gs' →
            IsStmt sc ns (Source.Switch p e gs end) (Core.Switch p e' gs' end)
        break : {sc : Scope} {ns : Numbers} {p : Place} {l : Option Name} {k : Option ℕ} →
            BreakLeads sc.around ns.loops l k → IsStmt sc ns (Source.Break p l) (Core.Break p k)
        continue : {sc : Scope} {ns : Numbers} {p : Place} {l : Option Name} {k : ℕ} →
            ContinueLeads sc.around ns.loops l k → IsStmt sc ns (Source.Continue p l) (Core.Continue p k)
        return : {sc : Scope} {ns : Numbers} {p : Place} {e : Option Source.Expr} {e' : Option Core.Expr} →
            IsValue sc ns e e' → IsStmt sc ns (Source.Return p e) (Core.Return p e')
        print : {sc : Scope} {ns : Numbers} {p : Place} {e : Source.Expr} {e' : Core.Expr} → IsExpr sc ns e e' →
            IsStmt sc ns (Source.Print p e) (Core.Print p e')
        eval : {sc : Scope} {ns : Numbers} {p : Place} {e : Source.Expr} {e' : Core.Expr} → IsExpr sc ns e e' →
            IsStmt sc ns (Source.Eval p e) (Core.Eval p e')

      pub data IsStmts : Scope → Numbers → Source.Stmts → Core.Stmts → Type 0 where
        no_stmt : {sc : Scope} {ns : Numbers} → IsStmts sc ns Source.NoStmt Core.NoStmt
        -- a declaration, with the statements in its scope
        declaration : {sc : Scope} {ns : Numbers} {p : Place} {ty : TypeName} {x : Name} {k : ℕ} {e : Source.Expr} {e' : Core.Expr}
            {rest : Source.Stmts} {rest' : Core.Stmts} →
            IsExpr sc ns e e' → IsSlot method k x ty → IsStmts (declare x ty sc) (with_slot k ns) rest rest' →
            IsStmts sc ns (Source.Then (Source.Local p ty x e) rest) (Core.Declare p k e' rest')
        -- a statement that is no declaration
        then : {sc : Scope} {ns : Numbers} {s : Source.Stmt} {s' : Core.Stmt} {rest : Source.Stmts} {rest' : Core.Stmts} →
            ((p : Place) (ty : TypeName) (x : Name) (e : Source.Expr) → s ≢ Source.Local p ty x e) →
            IsStmt sc ns s s' → IsStmts sc ns rest rest' → IsStmts sc ns (Source.Then s rest) (Core.Then s' rest')

      -- the groups of a switch over an enum; a local's scope ends with its group
      pub data IsGroups : Source.Enum → Scope → Numbers → Source.Groups → Core.Groups → Type 0 where
        no_group : {enum : Source.Enum} {sc : Scope} {ns : Numbers} → IsGroups enum sc ns Source.NoGroup Core.NoGroup
        group : {enum : Source.Enum} {sc : Scope} {ns : Numbers} {labels : List (Option Name)} {labels' : List (Option ℕ)}
            {body : Source.Stmts} {body' : Core.Stmts}
            {end : Place} {gs : Source.Groups} {gs' : Core.Groups} →
            Aligned (IsLabel enum) labels labels' → IsStmts sc ns body body' → IsGroups enum sc ns gs gs' →
            IsGroups enum sc ns (Source.Group labels body end gs) (Core.Group labels' body' end gs')

  -- what a field begins with
  pub data IsInitial : Option Source.Expr → Option Core.Expr → Type 0 where
    unwritten : IsInitial None None
    initial_int : {p : Place} {z : ℤ} → IsInitial (Some (Source.Int p z)) (Some (Core.Int p z))
    initial_truth : {p : Place} {b : Bool} → IsInitial (Some (Source.Truth p b)) (Some (Core.Truth p b))
    initial_text : {p : Place} {t : List ℕ} → IsInitial (Some (Source.Text p t)) (Some (Core.Text p t))
    initial_null : {p : Place} → IsInitial (Some (Source.Null p)) (Some (Core.Null p))
    initial_constant : {p q : Place} {e a : Name} {k : Source.Enum} {n i : ℕ} → IsEnum e n k → constant_position k a ≡ Some i →
        IsInitial (Some (Source.Member p (Source.Variable q e) a)) (Some (Core.Constant p n i))

  pub record FieldIs (f : Source.Field) (k : Core.Field) : Type 0 where
    pub name : IsNamed k.name f.name
    pub type : IsType f.ty k.ty
    pub value : IsInitial f.value k.value

  -- the number of the typestate that a class names, the first of its name
  pub data IsProtocol : Option Name → Option ℕ → Type 0 where
    no_protocol : IsProtocol None None
    protocol_named : {name : Name} {t : ℕ} {typestate : Typestate} → slice_get program.typestates t ≡ Some typestate →
        typestate_named program.typestates name ≡ Some typestate → IsProtocol (Some name) (Some t)

  pub record ClassIs (c : Source.Class) (k : Core.Class) : Type 0 where
    pub place : k.place ≡ c.place
    pub name : IsNamed k.name c.name
    pub typestate : IsProtocol c.typestate k.typestate
    pub fields : Aligned FieldIs c.fields k.fields

  pub record EnumIs (e : Source.Enum) (k : Core.Enum) : Type 0 where
    pub name : IsNamed k.name e.name
    pub constants : Aligned (λ name n. IsNamed n name) e.constants k.constants

  -- what a method is
  abbrev pub kind_of : Source.Class → Source.Method → MethodKind
  kind_of c m = elim m.is_static [
    | true ↦ elim m.takes_args [ true ↦ kinds.Main | false ↦ kinds.Static ]
    | false ↦ elim (is_of_protocol program c m.name) [ true ↦ kinds.Protocol | false ↦ kinds.Helper ]
  ]

  -- the first slots are the parameters, numbered from 0
  pub data AreParams (method : Core.Method) : ℕ → List Param → Type 0 where
    no_param : {n : ℕ} → AreParams method n []
    param : {n : ℕ} {p : Param} {ps : List Param} → IsSlot method n p.name p.ty → AreParams method (suc n) ps → AreParams method n (p ∷ ps)

  pub record MethodIs (o : Owned) (k : Core.Method) : Type 0 where
    pub place : k.place ≡ o.method.place
    pub end : k.end ≡ o.method.end
    pub class : k.class ≡ o.owner.number
    pub name : IsNamed k.name o.method.name
    pub kind : k.kind ≡ kind_of o.owner.class o.method
    pub result : IsType o.method.result k.result
    pub count : k.params ≡ length o.method.params
    pub params : AreParams k 0 o.method.params
    pub body : IsStmts k (with_params o.method.params (entered program o.owner.class o.method))
        (record { slots = first_slots k.params; loops = [] }) o.method.body k.body
    pub numbered : IsNumbered k

  -- a class of the core has the methods that say so, in rising order
  abbrev pub HasItsMethods : (class : ℕ) → Core.Class → Type 0
  HasItsMethods c k = k.methods ≡ Numbering.methods_of c 0 core.methods

  -- a method's slots and the fields of its class are few enough
  abbrev pub HasFewSlots : Core.Method → Type 0
  HasFewSlots m = (k : Core.Class) → slice_get core.classes m.class ≡ Some k → length m.slots + length k.fields ≤ 2 ^ 32 - 1

  -- the bounds of cores, which no source fault gives
  pub record AreBounded : Type 0 where
    pub enums : AllByRecursion (λ (e : Core.Enum). length e.constants ≤ 2 ^ 31) core.enums
    pub methods : AllByRecursion HasFewSlots core.methods

  -- The core stands for the program: classes, enums and methods in file and text order, each by its parts.
  pub record Resolves : Type 0 where
    pub classes : Aligned ClassIs (classes_of program.files) core.classes
    pub class_methods : (c : ℕ) (k : Core.Class) → slice_get core.classes c ≡ Some k → HasItsMethods c k
    pub enums : Aligned EnumIs (enums_of program.files) core.enums
    pub methods : Aligned MethodIs (methods_of program) core.methods
    pub typestates : core.typestates ≡ program.typestates
    pub bounded : AreBounded

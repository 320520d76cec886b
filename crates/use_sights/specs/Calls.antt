-- Where a method calls protocol methods and reads variables, reached or not, in the order of the text: a call before those among its
-- arguments, since its variable is named before them.
use Rattle.std.specs.Prelude.{ℕ, suc, List, [], ◌∷◌, ◌++◌, Some, None}
use Rattle.std.specs.List.{flat_map}
use Rattle.mg_text.specs.declared.place.Place.{Place}
use Rattle.jv_core.specs.Tree.{Expr, Int, Truth, Text, Null, Variable, Constant, Neg, Not, Binary, Protocol, Helper, Static, Equals, Concat}
use Rattle.jv_core.specs.Tree.{Session, New}
use Rattle.jv_core.specs.Tree.{Exprs, NoExpr, Argument}
use Rattle.jv_core.specs.Tree.{Stmt, Block, Empty, Local, Assign, If, IfElse, While, Do, Switch, Break, Continue, Return, Print, Eval}
use Rattle.jv_core.specs.Tree.{Stmts, NoStmt, Then, Declare, Groups, NoGroup, Group, Method, Program}
use Rattle.use_sights.specs.declared.site.Site.{Site}

-- a variable is read, or a protocol method is called on one
pub data Use : Type 0 where
  Reads : Place → Use
  Calls : Site → Use

-- in the method of this number
module _ (n : ℕ) where
  abbrev mutual
    pub uses_in : Expr → List Use
    uses_in (Int q z) = []
    uses_in (Truth q b) = []
    uses_in (Text q s) = []
    uses_in (Null q) = []
    uses_in (Variable q x) = Reads q ∷ []
    uses_in (Constant q e k) = []
    uses_in (Neg q a) = uses_in a
    uses_in (Not q a) = uses_in a
    uses_in (Binary q op l r) = uses_in l ++ uses_in r
    uses_in (Protocol q x k args) = Calls (record { place = x.place; within = n; variable = x.var; method = k }) ∷ uses_in_args args
    uses_in (Helper q k args) = uses_in_args args
    uses_in (Static q k args) = uses_in_args args
    uses_in (Equals q l r) = uses_in l ++ uses_in r
    uses_in (Concat q l r) = uses_in l ++ uses_in r
    uses_in (Session q call args) = uses_in_args args
    uses_in (New q c) = []

    pub uses_in_args : Exprs → List Use
    uses_in_args NoExpr = []
    uses_in_args (Argument e more) = uses_in e ++ uses_in_args more

  abbrev mutual
    pub uses_of : Stmt → List Use
    uses_of (Block q body end) = uses_of_all body
    uses_of (Empty q) = []
    uses_of (Local q k e) = uses_in e
    uses_of (Assign q x e) = uses_in e
    uses_of (If q c s) = uses_in c ++ uses_of s
    uses_of (IfElse q c s r) = uses_in c ++ (uses_of s ++ uses_of r)
    uses_of (While q l c s) = uses_in c ++ uses_of s
    uses_of (Do q l s c) = uses_of s ++ uses_in c
    uses_of (Switch q e groups end) = uses_in e ++ uses_of_groups groups
    uses_of (Break q l) = []
    uses_of (Continue q l) = []
    uses_of (Return q None) = []
    uses_of (Return q (Some e)) = uses_in e
    uses_of (Print q e) = uses_in e
    uses_of (Eval q e) = uses_in e

    pub uses_of_all : Stmts → List Use
    uses_of_all NoStmt = []
    uses_of_all (Then s more) = uses_of s ++ uses_of_all more
    uses_of_all (Declare q k e more) = uses_in e ++ uses_of_all more

    pub uses_of_groups : Groups → List Use
    uses_of_groups NoGroup = []
    uses_of_groups (Group labels body end more) = uses_of_all body ++ uses_of_groups more

-- of the methods from this number on, in file and text order
abbrev pub uses_from : (number : ℕ) → List Method → List Use
uses_from n [] = []
uses_from n (m ∷ ms) = uses_of_all n m.body ++ uses_from (suc n) ms

-- in a program. Fields begin with constants, so a call or a read stands nowhere else.
abbrev pub all_uses : Program → List Use
all_uses p = uses_from 0 p.methods

abbrev pub site_in : Use → List Site
site_in (Reads q) = []
site_in (Calls s) = s ∷ []

-- All calls of protocol methods in a program. The classes that a protocol stands for make none.
abbrev pub all_sites : Program → List Site
all_sites p = flat_map site_in (all_uses p)

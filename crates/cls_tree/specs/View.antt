-- What the program's class says.
use Rattle.std.specs.Prelude.{List, map}
use Rattle.cls_tree.specs.declared.class.Code.{Code as KeptCode}
use Rattle.cls_tree.specs.declared.class.Attr.{Attr as KeptAttr}
use Rattle.cls_tree.specs.declared.class.Attr.TheOpen.{Attr-F, Code-F}
use Rattle.cls_tree.specs.declared.class.Attr.TheOpen as layers
use Rattle.cls_tree.specs.declared.class.Attr.TheFolds.{fold-Attr}
use Rattle.cls_tree.specs.declared.class.Member.{Member as KeptMember}
use Rattle.cls_tree.specs.declared.class.Class.{Class as KeptClass}
use Rattle.cls_tree.specs.declared.instr.Args.{Args as KeptArgs}
use Rattle.cls_tree.specs.declared.instr.Args.TheVariants as kept
use Rattle.cls_tree.specs.declared.instr.Instr.{Instr as KeptInstr}
use Rattle.cls_tree.specs.Tree.{Args, None, Number, Local, Pool, Jump, Add, Table, Instr, Inner, Unread, Misplaced, Code, Attr, Coded}
use Rattle.cls_tree.specs.Tree.{Other, Member, Class}

abbrev pub args_of : KeptArgs → Args
args_of kept.None = None
args_of (kept.Number n) = Number n
args_of (kept.Local n) = Local n
args_of (kept.Pool n) = Pool n
args_of (kept.Jump n) = Jump n
args_of (kept.Add local n) = Add local n
args_of (kept.Table default low offsets) = Table default low offsets.items

abbrev pub instr_of : KeptInstr → Instr
instr_of i = record { op = i.op; args = args_of i.args }

abbrev pub instrs_of : List KeptInstr → List Instr
instrs_of is = map instr_of is

-- an attribute says one thing at a member or a class, and another in a code
pub record Said : Type 0 where
  pub outside : Attr
  pub inside : Inner

abbrev pub code_layer : Code-F Said Code → Code
code_layer c =
    record {
      name = c.name;
      max_stack = c.max_stack;
      max_locals = c.max_locals;
      instrs = instrs_of c.instrs.items;
      attributes = map (λ s. s.inside) c.attributes.items;
    }

abbrev pub layer : Attr-F Said Code → Said
layer (layers.Code c) = record { outside = Coded c; inside = Misplaced }
layer (layers.Other name bytes) = record { outside = Other name bytes; inside = Unread name bytes }

unfoldable pub said_by : KeptAttr → Said
said_by = fold-Attr Said Code layer code_layer

abbrev pub attr_of : KeptAttr → Attr
attr_of a = (said_by a).outside

abbrev pub code_of : KeptCode → Code
code_of c =
    record {
      name = c.name;
      max_stack = c.max_stack;
      max_locals = c.max_locals;
      instrs = instrs_of c.instrs.items;
      attributes = map (λ a. (said_by a).inside) c.attributes.items;
    }

abbrev pub inner_of : KeptAttr → Inner
inner_of a = (said_by a).inside

abbrev pub member_of : KeptMember → Member
member_of m = record { access = m.access; name = m.name; descriptor = m.descriptor; attributes = map attr_of m.attributes.items }

abbrev pub class_of : KeptClass → Class
class_of c =
    record {
      pool = c.pool.items;
      access = c.access;
      this_class = c.this_class;
      super_class = c.super_class;
      fields = map member_of c.fields.items;
      methods = map member_of c.methods.items;
      attributes = map attr_of c.attributes.items;
    }

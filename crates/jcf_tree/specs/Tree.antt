-- What the program's class says: its parts without the room that its lists keep.
use Rattle.std.specs.Prelude.{ℕ, List, Option, option_map, map}
use Rattle.jcf_tree.specs.declared.class.Const.{Const}
use Rattle.jcf_tree.specs.declared.class.Handler.{Handler}
use Rattle.jcf_tree.specs.declared.class.Line.{Line}
use Rattle.jcf_tree.specs.declared.class.Variable.{Variable}
use Rattle.jcf_tree.specs.declared.class.Element.{Element}
use Rattle.jcf_tree.specs.declared.class.Code.{Code as KeptCode}
use Rattle.jcf_tree.specs.declared.class.Annotation.{Annotation as KeptAnnotation}
use Rattle.jcf_tree.specs.declared.class.Member.{Member as KeptMember}
use Rattle.jcf_tree.specs.declared.class.Class.{Class as KeptClass}

pub record Code : Type 0 where
  pub max_stack : ℕ
  pub max_locals : ℕ
  pub bytes : List ℕ
  pub handlers : List Handler
  pub lines : List Line
  pub variables : List Variable

pub record Member : Type 0 where
  pub access : ℕ
  pub name : ℕ
  pub descriptor : ℕ
  pub code : Option Code

pub record Annotation : Type 0 where
  pub type_descriptor : ℕ
  pub elements : List Element

pub record Class : Type 0 where
  pub constants : List Const
  pub access : ℕ
  pub this_class : ℕ
  pub super_class : ℕ
  pub interfaces : List ℕ
  pub fields : List Member
  pub methods : List Member
  pub source_file : ℕ
  pub annotations : List Annotation

abbrev pub code_of : KeptCode → Code
code_of c =
    record {
      max_stack = c.max_stack;
      max_locals = c.max_locals;
      bytes = c.bytes;
      handlers = c.handlers.items;
      lines = c.lines.items;
      variables = c.variables.items;
    }

abbrev pub member_of : KeptMember → Member
member_of m = record { access = m.access; name = m.name; descriptor = m.descriptor; code = option_map code_of m.code }

abbrev pub annotation_of : KeptAnnotation → Annotation
annotation_of a = record { type_descriptor = a.type_descriptor; elements = a.elements.items }

abbrev pub class_of : KeptClass → Class
class_of c =
    record {
      constants = c.constants.items;
      access = c.access;
      this_class = c.this_class;
      super_class = c.super_class;
      interfaces = c.interfaces.items;
      fields = map member_of c.fields.items;
      methods = map member_of c.methods.items;
      source_file = c.source_file;
      annotations = map annotation_of c.annotations.items;
    }

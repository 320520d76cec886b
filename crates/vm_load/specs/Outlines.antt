-- What the program's tables of classes and members say.
use Rattle.std.specs.Prelude.{List, map, Option, Some, None, Bool, ◌||◌}
use Rattle.std.specs.List.{list_any}
use Rattle.std.specs.Str.{bytes_eq}
use Rattle.vm_model.specs.Linked.{is_built_in}
use Rattle.vm_model.specs.declared.types.FieldType.{FieldType}
use Rattle.vm_model.specs.declared.types.FieldType.TheVariants as types
use Rattle.mg_text.specs.Call.{Name}
use Rattle.cls_tree.specs.Tree.{Code, Attr, Coded}
use Rattle.vm_model.specs.Links.{Outline}
use Rattle.vm_load.specs.Declaring.{declared_of}
use Rattle.vm_load.specs.declared.outline.Outline.{Outline as KeptOutline}

abbrev pub outline_of : KeptOutline → Outline
outline_of o = record {
  name = o.name.now;
  fields = map declared_of o.fields.items;
  own = map declared_of o.own.all.items;
  methods =
      map declared_of o.methods.all.items;
}

abbrev pub outlines_of : List KeptOutline → List Outline
outlines_of os = map outline_of os

abbrev pub names_of : List Outline → List Name
names_of os = map (λ o. o.name) os

-- the class that a type of the program names
abbrev pub class_named : FieldType → Option Name
class_named (types.Named name) = Some name.now
class_named _ = None

-- the code that an attribute is
abbrev pub code_in : Attr → Option Code
code_in (Coded c) = Some c
code_in _ = None

-- a name of a class before, or of a built-in class
abbrev pub is_taken : List Name → Name → Bool
is_taken before name = is_built_in name || list_any (bytes_eq name) before

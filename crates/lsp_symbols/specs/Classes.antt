-- What a Java source declares: of a class its fields, and then its methods.
use Rattle.std.specs.Prelude.{List, [], ◌∷◌, ◌++◌, Some, None, map}
use Rattle.std.specs.List.{flat_map}
use Rattle.mg_text.specs.Call.{Name}
use Rattle.jv_tree.specs.Source.{Field, Method, Class, Decl, ClassDecl, EnumDecl, File}
use Rattle.lsp_messages.specs.declared.outgoing.SymbolKind.TheVariants as kinds
use Rattle.lsp_symbols.specs.declared.things.Declared.{Declared}
use Rattle.lsp_symbols.specs.Named.{thing}

abbrev pub field_declared : (class : Name) → Field → Declared
field_declared class f = thing f.name kinds.Field f.place (Some class)

abbrev pub method_declared : (class : Name) → Method → Declared
method_declared class m = thing m.name kinds.Method m.place (Some class)

abbrev pub class_declared : Class → List Declared
class_declared c =
    thing c.name kinds.Class c.place None ∷ (map (field_declared c.name) c.fields ++ map (method_declared c.name) c.methods)

abbrev pub decl_declared : Decl → List Declared
decl_declared (ClassDecl c) = class_declared c
decl_declared (EnumDecl e) = thing e.name kinds.Enum e.place None ∷ []

abbrev pub classes_in : File → List Declared
classes_in = flat_map decl_declared

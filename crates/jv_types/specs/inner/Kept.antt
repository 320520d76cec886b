-- The classes and enums of files, as they are kept.
use Rattle.std.specs.Prelude.{◌≡◌, List, [], ◌∷◌, map, Option, option_and_then, option_map, flat_map}
use Rattle.mg_text.specs.Call.{Name}
use Rattle.ts_tree.specs.Typestate.{Typestate}
use Rattle.jv_tree.specs.declared.tree.Class.{Class}
use Rattle.jv_tree.specs.declared.tree.Enum.{Enum}
use Rattle.jv_tree.specs.declared.tree.Decl.{Decl}
use Rattle.jv_tree.specs.declared.tree.Decl.TheVariants as decls
use Rattle.jv_tree.specs.declared.tree.File.{File}
use Rattle.jv_meaning.specs.Program.{typestate_named}
use Rattle.jv_types.specs.declared.entry.ClassEntry.{ClassEntry}
use Rattle.jv_types.specs.declared.entry.EnumEntry.{EnumEntry}
use Rattle.jv_types.specs.declared.protocols.Protocol.{Protocol}
use Rattle.jv_types.specs.inner.Numbers.{numbers_in, numbers_from, classes_seen}

abbrev pub class_kept : Decl → List Class
class_kept (decls.Class c) = c ∷ []
class_kept (decls.Enum e) = []

abbrev pub enum_kept : Decl → List Enum
enum_kept (decls.Class c) = []
enum_kept (decls.Enum e) = e ∷ []

abbrev pub kept_classes : List File → List Class
kept_classes files = flat_map (λ f. flat_map class_kept f.decls.items) files

abbrev pub kept_enums : List File → List Enum
kept_enums files = flat_map (λ f. flat_map enum_kept f.decls.items) files

-- the declarations of files, in their order
abbrev pub kept_decls : List File → List Decl
kept_decls files = flat_map (λ f. f.decls.items) files

abbrev pub typestate_in : ClassEntry → Option Typestate
typestate_in e = option_map (λ t. t.typestate.now) e.typestate

-- the typestate that a class names
abbrev pub followed : List Typestate → ClassEntry → Option Typestate
followed typestates e = option_and_then (typestate_named typestates) e.class.now.typestate

-- the tables have all typestates, and all classes and enums of files, and their names; classes and methods are numbered
pub record IsTabled (files : List File) (typestates : List Typestate) (protocols : List Protocol) (typestate_names : List Name)
    (classes : List ClassEntry) (class_names : List Name)
    (enums : List EnumEntry) (enum_names : List Name) : Type 0 where
  pub all_typestates : map (λ p. p.of.now) protocols ≡ typestates
  pub typestates_named : typestate_names ≡ map (λ t. t.name) typestates
  pub all_classes : map (λ e. e.class.now) classes ≡ kept_classes files
  pub classes_named : class_names ≡ map (λ c. c.name) (kept_classes files)
  pub follow : map typestate_in classes ≡ map (followed typestates) classes
  pub numbered : map numbers_in classes ≡ numbers_from typestate_names 0 0 (classes_seen classes)
  pub all_enums : map (λ e. e.of.now) enums ≡ kept_enums files
  pub enums_named : enum_names ≡ map (λ e. e.name) (kept_enums files)

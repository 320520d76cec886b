-- What the entries of a program are found to be.
use Rattle.std.proofs.Common.{◌≡◌, ℕ, zero, suc, ◌<◌, List, [], ◌∷◌, ◌++◌, map, length, get_or, Option, Some, None, refl, sym, ap, ◌∙◌}
use Rattle.std.proofs.Common.{arith, position}
use Rattle.std.specs.List.{find}
use Rattle.std.specs.Str.{bytes_eq}
use Rattle.mg_text.specs.Call.{Name}
use Rattle.std.specs.Prelude.{flat_map, option_and_then}
use Rattle.std.proofs.lemmas.List.{map-append}
use Rattle.ts_tree.specs.Typestate.{Typestate}
use Rattle.jv_tree.specs.declared.tree.Decl.{Decl}
use Rattle.jv_tree.specs.declared.tree.Decl.TheVariants as decls
use Rattle.jv_tree.specs.declared.tree.File.{File}
use Rattle.jv_tree.specs.View.{class_of, enum_of, decl_of, file_of}
use Rattle.jv_meaning.specs.Program.{class_in as class_in_decl, enum_in as enum_in_decl, classes_of, enums_of, class_named, enum_named}
use Rattle.jv_meaning.specs.Program.{typestate_named}
use Rattle.jv_types.specs.View.{program_of}
use Rattle.jv_types.specs.declared.entry.ClassEntry.{ClassEntry}
use Rattle.jv_types.specs.declared.entry.EnumEntry.{EnumEntry}
use Rattle.jv_types.specs.declared.protocols.Protocol.{Protocol}
use Rattle.jv_types.specs.inner.Kept.{class_kept, enum_kept, kept_classes, kept_enums, typestate_in, followed, IsTabled}
use Rattle.jv_types.specs.inner.Tabled.{class_in, enum_in, IsEntryOf, AreEntriesOf}
use Rattle.jv_types.proofs.Finding.{found_at, found_within, found_none}

pub map-map : {X Y Z : Type 0} (f : X → Y) (g : Y → Z) (xs : List X) → map g (map f xs) ≡ map (λ x. g (f x)) xs
map-map f g [] = refl
map-map f g (x ∷ xs) = ap (λ zs. g (f x) ∷ zs) (map-map f g xs)

-- equal images agree at each place
pub same_at : {X Y : Type 0} (f g : X → Y) (xs : List X) → map f xs ≡ map g xs → (i : ℕ) (x : X) → i < length xs → x ≡ get_or xs i x →
    f x ≡ g x
same_at f g [] e i x within is = let no : ⊥ = omega arith in absurd no
same_at f g (y ∷ xs) e zero x within is = ap f is ∙ first ∙ sym (ap g is)
  where
    first : f y ≡ g y
    first = cc
same_at f g (y ∷ xs) e (suc i) x within is = same_at f g xs rest i x (omega arith) is
  where
    rest : map f xs ≡ map g xs
    rest = cc

module _ {X Y : Type 0} (name : Name) (names : List Name) (xs : List X) (view : X → Y) (key : Y → Name) (ys : List Y)
    (all : map view xs ≡ ys) (named : names ≡ map key ys) where
  keys : map (λ x. key (view x)) xs ≡ names
  keys = sym (map-map view key xs) ∙ ap (map key) all ∙ sym named

  module _ (i : ℕ) (at : Some i ≡ position (bytes_eq name) names) where
    placed : position (bytes_eq name) (map (λ x. key (view x)) xs) ≡ Some i
    placed = ap (position (bytes_eq name)) keys ∙ sym at

    pub within_entries : i < length xs
    within_entries = found_within name (λ x. key (view x)) view key (λ x. refl) xs i placed

    pub found_entry : (zs : List X) → zs ≡ xs → (x : X) → x ≡ get_or zs i x → Some (view x) ≡ find (λ y. bytes_eq (key y) name) ys
    found_entry zs same x is = found_at name (λ z. key (view z)) view key (λ z. refl) xs zs same i x placed is ∙
        ap (find (λ y. bytes_eq (key y) name)) all

  pub no_entry : None ≡ position (bytes_eq name) names → None ≡ find (λ y. bytes_eq (key y) name) ys
  no_entry none = found_none name (λ z. key (view z)) view key (λ z. refl) xs (ap (position (bytes_eq name)) keys ∙ sym none) ∙
      ap (find (λ y. bytes_eq (key y) name)) all

decl_classes : (ds : List Decl) → map class_of (flat_map class_kept ds) ≡ flat_map class_in_decl (map decl_of ds)
decl_classes [] = refl
decl_classes (decls.Class c ∷ ds) = ap (λ cs. class_of c ∷ cs) (decl_classes ds)
decl_classes (decls.Enum e ∷ ds) = decl_classes ds

decl_enums : (ds : List Decl) → map enum_of (flat_map enum_kept ds) ≡ flat_map enum_in_decl (map decl_of ds)
decl_enums [] = refl
decl_enums (decls.Class c ∷ ds) = decl_enums ds
decl_enums (decls.Enum e ∷ ds) = ap (λ es. enum_of e ∷ es) (decl_enums ds)

-- the classes that are kept are those of the files
pub classes_kept : (files : List File) → map class_of (kept_classes files) ≡ classes_of (map file_of files)
classes_kept [] = refl
classes_kept (f ∷ fs) =
    map-append class_of (flat_map class_kept f.decls.items) (kept_classes fs)
    ∙ ap (λ cs. cs ++ map class_of (kept_classes fs)) (decl_classes f.decls.items)
    ∙ ap (λ cs. flat_map class_in_decl (map decl_of f.decls.items) ++ cs) (classes_kept fs)

pub enums_kept : (files : List File) → map enum_of (kept_enums files) ≡ enums_of (map file_of files)
enums_kept [] = refl
enums_kept (f ∷ fs) =
    map-append enum_of (flat_map enum_kept f.decls.items) (kept_enums fs)
    ∙ ap (λ es. es ++ map enum_of (kept_enums fs)) (decl_enums f.decls.items)
    ∙ ap (λ es. flat_map enum_in_decl (map decl_of f.decls.items) ++ es) (enums_kept fs)

module _ {files : List File} {typestates : List Typestate} {protocols : List Protocol} {typestate_names : List Name}
    {classes : List ClassEntry} {class_names : List Name} {enums : List EnumEntry} {enum_names : List Name}
    (t : IsTabled files typestates protocols typestate_names classes class_names enums enum_names) where
  pub all_classes_in : map class_in classes ≡ classes_of (map file_of files)
  all_classes_in = sym (map-map (λ e. e.class.now) class_of classes) ∙ ap (map class_of) t.all_classes ∙ classes_kept files

  pub all_enums_in : map enum_in enums ≡ enums_of (map file_of files)
  all_enums_in = sym (map-map (λ e. e.of.now) enum_of enums) ∙ ap (map enum_of) t.all_enums ∙ enums_kept files

  pub classes_are_named : class_names ≡ map (λ c. c.name) (classes_of (map file_of files))
  classes_are_named = t.classes_named ∙ sym (map-map class_of (λ c. c.name) (kept_classes files)) ∙ ap (map (λ c. c.name))
      (classes_kept files)

  pub enums_are_named : enum_names ≡ map (λ e. e.name) (enums_of (map file_of files))
  enums_are_named = t.enums_named ∙ sym (map-map enum_of (λ e. e.name) (kept_enums files)) ∙ ap (map (λ e. e.name)) (enums_kept files)

  -- the names of the entries
  pub class_keys : class_names ≡ map (λ e. e.class.now.name) classes
  class_keys = t.classes_named ∙ ap (map (λ c. c.name)) (sym t.all_classes) ∙ map-map (λ e. e.class.now) (λ c. c.name) classes

  pub enum_keys : enum_names ≡ map (λ e. e.of.now.name) enums
  enum_keys = t.enums_named ∙ ap (map (λ e. e.name)) (sym t.all_enums) ∙ map-map (λ e. e.of.now) (λ e. e.name) enums

  pub are_entries : AreEntriesOf (program_of files typestates) classes
  are_entries = record { follow = t.follow }

  pub entry_at : (i : ℕ) (e : ClassEntry) → i < length classes → e ≡ get_or classes i e → IsEntryOf (program_of files typestates) e
  entry_at i e within is = record { follows = same_at typestate_in (followed typestates) classes t.follow i e within is }

  module _ (name : Name) (i : ℕ) where
    pub protocol_within : Some i ≡ position (bytes_eq name) typestate_names → i < length protocols
    protocol_within at = within_entries name typestate_names protocols (λ p. p.of.now) (λ x. x.name) typestates t.all_typestates
        t.typestates_named i at

    pub class_within : Some i ≡ position (bytes_eq name) class_names → i < length classes
    class_within at = within_entries name class_names classes class_in (λ c. c.name) (classes_of (map file_of files)) all_classes_in
        classes_are_named i at

    pub enum_within : Some i ≡ position (bytes_eq name) enum_names → i < length enums
    enum_within at = within_entries name enum_names enums enum_in (λ e. e.name) (enums_of (map file_of files)) all_enums_in enums_are_named
        i at

    pub class_found : Some i ≡ position (bytes_eq name) class_names → (x : ClassEntry) → x ≡ get_or classes i x →
        Some (class_in x) ≡ class_named (map file_of files) name
    class_found at x is =
        found_entry name class_names classes class_in (λ c. c.name) (classes_of (map file_of files)) all_classes_in classes_are_named i at
        classes refl x is

    pub enum_found : Some i ≡ position (bytes_eq name) enum_names → (x : EnumEntry) → x ≡ get_or enums i x →
        Some (enum_in x) ≡ enum_named (map file_of files) name
    enum_found at x is =
        found_entry name enum_names enums enum_in (λ e. e.name) (enums_of (map file_of files)) all_enums_in enums_are_named i at enums refl
        x is

  pub class_missing : (name : Name) → None ≡ position (bytes_eq name) class_names → None ≡ class_named (map file_of files) name
  class_missing name none = no_entry name class_names classes class_in (λ c. c.name) (classes_of (map file_of files)) all_classes_in
      classes_are_named none

  pub enum_missing : (name : Name) → None ≡ position (bytes_eq name) enum_names → None ≡ enum_named (map file_of files) name
  enum_missing name none = no_entry name enum_names enums enum_in (λ e. e.name) (enums_of (map file_of files)) all_enums_in enums_are_named
      none

  -- the typestate that is named, by a text that is its name
  module _ (o : Option Name) (n : Name) (named : o ≡ Some n) (text : Name) (same : text ≡ n) where
    follow_named : typestate_named typestates text ≡ option_and_then (typestate_named typestates) o
    follow_named = ap (typestate_named typestates) same ∙ ap (option_and_then (typestate_named typestates)) (sym named)

    pub protocol_found : (i : ℕ) → Some i ≡ position (bytes_eq text) typestate_names → (x : Protocol) → x ≡ get_or protocols i x →
        Some x.of.now ≡ option_and_then (typestate_named typestates) o
    protocol_found i at x is =
        found_entry text typestate_names protocols (λ p. p.of.now) (λ y. y.name) typestates t.all_typestates t.typestates_named i at
        protocols refl x is ∙ follow_named

    pub protocol_missing : None ≡ position (bytes_eq text) typestate_names → None ≡ option_and_then (typestate_named typestates) o
    protocol_missing none = no_entry text typestate_names protocols (λ p. p.of.now) (λ y. y.name) typestates t.all_typestates
        t.typestates_named none ∙ follow_named

pub ruleset within = (class_within, enum_within, protocol_within)

-- The enums of a core, and the declarations of classes and enums.
use Rattle.std.proofs.Common.{◌≡◌, ⊎_elim, ℕ, ◌<◌, ◌≤◌, ◌^◌, List, [], ◌∷◌, length, Contains, flat_map, refl, sym, ap, ◌∙◌, subst}
use Rattle.std.specs.List.{AllByRecursion}
use Rattle.std.proofs.lemmas.Option.{slice_get_within}
use Rattle.mg_text.specs.Call.{Name}
use Rattle.mg_read.specs.First.{Clean, with_earlier}
use Rattle.ts_tree.specs.Proper.{AreDistinct}
use Rattle.jv_tree.specs.Source
use Rattle.jv_tree.specs.Source.{Decl, ClassDecl, EnumDecl}
use Rattle.jv_meaning.specs.Program.{Sources, class_in, enum_in, classes_of, enums_of}
use Rattle.jv_rules.specs.Program.{Program, decls_of}
use Rattle.jv_rules.specs.Members.{entries_in}
use Rattle.jv_rules.specs.Declarations.{DuplicateMember}
use Rattle.jv_rules.proofs.Tests.{nothing_in, in_cases, in_first, in_later}
use Rattle.jv_core.specs.Tree as Core
use Rattle.jv_core.specs.Members.{texts_at, IsEnum}
use Rattle.jv_names.specs.Resolves.{Aligned, none, more, IsNamed, EnumIs, Resolves}
use Rattle.jv_names.proofs.Tables.{text_is}
use Rattle.jv_names.proofs.Apart.{constants_apart}
use Rattle.jv_names.proofs.NamedApart.{flat_twice}
use Rattle.jv_names.proofs.Declared.{NoFault, clean_part}

class_declared_in : (ds : List Decl) (c : Source.Class) → Contains (flat_map class_in ds) c → Contains ds (ClassDecl c)
class_declared_in [] c has = absurd (nothing_in c has)
class_declared_in (ClassDecl d ∷ ds) c has =
    ⊎_elim (λ same. subst (λ z. Contains (ClassDecl z ∷ ds) (ClassDecl c)) (sym same) (in_first ds (ClassDecl c)))
    (λ more. in_later ds (ClassDecl d) (ClassDecl c) (class_declared_in ds c more)) (in_cases (flat_map class_in ds) d c has)
class_declared_in (EnumDecl e ∷ ds) c has = in_later ds (EnumDecl e) (ClassDecl c) (class_declared_in ds c has)

enum_declared_in : (ds : List Decl) (e : Source.Enum) → Contains (flat_map enum_in ds) e → Contains ds (EnumDecl e)
enum_declared_in [] e has = absurd (nothing_in e has)
enum_declared_in (ClassDecl d ∷ ds) e has = in_later ds (ClassDecl d) (EnumDecl e) (enum_declared_in ds e has)
enum_declared_in (EnumDecl d ∷ ds) e has =
    ⊎_elim (λ same. subst (λ z. Contains (EnumDecl z ∷ ds) (EnumDecl e)) (sym same) (in_first ds (EnumDecl e)))
    (λ more. in_later ds (EnumDecl d) (EnumDecl e) (enum_declared_in ds e more)) (in_cases (flat_map enum_in ds) d e has)

pub class_declared : (files : Sources) (c : Source.Class) → Contains (classes_of files) c → Contains (decls_of files) (ClassDecl c)
class_declared files c has = class_declared_in (decls_of files) c (subst (λ cs. Contains cs c) (sym (flat_twice class_in files)) has)

pub enum_declared : (files : Sources) (e : Source.Enum) → Contains (enums_of files) e → Contains (decls_of files) (EnumDecl e)
enum_declared files e has = enum_declared_in (decls_of files) e (subst (λ es. Contains es e) (sym (flat_twice enum_in files)) has)

module _ (program : Program) (origins : List ℕ) (clean : NoFault program origins) where
  pub members_clean : (d : Decl) → Contains (decls_of program.files) d → Clean DuplicateMember (with_earlier (entries_in d))
  members_clean d has = clean_part DuplicateMember (λ d. with_earlier (entries_in d)) (decls_of program.files) clean.members d has

  module _ (core : Core.Program) (res : Resolves program core) where
    -- the texts of the constants of an enum
    pub texts_same : {cs : List Name} {ns : List ℕ} → Aligned (λ name n. IsNamed program core n name) cs ns → texts_at core ns ≡ cs
    texts_same none = refl
    texts_same (more {a = c} {b = n} {as' = cs} {bs = ns} i rest) =
        ap (λ t. t ∷ texts_at core ns) (text_is program core res n c i) ∙ ap (λ ts. c ∷ ts) (texts_same rest)

    names_within : {cs : List Name} {ns : List ℕ} → Aligned (λ name n. IsNamed program core n name) cs ns →
        AllByRecursion (λ n. n < length core.names) ns
    names_within none = tt
    names_within (more {a = c} {b = n} i rest) = (slice_get_within core.names n c i, names_within rest)

    enums_from : (es : List Source.Enum) (ds : List Core.Enum) → ((e : Source.Enum) → Contains es e → Contains (enums_of program.files) e) →
        AllByRecursion (λ (d : Core.Enum). length d.constants ≤ 2 ^ 31) ds → Aligned (EnumIs program core) es ds →
        AllByRecursion (IsEnum core) ds
    enums_from _ _ within few none = tt
    enums_from _ _ within few (more {a = e} {b = d} {as' = es} {bs = ds} i rest) = (
      record {
        name = slice_get_within core.names d.name e.name i.name;
        names = names_within i.constants;
        apart = subst AreDistinct (sym (texts_same i.constants))
            (constants_apart e (members_clean (EnumDecl e) (enum_declared program.files e (within e (in_first es e)))));
        count = few.0;
      },
      enums_from es ds (λ e has. within e (in_later es _ e has)) few.1 rest,
    )

    pub enums_kept : AllByRecursion (IsEnum core) core.enums
    enums_kept = enums_from (enums_of program.files) core.enums (λ e has. has) res.bounded.enums res.enums

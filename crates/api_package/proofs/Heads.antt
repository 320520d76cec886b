-- A head is read before a file, and dropped.
use Rattle.std.proofs.Common.{◌≡◌, ℕ, ◌≤◌, suc, inl, inr, List, [], ◌∷◌, ◌++◌, map, length, Some, None, refl, sym, ap, ◌∙◌, subst}
use Rattle.std.proofs.Common.{append_assoc, length-append, arith, codes, zero}
use Rattle.std.specs.Prelude.{Contains}
use Rattle.std.specs.List.{AllByRecursion, flat_map}
use Rattle.std.proofs.lemmas.List.Elements.{All-contains, All-from_recursion}
use Rattle.mg_text.specs.Call.{Name}
use Rattle.mg_text.specs.Places.{start_of}
use Rattle.mg_text.specs.declared.place.Place.{Place}
use Rattle.scr_tree.specs.Tree.{LocalTree}
use Rattle.scr_tree.specs.Meaning.{protocol_of}
use Rattle.jv_tree.specs.declared.token.Sign.TheVariants as signs
use Rattle.jv_tree.specs.declared.token.Token.{Token}
use Rattle.jv_tree.specs.Source.{File}
use Rattle.jv_tree.specs.Depth.{depth_of_file}
use Rattle.jv_tree.specs.Tokens as tokens
use Rattle.jv_tree.specs.Files.{IsPath, IsImport, AreImports, IsFile}
use Rattle.jv_tree.specs.Files as files
use Rattle.jv_print.specs.Layout.{layout}
use Rattle.jv_read.specs.Spelling.{Spells}
use Rattle.jv_back.specs.Bare.{bare_file}
use Rattle.jv_back.proofs.Told.{Any, Told, nothing, convert, regroup, line_then, space_then, Front, mark_then, word_then, plain_word, Both, both}
use Rattle.jv_back.proofs.Told.{whole, none_unsupported}
use Rattle.jv_back.proofs.Parts.{on, past}
use Rattle.jv_back.proofs.Files.{IsWrittenDecl, DeclsPart, decls_told, FilePart}
use Rattle.jv_back.proofs.Depths.{depth_kept}
use Rattle.stm_api.specs.Doings.{Doing, Passes, Asks, all_doings}
use Rattle.stm_api.specs.Api.{ApiText, IsApi, enum_of, enum_files}
use Rattle.api_back.proofs.Doings.{all_both}
use Rattle.api_back.proofs.Files.{IsFineFile, files_fine, files_are_spelled}
use Rattle.api_package.specs.Package.{IsPackage}
use Rattle.api_package.specs.Heads.{head_line, head, class_imports, with_head, headed, HeadedAreSpelled}
use Rattle.api_package.proofs.Packages.{path_told}

-- ---- lines

abbrev PathLine : (word : Name) → List Token → Type 0
PathLine word = Front (λ a. tokens.word a word) (Both IsPath (Front (λ a. tokens.sign a signs.Semicolon) (λ us. us ≡ [])))

package_told : (package_name : Name) → IsPackage package_name → Told Any files.IsPackage (head_line (codes "package") package_name)
package_told package_name is =
    convert form (word_then (codes "package") (plain_word (codes "package") refl refl) (λ bytes o. refl)
    (space_then (both (path_told package_name is) (λ bytes o. refl) (mark_then signs.Semicolon refl (λ c. refl) (line_then nothing)))))
  where
    form : (ts : List Token) → PathLine (codes "package") ts → files.IsPackage ts
    form ts (a, t1, e1, (us, t2, e2, path, (b, t3, e3, none))) = inr (a, b, us, e1 ∙ on (e2 ∙ past us (e3 ∙ on none)), path)

import_told : (class : Name) → IsPackage class → Told Any IsImport (head_line (codes "import") class)
import_told class is =
    convert form (word_then (codes "import") (plain_word (codes "import") refl refl) (λ bytes o. refl)
    (space_then (both (path_told class is) (λ bytes o. refl) (mark_then signs.Semicolon refl (λ c. refl) (line_then nothing)))))
  where
    form : (ts : List Token) → PathLine (codes "import") ts → IsImport ts
    form ts (a, t1, e1, (us, t2, e2, path, (b, t3, e3, none))) =
        (a, b, us, [], e1 ∙ on (e2 ∙ past us (e3 ∙ on none)), path, inl refl)

abbrev Imports : List Token → Type 0
Imports ts = (n : ℕ) × AreImports n ts

imports_told : (classes : List Name) → AllByRecursion IsPackage classes
    → Told Any Imports (flat_map (head_line (codes "import")) classes)
imports_told [] w = convert (λ ts e. (0, e)) nothing
imports_told (class ∷ more) w = convert form (both (import_told class w.0) (λ bytes o. tt) (imports_told more w.1))
  where
    form : (ts : List Token) → Both IsImport Imports ts → Imports ts
    form ts (us, vs, e, one, (n, are)) = (suc n, (us, vs, e, one, are))

-- ---- files

-- a file behind a head is the same file
headed_told : (package_name : Name) (imports : List Name) (f : File) → IsPackage package_name → AllByRecursion IsPackage imports
    → AllByRecursion IsWrittenDecl f → depth_of_file f ≤ 399 → Told Any (FilePart f) (head package_name imports ++ layout f)
headed_told package_name imports f is are w d =
    regroup grouped (convert form (both (package_told package_name is) (λ bytes o. tt)
    (both (imports_told imports are) (λ bytes o. tt) (line_then (decls_told f w d)))))
  where
    grouped : head package_name imports ++ layout f
        ≡ head_line (codes "package") package_name ++ (flat_map (head_line (codes "import")) imports ++ 10 ∷ layout f)
    grouped =
        append_assoc (head_line (codes "package") package_name) (flat_map (head_line (codes "import")) imports ++ 10 ∷ []) (layout f)
        ∙ ap (λ (z : List ℕ). head_line (codes "package") package_name ++ z)
        (append_assoc (flat_map (head_line (codes "import")) imports) (10 ∷ []) (layout f))

    form : (ts : List Token) → Both files.IsPackage (Both Imports (DeclsPart f)) ts → FilePart f ts
    form ts (us, t1, e1, package_is, (vs, ws, e2, (n, imports_are), (g, same, decls))) =
        (g, same, (n, us, vs, ws, e1 ∙ past us e2, package_is, imports_are, decls))

-- what is imported has names
session_package : IsPackage (codes "mungo.lib.Session")
unfolding tokens.is_name
session_package = refl

typestate_package : IsPackage (codes "mungo.lib.Typestate")
unfolding tokens.is_name
typestate_package = refl

-- so its text spells the same file
spelled : (file : ℕ) (package_name : Name) (imports : List Name) (f : ApiText) → IsPackage package_name → AllByRecursion IsPackage imports
    → AllByRecursion IsWrittenDecl f.tree → depth_of_file f.tree ≤ 200 → f.text ≡ layout f.tree
    → length (head package_name imports ++ f.text) ≤ 1048576
    → (back : File) × Spells file (head package_name imports ++ f.text) back × (bare_file back ≡ bare_file f.tree)
spelled file package_name imports f is are written shallow text size =
    subst (λ t. (back : File) × Spells file (head package_name imports ++ t) back × (bare_file back ≡ bare_file f.tree)) (sym text) (
    let w = whole file (headed_told package_name imports f.tree is are written (omega (arith, shallow))) in
    let part = w.holds in
    let deep : depth_of_file part.0 ≤ 200 = omega (arith, depth_kept f.tree part.0 part.1, shallow) in (
      part.0,
      record {
        size = subst (λ t. length (head package_name imports ++ t) ≤ 1048576) text size;
        tokens = w.tokens;
        cut = w.cut;
        supported = none_unsupported w.tokens w.supported;
        spelled = (part.2, deep);
      },
      part.1,
    )
    )

-- ---- the files of an API

abbrev IsLaidOut : ApiText → Type 0
IsLaidOut f = f.text ≡ layout f.tree

enum_laid : (p : Place) (me : Name) (d : Doing) → AllByRecursion IsLaidOut (enum_of p me d)
enum_laid p me (Passes message) = tt
enum_laid p me (Asks number peer labels) = (refl, tt)

enums_laid : (p : Place) (me : Name) (ds : List Doing) → AllByRecursion IsLaidOut (enum_files p me ds)
enums_laid p me [] = tt
enums_laid p me (d ∷ ds) = all_both IsLaidOut (enum_of p me d) (enum_files p me ds) (enum_laid p me d) (enums_laid p me ds)

all_laid : (local : LocalTree) (files : List ApiText) → IsApi local files → AllByRecursion IsLaidOut files
all_laid local files api =
    subst (AllByRecursion IsLaidOut) (sym api.are_files)
    (refl, enums_laid (start_of local.file) local.me (all_doings (protocol_of local)))

of_each : {X : Type 0} (P : X → Type 0) (xs : List X) (x : X) → AllByRecursion P xs → Contains xs x → P x
of_each P xs x h c = All-contains P xs x (All-from_recursion P xs h) c

-- a file that is there with this head
record IsHeaded (package_name : Name) (files : List ApiText) (f : ApiText) : Type 0 where
  imports : List Name
  named : AllByRecursion IsPackage imports
  plain : ApiText
  there : Contains files plain
  is : f ≡ with_head (head package_name imports) plain

in_enums : (package_name : Name) (enums : List ApiText) (f : ApiText) → Contains (map (with_head (head package_name [])) enums) f
    → (plain : ApiText) × Contains enums plain × (with_head (head package_name []) plain ≡ f)
in_enums package_name [] f (k, lt, e) = absurd (omega arith)
in_enums package_name (x ∷ xs) f (zero, lt, e) = (x, (zero, omega arith, refl), e)
in_enums package_name (x ∷ xs) f (suc k, lt, e) =
    let (plain, (i, below, is), same) = in_enums package_name xs f (k, omega arith, e) in (plain, (suc i, omega arith, is), same)

in_headed : (package_name : Name) (files : List ApiText) (f : ApiText) → Contains (headed (Some package_name) files) f → IsHeaded package_name files f
in_headed package_name [] f (k, lt, e) = absurd (omega arith)
in_headed package_name (class ∷ enums) f (zero, lt, e) = record {
  imports = class_imports;
  named = (session_package, (typestate_package, tt));
  plain = class;
  there = (zero, omega arith, refl);
  is = sym e;
}
in_headed package_name (class ∷ enums) f (suc k, lt, e) =
    let (plain, (i, below, is), same) = in_enums package_name enums f (k, omega arith, e) in
    record { imports = []; named = tt; plain = plain; there = (suc i, omega arith, is); is = sym same }

pub headed_are_spelled : HeadedAreSpelled
headed_are_spelled local files None f file valid api named inside size = files_are_spelled local files f file valid api inside size
headed_are_spelled local files (Some package_name) f file valid api named inside size =
    let h = in_headed package_name files f inside in
    let long : length (head package_name h.imports ++ h.plain.text) ≤ 1048576 =
    subst (λ (g : ApiText). length g.text ≤ 1048576) h.is size in
    let short : length h.plain.text ≤ 1048576 = omega (arith, long, length-append (head package_name h.imports) h.plain.text) in
    let back = files_are_spelled local files h.plain file valid api h.there short in
    let shallow : depth_of_file h.plain.tree ≤ 200 = omega (arith, depth_kept back.0 h.plain.tree (sym back.2), back.1.spelled.1) in
    subst (λ (g : ApiText). (b : File) × Spells file g.text b × (bare_file b ≡ bare_file g.tree)) (sym h.is)
    (spelled file package_name h.imports h.plain (named package_name refl) h.named
    (of_each IsFineFile files h.plain (files_fine local files valid api) h.there).written shallow
    (of_each IsLaidOut files h.plain (all_laid local files api) h.there) long)

-- ---- the text of a head

pub head_text : (package_name : Name) (imports : List Name)
    → codes "package " ++ (package_name ++ 59 ∷ 10 ∷ (flat_map (head_line (codes "import")) imports ++ 10 ∷ []))
    ≡ head package_name imports
head_text package_name imports =
    ap (λ (z : List ℕ). codes "package " ++ z)
    (sym (append_assoc package_name (59 ∷ 10 ∷ []) (flat_map (head_line (codes "import")) imports ++ 10 ∷ [])))

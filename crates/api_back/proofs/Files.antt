-- The files of an API can be written, so their texts spell their trees.
use Rattle.std.proofs.Common.{◌≡◌, ℕ, ◌≤◌, List, [], ◌∷◌, length, map, refl, sym, subst, arith}
use Rattle.std.specs.Prelude.{Contains}
use Rattle.std.specs.List.{AllByRecursion}
use Rattle.std.proofs.lemmas.List.Elements.{All-contains, All-from_recursion}
use Rattle.mg_text.specs.Call.{Name}
use Rattle.mg_text.specs.Places.{start_of}
use Rattle.mg_text.specs.declared.place.Place.{Place}
use Rattle.scr_tree.specs.Tree.{LocalTree, PartTree, Titled, titled, other}
use Rattle.scr_tree.specs.Valid.{AreWritten, IsWrittenPart, IsValid}
use Rattle.scr_tree.specs.Words.{IsName as IsRoleName}
use Rattle.scr_tree.specs.Meaning.{protocol_of}
use Rattle.jv_tree.specs.Source.{File}
use Rattle.jv_tree.specs.Depth.{depth_of_methods, depth_of_file}
use Rattle.jv_print.specs.Layout.{layout}
use Rattle.jv_read.specs.Spelling.{Spells}
use Rattle.jv_back.specs.Bare.{bare_file}
use Rattle.jv_back.proofs.Files.{IsWrittenDecl}
use Rattle.jv_back.proofs.Members.{IsWrittenMethod}
use Rattle.jv_back.proofs.Law.{written_spells}
use Rattle.stm_api.specs.Doings.{Doing, Passes, Asks, all_doings, Firsts, none, again, first}
use Rattle.stm_api.specs.Api.{ApiText, IsApi, method_of, class_file, enum_of, enum_files}
use Rattle.api_back.proofs.Names.{role_class, choice_class, text_utf8}
use Rattle.api_back.proofs.Doings.{IsTold, all_both, all_told}
use Rattle.api_back.proofs.Methods.{method_fine}

-- a file whose tree can be written, and that has its text
pub record IsFineFile (f : ApiText) : Type 0 where
  pub written : AllByRecursion IsWrittenDecl f.tree
  shallow : depth_of_file f.tree ≤ 200
  text : f.text ≡ layout f.tree

-- what holds of all doings holds of the first ones
firsts_told : {me : Name} {seen : List Name} {ds firsts : List Doing} → Firsts me seen ds firsts → AllByRecursion IsTold ds
    → AllByRecursion IsTold firsts
firsts_told none h = tt
firsts_told (again c more) h = firsts_told more h.1
firsts_told (first c more) h = (h.0, firsts_told more h.1)

methods_fine : (p : Place) (me : Name) (ds : List Doing) → IsRoleName me → AllByRecursion IsTold ds
    → AllByRecursion IsWrittenMethod (map (method_of p me) ds) × (depth_of_methods (map (method_of p me) ds) ≤ 10)
methods_fine p me [] n h = (tt, omega arith)
methods_fine p me (d ∷ ds) n h =
    let one = method_fine p me d n h.0 in
    let more = methods_fine p me ds n h.1 in
    ((one.0, more.0), omega (arith, one.1, more.1))

class_fine : (p : Place) (me : Name) (ds : List Doing) → IsRoleName me → AllByRecursion IsTold ds → IsFineFile (class_file p me ds)
class_fine p me ds n h =
    let methods = methods_fine p me ds n h in
    record {
      written = (record { name = role_class me n; typestate = text_utf8 me n; fields = tt; methods = methods.0 }, tt);
      shallow = omega (arith, methods.1);
      text = refl;
    }

enum_fine : (p : Place) (me : Name) (d : Doing) → IsRoleName me → IsTold d → AllByRecursion IsFineFile (enum_of p me d)
enum_fine p me (Passes message) n h = tt
enum_fine p me (Asks number peer labels) n h =
    (record { written = (record { name = choice_class me number n; constants = h.1 }, tt); shallow = omega arith; text = refl }, tt)

enums_fine : (p : Place) (me : Name) (ds : List Doing) → IsRoleName me → AllByRecursion IsTold ds
    → AllByRecursion IsFineFile (enum_files p me ds)
enums_fine p me [] n h = tt
enums_fine p me (d ∷ ds) n h =
    all_both IsFineFile (enum_of p me d) (enum_files p me ds) (enum_fine p me d n h.0) (enums_fine p me ds n h.1)

-- what holds of each item of a list holds of one in it
of_each : {X : Type 0} (P : X → Type 0) (xs : List X) (x : X) → AllByRecursion P xs → Contains xs x → P x
of_each P xs x h c = All-contains P xs x (All-from_recursion P xs h) c

others_written : (ps : List PartTree) → AllByRecursion IsWrittenPart ps → AllByRecursion (λ (t : Titled). AreWritten t.body) (map other ps)
others_written [] h = tt
others_written (p ∷ ps) h = (h.0.body, others_written ps h.1)

pub files_fine : (local : LocalTree) (files : List ApiText) → IsValid local → IsApi local files → AllByRecursion IsFineFile files
files_fine local files valid api =
    let p : Place = start_of local.file in
    let me : IsRoleName local.me = of_each IsRoleName local.roles local.me valid.written.roles valid.me_listed in
    let all : AllByRecursion IsTold (all_doings (protocol_of local)) =
    all_told local.me (titled local) 1 (valid.written.body, others_written local.others valid.written.others) valid.labels_free in
    subst (AllByRecursion IsFineFile) (sym api.are_files)
    (class_fine p local.me api.firsts me (firsts_told api.are_firsts all), enums_fine p local.me (all_doings (protocol_of local)) me all)

pub files_are_spelled : (local : LocalTree) (files : List ApiText) (f : ApiText) (file : ℕ) → IsValid local → IsApi local files
    → Contains files f → length f.text ≤ 1048576
    → (back : File) × Spells file f.text back × (bare_file back ≡ bare_file f.tree)
files_are_spelled local files f file valid api inside size =
    let fine = of_each IsFineFile files f (files_fine local files valid api) inside in
    subst (λ text. (back : File) × Spells file text back × (bare_file back ≡ bare_file f.tree)) (sym fine.text)
    (written_spells file f.tree fine.written fine.shallow (subst (λ text. length text ≤ 1048576) fine.text size))

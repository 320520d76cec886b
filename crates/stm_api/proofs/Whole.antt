-- One more method, one more enum, and the whole.
use Rattle.std.proofs.Common.{◌≡◌, ℕ, ◌+◌, ◌<◌, Bool, true, false, not, if◌then◌else◌, get_or, drop, length, map, List, [], ◌∷◌, ◌++◌}
use Rattle.std.proofs.Common.{position, refl, sym, ap, ◌∙◌, append_assoc}
use Rattle.std.specs.Prelude.{is_some}
use Rattle.std.specs.Borrow.{Bor}
use Rattle.std.specs.Str.{bytes_eq}
use Rattle.std.proofs.lemmas.List.{map-append}
use Rattle.mg_text.specs.Call.{Name}
use Rattle.mg_text.specs.Row.{Row}
use Rattle.mg_text.specs.Interned.{with_text}
use Rattle.mg_text.specs.Places.{start_of}
use Rattle.mg_text.specs.declared.place.Place.{Place}
use Rattle.scr_tree.specs.Tree.{LocalTree}
use Rattle.scr_tree.specs.Meaning.{protocol_of}
use Rattle.jv_tree.specs.declared.tree.MethodDecl.{MethodDecl}
use Rattle.jv_tree.specs.Source.{Method}
use Rattle.jv_tree.specs.View.{method_of as kept_method}
use Rattle.stm_api.specs.declared.doings.Doing.{Doing as Kept}
use Rattle.stm_api.specs.declared.doings.Doing.TheVariants as kept
use Rattle.stm_api.specs.declared.files.ApiFile.{ApiFile}
use Rattle.stm_api.specs.Doings.{Doing, call_of, all_doings}
use Rattle.stm_api.specs.Api.{ApiText, IsApi, class_file, enum_of, enum_file, enum_files, method_of}
use Rattle.stm_api.specs.View.{written_of}
use Rattle.stm_api.specs.inner.Does.{first_before, firsts_of}
use Rattle.stm_api.specs.inner.View.{doing_of, names_of}
use Rattle.stm_api.proofs.Laws.{are_firsts}
use Rattle.stm_api.proofs.Made.{firsts-step, enums-step}

is_new : (seen fresh : Bool) → fresh ≡ not seen → fresh ≡ true → seen ≡ false
is_new true fresh e f = let g : false ≡ true = sym e ∙ f in cc
is_new false fresh e f = refl

-- a method is made for a new call
pub method_more : (me : Name) (p : Place) (seen after : List Name) (ds : List Kept) (i : ℕ) (x : Kept) (methods more : List MethodDecl)
    (m : MethodDecl) (call : Name) (fresh : Bool) (all : List Method) →
    i < length ds → x ≡ get_or ds i x → call ≡ call_of me (doing_of x) → fresh ≡ not (is_some (position (bytes_eq call) seen)) →
    fresh ≡ true → after ≡ with_text seen call →
    kept_method m ≡ method_of p me (doing_of x) → more ≡ methods ++ m ∷ [] →
    all ≡ map kept_method methods ++ map (method_of p me) (firsts_of me seen (map doing_of (drop i ds))) →
    all ≡ map kept_method more ++ map (method_of p me) (firsts_of me after (map doing_of (drop (i + 1) ds)))
method_more me p seen after ds i x methods more m call fresh all within is named new new' added made pushed e =
    let rest : List Kept = drop (i + 1) ds in
    let k : Name = call_of me (doing_of x) in
    let unseen : is_some (position (bytes_eq k) seen) ≡ false = ap (λ c. is_some (position (bytes_eq c) seen)) (sym named) ∙
    is_new (is_some (position (bytes_eq call) seen)) fresh new new' in
    let grown : after ≡ seen ++ k ∷ [] =
    added ∙ ap (λ (b : Bool). if b then seen else (seen ++ call ∷ [])) (is_new (is_some (position (bytes_eq call) seen)) fresh new new') ∙
    ap (λ c. seen ++ c ∷ []) named in
    let others : List Doing = firsts_of me (seen ++ k ∷ []) (map doing_of rest) in
    e ∙ ap (λ l. map kept_method methods ++ map (method_of p me) l)
    (firsts-step me seen ds i x within is ∙ ap (λ (b : Bool). first_before b (doing_of x) (firsts_of me seen (map doing_of rest)) others)
    unseen)
    ∙ ap (λ y. map kept_method methods ++ (y ∷ map (method_of p me) others)) (sym made)
    ∙ sym (append_assoc (map kept_method methods) (kept_method m ∷ []) (map (method_of p me) others))
    ∙ ap (λ y. y ++ map (method_of p me) others) (sym (map-append kept_method methods (m ∷ [])) ∙ ap (map kept_method) (sym pushed))
    ∙ ap (λ s. map kept_method more ++ map (method_of p me) (firsts_of me s (map doing_of rest))) (sym grown)

-- an enum is made for a look
pub enum_more : (p : Place) (me : Name) (ds : List Kept) (i : ℕ) (x : Kept) (n : ℕ) (peer : Bor Name) (labels : Row (Bor Name))
    (given : List (Bor Name)) (files more : List ApiFile) (f : ApiFile) (all : List ApiText) →
    i < length ds → x ≡ get_or ds i x → x ≡ kept.Asks n peer labels → given ≡ labels.items →
    written_of f ≡ enum_file p me n (names_of given) → more ≡ files ++ f ∷ [] →
    all ≡ map written_of files ++ enum_files p me (map doing_of (drop i ds)) →
    all ≡ map written_of more ++ enum_files p me (map doing_of (drop (i + 1) ds))
enum_more p me ds i x n peer labels given files more f all within is looks same made pushed e =
    let rest : List ApiText = enum_files p me (map doing_of (drop (i + 1) ds)) in
    e ∙ ap (λ l. map written_of files ++ l) (enums-step p me ds i x within is)
    ∙ ap (λ (y : Kept). map written_of files ++ (enum_of p me (doing_of y) ++ rest)) looks
    ∙ ap (λ (ls : List (Bor Name)). map written_of files ++ (enum_file p me n (names_of ls) ∷ rest)) (sym same)
    ∙ ap (λ w. map written_of files ++ (w ∷ rest)) (sym made)
    ∙ sym (append_assoc (map written_of files) (written_of f ∷ []) rest)
    ∙ ap (λ y. y ++ rest) (sym (map-append written_of files (f ∷ [])) ∙ ap (map written_of) (sym pushed))

pub is_api : (t : LocalTree) (given one two : List Kept) (p : Place) (file : ℕ) (me : Name) (class : ApiFile)
    (none first files : List ApiFile) →
    map doing_of given ≡ all_doings (protocol_of t) → one ≡ given → two ≡ given → p ≡ start_of file → file ≡ t.file → me ≡ t.me →
    written_of class ≡ class_file p t.me (firsts_of t.me [] (map doing_of one)) → none ≡ [] → first ≡ none ++ class ∷ [] →
    map written_of files ≡ map written_of first ++ enum_files p me (map doing_of two) →
    IsApi t (map written_of files)
is_api t given one two p file me class none first files done e1 e2 ep ef em made en pushed e = record {
  firsts = firsts_of t.me [] (all_doings (protocol_of t));
  are_firsts = are_firsts t.me (all_doings (protocol_of t)) [];
  are_files =
      e ∙ ap (λ (fs : List ApiFile). map written_of fs ++ enum_files p me (map doing_of two))
      (pushed ∙ ap (λ (fs : List ApiFile). fs ++ class ∷ []) en)
      ∙ ap (λ w. w ∷ enum_files p me (map doing_of two)) made
      ∙ ap (λ ds. class_file p t.me (firsts_of t.me [] ds) ∷ enum_files p me (map doing_of two)) (ap (map doing_of) e1 ∙ done)
      ∙ ap (λ ds. class_file p t.me (firsts_of t.me [] (all_doings (protocol_of t))) ∷ enum_files p me ds) (ap (map doing_of) e2 ∙ done)
      ∙ ap (λ m. class_file p t.me (firsts_of t.me [] (all_doings (protocol_of t))) ∷ enum_files p m (all_doings (protocol_of t))) em
      ∙ ap (λ q. class_file q t.me (firsts_of t.me [] (all_doings (protocol_of t))) ∷ enum_files q t.me (all_doings (protocol_of t)))
      (ep ∙ ap start_of ef);
}

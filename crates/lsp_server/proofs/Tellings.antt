-- Tellings of more sources.
use Rattle.std.proofs.Common.{◌≡◌, ℕ, ℤ, List, [], ◌∷◌, ◌++◌, length, map, Option, None, Some, refl, sym, ap, ◌∙◌, Bor}
use Rattle.std.specs.Prelude.{slice_get, option_map}
use Rattle.std.specs.Slice.{IsItemAt}
use Rattle.std.specs.declared.vec.Vec.{Vec}
use Rattle.std.specs.declared.alloc.Global.{Global}
use Rattle.std.proofs.lemmas.List.{length-map, map-append, append-nil, append_assoc}
use Rattle.std.proofs.lemmas.Option.{slice_get_past, slice_get-get_or}
use Rattle.lsp_messages.specs.declared.outgoing.Diagnostic.{Diagnostic}
use Rattle.lsp_server.specs.Telling.{Telling, tellings, source_told, lists_of}

no_version : (name : Option (List ℕ)) (l : List Diagnostic) → source_told name None l ≡ []
no_version None l = refl
no_version (Some name) l = refl

no_list : (names : List (List ℕ)) (versions : List (Option ℤ)) → tellings names versions [] ≡ []
no_list [] versions = refl
no_list (n ∷ ns) [] = refl
no_list (n ∷ ns) (v ∷ vs) = refl

pub one_more : (names : List (List ℕ)) (versions : List (Option ℤ)) (ys : List (List Diagnostic)) (l : List Diagnostic) →
    tellings names versions (ys ++ l ∷ [])
    ≡ tellings names versions ys ++ source_told (slice_get names (length ys)) (slice_get versions (length ys)) l
one_more [] versions ys l = refl
one_more (n ∷ ns) [] ys l = sym (no_version (slice_get (n ∷ ns) (length ys)) l)
one_more (n ∷ ns) (v ∷ vs) [] l =
    ap (λ (ts : List Telling). record { document = n; version = v; diagnostics = l } ∷ ts) (no_list ns vs)
one_more (n ∷ ns) (v ∷ vs) (y ∷ ys) l =
    ap (λ (ts : List Telling). record { document = n; version = v; diagnostics = y } ∷ ts) (one_more ns vs ys l)

abbrev Told : Type 0
Told = List (Option Telling)

-- nothing is told of no lists
pub none_told : (xs : Told) (names : List (List ℕ)) (versions : List (Option ℤ)) →
    xs ≡ xs ++ map (λ t. Some t) (tellings names versions [])
none_told xs names versions =
    sym (ap (λ (ts : List Telling). xs ++ map (λ t. Some t) ts) (no_list names versions) ∙ append-nil xs)

lists_more : (lists : List (Vec Diagnostic Global)) (l : Vec Diagnostic Global) →
    lists_of (lists ++ l ∷ []) ≡ lists_of lists ++ l.items ∷ []
lists_more lists l = map-append (λ (v : Vec Diagnostic Global). v.items) lists (l ∷ [])

-- and of one list more what is told of its source
pub more_told : (xs ys zs : Told) (names : List (List ℕ)) (versions : List (Option ℤ)) (lists : List (Vec Diagnostic Global))
    (l : Vec Diagnostic Global) (at : ℕ) (name : Option (List ℕ)) (version : Option (Option ℤ)) → at ≡ length lists →
    name ≡ slice_get names at → version ≡ slice_get versions at →
    ys ≡ xs ++ map (λ t. Some t) (tellings names versions (lists_of lists)) →
    zs ≡ ys ++ map (λ t. Some t) (source_told name version l.items) →
    zs ≡ xs ++ map (λ t. Some t) (tellings names versions (lists_of (lists ++ l ∷ [])))
more_told xs ys zs names versions lists l at name version a n v before now =
    let count : at ≡ length (lists_of lists) = a ∙ sym (length-map lists (λ (w : Vec Diagnostic Global). w.items)) in
    let is : source_told name version l.items
    ≡ source_told (slice_get names (length (lists_of lists))) (slice_get versions (length (lists_of lists))) l.items =
    ap (λ (o : Option (List ℕ)). source_told o version l.items) (n ∙ ap (λ (k : ℕ). slice_get names k) count)
    ∙ ap (λ (o : Option (Option ℤ)). source_told (slice_get names (length (lists_of lists))) o l.items)
    (v ∙ ap (λ (k : ℕ). slice_get versions k) count) in
    let all : tellings names versions (lists_of lists) ++ source_told name version l.items
    ≡ tellings names versions (lists_of (lists ++ l ∷ [])) =
    ap (λ (ts : List Telling). tellings names versions (lists_of lists) ++ ts) is
    ∙ (sym (one_more names versions (lists_of lists) l.items)
    ∙ ap (λ (ls : List (List Diagnostic)). tellings names versions ls) (sym (lists_more lists l))) in
    now ∙ (ap (λ (ts : Told). ts ++ map (λ t. Some t) (source_told name version l.items)) before
    ∙ (append_assoc xs (map (λ t. Some t) (tellings names versions (lists_of lists))) (map (λ t. Some t) (source_told name version l.items))
    ∙ (ap (λ (ts : Told). xs ++ ts) (sym (map-append (λ t. Some t) (tellings names versions (lists_of lists))
    (source_told name version l.items)))
    ∙ ap (λ (ts : List Telling). xs ++ map (λ t. Some t) ts) all)))

-- the item of a number
pub item_got : {X : Type 0} (xs : List X) (i : ℕ) (r : Option (Bor X)) → IsItemAt xs i r → option_map (λ n. n.now) r ≡ slice_get xs i
item_got xs i None h = sym (slice_get_past xs i h.3)
item_got xs i (Some x) h = sym (slice_get-get_or xs i x.now h.3.0 ∙ ap Some (sym (h.3.1 x.now)))

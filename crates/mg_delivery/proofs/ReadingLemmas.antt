-- Files that are read one after another.
use Rattle.std.proofs.Common.{◌≡◌, ◌<◌, ◌≤◌, ◌+◌, ℕ, suc, List, [], ◌∷◌, ◌++◌, take, drop, length, get_or, Option, Some, None, refl, sym}
use Rattle.std.proofs.Common.{ap, ◌∙◌, subst}
use Rattle.std.specs.Prelude.{IfSome, option_map, Result, Err}
use Rattle.std.proofs.lemmas.List.{take_more, take_all, at_drop_more, take-append-drop}
use Rattle.std.specs.FinMap as map
use Rattle.mg_io.specs.Outside.{Files}
use Rattle.mg_text.specs.Row.{Row}
use Rattle.mg_delivery.specs.declared.reading.Unread.{Unread}
use Rattle.mg_delivery.specs.declared.reading.Unread.TheVariants as unread
use Rattle.mg_text.specs.Call.{Name}
use Rattle.mg_delivery.specs.Outside.{Stream, Outside, outside, IsRead}
use Rattle.mg_delivery.specs.Contents.{AreRead, AreContents}

-- what a folder answered was read of the file
is_front : (limit : ℕ) (o : Option (List ℕ)) (bytes : List ℕ) → option_map (take limit) o ≡ Some bytes →
    (content : List ℕ) × (o ≡ Some content) × (bytes ≡ take limit content)
is_front limit None bytes e = absurd cc
is_front limit (Some content) bytes e = (
  content,
  refl,
  let h : ◌≡◌ {A = Option (List ℕ)} (Some (take limit content)) (Some bytes) = e in
      cc,
)

is_read : (limit : ℕ) (files : Option Files) (name file : Name) (bytes : List ℕ) → length bytes ≤ limit → name ≡ file →
    IfSome files (λ m. option_map (take limit) (map.get m name) ≡ Some bytes) → IsRead limit files file bytes
is_read limit None name file bytes few same h = (few, tt)
is_read limit (Some m) name file bytes few same h =
    (few, is_front limit (map.get m file) bytes (ap (λ (n : Name). option_map (take limit) (map.get m n)) (sym same) ∙ h))

read_push : (limit : ℕ) (files : Option Files) (names : List Name) (contents : List (List ℕ)) (name : Name) (bytes : List ℕ) →
    AreRead limit files names contents → IsRead limit files name bytes → AreRead limit files (names ++ name ∷ []) (contents ++ bytes ∷ [])
read_push limit files [] [] name bytes h k = (k, tt)
read_push limit files [] (c ∷ cs) name bytes h k = absurd h
read_push limit files (n ∷ ns) [] name bytes h k = absurd h
read_push limit files (n ∷ ns) (c ∷ cs) name bytes (first, rest) k = (first, read_push limit files ns cs name bytes rest k)

-- as many contents as names
pub same_length : (limit : ℕ) (files : Option Files) (names : List Name) (contents : List (List ℕ)) → AreRead limit files names contents →
    length names ≡ length contents
same_length limit files [] [] h = refl
same_length limit files [] (c ∷ cs) h = absurd h
same_length limit files (n ∷ ns) [] h = absurd h
same_length limit files (n ∷ ns) (c ∷ cs) (first, rest) = ap suc (same_length limit files ns cs rest)

-- one more was read
pub read_more : (limit : ℕ) (files files' : Option Files) (names : List Name) (i : ℕ) (name asked : Name) (bytes : List ℕ)
    (contents contents' : List (List ℕ)) → i < length names → name ≡ get_or names i name → asked ≡ name → length bytes ≤ limit →
    files' ≡ files → contents' ≡ contents ++ bytes ∷ []
    → AreRead limit files (take i names) contents → IfSome files' (λ m. option_map (take limit) (map.get m asked) ≡ Some bytes) →
    AreRead limit files (take (i + 1) names) contents'
read_more limit files files' names i name asked bytes contents contents' within is as_asked few same grown before h =
    let told = subst (λ (f : Option Files). IfSome f (λ m. option_map (take limit) (map.get m asked) ≡ Some bytes)) same h in
    let names_are : take i names ++ name ∷ [] ≡ take (i + 1) names = ap (λ (z : Name). take i names ++ z ∷ []) is ∙
    sym (take_more names i name within) in
    subst (λ (z : List Name). AreRead limit files z contents') names_are
    (subst (λ (z : List (List ℕ)). AreRead limit files (take i names ++ name ∷ []) z) (sym grown)
    (read_push limit files (take i names) contents name bytes before (is_read limit files asked name bytes few as_asked told)))

-- all was read
pub read_all : (limit : ℕ) (files : Option Files) (names : List Name) (i : ℕ) (contents : List (List ℕ)) → length names ≤ i →
    AreRead limit files (take i names) contents → AreRead limit files names contents
read_all limit files names i contents end h = subst (λ (z : List Name). AreRead limit files z contents) (take_all i names end) h

-- the name at an index, with those before it and those behind it
pub split_at : (names : List Name) (i : ℕ) (name : Name) → i < length names → name ≡ get_or names i name → names ≡ take i names
    ++ name ∷ drop (i + 1) names
split_at names i name within is =
    sym (take-append-drop i names)
    ∙ ap (λ (z : List Name). take i names ++ z) (at_drop_more (λ (z : List Name). z) names i name within ∙
    ap (λ (y : Name). y ∷ drop (i + 1) names) (sym is))

-- nothing outside changed
pub unchanged : (files files' : Option Files) (reads reads' writes writes' : List Name) (o e : Stream) → files' ≡ files → reads' ≡ reads →
    writes' ≡ writes → outside files' reads' writes' o e ≡ outside files reads writes o e
unchanged files files' reads reads' writes writes' o e f r w = λ i. outside (f i) (r i) (w i) o e

-- memory lacked
pub no_memory : (limit : ℕ) (names : List Name) (before after : Outside) (answer : Result (Row (List ℕ)) Unread) →
    answer ≡ Err unread.Memory → after ≡ before → AreContents limit names before answer after
no_memory limit names before after answer e same = subst (λ (z : Result (Row (List ℕ)) Unread). AreContents limit names before z after)
    (sym e) same

-- nothing was read yet
pub none_read : (limit : ℕ) (files : Option Files) (contents : List (List ℕ)) → contents ≡ [] → AreRead limit files [] contents
none_read limit files contents e = subst (AreRead limit files []) (sym e) tt

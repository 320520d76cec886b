-- Whether Java reserves a word.
use Rattle.std.proofs.Common.{◌≡◌, Bool, true, false, ◌↔◌, IsTrue, refl}
use Rattle.std.specs.Prelude.{Contains}
use Rattle.std.specs.List.{list_any}
use Rattle.std.specs.Str.{bytes_eq}
use Rattle.std.proofs.lemmas.Cmp.{nat_list_eq_equiv}
use Rattle.std.proofs.lemmas.Slice.Eq.{bytes_eq-Decides}
use Rattle.std.proofs.lemmas.Map.Views.{list_any-from_Contains, Contains-from_any}
use Rattle.mg_text.specs.Call.{Name}
use Rattle.mg_text.specs.JavaWords.{java_words}

told : (r any : Bool) (word : Name) → (IsTrue r ↔ Contains java_words word) → (any ≡ true → Contains java_words word) →
    (Contains java_words word → any ≡ true) → r ≡ any
told true true word h there back = refl
told true false word h there back = let no : false ≡ true = back (h.0 refl) in cc
told false true word h there back = let no : false ≡ true = h.1 (there refl) in cc
told false false word h there back = refl

pub reserved_is : (word : Name) (r : Bool) → (IsTrue r ↔ Contains java_words word) → r ≡ list_any (bytes_eq word) java_words
reserved_is word r h =
    told r (list_any (bytes_eq word) java_words) word h (Contains-from_any (λ x y s. (bytes_eq-Decides x y).0 s) word java_words)
    (list_any-from_Contains nat_list_eq_equiv word java_words)

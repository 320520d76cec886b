-- The words that are no names are those that Java reserves.
use Rattle.std.proofs.Common.{◌≡◌, ◌↔◌, Bool, true, false, not, IsTrue, List, [], ◌∷◌, ◌++◌, refl, sym, ap, ◌∙◌}
use Rattle.std.specs.Prelude.{◌||◌}
use Rattle.std.specs.List.{Contains}
use Rattle.std.specs.Str.{bytes_eq}
use Rattle.mg_text.specs.Call.{Name}
use Rattle.mg_text.specs.JavaWords.{java_words}
use Rattle.mg_text.proofs.Among.{any-Contains}
use Rattle.jv_tree.specs.Tokens.{is_among, reserved, unsupported, is_name}

both_same : (a b : Bool) → (a ≡ true → b ≡ true) → (b ≡ true → a ≡ true) → a ≡ b
both_same true b f g = sym (f refl)
both_same false true f g = g refl
both_same false false f g = refl

pub reserved_is : (w : Name) (r : Bool) → IsTrue r ↔ Contains java_words w → not r ≡ is_name w
unfolding is_name
reserved_is w r h =
    let k = any-Contains w java_words (is_among (reserved ++ unsupported) w) refl in
    ap not (both_same r (is_among (reserved ++ unsupported) w) (λ t. k.1 (h.0 t)) (λ t. h.1 (k.0 t)))

or_later : (a b : Bool) → b ≡ true → (a || b) ≡ true
or_later true b h = refl
or_later false b h = h

later : (xs ys : List Name) (w : Name) → is_among ys w ≡ true → is_among (xs ++ ys) w ≡ true
later [] ys w h = h
later (x ∷ xs) ys w h = or_later (bytes_eq x w) (is_among (xs ++ ys) w) (later xs ys w h)

-- what Java doesn't reserve isn't refused either
pub none_among : (w : Name) (r : Bool) → IsTrue r ↔ Contains java_words w → r ≡ false → false ≡ is_among unsupported w
none_among w r h off = go (is_among unsupported w) refl
  where
    go : (b : Bool) → is_among unsupported w ≡ b → false ≡ is_among unsupported w
    go false e = sym e
    go true e =
        let k = any-Contains w java_words (is_among (reserved ++ unsupported) w) refl in
        let yes : r ≡ true = h.1 (k.0 (later reserved unsupported w e)) in
        let no : false ≡ true = sym off ∙ yes in
        no ∙ sym e

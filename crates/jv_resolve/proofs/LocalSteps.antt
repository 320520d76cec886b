-- Locals by name, and their slots.
use Rattle.std.proofs.Common.{◌≡◌, List, [], ◌∷◌, ◌++◌, map, reverse, Option, Some, None, false, refl, sym, ap, ◌∙◌, true≢false}
use Rattle.std.specs.Option.{option_map, is_some}
use Rattle.std.proofs.lemmas.List.{map-append, reverse-append, reverse-reverse}
use Rattle.jv_scope.specs.declared.locals.Declared.{Declared}
use Rattle.jv_scope.specs.declared.locals.Local.{Local}
use Rattle.jv_scope.specs.Row.{declared_seen, row_seen}
use Rattle.jv_resolve_law.specs.Expressions.{Known}
use Rattle.jv_resolve.proofs.Called.{map-map}

-- a table has no local of a name
pub not_known : (get : Option Local) (o : Option Known) → get ≡ option_map (λ l. l.it) o → is_some get ≡ false → o ≡ None
not_known get None e new = refl
not_known get (Some k) e new = absurd (true≢false (sym (ap is_some e) ∙ new))

reverse-map : {X Y : Type 0} (f : X → Y) (xs : List X) → reverse (map f xs) ≡ map f (reverse xs)
reverse-map f [] = refl
reverse-map f (x ∷ xs) =
    reverse-append (f x ∷ []) (map f xs) ∙ ap (λ ys. ys ++ f x ∷ []) (reverse-map f xs) ∙ sym (map-append f (reverse xs) (x ∷ []))
    ∙ ap (map f) (sym (reverse-append (x ∷ []) xs))

-- the slots, the first one first
pub slots_seen : (stack : List (Declared Local)) (locals : List Known) → row_seen stack ≡ locals →
    map (λ d. d.it.slot) stack ≡ reverse (map (λ (l : Known). l.it.slot) locals)
slots_seen stack locals e =
    sym (map-map declared_seen (λ (l : Known). l.it.slot) stack)
    ∙ sym (reverse-reverse (map (λ (l : Known). l.it.slot) (map declared_seen stack)))
    ∙ ap reverse (reverse-map (λ (l : Known). l.it.slot) (map declared_seen stack))
    ∙ ap (λ ls. reverse (map (λ (l : Known). l.it.slot) ls)) e

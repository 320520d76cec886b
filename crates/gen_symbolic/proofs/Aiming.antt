-- Labels as places, one instruction after another.
use Rattle.std.proofs.Common.{◌≡◌, ℕ, ◌+◌, ◌<◌, ◌≤◌, List, [], ◌∷◌, ◌++◌, length, map, take, get_or, sym, ap, ◌∙◌}
use Rattle.std.proofs.lemmas.List.{take_more, take_all, map-append}
use Rattle.jv_core.specs.Tree.{Program}
use Rattle.gen_expressions.specs.declared.symbolic.Operand.{Operand}
use Rattle.gen_expressions.specs.declared.symbolic.Symbolic.{Symbolic}
use Rattle.gen_expressions.specs.View.{instr_of, instrs_of, operand_of}
use Rattle.gen_expressions.specs.Aimed.{place_of, aimed, aimed_operand}

take_at : {X : Type 0} (xs : List X) (i : ℕ) (x : X) → i < length xs → x ≡ get_or xs i x → take (i + 1) xs ≡ take i xs ++ x ∷ []
take_at xs i x within is = take_more xs i x within ∙ ap (λ y. take i xs ++ y ∷ []) (sym is)

module _ (ls xs : List ℕ) (i x : ℕ) (within : i < length xs) (is : x ≡ get_or xs i x) where
  pub places_more : (y : ℕ) (old new : List ℕ) → old ≡ map (place_of ls) (take i xs) → new ≡ old ++ y ∷ [] → y ≡ place_of ls x →
      new ≡ map (place_of ls) (take (i + 1) xs)
  places_more y old new h e ey =
      e ∙ ap (λ z. z ++ y ∷ []) h ∙ ap (λ z. map (place_of ls) (take i xs) ++ z ∷ []) ey
      ∙ sym (ap (map (place_of ls)) (take_at xs i x within is) ∙ map-append (place_of ls) (take i xs) (x ∷ []))

pub places_done : (ls xs : List ℕ) (i : ℕ) (old : List ℕ) → length xs ≤ i → old ≡ map (place_of ls) (take i xs) → old ≡ map (place_of ls) xs
places_done ls xs i old le h = h ∙ ap (map (place_of ls)) (take_all i xs le)

module _ (p : Program) (ls : List ℕ) (xs : List Symbolic) (i : ℕ) where
  pub aim_more : (x : Symbolic) (o : Operand) (old new : List Symbolic) → i < length xs → x ≡ get_or xs i x →
      instrs_of p old ≡ map (aimed ls) (instrs_of p (take i xs)) → new ≡ old ++ record { op = x.op; operand = o } ∷ [] →
      operand_of p o ≡ aimed_operand ls (operand_of p x.operand) → instrs_of p new ≡ map (aimed ls) (instrs_of p (take (i + 1) xs))
  aim_more x o old new within is h e eo =
      let y : Symbolic = record { op = x.op; operand = o } in
      ap (instrs_of p) e ∙ map-append (instr_of p) old (y ∷ []) ∙ ap (λ z. z ++ instr_of p y ∷ []) h
      ∙ ap (λ z. map (aimed ls) (instrs_of p (take i xs)) ++ record { op = x.op; operand = z } ∷ []) eo
      ∙ sym (ap (λ ys. map (aimed ls) (instrs_of p ys)) (take_at xs i x within is)
      ∙ ap (map (aimed ls)) (map-append (instr_of p) (take i xs) (x ∷ []))
      ∙ map-append (aimed ls) (instrs_of p (take i xs)) (instr_of p x ∷ []))

  pub aim_done : (old : List Symbolic) → length xs ≤ i → instrs_of p old ≡ map (aimed ls) (instrs_of p (take i xs)) →
      instrs_of p old ≡ map (aimed ls) (instrs_of p xs)
  aim_done old le h = h ∙ ap (λ ys. map (aimed ls) (instrs_of p ys)) (take_all i xs le)

pub ruleset aims = (places_more, places_done, aim_more, aim_done)

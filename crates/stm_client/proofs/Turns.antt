-- The blocks of an own choice, taken from the last to the first; loops and counters one by one.
use Rattle.std.proofs.Common.{◌≡◌, ℕ, zero, suc, ◌+◌, ◌-◌, ◌<◌, ◌≤◌, Bool, true, false, List, [], ◌∷◌, ◌++◌, map, length, take, get_or, refl, sym}
use Rattle.std.proofs.Common.{ap, ◌∙◌, arith, codes, if◌then◌else◌, length-append}
use Rattle.std.specs.List.{range_with_len}
use Rattle.std.specs.Char.{to_ascii_lowercase}
use Rattle.std.proofs.lemmas.List.{map-append, map_push, map_more, length-map}
use Rattle.mg_text.specs.Call.{Name}
use Rattle.mg_text.specs.declared.place.Place.{Place}
use Rattle.jv_tree.specs.Source.{Stmt, IfElse}
use Rattle.stm_client.specs.declared.labels.Around.{Around}
use Rattle.stm_client.specs.Client.{Loop, counter, counters, is_taken, free_label, label_for, is_turn, in_turn}
use Rattle.stm_client.specs.View.{loop_of, loops_of}

-- ---- blocks

-- blocks, each where its turn is; behind them comes this one
abbrev pub turned : Place → (k n i : ℕ) → List Stmt → (last : Stmt) → Stmt
turned p k n i [] last = last
turned p k n i (b ∷ bs) last = IfElse p (is_turn p k n i) b (turned p k n (i + 1) bs last)

in-turn : (p : Place) (k n i : ℕ) (xs : List Stmt) (x : Stmt) → in_turn p k n i (xs ++ x ∷ []) ≡ turned p k n i xs x
in-turn p k n i [] x = refl
in-turn p k n i (y ∷ []) x = refl
in-turn p k n i (y ∷ z ∷ more) x = ap (λ (s : Stmt). IfElse p (is_turn p k n i) y s) (in-turn p k n (i + 1) (z ∷ more) x)

turned-behind : (p : Place) (k n i : ℕ) (xs : List Stmt) (x last : Stmt) →
    turned p k n i (xs ++ x ∷ []) last ≡ turned p k n i xs (IfElse p (is_turn p k n (i + length xs)) x last)
turned-behind p k n i [] x last = let e : i ≡ i + 0 = omega arith in ap (λ (j : ℕ). IfElse p (is_turn p k n j) x last) e
turned-behind p k n i (y ∷ ys) x last =
    let e : i + 1 + length ys ≡ i + suc (length ys) = omega arith in
    ap (λ (s : Stmt). IfElse p (is_turn p k n i) y s) (turned-behind p k n (i + 1) ys x last
    ∙ ap (λ (j : ℕ). turned p k n (i + 1) ys (IfElse p (is_turn p k n j) x last)) e)

pub one-less : {A : Type 0} (old rest : List A) (x : A) → old ≡ rest ++ x ∷ [] → length old ≡ length rest + 1
one-less old rest x e = ap length e ∙ length-append rest (x ∷ [])

-- blocks that are taken from behind, one by one
module _ {A : Type 0} (f : A → Stmt) (p : Place) (k n : ℕ) where
  pub turns-start : (old rest : List A) (x : A) → old ≡ rest ++ x ∷ [] →
      in_turn p k n 1 (map f old) ≡ turned p k n 1 (map f rest) (f x)
  turns-start old rest x e = ap (in_turn p k n 1) (ap (map f) e ∙ map_push f rest x) ∙ in-turn p k n 1 (map f rest) (f x)

  pub turns-more : (old rest : List A) (x : A) (last next : Stmt) (branch : ℕ) → old ≡ rest ++ x ∷ [] → branch ≡ length rest + 1 →
      next ≡ IfElse p (is_turn p k n branch) (f x) last → turned p k n 1 (map f old) last ≡ turned p k n 1 (map f rest) next
  turns-more old rest x last next branch e at so =
      let long : length (map f rest) ≡ length rest = length-map rest f in
      let here : 1 + length (map f rest) ≡ branch = omega (arith, long, at) in
      ap (λ (l : List Stmt). turned p k n 1 l last) (ap (map f) e ∙ map_push f rest x)
      ∙ turned-behind p k n 1 (map f rest) (f x) last
      ∙ ap (turned p k n 1 (map f rest)) (ap (λ (j : ℕ). IfElse p (is_turn p k n j) (f x) last) here ∙ sym so)

-- ---- the label of a loop, one `_` after another

pub label-first : (loops : List Around) (name w : Name) (n : ℕ) → w ≡ map to_ascii_lowercase name → n ≡ length loops + 1 →
    label_for (loops_of loops) name ≡ free_label n (loops_of loops) w
label-first loops name w n is many =
    let long : length (map loop_of loops) ≡ length loops = length-map loops loop_of in
    let e : suc (length (map loop_of loops)) ≡ n = omega (arith, long, many) in
    λ k. free_label (e k) (loops_of loops) (sym is k)

module _ (n step : ℕ) (loops : List Loop) (w all : Name) (so : all ≡ free_label (n + 1 - step) loops w) where
  pub label-free : step < n + 1 → is_taken loops w ≡ false → w ≡ all
  label-free within free =
      let e : n + 1 - step ≡ suc (n - step) = omega arith in
      let here : free_label (suc (n - step)) loops w ≡ w = ap (λ (b : Bool). if b then free_label (n - step) loops (w ++ codes "_") else w) free in
      sym (so ∙ ap (λ k. free_label k loops w) e ∙ here)

  pub label-taken : (new : Name) → step < n + 1 → is_taken loops w ≡ true → new ≡ w ++ codes "_" → all ≡ free_label (n + 1 - (step + 1)) loops new
  label-taken new within taken put =
      let e : n + 1 - step ≡ suc (n - step) = omega arith in
      let f : n - step ≡ n + 1 - (step + 1) = omega arith in
      let here : free_label (suc (n - step)) loops w ≡ free_label (n - step) loops (w ++ codes "_") =
      ap (λ (b : Bool). if b then free_label (n - step) loops (w ++ codes "_") else w) taken in
      so ∙ ap (λ k. free_label k loops w) e ∙ here ∙ (λ k. free_label (f k) loops (sym put k))

  pub label-last : n + 1 ≤ step → w ≡ all
  label-last end = let e : n + 1 - step ≡ 0 = omega arith in sym (so ∙ ap (λ k. free_label k loops w) e)

-- ---- the loops around, copied one by one

pub loops-more : (loops old new : List Around) (i : ℕ) (x : Around) → i < length loops → x ≡ get_or loops i x →
    loops_of old ≡ loops_of (take i loops) → loops_of new ≡ loops_of old ++ loop_of x ∷ [] → loops_of new ≡ loops_of (take (i + 1) loops)
loops-more loops old new i x within is so added =
    added ∙ (λ k. so k ++ loop_of (is k) ∷ []) ∙ sym (map_more loop_of loops i x within)

-- ---- counters

range_more : (a n : ℕ) → range_with_len a (suc n) ≡ range_with_len a n ++ (a + n) ∷ []
range_more a zero = let e : a ≡ a + 0 = omega arith in ap (λ (z : ℕ). z ∷ []) e
range_more a (suc n) =
    let e : a + 1 + n ≡ a + suc n = omega arith in
    ap (λ (z : List ℕ). a ∷ z) (range_more (a + 1) n ∙ ap (λ (z : ℕ). range_with_len (a + 1) n ++ z ∷ []) e)

pub one-counter-more : (items new : List Name) (name : Name) (n : ℕ) → items ≡ counters n → name ≡ counter (n + 1) → new ≡ items ++ name ∷ [] →
    new ≡ counters (n + 1)
one-counter-more items new name n so is added =
    let e : n + 1 ≡ 1 + n = omega arith in
    let one : suc n ≡ n + 1 = omega arith in
    added ∙ (λ i. so i ++ (is ∙ ap counter e) i ∷ []) ∙ sym (map-append counter (range_with_len 1 n) ((1 + n) ∷ []))
    ∙ ap (map counter) (sym (range_more 1 n)) ∙ ap counters one

-- Whole cycles of turns that are counted at once, each of a role that is ahead.
use Rattle.std.proofs.Common.{◌≡◌, ◌<◌, ◌≤◌, ◌+◌, ◌-◌, ◌*◌, ◌%◌, ℕ, zero, suc, List, [], ◌∷◌, length, get_or, set, drop, Some, slice_get}
use Rattle.std.proofs.Common.{refl, sym, ap, ◌∙◌, subst, arith, drop-cons, mod-eq_of_lt}
use Rattle.std.proofs.lemmas.List.{drop_all}
use Rattle.vm_model.specs.Program.{Program}
use Rattle.vm_world_law.specs.World.{World}
use Rattle.vm_world.specs.Seen.{Seen}
use Rattle.vm_world.proofs.Due.{mod_whole}
use Rattle.vm_world.proofs.Several.{Several, down_several}
use Rattle.vm_world.proofs.Cycles.{times, named_times, turned, get_turned, less_enough, cycled, is_cycled}

module _ (p : Program) (first : World) (order : List ℕ) (limit : ℕ) (now : Seen)
    (numbers : (i r : ℕ) → slice_get order i ≡ Some r → r < length first.roles) where
  abbrev After : (ahead : List ℕ) → (left idle next : ℕ) → Type 0
  After ahead left idle next = Several p first order limit now ahead left idle next

  -- the turn of a role that is ahead by as much as its turns up to the end of the cycle
  one_turn : (i left idle : ℕ) (ahead : List ℕ) → i < length order → After ahead left idle i → idle < length order →
      ((r : ℕ) → times r (get_or order i 0 ∷ drop (suc i) order) ≤ get_or ahead r 0) → 0 < left →
      After (set ahead (get_or order i 0) (get_or ahead (get_or order i 0) 0 - 1)) (left - 1) 0 ((i + 1) % length order)
  one_turn i left idle ahead lt h more enough some =
      let named : 0 < times (get_or order i 0) (get_or order i 0 ∷ drop (suc i) order) =
      named_times (get_or order i 0 ∷ drop (suc i) order) (get_or order i 0) (0, omega arith, refl) in
      let le = enough (get_or order i 0) in
      down_several p first order limit now ahead left idle i h more numbers (get_or order i 0) refl ((i + 1) % length order) refl
      (omega (arith, named, le)) some

  -- those up to the end of the cycle
  to_end : (m i left idle : ℕ) (ahead : List ℕ) → i + suc m ≡ length order → After ahead left idle i → idle < length order →
      ((r : ℕ) → times r (drop i order) ≤ get_or ahead r 0) → suc m ≤ left → After (turned (drop i order) ahead) (left - suc m) 0 0
  to_end zero i left idle ahead last h more enough le =
      let lt : i < length order = omega (arith, last) in
      let split : drop i order ≡ get_or order i 0 ∷ drop (suc i) order = drop-cons order i 0 lt in
      let none : drop (suc i) order ≡ [] = drop_all (suc i) order (omega (arith, last)) in
      let back : (i + 1) % length order ≡ 0 =
      ap (λ n. n % length order) (let e : i + 1 ≡ 0 + length order = omega (arith, last) in e) ∙ mod_whole 0 (length order)
      ∙ mod-eq_of_lt (let pos : 0 < length order = omega (arith, lt) in pos) in
      let turn = one_turn i left idle ahead lt h more (subst (λ l. (r : ℕ) → times r l ≤ get_or ahead r 0) split enough)
      (omega (arith, le)) in
      subst (λ l. After (turned l ahead) (left - 1) 0 0) (sym (split ∙ ap (λ l. get_or order i 0 ∷ l) none))
      (subst (λ n. After (set ahead (get_or order i 0) (get_or ahead (get_or order i 0) 0 - 1)) (left - 1) 0 n) back turn)
  to_end (suc m) i left idle ahead last h more enough le =
      let lt : i < length order = omega (arith, last) in
      let split : drop i order ≡ get_or order i 0 ∷ drop (suc i) order = drop-cons order i 0 lt in
      let enough_here = subst (λ l. (r : ℕ) → times r l ≤ get_or ahead r 0) split enough in
      let on : (i + 1) % length order ≡ suc i =
      mod-eq_of_lt (let e : i + 1 < length order = omega (arith, last) in e) ∙ (let e : i + 1 ≡ suc i = omega arith in e) in
      let turn = one_turn i left idle ahead lt h more enough_here (omega (arith, le)) in
      let rest =
      to_end m (suc i) (left - 1) 0 (set ahead (get_or order i 0) (get_or ahead (get_or order i 0) 0 - 1)) (omega (arith, last))
      (subst (λ n. After (set ahead (get_or order i 0) (get_or ahead (get_or order i 0) 0 - 1)) (left - 1) 0 n) on turn)
      (omega (arith, lt)) (λ r. less_enough ahead (get_or order i 0) r (drop (suc i) order) (enough_here r)) (omega (arith, le)) in
      subst (λ l. After (turned l ahead) (left - suc (suc m)) 0 0) (sym split)
      (subst
      (λ n. After (turned (drop (suc i) order) (set ahead (get_or order i 0) (get_or ahead (get_or order i 0) 0 - 1))) n 0 0)
      (let e : left - 1 - suc m ≡ left - suc (suc m) = omega arith in e) rest)

  -- a whole cycle
  one_cycle : (left idle : ℕ) (ahead : List ℕ) → After ahead left idle 0 → idle < length order →
      ((r : ℕ) → times r order ≤ get_or ahead r 0) → length order ≤ left → After (turned order ahead) (left - length order) 0 0
  one_cycle left idle ahead h more enough le =
      let whole : suc (length order - 1) ≡ length order = omega (arith, more) in
      subst (λ n. After (turned order ahead) (left - n) 0 0) whole
      (to_end (length order - 1) 0 left idle ahead (omega (arith, more)) h more enough (omega (arith, more, le)))

  -- so many cycles
  cycles_down : (k left idle : ℕ) (ahead : List ℕ) → After ahead left idle 0 → idle < length order →
      ((r : ℕ) → suc k * times r order ≤ get_or ahead r 0) → suc k * length order ≤ left →
      After (cycled (suc k) order ahead) (left - suc k * length order) 0 0
  cycles_down zero left idle ahead h more enough le =
      let once : 1 * length order ≡ length order = grind arith in
      subst (λ n. After (turned order ahead) (left - n) 0 0) (sym once)
      (one_cycle left idle ahead h more
      (λ r. let e : 1 * times r order ≡ times r order = grind arith in let b = enough r in omega (arith, e, b)) (omega (arith, once, le)))
  cycles_down (suc k) left idle ahead h more enough le =
      let again : suc (suc k) * length order ≡ length order + suc k * length order = grind arith in
      let first_one = one_cycle left idle ahead h more
      (λ r. let e : suc (suc k) * times r order ≡ times r order + suc k * times r order = grind arith in let b = enough r in omega (arith, e, b))
      (omega (arith, again, le)) in
      let rest = cycles_down k (left - length order) 0 (turned order ahead) first_one (omega (arith, more))
      (λ r.
      let e : suc (suc k) * times r order ≡ 1 * times r order + suc k * times r order = grind arith in
      let b = enough r in
      let g : get_or (turned order ahead) r 0 ≡ get_or ahead r 0 - 1 * times r order = get_turned order ahead r in
      omega (arith, e, b, g))
      (omega (arith, again, le)) in
      subst (λ n. After (cycled (suc k) order (turned order ahead)) n 0 0)
      (let e : left - length order - suc k * length order ≡ left - suc (suc k) * length order = omega (arith, again) in e) rest

  module _ (ahead : List ℕ) (left idle next : ℕ) (h : After ahead left idle next) (more : idle < length order) (begins : next ≡ 0) where
    -- what the program counts at once
    pub cycles_several : (cycles turns : ℕ) (later : List ℕ) → 0 < cycles → turns ≡ cycles * length order → cycles * length order ≤ left →
        ((r : ℕ) → cycles * times r order ≤ get_or ahead r 0) → length later ≡ length ahead →
        ((r : ℕ) → get_or later r 0 ≡ get_or ahead r 0 - cycles * times r order) → After later (left - turns) 0 next
    cycles_several zero turns later some is le enough long each = absurd (omega (arith, some))
    cycles_several (suc k) turns later some is le enough long each =
        subst (λ n. After later (left - turns) 0 n) (sym begins)
        (subst (λ n. After later (left - n) 0 0) (sym is)
        (subst (λ (l : List ℕ). After l (left - suc k * length order) 0 0) (is_cycled (suc k) order ahead later long each)
        (cycles_down k left idle ahead (subst (λ n. After ahead left idle n) begins h) more enough le)))

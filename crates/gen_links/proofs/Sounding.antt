-- In code that is assembled of right instructions each jump reaches the start of an instruction.
use Rattle.std.proofs.Common.{◌≡◌, ℕ, zero, suc, pos, ◌+◌, ◌<◌, ◌+ℤ◌, ◌-ℤ◌, Bool, true, false, ◌||◌, not}
use Rattle.std.proofs.Common.{List, [], ◌∷◌, length, map, get_or, None, refl, sym, ap, ◌∙◌, subst, arith}
use Rattle.std.specs.List.{AllByRecursion, list_any}
use Rattle.std.specs.Ordering.{int_eq}
use Rattle.std.proofs.lemmas.Bool.Decides.{Decides-int_eq}
use Rattle.cls_tree.specs.declared.class.Const.{Const}
use Rattle.cls_tree.specs.Pool.{Int, Letters}
use Rattle.cls_tree.specs.Tree as file
use Rattle.cls_tree.specs.Layout.{instr_bytes}
use Rattle.cls_tree.specs.Jumps.{starts_from, is_start, jumps_outside, first_outside_from, first_outside}
use Rattle.vm_model.specs.Links.{Outline}
use Rattle.gen_rules.specs.Symbolic.{Operand, Nothing, Number, Constant, Local, Jump, Table, Class, Field, Method, Instr}
use Rattle.gen_rules.specs.Assembled.{distance, aimed_by, all_aimed, aimed, all_numbered, assembled}
use Rattle.gen_links.specs.Right.{IsRightWith, IsRight, AreRight}
use Rattle.gen_links.proofs.Starts.{length-starts}
use Rattle.gen_links.proofs.Numbers.{Numbers, AllNumbers, all_numbered-gives, as_many}
use Rattle.gen_links.proofs.Judging.{aimed_size, starts_aimed}

or_true : (b : Bool) → (b || true) ≡ true
or_true true = refl
or_true false = refl

-- an instruction starts where the list of starts says
starts_there : (starts : List ℕ) (n : ℕ) → n < length starts → is_start starts (pos (get_or starts n 0)) ≡ true
starts_there [] n h = absurd (omega (arith, h))
starts_there (s ∷ starts) zero h = rw ((Decides-int_eq (pos s) (pos s)).1 refl) refl
starts_there (s ∷ starts) (suc n) h =
    ap (λ b. int_eq (pos s) (pos (get_or starts n 0)) || b) (starts_there starts n (omega (arith, h)))
    ∙ or_true (int_eq (pos s) (pos (get_or starts n 0)))

module _ (starts : List ℕ) (here : ℕ) where
  reaches : (n : ℕ) → n < length starts → is_start starts (pos here +ℤ distance starts here n) ≡ true
  reaches n h =
      let there = get_or starts n 0 in
      let back : pos here +ℤ (pos there -ℤ pos here) ≡ pos there = grind arith in
      ap (is_start starts) back ∙ starts_there starts n h

  all_reach : (ns : List ℕ) → AllByRecursion (λ n. n < length starts) ns →
      list_any (λ d. not (is_start starts (pos here +ℤ d))) (map (distance starts here) ns) ≡ false
  all_reach [] h = refl
  all_reach (n ∷ ns) h = rw (reaches n h.0, all_reach ns h.1) refl

  module _ (os : List Outline) (pool : List Const) where
    stays_inside : (op : ℕ) (o : Operand) (j : file.Instr) → IsRightWith os (length starts) op o → Numbers pool op o j →
        jumps_outside starts here (aimed_by starts here o j) ≡ false
    unfolding jumps_outside
    stays_inside op Nothing j r n = subst (λ x. jumps_outside starts here (aimed_by starts here Nothing x) ≡ false) (sym n) refl
    stays_inside op (Number z) j r n = subst (λ x. jumps_outside starts here (aimed_by starts here (Number z) x) ≡ false) (sym n) refl
    stays_inside op (Constant (Int z)) j r n =
        subst (λ x. jumps_outside starts here (aimed_by starts here (Constant (Int z)) x) ≡ false) (sym n.1) refl
    stays_inside op (Constant (Letters text)) j r n =
        subst (λ x. jumps_outside starts here (aimed_by starts here (Constant (Letters text)) x) ≡ false) (sym n.1) refl
    stays_inside op (Local k) j r n = subst (λ x. jumps_outside starts here (aimed_by starts here (Local k) x) ≡ false) (sym n) refl
    stays_inside op (Jump t) j r n = rw (reaches t r.0) refl
    stays_inside op (Table d ts) j r n = rw (reaches d r.0, all_reach ts r.1) refl
    stays_inside op (Class name) j r n =
        subst (λ x. jumps_outside starts here (aimed_by starts here (Class name) x) ≡ false) (sym n.1) refl
    stays_inside op (Field m) j r n = subst (λ x. jumps_outside starts here (aimed_by starts here (Field m) x) ≡ false) (sym n.1) refl
    stays_inside op (Method m) j r n = subst (λ x. jumps_outside starts here (aimed_by starts here (Method m) x) ≡ false) (sym n.1) refl

module _ (os : List Outline) (pool : List Const) (starts : List ℕ) where
  none_outside : (here : ℕ) (is : List Instr) (js : List file.Instr) → AllNumbers pool is js →
      AllByRecursion (IsRight os (length starts)) is →
      first_outside_from starts here (all_aimed starts (starts_from here js) is js) ≡ None
  unfolding starts_from first_outside_from
  none_outside here [] [] h r = refl
  none_outside here [] (j ∷ js) h r = absurd h
  none_outside here (i ∷ is) [] h r = absurd h
  none_outside here (i ∷ is) (j ∷ js) h r =
      let next = here + length (instr_bytes here j) in
      let same : here + length (instr_bytes here (aimed_by starts here i.operand j)) ≡ next
      = ap (λ n. here + n) (aimed_size pool starts here i.op i.operand j h.0) in
      let rest = all_aimed starts (starts_from next js) is js in
      rw (stays_inside starts here os pool i.op i.operand j r.0 h.0)
      (ap (λ n. first_outside_from starts n rest) same ∙ none_outside next is js h.1 r.1)

pub jumps_inside : (os : List Outline) (is : List Instr) (pool : List Const) → AreRight os is → first_outside (assembled is pool).0 ≡ None
jumps_inside os is pool r =
    let made = all_numbered-gives is pool in
    let js = (all_numbered is pool).0 in
    let left = (all_numbered is pool).1 in
    let starts = starts_from 0 js in
    let count : length is ≡ length starts = sym (length-starts 0 js ∙ as_many left is js made.holds) in
    ap (λ ss. first_outside_from ss 0 (aimed is js)) (starts_aimed left starts 0 is js made.holds)
    ∙ none_outside os left starts 0 is js made.holds (subst (λ k. AllByRecursion (IsRight os k) is) count r)

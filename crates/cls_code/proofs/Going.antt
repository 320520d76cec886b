-- Going over the instructions of a code for the first that jumps outside, and the places at which they start.
use Rattle.std.proofs.Common.{◌≡◌, ℕ, suc, ◌+◌, ◌<◌, ◌≤◌, Bool, true, false, cond, List, [], ◌∷◌, ◌++◌, length, get_or, drop, map, Option}
use Rattle.std.proofs.Common.{Some, None, refl, sym, ap, subst, ◌∙◌, append_assoc, append-nil, length-append, arith}
use Rattle.std.proofs.lemmas.List.{drop_more, drop_all, drop-drop, get_or-drop}
use Rattle.std.specs.List.{All, AllByRecursion}
use Rattle.std.proofs.lemmas.List.Elements.{All-same, All-from_recursion}
use Rattle.std.proofs.Math.ListN.{length-map}
use Rattle.cls_tree.specs.declared.instr.Instr.{Instr as Kept}
use Rattle.cls_tree.specs.Tree.{Instr}
use Rattle.cls_tree.specs.View.{instr_of, instrs_of}
use Rattle.cls_tree.specs.Layout.{instr_bytes, code_from, code_bytes}
use Rattle.cls_tree.specs.Jumps.{starts_from, jumps_outside, first_outside, first_outside_from}
use Rattle.cls_code.specs.Inner.{IsMarked}

-- From this index on the rest of the instructions decides.
pub record Going (kept : List Kept) (starts : List ℕ) (k : ℕ) : Type 0 where
  pub place : ℕ
  pub same : first_outside (instrs_of kept) ≡ first_outside_from (starts_from 0 (instrs_of kept)) place (instrs_of (drop k kept))
  pub places : drop k starts ≡ starts_from place (instrs_of (drop k kept))

pub going_first : (kept : List Kept) (starts : List ℕ) → starts ≡ starts_from 0 (instrs_of kept) → Going kept starts 0
going_first kept starts e = record { place = 0; same = refl; places = e }

head_is : (xs ys : List ℕ) (x : ℕ) → xs ≡ x ∷ ys → get_or xs 0 0 ≡ x
head_is xs ys x e = ap (λ l. get_or l 0 0) e

tail_is : (xs ys : List ℕ) (x : ℕ) → xs ≡ x ∷ ys → drop 1 xs ≡ ys
tail_is xs ys x e = ap (drop 1) e

at_drop : (xs : List ℕ) (k : ℕ) → get_or (drop k xs) 0 0 ≡ get_or xs k 0
at_drop xs k = rw get_or-drop (ap (λ n. get_or xs n 0) (omega arith))

drop_drop : (xs : List ℕ) (k : ℕ) → drop 1 (drop k xs) ≡ drop (k + 1) xs
drop_drop xs k = drop-drop 1 k xs

module _ (kept : List Kept) (starts : List ℕ) (k : ℕ) (x : Kept) (below : k < length kept) (is : x ≡ get_or kept k x)
    (g : Going kept starts k) where
  rest_is : drop k kept ≡ x ∷ drop (k + 1) kept
  rest_is = drop_more kept k x below ∙ ap (λ y. y ∷ drop (k + 1) kept) (sym is)

  next : ℕ
  next = g.place + length (instr_bytes g.place (instr_of x))

  places_are : drop k starts ≡ g.place ∷ starts_from next (instrs_of (drop (k + 1) kept))
  unfolding starts_from next
  places_are = g.places ∙ ap (λ ks. starts_from g.place (instrs_of ks)) rest_is

  pub place_is : get_or starts k 0 ≡ g.place
  place_is = sym (at_drop starts k) ∙ head_is (drop k starts) (starts_from next (instrs_of (drop (k + 1) kept))) g.place places_are

  same_is : first_outside (instrs_of kept)
      ≡ cond (jumps_outside (starts_from 0 (instrs_of kept)) g.place (instr_of x)) (Some g.place)
      (first_outside_from (starts_from 0 (instrs_of kept)) next (instrs_of (drop (k + 1) kept)))
  unfolding first_outside_from next
  same_is = g.same ∙ ap (λ ks. first_outside_from (starts_from 0 (instrs_of kept)) g.place (instrs_of ks)) rest_is

  pub going_on : jumps_outside (starts_from 0 (instrs_of kept)) (get_or starts k 0) (instr_of x) ≡ false → Going kept starts (k + 1)
  going_on e =
      let inside = ap (λ p. jumps_outside (starts_from 0 (instrs_of kept)) p (instr_of x)) (sym place_is) ∙ e in
      record {
        place = next;
        same = same_is ∙ ap (λ b. cond b (Some g.place) (first_outside_from (starts_from 0 (instrs_of kept)) next
            (instrs_of (drop (k + 1) kept)))) inside;
        places = sym (drop_drop starts k) ∙ tail_is (drop k starts) (starts_from next (instrs_of (drop (k + 1) kept))) g.place places_are;
      }

  pub going_found : jumps_outside (starts_from 0 (instrs_of kept)) (get_or starts k 0) (instr_of x) ≡ true →
      first_outside (instrs_of kept) ≡ Some (get_or starts k 0)
  going_found e =
      let outside = ap (λ p. jumps_outside (starts_from 0 (instrs_of kept)) p (instr_of x)) (sym place_is) ∙ e in
      same_is ∙ ap (λ b. cond b (Some g.place) (first_outside_from (starts_from 0 (instrs_of kept)) next (instrs_of (drop (k + 1) kept))))
      outside
      ∙ ap Some (sym place_is)

pub going_over : (kept : List Kept) (starts : List ℕ) (k : ℕ) → length kept ≤ k → Going kept starts k →
    first_outside (instrs_of kept) ≡ None
unfolding first_outside_from
going_over kept starts k le g = g.same ∙ ap (λ ks. first_outside_from (starts_from 0 (instrs_of kept)) g.place (instrs_of ks))
    (drop_all k kept le)

-- there is a start for each instruction, and each lies within the code
pub length-starts : (place : ℕ) (is : List Instr) → length (starts_from place is) ≡ length is
unfolding starts_from
length-starts place [] = refl
length-starts place (i ∷ is) = ap suc (length-starts (place + length (instr_bytes place i)) is)

pub starts_within : (place len : ℕ) (is : List Instr) → place + length (code_from place is) ≤ len →
    AllByRecursion (λ s. s < len) (starts_from place is)
unfolding starts_from
starts_within place len [] le = tt
starts_within place len (i ∷ is) le =
    let next = place + length (instr_bytes place i) in
    let both = length-append (instr_bytes place i) (code_from next is) in
    (omega arith, starts_within next len is (omega arith))

behind : (a b c d : ℕ) → d ≡ b + c → (a + b) + c ≡ a + d
behind a b c d e = omega arith

-- one more instruction behind a code
pub code_snoc : (place : ℕ) (is : List Instr) (i : Instr) → code_from place (is ++ i ∷ []) ≡ code_from place is
    ++ instr_bytes (place + length (code_from place is)) i
code_snoc place [] i = append-nil (instr_bytes place i) ∙ ap (λ n. instr_bytes n i) (omega arith)
code_snoc place (k ∷ is) i =
    let here = instr_bytes place k in
    let next = place + length here in
    ap (λ bs. here ++ bs) (code_snoc next is i) ∙
    sym (append_assoc here (code_from next is) (instr_bytes (next + length (code_from next is)) i))
    ∙ ap (λ n. (here ++ code_from next is) ++ instr_bytes n i) (behind place (length here) (length (code_from next is))
    (length (here ++ code_from next is)) (length-append here (code_from next is)))

pub starts_snoc : (place : ℕ) (is : List Instr) (i : Instr) → starts_from place (is ++ i ∷ []) ≡ starts_from place is
    ++ (place + length (code_from place is)) ∷ []
unfolding starts_from
starts_snoc place [] i = ap (λ n. n ∷ []) (omega arith)
starts_snoc place (k ∷ is) i =
    let here = instr_bytes place k in
    let next = place + length here in
    ap (λ ns. place ∷ ns) (starts_snoc next is i)
    ∙ ap (λ n. place ∷ (starts_from next is ++ n ∷ [])) (behind place (length here) (length (code_from next is))
    (length (here ++ code_from next is)) (length-append here (code_from next is)))

-- each start of a code lies within it
pub all_within : (starts : List ℕ) (kept : List Kept) (len : ℕ) → starts ≡ starts_from 0 (instrs_of kept) →
    len ≡ length (code_bytes (instrs_of kept)) → All (λ s. s < len) starts
all_within starts kept len e long =
    All-same (λ s. s < len) starts (starts_from 0 (instrs_of kept)) e
    (All-from_recursion (λ s. s < len) (starts_from 0 (instrs_of kept)) (starts_within 0 len (instrs_of kept) (omega (arith, long))))

pub as_many : (starts : List ℕ) (kept : List Kept) → starts ≡ starts_from 0 (instrs_of kept) → length starts ≡ length kept
as_many starts kept e = ap length e ∙ length-starts 0 (instrs_of kept) ∙ length-map kept instr_of

pub marks_are : (a b : List ℕ) (x y : List Bool) → a ≡ b → y ≡ x → IsMarked a x → IsMarked b y
marks_are a b x y e f m = subst (λ k. IsMarked k y) e (subst (IsMarked a) (sym f) m)

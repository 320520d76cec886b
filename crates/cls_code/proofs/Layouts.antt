-- Instructions that were laid out from the left.
use Rattle.std.proofs.Common.{◌≡◌, ◌⊎◌, ℕ, ℤ, suc, ◌+◌, ◌<◌, ◌≤◌, List, [], ◌∷◌, ◌++◌, length, take, drop, map, get_or, Option, Some, None}
use Rattle.std.proofs.Common.{refl, sym, ap, subst, ◌∙◌, append_assoc, append-nil, length-append, length-drop, add-one, arith, inl, inr}
use Rattle.std.proofs.lemmas.List.{drop_all, drop-drop, drop_more, map-append, take_more}
use Rattle.std.specs.List.{AllByRecursion}
use Rattle.cls_tree.specs.declared.instr.Instr.{Instr as Kept}
use Rattle.cls_tree.specs.Tree.{Instr}
use Rattle.cls_tree.specs.View.{instr_of, instrs_of}
use Rattle.cls_tree.specs.Layout.{instr_bytes, code_from, code_bytes}
use Rattle.cls_tree.specs.Fits.{FitsInstr}
use Rattle.cls_tree.specs.Jumps.{starts_from}
use Rattle.cls_code.specs.declared.CodeFault.{CodeFault}
use Rattle.cls_code.specs.declared.CodeFault.TheVariants as faults
use Rattle.mg_text.specs.Row.{Row}
use Rattle.std.specs.Prelude.{Result, Ok, Err}
use Rattle.cls_tree.specs.Jumps.{first_outside}
use Rattle.cls_tree.specs.Tree.{Table}
use Rattle.cls_code.specs.Answer.{IsDecoded, IsDecodedOrMemory}
use Rattle.cls_code.proofs.Once.{decodes_once}
use Rattle.cls_code.specs.Code.{unfit, Decodes, Decoding, Instrs, stuck, outside, whole, Fault}
use Rattle.cls_code.specs.Inner.{instr_in, size_in, ArePlaced, ArePlacedOr}
use Rattle.cls_code.proofs.Spelled.{IsBytes, bytes_drop}
use Rattle.cls_code.proofs.Stands.{Stood, stands}
use Rattle.cls_code.proofs.Going.{code_snoc, starts_snoc}

All-snoc : {A : Type 0} (P : A → Type 0) (xs : List A) (x : A) → AllByRecursion P xs → P x → AllByRecursion P (xs ++ x ∷ [])
All-snoc P [] x all one = (one, tt)
All-snoc P (y ∷ xs) x all one = (all.0, All-snoc P xs x all.1 one)

-- These instructions were read, with their starts, and the rest of the bytes begins at this place.
pub record IsRead (bytes : List ℕ) (is : List Instr) (starts : List ℕ) (place : ℕ) : Type 0 where
  pub fit : AllByRecursion FitsInstr is
  pub spelled : bytes ≡ code_bytes is ++ drop place bytes
  pub at : place ≡ length (code_bytes is)
  pub started : starts ≡ starts_from 0 is
  pub within : place ≤ length bytes

pub read_first : (bytes : List ℕ) (kept : List Kept) (starts : List ℕ) → kept ≡ [] → starts ≡ [] → IsRead bytes (instrs_of kept) starts 0
unfolding starts_from
read_first bytes kept starts e f =
    record {
      fit = subst (λ ks. AllByRecursion FitsInstr (instrs_of ks)) (sym e) tt;
      spelled = ap (λ ks. code_bytes (instrs_of ks) ++ bytes) (sym e);
      at = ap (λ ks. length (code_bytes (instrs_of ks))) (sym e);
      started = f ∙ ap (λ ks. starts_from 0 (instrs_of ks)) (sym e);
      within = omega arith;
    }

module _ (bytes : List ℕ) (fits : IsBytes bytes) (kept more : List Kept) (starts : List ℕ) (place : ℕ)
    (r : IsRead bytes (instrs_of kept) starts place) where
  pub read_more : (k : Kept) (size : ℕ) → unfit place (drop place bytes) ≡ None → instr_of k ≡ instr_in place (drop place bytes) →
      size ≡ size_in place (drop place bytes)
      → more ≡ kept ++ k ∷ [] → IsRead bytes (instrs_of more) (starts ++ place ∷ []) (place + size)
  read_more k size none is sized e =
      let rest = drop place bytes in
      let i = instr_in place rest in
      let s = stands place rest (bytes_drop place bytes fits) none in
      let all : instrs_of more ≡ instrs_of kept ++ i ∷ [] = ap instrs_of e ∙ map-append instr_of kept (k ∷ []) ∙
      ap (λ x. instrs_of kept ++ x ∷ []) is in
      let code : code_bytes (instrs_of more) ≡ code_bytes (instrs_of kept) ++ instr_bytes place i =
      ap code_bytes all ∙ code_snoc 0 (instrs_of kept) i ∙ ap (λ n. code_bytes (instrs_of kept) ++ instr_bytes n i)
      (here (length (code_bytes (instrs_of kept))) r.at) in
      let long : length (code_bytes (instrs_of more)) ≡ length (code_bytes (instrs_of kept)) + length (instr_bytes place i) =
      ap length code ∙ length-append (code_bytes (instrs_of kept)) (instr_bytes place i) in
      let rest_is : drop size rest ≡ drop (place + size) bytes = drop-drop size place bytes ∙ ap (λ n. drop n bytes) (omega arith) in
      let at = r.at in
      let len = s.sized in
      let rest_size = length-drop place bytes in
      let fit = s.within in
      let started = r.started in
      record {
        fit = subst (AllByRecursion FitsInstr) (sym all) (All-snoc FitsInstr (instrs_of kept) i r.fit s.fits);
        spelled = r.spelled ∙ ap (λ bs. code_bytes (instrs_of kept) ++ bs) (s.spelled ∙ ap (λ n. instr_bytes place i ++ drop n rest)
            (sym sized) ∙ ap (λ bs. instr_bytes place i ++ bs) rest_is)
            ∙ sym (append_assoc (code_bytes (instrs_of kept)) (instr_bytes place i) (drop (place + size) bytes)) ∙
            ap (λ bs. bs ++ drop (place + size) bytes) (sym code);
        at = omega arith;
        started = ap (λ ns. ns ++ place ∷ []) started ∙ ap (λ n. starts_from 0 (instrs_of kept) ++ n ∷ [])
            (sym (here (length (code_bytes (instrs_of kept))) r.at)) ∙ sym (starts_snoc 0 (instrs_of kept) i) ∙ ap (starts_from 0)
            (sym all);
        within = let w = r.within in omega arith;
      }
    where
      here : (n : ℕ) → place ≡ n → 0 + n ≡ place
      here n e = omega arith

  pub read_stuck : (fault : CodeFault) → length bytes ≤ 32767 → place < length bytes → unfit place (drop place bytes) ≡ Some fault →
      Decodes bytes (Fault fault)
  read_stuck fault short below u =
      stuck (drop place bytes) short r.fit r.spelled (inl (omega (arith, length-drop place bytes)))
      (ap (λ n. unfit n (drop place bytes)) (sym r.at) ∙ u)

  pub read_all : 0 < length bytes → length bytes ≤ place → ArePlaced bytes (instrs_of kept) starts
  read_all some over =
      let none : drop place bytes ≡ [] = drop_all place bytes over in
      record {
        fit = (r.fit, nonempty (instrs_of kept) (r.spelled ∙ ap (λ bs. code_bytes (instrs_of kept) ++ bs) none));
        spelled = r.spelled ∙ ap (λ bs. code_bytes (instrs_of kept) ++ bs) none ∙ append-nil (code_bytes (instrs_of kept));
        started = r.started;
      }
    where
      nonempty : (is : List Instr) → bytes ≡ code_bytes is ++ [] → 0 < length is
      nonempty [] e = absurd (let n = ap length e in omega arith)
      nonempty (i ∷ is) e = omega arith

-- one more instruction was written
pub written_more : (kept : List Kept) (k : ℕ) (d : Kept) → k < length kept
    → (code_bytes (instrs_of (take (k + 1) kept)) ≡ code_bytes (instrs_of (take k kept))
    ++ instr_bytes (length (code_bytes (instrs_of (take k kept)))) (instr_of (get_or kept k d)))
    × (starts_from 0 (instrs_of (take (k + 1) kept)) ≡ starts_from 0 (instrs_of (take k kept))
    ++ length (code_bytes (instrs_of (take k kept))) ∷ [])
written_more kept k d below =
    let all : instrs_of (take (k + 1) kept) ≡ instrs_of (take k kept) ++ instr_of (get_or kept k d) ∷ [] =
    ap instrs_of (take_more kept k d below) ∙ map-append instr_of (take k kept) (get_or kept k d ∷ []) in
    let from = instrs_of (take k kept) in
    let i = instr_of (get_or kept k d) in (
      ap code_bytes all ∙ code_snoc 0 from i ∙ ap (λ n. code_bytes from ++ instr_bytes n i) (omega arith),
      ap (starts_from 0) all ∙ starts_snoc 0 from i ∙ ap (λ n. starts_from 0 from ++ n ∷ []) (omega arith),
    )

-- bytes that are none
pub empty_short : (bytes : List ℕ) → bytes ≡ [] → Decodes bytes (Fault (faults.Short 0))
unfolding unfit
empty_short bytes e = stuck [] (let n = ap length e in omega arith) tt e (inr refl) refl

-- a fault of bytes, as an answer
pub placed_fault : (bytes : List ℕ) (fault : CodeFault) → Decodes bytes (Fault fault) → ArePlacedOr bytes (Err fault)
placed_fault bytes (faults.CodeTooLong n) d = d
placed_fault bytes (faults.UnknownOpcode n) d = d
placed_fault bytes (faults.Short n) d = d
placed_fault bytes (faults.BadSwitch n) d = d
placed_fault bytes (faults.JumpOutside n) d = d
placed_fault bytes faults.Memory d = tt

-- the instruction that was read lies within the bytes, and takes some of them
pub read_within : (bytes : List ℕ) (place size : ℕ) → IsBytes bytes → place ≤ length bytes → unfit place (drop place bytes) ≡ None →
    size ≡ size_in place (drop place bytes)
    → (place + size ≤ length bytes) × (0 < size)
read_within bytes place size fits le none sized =
    let s = stands place (drop place bytes) (bytes_drop place bytes fits) none in
    let w = s.within in
    let l = s.sized in
    let n = length-drop place bytes in
    (omega arith, omega arith)

-- what was decoded is all that the bytes are
exact_fault : (bytes : List ℕ) (fault : CodeFault) (decoding : Decoding) → Decodes bytes (Fault fault) → Decodes bytes decoding →
    decoding ≡ Fault fault
exact_fault bytes fault decoding d e = decodes_once bytes decoding (Fault fault) e d

of_fault : (decoding : Decoding) (fault : CodeFault) → decoding ≡ Fault fault → IsDecodedOrMemory decoding (Err fault)
of_fault decoding fault e = subst (λ d. IsDecodedOrMemory d (Err fault)) (sym e) (own fault)
  where
    own : (fault : CodeFault) → IsDecodedOrMemory (Fault fault) (Err fault)
    own (faults.CodeTooLong n) = refl
    own (faults.UnknownOpcode n) = refl
    own (faults.Short n) = refl
    own (faults.BadSwitch n) = refl
    own (faults.JumpOutside n) = refl
    own faults.Memory = tt

free : (decoding : Decoding) → IsDecodedOrMemory decoding (Err faults.Memory)
free (Instrs is) = tt
free (Fault fault) = tt

pub exact_of : (bytes : List ℕ) (result : Result (Row Kept) CodeFault) → IsDecoded bytes result → (decoding : Decoding) →
    Decodes bytes decoding → IsDecodedOrMemory decoding result
exact_of bytes (Ok r) found decoding d =
    subst (λ x. IsDecodedOrMemory x (Ok r)) (decodes_once bytes (Instrs (instrs_of r.items)) decoding found d) refl
exact_of bytes (Err faults.Memory) found decoding d = free decoding
exact_of bytes (Err (faults.CodeTooLong n)) found decoding d = of_fault decoding _ (exact_fault bytes _ decoding found d)
exact_of bytes (Err (faults.UnknownOpcode n)) found decoding d = of_fault decoding _ (exact_fault bytes _ decoding found d)
exact_of bytes (Err (faults.Short n)) found decoding d = of_fault decoding _ (exact_fault bytes _ decoding found d)
exact_of bytes (Err (faults.BadSwitch n)) found decoding d = of_fault decoding _ (exact_fault bytes _ decoding found d)
exact_of bytes (Err (faults.JumpOutside n)) found decoding d = of_fault decoding _ (exact_fault bytes _ decoding found d)

-- all instructions were laid out, and their jumps were judged
pub all_inside : (bytes : List ℕ) (kept : List Kept) (starts : List ℕ) → length bytes ≤ 32767 → ArePlaced bytes (instrs_of kept) starts →
    None ≡ first_outside (instrs_of kept)
    → Decodes bytes (Instrs (instrs_of kept))
all_inside bytes kept starts short p none =
    whole p.fit (record { short = let n = ap length p.spelled in omega arith; inside = sym none }) p.spelled

pub one_outside : (bytes : List ℕ) (kept : List Kept) (starts : List ℕ) (place : ℕ) → length bytes ≤ 32767 →
    ArePlaced bytes (instrs_of kept) starts → Some place ≡ first_outside (instrs_of kept)
    → Decodes bytes (Fault (faults.JumpOutside place))
one_outside bytes kept starts place short p some = outside (instrs_of kept) short p.fit p.spelled (sym some)

-- five writes are one
pub five : (o o₁ o₂ o₃ o₄ o₅ a b c d e : List ℕ) → o₁ ≡ o ++ a → o₂ ≡ o₁ ++ b → o₃ ≡ o₂ ++ c → o₄ ≡ o₃ ++ d → o₅ ≡ o₄ ++ e
    → o₅ ≡ o ++ (a ++ (b ++ (c ++ (d ++ e))))
five o o₁ o₂ o₃ o₄ o₅ a b c d e h₁ h₂ h₃ h₄ h₅ = rw (h₅, h₄, h₃, h₂, h₁) (simp append_assoc)

pub same_table : (a b c d : ℤ) (os ps : List ℤ) → a ≡ b → c ≡ d → os ≡ ps → Table a c os ≡ Table b d ps
same_table a b c d os ps p q r = cc

-- the instruction at an index, and those behind it
module _ (kept : List Kept) (k : ℕ) (x : Kept) (below : k < length kept) (is : x ≡ get_or kept k x) where
  at_index : instrs_of (drop k kept) ≡ instr_of x ∷ instrs_of (drop (k + 1) kept)
  at_index = ap instrs_of (drop_more kept k x below ∙ ap (λ y. y ∷ drop (k + 1) kept) (sym is))

  pub first_fit : AllByRecursion FitsInstr (instrs_of (drop k kept)) → FitsInstr (instr_of x)
  first_fit all = (subst (AllByRecursion FitsInstr) at_index all).0

  pub rest_fit : AllByRecursion FitsInstr (instrs_of (drop k kept)) → AllByRecursion FitsInstr (instrs_of (drop (k + 1) kept))
  rest_fit all = (subst (AllByRecursion FitsInstr) at_index all).1

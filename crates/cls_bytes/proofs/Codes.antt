-- Codes and attributes: what is read is spelled so, and what is spelled so is read.
use Rattle.std.proofs.Common.{◌≡◌, ℕ, zero, suc, ◌+◌, ◌<◌, ◌≤◌, Bool, true, false, cond, ◌&&◌, List, [], ◌∷◌, ◌++◌, length, take, drop, eqb}
use Rattle.std.proofs.Common.{ltb, Option, Some, None, refl, sym, ap, subst, ◌∙◌, append_assoc, length-append, length-take, arith}
use Rattle.std.proofs.lemmas.Bool.{ltb-false, le-ltb, eqb-true, eq-eqb}
use Rattle.std.proofs.lemmas.Bool.Decides.{nat_tests}
use Rattle.std.proofs.lemmas.List.{take_at, drop_at, take-append-drop}
use Rattle.std.specs.List.{AllByRecursion}
use Rattle.mg_read.proofs.Steps.{bind_some, some_is, none_is_not}
use Rattle.cls_tree.specs.declared.class.Const.{Const}
use Rattle.cls_tree.specs.Tree.{Instr, Inner, Unread, Misplaced, Code, Attr, Coded, Other}
use Rattle.cls_tree.specs.Layout.{u2, u4, instr_bytes, code_from, code_bytes, inner_bytes, content_bytes, attr_bytes}
use Rattle.cls_tree.specs.Fits.{IsU1, IsU2, IsRun, FitsInstr, FitsInstrs, FitsInner, FitsCode}
use Rattle.cls_tree.specs.Jumps.{first_outside, IsSound as IsSoundCode}
use Rattle.cls_tree.specs.ClassFile.{names_code, FileAttr}
use Rattle.cls_code.specs.declared.CodeFault.{CodeFault}
use Rattle.cls_code.specs.Code.{unfit, Decodes, Instrs, Fault, whole}
use Rattle.cls_code.specs.Inner.{instr_in, size_in}
use Rattle.cls_code.proofs.Stands.{stands, seen}
use Rattle.cls_code.proofs.Once.{decodes_once}
use Rattle.cls_bytes.specs.Reading.{number_at, behind, pair_at, in_front, instrs_from, is_none, is_sound, instrs_of, run_at, inner_at}
use Rattle.cls_bytes.specs.Reading.{listed_at, body_at, inners_at, content_at, code_at, other_at, attr_at}
use Rattle.cls_layout.proofs.Held.{held, passed}
use Rattle.cls_bytes.proofs.Steps.{IsBytes, IsBytes-drop, IsBytes-take, Takes, Takes-then, IsSound, IsComplete, read}
use Rattle.cls_bytes.proofs.Numbers.{IsU4, u2_sound, u2_complete, u4_sound, u4_complete, behind_sound, behind_complete}
use Rattle.cls_bytes.proofs.Consts.{pair_bytes, FitPair, pair_sound, pair_complete}
use Rattle.cls_bytes.proofs.Lists.{listed_bytes, FitListed, listed_sound, listed_complete}

-- ---- runs of bytes
abbrev pub run_bytes : List ℕ → List ℕ
run_bytes run = u4 (length run) ++ run

all_bytes : (bytes : List ℕ) → IsBytes bytes → AllByRecursion IsU1 bytes
all_bytes [] fits = tt
all_bytes (b ∷ bytes) fits = (fits 0, all_bytes bytes (λ i. fits (suc i)))

pub run_sound : IsSound run_at run_bytes IsRun
unfolding run_at
run_sound bytes x fits e =
    let n = read (number_at 4) u4 IsU4 _ bytes x u4_sound fits e in
    let p = passed (ltb (length n.rest) n.value) (Some (take n.value n.rest, drop n.value n.rest)) x n.goes_on in
    let long : n.value ≤ length n.rest = ltb-false _ _ p.0 in
    let len : length (take n.value n.rest) ≡ n.value = omega (arith, length-take n.value n.rest) in
    let second : Takes n.rest (take n.value n.rest) (drop n.value n.rest) =
    record { parts = sym (take-append-drop n.value n.rest); rest_fits = IsBytes-drop n.value n.rest n.takes.rest_fits } in
    let both = Takes-then bytes (u4 n.value) n.rest (take n.value n.rest) (drop n.value n.rest) n.takes second in
    let all : Takes bytes (run_bytes (take n.value n.rest)) (drop n.value n.rest) =
    subst (λ (k : ℕ). Takes bytes (u4 k ++ take n.value n.rest) (drop n.value n.rest)) (sym len) both in
    let run : IsRun (take n.value n.rest) = (
      all_bytes (take n.value n.rest) (IsBytes-take n.value n.rest n.takes.rest_fits),
      subst IsU4 (sym len) n.fits,
    ) in
    subst (λ (y : List ℕ × List ℕ). Takes bytes (run_bytes y.0) y.1 × IsRun y.0) (some_is (take n.value n.rest, drop n.value n.rest) x p.1)
    (all, run)

run_back : (run rest : List ℕ) → IsU4 (length run) → run_at (run_bytes run ++ rest) ≡ Some (run, rest)
unfolding run_at
run_back run rest small =
    let long : ltb (length (run ++ rest)) (length run) ≡ false = le-ltb _ _ (omega (arith, length-append run rest)) in
    ap run_at (append_assoc (u4 (length run)) run rest)
    ∙ rw (u4_complete (length run) (run ++ rest) small, long, take_at run rest (length run) refl, drop_at run rest (length run) refl) refl

pub run_complete : IsComplete run_at run_bytes IsRun
run_complete run rest ok = run_back run rest ok.1

-- ---- attributes of a code
pub inner_sound : IsSound inner_at inner_bytes FitsInner
unfolding inner_at
inner_sound bytes x fits e =
    let name = read (number_at 2) u2 IsU2 _ bytes x u2_sound fits e in
    let run = read run_at run_bytes IsRun _ name.rest x run_sound name.takes.rest_fits name.goes_on in
    let all = Takes-then bytes (u2 name.value) name.rest (run_bytes run.value) run.rest name.takes run.takes in
    subst (λ (y : Inner × List ℕ). Takes bytes (inner_bytes y.0) y.1 × FitsInner y.0) (some_is (Unread name.value run.value, run.rest) x
    run.goes_on) (all, (name.fits, run.fits))

pub inner_complete : IsComplete inner_at inner_bytes FitsInner
unfolding inner_at
inner_complete (Unread name run) rest ok = rw (u2_complete name (run_bytes run ++ rest) ok.0, run_complete run rest ok.1) refl
inner_complete Misplaced rest ok = absurd ok

-- ---- instructions
module _ (i : Instr) (is : List Instr) where
  front_some : (u : Option CodeFault) (r : Option (List Instr)) → in_front u i r ≡ Some is → (js : List Instr) × (u ≡ None) × (r ≡ Some js)
      × (is ≡ i ∷ js)
  front_some (Some fault) r e = absurd (none_is_not is e)
  front_some None None e = absurd (none_is_not is e)
  front_some None (Some js) e = (js, refl, refl, sym (some_is (i ∷ js) is e))

instrs_from_sound : (n place : ℕ) (bytes : List ℕ) (is : List Instr) → IsBytes bytes → instrs_from n place bytes ≡ Some is →
    AllByRecursion FitsInstr is × (bytes ≡ code_from place is)
unfolding instrs_from
instrs_from_sound zero place bytes is fits e = absurd (none_is_not is e)
instrs_from_sound (suc n) place [] is fits e = subst (λ k. AllByRecursion FitsInstr k × ([] ≡ code_from place k)) (some_is [] is e)
    (tt, refl)
instrs_from_sound (suc n) place (b ∷ bytes) is fits e =
    let i = instr_in place (b ∷ bytes) in
    let size = size_in place (b ∷ bytes) in
    let f = front_some i is (unfit place (b ∷ bytes)) (instrs_from n (place + size) (drop size (b ∷ bytes))) e in
    let s = stands place (b ∷ bytes) fits f.1 in
    let rest = instrs_from_sound n (place + size) (drop size (b ∷ bytes)) f.0 (IsBytes-drop size (b ∷ bytes) fits) f.2 in
    subst (λ k. AllByRecursion FitsInstr k × (b ∷ bytes ≡ code_from place k)) (sym f.3) (
      (s.fits, rest.0),
      s.spelled ∙ ap (λ r. instr_bytes place i ++ r) rest.1 ∙ ap (λ k. instr_bytes place i ++ code_from (place + k) f.0)
          s.sized,
    )

instrs_from_complete : (is : List Instr) (n place : ℕ) → AllByRecursion FitsInstr is → length (code_from place is) < n →
    instrs_from n place (code_from place is) ≡ Some is
unfolding instrs_from
instrs_from_complete [] zero place all lt = absurd (omega arith)
instrs_from_complete [] (suc n) place all lt = refl
instrs_from_complete (i ∷ is) zero place all lt = absurd (omega arith)
instrs_from_complete (i ∷ is) (suc n) place all lt =
    let here = instr_bytes place i in
    let rest = code_from (place + length here) is in
    let s = seen place i rest all.0 in
    let ih = instrs_from_complete is n (place + length here) all.1 (omega (arith, length-append here rest)) in
    ap (λ u. in_front u (instr_in place (here ++ rest)) (instrs_from n (place + size_in place (here ++ rest))
    (drop (size_in place (here ++ rest)) (here ++ rest)))) s.none
    ∙ ap (λ k. in_front None k (instrs_from n (place + size_in place (here ++ rest)) (drop (size_in place (here ++ rest)) (here ++ rest))))
    s.instr
    ∙ ap (λ k. in_front None i (instrs_from n (place + k) (drop k (here ++ rest)))) s.size
    ∙ ap (λ bs. in_front None i (instrs_from n (place + length here) bs)) (drop_at here rest (length here) refl)
    ∙ ap (in_front None i) ih

and_true : (a b : Bool) → (a && b) ≡ true → (a ≡ true) × (b ≡ true)
and_true a b e = grind (arith, nat_tests)

none_there : (o : Option ℕ) → is_none o ≡ true → o ≡ None
none_there None e = refl
none_there (Some n) e = absurd cc

nonempty : (is : List Instr) → 0 < length (code_bytes is) → 0 < length is
nonempty [] lt = absurd (omega arith)
nonempty (i ∷ is) lt = omega arith

-- what a code's bytes are
pub record IsCode (bytes : List ℕ) (is : List Instr) : Type 0 where
  pub fits : FitsInstrs is
  pub sound : IsSoundCode is
  pub spelled : bytes ≡ code_bytes is

sound_parts : (size : ℕ) (o : Option ℕ) → (ltb 0 size && (ltb size 32768 && is_none o)) ≡ true → (0 < size) × (size < 32768) × (o ≡ None)
sound_parts size o e =
    let a = and_true (ltb 0 size) (ltb size 32768 && is_none o) e in
    let b = and_true (ltb size 32768) (is_none o) a.1 in
    (grind (arith, nat_tests), grind (arith, nat_tests), none_there o b.1)

pub code_sound : (bytes : List ℕ) (is : List Instr) → IsBytes bytes → instrs_of bytes ≡ Some is → IsCode bytes is
unfolding instrs_of
code_sound bytes is fits e =
    let a = bind_some (instrs_from (suc (length bytes)) 0 bytes) _ is e in
    let h = held (is_sound (length bytes) a.0) (Some a.0) is a.2 in
    let same = some_is a.0 is h.1 in
    let s = instrs_from_sound (suc (length bytes)) 0 bytes a.0 fits a.1 in
    let p = sound_parts (length bytes) (first_outside a.0) h.0 in
    let n : length bytes ≡ length (code_bytes a.0) = ap length s.1 in
    let some = p.0 in
    let few = p.1 in
    subst (IsCode bytes) same
    (record { fits = (s.0, nonempty a.0 (omega arith)); sound = record { short = omega arith; inside = p.2 }; spelled = s.1 })

some_bytes : (is : List Instr) → 0 < length is → 0 < length (code_bytes is)
some_bytes [] lt = absurd (omega arith)
some_bytes (i ∷ is) lt = omega arith

sound_again : (size : ℕ) (o : Option ℕ) → 0 < size → size < 32768 → o ≡ None → (ltb 0 size && (ltb size 32768 && is_none o)) ≡ true
sound_again size o a b e = rw e (tests size a b)
  where
    tests : (size : ℕ) → 0 < size → size < 32768 → (ltb 0 size && (ltb size 32768 && true)) ≡ true
    tests size a b = grind (arith, nat_tests)

pub code_complete : (is : List Instr) → FitsInstrs is → IsSoundCode is → instrs_of (code_bytes is) ≡ Some is
unfolding instrs_of
code_complete is fit sound =
    let short = sound.short in
    let t : is_sound (length (code_bytes is)) is ≡ true = sound_again (length (code_bytes is)) (first_outside is) (some_bytes is fit.1)
    (omega arith) sound.inside in
    rw (instrs_from_complete is (suc (length (code_bytes is))) 0 fit.0 (omega arith), t) refl

-- what decoding answers
pub decoded_some : (bytes : List ℕ) (is : List Instr) → Decodes bytes (Instrs is) → instrs_of bytes ≡ Some is
decoded_some bytes is (whole f s e) = ap instrs_of e ∙ code_complete is f s

decoded_other : (bytes : List ℕ) (fault : CodeFault) (is : List Instr) → IsBytes bytes → Decodes bytes (Fault fault) →
    instrs_of bytes ≡ Some is → ⊥
decoded_other bytes fault is fits d e =
    let s = code_sound bytes is fits e in
    let same = decodes_once bytes (Fault fault) (Instrs is) d (whole s.fits s.sound s.spelled) in
    cc

pub decoded_none : (bytes : List ℕ) (fault : CodeFault) → IsBytes bytes → Decodes bytes (Fault fault) → instrs_of bytes ≡ None
decoded_none bytes fault fits d = go (instrs_of bytes) refl
  where
    go : (o : Option (List Instr)) → instrs_of bytes ≡ o → instrs_of bytes ≡ None
    go None e = e
    go (Some is) e = absurd (decoded_other bytes fault is fits d e)

bytes_again : (bytes : List ℕ) → AllByRecursion IsU1 bytes → IsBytes bytes
bytes_again [] all i = omega arith
bytes_again (b ∷ bytes) all zero = all.0
bytes_again (b ∷ bytes) all (suc i) = bytes_again bytes all.1 i

-- ---- instructions behind their length
abbrev pub body_bytes : List Instr → List ℕ
body_bytes is = run_bytes (code_bytes is)

abbrev pub FitBody : List Instr → Type 0
FitBody is = FitsInstrs is × IsSoundCode is × IsU4 (length (code_bytes is))

body_sound : IsSound body_at body_bytes FitBody
unfolding body_at
body_sound bytes x fits e =
    let run = read run_at run_bytes IsRun _ bytes x run_sound fits e in
    let is = bind_some (instrs_of run.value) (λ is. Some (is, run.rest)) x run.goes_on in
    let s = code_sound run.value is.0 (bytes_again run.value run.fits.0) is.1 in
    let t : Takes bytes (body_bytes is.0) run.rest = subst (λ (w : List ℕ). Takes bytes (run_bytes w) run.rest) s.spelled run.takes in
    let n : IsU4 (length (code_bytes is.0)) = subst (λ (w : List ℕ). IsU4 (length w)) s.spelled run.fits.1 in
    subst (λ (y : List Instr × List ℕ). Takes bytes (body_bytes y.0) y.1 × FitBody y.0) (some_is (is.0, run.rest) x is.2)
    (t, (s.fits, s.sound, n))

body_complete : (is : List Instr) (rest : List ℕ) → FitBody is → body_at (body_bytes is ++ rest) ≡ Some (is, rest)
unfolding body_at
body_complete is rest fit = rw (run_back (code_bytes is) rest fit.2, code_complete is fit.0 fit.1) refl

-- ---- no handlers, and attributes
abbrev pub inners_bytes : List Inner → List ℕ
inners_bytes inners = u2 0 ++ listed_bytes inner_bytes inners

inners_sound : IsSound inners_at inners_bytes (FitListed FitsInner)
unfolding inners_at
inners_sound bytes x fits e =
    let rest = bind_some (behind 2 0 bytes) (listed_at inner_at) x e in
    let t = behind_sound 2 0 IsU2 u2_sound bytes rest.0 fits rest.1 in
    let l = listed_sound inner_at inner_bytes FitsInner inner_sound rest.0 x t.rest_fits rest.2 in
    (Takes-then bytes (u2 0) rest.0 (listed_bytes inner_bytes x.0) x.1 t l.0, l.1)

inners_complete : IsComplete inners_at inners_bytes (FitListed FitsInner)
unfolding inners_at
inners_complete inners rest fit =
    rw (behind_complete 2 0 IsU2 u2_complete (omega arith) (listed_bytes inner_bytes inners ++ rest))
    (listed_complete inner_at inner_bytes FitsInner inner_complete inners rest fit)

-- ---- what a code attribute holds
abbrev content_spell : Attr → List ℕ
content_spell (Coded c) = content_bytes c
content_spell (Other name run) = []

abbrev FitContent : ℕ → Attr → Type 0
FitContent name (Coded c) = (c.name ≡ name) × FitPair (c.max_stack, c.max_locals) × FitBody c.instrs × FitListed FitsInner c.attributes
FitContent name (Other n run) = ⊥

regroup : (a b n code z l : List ℕ) → (a ++ b) ++ ((n ++ code) ++ (z ++ l)) ≡ a ++ (b ++ (n ++ (code ++ (z ++ l))))
regroup a b n code z l = simp append_assoc

content_sound : (name : ℕ) → IsSound (content_at name) content_spell (FitContent name)
unfolding content_at
content_sound name bytes x fits e =
    let sizes = read pair_at pair_bytes FitPair _ bytes x pair_sound fits e in
    let body = read body_at body_bytes FitBody _ sizes.rest x body_sound sizes.takes.rest_fits sizes.goes_on in
    let inners = read inners_at inners_bytes (FitListed FitsInner) _ body.rest x inners_sound body.takes.rest_fits body.goes_on in
    let t1 = Takes-then sizes.rest (body_bytes body.value) body.rest (inners_bytes inners.value) inners.rest body.takes inners.takes in
    let t0 = Takes-then bytes (pair_bytes sizes.value) sizes.rest (body_bytes body.value ++ inners_bytes inners.value) inners.rest
    sizes.takes t1 in
    let code : Code = record {
      name = name;
      max_stack = sizes.value.0;
      max_locals = sizes.value.1;
      instrs = body.value;
      attributes =
          inners.value;
    } in
    let t : Takes bytes (content_bytes code) inners.rest =
    subst (λ (w : List ℕ). Takes bytes w inners.rest)
    (regroup (u2 sizes.value.0) (u2 sizes.value.1) (u4 (length (code_bytes body.value))) (code_bytes body.value) (u2 0)
    (listed_bytes inner_bytes inners.value)) t0 in
    subst (λ (y : Attr × List ℕ). Takes bytes (content_spell y.0) y.1 × FitContent name y.0)
    (some_is (Coded code, inners.rest) x inners.goes_on)
    (t, (refl, sizes.fits, body.fits, inners.fits))

content_complete : (c : Code) (rest : List ℕ) → FitContent c.name (Coded c) → content_at c.name (content_bytes c ++ rest) ≡ Some
    (Coded c, rest)
unfolding content_at
content_complete c rest fit =
    let grouped = regroup (u2 c.max_stack) (u2 c.max_locals) (u4 (length (code_bytes c.instrs))) (code_bytes c.instrs) (u2 0)
    (listed_bytes inner_bytes c.attributes) in
    let tail = inners_bytes c.attributes ++ rest in
    ap (λ (w : List ℕ). content_at c.name (w ++ rest)) (sym grouped)
    ∙ ap (content_at c.name) (append_assoc (pair_bytes (c.max_stack, c.max_locals)) (body_bytes c.instrs ++ inners_bytes c.attributes) rest
    ∙ ap (λ w. pair_bytes (c.max_stack, c.max_locals) ++ w) (append_assoc (body_bytes c.instrs) (inners_bytes c.attributes) rest))
    ∙ rw (
      pair_front (c.max_stack, c.max_locals) (body_bytes c.instrs ++ tail) fit.1,
      body_complete c.instrs tail fit.2,
      inners_complete c.attributes rest fit.3,
    ) refl
  where
    pair_front : (p : ℕ × ℕ) (rest : List ℕ) → FitPair p → pair_at (pair_bytes p ++ rest) ≡ Some (p, rest)
    pair_front p rest f = pair_complete p rest f

-- ---- a code behind its name
abbrev code_spell : Attr → List ℕ
code_spell (Coded c) = let content = content_bytes c in u4 (length content) ++ content
code_spell (Other name run) = []

abbrev FitCoded : ℕ → Attr → Type 0
FitCoded name (Coded c) = FitContent name (Coded c) × IsU4 (length (content_bytes c))
FitCoded name (Other n run) = ⊥

-- the content has this length
with_length : (name len : ℕ) (bytes front : List ℕ) (y : Attr × List ℕ) → Takes bytes (u4 len) front → IsU4 len →
    Takes front (content_spell y.0) y.1 → FitContent name y.0
    → length front ≡ len + length y.1 → Takes bytes (code_spell y.0) y.1 × FitCoded name y.0
with_length name len bytes front (Coded c, rest) t fit s ok long =
    let n : length front ≡ length (content_bytes c) + length rest = ap length s.parts ∙ length-append (content_bytes c) rest in
    let same : len ≡ length (content_bytes c) = omega arith in (
      subst (λ (k : ℕ). Takes bytes (u4 k ++ content_bytes c) rest) same (Takes-then bytes (u4 len) front (content_bytes c) rest t s),
      (ok, subst IsU4 same fit),
    )
with_length name len bytes front (Other n run, rest) t fit s ok long = absurd ok

coded_sound : (name : ℕ) → IsSound (code_at name) code_spell (FitCoded name)
unfolding code_at
coded_sound name bytes x fits e =
    let len = read (number_at 4) u4 IsU4 _ bytes x u4_sound fits e in
    let content = read (content_at name) content_spell (FitContent name) _ len.rest x (content_sound name) len.takes.rest_fits len.goes_on
    in
    let h = held (eqb (length len.rest) (len.value + length content.rest)) (Some (content.value, content.rest)) x content.goes_on in
    let long : length len.rest ≡ len.value + length content.rest = eqb-true _ _ h.0 in
    subst (λ (y : Attr × List ℕ). Takes bytes (code_spell y.0) y.1 × FitCoded name y.0) (some_is (content.value, content.rest) x h.1)
    (with_length name len.value bytes len.rest (content.value, content.rest) len.takes len.fits content.takes content.fits long)

coded_complete : (c : Code) (rest : List ℕ) → FitCoded c.name (Coded c) → code_at c.name (code_spell (Coded c) ++ rest) ≡ Some
    (Coded c, rest)
unfolding code_at
coded_complete c rest fit =
    let content = content_bytes c in
    let t : eqb (length (content ++ rest)) (length content + length rest) ≡ true = eq-eqb _ _ (length-append content rest) in
    ap (code_at c.name) (append_assoc (u4 (length content)) content rest)
    ∙ rw (u4_complete (length content) (content ++ rest) fit.1, content_complete c rest fit.0, t) refl

-- ---- attributes
abbrev other_spell : Attr → List ℕ
other_spell (Coded c) = []
other_spell (Other name run) = run_bytes run

abbrev FitOther : ℕ → Attr → Type 0
FitOther name (Coded c) = ⊥
FitOther name (Other n run) = (n ≡ name) × IsRun run

other_sound : (name : ℕ) → IsSound (other_at name) other_spell (FitOther name)
unfolding other_at
other_sound name bytes x fits e =
    let run = read run_at run_bytes IsRun _ bytes x run_sound fits e in
    subst (λ (y : Attr × List ℕ). Takes bytes (other_spell y.0) y.1 × FitOther name y.0)
    (some_is (Other name run.value, run.rest) x run.goes_on) (run.takes, (refl, run.fits))

other_complete : (name : ℕ) (run rest : List ℕ) → IsRun run → other_at name (run_bytes run ++ rest) ≡ Some (Other name run, rest)
unfolding other_at
other_complete name run rest ok = rw (run_complete run rest ok) refl

FitsCode_of : (c : Code) (name : ℕ) → IsU2 name → FitCoded name (Coded c) → FitsCode c
FitsCode_of c name small f =
    record {
      name = subst IsU2 (sym f.0.0) small;
      max_stack = f.0.1.0;
      max_locals = f.0.1.1;
      instrs = f.0.2.0;
      code_length = f.0.2.2;
      attributes = f.0.3;
      content_length = f.1;
    }

-- an attribute behind its name, by whether it is a code's
attr_coded : (pool : List Const) (of_method : Bool) (name : ℕ) (bytes front : List ℕ) (y : Attr × List ℕ) →
    (of_method ≡ true) × (names_code pool name ≡ true) → IsU2 name
    → Takes bytes (u2 name) front → Takes front (code_spell y.0) y.1 → FitCoded name y.0 → Takes bytes (attr_bytes y.0) y.1
    × FileAttr pool of_method y.0
attr_coded pool of_method name bytes front (Coded c, rest) is small t s f = (
  subst (λ (k : ℕ). Takes bytes (u2 k ++ code_spell (Coded c)) rest) (sym f.0.0) (Takes-then bytes (u2 name) front (code_spell (Coded c))
      rest t s),
  (FitsCode_of c name small f, f.0.2.1, is.0, ap (names_code pool) f.0.0 ∙ is.1),
)
attr_coded pool of_method name bytes front (Other n run, rest) is small t s f = absurd f

attr_other : (pool : List Const) (of_method : Bool) (name : ℕ) (bytes front : List ℕ) (y : Attr × List ℕ) →
    (of_method && names_code pool name) ≡ false → IsU2 name
    → Takes bytes (u2 name) front → Takes front (other_spell y.0) y.1 → FitOther name y.0 → Takes bytes (attr_bytes y.0) y.1
    × FileAttr pool of_method y.0
attr_other pool of_method name bytes front (Coded c, rest) is small t s f = absurd f
attr_other pool true name bytes front (Other n run, rest) is small t s f = (
  subst (λ (k : ℕ). Takes bytes (u2 k ++ run_bytes run) rest) (sym f.0) (Takes-then bytes (u2 name) front (run_bytes run) rest t s),
  (subst IsU2 (sym f.0) small, f.1, ap (names_code pool) f.0 ∙ is),
)
attr_other pool false name bytes front (Other n run, rest) is small t s f = (
  subst (λ (k : ℕ). Takes bytes (u2 k ++ run_bytes run) rest) (sym f.0) (Takes-then bytes (u2 name) front (run_bytes run) rest t s),
  (subst IsU2 (sym f.0) small, f.1, tt),
)

pub attr_sound : (pool : List Const) (of_method : Bool) → IsSound (attr_at pool of_method) attr_bytes (FileAttr pool of_method)
unfolding attr_at
attr_sound pool of_method bytes x fits e =
    let name = read (number_at 2) u2 IsU2 _ bytes x u2_sound fits e in
    go name.value name.rest name.takes name.fits (of_method && names_code pool name.value) refl name.goes_on
  where
    go : (name : ℕ) (front : List ℕ) → Takes bytes (u2 name) front → IsU2 name → (b : Bool) → (of_method && names_code pool name) ≡ b
        → cond b (code_at name front) (other_at name front) ≡ Some x → Takes bytes (attr_bytes x.0) x.1 × FileAttr pool of_method x.0
    go name front t small true is e =
        let s = coded_sound name front x t.rest_fits e in
        attr_coded pool of_method name bytes front x (and_true of_method (names_code pool name) is) small t s.0 s.1
    go name front t small false is e =
        let s = other_sound name front x t.rest_fits e in
        attr_other pool of_method name bytes front x is small t s.0 s.1

pub attr_complete : (pool : List Const) (of_method : Bool) → IsComplete (attr_at pool of_method) attr_bytes (FileAttr pool of_method)
unfolding attr_at
attr_complete pool true (Coded c) rest ok =
    let f : FitCoded c.name (Coded c) = (
      (refl, (ok.0.max_stack, ok.0.max_locals), (ok.0.instrs, ok.1, ok.0.code_length), ok.0.attributes),
      ok.0.content_length,
    ) in
    rw (u2_complete c.name (code_spell (Coded c) ++ rest) ok.0.name, ok.3) (coded_complete c rest f)
attr_complete pool false (Coded c) rest ok = absurd (let e = ok.2 in cc)
attr_complete pool true (Other name run) rest ok =
    rw (u2_complete name (run_bytes run ++ rest) ok.0, ok.2) (other_complete name run rest ok.1)
attr_complete pool false (Other name run) rest ok =
    rw (u2_complete name (run_bytes run ++ rest) ok.0) (other_complete name run rest ok.1)

-- the parts of a content are one
pub content_read : (name : ℕ) (bytes r₁ r₂ r₃ : List ℕ) (sizes : ℕ × ℕ) (is : List Instr) (inners : List Inner)
    → pair_at bytes ≡ Some (sizes, r₁) → body_at r₁ ≡ Some (is, r₂) → inners_at r₂ ≡ Some (inners, r₃)
    → content_at name bytes ≡ Some
    (Coded (record { name = name; max_stack = sizes.0; max_locals = sizes.1; instrs = is; attributes = inners }), r₃)
unfolding content_at
content_read name bytes r₁ r₂ r₃ sizes is inners a b c = rw (a, b, c) refl

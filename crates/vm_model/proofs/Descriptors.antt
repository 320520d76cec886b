-- How the reading of a descriptor goes on, byte by byte.
use Rattle.std.proofs.Common.{◌≡◌, ℕ, zero, suc, ◌+◌, ◌-◌, ◌<◌, ◌≤◌, List, [], ◌∷◌, ◌++◌, length, take, drop, get_or, slice_range, refl}
use Rattle.std.proofs.Common.{sym, ap, ◌∙◌, arith}
use Rattle.std.proofs.Common.{fold, Option, Some, None, false, ◌==◌, ◌≢◌}
use Rattle.std.proofs.lemmas.Bool.Decides.{nat_tests}
use Rattle.vm_model.specs.declared.types.Next.{Next}
use Rattle.vm_model.specs.declared.types.Stage.TheVariants as stages
use Rattle.vm_model.specs.Descriptors.{after_of}
use Rattle.vm_model.specs.Types.{FieldType, Reading, Wrong, ParamName, ResultName, reads, read_param_name, read_result_name, signature_in}
use Rattle.std.proofs.lemmas.Str.{IsCharBoundary-before_ascii, IsCharBoundary-after_ascii}
use Rattle.std.proofs.lemmas.List.{take_more, get_or-drop}
use Rattle.std.proofs.Common.{length-drop, append-nil}
use Rattle.std.proofs.lemmas.List.Sums.{fold-append}

-- a name is one byte longer
pub longer : (d : List ℕ) (start at : ℕ) → start ≤ at → at < length d → slice_range d start (at + 1) ≡ slice_range d start at
    ++ get_or d at 0 ∷ []
longer d start at h lt =
    let n : at + 1 - start ≡ at - start + 1 = omega arith in
    let here : start + (at - start) ≡ at = omega arith in
    let within : at - start < length (drop start d) = omega (arith, length-drop start d) in
    ap (λ k. take k (drop start d)) n ∙ take_more (drop start d) (at - start) 0 within
    ∙ ap (λ b. take (at - start) (drop start d) ++ b ∷ []) (get_or-drop start d (at - start) 0 ∙ ap (λ k. get_or d k 0) here)

-- and it begins with none
pub nothing_yet : (d : List ℕ) (at : ℕ) → slice_range d at at ≡ []
nothing_yet d at = let n : at - at ≡ 0 = omega arith in ap (λ k. take k (drop at d)) n

pub ruleset cuts = (longer, nothing_yet, IsCharBoundary-before_ascii, IsCharBoundary-after_ascii)

-- nothing mends a wrong beginning
pub stays_wrong : (bs : List ℕ) → fold reads Wrong bs ≡ Wrong
stays_wrong [] = refl
stays_wrong (b ∷ bs) = stays_wrong bs

-- a wrong byte makes the whole wrong
pub wrong_at : (r : Reading) (bs : List ℕ) (i : ℕ) → i < length bs → reads (fold reads r (take i bs)) (get_or bs i 0) ≡ Wrong →
    signature_in (fold reads r bs) ≡ None
wrong_at r [] i h e = absurd (omega arith)
wrong_at r (b ∷ bs) zero h e = ap (λ q. signature_in (fold reads q bs)) e ∙ ap signature_in (stays_wrong bs)
wrong_at r (b ∷ bs) (suc i) h e = wrong_at (reads r b) bs i (omega arith) e

-- a byte that ends no name
pub param_name_on : (d : List ℕ) (start at byte : ℕ) (params : List FieldType) (r : Option Next) → start ≤ at → at < length d →
    byte ≡ get_or d at 0 → byte ≢ 59 →
    r ≡ Some (record { stage = stages.ParamName start; param = None }) → read_param_name params (slice_range d start at) byte ≡ after_of d
    (at + 1) params r
param_name_on d start at byte params r h lt b ne e =
    let test : (byte == 59) ≡ false = grind (arith, nat_tests) in
    rw (e, test) (ap (λ ps. ParamName ps (slice_range d start at ++ byte ∷ [])) (sym (append-nil params))
    ∙ ap (ParamName (params ++ [])) (ap (λ x. slice_range d start at ++ x ∷ []) b ∙ sym (longer d start at h lt)))

pub result_name_on : (d : List ℕ) (start at byte : ℕ) (params : List FieldType) (r : Option Next) → start ≤ at → at < length d →
    byte ≡ get_or d at 0 → byte ≢ 59 →
    r ≡ Some (record { stage = stages.AnswerName start; param = None }) → read_result_name params (slice_range d start at) byte ≡ after_of d
    (at + 1) params r
result_name_on d start at byte params r h lt b ne e =
    let test : (byte == 59) ≡ false = grind (arith, nat_tests) in
    rw (e, test) (ap (λ ps. ResultName ps (slice_range d start at ++ byte ∷ [])) (sym (append-nil params))
    ∙ ap (ResultName (params ++ [])) (ap (λ x. slice_range d start at ++ x ∷ []) b ∙ sym (longer d start at h lt)))

-- one more byte of a reading
pub read_on : (r : Reading) (d : List ℕ) (at byte : ℕ) (now after : Reading) → at < length d → byte ≡ get_or d at 0 →
    fold reads r (take at d) ≡ now → reads now byte ≡ after →
    fold reads r (take (at + 1) d) ≡ after
read_on r d at byte now after lt b before step =
    ap (fold reads r) (take_more d at 0 lt) ∙ fold-append reads r (take at d) (get_or d at 0 ∷ []) ∙ ap (λ q. reads q (get_or d at 0))
    before ∙ ap (reads now) (sym b) ∙ step

pub wrong_byte : (r : Reading) (d : List ℕ) (at byte : ℕ) (now : Reading) → at < length d → byte ≡ get_or d at 0 →
    fold reads r (take at d) ≡ now → reads now byte ≡ Wrong →
    None ≡ signature_in (fold reads r d)
wrong_byte r d at byte now lt b before step =
    sym (wrong_at r d at lt (ap (λ q. reads q (get_or d at 0)) before ∙ ap (reads now) (sym b) ∙ step))

-- Two typestates have one verdict.
use Rattle.std.proofs.Common.{◌≡◌, ℕ, zero, suc, ◌<◌, ◌≤◌, List, [], ◌∷◌, length, Some, refl, sym, ap, subst, ◌∙◌, arith, inl, inr, ◌⊎◌}
use Rattle.std.proofs.Common.{if◌then◌else◌, Bool, true, false}
use Rattle.std.specs.Prelude.{Contains}
use Rattle.std.specs.Str.{bytes_eq}
use Rattle.std.proofs.Math.ListN.{length-map}
use Rattle.mg_text.specs.Call.{Name, Call}
use Rattle.ts_tree.specs.declared.parts.To.{To}
use Rattle.ts_tree.specs.Typestate.{Method, Typestate}
use Rattle.ts_tree.specs.Calls.{initial, led}
use Rattle.ts_tree.proofs.Leading.{here, behind, first_or_behind, in_map}
use Rattle.ts_refine.specs.declared.verdict.Pair.{Pair}
use Rattle.ts_refine.specs.declared.verdict.Reason.{Reason}
use Rattle.ts_refine.specs.declared.verdict.Reason.TheVariants as reasons
use Rattle.ts_refine.specs.Standing.{Fails, no_method, signature, labels, offered_at}
use Rattle.ts_refine.specs.Orders.{methods_at, place_of, method_names, ComesBefore, answer_place, labels_in, IsEarlier, differs, goes_on}
use Rattle.ts_refine.specs.Orders.{IsBefore, reason_place}
use Rattle.ts_refine.specs.Verdicts.{AreApart, Stands, FailsFirst}
use Rattle.ts_refine.proofs.Relating.{same_name, name_is, some_is, offered_at-is, offered_in-sound}
use Rattle.ts_refine.proofs.Ordering.{before-trans}

-- ---- as many pairs
abbrev without : ℕ → List Pair → List Pair
without k [] = []
without zero (y ∷ ys) = ys
without (suc k) (y ∷ ys) = y ∷ without k ys

shorter : (ys : List Pair) (k : ℕ) → k < length ys → suc (length (without k ys)) ≡ length ys
shorter [] k h = absurd (omega (arith, h))
shorter (y ∷ ys) zero h = refl
shorter (y ∷ ys) (suc k) h = ap suc (shorter ys k (omega (arith, h)))

still_there : (ys : List Pair) (x z : Pair) (c : Contains ys x) → Contains ys z → (x ≡ z → ⊥) → Contains (without c.0 ys) z
still_there [] x z c d ne = absurd (omega (arith, d.1))
still_there (y ∷ ys) x z (zero, lt, e) d ne = elim (first_or_behind y ys z d) [ inl is ↦ absurd (ne (sym e ∙ is)) | inr more ↦ more ]
still_there (y ∷ ys) x z (suc k, lt, e) d ne =
    elim (first_or_behind y ys z d) [
      | inl is ↦ subst (Contains (y ∷ without k ys)) is (here y (without k ys))
      | inr more ↦ behind y (without k ys) z (still_there ys x z (k, omega (arith, lt), e) more ne)
    ]

no_more : (xs ys : List Pair) → AreApart xs → ((x : Pair) → Contains xs x → Contains ys x) → length xs ≤ length ys
no_more [] ys apart h = omega arith
no_more (x ∷ xs) ys apart h =
    let c = h x (here x xs) in
    omega (
      arith,
      shorter ys c.0 c.1,
      no_more xs (without c.0 ys) apart.1 (λ z d. still_there ys x z c (h z (behind x xs z d))
          (λ e. apart.0 (subst (Contains xs) (sym e) d))),
    )

pub one_count : (a b : Typestate) (xs ys : List Pair) → Stands a b xs → Stands a b ys → length xs ≡ length ys
one_count a b xs ys h k = omega (
  arith,
  no_more xs ys h.apart (λ x c. k.all x (h.only x c)),
  no_more ys xs k.apart
      (λ x c. h.all x (k.only x c)),
)

-- ---- one path
not_earlier : (t : Typestate) (from : To) (cs ds : List Call) → IsEarlier t from cs ds → cs ≡ ds → ⊥
not_earlier t from (c ∷ cs) (d ∷ ds) (differs h) e = same c d h cc where
  same : (c d : Call) → ComesBefore (methods_at t from) c d → c ≡ d → ⊥
  same c d (inl lt) e = omega (arith, lt, ap (λ (c : Call). place_of (method_names (methods_at t from)) c.method) e)
  same c d (inr h) e = omega (arith, h.1, ap (λ (x : Call). answer_place (labels_in (methods_at t from) c.method) x.answer) e)
not_earlier t from (c ∷ cs) (d ∷ ds) (goes_on to is h) e = not_earlier t to cs ds h cc
not_earlier t from [] ds h e = elim h [ ]
not_earlier t from (c ∷ cs) [] h e = elim h [ ]

not_before : (t : Typestate) (cs : List Call) → IsBefore t cs cs → ⊥
not_before t cs (inl lt) = omega (arith, lt)
not_before t cs (inr h) = not_earlier t (initial t) cs cs h.1 refl

one_path : (a b : Typestate) (cs ds : List Call) (r s : Reason) → FailsFirst a b cs r → FailsFirst a b ds s → cs ≡ ds
one_path a b cs ds r s h k = go (h.least ds k.p k.q s k.reach k.fails) (k.least cs h.p h.q r h.reach h.fails) where
  go : (cs ≡ ds) ⊎ IsBefore b cs ds → (ds ≡ cs) ⊎ IsBefore b ds cs → cs ≡ ds
  go (inl e) o = e
  go (inr before) (inl e) = sym e
  go (inr before) (inr after) = absurd (not_before b cs (before-trans b cs ds cs before after))

-- ---- one reason
within : (names : List Name) (x : Name) → Contains names x → place_of names x < length names
within [] x c = absurd (omega (arith, c.1))
within (y ∷ names) x c =
    elim (first_or_behind y names x c) [
      | inl e ↦ subst (λ (z : Name). place_of (y ∷ names) z < suc (length names)) e (rw (name_is y) (omega arith))
      | inr more ↦ go (bytes_eq y x) (within names x more)
    ] where
      go : (t : Bool) → place_of names x < length names → (if t then 0 else suc (place_of names x)) < suc (length names)
      go true h = omega arith
      go false h = omega (arith, h)

one_place : (names : List Name) (x y : Name) → Contains names x → Contains names y → place_of names x ≡ place_of names y → x ≡ y
one_place [] x y c d e = absurd (omega (arith, c.1))
one_place (z ∷ names) x y c d e = go (bytes_eq z x) refl (bytes_eq z y) refl e (one_place names x y) where
  left : (n : Name) → bytes_eq z n ≡ false → Contains (z ∷ names) n → Contains names n
  left n f c = elim (first_or_behind z names n c) [ inl is ↦ absurd (yes_no (sym (name_is z) ∙ ap (bytes_eq z) is ∙ f)) | inr more ↦ more ]
    where
      yes_no : true ≡ false → ⊥
      yes_no h = absurd cc

  go : (s : Bool) → bytes_eq z x ≡ s → (t : Bool) → bytes_eq z y ≡ t →
      (if s then 0 else suc (place_of names x)) ≡ (if t then 0 else suc (place_of names y)) →
      (Contains names x → Contains names y → place_of names x ≡ place_of names y → x ≡ y) → x ≡ y
  go true f true g e rest = sym (same_name z x f) ∙ same_name z y g
  go true f false g e rest = absurd (omega (arith, e))
  go false f true g e rest = absurd (omega (arith, e))
  go false f false g e rest = rest (left x f c) (left y g d) (omega (arith, e))

-- the method of a reason is one of these
abbrev IsAmong : List Name → Reason → Type 0
IsAmong names (reasons.NoMethod name) = Contains names name
IsAmong names (reasons.SignatureDiffers name) = Contains names name
IsAmong names (reasons.LabelsDiffer name) = Contains names name
IsAmong names reasons.NotFinished = Unit {0}

among : (t : Typestate) (q : To) (name : Name) (m : Method) → offered_at t q name ≡ Some m → Contains (method_names (methods_at t q)) name
among t q name m e =
    let s = offered_in-sound (methods_at t q) name m (sym (offered_at-is t q name) ∙ e) in
    subst (Contains (method_names (methods_at t q))) s.1 (in_map (λ (m : Method). m.name) (methods_at t q) m s.0)

is_among : (a b : Typestate) (p q : To) (r : Reason) → Fails a b p q r → IsAmong (method_names (methods_at b q)) r
is_among a b p q (reasons.NoMethod name) (no_method m n e f) = among b q name m e
is_among a b p q (reasons.SignatureDiffers name) (signature l m n e f d) = among b q name m e
is_among a b p q (reasons.LabelsDiffer name) (labels l m n e f d g) = among b q name m e
is_among a b p q reasons.NotFinished h = tt

same_reason : (ms : List Method) (r s : Reason) → IsAmong (method_names ms) r → IsAmong (method_names ms) s
    → reason_place ms r ≡ reason_place ms s → r ≡ s
same_reason ms (reasons.NoMethod x) (reasons.NoMethod y) c d e =
    ap reasons.NoMethod (one_place (method_names ms) x y c d (omega (arith, e)))
same_reason ms (reasons.NoMethod x) (reasons.SignatureDiffers y) c d e = absurd (omega (arith, e))
same_reason ms (reasons.NoMethod x) (reasons.LabelsDiffer y) c d e = absurd (omega (arith, e))
same_reason ms (reasons.NoMethod x) reasons.NotFinished c d e =
    absurd (omega (arith, e, within (method_names ms) x c, length-map ms (λ (m : Method). m.name)))
same_reason ms (reasons.SignatureDiffers x) (reasons.NoMethod y) c d e = absurd (omega (arith, e))
same_reason ms (reasons.SignatureDiffers x) (reasons.SignatureDiffers y) c d e =
    ap reasons.SignatureDiffers (one_place (method_names ms) x y c d (omega (arith, e)))
same_reason ms (reasons.SignatureDiffers x) (reasons.LabelsDiffer y) c d e = absurd (omega (arith, e))
same_reason ms (reasons.SignatureDiffers x) reasons.NotFinished c d e = absurd (omega (arith, e))
same_reason ms (reasons.LabelsDiffer x) (reasons.NoMethod y) c d e = absurd (omega (arith, e))
same_reason ms (reasons.LabelsDiffer x) (reasons.SignatureDiffers y) c d e = absurd (omega (arith, e))
same_reason ms (reasons.LabelsDiffer x) (reasons.LabelsDiffer y) c d e =
    ap reasons.LabelsDiffer (one_place (method_names ms) x y c d (omega (arith, e)))
same_reason ms (reasons.LabelsDiffer x) reasons.NotFinished c d e = absurd (omega (arith, e))
same_reason ms reasons.NotFinished (reasons.NoMethod y) c d e =
    absurd (omega (arith, e, within (method_names ms) y d, length-map ms (λ (m : Method). m.name)))
same_reason ms reasons.NotFinished (reasons.SignatureDiffers y) c d e = absurd (omega (arith, e))
same_reason ms reasons.NotFinished (reasons.LabelsDiffer y) c d e = absurd (omega (arith, e))
same_reason ms reasons.NotFinished reasons.NotFinished c d e = refl

pub one_failure : (a b : Typestate) (cs ds : List Call) (r s : Reason) → FailsFirst a b cs r → FailsFirst a b ds s → (cs ≡ ds) × (r ≡ s)
one_failure a b cs ds r s h k =
    let path = one_path a b cs ds r s h k in
    let p_is : h.p ≡ k.p = some_is h.p k.p (sym h.reach.in_a ∙ ap (led a (initial a)) path ∙ k.reach.in_a) in
    let q_is : h.q ≡ k.q = some_is h.q k.q (sym h.reach.in_b ∙ ap (led b (initial b)) path ∙ k.reach.in_b) in
    let there : Fails a b h.p h.q s = subst (λ (p : To). Fails a b p h.q s) (sym p_is) (subst (λ (q : To). Fails a b k.p q s) (sym q_is)
    k.fails) in
    let here : Fails a b k.p k.q r = subst (λ (p : To). Fails a b p k.q r) p_is (subst (λ (q : To). Fails a b h.p q r) q_is h.fails) in
    let back : reason_place (methods_at b h.q) s ≤ reason_place (methods_at b h.q) r =
    subst (λ (q : To). reason_place (methods_at b q) s ≤ reason_place (methods_at b q) r) (sym q_is) (k.first r here) in (
      path,
      same_reason (methods_at b h.q) r s (is_among a b h.p h.q r h.fails) (is_among a b h.p h.q s there)
          (omega (arith, h.first s there, back)),
    )

-- what stands for the other fails nowhere
pub not_both : (a b : Typestate) (pairs : List Pair) (cs : List Call) (r : Reason) → Stands a b pairs → FailsFirst a b cs r → ⊥
not_both a b pairs cs r h k = h.stands cs k.p k.q r k.reach k.fails

-- What the readers refuse, file by file.
use Rattle.std.proofs.Common.{◌≡◌, ℕ, ◌+◌, ◌<◌, ◌≤◌, List, [], ◌∷◌, ◌++◌, length, get_or, take, Option, Some, None}
use Rattle.std.proofs.Common.{Bool, true, false, nat_eq, eqb-true, eq-eqb, refl, sym, ap, ◌∙◌, subst, arith}
use Rattle.std.proofs.lemmas.Bool.{false≢true}
use Rattle.std.proofs.lemmas.List.{take_more, take_all}
use Rattle.mg_read.specs.First.{Judged, here, later}
use Rattle.mg_refusal.specs.Refusals.{Refusal}
use Rattle.mg_refusal.specs.Order.{at_first, at_next}
use Rattle.mg_sources.specs.Files.{Source}
use Rattle.mg_sources.specs.Reading.{Refuses}
use Rattle.mg_sources.proofs.OneKind.{excludes}
use Rattle.mg_accepted.specs.Program.{FirstRefusal}
use Rattle.mg_faults.specs.Faults.{AreRefused, none, read, refused, AllRefusals, readers, roles, types}
use Rattle.mg_faults.specs.inner.Readings.{IsRefusal}

abbrev pub with_found : List Refusal → Option Refusal → List Refusal
with_found rs None = rs
with_found rs (Some r) = rs ++ r ∷ []

-- one file more
refused_more : {files : List Source} {rs : List Refusal} (source : Source) (r : Option Refusal) → AreRefused files rs → IsRefusal source r →
    AreRefused (files ++ source ∷ []) (with_found rs r)
refused_more source None none h = read h.1 none
refused_more source (Some r) none h = refused h none
refused_more source None (read x rest) h = read x (refused_more source None rest h)
refused_more source (Some r) (read x rest) h = read x (refused_more source (Some r) rest h)
refused_more source None (refused x rest) h = refused x (refused_more source None rest h)
refused_more source (Some r) (refused x rest) h = refused x (refused_more source (Some r) rest h)

module _ (files : List Source) (i : ℕ) (rs : List Refusal) (was : AreRefused (take i files) rs) where
  -- the file at an index
  pub file_found : (source : Source) (r : Option Refusal) (found : Option Refusal) (new : List Refusal) → i < length files →
      source ≡ get_or files i source → IsRefusal source found → found ≡ r → new ≡ with_found rs r →
      AreRefused (take (i + 1) files) new
  file_found source r found new lt at h e is =
      subst (λ xs. AreRefused xs new) (sym (take_more files i source lt ∙ ap (λ (x : Source). take i files ++ x ∷ []) (sym at)))
      (subst (AreRefused (take i files ++ source ∷ [])) (sym is)
      (refused_more source r was (subst (IsRefusal source) e h)))

  pub files_found : length files ≤ i → AreRefused files rs
  files_found le = subst (λ xs. AreRefused xs rs) (take_all i files le) was

-- whether there are some
pub nothing_left : {A : Type 0} (xs : List A) (b : Bool) → b ≡ nat_eq (length xs) 0 → b ≡ true → xs ≡ []
nothing_left [] b is e = refl
nothing_left (x ∷ xs) b is e = let no : length (x ∷ xs) ≡ 0 = eqb-true (length (x ∷ xs)) 0 (sym is ∙ e) in absurd (omega (arith, no))

pub something_left : {A : Type 0} (xs : List A) (b : Bool) → b ≡ nat_eq (length xs) 0 → b ≡ false → xs ≡ [] → ⊥
something_left {A} xs b is e nil = false≢true (sym e ∙ is ∙ eq-eqb (length xs) 0 (ap (λ (ys : List A). length ys) nil))

-- files that all are read have no refusal by their readers
not_read : {files : List Source} {r : Refusal} → AreRefused files [] → Judged Refuses files (Some r) → ⊥
not_read none j = elim j [ ]
not_read {r = r} (read {source = source} {part = part} x rest) (here y) = excludes source part r x y
not_read (read x rest) (later n j) = not_read rest j

-- where no reader refuses, the first refusal is all
pub alone : {files : List Source} (r : Refusal) → AreRefused files [] → FirstRefusal files r → AllRefusals files (r ∷ [])
alone r a (at_first (at_first j)) = absurd (not_read a j)
alone r a (at_first (at_next parts each shares)) = roles parts each shares
alone r a (at_next sourced are t) = types sourced are t

pub all_alone : (files : List Source) (rs new : List Refusal) (r : Refusal) → AreRefused files rs → rs ≡ [] → new ≡ rs ++ r ∷ [] →
    FirstRefusal files r → AllRefusals files new
all_alone files rs new r a nil more first =
    subst (AllRefusals files) (sym (more ∙ ap (λ xs. xs ++ r ∷ []) nil))
    (alone r (subst (AreRefused files) nil a) first)

pub all_refused : (files : List Source) (rs : List Refusal) → AreRefused files rs → (rs ≡ [] → ⊥) → AllRefusals files rs
all_refused files [] a h = absurd (h refl)
all_refused files (r ∷ rs) a h = readers a

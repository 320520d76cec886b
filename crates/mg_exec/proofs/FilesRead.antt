-- Class files that are read one after another.
use Rattle.std.proofs.Common.{◌≡◌, ◌<◌, ◌≤◌, ◌+◌, ℕ, zero, suc, List, [], ◌∷◌, ◌++◌, length, get_or, take, drop, map, Option, Some, None}
use Rattle.std.proofs.Common.{Result, Err, sym, ap, ◌∙◌, subst, arith, drop-cons, add-one, All}
use Rattle.std.proofs.lemmas.List.{take_more, take_all, get_or_past, map-append}
use Rattle.mg_text.specs.Row.{Row}
use Rattle.mg_read.specs.First.{Judged, clean, here, later}
use Rattle.cls_tree.specs.Tree.{Class as File}
use Rattle.cls_tree.specs.Fits.{IsU1}
use Rattle.cls_tree.specs.View.{class_of as file_of}
use Rattle.cls_tree.specs.declared.class.Class.{Class}
use Rattle.cls_layout.specs.declared.ClassFault.{ClassFault}
use Rattle.cls_bytes.specs.Spelling.{ClassSpells, IsTheirFault}
use Rattle.cls_bytes.proofs.Single.{no_fault}
use Rattle.cls_bytes.proofs.SpelledClasses.{spelled_right}
use Rattle.mg_sources.specs.Files.{Source}
use Rattle.mg_refusal.specs.Refusals.{Refusal}
use Rattle.mg_refusal.specs.Order.{Answers, IsStopOf}
use Rattle.mg_refusal.specs.declared.stop.Stop.{Stop}
use Rattle.mg_refusal.proofs.Orders.{refused_by, stop_refused}
use Rattle.mg_exec.specs.Files.{most_bytes, IsFile, AreFiles, class_refusal, Refuses, large, field}
use Rattle.mg_exec.proofs.Told.{theirs}

-- ---- one file

too_many : (n : ℕ) → most_bytes < n → n ≤ most_bytes → ⊥
too_many n big small = omega (arith, big, small)

-- a file that is a class isn't refused
are_bytes : (bytes : List ℕ) → All IsU1 bytes → (i : ℕ) → get_or bytes i 0 < 256
are_bytes [] h i = omega (arith, get_or_past {X = ℕ} [] i 0 (omega arith))
are_bytes (b ∷ bytes) h zero = h 0 0 (omega arith)
are_bytes (b ∷ bytes) h (suc i) = are_bytes bytes (λ k d lt. h (suc k) d (omega arith)) i

not_refused : (source : Source) (class : File) (r : Refusal) → IsFile source class → Refuses source r → ⊥
not_refused source class r h (large big says) = too_many (length source.bytes) big h.small
not_refused source class r h (field {fault = f} small fails says) =
    no_fault source.bytes f (spelled_right source.bytes class (are_bytes source.bytes h.bytes) h.spells) fails

-- so files that are classes have none that is refused
pub none_refused : (files : List Source) (classes : List File) → AreFiles files classes → Judged Refuses files None
none_refused [] [] each = clean
none_refused [] (k ∷ ks) each = absurd each
none_refused (f ∷ fs) [] each = absurd each
none_refused (f ∷ fs) (k ∷ ks) (first, rest) = later (λ r. not_refused f k r first) (none_refused fs ks rest)

pub read_right : (source : Source) (class : Class) → ((i : ℕ) → get_or source.bytes i 0 < 256) → length source.bytes ≤ most_bytes →
    ClassSpells source.bytes (file_of class) → IsFile source (file_of class)
read_right source class fits small spells = record { bytes = each source.bytes fits; small = small; spells = spells }
  where
    each : (bytes : List ℕ) → ((i : ℕ) → get_or bytes i 0 < 256) → All IsU1 bytes
    each [] h k d lt = absurd (omega arith)
    each (b ∷ bytes) h zero d lt = h 0
    each (b ∷ bytes) h (suc k) d lt = each bytes (λ i. h (suc i)) k d (omega arith)

pub read_failed : (source : Source) (fault : ClassFault) (stop : Stop) → length source.bytes ≤ most_bytes →
    IsTheirFault {A = Class} source.bytes (Err fault) → IsStopOf (λ wanted r. r ≡ wanted) (class_refusal source.number fault) stop →
    Answers (λ (class : Class). IsFile source (file_of class)) (Refuses source) (Err stop)
read_failed source fault stop small fails h =
    stop_refused (λ wanted r. r ≡ wanted) (λ (class : Class). IsFile source (file_of class)) (Refuses source)
    (class_refusal source.number fault) stop h
    (λ wanted r e says. field small (theirs source.bytes fault source.number wanted fails e) (e ∙ ap Some (sym says)))

-- ---- files in a loop

each_push : (files : List Source) (classes : List File) (f : Source) (c : File) → AreFiles files classes → IsFile f c →
    AreFiles (files ++ f ∷ []) (classes ++ c ∷ [])
each_push [] [] f c each only = (only, tt)
each_push [] (k ∷ ks) f c each only = absurd each
each_push (g ∷ gs) [] f c each only = absurd each
each_push (g ∷ gs) (k ∷ ks) f c (first, rest) only = (first, each_push gs ks f c rest only)

-- what judging the files from an index on answers is the answer, and those before are these classes
pub record ReadSoFar (files : List Source) (i : ℕ) (classes : List Class) : Type 0 where
  pub left : (r : Option Refusal) → Judged Refuses (drop i files) r → Judged Refuses files r
  pub each : AreFiles (take i files) (map file_of classes)

pub read_start : (files : List Source) → ReadSoFar files 0 []
read_start files = record { left = λ r j. j; each = tt }

module _ {files : List Source} {i : ℕ} {classes : List Class} (so_far : ReadSoFar files i classes) (f : Source) (within : i < length files)
    (is : f ≡ get_or files i f) where
  next : drop i files ≡ f ∷ drop (suc i) files
  next = drop-cons files i f within ∙ ap (λ (z : Source). z ∷ drop (suc i) files) (sym is)

  pub read_more : (class : Class) → IsFile f (file_of class) → ReadSoFar files (i + 1) (classes ++ class ∷ [])
  read_more class only = record {
    left = λ r j. so_far.left r (subst (λ (z : List Source). Judged Refuses z r) (sym next)
        (later (λ r. not_refused f (file_of class) r only) (subst (λ (k : ℕ). Judged Refuses (drop k files) r) (add-one i) j)));
    each = subst (λ (z : List File). AreFiles (take (i + 1) files) z) (sym (map-append file_of classes (class ∷ [])))
        (subst (λ (z : List Source). AreFiles z (map file_of classes ++ file_of class ∷ []))
        (sym (take_more files i f within ∙ ap (λ (z : Source). take i files ++ z ∷ []) (sym is)))
        (each_push (take i files) (map file_of classes) f (file_of class) so_far.each only));
  }

  -- a file that can't be read ends it
  pub read_stopped : (stop : Stop) → Answers (λ (class : Class). IsFile f (file_of class)) (Refuses f) (Err stop) →
      (answer : Result (Row Class) Stop) → answer ≡ Err stop →
      Answers (λ (all : Row Class). AreFiles files (map file_of all.items)) (λ r. Judged Refuses files (Some r)) answer
  read_stopped stop h answer e =
      refused_by (λ (class : Class). IsFile f (file_of class)) (Refuses f) (λ (all : Row Class). AreFiles files (map file_of all.items))
      (λ r. Judged Refuses files (Some r))
      (λ r refuses. so_far.left (Some r) (subst (λ (z : List Source). Judged Refuses z (Some r)) (sym next) (here refuses))) stop h answer e

pub read_end : {files : List Source} {i : ℕ} {classes : List Class} → ReadSoFar files i classes → length files ≤ i →
    AreFiles files (map file_of classes)
read_end {files} {i} {classes} so_far past = subst (λ (z : List Source). AreFiles z (map file_of classes)) (take_all i files past)
    so_far.each

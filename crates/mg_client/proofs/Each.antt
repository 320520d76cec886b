-- Clients that are made one after another.
use Rattle.std.proofs.Common.{◌≡◌, ◌<◌, ◌≤◌, ◌+◌, ℕ, zero, suc, List, [], ◌∷◌, ◌++◌, length, map, get_or, take, drop, Option, Some}
use Rattle.std.proofs.Common.{sym, ap, ◌∙◌, subst, arith, drop-cons, add-one, Result, Err}
use Rattle.std.proofs.lemmas.List.{take_more, take_all, length-map}
use Rattle.mg_text.specs.Call.{Name}
use Rattle.mg_text.specs.Row.{Row}
use Rattle.mg_read.specs.First.{Judged, here, later}
use Rattle.mg_refusal.specs.Refusals.{Refusal}
use Rattle.mg_refusal.specs.Order.{Answers}
use Rattle.mg_refusal.specs.declared.stop.Stop.{Stop}
use Rattle.mg_refusal.proofs.Orders.{refused_by}
use Rattle.mg_sources.specs.Files.{Source, source_of, sources}
use Rattle.mg_sources.specs.Reading.{Part, Reads, EachSpells}
use Rattle.mg_sources.specs.Parts.{part_of}
use Rattle.mg_sources.specs.declared.part.Part.{Part as KeptPart}
use Rattle.mg_sources.proofs.PartLemmas.{source_is, source_within, sources_length, same_length}
use Rattle.mg_client.specs.declared.files.ClientFile.{ClientFile}
use Rattle.mg_client.specs.Clients.{IsPlayed, EachPlays, IsUnaccepted}

-- ---- what the file at an index spells

each_at : (i : ℕ) (files : List Source) (parts : List Part) (f : Source) (l : Part) → EachSpells files parts → i < length files →
    Reads (get_or files i f) (get_or parts i l)
each_at i [] parts f l each lt = absurd (omega arith)
each_at i (g ∷ gs) [] f l each lt = absurd each
each_at zero (g ∷ gs) (k ∷ ks) f l (first, rest) lt = first
each_at (suc i) (g ∷ gs) (k ∷ ks) f l (first, rest) lt = each_at i gs ks f l rest (omega arith)

part_at : (parts : List KeptPart) (i : ℕ) (l : KeptPart) (d : Part) → i < length parts → l ≡ get_or parts i l →
    get_or (map part_of parts) i d ≡ part_of l
part_at [] i l d lt is = absurd (omega arith)
part_at (p ∷ ps) zero l d lt is = ap part_of (sym is)
part_at (p ∷ ps) (suc i) l d lt is = part_at ps i l d (omega arith) is

pub spelled_at : (names contents : List (List ℕ)) (parts : List KeptPart) (i : ℕ) (name item bytes : List ℕ) (l : KeptPart) →
    length names ≡ length contents → i < length contents → i < length parts → name ≡ get_or names i name → item ≡ get_or contents i item →
    bytes ≡ item → l ≡ get_or parts i l → EachSpells (sources names contents) (map part_of parts) → Reads (source_of i name bytes)
    (part_of l)
spelled_at names contents parts i name item bytes l same lt lt' e e' k is each =
    let f : Source = source_of i name bytes in
    subst (λ (z : Part). Reads f z) (part_at parts i l (part_of l) lt' is)
    (subst (λ (z : Source). Reads z (get_or (map part_of parts) i (part_of l)))
    (sym (source_is names contents i name item bytes same lt e e' k))
    (each_at i (sources names contents) (map part_of parts) f (part_of l) each (source_within names contents i same lt)))

-- as many parts as files
pub within_parts : (names contents : List (List ℕ)) (parts : List KeptPart) (i : ℕ) → length names ≡ length contents →
    EachSpells (sources names contents) (map part_of parts) → i < length contents → i < length parts
within_parts names contents parts i same each lt =
    let count = sources_length 0 names contents same in
    let both = same_length (sources names contents) (map part_of parts) each in
    let mapped = length-map parts part_of in
    omega (arith, count, both, mapped)

-- ---- in a loop

module _ (p : Option Name) where
  each_push : (files : List Source) (xs : List ClientFile) (f : Source) (x : ClientFile) → EachPlays p files xs → IsPlayed p f x →
      EachPlays p (files ++ f ∷ []) (xs ++ x ∷ [])
  each_push [] [] f x each h = (h, tt)
  each_push [] (y ∷ ys) f x each h = absurd each
  each_push (g ∷ gs) [] f x each h = absurd each
  each_push (g ∷ gs) (y ∷ ys) f x (first, rest) h = (first, each_push gs ys f x rest h)

  -- what judging the files from an index on answers is the answer, and those before have these clients
  pub record PlaysSoFar (files : List Source) (i : ℕ) (xs : List ClientFile) : Type 0 where
    pub left : (r : Option Refusal) → Judged (IsUnaccepted p) (drop i files) r → Judged (IsUnaccepted p) files r
    pub each : EachPlays p (take i files) xs

  pub plays_start : (files : List Source) → PlaysSoFar files 0 []
  plays_start files = record { left = λ r j. j; each = tt }

  module _ {files : List Source} {i : ℕ} {xs : List ClientFile} (so_far : PlaysSoFar files i xs) (f : Source) (within : i < length files)
      (is : f ≡ get_or files i f) where
    next : drop i files ≡ f ∷ drop (suc i) files
    next = drop-cons files i f within ∙ ap (λ (z : Source). z ∷ drop (suc i) files) (sym is)

    unaccepted : (r : Refusal) → IsUnaccepted p f r → Judged (IsUnaccepted p) files (Some r)
    unaccepted r h = so_far.left (Some r) (subst (λ (z : List Source). Judged (IsUnaccepted p) z (Some r)) (sym next) (here h))

    pub plays_more : (x : ClientFile) → IsPlayed p f x → PlaysSoFar files (i + 1) (xs ++ x ∷ [])
    plays_more x h = record {
      left = λ r j. so_far.left r (subst (λ (z : List Source). Judged (IsUnaccepted p) z r) (sym next)
          (later (λ r u. u.never x h) (subst (λ (k : ℕ). Judged (IsUnaccepted p) (drop k files) r) (add-one i) j)));
      each = subst (λ (z : List Source). EachPlays p z (xs ++ x ∷ []))
          (sym (take_more files i f within ∙ ap (λ (z : Source). take i files ++ z ∷ []) (sym is)))
          (each_push (take i files) xs f x so_far.each h);
    }

    pub plays_failed : (stop : Stop) → Answers (IsPlayed p f) (IsUnaccepted p f) (Err stop) → (answer : Result (Row ClientFile) Stop) →
        answer ≡ Err stop →
        Answers (λ (xs : Row ClientFile). EachPlays p files xs.items) (λ r. Judged (IsUnaccepted p) files (Some r)) answer
    plays_failed stop h answer e =
        refused_by (IsPlayed p f) (IsUnaccepted p f) (λ (xs : Row ClientFile). EachPlays p files xs.items)
        (λ r. Judged (IsUnaccepted p) files (Some r)) unaccepted stop h answer e

  pub plays_end : {files : List Source} {i : ℕ} {xs : List ClientFile} → PlaysSoFar files i xs → length files ≤ i → EachPlays p files xs
  plays_end {files} {i} {xs} so_far h = subst (λ (z : List Source). EachPlays p z xs) (take_all i files h) so_far.each

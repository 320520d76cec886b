-- Files that are read one after another.
use Rattle.std.proofs.Common.{◌≡◌, ◌<◌, ◌≤◌, ◌+◌, ℕ, zero, suc, List, [], ◌∷◌, ◌++◌, length, map, get_or, take, drop, Option, Some, None}
use Rattle.std.proofs.Common.{refl}
use Rattle.std.proofs.Common.{sym, ap, ◌∙◌, subst, arith, drop-cons, add-one, Result, Err}
use Rattle.std.proofs.lemmas.List.{take_more, take_all}
use Rattle.mg_text.specs.Row.{Row}
use Rattle.mg_refusal.specs.Refusals.{Refusal}
use Rattle.mg_refusal.specs.Order.{Answers}
use Rattle.mg_read.specs.First.{Judged, clean, here, later}
use Rattle.mg_sources.specs.Files.{Source, source_of, sources_from}
use Rattle.mg_sources.specs.Reading.{Part, Reads, EachSpells, Refuses}
use Rattle.mg_sources.specs.declared.part.Part.{Part as KeptPart}
use Rattle.mg_refusal.specs.declared.stop.Stop.{Stop}
use Rattle.mg_sources.specs.Parts.{part_of}
use Rattle.mg_refusal.proofs.Orders.{refused_by}
use Rattle.mg_sources.proofs.OneKind.{excludes}

-- files that spell parts aren't refused
pub none_refused : (files : List Source) (parts : List Part) → EachSpells files parts → Judged Refuses files None
none_refused [] [] each = clean
none_refused [] (l ∷ ls) each = absurd each
none_refused (f ∷ fs) [] each = absurd each
none_refused (f ∷ fs) (l ∷ ls) (only, rest) = later (λ r. excludes f l r only) (none_refused fs ls rest)

-- as many parts as files
pub same_length : (files : List Source) (parts : List Part) → EachSpells files parts → length files ≡ length parts
same_length [] [] each = refl
same_length [] (l ∷ ls) each = absurd each
same_length (f ∷ fs) [] each = absurd each
same_length (f ∷ fs) (l ∷ ls) (only, rest) = ap suc (same_length fs ls rest)

pub sources_length : (n : ℕ) (names : List (List ℕ)) (contents : List (List ℕ)) → length names ≡ length contents →
    length (sources_from n names contents) ≡ length contents
sources_length n [] [] e = refl
sources_length n [] (b ∷ bs) e = absurd (omega (arith, e))
sources_length n (x ∷ xs) [] e = absurd (omega (arith, e))
sources_length n (x ∷ xs) (b ∷ bs) e = let rest : length xs ≡ length bs = omega (arith, e) in ap suc (sources_length (suc n) xs bs rest)

sources_short : (n : ℕ) (names : List (List ℕ)) (contents : List (List ℕ)) → length (sources_from n names contents) ≤ length contents
sources_short n [] contents = omega arith
sources_short n (x ∷ xs) [] = omega arith
sources_short n (x ∷ xs) (b ∷ bs) = let rest = sources_short (suc n) xs bs in omega arith

-- no more files than names
pub sources_named : (n : ℕ) (names : List (List ℕ)) (contents : List (List ℕ)) → length (sources_from n names contents) ≤ length names
sources_named n [] contents = omega arith
sources_named n (x ∷ xs) [] = omega arith
sources_named n (x ∷ xs) (b ∷ bs) = let rest = sources_named (suc n) xs bs in omega arith

-- the file at an index
source_at : (n : ℕ) (names : List (List ℕ)) (contents : List (List ℕ)) (i m : ℕ) (name : List ℕ) (bytes : List ℕ) (d : Source) →
    i < length names → i < length contents → name ≡ get_or names i name → bytes ≡ get_or contents i bytes → m ≡ n + i
    → get_or (sources_from n names contents) i d ≡ record { number = m; name = name; bytes = bytes }
source_at n [] contents i m name bytes d lt lt' e e' k = absurd (omega arith)
source_at n (x ∷ xs) [] i m name bytes d lt lt' e e' k = absurd (omega arith)
source_at n (x ∷ xs) (b ∷ bs) zero m name bytes d lt lt' e e' k = λ i. record { number = same i; name = sym e i; bytes = sym e' i } where
  same : n ≡ m
  same = omega (arith, k)
source_at n (x ∷ xs) (b ∷ bs) (suc i) m name bytes d lt lt' e e' k =
    let count : m ≡ suc n + i = omega (arith, k) in
    source_at (suc n) xs bs i m name bytes d (omega arith) (omega arith) e e' count

pub source_within : (names : List (List ℕ)) (contents : List (List ℕ)) (i : ℕ) → length names ≡ length contents → i < length contents →
    i < length (sources_from 0 names contents)
source_within names contents i same lt = let e = sources_length 0 names contents same in omega (arith, e)

pub source_is : (names : List (List ℕ)) (contents : List (List ℕ)) (i : ℕ) (name : List ℕ) (item bytes : List ℕ) →
    length names ≡ length contents →
    i < length contents → name ≡ get_or names i name → item ≡ get_or contents i item → bytes ≡ item
    → source_of i name bytes ≡ get_or (sources_from 0 names contents) i (source_of i name bytes)
source_is names contents i name item bytes same lt e e' k =
    let bytes_is : bytes ≡ get_or contents i bytes = subst (λ (z : List ℕ). z ≡ get_or contents i z) (sym k) e' in
    sym (source_at 0 names contents i i name bytes (source_of i name bytes) (omega (arith, same)) lt e bytes_is (omega arith))

pub same_at : {X : Type 0} (xs : List X) (i : ℕ) (d d' : X) → i < length xs → get_or xs i d ≡ get_or xs i d'
same_at [] i d d' lt = absurd (omega arith)
same_at (x ∷ xs) zero d d' lt = refl
same_at (x ∷ xs) (suc i) d d' lt = same_at xs i d d' (omega arith)

-- the file of an index, whatever its name is and whatever it holds
pub source_there : (names : List (List ℕ)) (contents : List (List ℕ)) (i : ℕ) → i < length (sources_from 0 names contents) →
    source_of i (get_or names i []) (get_or contents i [])
    ≡ get_or (sources_from 0 names contents) i (source_of i (get_or names i []) (get_or contents i []))
source_there names contents i lt =
    let named : i < length names = let s = sources_named 0 names contents in omega (arith, s) in
    let short : i < length contents = let s = sources_short 0 names contents in omega (arith, s) in
    sym (source_at 0 names contents i i (get_or names i []) (get_or contents i []) (source_of i (get_or names i []) (get_or contents i []))
    named short (same_at names i [] (get_or names i []) named) (same_at contents i [] (get_or contents i []) short) (omega arith))

-- ---- reading them in a loop

each_push : (files : List Source) (parts : List Part) (f : Source) (l : Part) → EachSpells files parts → Reads f l →
    EachSpells (files ++ f ∷ []) (parts ++ l ∷ [])
each_push [] [] f l each only = (only, tt)
each_push [] (k ∷ ks) f l each only = absurd each
each_push (g ∷ gs) [] f l each only = absurd each
each_push (g ∷ gs) (k ∷ ks) f l (first, rest) only = (first, each_push gs ks f l rest only)

-- what judging the files from an index on answers is the answer, and those before spell these parts
pub record ReadSoFar (files : List Source) (i : ℕ) (parts : List Part) : Type 0 where
  pub left : (r : Option Refusal) → Judged Refuses (drop i files) r → Judged Refuses files r
  pub each : EachSpells (take i files) parts

pub read_start : (files : List Source) → ReadSoFar files 0 []
read_start files = record { left = λ r j. j; each = tt }

module _ {files : List Source} {i : ℕ} {parts : List Part} (so_far : ReadSoFar files i parts) (f : Source) (within : i < length files)
    (is : f ≡ get_or files i f) where
  next : drop i files ≡ f ∷ drop (suc i) files
  next = drop-cons files i f within ∙ ap (λ (z : Source). z ∷ drop (suc i) files) (sym is)

  read_refused : (r : Refusal) → Refuses f r → Judged Refuses files (Some r)
  read_refused r h = so_far.left (Some r) (subst (λ (z : List Source). Judged Refuses z (Some r)) (sym next) (here h))

  pub read_more : (l : Part) → Reads f l → ReadSoFar files (i + 1) (parts ++ l ∷ [])
  read_more l only = record {
    left = λ r j. so_far.left r (subst (λ (z : List Source). Judged Refuses z r) (sym next)
        (later (λ r. excludes f l r only) (subst (λ (k : ℕ). Judged Refuses (drop k files) r) (add-one i) j)));
    each = subst (λ (z : List Source). EachSpells z (parts ++ l ∷ []))
        (sym (take_more files i f within ∙ ap (λ (z : Source). take i files ++ z ∷ []) (sym is)))
        (each_push (take i files) parts f l so_far.each only);
  }

-- a file that can't be read ends it
pub read_failed : (files : List Source) (i : ℕ) (parts : List Part) → ReadSoFar files i parts → (f : Source) → i < length files →
    f ≡ get_or files i f → (stop : Stop) → Answers (λ (part : KeptPart). Reads f (part_of part)) (Refuses f) (Err stop) →
    (answer : Result (Row KeptPart) Stop) → answer ≡ Err stop →
    Answers (λ (parts : Row KeptPart). EachSpells files (map part_of parts.items)) (λ r. Judged Refuses files (Some r)) answer
read_failed files i parts so_far f within is stop h answer e =
    refused_by (λ (part : KeptPart). Reads f (part_of part)) (Refuses f)
    (λ (parts : Row KeptPart). EachSpells files (map part_of parts.items)) (λ r. Judged Refuses files (Some r))
    (read_refused so_far f within is) stop h answer e

pub read_end : {files : List Source} {i : ℕ} {parts : List Part} → ReadSoFar files i parts → length files ≤ i → EachSpells files parts
read_end {files} {i} {parts} so_far h = subst (λ (z : List Source). EachSpells z parts) (take_all i files h) so_far.each

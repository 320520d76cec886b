-- Each refusal is told in one file, and nothing else is told.
use Rattle.std.proofs.Common.{◌≡◌, ℕ, zero, suc, ◌+◌, ◌<◌, Bool, true, false, cond, List, [], ◌∷◌, length, nat_eq, Option, Some}
use Rattle.std.proofs.Common.{refl, sym, ap, ap₂, ◌∙◌, arith, subst}
use Rattle.std.specs.Prelude.{Contains, filter, slice_get, nat_lt}
use Rattle.std.specs.List.{sum_by}
use Rattle.std.proofs.lemmas.List.Sums.{sum_by-cons}
use Rattle.std.proofs.lemmas.Bool.Decides.{nat_tests}
use Rattle.std.specs.declared.vec.Vec.{Vec}
use Rattle.std.specs.declared.alloc.Global.{Global}
use Rattle.mg_text.specs.Places.{start_of}
use Rattle.mg_text.specs.declared.place.Place.{Place}
use Rattle.mg_refusal.specs.Refusals.{Refusal}
use Rattle.lsp_text.specs.declared.encoding.Encoding.{Encoding}
use Rattle.lsp_messages.specs.declared.outgoing.Diagnostic.{Diagnostic}
use Rattle.lsp_notes.specs.Homes.{place_of, place_in, told_in}
use Rattle.lsp_notes.specs.Told.{text_of, IsDiagnostic, AreDiagnostics, AreToldFrom}
use Rattle.lsp_notes.specs.Once.{EachIsToldOnce, NothingElseIsTold, AsManyAreTold, NothingIsTold}
use Rattle.lsp_notes.specs.inner.Groups.{groups_from}
use Rattle.lsp_notes.proofs.Grouping.{eq_true, eq_false}

-- Lists that have an element.
module _ {X : Type 0} where
  pub first_of : (x y : X) (xs : List X) → x ≡ y → Contains (x ∷ xs) y
  first_of x y xs e = (0, omega arith, e)

  pub later : (x y : X) (xs : List X) → Contains xs y → Contains (x ∷ xs) y
  later x y xs (k, lt, e) = (suc k, omega (arith, lt), e)

  module _ (p : X → Bool) where
    kept_by : (x y : X) (xs : List X) (b : Bool) → Contains xs y → Contains (cond b (x ∷ xs) xs) y
    kept_by x y xs true h = later x y xs h
    kept_by x y xs false h = h

    -- what passes is kept
    pub kept : (xs : List X) (y : X) → Contains xs y → p y ≡ true → Contains (filter p xs) y
    kept [] y (k, lt, e) passes = absurd (omega (arith, lt))
    kept (x ∷ xs) y (zero, lt, e) passes =
        subst (λ (b : Bool). Contains (cond b (x ∷ filter p xs) (filter p xs)) y) (sym (ap p e ∙ passes)) (first_of x y (filter p xs) e)
    kept (x ∷ xs) y (suc k, lt, e) passes = kept_by x y (filter p xs) (p x) (kept xs y (k, omega (arith, lt), e) passes)

    found_by : (x y : X) (xs : List X) (b : Bool) → p x ≡ b → (Contains (filter p xs) y → Contains xs y × (p y ≡ true)) →
        Contains (cond b (x ∷ filter p xs) (filter p xs)) y → Contains (x ∷ xs) y × (p y ≡ true)
    found_by x y xs true e less (zero, lt, s) = (first_of x y xs s, sym (ap p s) ∙ e)
    found_by x y xs true e less (suc k, lt, s) = let h = less (k, omega (arith, lt), s) in (later x y xs h.0, h.1)
    found_by x y xs false e less h = let g = less h in (later x y xs g.0, g.1)

    -- and what is kept passes
    pub found : (xs : List X) (y : X) → Contains (filter p xs) y → Contains xs y × (p y ≡ true)
    found [] y (k, lt, e) = absurd (omega (arith, lt))
    found (x ∷ xs) y h = found_by x y xs (p x) refl (found xs y) h

module _ (encoding : Encoding) (count : ℕ) where
  -- a refusal has its diagnostic
  pub told_of : (text : List ℕ) (rs : List Refusal) (ds : List Diagnostic) (r : Refusal) → AreDiagnostics encoding count text rs ds →
      Contains rs r → (d : Diagnostic) × Contains ds d × IsDiagnostic encoding text (place_in count r) r d
  told_of text [] ds r h (k, lt, e) = absurd (omega (arith, lt))
  told_of text (q ∷ rs) [] r h c = absurd h
  told_of text (q ∷ rs) (d ∷ ds) r h (zero, lt, e) =
      (d, first_of d d ds refl, subst (λ (s : Refusal). IsDiagnostic encoding text (place_in count s) s d) e h.0)
  told_of text (q ∷ rs) (d ∷ ds) r h (suc k, lt, e) =
      let g = told_of text rs ds r h.1 (k, omega (arith, lt), e) in (g.0, later d g.0 ds g.1, g.2)

  -- and a diagnostic its refusal
  pub is_told : (text : List ℕ) (rs : List Refusal) (ds : List Diagnostic) (d : Diagnostic) → AreDiagnostics encoding count text rs ds →
      Contains ds d → (r : Refusal) × Contains rs r × IsDiagnostic encoding text (place_in count r) r d
  is_told text rs [] d h (k, lt, e) = absurd (omega (arith, lt))
  is_told text [] (x ∷ ds) d h c = absurd h
  is_told text (q ∷ rs) (x ∷ ds) d h (zero, lt, e) =
      (q, first_of q q rs refl, subst (λ (s : Diagnostic). IsDiagnostic encoding text (place_in count q) q s) e h.0)
  is_told text (q ∷ rs) (x ∷ ds) d h (suc k, lt, e) =
      let g = is_told text rs ds d h.1 (k, omega (arith, lt), e) in (g.0, later q g.0 rs g.1, g.2)

  pub as_long : (text : List ℕ) (rs : List Refusal) (ds : List Diagnostic) → AreDiagnostics encoding count text rs ds → length ds ≡ length rs
  as_long text [] [] h = refl
  as_long text [] (d ∷ ds) h = absurd h
  as_long text (r ∷ rs) [] h = absurd h
  as_long text (r ∷ rs) (d ∷ ds) h = ap suc (as_long text rs ds h.1)

  -- the file of a number, of those from one on
  pub record IsAt (rs : List Refusal) (contents : List (List ℕ)) (lists : List (Vec Diagnostic Global)) (file i : ℕ) : Type 0 where
    pub bytes : List ℕ
    pub has : slice_get contents i ≡ Some bytes
    pub list : Vec Diagnostic Global
    pub of : slice_get lists i ≡ Some list
    pub are : AreDiagnostics encoding count (text_of bytes) (told_in count (file + i) rs) list.items

  module _ (rs : List Refusal) where
    moved : (bytes : List ℕ) (l : Vec Diagnostic Global) (n m : ℕ) → n ≡ m →
        AreDiagnostics encoding count (text_of bytes) (told_in count n rs) l.items →
        AreDiagnostics encoding count (text_of bytes) (told_in count m rs) l.items
    moved bytes l n m e = subst (λ (k : ℕ). AreDiagnostics encoding count (text_of bytes) (told_in count k rs) l.items) e

    shifted : (c : List ℕ) (contents : List (List ℕ)) (l : Vec Diagnostic Global) (lists : List (Vec Diagnostic Global)) (file i : ℕ) →
        IsAt rs contents lists (suc file) i → IsAt rs (c ∷ contents) (l ∷ lists) file (suc i)
    shifted c contents l lists file i at = record {
      bytes = at.bytes;
      has = at.has;
      list = at.list;
      of = at.of;
      are = moved at.bytes at.list (suc file + i) (file + suc i) (omega arith) at.are;
    }

    pub at_file : (file : ℕ) (contents : List (List ℕ)) (lists : List (Vec Diagnostic Global)) (i : ℕ) →
        AreToldFrom encoding count file rs contents lists → i < length contents → IsAt rs contents lists file i
    at_file file [] lists i h lt = absurd (omega (arith, lt))
    at_file file (c ∷ contents) [] i h lt = absurd h
    at_file file (c ∷ contents) (l ∷ lists) zero h lt =
        record { bytes = c; has = refl; list = l; of = refl; are = moved c l file (file + 0) (omega arith) h.0 }
    at_file file (c ∷ contents) (l ∷ lists) (suc i) h lt =
        shifted c contents l lists file i (at_file (suc file) contents lists i h.1 (omega (arith, lt)))

    -- a list that is there is of a file that is
    pub within : (file : ℕ) (contents : List (List ℕ)) (lists : List (Vec Diagnostic Global)) (i : ℕ) (l : Vec Diagnostic Global) →
        AreToldFrom encoding count file rs contents lists → slice_get lists i ≡ Some l → i < length contents
    within file [] [] i l h e = absurd (let none : ⊥ = cc in none)
    within file [] (x ∷ lists) i l h e = absurd h
    within file (c ∷ contents) [] i l h e = absurd h
    within file (c ∷ contents) (x ∷ lists) zero l h e = omega arith
    within file (c ∷ contents) (x ∷ lists) (suc i) l h e =
        let less = within (suc file) contents lists i l h.1 e in omega (arith, less)

some_same : {X : Type 0} (o : Option X) (x y : X) → o ≡ Some x → o ≡ Some y → x ≡ y
some_same o x y e f = let same : Some x ≡ Some y = sym e ∙ f in cc

-- a refusal is told in one of the files, where there is any
below : (count : ℕ) (place : Place) (b : Bool) → nat_lt place.file count ≡ b → 0 < count → (cond b place (start_of 0)).file < count
below count place true e some = grind (arith, nat_tests)
below count place false e some = some

pub home_below : (count : ℕ) (r : Refusal) → 0 < count → (place_in count r).file < count
home_below count r some = below count (place_of r.spot) (nat_lt (place_of r.spot).file count) refl some

in_it : (count : ℕ) (rs : List Refusal) (r : Refusal) (file : ℕ) → (place_in count r).file ≡ file → Contains rs r → Contains (told_in count file rs) r
in_it count rs r file e c = kept (λ q. nat_eq (place_in count q).file file) rs r c (eq_true (place_in count r).file file e)

is_zero : (n : ℕ) → 0 + n ≡ n
is_zero n = omega arith

home_of : (place : Place) (file : ℕ) → nat_eq place.file (0 + file) ≡ true → place.file ≡ file
home_of place file e = grind (arith, nat_tests)

none_of : (ds : List Diagnostic) → length ds ≡ 0 → ds ≡ []
none_of [] e = refl
none_of (d ∷ ds) e = absurd (omega (arith, e))

pub each_once : EachIsToldOnce
each_once encoding rs contents lists are some r there =
    let count = length contents in
    let file = (place_in count r).file in
    let at = at_file encoding count rs 0 contents lists file are (home_below count r some) in
    let told = told_of encoding count (text_of at.bytes) (told_in count (0 + file) rs) at.list.items r at.are
    (in_it count rs r (0 + file) (sym (is_zero file)) there) in
    record {
      file = file;
      told = record {
        list = at.list;
        of = at.of;
        diagnostic = told.0;
        there = told.1;
        is = record { bytes = at.bytes; has = at.has; is = told.2; home = refl };
      };
      alone = λ other h. sym h.is.home;
    }

pub nothing_else : NothingElseIsTold
nothing_else encoding rs contents lists are file list d is there =
    let count = length contents in
    let at = at_file encoding count rs 0 contents lists file are (within encoding count rs 0 contents lists file list are is) in
    let same : at.list ≡ list = some_same (slice_get lists file) at.list list at.of is in
    let told = is_told encoding count (text_of at.bytes) (told_in count (0 + file) rs) at.list.items d at.are
    (subst (λ (l : Vec Diagnostic Global). Contains l.items d) (sym same) there) in
    let was = found (λ q. nat_eq (place_in count q).file (0 + file)) rs told.0 told.1 in
    (told.0, was.0, record { bytes = at.bytes; has = at.has; is = told.2; home = home_of (place_in count told.0) file was.1 })

pub nothing_told : NothingIsTold
nothing_told encoding contents lists are file list is =
    let count = length contents in
    let at = at_file encoding count [] 0 contents lists file are (within encoding count [] 0 contents lists file list are is) in
    ap (λ (l : Vec Diagnostic Global). l.items) (sym (some_same (slice_get lists file) at.list list at.of is))
    ∙ none_of at.list.items (as_long encoding count (text_of at.bytes) [] at.list.items at.are)

-- How many are told.
abbrev total : List (List Refusal) → ℕ
total [] = 0
total (g ∷ gs) = length g + total gs

module _ (count : ℕ) where
  longer : (r : Refusal) (rs : List Refusal) (file : ℕ) (b : Bool) → nat_eq (place_in count r).file file ≡ b →
      length (told_in count file (r ∷ rs)) ≡ length (cond b (r ∷ told_in count file rs) (told_in count file rs))
  longer r rs file b e = ap (λ (t : Bool). length (cond t (r ∷ told_in count file rs) (told_in count file rs))) e

  none_more : (r : Refusal) (rs : List Refusal) (file left : ℕ) → (place_in count r).file < file →
      total (groups_from count file left (r ∷ rs)) ≡ total (groups_from count file left rs)
  none_more r rs file zero h = refl
  none_more r rs file (suc left) h =
      ap₂ (λ (m n : ℕ). m + n) (longer r rs file false (eq_false (place_in count r).file file (λ e. omega (arith, e, h))))
      (none_more r rs (suc file) left (omega (arith, h)))

  one_more : (r : Refusal) (rs : List Refusal) (file left d : ℕ) → (place_in count r).file ≡ file + d → d < left →
      total (groups_from count file left (r ∷ rs)) ≡ suc (total (groups_from count file left rs))
  one_more r rs file zero d e h = absurd (omega (arith, h))
  one_more r rs file (suc left) zero e h =
      let more = longer r rs file true (eq_true (place_in count r).file file (omega (arith, e))) in
      let same = none_more r rs (suc file) left (omega (arith, e)) in
      omega (arith, more, same)
  one_more r rs file (suc left) (suc d) e h =
      let same = longer r rs file false (eq_false (place_in count r).file file (λ f. omega (arith, e, f))) in
      let more = one_more r rs (suc file) left d (omega (arith, e)) (omega (arith, h)) in
      omega (arith, same, more)

  none_at_all : (file left : ℕ) → total (groups_from count file left []) ≡ 0
  none_at_all file zero = refl
  none_at_all file (suc left) = let less = none_at_all (suc file) left in omega (arith, less)

  all_of_them : (rs : List Refusal) → 0 < count → total (groups_from count 0 count rs) ≡ length rs
  all_of_them [] h = none_at_all 0 count
  all_of_them (r ∷ rs) h =
      one_more r rs 0 count (place_in count r).file (sym (is_zero (place_in count r).file)) (home_below count r h) ∙ ap suc (all_of_them rs h)

  module _ (encoding : Encoding) (rs : List Refusal) where
    lists_are : (file : ℕ) (contents : List (List ℕ)) (lists : List (Vec Diagnostic Global)) → AreToldFrom encoding count file rs contents lists →
        sum_by (λ ds. length ds.items) lists ≡ total (groups_from count file (length contents) rs)
    lists_are file [] [] h = refl
    lists_are file [] (l ∷ lists) h = absurd h
    lists_are file (c ∷ contents) [] h = absurd h
    lists_are file (c ∷ contents) (l ∷ lists) h =
        sum_by-cons (λ ds. length ds.items) l lists
        ∙ ap₂ (λ (m n : ℕ). m + n) (as_long encoding count (text_of c) (told_in count file rs) l.items h.0)
        (lists_are (suc file) contents lists h.1)

pub as_many_told : AsManyAreTold
as_many_told encoding rs contents lists are some =
    lists_are (length contents) encoding rs 0 contents lists are ∙ all_of_them (length contents) rs some

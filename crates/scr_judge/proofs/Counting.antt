-- Counting up to one too many says whether there are too many states.
use Rattle.std.proofs.Common.{◌≡◌, ◌↔◌, ◌⊎◌, ⊎_elim, ℕ, ◌+◌, ◌<◌, ◌≤◌, nat_lt, Bool, true, false, not, cond, IsTrue, Some, None}
use Rattle.std.proofs.Common.{if◌then◌else◌, List, [], ◌∷◌, ◌++◌, map, length, refl, sym, ap, subst, ◌∙◌, true≢false, arith, length-append}
use Rattle.std.specs.List.{filter}
use Rattle.std.specs.Str.{bytes_eq}
use Rattle.std.proofs.lemmas.List.Elements.{filter-append}
use Rattle.std.proofs.lemmas.Bool.Decides.{nat_tests}
use Rattle.mg_text.specs.Call.{Name}
use Rattle.scr_tree.specs.Tree.{Statements, Nothing, Says, Choice, Rec, Continue, Do, Branches, NoBranch, Branch}
use Rattle.scr_tree.specs.Spots.{Past, Opens, Enters, Way, Spot, spot, spots, branch_spots}
use Rattle.mg_read.specs.Culprit.{culprit}
use Rattle.mg_read.specs.First.{Judged, clean, here, later}
use Rattle.mg_text.specs.Places.{start_of}
use Rattle.scr_tree.specs.States.{TooManyStates, begins, is_state, states, all_states}
use Rattle.scr_tree.specs.View.{statements}
use Rattle.scr_tree.specs.Written.{part_written, parts_in, me_in, body_of, written_of}
use Rattle.scr_tree.specs.declared.written.Written.{Written}
use Rattle.scr_tree.specs.declared.written.WrittenPart.{WrittenPart as Part}
use Rattle.scr_judge.specs.inner.Counting.{up, counted, counted_in, counted_parts}

-- r is n + k, or 1,001 where that is less
pub record Counts (n k r : ℕ) : Type 0 where
  pub low : n + k < 1001 → r ≡ n + k
  pub high : 1001 ≤ n + k → r ≡ 1001

nothing : (n : ℕ) → n ≤ 1001 → Counts n 0 n
nothing n h = record { low = λ l. omega arith; high = λ l. omega arith }

below : (n k r : ℕ) → Counts n k r → r ≤ 1001
below n k r c = ⊎_elim (λ l. omega (arith, l, c.low l)) (λ g. omega (arith, c.high g)) (less_or (n + k))
  where
    less_or : (m : ℕ) → (m < 1001) ⊎ (1001 ≤ m)
    less_or m = grind arith

both : (n a b r s k : ℕ) → Counts n a r → Counts r b s → a + b ≡ k → Counts n k s
both n a b r s k c d e = record {
  low = λ l. let f : r ≡ n + a = c.low (omega (arith, l, e)) in let g : s ≡ r + b = d.low (omega (arith, l, e, f)) in omega
      (arith, e, f, g);
  high = λ h. ⊎_elim
      (λ l. let f : r ≡ n + a = c.low l in d.high (omega (arith, h, e, f)))
      (λ g. let f : r ≡ 1001 = c.high g in d.high (omega (arith, f)))
      (less_or (n + a));
}
  where
    less_or : (m : ℕ) → (m < 1001) ⊎ (1001 ≤ m)
    less_or m = grind arith

upped : (n : ℕ) (b : Bool) → nat_lt n 1001 ≡ b → n ≤ 1001 → Counts n 1 (if b then n + 1 else n)
upped n true e h = let l : n < 1001 = grind (arith, nat_tests) in record { low = λ k. refl; high = λ k. omega (arith, l, k) }
upped n false e h = let l : 1001 ≤ n = grind (arith, nat_tests) in record {
  low = λ k. omega (arith, l, k);
  high =
      λ k. omega (arith, l, h);
}

one : (n : ℕ) → n ≤ 1001 → Counts n 1 (up n)
one n h = upped n (nat_lt n 1001) refl h

module _ (me : Name) where
  unfoldable pub many : List Spot → ℕ
  many ss = length (filter (is_state me) ss)

  many-append : (a b : List Spot) → many a + many b ≡ many (a ++ b)
  unfolding many
  many-append a b = sym (ap length (filter-append (is_state me) a b) ∙ length-append _ _)

  -- a message
  said : (first : Bool) (s : Spot) (n r : ℕ) (more : List Spot) → is_state me s ≡ not first → n ≤ 1001 →
      Counts (if first then n else up n) (many more) r → Counts n (many (s ∷ more)) r
  unfolding many
  said true s n r more e h c = subst (λ k. Counts n k r)
      (sym (ap (λ b. length (cond b (s ∷ filter (is_state me) more) (filter (is_state me) more))) e)) c
  said false s n r more e h c =
      both n 1 (many more) (up n) r (many (s ∷ more)) (one n h) c
      (sym (ap (λ b. length (cond b (s ∷ filter (is_state me) more) (filter (is_state me) more))) e ∙ (omega arith)))

  -- a choice
  chosen : (n r s : ℕ) (inner more : List Spot) (x : Spot) → is_state me x ≡ true → n ≤ 1001 → Counts (up n) (many inner) r →
      Counts r (many more) s → Counts n (many (x ∷ (inner ++ more))) s
  unfolding many
  chosen n r s inner more x e h c d =
      both n 1 (many (inner ++ more)) (up n) s (many (x ∷ (inner ++ more))) (one n h)
      (both (up n) (many inner) (many more) r s (many (inner ++ more)) c d (many-append inner more))
      (sym (ap (λ b. length (cond b (x ∷ filter (is_state me) (inner ++ more)) (filter (is_state me) (inner ++ more)))) e ∙ (omega arith)))

  -- another statement
  passed : (n r s : ℕ) (inner more : List Spot) (x : Spot) → is_state me x ≡ false → Counts n (many inner) r → Counts r (many more) s →
      Counts n (many (x ∷ (inner ++ more))) s
  unfolding many
  passed n r s inner more x e c d =
      subst (λ k. Counts n k s) (sym
      (ap (λ b. length (cond b (x ∷ filter (is_state me) (inner ++ more)) (filter (is_state me) (inner ++ more)))) e))
      (both n (many inner) (many more) r s (many (inner ++ more)) c d (many-append inner more))

  first_said : (first : Bool) (n : ℕ) → n ≤ 1001 → (if first then n else up n) ≤ 1001
  first_said true n h = h
  first_said false n h = below n 1 (up n) (one n h)

  mutual
    unfolding many

    pub counted_exact : (first : Bool) (n : ℕ) (way : Way) (ss : Statements) → begins me way ≡ first → n ≤ 1001 →
        Counts n (many (spots way ss)) (counted me first n ss)
    counted_exact first n way Nothing e h = nothing n h
    counted_exact first n way (Says m rest) e h = said first (spot way (Says m rest)) n _ (spots (Past (Says m Nothing) ∷ way) rest)
        (ap not e) h (counted_exact false (if first then n else up n) (Past (Says m Nothing) ∷ way) rest refl (first_said first n h))
    counted_exact first n way (Choice p at bs rest) e h =
        let inner : Counts (up n) (many (branch_spots way at [] bs)) (counted_in me (bytes_eq at me) (up n) bs) =
        counted_in_exact (up n) way at [] bs (below n 1 (up n) (one n h)) in
        chosen n _ _ (branch_spots way at [] bs) (spots (Past (Choice p at bs Nothing) ∷ way) rest) (spot way (Choice p at bs rest)) refl h
        inner (counted_exact false _ (Past (Choice p at bs Nothing) ∷ way) rest refl (below _ _ _ inner))
    counted_exact first n way (Rec p name body rest) e h =
        let inner : Counts n (many (spots (Opens name ∷ way) body)) (counted me false n body) =
        counted_exact false n (Opens name ∷ way) body refl h in
        passed n _ _ (spots (Opens name ∷ way) body) (spots (Past (Rec p name body Nothing) ∷ way) rest) (spot way (Rec p name body rest))
        refl inner (counted_exact false _ (Past (Rec p name body Nothing) ∷ way) rest refl (below _ _ _ inner))
    counted_exact first n way (Continue p name rest) e h = passed n n _ [] (spots (Past (Continue p name Nothing) ∷ way) rest)
        (spot way (Continue p name rest)) refl (nothing n h) (counted_exact false n (Past (Continue p name Nothing) ∷ way) rest refl h)
    counted_exact first n way (Do p name rest) e h = passed n n _ [] (spots (Past (Do p name Nothing) ∷ way) rest)
        (spot way (Do p name rest)) refl (nothing n h) (counted_exact false n (Past (Do p name Nothing) ∷ way) rest refl h)

    pub counted_in_exact : (n : ℕ) (way : Way) (at : Name) (earlier : List Statements) (bs : Branches) → n ≤ 1001 →
        Counts n (many (branch_spots way at earlier bs)) (counted_in me (bytes_eq at me) n bs)
    counted_in_exact n way at earlier NoBranch h = nothing n h
    counted_in_exact n way at earlier (Branch b more) h =
        let inner : Counts n (many (spots (Enters at earlier ∷ way) b)) (counted me (bytes_eq at me) n b) =
        counted_exact (bytes_eq at me) n (Enters at earlier ∷ way) b refl h in
        both n (many (spots (Enters at earlier ∷ way) b)) (many (branch_spots way at (b ∷ earlier) more)) _ _ _ inner
        (counted_in_exact _ way at (b ∷ earlier) more (below _ _ _ inner)) (many-append (spots (Enters at earlier ∷ way) b)
        (branch_spots way at (b ∷ earlier) more))

-- the same of protocols, one after another
parts_count : (ps : List Part) (n : ℕ) → n ≤ 1001 → Counts n (length (all_states me_in body_of (map part_written ps))) (counted_parts n ps)
unfolding many
parts_count [] n h = nothing n h
parts_count (p ∷ ps) n h =
    let own : Counts n (many p.me.name (spots [] (statements p.body.items))) (counted p.me.name false n (statements p.body.items)) =
    counted_exact p.me.name false n [] (statements p.body.items) refl h in
    both n (many p.me.name (spots [] (statements p.body.items))) (length (all_states me_in body_of (map part_written ps))) _ _ _ own
    (parts_count ps (counted p.me.name false n (statements p.body.items)) (below _ _ _ own))
    (sym (length-append (states p.me.name (statements p.body.items)) (all_states me_in body_of (map part_written ps))))

too_many_in : (p : Part) (ps : List Part) (n : ℕ) → n ≡ counted_parts (counted p.me.name false 0 (statements p.body.items)) ps →
    (1000 < n) ↔ (1000 < length (all_states me_in body_of (map part_written (p ∷ ps))))
too_many_in p ps n e =
    let c : Counts 0 (length (all_states me_in body_of (map part_written (p ∷ ps)))) (counted_parts 0 (p ∷ ps)) =
    parts_count (p ∷ ps) 0 (omega arith) in (
      λ l. ⊎_elim (λ small. let f = c.low small in omega (arith, l, e, f)) (λ big. omega (arith, big))
          (less_or (0 + length (all_states me_in body_of (map part_written (p ∷ ps))))),
      λ l. let f = c.high (omega (arith, l)) in omega (arith, e, f),
    )
  where
    less_or : (m : ℕ) → (m < 1001) ⊎ (1001 ≤ m)
    less_or m = grind arith

-- whether there are more than a thousand states
pub too_many : (w : Written) (n : ℕ) → n ≡ counted_parts (counted w.first.me.name false 0 (statements w.first.body.items)) w.others.items →
    (1000 < n) ↔ (1000 < length (all_states me_in body_of (parts_in (written_of 0 w))))
too_many w n e = too_many_in w.first w.others.items n e

-- the file is judged
pub judged_file : (file : ℕ) (found : List Spot) (b : Bool) → (IsTrue b ↔ (1000 < length found)) →
    Judged (TooManyStates file) (found ∷ []) (if b then Some (culprit (start_of file) []) else None)
judged_file file found true h = here (refl, h.0 refl)
judged_file file found false h = later (λ c x. true≢false (sym (h.1 x.1))) clean

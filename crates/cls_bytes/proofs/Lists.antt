-- Counted lists: what is read is spelled so, and what is spelled so is read.
use Rattle.std.proofs.Common.{◌≡◌, ℕ, zero, suc, List, [], ◌∷◌, ◌++◌, length, Some, refl, sym, ap, subst, ◌∙◌, append_assoc}
use Rattle.std.specs.List.{flat_map, AllByRecursion}
use Rattle.mg_read.specs.Reader.{Reader, ◌>>=◌}
use Rattle.mg_read.proofs.Steps.{bind_some, some_is}
use Rattle.cls_tree.specs.Layout.{u2}
use Rattle.cls_tree.specs.Fits.{IsU2}
use Rattle.cls_bytes.specs.Reading.{number_at, counted, listed_at}
use Rattle.cls_bytes.proofs.Steps.{IsBytes, Takes, Takes-then, IsSound, IsComplete, read}
use Rattle.cls_bytes.proofs.Numbers.{u2_sound, u2_complete}

-- values behind their count
abbrev pub listed_bytes : {A : Type 0} → (A → List ℕ) → List A → List ℕ
listed_bytes spell xs = u2 (length xs) ++ flat_map spell xs

abbrev pub FitListed : {A : Type 0} → (A → Type 0) → List A → Type 0
FitListed ok xs = AllByRecursion ok xs × IsU2 (length xs)

module _ {A : Type 0} (f : Reader ℕ A) (spell : A → List ℕ) (ok : A → Type 0) where
  -- n values that were read
  abbrev AreRead : ℕ → List ℕ → List A × List ℕ → Type 0
  AreRead n bytes x = Takes bytes (flat_map spell x.0) x.1 × (length x.0 ≡ n) × AllByRecursion ok x.0

  pub counted_sound : IsSound f spell ok → (n : ℕ) (bytes : List ℕ) (x : List A × List ℕ) → IsBytes bytes → counted f n bytes ≡ Some x →
      AreRead n bytes x
  unfolding counted
  counted_sound sound zero bytes x fits e = subst (AreRead 0 bytes) (some_is ([], bytes) x e) (
    record { parts = refl; rest_fits = fits },
    refl,
    tt,
  )
  counted_sound sound (suc n) bytes x fits e =
      let y = read f spell ok (λ y. counted f n y.1 >>= λ ys. Some (y.0 ∷ ys.0, ys.1)) bytes x sound fits e in
      let ys = bind_some (counted f n y.rest) (λ ys. Some (y.value ∷ ys.0, ys.1)) x y.goes_on in
      let rests = counted_sound sound n y.rest ys.0 y.takes.rest_fits ys.1 in
      let all = Takes-then bytes (spell y.value) y.rest (flat_map spell ys.0.0) ys.0.1 y.takes rests.0 in
      subst (AreRead (suc n) bytes) (some_is (y.value ∷ ys.0.0, ys.0.1) x ys.2) (all, ap suc rests.1, (y.fits, rests.2))

  pub counted_complete : IsComplete f spell ok → (xs : List A) (rest : List ℕ) → AllByRecursion ok xs →
      counted f (length xs) (flat_map spell xs ++ rest) ≡ Some (xs, rest)
  unfolding counted
  counted_complete complete [] rest all = refl
  counted_complete complete (x ∷ xs) rest all =
      ap (counted f (suc (length xs))) (append_assoc (spell x) (flat_map spell xs) rest) ∙ rw (
        complete x (flat_map spell xs ++ rest) all.0,
        counted_complete complete xs rest all.1,
      ) refl

  pub listed_sound : IsSound f spell ok → IsSound (listed_at f) (listed_bytes spell) (FitListed ok)
  unfolding listed_at
  listed_sound sound bytes x fits e =
      let n = read (number_at 2) u2 IsU2 (λ n. counted f n.0 n.1) bytes x u2_sound fits e in
      let xs = counted_sound sound n.value n.rest x n.takes.rest_fits n.goes_on in
      let all = Takes-then bytes (u2 n.value) n.rest (flat_map spell x.0) x.1 n.takes xs.0 in
      (subst (λ (k : ℕ). Takes bytes (u2 k ++ flat_map spell x.0) x.1) (sym xs.1) all, (xs.2, subst IsU2 (sym xs.1) n.fits))

  pub listed_complete : IsComplete f spell ok → IsComplete (listed_at f) (listed_bytes spell) (FitListed ok)
  unfolding listed_at
  listed_complete complete xs rest fit =
      ap (listed_at f) (append_assoc (u2 (length xs)) (flat_map spell xs) rest) ∙
      rw (u2_complete (length xs) (flat_map spell xs ++ rest) fit.1, counted_complete complete xs rest fit.0) refl

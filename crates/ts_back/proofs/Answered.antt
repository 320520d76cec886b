-- What reading a printed typestate gives.
use Rattle.std.proofs.Common.{◌≡◌, ℕ, suc, ◌≤◌, List, [], ◌∷◌, length, None, refl, sym, ap, subst}
use Rattle.ts_tree.specs.Typestate.{Typestate}
use Rattle.ts_parse.specs.Written.{WState, WFile}
use Rattle.ts_read.specs.Conditions.{IsFault}
use Rattle.ts_read.specs.Meaning.{typestate_of}
use Rattle.ts_read.specs.Layout.{layout}
use Rattle.ts_read.specs.Outcome.{Answer, Read, Spells, Outcome, too_large, too_many, bad_byte, syntax, refused, read}
use Rattle.ts_back.proofs.Same.{Zip, SameState, known, faultless, meaning_same}
use Rattle.ts_back.proofs.Named.{file_named}
use Rattle.ts_back.proofs.Printed.{printed}

zip_length : (ss ts : List WState) → Zip SameState ss ts → length ss ≡ length ts
zip_length [] [] z = refl
zip_length (s ∷ ss) (t ∷ ts) z = ap (λ (n : ℕ). suc n) (zip_length ss ts z.1)
zip_length [] (t ∷ ts) z = absurd z
zip_length (s ∷ ss) [] z = absurd z

file_reads : (file source : ℕ) (bytes : List ℕ) (w : WFile) → Spells source bytes w → length w.states ≤ 1000 → IsFault w None
    → length (layout (typestate_of w)) ≤ 1048576
    → Outcome file (layout (typestate_of w)) (Read (typestate_of w))
file_reads file source bytes w s few clean size =
    let p = printed file w (file_named source bytes w s.tokens s.cut s.spelled) (known w clean) in
    let few : length p.written.states ≤ 1000 = subst (λ (n : ℕ). n ≤ 1000) (zip_length w.states p.written.states p.states) few in
    let same : typestate_of w ≡ typestate_of p.written = meaning_same w p.written p.name p.states in
    subst (λ (t : Typestate). Outcome file (layout (typestate_of w)) (Read t)) (sym same)
    (read {w = p.written} (record { size = size; tokens = p.tokens; cut = p.cut; spelled = p.spelled }) few
    (faultless w p.written p.states clean))

pub printed_reads_back : (file source : ℕ) (bytes : List ℕ) (t : Typestate) → Outcome source bytes (Read t) → length (layout t) ≤ 1048576
    → Outcome file (layout t) (Read t)
printed_reads_back file source bytes t o size = go (Read t) o refl
  where
    go : (a : Answer) → Outcome source bytes a → a ≡ Read t → Outcome file (layout t) (Read t)
    go a (too_large h) e = let no : ⊥ = cc in absurd no
    go a (too_many s h) e = let no : ⊥ = cc in absurd no
    go a (bad_byte k le h) e = let no : ⊥ = cc in absurd no
    go a (syntax le h n) e = let no : ⊥ = cc in absurd no
    go a (refused s few h) e = let no : ⊥ = cc in absurd no
    go a (read {w = w} s few clean) e =
        let same : typestate_of w ≡ t = cc in
        let size : length (layout (typestate_of w)) ≤ 1048576 = subst (λ (u : Typestate). length (layout u) ≤ 1048576) (sym same) size in
        subst (λ (u : Typestate). Outcome file (layout u) (Read u)) same (file_reads file source bytes w s few clean size)

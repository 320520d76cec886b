-- A clean text is a guarded global protocol.
use Rattle.std.proofs.Common.{◌≡◌, List, [], ◌∷◌, refl, subst, ⊎_elim, Bool, true, false, ◌&&◌, ◌||◌}
use Rattle.std.specs.Prelude.{Contains}
use Rattle.mg_text.specs.Call.{Name}
use Rattle.mg_read.specs.Culprit.{culprit}
use Rattle.mg_read.specs.First.{Clean}
use Rattle.scr_global.specs.Tree.{Statements, Nothing, Says, Choice, Rec, Continue, Branches, NoBranch, Branch, said, said_each}
use Rattle.scr_global.specs.Spots.{Past, Opens, Enters, Way, spots, branch_spots, passes, some_passes, Quietly, opened, past, opening, entering}
use Rattle.scr_global.specs.Conditions.{Unguarded}
use Rattle.scr_global.proofs.Guarding.{clean_front, clean_behind}
use Rattle.scr_global.proofs.Names.{first_or_later, none_contained}
use Rattle.scr_faithful.specs.Guarded.{but_first, Guards, GuardsEach}
use Rattle.scr_faithful.specs.Faithful.{CleanIsGuarded}

and_true : (a b : Bool) → a ≡ true → b ≡ true → (a && b) ≡ true
and_true true b e f = f
and_true false b e f = cc

or_first : (a b : Bool) → a ≡ true → (a || b) ≡ true
or_first true b e = refl
or_first false b e = cc

or_second : (a b : Bool) → b ≡ true → (a || b) ≡ true
or_second true b e = refl
or_second false b e = e

-- control comes from the openings of these recs with no message
abbrev AllQuiet : List Name → Way → Type 0
AllQuiet quiet way = (name : Name) → Contains quiet name → Quietly name way

none_quiet : (way : Way) → AllQuiet [] way
none_quiet way name c = absurd (none_contained name c)

mutual
  guards : (s : Statements) (way : Way) (quiet : List Name) (Behind : List Name → Type 0) → Clean Unguarded (spots way s) →
      AllQuiet quiet way → (passes s ≡ true → Behind quiet) → Behind [] → Guards quiet (said s) Behind
  guards Nothing way quiet Behind clean all now sooner = now refl
  guards (Says m rest) way quiet Behind clean all now sooner =
      guards rest (Past (Says m Nothing) ∷ way) [] Behind clean.1 (none_quiet (Past (Says m Nothing) ∷ way)) (λ e. sooner) sooner
  guards (Choice place at branches rest) way quiet Behind clean all now sooner =
      let before = clean_front Unguarded (branch_spots way at [] branches) (spots (Past (Choice place at branches Nothing) ∷ way) rest)
      clean.1 in
      let behind = clean_behind Unguarded (branch_spots way at [] branches) (spots (Past (Choice place at branches Nothing) ∷ way) rest)
      clean.1 in
      guards_each branches way at [] quiet (λ names. Guards names (said rest) Behind) before all
      (λ e. guards rest (Past (Choice place at branches Nothing) ∷ way) quiet Behind behind
      (λ name c. past (and_true (some_passes branches) true e refl) (all name c))
      (λ f. now (and_true (some_passes branches) (passes rest) e f)) sooner)
      (guards rest (Past (Choice place at branches Nothing) ∷ way) [] Behind behind
      (none_quiet (Past (Choice place at branches Nothing) ∷ way)) (λ e. sooner) sooner)
  guards (Rec place name body rest) way quiet Behind clean all now sooner =
      let before = clean_front Unguarded (spots (Opens name ∷ way) body) (spots (Past (Rec place name body Nothing) ∷ way) rest) clean.1 in
      let behind = clean_behind Unguarded (spots (Opens name ∷ way) body) (spots (Past (Rec place name body Nothing) ∷ way) rest) clean.1 in
      guards body (Opens name ∷ way) (name ∷ quiet) (λ names. Guards (but_first names) (said rest) Behind) before
      (λ other c. ⊎_elim (λ (e : name ≡ other). subst (λ x. Quietly x (Opens name ∷ way)) e opened) (λ d. opening (all other d))
      (first_or_later name quiet other c))
      (λ e. guards rest (Past (Rec place name body Nothing) ∷ way) quiet Behind behind
      (λ other c. past (and_true (passes body) true e refl) (all other c)) (λ f. now (and_true (passes body) (passes rest) e f)) sooner)
      (guards rest (Past (Rec place name body Nothing) ∷ way) [] Behind behind
      (none_quiet (Past (Rec place name body Nothing) ∷ way)) (λ e. sooner) sooner)
  guards (Continue place name rest) way quiet Behind clean all now sooner = λ c. clean.0 (culprit place name) (refl, all name c)

  guards_each : (bs : Branches) (way : Way) (at : Name) (earlier : List Statements) (quiet : List Name)
      (Behind : List Name → Type 0) → Clean Unguarded (branch_spots way at earlier bs) → AllQuiet quiet way →
      (some_passes bs ≡ true → Behind quiet) → Behind [] → GuardsEach quiet (said_each bs) Behind
  guards_each NoBranch way at earlier quiet Behind clean all now sooner = tt
  guards_each (Branch b more) way at earlier quiet Behind clean all now sooner = (
    guards b (Enters at earlier ∷ way) quiet Behind (clean_front Unguarded (spots (Enters at earlier ∷ way) b)
        (branch_spots way at (b ∷ earlier) more) clean) (λ name c. entering (all name c))
        (λ e. now (or_first (passes b) (some_passes more) e)) sooner,
    guards_each more way at (b ∷ earlier) quiet Behind (clean_behind Unguarded (spots (Enters at earlier ∷ way) b)
        (branch_spots way at (b ∷ earlier) more) clean) all
        (λ e. now (or_second (passes b) (some_passes more) e)) sooner,
  )

pub clean_is_guarded : CleanIsGuarded
clean_is_guarded roles text clean = guards text [] [] (λ names. Unit {0}) clean.guarded (none_quiet []) (λ e. tt) tt

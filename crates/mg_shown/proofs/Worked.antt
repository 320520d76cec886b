-- The lines of worked programs are computed.
use Rattle.std.proofs.Common.{◌≡◌, List, [], ◌∷◌, ◌++◌, Bool, true, refl, ap, ◌∙◌, arith}
use Rattle.std.specs.Fmt.{decimal}
use Rattle.std.proofs.lemmas.Fmt.{decimal_digit, decimal_step}
use Rattle.mg_text.specs.Call.{Name}
use Rattle.jv_core.specs.Tree.{Program}
use Rattle.use_rules.specs.Keys.{Tables}
use Rattle.use_rules.specs.Tables.{all_failed}
use Rattle.use_rules.specs.Computed.{Fails}
use Rattle.use_rules.proofs.Examples.{fails}
use Rattle.use_sights.specs.Calls.{all_sites}
use Rattle.mg_shown.specs.Shown.{shown_text}
use Rattle.mg_shown.specs.Computed.{Shows, ExamplesShow}
use Rattle.mg_shown.proofs.Listing.{rises, as_they_stand}

shows : (files : List Name) (p : Program) (reached : List (List Bool)) (t : Tables) (text : Name) → rises (all_sites p) ≡ true →
    shown_text files p reached t (all_sites p) ≡ text → Fails p reached t (all_failed p reached t) → Shows files p reached t text
shows files p reached t text h e f = record { listed = as_they_stand p h; shown = e; takes = f.takes }

one : decimal 1 ≡ 49 ∷ []
one = decimal_digit 1 (omega arith)

two : decimal 2 ≡ 50 ∷ []
two = decimal_digit 2 (omega arith)

four : decimal 4 ≡ 52 ∷ []
four = decimal_digit 4 (omega arith)

five : decimal 5 ≡ 53 ∷ []
five = decimal_digit 5 (omega arith)

six : decimal 6 ≡ 54 ∷ []
six = decimal_digit 6 (omega arith)

seven : decimal 7 ≡ 55 ∷ []
seven = decimal_digit 7 (omega arith)

eight : decimal 8 ≡ 56 ∷ []
eight = decimal_digit 8 (omega arith)

nine : decimal 9 ≡ 57 ∷ []
nine = decimal_digit 9 (omega arith)

pub examples : ExamplesShow
examples =
    let twelve : decimal 12 ≡ 49 ∷ 50 ∷ [] = decimal_step 12 (omega arith) (omega arith) ∙ ap (λ x. x ++ (50 ∷ [])) one in
    let thirteen : decimal 13 ≡ 49 ∷ 51 ∷ [] = decimal_step 13 (omega arith) (omega arith) ∙ ap (λ x. x ++ (51 ∷ [])) one in
    let seventeen : decimal 17 ≡ 49 ∷ 55 ∷ [] = decimal_step 17 (omega arith) (omega arith) ∙ ap (λ x. x ++ (55 ∷ [])) one in
    let nineteen : decimal 19 ≡ 49 ∷ 57 ∷ [] = decimal_step 19 (omega arith) (omega arith) ∙ ap (λ x. x ++ (57 ∷ [])) one in
    let twenty_seven : decimal 27 ≡ 50 ∷ 55 ∷ [] = decimal_step 27 (omega arith) (omega arith) ∙ ap (λ x. x ++ (55 ∷ [])) two in
    let forty_nine : decimal 49 ≡ 52 ∷ 57 ∷ [] = decimal_step 49 (omega arith) (omega arith) ∙ ap (λ x. x ++ (57 ∷ [])) four in
    record {
      client = shows _ _ _ _ _ refl (rw (eight, thirteen, nine, seventeen) refl) (fails _ _ _ _ refl refl);
      bad = shows _ _ _ _ _ refl (rw (four, nine, five) refl) (fails _ _ _ _ refl refl);
      turns = shows _ _ _ _ _ refl (rw (five, seventeen, six) refl) (fails _ _ _ _ refl refl);
      once = shows _ _ _ _ _ refl (rw (four, five, twelve, nineteen, six, twenty_seven, forty_nine) refl) (fails _ _ _ _ refl refl);
      holder = shows _ _ _ _ _ refl (rw five refl) (fails _ _ _ _ refl refl);
      swaps = shows _ _ _ _ _ refl (rw (six, five, seven) refl) (fails _ _ _ _ refl refl);
    }

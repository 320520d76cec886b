-- Kinds by numbers are joined, and fit each other, as the kinds do for which they stand.
use Rattle.std.specs.Prelude.{◌≡◌, true, List}
use Rattle.mg_text.specs.Call.{Name}
use Rattle.cls_verify.specs.Kinds.{Fits}
use Rattle.cls_verify.specs.Joins.{join}
use Rattle.cls_kinds.specs.declared.kind.Kind.{Kind}
use Rattle.cls_kinds.specs.Numbers.{joined, fits_in}
use Rattle.cls_kinds.specs.Named.{AreNames, kind_of}

abbrev pub JoinsAgree : Type 0
JoinsAgree = (names : List Name) → AreNames names → (k l : Kind) → kind_of names (joined k l) ≡ join (kind_of names k) (kind_of names l)

abbrev pub FitsAgree : Type 0
FitsAgree = (names : List Name) → AreNames names → (k l : Kind) →
    (fits_in k l ≡ true → Fits (kind_of names k) (kind_of names l)) × (Fits (kind_of names k) (kind_of names l) → fits_in k l ≡ true)

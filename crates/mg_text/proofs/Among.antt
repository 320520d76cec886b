-- Whether a text is one of a list of words.
use Rattle.std.proofs.Common.{◌≡◌, ◌↔◌, IsTrue, Bool, List, [], ◌∷◌, refl, sym, ap, ◌∙◌}
use Rattle.std.specs.Prelude.{◌||◌}
use Rattle.std.specs.List.{Contains, list_any}
use Rattle.std.specs.Str.{bytes_eq}
use Rattle.std.proofs.lemmas.Cmp.{nat_list_eq_equiv}
use Rattle.std.proofs.lemmas.Slice.Eq.{bytes_eq-Decides}
use Rattle.std.proofs.lemmas.Map.Views.{list_any-from_Contains, Contains-from_any}
use Rattle.mg_text.specs.Call.{Name}

any-flip : (text : Name) (words : List Name) → list_any (λ w. bytes_eq w text) words ≡ list_any (bytes_eq text) words
any-flip text [] = refl
any-flip text (w ∷ ws) =
    ap (λ b. b || list_any (λ v. bytes_eq v text) ws) (nat_list_eq_equiv.symm w text) ∙ ap (λ b. bytes_eq text w || b) (any-flip text ws)

pub any-Contains : (text : Name) (words : List Name) (r : Bool) → r ≡ list_any (λ w. bytes_eq w text) words → IsTrue r ↔ Contains words text
any-Contains text words r e =
    let both : r ≡ list_any (bytes_eq text) words = e ∙ any-flip text words in (
      λ h. Contains-from_any (λ x y s. (bytes_eq-Decides x y).0 s) text words (sym both ∙ h),
      λ h. both ∙ list_any-from_Contains
          nat_list_eq_equiv text words h,
    )

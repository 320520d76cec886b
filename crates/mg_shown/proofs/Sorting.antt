-- A program's calls are listed in one way.
use Rattle.std.proofs.Common.{◌≡◌, ◌<◌, ◌≤◌, false, ◌⊎◌, List, refl, sym, ◌∙◌, arith, ⊎_elim, inl, inr}
use Rattle.std.specs.Prelude.{nat_lt}
use Rattle.std.proofs.lemmas.Bool.{ltb-false, le-ltb}
use Rattle.mg_text.specs.declared.place.Place.{Place}
use Rattle.jv_core.specs.Tree.{Program}
use Rattle.use_sights.specs.declared.site.Site.{Site}
use Rattle.use_sights.proofs.Sorting.{rising, steps_of, unique}
use Rattle.use_sights.proofs.Lexical.{lex, behind_or, not_lex}
use Rattle.mg_shown.specs.Shown.{is_earlier, is_listed_before, AreListed}

-- the second stands behind the first, or is there
abbrev NotBefore : Place → Place → Type 0
NotBefore q r = (q.file < r.file) ⊎ ((r.file ≡ q.file) × ((q.line < r.line) ⊎ ((r.line ≡ q.line) × (q.column ≤ r.column))))

not_before_of : (q r : Place) → is_earlier r q ≡ false → NotBefore q r
not_before_of q r h = ⊎_elim inl
    (λ p. inr (p.0, ⊎_elim inl (λ o. inr (o.0, ltb-false r.column q.column o.1)) (behind_or r.line q.line (nat_lt r.column q.column) p.1)))
    (behind_or r.file q.file (lex r.line q.line (nat_lt r.column q.column)) h)

of_not_before : (q r : Place) → NotBefore q r → is_earlier r q ≡ false
of_not_before q r o = not_lex r.file q.file (lex r.line q.line (nat_lt r.column q.column))
    (⊎_elim inl (λ p. inr (
      p.0,
      not_lex r.line q.line (nat_lt r.column q.column)
          (⊎_elim inl (λ c. inr (c.0, le-ltb r.column q.column c.1)) p.1),
    )) o)

in_turn : (x y z : Place) → NotBefore x y → NotBefore y z → NotBefore x z
in_turn x y z (inl a) (inl b) = inl (omega (arith, a, b))
in_turn x y z (inl a) (inr b) = let e = b.0 in inl (omega (arith, a, e))
in_turn x y z (inr a) (inl b) = let e = a.0 in inl (omega (arith, b, e))
in_turn x y z (inr (e, inl a)) (inr (f, inl b)) = inr (f ∙ e, inl (omega (arith, a, b)))
in_turn x y z (inr (e, inl a)) (inr (f, inr b)) = let g = b.0 in inr (f ∙ e, inl (omega (arith, a, g)))
in_turn x y z (inr (e, inr a)) (inr (f, inl b)) = let g = a.0 in inr (f ∙ e, inl (omega (arith, b, g)))
in_turn x y z (inr (e, inr a)) (inr (f, inr b)) = let l = a.1 in let g = b.1 in inr (f ∙ e, inr (b.0 ∙ a.0, omega (arith, l, g)))

not_itself : (s : Site) → is_listed_before s s ≡ false
not_itself s = of_not_before s.place s.place (inr (refl, inr (refl, omega arith)))

no_later : (x y z : Site) → is_listed_before y x ≡ false → is_listed_before z y ≡ false → is_listed_before z x ≡ false
no_later x y z a b = of_not_before x.place z.place
    (in_turn x.place y.place z.place (not_before_of x.place y.place a) (not_before_of y.place z.place b))

pub one_list : (p : Program) (xs ys : List Site) → AreListed p xs → AreListed p ys → xs ≡ ys
one_list p xs ys a b =
    unique is_listed_before not_itself no_later xs ys
    (rising is_listed_before not_itself no_later xs (steps_of is_listed_before not_itself no_later xs a.sorted))
    (rising is_listed_before not_itself no_later ys (steps_of is_listed_before not_itself no_later ys b.sorted))
    (λ x. a.stable x ∙ sym (b.stable x))

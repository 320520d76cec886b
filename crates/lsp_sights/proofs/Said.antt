-- What is said under the least tables.
use Rattle.std.proofs.Common.{◌≡◌, ℕ, List, [], ◌∷◌, ◌++◌, length, map, Option, refl, sym, ap, subst, ◌∙◌, arith}
use Rattle.mg_text.specs.Call.{Name}
use Rattle.mg_text.specs.declared.place.Place.{Place}
use Rattle.jv_core.specs.Tree.{Program}
use Rattle.use_rules.specs.Elements.{Set}
use Rattle.use_flow.specs.declared.out.Sight as kept
use Rattle.use_flow.specs.View.{reached_of, tables_of, sight_of}
use Rattle.use_sights.specs.Sights.{sights_at, together, before}
use Rattle.use_verdict.specs.declared.met.Usages.{Usages}
use Rattle.use_verdict.specs.Met.{AreUsages}
use Rattle.mg_shown.specs.declared.seen.PlaceKey.{PlaceKey}
use Rattle.mg_shown.specs.inner.Seeing.{at_place, AreSeen}
use Rattle.lsp_text.specs.declared.encoding.Encoding.{Encoding}
use Rattle.lsp_text.specs.declared.positions.Position.{Position}
use Rattle.lsp_text.specs.declared.changes.Range.{Range}
use Rattle.lsp_text.specs.Positions.{IsPositionOf, ArePositionsOf}
use Rattle.lsp_messages.specs.declared.outgoing.Answer.TheVariants as answers
use Rattle.lsp_messages.specs.declared.outgoing.Hint.{Hint}
use Rattle.lsp_sights.specs.declared.located.Located.{Located}
use Rattle.lsp_sights.specs.Texts.{hint_at, hover_at}
use Rattle.lsp_sights.specs.Answers.{Under, AreHints, IsHoverOf}
use Rattle.lsp_sights.specs.inner.Hinted.{hint_by, hinted}

-- Hints, one by one.

module _ (p : Program) (find : PlaceKey → Option Set) where
  pub hinted_more : (cs : List Located) (qs : List Position) (c : Located) (q : Position) → length cs ≡ length qs →
      hinted p find (cs ++ c ∷ []) (qs ++ q ∷ []) ≡ hinted p find cs qs ++ hint_by p find c q ∷ []
  hinted_more [] [] c q same = refl
  hinted_more [] (x ∷ qs) c q same = absurd (omega (arith, same))
  hinted_more (r ∷ cs) [] c q same = absurd (omega (arith, same))
  hinted_more (r ∷ cs) (x ∷ qs) c q same =
      let less : length cs ≡ length qs = omega (arith, same) in
      ap (λ (hs : List Hint). hint_by p find r x ∷ hs) (hinted_more cs qs c q less)

abbrev pub end_of : Located → ℕ
end_of c = c.end

-- What is kept of each place is what the sights have there under the tables.
module _ (encoding : Encoding) (text : List ℕ) (p : Program) (u : Usages) (met : AreUsages p u) (ks : List kept.Sight)
    (all : ks ≡ u.sights.items) (find : PlaceKey → Option Set) (seen : AreSeen (map sight_of ks) find)
  where
    before_is : (q : Place) → at_place find q ≡ before p (reached_of u.tables) (tables_of u.tables) q
    before_is q = seen.each q ∙ ap (λ xs. together (sights_at q xs)) (ap (map sight_of) all ∙ met.sights)

    one_by_one : (cs : List Located) (qs : List Position) → ArePositionsOf encoding text (map end_of cs) qs →
        AreHints encoding text p (reached_of u.tables) (tables_of u.tables) cs (hinted p find cs qs)
    one_by_one [] [] h = tt
    one_by_one [] (q ∷ qs) h = absurd h
    one_by_one (c ∷ cs) [] h = absurd h
    one_by_one (c ∷ cs) (q ∷ qs) h =
        (record { stands = h.0; says = ap (hint_at p c.site) (before_is c.site.place) }, one_by_one cs qs h.1)

    pub hints_are : (cs : List Located) (qs ps : List Position) (hs : List Hint) → ArePositionsOf encoding text (map end_of cs) qs →
        ps ≡ qs → hs ≡ hinted p find cs ps → Under p (λ reached t. AreHints encoding text p reached t cs hs)
    hints_are cs qs ps hs stand same is = record {
      reached = reached_of u.tables;
      are = met.made.reached;
      tables = tables_of u.tables;
      least = met.least;
      says = subst (AreHints encoding text p (reached_of u.tables) (tables_of u.tables) cs) (sym (is ∙ ap (hinted p find cs) same))
          (one_by_one cs qs stand);
    }

    pub hover_is : (c : Located) (said : Name) (range : Range) → said ≡ hover_at p c.site (at_place find c.site.place) →
        IsPositionOf encoding text c.start range.start → IsPositionOf encoding text c.end range.end →
        IsHoverOf encoding text p (c ∷ []) (answers.Hover said range)
    hover_is c said range is begins ends = (
      said,
      range,
      refl,
      record {
        reached = reached_of u.tables;
        are = met.made.reached;
        tables = tables_of u.tables;
        least = met.least;
        says = record { begins = begins; ends = ends; says = is ∙ ap (hover_at p c.site) (before_is c.site.place) };
      },
    )

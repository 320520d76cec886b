-- The least tables have the same members, so there is one text.
use Rattle.std.proofs.Common.{◌≡◌, ℕ, suc, Bool, true, false, List, [], ◌∷◌, ◌++◌, Option, Some, None, slice_get, flat_map, refl, sym, ap, subst, ◌∙◌}
use Rattle.std.specs.Prelude.{codes}
use Rattle.std.proofs.lemmas.Bool.{false≢true}
use Rattle.mg_text.specs.Call.{Name}
use Rattle.mg_text.specs.declared.place.Place.{Place}
use Rattle.mg_sets.specs.Sets.{has, members, members_from}
use Rattle.jv_core.specs.Tree.{Method, Program}
use Rattle.jv_core.specs.Lookup.{text_at}
use Rattle.use_rules.specs.declared.key.Context.TheVariants as contexts
use Rattle.use_rules.specs.Elements.{along, leads_from, marked, none, targets}
use Rattle.use_rules.specs.Keys.{Tables, AreReached, typestate_of}
use Rattle.use_rules.specs.Shapes.{elements_in}
use Rattle.use_rules.specs.Flow.{variable_text}
use Rattle.use_rules.specs.Tables.{Least}
use Rattle.use_rules.specs.Laws.{AreWithin}
use Rattle.use_sights.specs.declared.site.Site.{Site}
use Rattle.use_sights.specs.Sights.{before, after}
use Rattle.use_sights.proofs.Telling.{before_grows}
use Rattle.use_check.specs.Report.{set_text}
use Rattle.mg_refusal.specs.declared.refusal.Spot.TheVariants as spots
use Rattle.mg_delivery.specs.Lines.{spot_text}
use Rattle.mg_shown.specs.Shown.{call_line, site_line, shown_text, OneShown}
use Rattle.mg_shown.proofs.Sorting.{one_list}

abbrev Within : List Bool → List Bool → Type 0
Within s t = (i : ℕ) → has s i ≡ true → has t i ≡ true

module _ {A : Type 0} (F : ℕ → List Bool → List A) (f : ℕ → List A) (ends : (k : ℕ) → F k [] ≡ [])
    (takes : (k : ℕ) (s : List Bool) → F k (true ∷ s) ≡ f k ++ F (suc k) s) (skips : (k : ℕ) (s : List Bool) → F k (false ∷ s) ≡ F (suc k) s)
  where
    all_same : (k : ℕ) (s t : List Bool) → Within s t → Within t s → F k s ≡ F k t
    all_same k [] [] a b = refl
    all_same k [] (true ∷ t) a b = absurd (false≢true (b 0 refl))
    all_same k [] (false ∷ t) a b =
        ends k ∙ sym (ends (suc k)) ∙ all_same (suc k) [] t (λ i. a (suc i)) (λ i. b (suc i)) ∙ sym (skips k t)
    all_same k (true ∷ s) [] a b = absurd (false≢true (a 0 refl))
    all_same k (false ∷ s) [] a b =
        skips k s ∙ all_same (suc k) s [] (λ i. a (suc i)) (λ i. b (suc i)) ∙ ends (suc k) ∙ sym (ends k)
    all_same k (true ∷ s) (true ∷ t) a b =
        takes k s ∙ ap (λ r. f k ++ r) (all_same (suc k) s t (λ i. a (suc i)) (λ i. b (suc i))) ∙ sym (takes k t)
    all_same k (true ∷ s) (false ∷ t) a b = absurd (false≢true (a 0 refl))
    all_same k (false ∷ s) (true ∷ t) a b = absurd (false≢true (b 0 refl))
    all_same k (false ∷ s) (false ∷ t) a b =
        skips k s ∙ all_same (suc k) s t (λ i. a (suc i)) (λ i. b (suc i)) ∙ sym (skips k t)

members_same : (s t : List Bool) → Within s t → Within t s → members s ≡ members t
members_same s t a b = all_same members_from (λ k. k ∷ []) (λ k. refl) (λ k s. refl) (λ k s. refl) 0 s t a b

leads_same : (to : ℕ → List ℕ) (s t : List Bool) → Within s t → Within t s → leads_from to 0 s ≡ leads_from to 0 t
leads_same to s t a b = all_same (leads_from to) to (λ k. refl) (λ k s. refl) (λ k s. refl) 0 s t a b

pub flat_same : {A B : Type 0} (f g : A → List B) → ((x : A) → f x ≡ g x) → (xs : List A) → flat_map f xs ≡ flat_map g xs
flat_same f g h [] = refl
flat_same f g h (x ∷ xs) = ap (λ r. r ++ flat_map f xs) (h x) ∙ ap (λ r. g x ++ r) (flat_same f g h xs)

module _ (names : List Name) (p : Program) (reached : List (List Bool)) (t u : Tables) (a : AreWithin t u) (b : AreWithin u t) where
  there : (q : Place) → Within (before p reached t q) (before p reached u q)
  there q = (before_grows p reached t u a q).within

  back : (q : Place) → Within (before p reached u q) (before p reached t q)
  back q = (before_grows p reached u t b q).within

  after_same : (k : Method) (q : Place) → after p k (before p reached t q) ≡ after p k (before p reached u q)
  after_same k q =
      ap (λ ls. marked ls (none (elements_in p k.class)))
      (leads_same (along targets (typestate_of p k.class) (text_at p k.name)) (before p reached t q) (before p reached u q) (there q) (back q))

  abbrev with_sets : Site → Method → Method → (befores afters : List ℕ) → Name
  with_sets s m k bs as' =
      spot_text names (spots.Text s.place) ++ (codes ": "
      ++ (variable_text p [] (contexts.Plain s.within) m s.variable ++ (codes "." ++ (text_at p k.name
      ++ (set_text (typestate_of p k.class) bs ++ (codes " ->" ++ (set_text (typestate_of p k.class) as' ++ codes "\n")))))))

  call_same : (s : Site) (m k : Method) → call_line names p reached t s m k ≡ call_line names p reached u s m k
  call_same s m k =
      ap (λ bs. with_sets s m k bs (members (after p k (before p reached t s.place))))
      (members_same (before p reached t s.place) (before p reached u s.place) (there s.place) (back s.place))
      ∙ ap (λ x. with_sets s m k (members (before p reached u s.place)) (members x)) (after_same k s.place)

  abbrev by : Tables → Site → Option Method → Option Method → Name
  by v s o c = elim o as (λ _. Name) [
    | None ↦ []
    | Some m ↦ elim c as (λ _. Name) [ None ↦ [] | Some k ↦ call_line names p reached v s m k ]
  ]

  by_same : (s : Site) (o c : Option Method) → by t s o c ≡ by u s o c
  by_same s None c = refl
  by_same s (Some m) None = refl
  by_same s (Some m) (Some k) = call_same s m k

  text_same : (sites : List Site) → shown_text names p reached t sites ≡ shown_text names p reached u sites
  text_same sites = flat_same (site_line names p reached t) (site_line names p reached u)
      (λ s. by_same s (slice_get p.methods s.within) (slice_get p.methods s.method)) sites

pub one_shown : ((p : Program) (r s : List (List Bool)) → AreReached p r → AreReached p s → r ≡ s) → OneShown
one_shown reached_same names p a b x y =
    let r : y.reached ≡ x.reached = reached_same p y.reached x.reached y.are x.are in
    let least : Least p x.reached y.tables = subst (λ r. Least p r y.tables) r y.least in
    x.is
    ∙ text_same names p x.reached x.tables y.tables (record { each = x.least.within y.tables least.closed })
    (record { each = least.within x.tables x.least.closed }) x.sites
    ∙ ap (shown_text names p x.reached y.tables) (one_list p x.sites y.sites x.listed y.listed)
    ∙ ap (λ r. shown_text names p r y.tables y.sites) (sym r)
    ∙ sym y.is

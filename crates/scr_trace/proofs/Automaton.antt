-- What is laid out of a valid local protocol is its automaton.
use Rattle.std.proofs.Common.{◌≡◌, ℕ, suc, ◌+◌, List, [], ◌∷◌, ◌++◌, ◌-◌, length, map, refl, sym, ap, ◌∙◌, subst, inl, inr, ◌⊎◌, ⊎_elim}
use Rattle.std.proofs.Common.{Bool, true, false, ◌||◌, if◌then◌else◌, arith, true≢false}
use Rattle.std.specs.List.{list_any}
use Rattle.std.specs.Str.{bytes_eq}
use Rattle.std.proofs.lemmas.List.{append-nil, length-append}
use Rattle.std.proofs.Math.Logic.{∥∥₁_elim}
use Rattle.mg_text.specs.Call.{Name}
use Rattle.mg_read.specs.First.{Clean}
use Rattle.scr_tree.specs.Tree.{LocalTree, PartTree, Titled, titled, body_in, bodies_in, other, Statements, Nothing, Says, Choice, Rec}
use Rattle.scr_tree.specs.Tree.{Continue, Do}
use Rattle.scr_tree.specs.Spots.{Past, Opens, Way, spots, all_spots, spots_of}
use Rattle.scr_tree.specs.Going.{Unguarded, UnknownProtocol, is_deed, has_deed}
use Rattle.scr_tree.specs.Meaning.{protocol_of, choices, choices_in, numbered, numbered_in, numbered_parts}
use Rattle.scr_tree.specs.Protocol.{Protocol, ChoiceHere, ChoiceThere}
use Rattle.scr_tree.specs.Steps.{Part, Plain, BodyOf, Left, Position}
use Rattle.scr_tree.specs.Valid.{IsValid, AreDistinct, names_in}
use Rattle.scr_trace.specs.declared.arrow.Hop.{Hop}
use Rattle.scr_trace.specs.Positions.{states_in, state_positions, at_end}
use Rattle.scr_trace.specs.Graph.{Automates}
use Rattle.scr_trace.specs.inner.Laying.{Work, nothing, lay, parts_laid, number_among, number_in, laid_parts, LaidOut, Settled}
use Rattle.scr_trace.specs.inner.View.{standing_of, graph_of_work}
use Rattle.scr_trace.specs.declared.standing.Standing.TheVariants as standings
use Rattle.scr_trace.proofs.Begins.{Begins, HasNone, at_first, through, back, begins}
use Rattle.scr_trace.proofs.Counting.{numbers}
use Rattle.scr_trace.proofs.Rules.{opens_known}
use Rattle.scr_trace.proofs.Matching.{Fit, Final, matches, fit_both, fit_all}
use Rattle.scr_trace.proofs.Valid.{AllSound, clean_once, valid_sound}
use Rattle.scr_trace.proofs.Placing.{names, raw, before, positions, Reached, next_reached, reached_all}
use Rattle.scr_trace.proofs.Entering.{total, as_many, lies_here, part_leads, enters}

pub distinct_once : (ns : List Name) (a b : AreDistinct ns) → a ≡ b
distinct_once [] a b = refl
distinct_once (n ∷ ns) a b = λ i. ((λ c. let p : a.0 c ≡ b.0 c = absurd (a.0 c) in p i), distinct_once ns a.1 b.1 i)

module _ (me : Name) (ts : List Titled) (es : List Hop) (settled : Settled (raw me ts).entries es) (sound : AllSound (names ts) ts)
    (distinct : AreDistinct (names ts))
    (guarded : Clean (Unguarded ts) (spots_of body_in ts)) (named : Clean (UnknownProtocol (names ts)) (all_spots (map body_in ts))) where
  part_fits : (t : Titled) (more : List Titled) (n : ℕ) → Reached me ts (t ∷ more) n → AllSound (names ts) (t ∷ more) →
      Fit (numbered_parts me 1 ts) me (number_among ts) (names ts) (total me ts es) (positions me ts) (as_many me ts)
      (enters me ts es settled sound distinct guarded named)
      (states_in Plain [] (numbered me n t.body)) (lay me (number_among ts) [] (before (parts_laid me (number_among ts) more nothing))
      t.body).cells (parts_laid me (number_among ts) more nothing).cells
  unfolding Final
  part_fits t more n r h =
      let w = before (parts_laid me (number_among ts) more nothing) in
      let many = numbers me (number_among ts) (names ts) t.body [] h.0 [] w in
      matches (numbered_parts me 1 ts) me (number_among ts) (names ts) (total me ts es) (positions me ts) (as_many me ts)
      (enters me ts es settled sound distinct guarded named)
      t.body [] h.0 [] w n Plain [] (lies_here me ts es settled sound distinct guarded named t more n r)
      (λ j l within. r.loops.same j within) (let all = r.nums in omega (arith, many, all)) at_end (λ z among. cc among)

  fits : (xs : List Titled) (n : ℕ) → Reached me ts xs n → AllSound (names ts) xs →
      Fit (numbered_parts me 1 ts) me (number_among ts) (names ts) (total me ts es) (positions me ts) (as_many me ts)
      (enters me ts es settled sound distinct guarded named)
      (state_positions (numbered_parts me n xs)) (parts_laid me (number_among ts) xs nothing).cells []
  fits [] n r h = refl
  fits (t ∷ more) n r h =
      let v = parts_laid me (number_among ts) more nothing in
      let u = lay me (number_among ts) [] (before (parts_laid me (number_among ts) more nothing)) t.body in
      fit_both (numbered_parts me 1 ts) me (number_among ts) (names ts) (total me ts es) (positions me ts) (as_many me ts)
      (enters me ts es settled sound distinct guarded named)
      (states_in Plain [] (numbered me n t.body)) (state_positions (numbered_parts me (n + choices me t.body) more)) u.cells v.cells []
      (part_fits t more n r h) (fits more (n + choices me t.body) (next_reached me ts t more (names ts) h.0 n r) h.1)

all_automated : (me : Name) (t : Titled) (more : List Titled) (es : List Hop) → Settled (raw me (t ∷ more)).entries es →
    AllSound (names (t ∷ more)) (t ∷ more) → AreDistinct (names (t ∷ more)) →
    Clean (Unguarded (t ∷ more)) (spots_of body_in (t ∷ more)) → Clean (UnknownProtocol (names (t ∷ more)))
    (all_spots (map body_in (t ∷ more))) →
    Automates (numbered_parts me 1 (t ∷ more)) (graph_of_work (total me (t ∷ more) es))
all_automated me t more es settled sound distinct guarded named =
    let ts : List Titled = t ∷ more in
    let r = reached_all me ts distinct in
    let comes = enters me ts es settled sound distinct guarded named in
    record {
      initial = part_leads me ts es settled sound distinct guarded named t more 1 r sound.0
          (λ z o. comes z (opens_known (names ts) t.body [] sound.0 z o));
      states = fit_all (numbered_parts me 1 ts) me (number_among ts) (names ts) (total me ts es) (positions me ts) (as_many me ts) comes
          (positions me ts) (raw me ts).cells
          (fits me ts es settled sound distinct guarded named ts 1 r sound);
    }

-- what is laid out is determined but for its entries
pub laid_is : (local : LocalTree) (w : Work) → LaidOut local w → w ≡ record (laid_parts local) { entries = w.entries }
laid_is local w e = ap (λ (v : Work). record v { entries = w.entries }) e.parts

pub automates : (local : LocalTree) → ∥ IsValid local ∥₁ → (w : Work) → LaidOut local w → Automates (protocol_of local) (graph_of_work w)
automates local v w e = subst (λ (x : Work). Automates (protocol_of local) (graph_of_work x)) (sym (laid_is local w e))
    (all_automated local.me (record { name = local.name; body = local.body }) (map other local.others) w.entries e.settled
    (valid_sound local v)
    (∥∥₁_elim v (distinct_once (names_in local)) (λ i. i.protocols_differ))
    (∥∥₁_elim v (clean_once (Unguarded (titled local)) (spots_of body_in (titled local))) (λ i. i.guarded))
    (∥∥₁_elim v (clean_once (UnknownProtocol (names_in local)) (all_spots (bodies_in local))) (λ i. i.protocols_known)))

-- ---- the first state

or_true : (a b : Bool) → (a || b) ≡ true → (a ≡ true) ⊎ (b ≡ true)
or_true true b e = inl refl
or_true false b e = inr e

any_both : {A : Type 0} (test : A → Bool) (xs ys : List A) → list_any test (xs ++ ys) ≡ true → (list_any test xs ≡ true)
    ⊎ (list_any test ys ≡ true)
any_both test [] ys e = inr e
any_both test (x ∷ xs) ys e = ⊎_elim
    (λ here. inl (ap (λ b. b || list_any test xs) here))
    (λ later. ⊎_elim (λ front. inl (true_behind (test x) (list_any test xs) front)) (λ back. inr back) (any_both test xs ys later))
    (or_true (test x) (list_any test (xs ++ ys)) e)
  where
    true_behind : (a b : Bool) → b ≡ true → (a || b) ≡ true
    true_behind true b f = refl
    true_behind false b f = f

no_cons : {X : Type 0} {x : X} {xs : List X} → x ∷ xs ≡ [] → ⊥
no_cons e = cc

-- a message or a choice is a state
deed_states : (me : Name) (t : Statements) (way : Way) (n : ℕ) (part : Part) (around : Position) → list_any is_deed (spots way t) ≡ true →
    states_in part around (numbered me n t) ≡ [] → ⊥
deed_states me Nothing way n part around e none = true≢false (sym e)
deed_states me (Says m rest) way n part around e none = no_cons none
deed_states me (Choice place at bs rest) way n part around e none = go (bytes_eq at me) none
  where
    go : (b : Bool) → states_in part around (if b then ChoiceHere (numbered_in me n bs) (numbered me (n + choices_in me bs) rest) else
        ChoiceThere n (numbered_in me (suc n) bs) (numbered me (suc n + choices_in me bs) rest)) ≡ [] → ⊥
    go true f = no_cons f
    go false f = no_cons f
deed_states me (Rec place name body rest) way n part around e none =
    let p : Protocol = numbered me n body in
    let r : Protocol = numbered me (n + choices me body) rest in
    let size = length-append (states_in (BodyOf name p) (Left r part ∷ around) p) (states_in part around r) in
    let zero_long = ap length none in
    ⊎_elim
    (λ b. deed_states me body (Opens name ∷ way) n (BodyOf name p) (Left r part ∷ around) b (no_length _ (omega (arith, size, zero_long))))
    (λ b. deed_states me rest (Past (Rec place name body Nothing) ∷ way) (n + choices me body) part around b
    (no_length _ (omega (arith, size, zero_long))))
    (any_both is_deed (spots (Opens name ∷ way) body) (spots (Past (Rec place name body Nothing) ∷ way) rest) e)
  where
    no_length : (ps : List Position) → length ps ≡ 0 → ps ≡ []
    no_length [] f = refl
    no_length (q ∷ ps) f = absurd (let z : ⊥ = omega (arith, f) in z)
deed_states me (Continue place name rest) way n part around e none = deed_states me rest (Past (Continue place name Nothing) ∷ way) n part
    around e none
deed_states me (Do place name rest) way n part around e none = deed_states me rest (Past (Do place name Nothing) ∷ way) n part around e none

-- the first protocol of several has a message or a choice
acts : (local : LocalTree) → ∥ IsValid local ∥₁ → (p : PartTree) (ps : List PartTree) → local.others ≡ p ∷ ps → has_deed local.body ≡ true
acts local v p ps e = go (has_deed local.body) refl
  where
    go : (b : Bool) → has_deed local.body ≡ b → b ≡ true
    go true f = refl
    go false f = absurd (∥∥₁_elim v (λ a b. absurd a) (λ i. let g = (i.acts_first (λ none. cc)).0 in let z : ⊥ = cc in z))

-- a protocol that has states comes to the first
pub first_state : (local : LocalTree) → ∥ IsValid local ∥₁ → (w : Work) → LaidOut local w → ((graph_of_work w).initial ≡ standings.State 0)
    ⊎ (state_positions (protocol_of local) ≡ [])
first_state local v w e =
    let ts : List Titled = map other local.others in
    let u : Work = lay local.me (number_in local) [] (before (parts_laid local.me (number_in local) ts nothing)) local.body in
    subst (λ (x : Work). ((graph_of_work x).initial ≡ standings.State 0) ⊎ (state_positions (protocol_of local) ≡ []))
    (sym (laid_is local w e))
    (go u (begins local.me (number_in local) (names_in local) local.body [] (valid_sound local v).0 []
    (before (parts_laid local.me (number_in local) ts nothing))))
  where
    none_behind : (os : List PartTree) → local.others ≡ os → HasNone local.me (number_in local) local.body →
        state_positions (protocol_of local) ≡ []
    none_behind [] f none =
        ap (λ (xs : List PartTree). states_in Plain [] (numbered local.me 1 local.body) ++ state_positions
        (numbered_parts local.me (1 + choices local.me local.body) (map other xs))) f
        ∙ append-nil (states_in Plain [] (numbered local.me 1 local.body)) ∙ none 1 Plain []
    none_behind (p ∷ ps) f none = absurd (deed_states local.me local.body [] 1 Plain [] (acts local v p ps f) (none 1 Plain []))

    go : (u : Work) → Begins local.me (number_in local) local.body
        (before (parts_laid local.me (number_in local) (map other local.others) nothing)) u →
        (standing_of (record u { entries = w.entries }) u.next ≡ standings.State 0) ⊎ (state_positions (protocol_of local) ≡ [])
    go u (at_first f) = inl (ap (standing_of (record u { entries = w.entries })) f ∙ ap standings.State
        (let z : length u.cells - length u.cells ≡ 0 = omega arith in z))
    go u (through none cells next) = inr (none_behind local.others refl none)
    go u (back none cells s) = inr (none_behind local.others refl none)

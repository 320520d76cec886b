-- What a turn of a loop over the members of a set takes from those that are left.
use Rattle.std.proofs.Common.{◌≡◌, ℕ, suc, true, false, Bool, cond, List, [], ◌∷◌, ◌++◌, Option, Some, None}
use Rattle.std.proofs.Common.{refl, sym, ap, ◌∙◌, append_assoc}
use Rattle.std.specs.Prelude.{slice_set}
use Rattle.mg_text.specs.Call.{Name}
use Rattle.mg_text.specs.declared.place.Place.{Place}
use Rattle.mg_sets.specs.Sets.{members, members_from}
use Rattle.use_rules.specs.declared.demand.DemandKind.{DemandKind}
use Rattle.use_rules.specs.declared.demand.Demand.{Demand}
use Rattle.use_rules.specs.Elements.{Set, none, image, marked, leads_from}
use Rattle.use_rules.specs.State.{judged_from}
use Rattle.use_elements.specs.Mappings.{blamed}

pub append_nil : {A : Type 0} (a : List A) → a ++ [] ≡ a
append_nil [] = refl
append_nil (x ∷ a) = ap (λ r. x ∷ r) (append_nil a)

pub marked_more : (es fs : List ℕ) (s : Set) → marked (es ++ fs) s ≡ marked fs (marked es s)
marked_more [] fs s = refl
marked_more (e ∷ es) fs s = marked_more es fs (slice_set s e true)

-- where elements lead, one after another
abbrev pub led_all : (to : ℕ → List ℕ) → List ℕ → List ℕ
led_all to [] = []
led_all to (e ∷ es) = to e ++ led_all to es

led_members : (to : ℕ → List ℕ) (k : ℕ) (s : Set) → leads_from to k s ≡ led_all to (members_from k s)
led_members to k [] = refl
led_members to k (true ∷ s) = ap (λ es. to k ++ es) (led_members to (suc k) s)
led_members to k (false ∷ s) = led_members to (suc k) s

pub image_start : (to : ℕ → List ℕ) (w : ℕ) (s found : Set) (es : List ℕ) → es ≡ members s → found ≡ none w →
    marked (led_all to es) found ≡ image w to s
image_start to w s found es e n =
    ap (marked (led_all to es)) n ∙ ap (λ x. marked x (none w)) (ap (led_all to) e ∙ sym (led_members to 0 s))

pub image_turn : (to : ℕ → List ℕ) (e : ℕ) (all rest es : List ℕ) (found found' total : Set) → all ≡ e ∷ rest → es ≡ to e →
    found' ≡ marked es found → marked (led_all to all) found ≡ total → marked (led_all to rest) found' ≡ total
image_turn to e all rest es found found' total a l m h =
    ap (marked (led_all to rest)) (m ∙ ap (λ x. marked x found) l) ∙ sym (marked_more (to e) (led_all to rest) found)
    ∙ ap (λ x. marked (led_all to x) found) (sym a) ∙ h

pub image_end : (to : ℕ → List ℕ) (es : List ℕ) (found total : Set) → es ≡ [] → marked (led_all to es) found ≡ total → found ≡ total
image_end to es found total e h = ap (λ x. marked (led_all to x) found) (sym e) ∙ h

module _ (rule : ℕ → Option DemandKind) (q : Place) (y : ℕ) (x : Name) (c : ℕ) where
  next_judged : (b : Bool) (i : ℕ) (s : Set) → judged_from rule q y x c i (b ∷ s) ≡ cond b (blamed q y x c i (rule i)) [] ++ judged_from rule q
      y x c (suc i) s
  next_judged false i s = refl
  next_judged true i s = go (rule i) refl
    where
      go : (k : Option DemandKind) → rule i ≡ k → judged_from rule q y x c i (true ∷ s) ≡ blamed q y x c i (rule i) ++ judged_from rule q y x c
          (suc i) s
      go None e = rw e refl
      go (Some k) e = rw e refl

  -- the demands that elements fail, one after another
  abbrev pub blamed_all : List ℕ → List Demand
  blamed_all [] = []
  blamed_all (e ∷ es) = blamed q y x c e (rule e) ++ blamed_all es

  judged_members : (i : ℕ) (s : Set) → judged_from rule q y x c i s ≡ blamed_all (members_from i s)
  judged_members i [] = refl
  judged_members i (true ∷ s) = next_judged true i s ∙ ap (λ ds. blamed q y x c i (rule i) ++ ds) (judged_members (suc i) s)
  judged_members i (false ∷ s) = next_judged false i s ∙ judged_members (suc i) s

pub judged_start : (rule : ℕ → Option DemandKind) (q : Place) (y : ℕ) (x : Name) (c : ℕ) (s : Set) (ds : List Demand) (es : List ℕ) →
    es ≡ members s → ds ++ blamed_all rule q y x c es ≡ ds ++ judged_from rule q y x c 0 s
judged_start rule q y x c s ds es e = ap (λ l. ds ++ l) (ap (blamed_all rule q y x c) e ∙ sym (judged_members rule q y x c 0 s))

pub judged_turn : (rule : ℕ → Option DemandKind) (q : Place) (y : ℕ) (x : Name) (c e : ℕ) (all rest : List ℕ) (ds ds' total : List Demand)
    (k : Option DemandKind) → all ≡ e ∷ rest → k ≡ rule e → ds' ≡ ds ++ blamed q y x c e k →
    ds ++ blamed_all rule q y x c all ≡ total → ds' ++ blamed_all rule q y x c rest ≡ total
judged_turn rule q y x c e all rest ds ds' total k a r d h =
    ap (λ l. l ++ blamed_all rule q y x c rest) (d ∙ ap (λ v. ds ++ blamed q y x c e v) r)
    ∙ append_assoc ds (blamed q y x c e (rule e)) (blamed_all rule q y x c rest)
    ∙ ap (λ es. ds ++ blamed_all rule q y x c es) (sym a) ∙ h

pub judged_end : (rule : ℕ → Option DemandKind) (q : Place) (y : ℕ) (x : Name) (c : ℕ) (es : List ℕ) (ds total : List Demand) → es ≡ [] →
    ds ++ blamed_all rule q y x c es ≡ total → ds ≡ total
judged_end rule q y x c es ds total e h =
    sym (append_nil ds) ∙ ap (λ v. ds ++ blamed_all rule q y x c v) (sym e) ∙ h

pub ruleset rests = (image_start, image_turn, image_end, judged_start, judged_turn, judged_end)

-- What a turn of a loop over what is left does.
use Rattle.std.proofs.Common.{◌≡◌, ℕ, ◌+◌, ◌<◌, ◌≤◌, Bool, true, false, List, [], ◌∷◌, ◌++◌, length, get_or, drop, map, refl, sym, ap, ◌∙◌}
use Rattle.std.proofs.Common.{arith, add-one, append_assoc}
use Rattle.std.specs.Prelude.{slice_set, ◌||◌}
use Rattle.std.specs.List.{list_any}
use Rattle.std.proofs.lemmas.Bool.{false≢true}
use Rattle.std.proofs.lemmas.List.{at_drop_more, at_drop_all}
use Rattle.mg_text.specs.declared.place.Place.{Place}
use Rattle.ts_tree.specs.declared.parts.Branch.{Branch}
use Rattle.ts_tree.specs.declared.parts.To.{To}
use Rattle.ts_tree.specs.declared.parts.To.TheVariants as tos
use Rattle.jv_core.specs.declared.program.CoreField.{CoreField}
use Rattle.jv_core.specs.declared.tree.Var.TheVariants as vars
use Rattle.jv_core.specs.View.{field_of}
use Rattle.use_rules.specs.declared.demand.Demand.{Demand}
use Rattle.use_elements.specs.declared.elements.Rule.TheVariants as rules
use Rattle.use_rules.specs.Elements.{Set}
use Rattle.ts_tree.specs.Typestate.{Typestate}
use Rattle.ts_tree.specs.Calls.{may_end}
use Rattle.use_rules.specs.State.{Out}
use Rattle.use_flow.specs.inner.Followed.{Followed, judged_variable, left_open, without, to_states, open_fields}
use Rattle.use_elements.proofs.Rests.{append_nil}

-- Slots.

pub slot_judged : (s : Followed) (q : Place) (ks : List ℕ) (i k : ℕ) (sets : List Set) (ds ds' total : List Demand) → i < length ks →
    k ≡ get_or ks i k →
    ds' ≡ ds ++ judged_variable s rules.LeftOpen q (vars.Slot k) sets →
    ds ++ left_open s q (drop i ks) sets ≡ total → ds' ++ left_open s q (drop (i + 1) ks) sets ≡ total
slot_judged s q ks i k sets ds ds' total lt at e h =
    ap (λ r. r ++ left_open s q (drop (i + 1) ks) sets) e
    ∙ append_assoc ds (judged_variable s rules.LeftOpen q (vars.Slot k) sets) (left_open s q (drop (i + 1) ks) sets)
    ∙ ap (λ r. ds ++ r) (sym (at_drop_more (λ xs. left_open s q xs sets) ks i k lt ∙ ap (λ x. left_open s q (x ∷ drop (i + 1) ks) sets)
    (sym at))) ∙ h

pub slots_judged : (s : Followed) (q : Place) (ks : List ℕ) (i : ℕ) (sets : List Set) (ds total : List Demand) → length ks ≤ i →
    ds ++ left_open s q (drop i ks) sets ≡ total → ds ≡ total
slots_judged s q ks i sets ds total le h = sym (ap (λ r. ds ++ r) (at_drop_all (λ xs. left_open s q xs sets) ks i le) ∙ append_nil ds) ∙ h

pub ruleset slots = (slot_judged, slots_judged)

pub slot_emptied : (s : Followed) (ks : List ℕ) (i k : ℕ) (sets sets' total : List Set) (x : Set) → i < length ks → k ≡ get_or ks i k →
    x ≡ [] → sets' ≡ slice_set sets k x →
    without s (drop i ks) sets ≡ total → without s (drop (i + 1) ks) sets' ≡ total
slot_emptied s ks i k sets sets' total x lt at n e h =
    ap (without s (drop (i + 1) ks)) (e ∙ ap (slice_set sets k) n)
    ∙ sym (at_drop_more (λ xs. without s xs sets) ks i k lt ∙ ap (λ x. without s (x ∷ drop (i + 1) ks) sets) (sym at)) ∙ h

pub slots_emptied : (s : Followed) (ks : List ℕ) (i : ℕ) (sets total : List Set) → length ks ≤ i → without s (drop i ks) sets ≡ total →
    sets ≡ total
slots_emptied s ks i sets total le h = sym (at_drop_all (λ xs. without s xs sets) ks i le) ∙ h

pub ruleset emptied = (slot_emptied, slots_emptied)

-- Fields.

pub field_opened : (s : Followed) (q : Place) (fs : List CoreField) (i f : ℕ) (sets : List Set) (ds ds' total : List Demand) → i < length fs
    → f ≡ i →
    ds' ≡ ds ++ judged_variable s rules.FieldOpenAtEnd q (vars.Field f) sets →
    ds ++ open_fields s q i (map field_of (drop i fs)) sets ≡ total → ds' ++ open_fields s q (i + 1) (map field_of (drop (i + 1) fs)) sets ≡
    total
field_opened s q [] i f sets ds ds' total lt at e h = let no : ⊥ = omega arith in absurd no
field_opened s q (d ∷ fs) i f sets ds ds' total lt at e h =
    ap (λ r. r ++ open_fields s q (i + 1) (map field_of (drop (i + 1) (d ∷ fs))) sets)
    (e ∙ ap (λ x. ds ++ judged_variable s rules.FieldOpenAtEnd q (vars.Field x) sets) at)
    ∙ append_assoc ds (judged_variable s rules.FieldOpenAtEnd q (vars.Field i) sets)
    (open_fields s q (i + 1) (map field_of (drop (i + 1) (d ∷ fs))) sets)
    ∙ ap (λ n. ds ++ (judged_variable s rules.FieldOpenAtEnd q (vars.Field i) sets ++ open_fields s q n
    (map field_of (drop (i + 1) (d ∷ fs))) sets)) (add-one i)
    ∙ ap (λ r. ds ++ r) (sym (at_drop_more (λ (xs : List CoreField). open_fields s q i (map field_of xs) sets) (d ∷ fs) i d lt)) ∙ h

pub fields_opened : (s : Followed) (q : Place) (fs : List CoreField) (i : ℕ) (sets : List Set) (ds total : List Demand) → length fs ≤ i →
    ds ++ open_fields s q i (map field_of (drop i fs)) sets ≡ total → ds ≡ total
fields_opened s q fs i sets ds total le h =
    sym (ap (λ r. ds ++ r) (at_drop_all (λ (xs : List CoreField). open_fields s q i (map field_of xs) sets) fs i le) ∙ append_nil ds) ∙ h

pub ruleset opened = (field_opened, fields_opened)

-- States that follow.

to_one : (s : Followed) (c : ℕ) (to : To) (more : List To) (sets : List Set) → to_states s c (to ∷ more) sets ≡ to_states s c (to ∷ []) sets
    ++ to_states s c more sets
to_one s c tos.End more sets = refl
to_one s c (tos.State q) more sets = ap (λ r. r ++ to_states s c more sets) (sym (append_nil _))

pub branch_sent : (s : Followed) (c : ℕ) (bs : List Branch) (i : ℕ) (b : Branch) (sets : List Set) (os os' total : List Out) → i < length bs
    → b ≡ get_or bs i b →
    os' ≡ os ++ to_states s c (b.to ∷ []) sets →
    os ++ to_states s c (map (λ b. b.to) (drop i bs)) sets ≡ total → os' ++ to_states s c (map (λ b. b.to) (drop (i + 1) bs)) sets ≡ total
branch_sent s c bs i b sets os os' total lt at e h =
    ap (λ r. r ++ to_states s c (map (λ b. b.to) (drop (i + 1) bs)) sets) e
    ∙ append_assoc os (to_states s c (b.to ∷ []) sets) (to_states s c (map (λ b. b.to) (drop (i + 1) bs)) sets)
    ∙ ap (λ r. os ++ r) (sym (at_drop_more (λ (xs : List Branch). to_states s c (map (λ b. b.to) xs) sets) bs i b lt
    ∙ ap (λ (x : Branch). to_states s c (map (λ b. b.to) (x ∷ drop (i + 1) bs)) sets) (sym at)
    ∙ to_one s c b.to (map (λ b. b.to) (drop (i + 1) bs)) sets)) ∙ h

pub branches_sent : (s : Followed) (c : ℕ) (bs : List Branch) (i : ℕ) (sets : List Set) (os total : List Out) → length bs ≤ i →
    os ++ to_states s c (map (λ b. b.to) (drop i bs)) sets ≡ total → os ≡ total
branches_sent s c bs i sets os total le h =
    sym (ap (λ r. os ++ r) (at_drop_all (λ (xs : List Branch). to_states s c (map (λ b. b.to) xs) sets) bs i le) ∙ append_nil os) ∙ h

pub ruleset states = (branch_sent, branches_sent)

-- Whether one leads to where the object may be left.

pub or_true_is : (a b : Bool) → a ≡ true → true ≡ (a || b)
or_true_is true b h = refl
or_true_is false b h = absurd (false≢true h)

pub or_false_is : (a : Bool) → a ≡ (a || false)
or_false_is true = refl
or_false_is false = refl

pub branch_ended : (t : Typestate) (bs : List Branch) (i : ℕ) (b : Branch) → i < length bs → b ≡ get_or bs i b →
    list_any (may_end t) (map (λ b. b.to) (drop i bs)) ≡ (may_end t b.to || list_any (may_end t) (map (λ b. b.to) (drop (i + 1) bs)))
branch_ended t bs i b lt at =
    at_drop_more (λ (xs : List Branch). list_any (may_end t) (map (λ b. b.to) xs)) bs i b lt
    ∙ ap (λ (x : Branch). list_any (may_end t) (map (λ b. b.to) (x ∷ drop (i + 1) bs))) (sym at)

pub branches_ended : (t : Typestate) (bs : List Branch) (i : ℕ) → length bs ≤ i → list_any (may_end t) (map (λ b. b.to) (drop i bs)) ≡ false
branches_ended t bs i le = at_drop_all (λ (xs : List Branch). list_any (may_end t) (map (λ b. b.to) xs)) bs i le

pub ruleset ends = (or_true_is, or_false_is, branch_ended, branches_ended)

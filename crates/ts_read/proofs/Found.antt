-- What is found is the fault of the file.
use Rattle.std.proofs.Common.{◌≡◌, List, [], ◌∷◌, ◌++◌, map, Option, Some, None, refl, sym, ap, ◌∙◌, subst}
use Rattle.std.specs.List.{flat_map}
use Rattle.std.specs.Option.{option_or}
use Rattle.std.proofs.lemmas.Grind.{flat_map-append}
use Rattle.std.proofs.lemmas.List.{map-append}
use Rattle.std.proofs.lemmas.List.Folds.{flat_map-map}
use Rattle.mg_text.specs.Call.{Name}
use Rattle.mg_read.specs.Culprit.{Culprit}
use Rattle.mg_read.specs.First.{Judged, clean, with_earlier, FirstOf, this, next}
use Rattle.mg_read.specs.First.{none as all_hold}
use Rattle.ts_parse.specs.declared.written.Naming.{Naming}
use Rattle.ts_parse.specs.declared.written.WrittenBranch.{WrittenBranch}
use Rattle.ts_parse.specs.declared.written.WrittenTarget.{WrittenTarget}
use Rattle.ts_parse.specs.declared.written.WrittenTarget.TheVariants as kept
use Rattle.ts_parse.specs.declared.written.WrittenMethod.{WrittenMethod}
use Rattle.ts_parse.specs.declared.written.WrittenState.{WrittenState}
use Rattle.ts_parse.specs.Written.{WMethod, WState, WFile, methods_in, wtarget_of, wmethod_of, wentry_of, wstate_of}
use Rattle.ts_read.specs.Conditions.{branches_of, labels_of, leads_to, targets_of, texts, IsRepeat, IsTwice, IsUnknown, HasOther}
use Rattle.ts_read.specs.Conditions.{IsNamedEnd, Judges, IsFault}
use Rattle.ts_read.specs.declared.condition.Condition.{Condition}
use Rattle.ts_read.specs.declared.condition.Condition.TheVariants as conditions
use Rattle.ts_read.specs.inner.Finding.{repeat_in, first_some, noted, state_name, label_name, branches_in, at_method, repeat_entry}
use Rattle.ts_read.specs.inner.Finding.{repeat_label, repeat_labels, unknown_to, unknown_target, unknown_method, unknown_state, named_end}
use Rattle.ts_read.specs.inner.Signing.{Firsts, with_states, other_method, other_in_state}
use Rattle.ts_read.specs.inner.Deciding.{tagged, fault_found}
use Rattle.ts_read.proofs.Judges.{repeat_judged, first_judged, each_judged, noted_distinct, unknown_judged, end_judged}
use Rattle.ts_read.proofs.Contents.{kept_in, kept_are, some_in, entries_judged}
use Rattle.ts_read.proofs.Signed.{kept_methods, table_look, signed_judged}

-- ---- lists of lists

pub map_map : {X Y Z : Type 0} (f : Y → Z) (g : X → Y) (xs : List X) → map f (map g xs) ≡ map (λ x. f (g x)) xs
map_map f g [] = refl
map_map f g (x ∷ xs) = ap (λ ys. f (g x) ∷ ys) (map_map f g xs)

nested : {Y : Type 0} (f : WMethod → List Y) (ss : List WrittenState)
    → flat_map f (flat_map (λ (s : WState). methods_in s.entries) (map wstate_of ss)) ≡ flat_map
    (λ (s : WrittenState). flat_map (λ (m : WrittenMethod). f (wmethod_of m)) (kept_in s.entries.items)) ss
nested f [] = refl
nested {Y} f (s ∷ ss) =
    let rest = flat_map (λ (t : WState). methods_in t.entries) (map wstate_of ss) in
    flat_map-append f (methods_in (map wentry_of s.entries.items)) rest
    ∙ ap (λ (ms : List WMethod). flat_map f ms ++ flat_map f rest) (kept_are s.entries.items)
    ∙ ap (λ (ys : List Y). ys ++ flat_map f rest) (flat_map-map f wmethod_of (kept_in s.entries.items))
    ∙ ap (λ (ys : List Y). flat_map (λ (m : WrittenMethod). f (wmethod_of m)) (kept_in s.entries.items) ++ ys) (nested f ss)

kept_of : (ss : List WrittenState) → flat_map (λ (s : WState). methods_in s.entries) (map wstate_of ss) ≡ map wmethod_of (kept_methods ss)
kept_of [] = refl
kept_of (s ∷ ss) =
    ap (λ (ms : List WMethod). ms ++ flat_map (λ (t : WState). methods_in t.entries) (map wstate_of ss)) (kept_are s.entries.items)
    ∙ ap (λ (ms : List WMethod). map wmethod_of (kept_in s.entries.items) ++ ms) (kept_of ss)
    ∙ sym (map-append wmethod_of (kept_in s.entries.items) (kept_methods ss))

some_append : (f : WrittenMethod → Option Culprit) (xs ys : List WrittenMethod)
    → first_some (map f (xs ++ ys)) ≡ option_or (first_some (map f xs)) (first_some (map f ys))
some_append f [] ys = refl
some_append f (x ∷ xs) ys = ap (λ (o : Option Culprit). option_or (f x) o) (some_append f xs ys) ∙ shift (f x) where
  shift : (o : Option Culprit) → option_or o (option_or (first_some (map f xs)) (first_some (map f ys))) ≡ option_or
      (option_or o (first_some (map f xs))) (first_some (map f ys))
  shift None = refl
  shift (Some c) = refl

pub some_kept : (T : Firsts) (ss : List WrittenState)
    → first_some (map (other_method T) (kept_methods ss)) ≡ first_some (map (other_in_state T) ss)
some_kept T [] = refl
some_kept T (s ∷ ss) = some_append (other_method T) (kept_in s.entries.items) (kept_methods ss)
    ∙ ap (λ (o : Option Culprit). option_or o (first_some (map (other_method T) (kept_methods ss))))
    (sym (some_in (other_method T) s.entries.items))
    ∙ ap (λ (o : Option Culprit). option_or (other_in_state T s) o) (some_kept T ss)

-- ---- each condition

abbrev pub file : Name → List WrittenState → WFile
file name ss = record { name = name; states = map wstate_of ss }

names_of : (ss : List WrittenState) → map (λ (s : WState). s.name) (map wstate_of ss) ≡ map state_name ss
names_of ss = map_map (λ (s : WState). s.name) wstate_of ss

judge_states : (name : Name) (ss : List WrittenState) → Judges (file name ss) conditions.DuplicateState (repeat_in [] (map state_name ss))
judge_states name ss = subst (λ (ns : List Naming). Judged IsRepeat (with_earlier ns) (repeat_in [] (map state_name ss)))
    (sym (names_of ss)) (repeat_judged [] (map state_name ss))

unknown_there : (S : List Naming) (t : WrittenTarget) → Judged (IsUnknown S) (leads_to (wtarget_of t)) (unknown_target (texts S) t)
unknown_there S (kept.One to) = unknown_judged S to
unknown_there S (kept.ByAnswer branches) = each_judged (IsUnknown S) (λ (b : WrittenBranch). b.to) (unknown_to (texts S))
    (λ b. unknown_judged S b.to) branches.items

-- what is judged at the methods of a state is judged at its entries
at_methods : {Y : Type 0} (At : Y → Culprit → Type 0) (parts : WrittenMethod → List Y) (find : WrittenMethod → Option Culprit)
    → ((m : WrittenMethod) → Judged At (parts m) (find m)) → (s : WrittenState)
    → Judged At (flat_map parts (kept_in s.entries.items)) (first_some (map (at_method find) s.entries.items))
at_methods At parts find h s =
    subst (Judged At (flat_map parts (kept_in s.entries.items))) (sym (some_in find s.entries.items))
    (first_judged At parts find h (kept_in s.entries.items))

unknown_all : (S : List Naming) (ss : List WrittenState)
    → Judged (IsUnknown S) (flat_map (λ (m : WMethod). leads_to m.target) (flat_map (λ (s : WState). methods_in s.entries)
    (map wstate_of ss)))
    (first_some (map (unknown_state (texts S)) ss))
unknown_all S ss =
    subst (λ (ns : List Naming). Judged (IsUnknown S) ns (first_some (map (unknown_state (texts S)) ss)))
    (sym (nested (λ (m : WMethod). leads_to m.target) ss))
    (first_judged (IsUnknown S) (λ (s : WrittenState). flat_map (λ (m : WrittenMethod). leads_to (wtarget_of m.target))
    (kept_in s.entries.items))
    (unknown_state (texts S))
    (at_methods (IsUnknown S) (λ (m : WrittenMethod). leads_to (wtarget_of m.target)) (unknown_method (texts S))
    (λ m. unknown_there S m.target)) ss)

judge_targets : (name : Name) (names : List Name) (ss : List WrittenState) → names ≡ texts (map state_name ss)
    → Judges (file name ss) conditions.UnknownState (first_some (map (unknown_state names) ss))
judge_targets name names ss is =
    subst (λ (S : List Naming). Judged (IsUnknown S) (targets_of (file name ss)) (first_some (map (unknown_state names) ss)))
    (sym (names_of ss))
    (subst (λ (ts : List Name). Judged (IsUnknown (map state_name ss)) (targets_of (file name ss)) (first_some (map (unknown_state ts) ss)))
    (sym is) (unknown_all (map state_name ss) ss))

judge_entries : (name : Name) (ss : List WrittenState)
    → Judges (file name ss) conditions.DuplicateMethod (first_some (map repeat_entry ss))
judge_entries name ss =
    subst (λ xs. Judged IsTwice xs (first_some (map repeat_entry ss)))
    (sym (flat_map-map (λ (s : WState). with_earlier s.entries) wstate_of ss))
    (first_judged IsTwice (λ (s : WrittenState). with_earlier (map wentry_of s.entries.items)) repeat_entry entries_judged ss)

judge_signatures : (name : Name) (ss : List WrittenState)
    → Judges (file name ss) conditions.SignatureDiffers
    (first_some (map (other_in_state (with_states (record { names = []; sigs = [] }) ss)) ss))
judge_signatures name ss =
    let T : Firsts = with_states (record { names = []; sigs = [] }) ss in
    subst (λ (ms : List WMethod). Judged HasOther (with_earlier ms) (first_some (map (other_in_state T) ss))) (sym (kept_of ss))
    (subst (λ (o : Option Culprit). Judged HasOther (with_earlier (map wmethod_of (kept_methods ss))) o) (some_kept T ss)
    (signed_judged T [] (kept_methods ss) (table_look ss) tt))

labels_there : (t : WrittenTarget) → Judged IsRepeat (with_earlier (map (λ (b : WrittenBranch). b.label) (branches_of (wtarget_of t))))
    (repeat_in [] (map label_name (branches_in t)))
labels_there (kept.One to) = clean
labels_there (kept.ByAnswer branches) = repeat_judged [] (map label_name branches.items)

judge_labels : (name : Name) (ss : List WrittenState) → Judges (file name ss) conditions.DuplicateLabel (first_some (map repeat_labels ss))
judge_labels name ss =
    subst (λ xs. Judged IsRepeat xs (first_some (map repeat_labels ss))) (sym (nested (λ (m : WMethod). with_earlier (labels_of m)) ss))
    (first_judged IsRepeat (λ (s : WrittenState). flat_map
    (λ (m : WrittenMethod). with_earlier (labels_of (wmethod_of m))) (kept_in s.entries.items)) repeat_labels
    (at_methods IsRepeat (λ (m : WrittenMethod). with_earlier (labels_of (wmethod_of m))) repeat_label (λ m. labels_there m.target)) ss)

judge_ends : (name : Name) (ss : List WrittenState) → Judges (file name ss) conditions.ReservedEnd (first_some (map named_end ss))
judge_ends name ss =
    subst (λ (ns : List Naming). Judged IsNamedEnd ns (first_some (map named_end ss))) (sym (names_of ss))
    (each_judged IsNamedEnd state_name named_end end_judged ss)

-- ---- one after another

step : {Of : Condition → Option Culprit → Type 0} (k : Condition) (o : Option Culprit) (ks : List Condition)
    (r : Option (Condition × Culprit))
    → Of k o → (o ≡ None → FirstOf Of ks r) → FirstOf Of (k ∷ ks) (option_or (tagged k o) r)
step k None ks r h more = next h (more refl)
step k (Some c) ks r h more = this h

pub fault_is : (name : Name) (names : List Name) (ss : List WrittenState) → names ≡ noted [] (map state_name ss)
    → IsFault (file name ss) (fault_found names ss)
fault_is name names ss is =
    step conditions.DuplicateState _ _ _ (judge_states name ss) (λ distinct.
    step conditions.UnknownState _ _ _ (judge_targets name names ss (is ∙ noted_distinct [] (map state_name ss) distinct)) (λ _.
    step conditions.DuplicateMethod _ _ _ (judge_entries name ss) (λ _.
    step conditions.SignatureDiffers _ _ _ (judge_signatures name ss) (λ _.
    step conditions.DuplicateLabel _ _ _ (judge_labels name ss) (λ _.
    step conditions.ReservedEnd _ _ _ (judge_ends name ss) (λ _. all_hold))))))

-- A file without a fault means a typestate whose states are as they must be.
use Rattle.std.proofs.Common.{◌≡◌, ℕ, zero, suc, List, [], ◌∷◌, ◌++◌, length, map, Option, Some, None, Bool, true, false, cond, position}
use Rattle.std.proofs.Common.{codes, refl, sym, ap, ◌∙◌, subst, arith}
use Rattle.std.specs.Prelude.{is_some, ◌||◌, ◌≢◌}
use Rattle.std.specs.List.{Contains, AllByRecursion}
use Rattle.std.specs.Option.{option_or}
use Rattle.std.specs.Str.{bytes_eq}
use Rattle.std.proofs.lemmas.List.{length-map}
use Rattle.std.proofs.lemmas.List.Elements.{Contains-push}
use Rattle.std.proofs.lemmas.List.Quantifiers.{position-Some}
use Rattle.std.proofs.lemmas.Slice.Eq.{bytes_eq-Decides}
use Rattle.mg_text.specs.Call.{Name}
use Rattle.mg_read.specs.Culprit.{Culprit}
use Rattle.mg_read.proofs.Steps.{some_is}
use Rattle.ts_tree.specs.declared.parts.To.TheVariants as tos
use Rattle.ts_tree.specs.declared.parts.Branch.{Branch}
use Rattle.ts_tree.specs.Typestate.{Method, State}
use Rattle.ts_tree.specs.Proper.{AreDistinct, IsWithin, IsTarget, IsState, IsOffered, IsProper}
use Rattle.ts_parse.specs.declared.written.Naming.{Naming}
use Rattle.ts_parse.specs.declared.written.WrittenBranch.{WrittenBranch}
use Rattle.ts_parse.specs.declared.written.WrittenTarget.{WrittenTarget}
use Rattle.ts_parse.specs.declared.written.WrittenTarget.TheVariants as kept
use Rattle.ts_parse.specs.declared.written.WrittenMethod.{WrittenMethod}
use Rattle.ts_parse.specs.declared.written.WrittenState.{WrittenState}
use Rattle.ts_parse.specs.Written.{wtarget_of, wmethod_of, wentry_of, has_drop}
use Rattle.ts_read.specs.Conditions.{blamed, texts}
use Rattle.ts_read.specs.Meaning.{place_named, state_numbered, branch_meant, target_meant, method_meant}
use Rattle.ts_read.specs.declared.condition.Condition.{Condition}
use Rattle.ts_read.specs.declared.condition.Condition.TheVariants as conditions
use Rattle.ts_read.specs.inner.Finding.{is_in, repeat_in, first_some, noted, state_name, method_name, label_name, branches_in, repeat_entry}
use Rattle.ts_read.specs.inner.Finding.{repeat_label, repeat_labels, unknown_name, unknown_to, unknown_target, unknown_method}
use Rattle.ts_read.specs.inner.Finding.{unknown_state, named_end}
use Rattle.ts_read.specs.inner.Signing.{Sig, Firsts, with_states, other_in_state}
use Rattle.ts_read.specs.inner.Deciding.{tagged, labels_or_end, methods_or_later, fault_found}
use Rattle.ts_read.proofs.Judges.{in_contained, contained_in, noted_distinct, true_false}
use Rattle.ts_read.proofs.Contents.{kept_in, some_in, once_in}
use Rattle.ts_read.proofs.Signed.{kept_methods, lookup, Agrees, all_agree, table_look}
use Rattle.ts_read.proofs.Found.{map_map, some_kept}

abbrev pub meant : List Name → WrittenState → State
meant names s = record {
  name = s.name.text;
  methods = map (λ m. method_meant names (wmethod_of m)) (kept_in s.entries.items);
  drops = has_drop (map wentry_of s.entries.items);
}

-- ---- nothing was found

pub tag_split : (k : Condition) (o : Option Culprit) (r : Option (Condition × Culprit)) → option_or (tagged k o) r ≡ None
    → (o ≡ None) × (r ≡ None)
tag_split k None r e = (refl, e)
tag_split k (Some c) r e = absurd cc

some_split : (a b : Option Culprit) → option_or a b ≡ None → (a ≡ None) × (b ≡ None)
some_split None b e = (refl, e)
some_split (Some c) b e = absurd cc

-- ---- names that differ

passes : (seen : List Name) (n : Naming) (ns : List Naming) → repeat_in seen (n ∷ ns) ≡ None
    → (is_in seen n.text ≡ false) × (repeat_in (seen ++ n.text ∷ []) ns ≡ None)
passes seen n ns e = go (is_in seen n.text) refl e where
  go : (b : Bool) → is_in seen n.text ≡ b → cond b (Some (blamed n)) (repeat_in (seen ++ n.text ∷ []) ns) ≡ None
      → (is_in seen n.text ≡ false) × (repeat_in (seen ++ n.text ∷ []) ns ≡ None)
  go true h e = absurd cc
  go false h e = (h, e)

kept_front : (xs ys : List Name) (t : Name) → Contains xs t → Contains (xs ++ ys) t
kept_front [] ys t (k, lt, e) = absurd (omega arith)
kept_front (x ∷ xs) ys t (zero, lt, e) = (0, omega arith, e)
kept_front (x ∷ xs) ys t (suc k, lt, e) = let more = kept_front xs ys t (k, omega arith, e) in (suc more.0, omega (arith, more.1), more.2)

fresh : (ns : List Naming) (seen : List Name) (t : Name) → is_in seen t ≡ true → repeat_in seen ns ≡ None → Contains (texts ns) t → ⊥
fresh [] seen t s e (k, lt, f) = omega arith
fresh (n ∷ ns) seen t s e (zero, lt, f) = true_false (ap (λ (x : Name). is_in seen x) f ∙ s) (passes seen n ns e).0
fresh (n ∷ ns) seen t s e (suc k, lt, f) =
    fresh ns (seen ++ n.text ∷ []) t (contained_in (seen ++ n.text ∷ []) t (kept_front seen (n.text ∷ []) t (in_contained seen t s)))
    (passes seen n ns e).1 (k, omega arith, f)

distinct : (ns : List Naming) (seen : List Name) → repeat_in seen ns ≡ None → AreDistinct (texts ns)
distinct [] seen e = tt
distinct (n ∷ ns) seen e =
    let p = passes seen n ns e in (
      (λ c. fresh ns (seen ++ n.text ∷ []) n.text (contained_in (seen ++ n.text ∷ []) n.text (Contains-push seen n.text)) p.1 c),
      distinct ns (seen ++ n.text ∷ []) p.1,
    )

-- the same of what these names become
distinct_as : {X Y : Type 0} (name : X → Naming) (f : X → Y) (g : Y → Name) (xs : List X)
    → map (λ x. (name x).text) xs ≡ map (λ x. g (f x)) xs
    → repeat_in [] (map name xs) ≡ None → AreDistinct (map g (map f xs))
distinct_as name f g xs same e =
    subst AreDistinct (map_map (λ (n : Naming). n.text) name xs ∙ same ∙ sym (map_map g f xs)) (distinct (map name xs) [] e)

-- ---- targets

within : (names : List Name) (n : Naming) → unknown_name names n ≡ None → IsWithin (length names) (place_named names n.text)
within names n e = go (bytes_eq n.text (codes "end")) e where
  there : (o : Option ℕ) → position (bytes_eq n.text) names ≡ o → cond (is_some o) None (Some (blamed n)) ≡ None
      → IsWithin (length names) (state_numbered o)
  there None h e = absurd cc
  there (Some k) h e = (position-Some (bytes_eq n.text) names k [] h).0

  go : (b : Bool) → cond (b || is_in names n.text) None (Some (blamed n)) ≡ None
      → IsWithin (length names) (cond b tos.End (state_numbered (position (bytes_eq n.text) names)))
  go true e = tt
  go false e = there (position (bytes_eq n.text) names) refl e

module _ (names : List Name) where
  branches_within : (bs : List WrittenBranch) → first_some (map (unknown_to names) bs) ≡ None
      → AllByRecursion (λ (b : Branch). IsWithin (length names) b.to) (map (branch_meant names) bs)
  branches_within [] e = tt
  branches_within (b ∷ bs) e =
      let h = some_split (unknown_to names b) (first_some (map (unknown_to names) bs)) e in
      (within names b.to h.0, branches_within bs h.1)

  target_fits : (t : WrittenTarget) → unknown_target names t ≡ None → repeat_in [] (map label_name (branches_in t)) ≡ None
      → IsTarget (length names) (target_meant names (wtarget_of t))
  target_fits (kept.One to) e r = within names to e
  target_fits (kept.ByAnswer branches) e r =
      (branches_within branches.items e, distinct_as label_name (branch_meant names) (λ (b : Branch). b.label) branches.items refl r)

  methods_fit : (ms : List WrittenMethod) → first_some (map (unknown_method names) ms) ≡ None → first_some (map repeat_label ms) ≡ None
      → AllByRecursion (λ (m : Method). IsTarget (length names) m.target)
      (map (λ (m : WrittenMethod). method_meant names (wmethod_of m)) ms)
  methods_fit [] e r = tt
  methods_fit (m ∷ ms) e r =
      let h = some_split (unknown_method names m) (first_some (map (unknown_method names) ms)) e in
      let k = some_split (repeat_label m) (first_some (map repeat_label ms)) r in
      (target_fits m.target h.0 k.0, methods_fit ms h.1 k.1)

  not_end : (s : WrittenState) → named_end s ≡ None → s.name.text ≢ codes "end"
  not_end s e = go (bytes_eq s.name.text (codes "end")) refl e where
    go : (b : Bool) → bytes_eq s.name.text (codes "end") ≡ b → cond b (Some (blamed s.name)) None ≡ None → s.name.text ≢ codes "end"
    go true h e = absurd cc
    go false h e = λ same. true_false ((bytes_eq-Decides s.name.text (codes "end")).1 same) h

  states_fit : (ss : List WrittenState) → first_some (map (unknown_state names) ss) ≡ None → first_some (map repeat_entry ss) ≡ None
      → first_some (map repeat_labels ss) ≡ None → first_some (map named_end ss) ≡ None
      → AllByRecursion (IsState (length names)) (map (meant names) ss)
  states_fit [] u m l n = tt
  states_fit (s ∷ ss) u m l n =
      let us = some_split (unknown_state names s) (first_some (map (unknown_state names) ss)) u in
      let ms = some_split (repeat_entry s) (first_some (map repeat_entry ss)) m in
      let ls = some_split (repeat_labels s) (first_some (map repeat_labels ss)) l in
      let ns = some_split (named_end s) (first_some (map named_end ss)) n in (
        record {
          named = not_end s ns.0;
          methods = distinct_as method_name (λ (k : WrittenMethod). method_meant names (wmethod_of k))
              (λ (k : Method). k.name) (kept_in s.entries.items) refl (once_in false [] s.entries.items ms.0);
          targets = methods_fit (kept_in s.entries.items) (sym (some_in (unknown_method names) s.entries.items) ∙ us.0)
              (sym (some_in repeat_label s.entries.items) ∙ ls.0);
        },
        states_fit ss us.1 ms.1 ls.1 ns.1,
      )

  -- ---- signatures

  agrees_split : (T : Firsts) (xs ys : List WrittenMethod) → Agrees T (xs ++ ys) → Agrees T xs × Agrees T ys
  agrees_split T [] ys a = (tt, a)
  agrees_split T (x ∷ xs) ys a = let r = agrees_split T xs ys a.1 in ((a.0, r.0), r.1)

  abbrev Told : Firsts → Method → Type 0
  Told T m = lookup T m.name ≡ Some (record { result = m.result; params = m.params })

  method_told : (T : Firsts) (ms : List WrittenMethod) (m : Method) → Agrees T ms
      → Contains (map (λ (k : WrittenMethod). method_meant names (wmethod_of k)) ms) m → Told T m
  method_told T [] m a (k, lt, e) = absurd (omega arith)
  method_told T (w ∷ ws) m a (zero, lt, e) = subst (Told T) e a.0
  method_told T (w ∷ ws) m a (suc k, lt, e) = method_told T ws m a.1 (k, omega arith, e)

  offered_told : (T : Firsts) (ss : List WrittenState) (m : Method) (s : State) → Agrees T (kept_methods ss)
      → Contains (map (meant names) ss) s → Contains s.methods m → Told T m
  offered_told T [] m s a (k, lt, e) c = absurd (omega arith)
  offered_told T (w ∷ ws) m s a (zero, lt, e) c =
      method_told T (kept_in w.entries.items) m (agrees_split T (kept_in w.entries.items) (kept_methods ws) a).0
      (subst (λ (t : State). Contains t.methods m) (sym e) c)
  offered_told T (w ∷ ws) m s a (suc k, lt, e) c =
      offered_told T ws m s (agrees_split T (kept_in w.entries.items) (kept_methods ws) a).1 (k, omega arith, e) c

  one_signature : (T : Firsts) (ss : List WrittenState) → Agrees T (kept_methods ss) → (m n : Method) → IsOffered (map (meant names) ss) m
      → IsOffered (map (meant names) ss) n → m.name ≡ n.name
      → (m.result ≡ n.result) × (m.params ≡ n.params)
  one_signature T ss a m n (s, c, d) (t, f, g) same =
      let x : Told T m = offered_told T ss m s a c d in
      let y : Told T n = offered_told T ss n t a f g in
      let is = some_is _ _ (sym x ∙ ap (λ (k : Name). lookup T k) same ∙ y) in
      (ap (λ (z : Sig). z.result) is, ap (λ (z : Sig). z.params) is)

-- ---- all of it

pub proper : (names : List Name) (ss : List WrittenState) → names ≡ noted [] (map state_name ss) → fault_found names ss ≡ None
    → IsProper (map (meant names) ss)
proper names ss is e =
    let a = tag_split conditions.DuplicateState (repeat_in [] (map state_name ss)) _ e in
    let b = tag_split conditions.UnknownState (first_some (map (unknown_state names) ss)) (methods_or_later ss) a.1 in
    let c = tag_split conditions.DuplicateMethod (first_some (map repeat_entry ss)) _ b.1 in
    let d = tag_split conditions.SignatureDiffers (first_some (map (other_in_state (with_states (record { names = []; sigs = [] }) ss)) ss))
    (labels_or_end ss) c.1 in
    let f = tag_split conditions.DuplicateLabel (first_some (map repeat_labels ss)) _ d.1 in
    let g = tag_split conditions.ReservedEnd (first_some (map named_end ss)) None f.1 in
    let T : Firsts = with_states (record { names = []; sigs = [] }) ss in
    let agree : Agrees T (kept_methods ss) = all_agree T [] (kept_methods ss) (table_look ss) tt (some_kept T ss ∙ d.0) in
    let count : length names ≡ length (map (meant names) ss) =
    ap length (is ∙ noted_distinct [] (map state_name ss) a.0) ∙ length-map (map state_name ss) (λ (n : Naming). n.text)
    ∙ length-map ss state_name ∙ sym (length-map ss (meant names)) in
    record {
      states_differ = distinct_as state_name (meant names) (λ (s : State). s.name) ss refl a.0;
      each = subst (λ (k : ℕ). AllByRecursion (IsState k) (map (meant names) ss)) count (states_fit names ss b.0 c.0 f.0 g.0);
      one_signature = one_signature names T ss agree;
    }

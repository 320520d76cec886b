-- A file with no fault means a typestate, and a file with one is told of by it.
use Rattle.std.proofs.Common.{◌≡◌, ℕ, ◌≤◌, List, [], ◌∷◌, length, map, Option, Some, None, refl, sym, ap, ◌∙◌, subst}
use Rattle.std.specs.Prelude.{option_map}
use Rattle.std.proofs.lemmas.List.{length-map}
use Rattle.mg_text.specs.Call.{Name}
use Rattle.mg_read.specs.Culprit.{Culprit}
use Rattle.ts_tree.specs.Typestate.{Method, State, Typestate}
use Rattle.ts_tree.specs.Proper.{IsProper}
use Rattle.ts_parse.specs.declared.written.WrittenState.{WrittenState}
use Rattle.ts_parse.specs.Written.{WState, wmethod_of, wentry_of, wstate_of, has_drop}
use Rattle.ts_read.specs.declared.condition.Condition.{Condition}
use Rattle.ts_read.specs.declared.condition.Condition.TheVariants as conditions
use Rattle.ts_read.specs.declared.fault.TsFault.{TsFault}
use Rattle.ts_read.specs.declared.judge.Broken.{Broken}
use Rattle.ts_read.specs.Conditions.{state_names, texts, IsFault}
use Rattle.ts_read.specs.Meaning.{method_meant, state_meant, typestate_of}
use Rattle.ts_read.specs.inner.Finding.{repeat_in, noted, state_name}
use Rattle.ts_read.specs.inner.Deciding.{broken_of, fault_found}
use Rattle.ts_read.specs.inner.Composing.{condition_of, MeantFault}
use Rattle.ts_read.specs.inner.Building.{state_made}
use Rattle.ts_read.proofs.Judges.{noted_distinct}
use Rattle.ts_read.proofs.Contents.{kept_in, kept_are, made_in}
use Rattle.ts_read.proofs.Found as found
use Rattle.ts_read.proofs.Found.{map_map, fault_is}
use Rattle.ts_read.proofs.Proper.{meant, tag_split, proper}
use Rattle.ts_read.proofs.Composed.{meant_fault}

-- states, from what the program keeps of them, and from what that says
meant_all : (names : List Name) (ss : List WrittenState) → map (meant names) ss ≡ map (state_meant names) (map wstate_of ss)
meant_all names [] = refl
meant_all names (s ∷ ss) =
    let F : List Method → State = λ ms. record { name = s.name.text; methods = ms; drops = has_drop (map wentry_of s.entries.items) } in
    ap (λ (ms : List Method). F ms ∷ map (meant names) ss)
    (sym (map_map (method_meant names) wmethod_of (kept_in s.entries.items)) ∙ ap (map (method_meant names))
    (sym (kept_are s.entries.items)))
    ∙ ap (λ (ts : List State). state_meant names (wstate_of s) ∷ ts) (meant_all names ss)

made_all : (names : List Name) (ss : List WrittenState) → map (state_made names) ss ≡ map (meant names) ss
made_all names [] = refl
made_all names (s ∷ ss) =
    let F : List Method → State = λ ms. record { name = s.name.text; methods = ms; drops = has_drop (map wentry_of s.entries.items) } in
    ap (λ (ms : List Method). F ms ∷ map (state_made names) ss) (made_in names s.entries.items)
    ∙ ap (λ (ts : List State). meant names s ∷ ts) (made_all names ss)

module _ (listed : List WrittenState) (names : List Name) (o : Option Broken) (is : names ≡ noted [] (map state_name listed))
    (sought : option_map broken_of o ≡ fault_found names listed) where
  -- what is broken is told
  pub broken_told : (file : ℕ) (name : Name) (items : List WrittenState) (b : Broken) (fault : TsFault) → listed ≡ items
      → length listed ≤ 1000 → o ≡ Some b → condition_of fault ≡ Some (broken_of b)
      → MeantFault file (found.file name items) fault
  broken_told file name items b fault same few some told =
      let P : List WrittenState → Type 0 = λ ss. MeantFault file (found.file name ss) fault in
      let Is : Option (Condition × Culprit) → Type 0 = IsFault (found.file name listed) in
      let few : length (map wstate_of listed) ≤ 1000 = subst (λ (n : ℕ). n ≤ 1000) (sym (length-map listed wstate_of)) few in
      subst P same
      (meant_fault file (found.file name listed) fault (broken_of b) few told
      (subst Is (sym sought ∙ ap (λ (x : Option Broken). option_map broken_of x) some) (fault_is name names listed is)))

  nothing : o ≡ None → fault_found names listed ≡ None
  nothing none = sym sought ∙ ap (λ (x : Option Broken). option_map broken_of x) none

  pub proper_states : (made : List State) → o ≡ None → made ≡ map (state_made names) listed → IsProper made
  proper_states made none built = subst IsProper (sym (built ∙ made_all names listed)) (proper names listed is (nothing none))

  names_are : (name : Name) → o ≡ None → names ≡ texts (state_names (found.file name listed))
  names_are name none =
      is ∙ noted_distinct [] (map state_name listed)
      (tag_split conditions.DuplicateState (repeat_in [] (map state_name listed)) _ (nothing none)).0
      ∙ ap texts (sym (map_map (λ (s : WState). s.name) wstate_of listed))

  pub typestate_meant : (name copied : Name) (items : List WrittenState) (made : List State) → listed ≡ items → length listed ≤ 1000
      → o ≡ None → copied ≡ name → made ≡ map (state_made names) listed
      → (length (map wstate_of items) ≤ 1000) × IsFault (found.file name items) None
      × (◌≡◌ {A = Typestate} (record { name = copied; states = made }) (typestate_of (found.file name items)))
  typestate_meant name copied items made same few none copy built =
      let T : Name → List State → Typestate = λ n ss. record { name = n; states = ss } in
      let P : List WrittenState → Type 0 = λ ss. (length (map wstate_of ss) ≤ 1000) × IsFault (found.file name ss) None
      × (T copied made ≡ typestate_of (found.file name ss)) in
      let few : length (map wstate_of listed) ≤ 1000 = subst (λ (n : ℕ). n ≤ 1000) (sym (length-map listed wstate_of)) few in
      let is_states : made ≡ map (state_meant (texts (state_names (found.file name listed)))) (map wstate_of listed) =
      built ∙ made_all names listed ∙ meant_all names listed ∙ ap (λ (ns : List Name). map (state_meant ns) (map wstate_of listed))
      (names_are name none) in
      subst P same (
        few,
        subst (IsFault (found.file name listed)) (nothing none) (fault_is name names listed is),
        ap (λ (n : Name). T n made) copy ∙ ap (λ (ss : List State). T name ss) is_states,
      )

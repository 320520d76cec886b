-- A search from the front on.
use Rattle.std.proofs.Common.{◌≡◌, ℕ, ◌+◌, ◌<◌, ◌≤◌, List, length, get_or, drop, map, Option, Some, None, false, option_and_then}
use Rattle.std.proofs.Common.{option_map, if◌then◌else◌, slice_get, arith, refl, sym, ap, ◌∙◌}
use Rattle.std.specs.Str.{bytes_eq}
use Rattle.std.proofs.lemmas.List.{at_drop_more, at_drop_all, length-map}
use Rattle.std.proofs.lemmas.Option.{slice_get-map, slice_get_read}
use Rattle.mg_text.specs.Call.{Name}
use Rattle.ts_tree.specs.declared.parts.Branch.{Branch}
use Rattle.ts_tree.specs.declared.parts.Method.{Method as KeptMethod}
use Rattle.ts_tree.specs.declared.parts.State.{State as KeptState}
use Rattle.ts_tree.specs.Typestate.{Method, State, Typestate}
use Rattle.ts_tree.specs.Calls.{by_label, offered_in, led_by, next, drops}
use Rattle.ts_tree.specs.View.{method_of, state_of}

-- the branch at i, and then those after it
pub by_label-drop : (bs : List Branch) (i : ℕ) (b : Branch) (label : Name) → i < length bs → b ≡ get_or bs i b →
    by_label (drop i bs) label ≡ (if bytes_eq b.label label then Some b.to else by_label (drop (i + 1) bs) label)
by_label-drop bs i b label h e =
    at_drop_more (λ xs. by_label xs label) bs i b h
    ∙ ap (λ (x : Branch). if bytes_eq x.label label then Some x.to else by_label (drop (i + 1) bs) label) (sym e)

-- past the last branch nothing is found
pub by_label-past : (bs : List Branch) (i : ℕ) (label : Name) → length bs ≤ i → by_label (drop i bs) label ≡ None
by_label-past bs i label h = at_drop_all (λ xs. by_label xs label) bs i h

-- the method at i, and then those after it
pub offered_in-drop : (ms : List KeptMethod) (i : ℕ) (m : KeptMethod) (name : Name) → i < length ms → m ≡ get_or ms i m →
    offered_in (map method_of (drop i ms)) name ≡ (if bytes_eq m.name name then Some (method_of m) else offered_in
    (map method_of (drop (i + 1) ms)) name)
offered_in-drop ms i m name h e =
    at_drop_more (λ xs. offered_in (map method_of xs) name) ms i m h
    ∙ ap (λ (x : KeptMethod). if bytes_eq x.name name then Some (method_of x) else offered_in (map method_of (drop (i + 1) ms)) name)
    (sym e)

-- past the last method nothing is found
pub offered_in-past : (ms : List KeptMethod) (i : ℕ) (name : Name) → length ms ≤ i → offered_in (map method_of (drop i ms)) name ≡ None
offered_in-past ms i name h = at_drop_all (λ xs. offered_in (map method_of xs) name) ms i h

pub ruleset searches = (by_label-drop, by_label-past, offered_in-drop, offered_in-past)

-- the state of this number is what the program keeps there
state_at : (t : Typestate) (named : Name) (states xs : List KeptState) (q : ℕ) (s : KeptState) →
    record { name = named; states = map state_of states } ≡ t → q < length t.states → xs ≡ states → s ≡ get_or xs q s →
    slice_get (map state_of states) q ≡ Some (state_of s)
state_at t named states xs q s view_is within all is =
    let h : q < length states = omega (arith, ap (λ (t : Typestate). length t.states) view_is, length-map states state_of) in
    let at : s ≡ get_or states q s = is ∙ ap (λ (ys : List KeptState). get_or ys q s) all in
    slice_get-map state_of states q ∙ ap (option_map state_of) (slice_get_read states (length states) q s refl h at)

-- whether the state is marked drop
pub drops_by : (t : Typestate) (named : Name) (states xs : List KeptState) (q : ℕ) (s : KeptState) →
    record { name = named; states = map state_of states } ≡ t → q < length t.states → xs ≡ states → s ≡ get_or xs q s → drops t q ≡ s.drops
drops_by t named states xs q s view_is within all is =
    ap (λ (t : Typestate). drops t q) (sym view_is)
    ∙ ap (λ (o : Option State). elim o [ None ↦ false | Some s ↦ s.drops ]) (state_at t named states xs q s view_is within all is)

-- what a call leads to is found among the methods of its state
pub next_by : (t : Typestate) (named : Name) (states xs : List KeptState) (q : ℕ) (s : KeptState) (items : List KeptMethod) (name : Name)
    (answer : Option Name) (found : Option Method) → record { name = named; states = map state_of states } ≡ t → q < length t.states →
    xs ≡ states → s ≡ get_or xs q s → items ≡ s.methods.items → offered_in (map method_of items) name ≡ found →
    next t q name answer ≡ option_and_then (λ m. led_by m.target answer) found
next_by t named states xs q s items name answer found view_is within all is these finds =
    ap (λ (t : Typestate). next t q name answer) (sym view_is)
    ∙ ap (λ (o : Option State). option_and_then (λ m. led_by m.target answer) (option_and_then (λ s. offered_in s.methods name) o))
    (state_at t named states xs q s view_is within all is)
    ∙ ap (λ (ms : List KeptMethod). option_and_then (λ m. led_by m.target answer) (offered_in (map method_of ms) name)) (sym these)
    ∙ ap (option_and_then (λ m. led_by m.target answer)) finds

-- Methods that all elements offer, by the tables of their names.
use Rattle.std.proofs.Common.{◌≡◌, ℕ, zero, suc, ◌-◌, ◌<◌, ◌≤◌, Bool, true, false, cond, ◌&&◌, List, [], ◌∷◌, ◌++◌, map, filter}
use Rattle.std.proofs.Common.{◌+◌, drop, get_or, length, Option, refl, sym, ap, ◌∙◌, arith, append_assoc}
use Rattle.std.specs.Prelude.{None, Some, slice_get, not, option_map}
use Rattle.std.specs.Borrow.{Bor}
use Rattle.std.specs.List.{list_any, list_all}
use Rattle.std.specs.Str.{bytes_eq}
use Rattle.std.proofs.lemmas.Option.{slice_get-map}
use Rattle.std.proofs.lemmas.List.{at_drop_more}
use Rattle.mg_text.specs.Call.{Name}
use Rattle.mg_text.proofs.Numbered.{list_any-map}
use Rattle.mg_sets.specs.Sets.{members}
use Rattle.ts_tree.specs.declared.parts.Method.{Method as KeptMethod}
use Rattle.ts_tree.specs.declared.parts.State.{State as KeptState}
use Rattle.ts_tree.specs.View.{method_of, state_of}
use Rattle.ts_tree.specs.Typestate.{Method, State}
use Rattle.lsp_messages.specs.declared.outgoing.Item.{Item}
use Rattle.lsp_offers.specs.Items.{methods_at, has, item_of, is_chosen, chosen, offered, items_of}
use Rattle.lsp_offers.specs.inner.Named.{names_of, tables_of, all_have, is_chosen_by, chosen_by}
use Rattle.lsp_offers.specs.inner.Seen.{seen}
use Rattle.lsp_offers.proofs.Meeting.{any_noted}

-- what elements offer

abbrev pub methods_of_state : List State → ℕ → List Method
methods_of_state states q = elim (slice_get states q) [ None ↦ [] | Some s ↦ s.methods ]

pub methods_high : (states : List State) (e : ℕ) → 3 ≤ e → methods_at states e ≡ methods_of_state states (e - 3)
methods_high states zero h = absurd (omega (arith, h))
methods_high states (suc zero) h = absurd (omega (arith, h))
methods_high states (suc (suc zero)) h = absurd (omega (arith, h))
methods_high states (suc (suc (suc q))) h = let s : q ≡ suc (suc (suc q)) - 3 = omega arith in ap (methods_of_state states) s

some_at : {X : Type 0} (xs : List X) (i : ℕ) (x : X) → i < length xs → x ≡ get_or xs i x → slice_get xs i ≡ Some x
some_at [] i x less is = absurd (omega arith)
some_at (y ∷ xs) zero x less is = ap (λ z. Some z) (sym is)
some_at (y ∷ xs) (suc i) x less is = some_at xs i x (omega arith) is

none_at : {X : Type 0} (xs : List X) (i : ℕ) → length xs ≤ i → slice_get xs i ≡ None
none_at [] i most = refl
none_at (y ∷ xs) zero most = absurd (omega arith)
none_at (y ∷ xs) (suc i) most = none_at xs i (omega arith)

module _ (kept : List KeptState) (e : ℕ) (high : 3 ≤ e) where
  methods_are : (o : Option KeptState) → slice_get kept (e - 3) ≡ o →
      methods_at (map state_of kept) e ≡ elim (option_map state_of o) [ None ↦ [] | Some x ↦ x.methods ]
  methods_are o at =
      methods_high (map state_of kept) e high
      ∙ ap (λ (s : Option State). elim s [ None ↦ [] | Some x ↦ x.methods ])
      (slice_get-map state_of kept (e - 3) ∙ ap (option_map state_of) at)

  pub some_offered : (s : KeptState) (ms : List KeptMethod) → e - 3 < length kept → s ≡ get_or kept (e - 3) s → ms ≡ s.methods.items →
      map method_of ms ≡ methods_at (map state_of kept) e
  some_offered s ms less at is = ap (map method_of) is ∙ sym (methods_are (Some s) (some_at kept (e - 3) s less at))

  pub none_offered : length kept ≤ e - 3 → [] ≡ methods_at (map state_of kept) e
  none_offered most = sym (methods_are None (none_at kept (e - 3) most))

-- names in tables

table_has : (n : Name) (ms : List Method) → list_any (bytes_eq n) (names_of ms) ≡ has n ms
table_has n ms = any_noted n [] (map (λ m. m.name) ms) ∙ list_any-map (bytes_eq n) (λ m. m.name) ms

all_same : (states : List State) (n : Name) (es : List ℕ) →
    all_have (tables_of states es) n ≡ list_all (λ e. has n (methods_at states e)) es
all_same states n [] = refl
all_same states n (e ∷ es) =
    ap (λ b. b && all_have (tables_of states es) n) (table_has n (methods_at states e))
    ∙ ap (λ b. has n (methods_at states e) && b) (all_same states n es)

filter_same : (p q : Method → Bool) → ((m : Method) → p m ≡ q m) → (ms : List Method) → filter p ms ≡ filter q ms
filter_same p q same [] = refl
filter_same p q same (m ∷ ms) =
    ap (λ (b : Bool). cond b (m ∷ filter p ms) (filter p ms)) (same m)
    ∙ ap (λ (ns : List Method). cond (q m) (m ∷ ns) ns) (filter_same p q same ms)

module _ (states : List State) (set : List Bool) where
  pub chosen_same : (always : Bool) (ms : List Method) → chosen_by (tables_of states (members set)) always ms ≡ chosen states set always ms
  chosen_same always ms =
      ap (map (item_of always)) (filter_same (is_chosen_by (tables_of states (members set)) always) (is_chosen states set always)
      (λ m. ap (λ (b : Bool). cond always b (not b)) (all_same states m.name (members set))) ms)

  -- first those that each offers, then the others
  pub both_put : (tables one two : List (List Name)) (first second : List Method) (none some last : List Item) →
      tables ≡ tables_of states (members set) → one ≡ tables → two ≡ tables → first ≡ offered states set → second ≡ offered states set →
      none ≡ [] → some ≡ none ++ chosen_by one true first → last ≡ some ++ chosen_by two false second → last ≡ items_of states set
  both_put tables one two first second none some last t o w f s n a b =
      b
      ∙ ap (λ (is : List Item). is ++ chosen_by two false second) (a ∙ ap (λ (is : List Item). is ++ chosen_by one true first) n
      ∙ ap (λ (ts : List (List Name)). chosen_by ts true first) (o ∙ t) ∙ chosen_same true first ∙ ap (chosen states set true) f)
      ∙ ap (λ (is : List Item). chosen states set true (offered states set) ++ is)
      (ap (λ (ts : List (List Name)). chosen_by ts false second) (w ∙ t) ∙ chosen_same false second ∙ ap (chosen states set false) s)

drop_at : {X : Type 0} (xs : List X) (i : ℕ) (x : X) → i < length xs → x ≡ get_or xs i x → drop i xs ≡ x ∷ drop (i + 1) xs
drop_at xs i x less is = at_drop_more (λ ys. ys) xs i x less ∙ ap (λ y. y ∷ drop (i + 1) xs) (sym is)

-- one method more that is chosen
pub chosen_step : (tables : List (List Name)) (always : Bool) (old new whole : List Item) (ms : List (Bor KeptMethod)) (i : ℕ)
    (x : Bor KeptMethod) (item : Item) → i < length ms → x ≡ get_or ms i x → true ≡ is_chosen_by tables always (method_of x.now) →
    item ≡ item_of always (method_of x.now) → new ≡ old ++ item ∷ [] →
    old ++ chosen_by tables always (seen (drop i ms)) ≡ whole → new ++ chosen_by tables always (seen (drop (i + 1) ms)) ≡ whole
chosen_step tables always old new whole ms i x item less is picked made put rest =
    let m = method_of x.now in
    let more = seen (drop (i + 1) ms) in
    ap (λ (is : List Item). is ++ chosen_by tables always more) put
    ∙ append_assoc old (item ∷ []) (chosen_by tables always more)
    ∙ ap (λ (j : Item). old ++ (j ∷ chosen_by tables always more)) made
    ∙ ap (λ (b : Bool). old ++ map (item_of always) (cond b (m ∷ filter (is_chosen_by tables always) more)
    (filter (is_chosen_by tables always) more))) picked
    ∙ sym (ap (λ (ys : List (Bor KeptMethod)). old ++ chosen_by tables always (seen ys)) (drop_at ms i x less is))
    ∙ rest

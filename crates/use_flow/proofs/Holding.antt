-- Tables with a set for each key that has a class, each as it starts.
use Rattle.std.proofs.Common.{◌≡◌, ℕ, zero, suc, ◌+◌, ◌<◌, ◌≤◌, ◌≢◌, Bool, true, false, cond, not, ◌&&◌, ◌||◌, List, [], ◌∷◌, ◌++◌, map}
use Rattle.std.proofs.Common.{length, get_or, Option, Some, None, slice_get, position, inl, inr, ⊎_elim, refl, sym, ap, ◌∙◌, subst, arith}
use Rattle.std.proofs.Common.{true≢false}
use Rattle.std.specs.Prelude.{Contains, nat_eq, slice_set}
use Rattle.std.specs.List.{AllByRecursion, list_any, position_or_len}
use Rattle.std.proofs.lemmas.Bool.{false≢true, eq-eqb, lt-ltb}
use Rattle.std.proofs.lemmas.Option.{none-some, same_Some, slice_get-get_or}
use Rattle.std.proofs.lemmas.List.{get_or-map, map_push, length-map}
use Rattle.std.proofs.lemmas.List.Elements.{Contains-append_left, Contains-push}
use Rattle.std.proofs.lemmas.List.Quantifiers.{position-Some}
use Rattle.ts_tree.specs.declared.parts.To.TheVariants as tos
use Rattle.jv_core.specs.Tree.{Program}
use Rattle.use_flow.specs.declared.classed.Entry.{Entry}
use Rattle.use_flow.specs.declared.held.Tables as held
use Rattle.use_rules.specs.declared.key.Context.{Context}
use Rattle.use_rules.specs.declared.key.TableKey.{TableKey}
use Rattle.use_rules.specs.declared.key.TableKey.TheVariants as keys
use Rattle.use_rules.specs.Elements.{Set, none}
use Rattle.use_rules.specs.Keys.{AreReached, contexts_in}
use Rattle.use_rules.specs.Shapes.{class_at}
use Rattle.use_rules.specs.Start.{starting, start_in, start_of}
use Rattle.use_flow.specs.View.{same_key, numbered, reached_of, contexts_of, tables_of, AreFor}
use Rattle.use_rules.specs.Keys.{AreProper}
use Rattle.use_flow.specs.inner.Holding.{AreApart, WithEntry, AreHeld}
use Rattle.use_flow.specs.inner.Listing.{entries_in}
use Rattle.use_flow.proofs.Apart.{contexts_apart}
use Rattle.use_flow.proofs.Entries.{last_or_before}
use Rattle.use_flow.proofs.Grown.{same-true}
use Rattle.use_flow.proofs.Keyed.{key_eq}
use Rattle.use_flow.proofs.Listing.{every_at, in_list, sound, Sound}

-- How a set starts.

pub starts_first : (b q w : ℕ) → b ≡ 0 → q ≡ 0 → slice_set (none w) 0 true ≡ starting (tos.State b) q w
starts_first zero zero w e h = refl
starts_first zero (suc q) w e h = let no : ⊥ = omega (arith, h) in absurd no
starts_first (suc b) q w e h = let no : ⊥ = omega (arith, e) in absurd no

pub starts_apart : (b q w : ℕ) → b ≢ 0 → none w ≡ starting (tos.State b) q w
starts_apart zero q w e = absurd (e refl)
starts_apart (suc b) q w e = refl

pub starts_later : (b q w : ℕ) → q ≢ 0 → none w ≡ starting (tos.State b) q w
starts_later zero zero w e = absurd (e refl)
starts_later zero (suc q) w e = refl
starts_later (suc b) q w e = refl

pub ruleset starts = (starts_first, starts_apart, starts_later)

-- One table more.

key_same : (x : TableKey) (y : TableKey) → key_eq x y ≡ true → x ≡ y
key_same x y h = same-true x y (sym (same_key_eq x y) ∙ h)
  where
    same_key_eq : (x y : TableKey) → key_eq x y ≡ same_key x y
    same_key_eq (keys.Field c q f) (keys.Field d r g) = refl
    same_key_eq (keys.Param c i) (keys.Param d j) = refl
    same_key_eq (keys.Result c) (keys.Result d) = refl
    same_key_eq (keys.Enter m f) (keys.Enter n g) = refl
    same_key_eq (keys.Leave m f) (keys.Leave n g) = refl
    same_key_eq (keys.Loop c l k) (keys.Loop d m j) = refl
    same_key_eq _ _ = refl

among_next : (key k : TableKey) (ks : List TableKey) (b : Bool) → key_eq key k ≡ b → (list_any (key_eq key) ks ≡ true → Contains ks key) →
    (b || list_any (key_eq key) ks) ≡ true → Contains (k ∷ ks) key
among_next key k ks true e f h = (0, omega arith, sym (key_same key k e))
among_next key k ks false e f h = let r = f h in (suc r.0, (let lt = r.1 in omega (arith, lt)), r.2)

among : (key : TableKey) (ks : List TableKey) → list_any (key_eq key) ks ≡ true → Contains ks key
among key [] h = absurd (false≢true h)
among key (k ∷ ks) h = among_next key k ks (key_eq key k) refl (among key ks) h

pub was_held : (p : Program) (e : Entry) (ks ks' : List TableKey) (ss ss' : List Set) (new : Bool) → new ≡ not (list_any (key_eq e.key) ks)
    → new ≡ false →
    ks' ≡ cond (list_any (key_eq e.key) ks) ks (ks ++ e.key ∷ []) → ss' ≡ ss → WithEntry p e ks ss ks' ss'
was_held p e ks ks' ss ss' new is old at same = go (list_any (key_eq e.key) ks) refl
  where
    go : (b : Bool) → list_any (key_eq e.key) ks ≡ b → WithEntry p e ks ss ks' ss'
    go true h = inl (among e.key ks h, at ∙ ap (λ b. cond b ks (ks ++ e.key ∷ [])) h, same)
    go false h = absurd (true≢false (sym (is ∙ ap not h) ∙ old))

pub is_held : (p : Program) (e : Entry) (ks ks' : List TableKey) (ss ss' : List Set) (s : Set) (new : Bool) →
    new ≡ not (list_any (key_eq e.key) ks) → new ≡ true →
    ks' ≡ cond (list_any (key_eq e.key) ks) ks (ks ++ e.key ∷ []) → s ≡ start_in p e.key e.class → ss' ≡ ss ++ s ∷ [] →
    WithEntry p e ks ss ks' ss'
is_held p e ks ks' ss ss' s new is fresh at start more = go (list_any (key_eq e.key) ks) refl
  where
    go : (b : Bool) → list_any (key_eq e.key) ks ≡ b → WithEntry p e ks ss ks' ss'
    go true h = absurd (false≢true (sym (is ∙ ap not h) ∙ fresh))
    go false h = inr (at ∙ ap (λ b. cond b ks (ks ++ e.key ∷ [])) h, more ∙ ap (λ x. ss ++ x ∷ []) start)

pub ruleset holding = (was_held, is_held)

-- Table by table.

pub none_held : (p : Program) (entries : List Entry) (ks : List TableKey) (ss : List Set) → ks ≡ [] → ss ≡ [] → AreHeld p entries 0 ks ss
none_held p entries ks ss a b = record {
  starts = λ start all. b ∙ ap (map start) (sym a);
  has = λ n e lt at. (let no : ⊥ = omega (arith, lt) in absurd no);
}

one_held : (p : Program) (entries : List Entry) (i : ℕ) (e : Entry) (ks ks' : List TableKey) (ss ss' : List Set) →
    slice_get entries i ≡ Some e →
    WithEntry p e ks ss ks' ss' → AreHeld p entries i ks ss → AreHeld p entries (i + 1) ks' ss'
one_held p entries i e ks ks' ss ss' here w h = record {
  starts = λ start all. ⊎_elim
      (λ old. old.2 ∙ h.starts start all ∙ ap (map start) (sym old.1))
      (λ new. new.1 ∙ ap (λ s. s ++ start_in p e.key e.class ∷ []) (h.starts start all)
      ∙ ap (λ x. map start ks ++ x ∷ []) (every_at (λ e. start_in p e.key e.class ≡ start e.key) entries i e all here)
      ∙ sym (map_push start ks e.key) ∙ ap (map start) (sym new.0))
      w;
  has = λ n x below there. ⊎_elim (λ l. kept x.key (h.has n x l there)) (λ same.
      subst (λ y. Contains ks' y.key) (same_Some e x (sym here ∙ ap (slice_get entries) (sym same) ∙ there)) added)
      (last_or_before n i below);
}
  where
    kept : (key : TableKey) → Contains ks key → Contains ks' key
    kept key c = ⊎_elim (λ old. subst (λ y. Contains y key) (sym old.1) c)
        (λ new. subst (λ y. Contains y key) (sym new.0) (Contains-append_left ks (e.key ∷ []) key c)) w

    added : Contains ks' e.key
    added = ⊎_elim (λ old. subst (λ y. Contains y e.key) (sym old.1) old.0) (λ new. subst (λ y. Contains y e.key) (sym new.0)
        (Contains-push ks e.key)) w

pub more_held : (p : Program) (entries : List Entry) (i : ℕ) (d : Entry) (ks ks' : List TableKey) (ss ss' : List Set) → i < length entries →
    WithEntry p (get_or entries i d) ks ss ks' ss' → AreHeld p entries i ks ss → AreHeld p entries (i + 1) ks' ss'
more_held p entries i d ks ks' ss ss' lt w h = one_held p entries i (get_or entries i d) ks ks' ss ss' (slice_get-get_or entries i d lt) w h

pub all_held : (p : Program) (entries : List Entry) (i : ℕ) (ks : List TableKey) (ss : List Set) → length entries ≤ i →
    AreHeld p entries i ks ss →
    AreHeld p entries (length entries) ks ss
all_held p entries i ks ss le h = record { starts = h.starts; has = λ n e lt at. h.has n e (omega (arith, lt, le)) at }

pub ruleset filling = (none_held, all_held)

-- What the tables of a program have.

same_refl : (key : TableKey) → same_key key key ≡ true
same_refl (keys.Field c q f) = three c q f
  where
    three : (a b c : ℕ) → (nat_eq a a && (nat_eq b b && nat_eq c c)) ≡ true
    three a b c = ap (λ x. x && (nat_eq b b && nat_eq c c)) (eq-eqb a a refl) ∙ ap (λ x. x && nat_eq c c) (eq-eqb b b refl) ∙
        eq-eqb c c refl
same_refl (keys.Param c i) = ap (λ x. x && nat_eq i i) (eq-eqb c c refl) ∙ eq-eqb i i refl
same_refl (keys.Result c) = eq-eqb c c refl
same_refl (keys.Enter m f) = ap (λ x. x && nat_eq f f) (eq-eqb m m refl) ∙ eq-eqb f f refl
same_refl (keys.Leave m f) = ap (λ x. x && nat_eq f f) (eq-eqb m m refl) ∙ eq-eqb f f refl
same_refl (keys.Loop c l k) =
    ap (λ x. x && (nat_eq l l && nat_eq k k)) (eq-eqb c c refl) ∙ ap (λ x. x && nat_eq k k) (eq-eqb l l refl) ∙ eq-eqb k k refl

bounded : (b : Bool) (n m : ℕ) → n < m → cond (not b) (1 + n) 0 < suc m
bounded true n m lt = omega arith
bounded false n m lt = omega (arith, lt)

found_within : (key : TableKey) (ks : List TableKey) (i : ℕ) → i < length ks → get_or ks i key ≡ key →
    position_or_len (same_key key) ks < length ks
found_within key [] i lt e = let no : ⊥ = omega (arith, lt) in absurd no
found_within key (k ∷ ks) zero lt e =
    subst (λ n. n < length (k ∷ ks))
    (sym (ap (λ b. cond (not b) (1 + position_or_len (same_key key) ks) 0) (ap (same_key key) e ∙ same_refl key))) (omega arith)
found_within key (k ∷ ks) (suc i) lt e = bounded (same_key key k) (position_or_len (same_key key) ks) (length ks)
    (found_within key ks i (omega (arith, lt)) e)

-- the number of a key that there is
record Numbered (ks : List TableKey) (key : TableKey) : Type 0 where
  number : ℕ
  at : position (same_key key) ks ≡ Some number
  within : number < length ks

numbered_key : (ks : List TableKey) (key : TableKey) → Contains ks key → Numbered ks key
numbered_key ks key c = let lt = found_within key ks c.0 c.1 c.2 in record {
  number = position_or_len (same_key key) ks;
  at = ap (λ b. cond b (Some (position_or_len (same_key key) ks)) None) (lt-ltb (position_or_len (same_key key) ks) (length ks) lt);
  within = lt;
}

module _ (p : Program) (ks : List TableKey) (ss : List Set) (r : List (List Bool))
    (h : AreHeld p (entries_in p (contexts_in p r)) (length (entries_in p (contexts_in p r))) ks ss) where
  start_known : (key : TableKey) (class : ℕ) → class_at p r key ≡ Some class → start_in p key class ≡ start_of p r key
  start_known key class e = sym (ap (λ o. elim o as (λ _. Set) [ None ↦ [] | Some d ↦ start_in p key d ]) e)

  every_start : (entries : List Entry) → AllByRecursion (Sound p r) entries →
      AllByRecursion (λ e. start_in p e.key e.class ≡ start_of p r e.key) entries
  every_start [] a = tt
  every_start (e ∷ entries) a = (start_known e.key e.class a.0, every_start entries a.1)

  sets_are : ss ≡ map (start_of p r) ks
  sets_are = h.starts (start_of p r) (every_start (entries_in p (contexts_in p r)) (sound p r))

  as_many : length ss ≡ length ks
  as_many = ap length sets_are ∙ length-map ks (start_of p r)

  key_there : (key : TableKey) (class : ℕ) → class_at p r key ≡ Some class → Contains ks key
  key_there key class e =
      let c = in_list p r key class e in
      h.has c.0 (record { key = key; class = class }) c.1
      (slice_get-get_or (entries_in p (contexts_in p r)) c.0 (record { key = key; class = class }) c.1 ∙ ap Some c.2)

  pub start_at : (key : TableKey) → numbered ss (position (same_key key) ks) ≡ start_of p r key
  start_at key = go (position (same_key key) ks) refl
    where
      absent : (o : Option ℕ) → position (same_key key) ks ≡ None → class_at p r key ≡ o →
          [] ≡ elim o as (λ _. Set) [ None ↦ [] | Some d ↦ start_in p key d ]
      absent None gone e = refl
      absent (Some class) gone e = let n = numbered_key ks key (key_there key class e) in absurd (none-some n.number (sym gone ∙ n.at))

      go : (o : Option ℕ) → position (same_key key) ks ≡ o → numbered ss o ≡ start_of p r key
      go None e = absent (class_at p r key) e refl
      go (Some n) e =
          let at = position-Some (same_key key) ks n key e in
          ap (λ s. get_or s n []) sets_are ∙ get_or-map (start_of p r) ks n key [] at.0
          ∙ ap (start_of p r) (sym (same-true key (get_or ks n key) at.1))

module _ (p : Program) (r : List (List Bool)) (cs : List Context) (entries : List Entry) (t : held.Tables) (listed : cs ≡ contexts_in p r)
    (made : entries ≡ entries_in p cs) (reached : reached_of t ≡ r) (h : AreHeld p entries (length entries) t.keys.keys t.sets.items) where
  whole : AreHeld p (entries_in p (contexts_in p (reached_of t))) (length (entries_in p (contexts_in p (reached_of t)))) t.keys.keys
      t.sets.items
  whole = subst (λ es. AreHeld p es (length es) t.keys.keys t.sets.items)
      (made ∙ ap (entries_in p) (listed ∙ ap (contexts_in p) (sym reached))) h

  pub tables_start : (key : TableKey) → tables_of t key ≡ start_of p (reached_of t) key
  tables_start key = start_at p t.keys.keys t.sets.items (reached_of t) whole key

  pub tables_made : (numbers : List Context) → AreProper p → AreReached p r → (AreApart cs → numbers ≡ cs) → contexts_of t ≡ numbers →
      AreFor p t
  tables_made numbers proper are all same = record {
    proper = proper;
    reached = subst (AreReached p) (sym reached) are;
    contexts = same ∙ all (subst AreApart (sym listed) (contexts_apart p r)) ∙ listed ∙ ap (contexts_in p) (sym reached);
    has = λ key class e.
        let n = numbered_key t.keys.keys key (key_there p t.keys.keys t.sets.items (reached_of t) whole key class e) in
        record {
          number = n.number;
          at = n.at;
          within =
              subst (λ m. n.number < m) (sym (as_many p t.keys.keys t.sets.items (reached_of t) whole)) n.within;
        };
  }

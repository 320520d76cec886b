-- The readers of a table are the contexts that read it.
use Rattle.std.proofs.Common.{◌≡◌, ℕ, zero, suc, ◌+◌, ◌<◌, Bool, List, [], ◌∷◌, ◌++◌, length, get_or, replicate, position, Option, Some}
use Rattle.std.proofs.Common.{None, slice_get, refl, sym, ap, subst, ◌∙◌, arith, inl, inr, ⊎_elim, ◌⊎◌, length-set}
use Rattle.std.proofs.lemmas.Bool.{cases_eq, cases_lt}
use Rattle.std.proofs.lemmas.List.{get_or-set_other, get_or-set_same, get_or_past}
use Rattle.std.proofs.lemmas.List.Quantifiers.{position-Some}
use Rattle.jv_core.specs.Tree.{Program}
use Rattle.use_rules.specs.declared.key.Context.{Context}
use Rattle.use_rules.specs.declared.key.TableKey.{TableKey}
use Rattle.use_rules.specs.inner.Order.{Mem}
use Rattle.use_rules.specs.Reads.{reads}
use Rattle.use_rules.proofs.Members.{mem_left, mem_right}
use Rattle.use_flow.specs.View.{same_key}
use Rattle.use_flow.proofs.Grown.{same-true}
use Rattle.use_infer.specs.inner.Readers.{list_at, with_reader, with_one, noted, gathered, all_readers, readers_at}

none_some : {A : Type 0} (x : A) → None ≡ Some x → ⊥
none_some x h = cc

some_is : {A : Type 0} (x y : A) → Some x ≡ Some y → x ≡ y
some_is x y h = cc

mem_cases : {A : Type 0} (x : A) (a b : List A) → Mem x (a ++ b) → Mem x a ⊎ Mem x b
mem_cases x [] b m = inr m
mem_cases x (y ∷ a) b m = ⊎_elim (λ e. inl (inl e)) (λ i. ⊎_elim (λ l. inl (inr l)) inr (mem_cases x a b i)) m

-- keys of one number are one
key_one : (ks : List TableKey) (k key : TableKey) (n : ℕ) → position (same_key key) ks ≡ Some n → position (same_key k) ks ≡ Some n →
    k ≡ key
key_one ks k key n a b =
    let x = position-Some (same_key key) ks n key a in
    let y = position-Some (same_key k) ks n key b in
    same-true k (get_or ks n key) y.1 ∙ sym (same-true key (get_or ks n key) x.1)

-- One more reader of one key.

with_length : (n i : ℕ) (ls : List (List ℕ)) → length (with_reader n i ls) ≡ length ls
with_length n i ls = length-set ls n (list_at ls n ++ i ∷ [])

one_length : (i : ℕ) (v : Option ℕ) (ls : List (List ℕ)) → length (with_one i v ls) ≡ length ls
one_length i None ls = refl
one_length i (Some n) ls = with_length n i ls

with_cases : (n i : ℕ) (ls : List (List ℕ)) (m j : ℕ) → Mem j (list_at (with_reader n i ls) m) → Mem j (list_at ls m) ⊎ ((n ≡ m) × (j ≡ i))
with_cases n i ls m j h = ⊎_elim (λ e. same e h) (λ ne. inl (subst (Mem j) (get_or-set_other ls n m _ [] ne) h)) (cases_eq m n)
  where
    at : (k : ℕ) → m ≡ k → k ≡ n → Mem j (list_at ls n ++ i ∷ []) → Mem j (list_at ls m) ⊎ ((n ≡ m) × (j ≡ i))
    at k e f g = ⊎_elim (λ l. inl (subst (λ x. Mem j (list_at ls x)) (sym (e ∙ f)) l)) (λ r. ⊎_elim (λ (q : j ≡ i). inr (sym (e ∙ f), q))
        absurd r) (mem_cases j (list_at ls n) (i ∷ []) g)

    same : m ≡ n → Mem j (list_at (with_reader n i ls) m) → Mem j (list_at ls m) ⊎ ((n ≡ m) × (j ≡ i))
    same e g = ⊎_elim
        (λ lt. at n e refl (subst (Mem j) (get_or-set_same ls n _ [] lt) (subst (λ x. Mem j (list_at (with_reader n i ls) x)) e g)))
        (λ past. absurd (subst (Mem j)
        (get_or_past (with_reader n i ls) m [] (let w : length (with_reader n i ls) ≡ length ls = with_length n i ls in omega
        (arith, w, past, e))) g))
        (cases_lt n (length ls))

with_keeps : (n i : ℕ) (ls : List (List ℕ)) (m j : ℕ) → Mem j (list_at ls m) → Mem j (list_at (with_reader n i ls) m)
with_keeps n i ls m j h = ⊎_elim (λ e. same e) (λ ne. subst (Mem j) (sym (get_or-set_other ls n m _ [] ne)) h) (cases_eq m n)
  where
    same : m ≡ n → Mem j (list_at (with_reader n i ls) m)
    same e = ⊎_elim
        (λ lt. subst (λ x. Mem j (list_at (with_reader n i ls) x)) (sym e) (subst (Mem j) (sym (get_or-set_same ls n _ [] lt))
        (mem_left j (list_at ls n) (i ∷ []) (subst (λ x. Mem j (list_at ls x)) e h))))
        (λ past. absurd (subst (Mem j) (get_or_past ls m [] (omega (arith, past, e))) h))
        (cases_lt n (length ls))

with_new : (n i : ℕ) (ls : List (List ℕ)) → n < length ls → Mem i (list_at (with_reader n i ls) n)
with_new n i ls lt = subst (Mem i) (sym (get_or-set_same ls n _ [] lt)) (mem_right i (list_at ls n) (i ∷ []) (inl refl))

one_cases : (i : ℕ) (v : Option ℕ) (ls : List (List ℕ)) (m j : ℕ) → Mem j (list_at (with_one i v ls) m) → Mem j (list_at ls m)
    ⊎ ((v ≡ Some m) × (j ≡ i))
one_cases i None ls m j h = inl h
one_cases i (Some n) ls m j h = ⊎_elim inl (λ e. inr (ap Some e.0, e.1)) (with_cases n i ls m j h)

one_keeps : (i : ℕ) (v : Option ℕ) (ls : List (List ℕ)) (m j : ℕ) → Mem j (list_at ls m) → Mem j (list_at (with_one i v ls) m)
one_keeps i None ls m j h = h
one_keeps i (Some n) ls m j h = with_keeps n i ls m j h

one_new : (i : ℕ) (v : Option ℕ) (ls : List (List ℕ)) (m : ℕ) → v ≡ Some m → m < length ls → Mem i (list_at (with_one i v ls) m)
one_new i None ls m e lt = absurd (none_some m e)
one_new i (Some n) ls m e lt = subst (λ k. Mem i (list_at (with_reader n i ls) k)) (some_is n m e)
    (with_new n i ls (let f : n ≡ m = some_is n m e in omega (arith, f, lt)))

-- One more reader of some keys.

module _ (ks : List TableKey) where
  record OfSome (rs : List TableKey) (m : ℕ) : Type 0 where
    pub key : TableKey
    pub is_in : Mem key rs
    pub at : position (same_key key) ks ≡ Some m

  noted_length : (i : ℕ) (rs : List TableKey) (ls : List (List ℕ)) → length (noted ks i rs ls) ≡ length ls
  noted_length i [] ls = refl
  noted_length i (r ∷ rs) ls = noted_length i rs _ ∙ one_length i (position (same_key r) ks) ls

  noted_cases : (i : ℕ) (rs : List TableKey) (ls : List (List ℕ)) (m j : ℕ) → Mem j (list_at (noted ks i rs ls) m) → Mem j (list_at ls m)
      ⊎ ((j ≡ i) × OfSome rs m)
  noted_cases i [] ls m j h = inl h
  noted_cases i (r ∷ rs) ls m j h = ⊎_elim
      (λ l. ⊎_elim inl (λ e. inr (e.1, record { key = r; is_in = inl refl; at = e.0 })) (one_cases i (position (same_key r) ks) ls m j l))
      (λ e. inr (e.0, record { key = (e.1).key; is_in = inr (e.1).is_in; at = (e.1).at }))
      (noted_cases i rs (with_one i (position (same_key r) ks) ls) m j h)

  noted_keeps : (i : ℕ) (rs : List TableKey) (ls : List (List ℕ)) (m j : ℕ) → Mem j (list_at ls m) → Mem j (list_at (noted ks i rs ls) m)
  noted_keeps i [] ls m j h = h
  noted_keeps i (r ∷ rs) ls m j h = noted_keeps i rs _ m j (one_keeps i (position (same_key r) ks) ls m j h)

  noted_new : (i : ℕ) (rs : List TableKey) (ls : List (List ℕ)) (m : ℕ) (key : TableKey) → Mem key rs → position (same_key key) ks ≡ Some m
      → m < length ls → Mem i (list_at (noted ks i rs ls) m)
  noted_new i [] ls m key h at lt = absurd h
  noted_new i (r ∷ rs) ls m key h at lt =
      let w : length (with_one i (position (same_key r) ks) ls) ≡ length ls = one_length i (position (same_key r) ks) ls in
      ⊎_elim
      (λ (e : key ≡ r). noted_keeps i rs _ m i (one_new i (position (same_key r) ks) ls m (ap (λ x. position (same_key x) ks) (sym e) ∙ at)
      lt))
      (λ g. noted_new i rs _ m key g at (omega (arith, w, lt)))
      h

module _ (p : Program) (reached : List (List Bool)) (ks : List TableKey) where
  abbrev Keys : Context → List TableKey
  Keys c = reads p reached c

  record Reads (i : ℕ) (cs : List Context) (m j : ℕ) : Type 0 where
    pub place : ℕ
    pub is : j ≡ i + place
    pub context : Context
    pub there : slice_get cs place ≡ Some context
    pub of : OfSome ks (Keys context) m

  gathered_cases : (i : ℕ) (cs : List Context) (ls : List (List ℕ)) (m j : ℕ) → Mem j (list_at (gathered p reached ks i cs ls) m) →
      Mem j (list_at ls m) ⊎ Reads i cs m j
  gathered_cases i [] ls m j h = inl h
  gathered_cases i (c ∷ cs) ls m j h = ⊎_elim
      (λ l. ⊎_elim inl (λ e. inr (record {
        place = 0;
        is = (let f : j ≡ i = e.0 in omega (arith, f));
        context = c;
        there = refl;
        of =
            e.1;
      })) (noted_cases ks i (Keys c) ls m j l))
      (λ r. inr (record {
        place = suc r.place;
        is = (let f : j ≡ suc i + r.place = r.is in omega (arith, f));
        context = r.context;
        there =
            r.there;
        of = r.of;
      }))
      (gathered_cases (suc i) cs (noted ks i (Keys c) ls) m j h)

  gathered_keeps : (i : ℕ) (cs : List Context) (ls : List (List ℕ)) (m j : ℕ) → Mem j (list_at ls m) →
      Mem j (list_at (gathered p reached ks i cs ls) m)
  gathered_keeps i [] ls m j h = h
  gathered_keeps i (c ∷ cs) ls m j h = gathered_keeps (suc i) cs _ m j (noted_keeps ks i (Keys c) ls m j h)

  gathered_new : (i : ℕ) (cs : List Context) (ls : List (List ℕ)) (m j : ℕ) (c : Context) (key : TableKey) → slice_get cs j ≡ Some c →
      Mem key (Keys c) → position (same_key key) ks ≡ Some m → m < length ls →
      Mem (i + j) (list_at (gathered p reached ks i cs ls) m)
  gathered_new i [] ls m j c key there h at lt = absurd (none_some c there)
  gathered_new i (x ∷ cs) ls m zero c key there h at lt =
      let k : Mem key (Keys x) = subst (λ y. Mem key (Keys y)) (sym (some_is x c there)) h in
      subst (λ n. Mem n (list_at (gathered p reached ks i (x ∷ cs) ls) m)) (omega arith)
      (gathered_keeps (suc i) cs _ m i (noted_new ks i (Keys x) ls m key k at lt))
  gathered_new i (x ∷ cs) ls m (suc j) c key there h at lt =
      let w : length (noted ks i (Keys x) ls) ≡ length ls = noted_length ks i (Keys x) ls in
      subst (λ n. Mem n (list_at (gathered p reached ks i (x ∷ cs) ls) m)) (omega arith)
      (gathered_new (suc i) cs _ m j c key there h at (omega (arith, w, lt)))

  blank_length : (n : ℕ) → length {A = List ℕ} (replicate n []) ≡ n
  blank_length zero = refl
  blank_length (suc n) = ap suc (blank_length n)

  blank_none : (n m j : ℕ) → Mem j (list_at (replicate n []) m) → ⊥
  blank_none zero m j h = h
  blank_none (suc n) zero j h = h
  blank_none (suc n) (suc m) j h = blank_none n m j h

  -- those that read a table are its readers
  pub complete : (count : ℕ) (cs : List Context) (j m : ℕ) (c : Context) (key : TableKey) → slice_get cs j ≡ Some c → Mem key (Keys c) →
      position (same_key key) ks ≡ Some m → m < count →
      Mem j (readers_at ks (all_readers p reached ks count cs) key)
  complete count cs j m c key there h at lt =
      subst (λ (v : Option ℕ). Mem j (elim v as (λ _. List ℕ) [ None ↦ [] | Some n ↦ list_at (all_readers p reached ks count cs) n ]))
      (sym at)
      (subst (λ n. Mem n (list_at (all_readers p reached ks count cs) m)) (omega arith)
      (gathered_new 0 cs (replicate count []) m j c key there h at
      (let w : length {A = List ℕ} (replicate count []) ≡ count = blank_length count in omega (arith, w, lt))))

  -- and its readers read it
  pub sound : (count : ℕ) (cs : List Context) (j : ℕ) (c : Context) (key : TableKey) → slice_get cs j ≡ Some c →
      Mem j (readers_at ks (all_readers p reached ks count cs) key) → Mem key (Keys c)
  sound count cs j c key there h = go (position (same_key key) ks) refl h
    where
      go : (v : Option ℕ) → position (same_key key) ks ≡ v →
          Mem j (elim v as (λ _. List ℕ) [ None ↦ [] | Some n ↦ list_at (all_readers p reached ks count cs) n ]) → Mem key (Keys c)
      go None e i = absurd i
      go (Some m) e i = ⊎_elim
          (λ b. absurd (blank_none count m j b))
          (λ r.
          let f : r.place ≡ j = (let g : j ≡ 0 + r.place = r.is in omega (arith, g)) in
          let one : r.context ≡ c = some_is r.context c (sym r.there ∙ ap (slice_get cs) f ∙ there) in
          subst (λ y. Mem key (Keys y)) one (subst (λ y. Mem y (Keys r.context)) (key_one ks (r.of).key key m e (r.of).at) (r.of).is_in))
          (gathered_cases 0 cs (replicate count []) m j i)

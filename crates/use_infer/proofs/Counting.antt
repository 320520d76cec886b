-- Key by key, or context by context: the widths of what contexts read.
use Rattle.std.proofs.Common.{◌≡◌, ◌⊎◌, ℕ, suc, ◌+◌, ◌*◌, ◌<◌, ◌≤◌, Bool, true, false, ◌||◌, List, [], ◌∷◌, refl, sym, ap, subst, ◌∙◌}
use Rattle.std.proofs.Common.{arith, inl, inr, ⊎_elim}
use Rattle.std.specs.Prelude.{nat_eq, if◌then◌else◌}
use Rattle.std.specs.List.{list_any}
use Rattle.std.proofs.lemmas.Bool.{false≢true}
use Rattle.std.proofs.lemmas.Bool.Decides.{nat_tests}
use Rattle.jv_core.specs.Tree.{Program}
use Rattle.use_rules.specs.declared.key.Context.{Context}
use Rattle.use_rules.specs.declared.key.TableKey.{TableKey}
use Rattle.use_rules.specs.declared.key.TableKey.TheVariants as keys
use Rattle.use_rules.specs.Reads.{reads, Precedes, AreRising}
use Rattle.use_rules.specs.inner.Order.{Mem}
use Rattle.use_rules.proofs.Members.{mem_left, mem_right}
use Rattle.use_rules.proofs.Rising.{reads_rising}
use Rattle.use_flow.specs.View.{same_key}
use Rattle.use_flow.proofs.Grown.{same-true}
use Rattle.use_infer.specs.Bound.{once, width_at, readers, keys_read, costs}
use Rattle.use_infer.specs.inner.Widths.{widths, widths_read}

nat_self : (n : ℕ) → nat_eq n n ≡ true
nat_self n = grind (arith, nat_tests)

key_self : (k : TableKey) → same_key k k ≡ true
key_self (keys.Field c q f) = rw (nat_self c, nat_self q, nat_self f) refl
key_self (keys.Param c i) = rw (nat_self c, nat_self i) refl
key_self (keys.Result c) = nat_self c
key_self (keys.Enter m f) = rw (nat_self m, nat_self f) refl
key_self (keys.Leave m f) = rw (nat_self m, nat_self f) refl
key_self (keys.Loop c l k) = rw (nat_self c, nat_self l, nat_self k) refl

or_right : (a b : Bool) → b ≡ true → (a || b) ≡ true
or_right true b h = refl
or_right false b h = h

of_any : (k : TableKey) (ks : List TableKey) → list_any (same_key k) ks ≡ true → Mem k ks
of_any k [] h = absurd (false≢true h)
of_any k (x ∷ ks) h = go (same_key k x) refl (of_any k ks) h
  where
    go : (b : Bool) → same_key k x ≡ b → (list_any (same_key k) ks ≡ true → Mem k ks) → (b || list_any (same_key k) ks) ≡ true →
        Mem k (x ∷ ks)
    go true e rest g = inl (same-true k x e)
    go false e rest g = inr (rest g)

-- what stands in a list stands in it once
pub once_has : (ks : List TableKey) (k : TableKey) → Mem k ks → Mem k (once ks)
once_has [] k h = h
once_has (x ∷ ks) k h = go (list_any (same_key x) ks) refl (once_has ks k)
  where
    go : (b : Bool) → list_any (same_key x) ks ≡ b → (Mem k ks → Mem k (once ks)) → Mem k (if b then once ks else x ∷ once ks)
    go true e rest = ⊎_elim (λ (i : k ≡ x). rest (subst (λ y. Mem y ks) (sym i) (of_any x ks e))) rest h
    go false e rest = ⊎_elim (λ (i : k ≡ x). inl i) (λ i. inr (rest i)) h

-- no key stands before itself
before_self : (k : TableKey) → Precedes k k → ⊥
before_self (keys.Field c q f) h = ⊎_elim (λ (a : c < c). omega (arith, a))
    (λ r. ⊎_elim (λ (a : q < q). omega (arith, a)) (λ s. let a : f < f = s.1 in omega (arith, a)) r.1) h
before_self (keys.Param c i) h = ⊎_elim (λ (a : c < c). omega (arith, a)) (λ r. let a : i < i = r.1 in omega (arith, a)) h
before_self (keys.Result c) h = omega (arith, h)
before_self (keys.Enter m f) h = ⊎_elim (λ (a : m < m). omega (arith, a)) (λ r. let a : f < f = r.1 in omega (arith, a)) h
before_self (keys.Leave m f) h = ⊎_elim (λ (a : m < m). omega (arith, a)) (λ r. let a : f < f = r.1 in omega (arith, a)) h
before_self (keys.Loop c l k) h = ⊎_elim (λ (a : c < c). omega (arith, a))
    (λ r. ⊎_elim (λ (a : l < l). omega (arith, a)) (λ s. let a : k < k = s.1 in omega (arith, a)) r.1) h

times_more : (w n : ℕ) → w * suc n ≡ w + w * n
times_more w n = grind arith

module _ (p : Program) (reached : List (List Bool)) where
  abbrev width : TableKey → ℕ
  width k = width_at p reached k

  abbrev if_width : Bool → TableKey → ℕ
  if_width b k = if b then width k else 0

  -- the widths of those of some keys that a context reads
  abbrev share : List TableKey → List TableKey → ℕ
  share rs [] = 0
  share rs (k ∷ ks) = if_width (list_any (same_key k) rs) k + share rs ks

  -- the width of one key, as often as it stands there
  abbrev alone : TableKey → List TableKey → ℕ
  alone r [] = 0
  alone r (k ∷ ks) = if_width (same_key k r) k + alone r ks

  alone_there : (r : TableKey) (ks : List TableKey) → Mem r ks → width r ≤ alone r ks
  alone_there r [] h = absurd h
  alone_there r (k ∷ ks) h = ⊎_elim
      (λ (e : r ≡ k).
      let a : if_width (same_key k r) k ≡ width k = ap (λ b. if_width b k) (ap (same_key k) e ∙ key_self k) in
      let b : width r ≡ width k = ap width e in omega (arith, a, b))
      (λ i. let a : width r ≤ alone r ks = alone_there r ks i in omega (arith, a))
      h

  one_of_both : (a b : Bool) (k : TableKey) → (a ≡ true → b ≡ true → ⊥) → if_width a k + if_width b k ≤ if_width (a || b) k
  one_of_both true true k h = absurd (h refl refl)
  one_of_both true false k h = omega arith
  one_of_both false b k h = omega arith

  share_more : (r : TableKey) (rs ks : List TableKey) → (Mem r rs → ⊥) → alone r ks + share rs ks ≤ share (r ∷ rs) ks
  share_more r rs [] ne = omega arith
  share_more r rs (k ∷ ks) ne =
      let a : if_width (same_key k r) k + if_width (list_any (same_key k) rs) k ≤ if_width (same_key k r || list_any (same_key k) rs) k =
      one_of_both (same_key k r) (list_any (same_key k) rs) k (λ e h. ne (subst (λ y. Mem y rs) (same-true k r e) (of_any k rs h))) in
      let b : alone r ks + share rs ks ≤ share (r ∷ rs) ks = share_more r rs ks ne in
      omega (arith, a, b)

  all_shared : (rs ks : List TableKey) → AreRising rs → ((k : TableKey) → Mem k rs → Mem k ks) → widths p reached rs ≤ share rs ks
  all_shared [] ks h m = omega arith
  all_shared (r ∷ rs) ks h m =
      let a : width r ≤ alone r ks = alone_there r ks (m r (inl refl)) in
      let b : widths p reached rs ≤ share rs ks = all_shared rs ks h.1 (λ k i. m k (inr i)) in
      let d : alone r ks + share rs ks ≤ share (r ∷ rs) ks = share_more r rs ks (λ i. before_self r (h.0 r i)) in
      omega (arith, a, b, d)

  one_more_reader : (b : Bool) (k : TableKey) (n : ℕ) → width k * (if b then suc n else n) ≡ if_width b k + width k * n
  one_more_reader true k n = times_more (width k) n
  one_more_reader false k n = omega arith

  costs_more : (c : Context) (cs : List Context) (ks : List TableKey) → costs p reached (c ∷ cs) ks ≡ share (reads p reached c) ks + costs p
      reached cs ks
  costs_more c cs [] = omega arith
  costs_more c cs (k ∷ ks) =
      let a : width k * readers p reached (c ∷ cs) k ≡ if_width (list_any (same_key k) (reads p reached c)) k + width k * readers p reached
      cs k = one_more_reader (list_any (same_key k) (reads p reached c)) k (readers p reached cs k) in
      let b : costs p reached (c ∷ cs) ks ≡ share (reads p reached c) ks + costs p reached cs ks = costs_more c cs ks in
      omega (arith, a, b)

  costs_most : (cs : List Context) (ks : List TableKey) → ((c : Context) → Mem c cs → (k : TableKey) → Mem k (reads p reached c) → Mem k ks)
      → widths_read p reached cs ≤ costs p reached cs ks
  costs_most [] ks h = omega arith
  costs_most (c ∷ cs) ks h =
      let a : widths p reached (reads p reached c) ≤ share (reads p reached c) ks =
      all_shared (reads p reached c) ks (reads_rising p reached c) (h c (inl refl)) in
      let b : widths_read p reached cs ≤ costs p reached cs ks = costs_most cs ks (λ x i. h x (inr i)) in
      let d : costs p reached (c ∷ cs) ks ≡ share (reads p reached c) ks + costs p reached cs ks = costs_more c cs ks in
      omega (arith, a, b, d)

  read_has : (cs : List Context) (c : Context) (k : TableKey) → Mem c cs → Mem k (reads p reached c) → Mem k (keys_read p reached cs)
  read_has [] c k h m = absurd h
  read_has (x ∷ cs) c k h m = ⊎_elim
      (λ (e : c ≡ x). mem_left k (reads p reached x) (keys_read p reached cs) (subst (λ y. Mem k (reads p reached y)) e m))
      (λ i. mem_right k (reads p reached x) (keys_read p reached cs) (read_has cs c k i m))
      h

  -- context by context it isn't more than key by key
  pub widths_most : (cs : List Context) → widths_read p reached cs ≤ costs p reached cs (once (keys_read p reached cs))
  widths_most cs = costs_most cs (once (keys_read p reached cs)) (λ c h k m. once_has (keys_read p reached cs) k (read_has cs c k h m))

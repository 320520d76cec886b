-- Where entries lead at last, and what writing that to them keeps.
use Rattle.std.proofs.Common.{◌≡◌, ◌≢◌, ◌⊎◌, ⊎_elim, inl, inr, ℕ, zero, suc, ◌+◌, ◌-◌, ◌<◌, ◌≤◌, List, [], ◌∷◌, length, set, refl, sym, ap}
use Rattle.std.proofs.Common.{subst, ◌∙◌, arith}
use Rattle.std.proofs.lemmas.List.{length-set, get_or-set_same, get_or-set_other, get_or_past}
use Rattle.std.proofs.lemmas.Bool.{cases_eq, cases_lt}
use Rattle.scr_tree.specs.Tree.{LocalTree}
use Rattle.scr_trace.specs.declared.arrow.Hop.{Hop}
use Rattle.scr_trace.specs.declared.arrow.Hop.TheVariants as hops
use Rattle.scr_trace.specs.inner.Laying.{Work, entry_at, IsPlain, Ends, stops, onward, Settled, laid_parts, LaidOut}
use Rattle.scr_trace.specs.inner.Entries.{Along, here, next, IsWritten}

-- ---- one end

pub plain_last : {es : List Hop} {hop end : Hop} → Ends es hop end → IsPlain end
plain_last (stops p) = p
plain_last (onward r) = plain_last r

pub of_part : {es : List Hop} {k : ℕ} {end : Hop} → Ends es (hops.Part k) end → Ends es (entry_at k es) end
of_part (stops p) = absurd p
of_part (onward r) = r

pub along_ends : {es : List Hop} {from to : ℕ} {end : Hop} → Along es from to → Ends es (hops.Part to) end → Ends es (hops.Part from) end
along_ends here r = r
along_ends {es} {end = end} (next e a) r = onward (subst (λ h. Ends es h end) (sym e) (along_ends a r))

-- ---- plain hops

pub plain_if : (hop : Hop) → ((k : ℕ) → hop ≢ hops.Part k) → IsPlain hop
plain_if (hops.State n) h = tt
plain_if (hops.Loop k) h = tt
plain_if (hops.Part k) h = absurd (h k refl)
plain_if hops.End h = tt

-- ---- writing

-- the entries that one leads on to are written
pub kept : (old new : List Hop) (from : ℕ) (last : Hop) → ((k : ℕ) → IsWritten old new from last k) →
    ((end : Hop) → Ends old (hops.Part from) end → last ≡ end) →
    {hop end : Hop} → Ends old hop end → Ends new hop end
kept old new from last written ends (stops p) = stops p
kept old new from last written ends {end = end} (onward {k} r) =
    onward (⊎_elim
    (λ same. subst (λ h. Ends new h end) (sym same) (kept old new from last written ends r))
    (λ w. subst (λ h. Ends new h end) (sym (w.0 ∙ ends end (along_ends w.1 (onward r)))) (stops (plain_last r)))
    (written k))

-- the first entries are settled, and each leads at last where it led
pub record Settling (old now : List Hop) (i : ℕ) : Type 0 where
  pub as_many : length now ≡ length old
  pub kept : (hop end : Hop) → Ends old hop end → Ends now hop end
  pub first : (k : ℕ) (end : Hop) → k < i → Ends old (hops.Part k) end → entry_at k now ≡ end

pub settling_more : (old now new : List Hop) (i : ℕ) (last : Hop) → Settling old now i → i < length now → length new ≡ length now →
    ((end : Hop) → Ends now (hops.Part i) end → last ≡ end) →
    ((k : ℕ) → IsWritten now new i last k) → (i < length now → entry_at i new ≡ last) → Settling old new (i + 1)
settling_more old now new i last s within size ends written first = record {
  as_many = size ∙ s.as_many;
  kept = λ hop end r. kept now new i last written ends (s.kept hop end r);
  first = λ k end h r. ⊎_elim
      (λ (e : k ≡ i). ap (λ j. entry_at j new) e ∙ first within ∙
      ends end (subst (λ j. Ends now (hops.Part j) end) e (s.kept (hops.Part k) end r)))
      (λ other. ⊎_elim (λ same. same ∙ s.first k end (omega (arith, h, other)) r)
      (λ w. w.0 ∙ ends end (along_ends w.1 (s.kept (hops.Part k) end r))) (written k))
      (cases_eq k i);
}

pub settling_all : (old now : List Hop) (i : ℕ) → Settling old now i → length now ≤ i → Settled old now
settling_all old now i s all k end r = ⊎_elim
    (λ h. s.first k end h r)
    (λ past. get_or_past now k hops.End (omega arith) ∙ ended (of_part r) (get_or_past old k hops.End (omega (arith, s.as_many))))
    (cases_lt k i)
  where
    ended : {hop end : Hop} → Ends old hop end → hop ≡ hops.End → hops.End ≡ end
    ended (stops p) e = sym e
    ended (onward r) e = cc

-- ---- how far an end is

-- the end is behind so many protocols
pub data EndsIn (es : List Hop) : ℕ → Hop → Hop → Type 0 where
  stops_here : {hop : Hop} → IsPlain hop → EndsIn es 0 hop hop
  goes : {n k : ℕ} {end : Hop} → EndsIn es n (entry_at k es) end → EndsIn es (suc n) (hops.Part k) end

pub some_way : {es : List Hop} {hop end : Hop} → Ends es hop end → (n : ℕ) × EndsIn es n hop end
some_way (stops p) = (0, stops_here p)
some_way (onward r) = let w = some_way r in (suc w.0, goes w.1)

same_way : {es : List Hop} {m n : ℕ} {hop a b : Hop} → EndsIn es m hop a → EndsIn es n hop b → m ≡ n
same_way (stops_here p) (stops_here q) = refl
same_way (stops_here p) (goes s) = absurd p
same_way (goes r) (stops_here q) = absurd q
same_way (goes r) (goes s) = ap suc (same_way r s)

-- what stands at the entry that is left behind doesn't matter
unmoved : {es : List Hop} {m n k : ℕ} {hop a b : Hop} (x : Hop) → EndsIn es m hop a → EndsIn es n (hops.Part k) b → m < n →
    EndsIn (set es k x) m hop a
unmoved x (stops_here p) far h = stops_here p
unmoved {es} {n = n} {k = k} {a = a} {b = b} x (goes {n = m} {k = j} r) far h = ⊎_elim
    (λ (e : j ≡ k). absurd (let w : suc m ≡ n = same_way (goes r) (subst (λ i. EndsIn es n (hops.Part i) b) (sym e) far) in omega
    (arith, w, h)))
    (λ other. goes (subst (λ y. EndsIn (set es k x) m y a) (sym (get_or-set_other es k j x hops.End other))
    (unmoved x r far (omega (arith, h)))))
    (cases_eq j k)

-- how many entries lead to protocols
abbrev one_if : Hop → ℕ
one_if (hops.Part k) = 1
one_if hop = 0

abbrev leading : List Hop → ℕ
leading [] = 0
leading (hop ∷ es) = one_if hop + leading es

leading_few : (es : List Hop) → leading es ≤ length es
leading_few [] = omega arith
leading_few (hops.Part k ∷ es) = omega (arith, leading_few es)
leading_few (hops.State n ∷ es) = omega (arith, leading_few es)
leading_few (hops.Loop k ∷ es) = omega (arith, leading_few es)
leading_few (hops.End ∷ es) = omega (arith, leading_few es)

one_less : (es : List Hop) (k j : ℕ) → entry_at k es ≡ hops.Part j → suc (leading (set es k hops.End)) ≡ leading es
one_less [] k j e = cc
one_less (hop ∷ es) zero j e = let w = ap (λ h. one_if h + leading es) e in omega (arith, w)
one_less (hop ∷ es) (suc k) j e = let w = one_less es k j e in omega (arith, w)

by_entry : (es : List Hop) (k n : ℕ) (h end : Hop) → entry_at k es ≡ h → EndsIn es n h end → n ≤ suc (leading (set es k hops.End)) →
    suc n ≤ suc (leading es)
by_entry es k n (hops.Part j) end e r w = omega (arith, one_less es k j e, w)
by_entry es k n (hops.State i) end e (stops_here p) w = omega arith
by_entry es k n (hops.Loop i) end e (stops_here p) w = omega arith
by_entry es k n hops.End end e (stops_here p) w = omega arith

near : (n : ℕ) (es : List Hop) (hop end : Hop) → EndsIn es n hop end → n ≤ suc (leading es)
near zero es hop end r = omega arith
near (suc n) es (hops.State i) end r = elim r [ ]
near (suc n) es (hops.Loop i) end r = elim r [ ]
near (suc n) es hops.End end r = elim r [ ]
near (suc n) es (hops.Part k) end (goes r) =
    by_entry es k n (entry_at k es) end refl r (near n (set es k hops.End) (entry_at k es) end (unmoved hops.End r (goes r) (omega arith)))

pub short : {es : List Hop} {n k : ℕ} {end : Hop} → EndsIn es n (hops.Part k) end → n ≤ suc (length es)
short {es} {n} {k} {end} r = omega (arith, near n es (hops.Part k) end r, leading_few es)

-- ---- going along entries

-- a way back to the end from the first entry is left, with so many steps
pub record Nears (es : List Hop) (from at left : ℕ) : Type 0 where
  pub near : (end : Hop) → Ends es (hops.Part from) end → (n : ℕ) × EndsIn es n (hops.Part at) end × (n ≤ left + 1)

behind : {es : List Hop} {m k : ℕ} {end : Hop} → EndsIn es m (hops.Part k) end → (n : ℕ) × (m ≡ suc n) × EndsIn es n (entry_at k es) end
behind (stops_here p) = absurd p
behind (goes {n = n} r) = (n, refl, r)

stopped : {es : List Hop} {m : ℕ} {hop end : Hop} → IsPlain hop → EndsIn es m hop end → hop ≡ end
stopped p (stops_here q) = refl
stopped p (goes r) = absurd p

further : {es : List Hop} {m k : ℕ} {hop end : Hop} → hop ≡ hops.Part k → EndsIn es m hop end → 0 < m
further e (stops_here p) = absurd (subst IsPlain e p)
further e (goes r) = omega arith

pub nears_first : (es : List Hop) (from : ℕ) → Nears es from from (length es)
nears_first es from = record {
  near =
      λ end r. let w = some_way r in (w.0, w.1, (let few : w.0 ≤ suc (length es) = short w.1 in omega (arith, few)));
}

pub nears_last : (es : List Hop) (from at left : ℕ) (hop : Hop) → Nears es from at left → hop ≡ entry_at at es → IsPlain hop → (end : Hop) →
    Ends es (hops.Part from) end → hop ≡ end
nears_last es from at left hop n e p end r = let b = behind (n.near end r).1 in e ∙ stopped (subst IsPlain e p) b.2

pub nears_next : (es : List Hop) (from at left k : ℕ) → Nears es from at left → entry_at at es ≡ hops.Part k → 0 < left →
    Nears es from k (left - 1)
nears_next es from at left k n e h = record {
  near = λ end r.
      let w = n.near end r in
      let b = behind w.1 in
      (b.0, subst (λ x. EndsIn es b.0 x end) e b.2, (let few = w.2 in let one = b.1 in omega (arith, few, one, h)));
}

pub nears_none : (es : List Hop) (from at left k : ℕ) (hop : Hop) → Nears es from at left → entry_at at es ≡ hops.Part k → left ≡ 0 →
    (end : Hop) → Ends es (hops.Part from) end → hop ≡ end
nears_none es from at left k hop n e z end r =
    let w = n.near end r in
    let b = behind w.1 in
    let few = w.2 in let one = b.1 in let more = further e b.2 in
    absurd (omega (arith, few, one, more, z))

-- ---- writing along entries

along_more : {es : List Hop} {a b : ℕ} (c : ℕ) → Along es a b → entry_at b es ≡ hops.Part c → Along es a c
along_more c here e = next e here
along_more c (next f a) e = next f (along_more c a e)

pub record Writing (old now : List Hop) (from : ℕ) (end : Hop) (at left : ℕ) : Type 0 where
  pub as_many : length now ≡ length old
  pub written : (k : ℕ) → IsWritten old now from end k
  pub along : Along old from at
  pub first : (from < length old → entry_at from now ≡ end) ⊎ ((at ≡ from) × (left ≡ length old))

pub writing_none : (old : List Hop) (from : ℕ) (end : Hop) → Writing old old from end from (length old)
writing_none old from end = record { as_many = refl; written = λ k. inl refl; along = here; first = inr (refl, refl) }

pub written_more : (old now : List Hop) (from : ℕ) (end : Hop) (at left : ℕ) → Writing old now from end at left → at < length now → (k : ℕ)
    → IsWritten old (set now at end) from end k
written_more old now from end at left w h k = ⊎_elim
    (λ (e : k ≡ at). inr (
      ap (λ j. entry_at j (set now at end)) e ∙ get_or-set_same now at end hops.End h,
      subst (Along old from)
          (sym e) w.along,
    ))
    (λ other. let same = get_or-set_other now at k end hops.End other in ⊎_elim (λ s. inl (same ∙ s)) (λ v. inr (same ∙ v.0, v.1))
    (w.written k))
    (cases_eq k at)

pub first_more : (old now : List Hop) (from : ℕ) (end : Hop) (at left : ℕ) → Writing old now from end at left → at < length now →
    from < length old → entry_at from (set now at end) ≡ end
first_more old now from end at left w h within = ⊎_elim
    (λ (e : from ≡ at). ap (λ j. entry_at j (set now at end)) e ∙ get_or-set_same now at end hops.End h)
    (λ other. get_or-set_other now at from end hops.End other ∙ ⊎_elim (λ f. f within) (λ v. absurd (other (sym v.0))) w.first)
    (cases_eq from at)

pub writing_more : (old now : List Hop) (from : ℕ) (end : Hop) (at left k : ℕ) → IsPlain end → Writing old now from end at left →
    at < length now → entry_at at now ≡ hops.Part k →
    Writing old (set now at end) from end k (left - 1)
writing_more old now from end at left k plain w h e = record {
  as_many = length-set now at end ∙ w.as_many;
  written = written_more old now from end at left w h;
  along = ⊎_elim (λ same. along_more k w.along (sym same ∙ e)) (λ v. absurd (subst IsPlain (sym v.0 ∙ e) plain)) (w.written at);
  first = inl (first_more old now from end at left w h);
}

-- ---- what is laid out

pub settled_out : (local : LocalTree) (before after : Work) → before ≡ laid_parts local → record after { entries = before.entries } ≡ before
    → Settled before.entries after.entries → LaidOut local after
settled_out local before after is same settled = record {
  parts = ap (λ (w : Work). record after { entries = w.entries }) (sym is) ∙ same ∙ is;
  settled = subst (λ (w : Work). Settled w.entries after.entries) is settled;
}

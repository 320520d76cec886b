-- Each entry of a valid local protocol leads somewhere at last, so what is laid out of it can be settled.
use Rattle.std.proofs.Common.{◌≡◌, ℕ, zero, suc, ◌<◌, List, [], ◌∷◌, length, map, refl, sym, subst, ⊎_elim, arith}
use Rattle.std.proofs.Math.Logic.{∥∥₁_elim}
use Rattle.std.proofs.lemmas.Bool.{cases_eq}
use Rattle.mg_text.specs.Call.{Name}
use Rattle.mg_read.specs.First.{Clean}
use Rattle.scr_tree.specs.Tree.{LocalTree, Titled, titled, body_in, bodies_in}
use Rattle.scr_tree.specs.Spots.{all_spots, spots_of}
use Rattle.scr_tree.specs.Going.{Unguarded, UnknownProtocol}
use Rattle.scr_tree.specs.Valid.{IsValid, AreDistinct, names_in}
use Rattle.scr_trace.specs.declared.arrow.Hop.{Hop}
use Rattle.scr_trace.specs.declared.arrow.Hop.TheVariants as hops
use Rattle.scr_trace.specs.inner.Laying.{Work, nothing, hop_to, entry_at, number_among, laid_parts, LaidOut, Ends, stops, onward}
use Rattle.scr_trace.proofs.Ending.{of_part}
use Rattle.scr_trace.proofs.Valid.{AllSound, clean_once, contains_first, valid_sound}
use Rattle.scr_trace.proofs.Placing.{names, raw, From, all_of, rest_of, reached, as_many, number_here}
use Rattle.scr_trace.proofs.Entering.{each_arrives, from_contains, map_contains}
use Rattle.scr_trace.proofs.Automaton.{distinct_once}

-- the protocol of a number
record At (ts : List Titled) (k : ℕ) : Type 0 where
  t : Titled
  more : List Titled
  from : From ts (t ∷ more)
  number : length more ≡ k

find_at : (ts xs : List Titled) → From ts xs → (k : ℕ) → k < length xs → At ts k
find_at ts [] f k h = absurd (omega (arith, h))
find_at ts (t ∷ more) f k h = ⊎_elim
    (λ (e : length more ≡ k). record { t = t; more = more; from = f; number = e })
    (λ other. find_at ts more (rest_of f) k (omega (arith, h, other)))
    (cases_eq (length more) k)

-- what is known of the protocols of a valid file
all_ended : (me : Name) (ts : List Titled) → AllSound (names ts) ts → AreDistinct (names ts) → Clean (Unguarded ts) (spots_of body_in ts) →
    Clean (UnknownProtocol (names ts)) (all_spots (map body_in ts)) → (k : ℕ) → k < length (raw me ts).entries →
    (end : Hop) × Ends (raw me ts).entries (hops.Part k) end
all_ended me ts sound distinct guarded named k h =
    let size = as_many me (number_among ts) ts nothing in
    let a = find_at ts ts all_of k (omega (arith, size, h)) in
    let r = reached me (names ts) ts (a.t ∷ a.more) sound distinct a.from in
    let c = map_contains (λ (t : Titled). t.name) ts a.t (from_contains ts (a.t ∷ a.more) a.from a.t (contains_first a.t a.more)) in
    let e = each_arrives ts sound guarded named me distinct a.t.name c in (
      e.end,
      subst (λ j. Ends (raw me ts).entries (hops.Part j) e.end) a.number (subst (λ o. Ends (raw me ts).entries (hop_to o) e.end)
          (number_here me ts a.t a.more r.0 r.1) e.ends),
    )

-- each entry of a valid local protocol leads somewhere at last
pub valid_ended : (local : LocalTree) → ∥ IsValid local ∥₁ → (k : ℕ) → k < length (laid_parts local).entries →
    (end : Hop) × Ends (laid_parts local).entries (hops.Part k) end
valid_ended local v = all_ended local.me (titled local) (valid_sound local v)
    (∥∥₁_elim v (distinct_once (names_in local)) (λ i. i.protocols_differ))
    (∥∥₁_elim v (clean_once (Unguarded (titled local)) (spots_of body_in (titled local))) (λ i. i.guarded))
    (∥∥₁_elim v (clean_once (UnknownProtocol (names_in local)) (all_spots (bodies_in local))) (λ i. i.protocols_known))

-- ---- settled entries

one_end : {es : List Hop} {hop a b : Hop} → Ends es hop a → Ends es hop b → a ≡ b
one_end (stops p) (stops q) = refl
one_end (stops p) (onward s) = absurd p
one_end (onward r) (stops q) = absurd q
one_end (onward r) (onward s) = one_end r s

end_of_end : {es : List Hop} {hop end : Hop} → Ends es hop end → hop ≡ hops.End → hops.End ≡ end
end_of_end (stops p) e = sym e
end_of_end (onward r) e = cc

-- entries that are where these lead at last
settle : (es xs : List Hop) → ((k : ℕ) → k < length xs → (end : Hop) × Ends es (entry_at k xs) end) →
    (ys : List Hop) × ((k : ℕ) (end : Hop) → Ends es (entry_at k xs) end → entry_at k ys ≡ end)
settle es [] h = ([], λ k end r. end_of_end r refl)
settle es (x ∷ xs) h =
    let first = h 0 (omega arith) in
    let rest = settle es xs (λ k within. h (suc k) (omega (arith, within))) in
    (first.0 ∷ rest.0, go first.0 first.1 rest.0 rest.1)
  where
    go : (end : Hop) → Ends es x end → (ys : List Hop) → ((k : ℕ) (end : Hop) → Ends es (entry_at k xs) end → entry_at k ys ≡ end) →
        (k : ℕ) (last : Hop) → Ends es (entry_at k (x ∷ xs)) last → entry_at k (end ∷ ys) ≡ last
    go end e ys f zero last r = one_end e r
    go end e ys f (suc k) last r = f k last r

-- what is laid out of a valid local protocol, with its entries settled
pub laid_exists : (local : LocalTree) → ∥ IsValid local ∥₁ → (w : Work) × LaidOut local w
laid_exists local v =
    let s = settle (laid_parts local).entries (laid_parts local).entries (λ k h. let e = valid_ended local v k h in (e.0, of_part e.1)) in
    (record (laid_parts local) { entries = s.0 }, record { parts = refl; settled = λ k end r. s.1 k end (of_part r) })

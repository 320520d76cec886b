-- Calls that are sorted by a key of their places are sorted by these.
use Rattle.std.proofs.Common.{◌≡◌, ℕ, List, ap, ◌∙◌}
use Rattle.std.specs.Prelude.{nat_eq, nat_lt, if◌then◌else◌}
use Rattle.std.specs.List.Sorted.{IsSortedBy, IsStableBy, IsSortedByKey, IsStableByKey}
use Rattle.std.proofs.Common.{Ordering}
use Rattle.std.specs.Ordering.{is_lt, nat_cmp, ordering_then}
use Rattle.use_sights.specs.declared.site.Site.{Site}
use Rattle.use_sights.proofs.Lexical.{by_first, by_last, grouped}
use Rattle.use_sights.proofs.Sorting.{sorted_as, stable_as}
use Rattle.mg_shown.specs.Shown.{is_listed_before}

abbrev Key : Type 0
Key = ℕ × ℕ × ℕ

abbrev pub key : Site → Key
key s = (s.place.file, s.place.line, s.place.column)

abbrev pub key_cmp : Key → Key → Ordering
key_cmp x y = ordering_then (ordering_then (nat_cmp x.0 y.0) (nat_cmp x.1 y.1)) (nat_cmp x.2 y.2)

by_key : (s r : Site) → is_lt (key_cmp (key s) (key r)) ≡ is_listed_before s r
by_key s r =
    let q = s.place in
    let p = r.place in
    ap is_lt (grouped (nat_cmp q.file p.file) (nat_cmp q.line p.line) (nat_cmp q.column p.column))
    ∙ by_first q.file p.file (ordering_then (nat_cmp q.line p.line) (nat_cmp q.column p.column))
    ∙ ap (λ b. if nat_eq q.file p.file then b else nat_lt q.file p.file) (by_first q.line p.line (nat_cmp q.column p.column))
    ∙ ap (λ b. if nat_eq q.file p.file then (if nat_eq q.line p.line then b else nat_lt q.line p.line) else nat_lt q.file p.file)
    (by_last q.column p.column)

pub sites_sorted : (xs : List Site) → IsSortedByKey key key_cmp xs → IsSortedBy is_listed_before xs
sites_sorted = sorted_as (λ s r. is_lt (key_cmp (key s) (key r))) is_listed_before by_key

pub sites_stable : (xs ys : List Site) → IsStableByKey key key_cmp xs ys → IsStableBy is_listed_before xs ys
sites_stable = stable_as (λ s r. is_lt (key_cmp (key s) (key r))) is_listed_before by_key

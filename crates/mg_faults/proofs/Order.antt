-- Demands that are sorted by a key stand in order; and there is one list of all that fail.
use Rattle.std.proofs.Common.{◌≡◌, ℕ, List, refl, sym, ap, ◌∙◌, subst}
use Rattle.std.specs.Prelude.{nat_eq, nat_lt, if◌then◌else◌}
use Rattle.std.specs.List.Sorted.{IsSortedBy, IsStableBy, IsSortedByKey, IsStableByKey}
use Rattle.std.proofs.Common.{Ordering, Less, Equal, Greater}
use Rattle.std.specs.Ordering.{is_lt, nat_cmp, ordering_then}
use Rattle.use_rules.specs.declared.demand.Demand.{Demand}
use Rattle.use_rules.specs.Tables.{all_failed, Least}
use Rattle.use_rules.proofs.Laws.{members_decide}
use Rattle.use_flow.proofs.Reached.{reached_same}
use Rattle.use_sights.proofs.Lexical.{by_first, by_last, grouped}
use Rattle.use_sights.proofs.Sorting.{sorted_as, stable_as, rising, steps_of, unique}
use Rattle.mg_faults.specs.Demands.{element_number, stands_before, once, OneFaults}
use Rattle.mg_faults.proofs.Lines.{not_itself, no_later}

abbrev Key : Type 0
Key = ℕ × ℕ × ℕ × ℕ × ℕ

abbrev pub key : Demand → Key
key d = (d.place.file, d.place.line, d.place.column, d.variable, element_number d.element)

abbrev pub key_cmp : Key → Key → Ordering
key_cmp x y =
    ordering_then (ordering_then (ordering_then (ordering_then (nat_cmp x.0 y.0) (nat_cmp x.1 y.1)) (nat_cmp x.2 y.2)) (nat_cmp x.3 y.3))
    (nat_cmp x.4 y.4)

regrouped : (a b c d e : Ordering) → ordering_then (ordering_then (ordering_then (ordering_then a b) c) d) e
    ≡ ordering_then a (ordering_then b (ordering_then c (ordering_then d e)))
regrouped Less b c d e = refl
regrouped Greater b c d e = refl
regrouped Equal Less c d e = refl
regrouped Equal Greater c d e = refl
regrouped Equal Equal c d e = grouped c d e

by_key : (a b : Demand) → is_lt (key_cmp (key a) (key b)) ≡ stands_before a b
by_key a b =
    let n = element_number a.element in
    let m = element_number b.element in
    let files = nat_cmp a.place.file b.place.file in
    let lines = nat_cmp a.place.line b.place.line in
    let columns = nat_cmp a.place.column b.place.column in
    let variables = nat_cmp a.variable b.variable in
    ap is_lt (regrouped files lines columns variables (nat_cmp n m))
    ∙ by_first a.place.file b.place.file (ordering_then lines (ordering_then columns (ordering_then variables (nat_cmp n m))))
    ∙ ap (λ x. if nat_eq a.place.file b.place.file then x else nat_lt a.place.file b.place.file)
    (by_first a.place.line b.place.line (ordering_then columns (ordering_then variables (nat_cmp n m)))
    ∙ ap (λ x. if nat_eq a.place.line b.place.line then x else nat_lt a.place.line b.place.line)
    (by_first a.place.column b.place.column (ordering_then variables (nat_cmp n m))
    ∙ ap (λ x. if nat_eq a.place.column b.place.column then x else nat_lt a.place.column b.place.column)
    (by_first a.variable b.variable (nat_cmp n m)
    ∙ ap (λ x. if nat_eq a.variable b.variable then x else nat_lt a.variable b.variable) (by_last n m))))

pub demands_sorted : (xs : List Demand) → IsSortedByKey key key_cmp xs → IsSortedBy stands_before xs
demands_sorted = sorted_as (λ a b. is_lt (key_cmp (key a) (key b))) stands_before by_key

pub demands_stable : (xs ys : List Demand) → IsStableByKey key key_cmp xs ys → IsStableBy stands_before xs ys
demands_stable = stable_as (λ a b. is_lt (key_cmp (key a) (key b))) stands_before by_key

-- There is one list.

one_order : (failed xs ys : List Demand) → IsSortedBy stands_before xs → IsStableBy stands_before failed xs → IsSortedBy stands_before ys →
    IsStableBy stands_before failed ys → xs ≡ ys
one_order failed xs ys a b c d =
    unique stands_before not_itself no_later xs ys
    (rising stands_before not_itself no_later xs (steps_of stands_before not_itself no_later xs a))
    (rising stands_before not_itself no_later ys (steps_of stands_before not_itself no_later ys c))
    (λ x. b x ∙ sym (d x))

pub one_faults : OneFaults
one_faults p ds es a b =
    let r : b.reached ≡ a.reached = reached_same p b.reached a.reached b.are a.are in
    let least : Least p a.reached b.tables = subst (λ r. Least p r b.tables) r b.least in
    let same : all_failed p b.reached b.tables ≡ all_failed p a.reached a.tables =
    ap (λ r. all_failed p r b.tables) r
    ∙ sym (members_decide p a.reached a.tables b.tables (record { each = a.least.within b.tables least.closed })
    (record { each = least.within a.tables a.least.closed })) in
    a.is
    ∙ ap (once p) (one_order (all_failed p a.reached a.tables) a.listed b.listed a.sorted a.stable b.sorted
    (subst (λ xs. IsStableBy stands_before xs b.listed) same b.stable))
    ∙ sym b.is

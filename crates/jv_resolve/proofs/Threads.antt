-- Members one after another: each step with the names of those before it.
use Rattle.std.proofs.Common.{◌≡◌, ℕ, ◌+◌, ◌<◌, ◌≤◌, List, [], ◌∷◌, ◌++◌, map, length, get_or, drop, Option, Some, None, refl, sym, ap, ◌∙◌}
use Rattle.std.proofs.Common.{append_assoc, append-nil}
use Rattle.std.proofs.lemmas.List.{map_push}
use Rattle.mg_text.specs.Call.{Name}
use Rattle.jv_resolve_law.specs.Tables.{◌>>=◌}
use Rattle.jv_resolve_law.specs.Members.{Naming}
use Rattle.jv_resolve.specs.declared.given.Unresolved.{Unresolved}
use Rattle.jv_resolve.specs.inner.Gives.{Fails}
use Rattle.jv_resolve.specs.inner.Naming.{naming, threaded, with_done}
use Rattle.jv_resolve.proofs.AtIndex.{drop_at, drop_end}
use Rattle.jv_resolve.proofs.Chains.{fails_then, fails_map, fails_as}

pub then_same : {X Y : Type 0} (o : Option X) (f g : X → Option Y) → ((x : X) → f x ≡ g x) → (o >>= f) ≡ (o >>= g)
then_same None f g h = refl
then_same (Some x) f g h = h x

-- what goes on as a step and the rest is that step with each element
pub same_threaded : {X Y : Type 0} (step : List Name → X → Option (Naming Y)) (f : List Name → List X → Option (Naming (List Y))) →
    ((ns : List Name) → f ns [] ≡ Some (naming [] ns)) →
    ((ns : List Name) (x : X) (xs : List X) →
    f ns (x ∷ xs) ≡ (step ns x >>= λ k. f k.names xs >>= λ r. Some (naming (k.it ∷ r.it) r.names))) → (ns : List Name) (xs : List X) →
    f ns xs ≡ threaded step ns xs
same_threaded step f nil cons ns [] = nil ns
same_threaded step f nil cons ns (x ∷ xs) =
    cons ns x xs
    ∙ then_same (step ns x) (λ k. f k.names xs >>= λ r. Some (naming (k.it ∷ r.it) r.names))
    (λ k. threaded step k.names xs >>= λ r. Some (naming (k.it ∷ r.it) r.names))
    (λ k. ap (λ o. o >>= λ r. Some (naming (k.it ∷ r.it) r.names)) (same_threaded step f nil cons k.names xs))

pub start : {Y : Type 0} (o : Option (Naming (List Y))) → o ≡ with_done [] o
start None = refl
start (Some r) = refl

moved : {Y : Type 0} (done : List Y) (k : Naming Y) (rest : Option (Naming (List Y))) →
    with_done done (rest >>= λ r. Some (naming (k.it ∷ r.it) r.names)) ≡ with_done (done ++ k.it ∷ []) rest
moved done k None = refl
moved done k (Some r) = ap (λ xs. Some (naming xs r.names)) (sym (append_assoc done (k.it ∷ []) r.it))

module _ {X Y : Type 0} (step : List Name → X → Option (Naming Y)) (total : Option (Naming (List Y))) (done : List Y) (names : List Name)
    (left : List X) (so_far : total ≡ with_done done (threaded step names left)) where
  module _ (x : X) (rest : List X) (next : left ≡ x ∷ rest) where
    abbrev then_rest : Naming Y → Option (Naming (List Y))
    then_rest k = threaded step k.names rest >>= λ r. Some (naming (k.it ∷ r.it) r.names)

    opened_up : total ≡ with_done done (step names x >>= then_rest)
    opened_up = so_far ∙ ap (λ xs. with_done done (threaded step names xs)) next

    thread_more : (k : Naming Y) → step names x ≡ Some k → total ≡ with_done (done ++ k.it ∷ []) (threaded step k.names rest)
    thread_more k h = opened_up ∙ ap (λ o. with_done done (o >>= then_rest)) h ∙ moved done k (threaded step k.names rest)

    thread_fail : (err : Unresolved) → Fails err (step names x) → Fails err total
    thread_fail err h = fails_as err _ _ opened_up (fails_map err (step names x >>= then_rest) (λ r. naming (done ++ r.it) r.names)
        (fails_then err (step names x) then_rest h))

  thread_done : left ≡ [] → total ≡ Some (naming done names)
  thread_done end = so_far ∙ ap (λ xs. with_done done (threaded step names xs)) end ∙ ap (λ xs. Some (naming xs names)) (append-nil done)

-- ---- a loop over a list, which pushes what it makes of each element

module _ {S X R Y : Type 0} (step : List Name → X → Option (Naming Y)) (from : S → X) (see : R → Y) (total : Option (Naming (List Y)))
    (done : List R) (names : List Name) (xs : List S) (i : ℕ)
    (so_far : total ≡ with_done (map see done) (threaded step names (map from (drop i xs)))) where
  module _ (s : S) (within : i < length xs) (is : s ≡ get_or xs i s) where
    next_one : map from (drop i xs) ≡ from s ∷ map from (drop (i + 1) xs)
    next_one = ap (map from) (drop_at xs i s within is)

    pub loop_more : (r : R) (after : List R) (later : List Name) → step names (from s) ≡ Some (naming (see r) later) →
        after ≡ done ++ r ∷ [] →
        total ≡ with_done (map see after) (threaded step later (map from (drop (i + 1) xs)))
    loop_more r after later h pushed =
        thread_more step total (map see done) names (map from (drop i xs)) so_far (from s) (map from (drop (i + 1) xs)) next_one
        (naming (see r) later) h
        ∙ ap (λ ys. with_done ys (threaded step later (map from (drop (i + 1) xs)))) (sym (ap (map see) pushed ∙ map_push see done r))

    pub loop_fail : (err : Unresolved) → Fails err (step names (from s)) → Fails err total
    loop_fail err h = thread_fail step total (map see done) names (map from (drop i xs)) so_far (from s) (map from (drop (i + 1) xs))
        next_one err h

  pub loop_done : length xs ≤ i → total ≡ Some (naming (map see done) names)
  loop_done end = thread_done step total (map see done) names (map from (drop i xs)) so_far (ap (map from) (drop_end xs i end))

pub loop_start : {S X R Y : Type 0} (step : List Name → X → Option (Naming Y)) (from : S → X) (see : R → Y)
    (total : Option (Naming (List Y))) (names : List Name) (xs : List S) (done : List R) →
    total ≡ threaded step names (map from xs) → done ≡ [] → total ≡ with_done (map see done) (threaded step names (map from xs))
loop_start step from see total names xs done h is = start total ∙ ap (with_done []) h ∙
    ap (λ d. with_done (map see d) (threaded step names (map from xs))) (sym is)

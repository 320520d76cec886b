-- What a turn of a loop over parameters and states does.
use Rattle.std.proofs.Common.{◌≡◌, ℕ, zero, suc, ◌+◌, ◌<◌, ◌≤◌, Bool, true, false, List, [], ◌∷◌, ◌++◌, length, get_or, drop, take, map}
use Rattle.std.proofs.Common.{Option, Some, None, refl, sym, ap, ◌∙◌, arith, add-one, append_assoc, ◌⊎◌, inl, inr}
use Rattle.std.specs.Prelude.{slice_index_or, min, ◌||◌}
use Rattle.std.proofs.lemmas.Bool.{cases_lt}
use Rattle.std.proofs.lemmas.List.{at_drop_more, at_drop_all}
use Rattle.jv_core.specs.declared.program.CoreSlot.{CoreSlot}
use Rattle.jv_core.specs.declared.program.CoreType.{CoreType}
use Rattle.jv_core.specs.View.{slot_of}
use Rattle.jv_core.specs.Tree.{Method}
use Rattle.jv_core.specs.Lookup.{param_types}
use Rattle.use_rules.specs.declared.key.Context.TheVariants as contexts
use Rattle.use_rules.specs.declared.key.TableKey.TheVariants as keys
use Rattle.use_rules.specs.Elements.{Set, union}
use Rattle.use_rules.specs.Keys.{class_in, number_of}
use Rattle.use_rules.specs.State.{Out}
use Rattle.use_flow.specs.View.{tables_of}
use Rattle.use_flow.specs.inner.Followed.{Followed, param_outs, state_outs, result_in, state_results}
use Rattle.use_elements.proofs.Rests.{append_nil}

-- The parameters are the first slots.

types_taken : (n : ℕ) (xs : List CoreSlot) → map (λ s. s.ty) (take n xs) ≡ map (λ s. s.ty) (take n (map slot_of xs))
types_taken zero xs = refl
types_taken (suc n) [] = refl
types_taken (suc n) (x ∷ xs) = ap (λ r. x.ty ∷ r) (types_taken n xs)

all : (i : ℕ) (s : List CoreSlot) → length s ≤ i → take i s ≡ s
all zero [] h = refl
all zero (x ∷ s) h = absurd (omega arith)
all (suc i) [] h = refl
all (suc i) (x ∷ s) h = ap (λ r. x ∷ r) (all i s (omega arith))

take_least : (n : ℕ) (xs : List CoreSlot) → take (min n (length xs)) xs ≡ take n xs
take_least n xs = go (cases_lt n (length xs))
  where
    go : (n < length xs) ⊎ (length xs ≤ n) → take (min n (length xs)) xs ≡ take n xs
    go (inl lt) = let e : min n (length xs) ≡ n = omega arith in ap (λ m. take m xs) e
    go (inr le) = let e : min n (length xs) ≡ length xs = omega arith in ap (λ m. take m xs) e ∙ all (length xs) xs (omega arith) ∙
        sym (all n xs le)

pub params_taken : (n : ℕ) (xs ys : List CoreSlot) (k : ℕ) → k ≡ min n (length xs) → ys ≡ take k xs → map (λ s. s.ty) ys ≡ map (λ s. s.ty)
    (take n (map slot_of xs))
params_taken n xs ys k e h = ap (map (λ s. s.ty)) (h ∙ ap (λ m. take m xs) e ∙ take_least n xs) ∙ types_taken n xs

pub ruleset taken = (params_taken)

-- Arguments and parameters, one after another.

abbrev pub rest_outs : Followed → (context : ℕ) → List CoreSlot → List Set → (param : ℕ) → List Out
rest_outs s c ps ss i = param_outs s c i (map (λ p. p.ty) (drop i ps)) (drop i ss)

abbrev here : (context param : ℕ) → CoreType → Set → List Out
here c i ty x = elim (class_in ty) [ None ↦ [] | Some k ↦ record { key = keys.Param c i; set = x } ∷ [] ]

rest_one : (s : Followed) (c i : ℕ) (ps : List CoreSlot) (ss : List Set) (p : CoreSlot) → i < length ps → p ≡ get_or ps i p → i < length ss
    →
    rest_outs s c ps ss i ≡ here c i p.ty (slice_index_or ss i []) ++ rest_outs s c ps ss (i + 1)
rest_one s c i ps ss p lt at within =
    at_drop_more (λ xs. param_outs s c i (map (λ p. p.ty) xs) (drop i ss)) ps i p lt
    ∙ ap (λ (x : CoreSlot). param_outs s c i (x.ty ∷ map (λ p. p.ty) (drop (i + 1) ps)) (drop i ss)) (sym at)
    ∙ at_drop_more (λ xs. param_outs s c i (p.ty ∷ map (λ p. p.ty) (drop (i + 1) ps)) xs) ss i [] within
    ∙ ap (λ n. here c i p.ty (slice_index_or ss i []) ++ param_outs s c n (map (λ p. p.ty) (drop (i + 1) ps)) (drop (i + 1) ss))
    (sym (add-one i))

pub param_skip : (s : Followed) (c i : ℕ) (ps : List CoreSlot) (ss : List Set) (p : CoreSlot) (out total : List Out) → i < length ps →
    p ≡ get_or ps i p → i < length ss →
    class_in p.ty ≡ None → out ++ rest_outs s c ps ss i ≡ total → out ++ rest_outs s c ps ss (i + 1) ≡ total
param_skip s c i ps ss p out total lt at within none h =
    ap (λ r. out ++ r) (sym (rest_one s c i ps ss p lt at within ∙ go (class_in p.ty) none)) ∙ h
  where
    go : (o : Option ℕ) → o ≡ None →
        elim o as (λ _. List Out) [ None ↦ [] | Some k ↦ record { key = keys.Param c i; set = slice_index_or ss i [] } ∷ [] ]
        ++ rest_outs s c ps ss (i + 1) ≡ rest_outs s c ps ss (i + 1)
    go o e = rw e refl

same_within : (xs : List CoreSlot) (i : ℕ) (d d' : CoreSlot) → i < length xs → get_or xs i d ≡ get_or xs i d'
same_within [] i d d' h = let no : ⊥ = omega arith in absurd no
same_within (x ∷ xs) zero d d' h = refl
same_within (x ∷ xs) (suc i) d d' h = same_within xs i d d' (omega arith)

-- the same of the parameter as the code reads it
pub param_skip_at : (s : Followed) (c i : ℕ) (ps : List CoreSlot) (ss : List Set) (d : CoreSlot) (out total : List Out) → i < length ps →
    i < length ss →
    class_in (get_or ps i d).ty ≡ None → out ++ rest_outs s c ps ss i ≡ total → out ++ rest_outs s c ps ss (i + 1) ≡ total
param_skip_at s c i ps ss d out total lt within none h =
    param_skip s c i ps ss (get_or ps i d) out total lt (same_within ps i d (get_or ps i d) lt) within none h

pub param_take : (s : Followed) (c i : ℕ) (ps : List CoreSlot) (ss : List Set) (p : CoreSlot) (k : ℕ) (out out' total : List Out) →
    i < length ps → p ≡ get_or ps i p → i < length ss →
    class_in p.ty ≡ Some k → out' ≡ out ++ record { key = keys.Param c i; set = slice_index_or ss i [] } ∷ [] →
    out ++ rest_outs s c ps ss i ≡ total → out' ++ rest_outs s c ps ss (i + 1) ≡ total
param_take s c i ps ss p k out out' total lt at within some e h =
    ap (λ r. r ++ rest_outs s c ps ss (i + 1)) e
    ∙ append_assoc out (record { key = keys.Param c i; set = slice_index_or ss i [] } ∷ []) (rest_outs s c ps ss (i + 1))
    ∙ ap (λ r. out ++ r) (sym (rest_one s c i ps ss p lt at within ∙ go (class_in p.ty) some)) ∙ h
  where
    go : (o : Option ℕ) → o ≡ Some k →
        elim o as (λ _. List Out) [ None ↦ [] | Some k ↦ record { key = keys.Param c i; set = slice_index_or ss i [] } ∷ [] ]
        ++ rest_outs s c ps ss (i + 1)
        ≡ (record { key = keys.Param c i; set = slice_index_or ss i [] } ∷ []) ++ rest_outs s c ps ss (i + 1)
    go o e = rw e refl

pub param_last : (s : Followed) (c i : ℕ) (ps : List CoreSlot) (ss : List Set) (out total : List Out) → length ps ≤ i →
    out ++ rest_outs s c ps ss i ≡ total → out ≡ total
param_last s c i ps ss out total le h =
    sym (ap (λ r. out ++ r) (at_drop_all (λ xs. param_outs s c i (map (λ p. p.ty) xs) (drop i ss)) ps i le) ∙ append_nil out) ∙ h

no_args : (s : Followed) (c i : ℕ) (tys : List CoreType) → param_outs s c i tys [] ≡ []
no_args s c i [] = refl
no_args s c i (ty ∷ tys) = refl

pub param_short : (s : Followed) (c i : ℕ) (ps : List CoreSlot) (ss : List Set) (out total : List Out) → length ss ≤ i →
    out ++ rest_outs s c ps ss i ≡ total → out ≡ total
param_short s c i ps ss out total le h =
    sym (ap (λ r. out ++ r) (at_drop_all (λ xs. param_outs s c i (map (λ p. p.ty) (drop i ps)) xs) ss i le ∙
    no_args s c i (map (λ p. p.ty) (drop i ps))) ∙ append_nil out) ∙ h

pub ruleset sent = (param_skip, param_take, param_last, param_short)

-- State by state.

pub state_next : (s : Followed) (n : ℕ) (k : Method) (qs : List ℕ) (i q c : ℕ) (ss : List Set) (types : List CoreType)
    (out out' total : List Out) → i < length qs → q ≡ get_or qs i q →
    c ≡ number_of s.contexts (contexts.Protocol k.class q n) → types ≡ param_types k → out' ≡ out ++ param_outs s c 0 types ss →
    out ++ state_outs s n k (drop i qs) ss ≡ total → out' ++ state_outs s n k (drop (i + 1) qs) ss ≡ total
state_next s n k qs i q c ss types out out' total lt at num tys e h =
    ap (λ r. r ++ state_outs s n k (drop (i + 1) qs) ss) (e ∙ ap (λ x. out ++ param_outs s x 0 types ss) num ∙
    ap (λ x. out ++ param_outs s (number_of s.contexts (contexts.Protocol k.class q n)) 0 x ss) tys)
    ∙ append_assoc out (param_outs s (number_of s.contexts (contexts.Protocol k.class q n)) 0 (param_types k) ss)
    (state_outs s n k (drop (i + 1) qs) ss)
    ∙ ap (λ r. out ++ r) (sym (at_drop_more (λ xs. state_outs s n k xs ss) qs i q lt ∙ ap (λ x. state_outs s n k (x ∷ drop (i + 1) qs) ss)
    (sym at))) ∙ h

pub states_last : (s : Followed) (n : ℕ) (k : Method) (qs : List ℕ) (i : ℕ) (ss : List Set) (out total : List Out) → length qs ≤ i →
    out ++ state_outs s n k (drop i qs) ss ≡ total → out ≡ total
states_last s n k qs i ss out total le h = sym (ap (λ r. out ++ r) (at_drop_all (λ xs. state_outs s n k xs ss) qs i le) ∙ append_nil out) ∙
    h

args_none : (s : Followed) (n : ℕ) (k : Method) (qs : List ℕ) → state_outs s n k qs [] ≡ []
args_none s n k [] = refl
args_none s n k (q ∷ qs) =
    ap (λ os. os ++ state_outs s n k qs []) (no_args s (number_of s.contexts (contexts.Protocol k.class q n)) 0 (param_types k)) ∙ args_none s n k qs

pub states_bare : (s : Followed) (n : ℕ) (k : Method) (qs : List ℕ) (ss : List Set) (out : List Out) → length ss ≡ 0 →
    out ≡ out ++ state_outs s n k qs ss
states_bare s n k qs [] out h = sym (ap (λ os. out ++ os) (args_none s n k qs) ∙ append_nil out)
states_bare s n k qs (x ∷ ss) out h = absurd (omega (arith, h))

pub ruleset states = (state_next, states_last, states_bare)

or_assoc : (a b c : Bool) → ((a || b) || c) ≡ (a || (b || c))
or_assoc true b c = refl
or_assoc false b c = refl

pub union-nil : (s : Set) → union s [] ≡ s
union-nil [] = refl
union-nil (a ∷ s) = refl

pub union-assoc : (s t u : Set) → union (union s t) u ≡ union s (union t u)
union-assoc [] t u = refl
union-assoc (a ∷ s) [] u = refl
union-assoc (a ∷ s) (b ∷ t) [] = refl
union-assoc (a ∷ s) (b ∷ t) (c ∷ u) = ap (λ x. x ∷ union (union s t) u) (or_assoc a b c) ∙ ap (λ r. (a || (b || c)) ∷ r) (union-assoc s t u)

pub result_next : (s : Followed) (n : ℕ) (k : Method) (qs : List ℕ) (i q c : ℕ) (all all' one total : Set) → i < length qs →
    q ≡ get_or qs i q →
    c ≡ number_of s.contexts (contexts.Protocol k.class q n) → one ≡ result_in s c k → all' ≡ union all one →
    union all (state_results s n k (drop i qs)) ≡ total → union all' (state_results s n k (drop (i + 1) qs)) ≡ total
result_next s n k qs i q c all all' one total lt at num is e h =
    ap (λ r. union r (state_results s n k (drop (i + 1) qs))) (e ∙ ap (union all) (is ∙ ap (λ x. result_in s x k) num))
    ∙ union-assoc all (result_in s (number_of s.contexts (contexts.Protocol k.class q n)) k) (state_results s n k (drop (i + 1) qs))
    ∙ ap (union all) (sym (at_drop_more (state_results s n k) qs i q lt ∙ ap (λ x. state_results s n k (x ∷ drop (i + 1) qs)) (sym at))) ∙ h

pub results_last : (s : Followed) (n : ℕ) (k : Method) (qs : List ℕ) (i : ℕ) (all total : Set) → length qs ≤ i →
    union all (state_results s n k (drop i qs)) ≡ total → all ≡ total
results_last s n k qs i all total le h = sym (ap (union all) (at_drop_all (state_results s n k) qs i le) ∙ union-nil all) ∙ h

pub results_none : (s : Followed) (n : ℕ) (k : Method) (qs : List ℕ) (all : Set) → class_in k.result ≡ None → all ≡ [] →
    all ≡ state_results s n k qs
results_none s n k [] all h e = e
results_none s n k (q ∷ qs) all h e =
    let c : ℕ = number_of s.contexts (contexts.Protocol k.class q n) in
    let one : result_in s c k ≡ [] = ap (λ o. elim o as (λ _. Set) [ None ↦ [] | Some i ↦ tables_of s.held (keys.Result c) ]) h in
    results_none s n k qs all h e ∙ ap (λ x. union x (state_results s n k qs)) (sym one)

pub ruleset results = (result_next, results_last, results_none)

-- Where the contexts of each method begin, method by method.
use Rattle.std.proofs.Common.{◌≡◌, ℕ, suc, ◌+◌, ◌<◌, ◌≤◌, Bool, List, [], ◌∷◌, ◌++◌, length, get_or, drop, map, sym, ap, ◌∙◌, append_assoc}
use Rattle.std.proofs.Common.{add-one, length-append}
use Rattle.std.proofs.lemmas.List.{at_drop_more, at_drop_all}
use Rattle.jv_core.specs.declared.program.CoreMethod.{CoreMethod}
use Rattle.jv_core.specs.Tree.{Program}
use Rattle.jv_core.specs.View.{method_of}
use Rattle.use_rules.specs.declared.key.Context.{Context}
use Rattle.use_rules.specs.Keys.{contexts_of}
use Rattle.use_flow.specs.Runs.{starts_from}

pub start_next : (p : Program) (reached : List (List Bool)) (ms : List CoreMethod) (i : ℕ) (m : CoreMethod) (cs cs' : List Context)
    (ss ss' total : List ℕ) →
    i < length ms → m ≡ get_or ms i m → cs' ≡ cs ++ contexts_of p reached i (method_of m) → ss' ≡ ss ++ length cs ∷ [] →
    ss ++ starts_from p reached (length cs) i (map method_of (drop i ms)) ≡ total →
    ss' ++ starts_from p reached (length cs') (i + 1) (map method_of (drop (i + 1) ms)) ≡ total
start_next p reached ms i m cs cs' ss ss' total lt at ec es h =
    let rest = map method_of (drop (i + 1) ms) in
    ap (λ n. ss' ++ starts_from p reached (length cs') n rest) (add-one i)
    ∙ ap (λ n. ss' ++ starts_from p reached n (suc i) rest) (ap length ec ∙ length-append cs (contexts_of p reached i (method_of m)))
    ∙ ap (λ r. r ++ starts_from p reached (length cs + length (contexts_of p reached i (method_of m))) (suc i) rest) es
    ∙ append_assoc ss (length cs ∷ []) (starts_from p reached (length cs + length (contexts_of p reached i (method_of m))) (suc i) rest)
    ∙ ap (λ r. ss ++ r) (sym (at_drop_more (λ (xs : List CoreMethod). starts_from p reached (length cs) i (map method_of xs)) ms i m lt
    ∙ ap (λ (x : CoreMethod). starts_from p reached (length cs) i (map method_of (x ∷ drop (i + 1) ms))) (sym at))) ∙ h

pub starts_end : (p : Program) (reached : List (List Bool)) (ms : List CoreMethod) (i n : ℕ) (ss ss' total : List ℕ) → length ms ≤ i →
    ss' ≡ ss ++ n ∷ [] →
    ss ++ starts_from p reached n i (map method_of (drop i ms)) ≡ total → ss' ≡ total
starts_end p reached ms i n ss ss' total le es h =
    es ∙ ap (λ r. ss ++ r) (sym (at_drop_all (λ (xs : List CoreMethod). starts_from p reached n i (map method_of xs)) ms i le)) ∙ h

pub ruleset starting = (start_next, starts_end)

-- The graph of a file has an edge for each `do` to which control can come with no message.
use Rattle.std.proofs.Common.{◌≡◌, ◌≢◌, ◌⊎◌, ⊎_elim, inl, inr, ℕ, zero, suc, ◌+◌, ◌<◌, ◌≤◌, Bool, true, false, if◌then◌else◌, List, [], ◌∷◌}
use Rattle.std.proofs.Common.{◌++◌, length, get_or, set, drop, map, replicate, Contains, Option, Some, None, position, refl, sym, ap, subst}
use Rattle.std.proofs.Common.{◌∙◌, arith, true≢false, append_assoc}
use Rattle.std.specs.Option.{is_some}
use Rattle.std.specs.Str.{bytes_eq}
use Rattle.std.proofs.Math.ListN.{length-set, length-replicate}
use Rattle.std.proofs.lemmas.List.{at_drop_more, at_drop_all, get_or-set_same, get_or-set_other}
use Rattle.std.proofs.lemmas.List.Elements.{Contains-push, Contains-append_left, Contains-append_right, Contains-append_cases}
use Rattle.std.proofs.lemmas.List.Elements.{Contains-get_or}
use Rattle.std.proofs.lemmas.List.Quantifiers.{position-Some}
use Rattle.std.proofs.lemmas.Slice.Eq.{bytes_eq-Decides}
use Rattle.std.proofs.lemmas.Grind.{common_steps}
use Rattle.std.specs.Borrow.{Bor}
use Rattle.mg_text.specs.Call.{Name}
use Rattle.mg_text.specs.Interned.{with_text}
use Rattle.mg_text.proofs.Numbered.{list_any-from_None}
use Rattle.scr_tree.specs.declared.written.WrittenPart.{WrittenPart as Part}
use Rattle.scr_judge.specs.inner.Gone.{part_name}
use Rattle.scr_judge.specs.inner.Round.{Graph, HasEdge, with_texts, number_of, numbers_of, leaves_to, edges_at, with_edges, all_edges}
use Rattle.scr_judge.specs.inner.View.{told_names}
use Rattle.scr_judge.proofs.Members.{Contains-nil, Contains-cons_cases, Contains-first, Contains-later}
use Rattle.scr_judge.proofs.Words.{any_from}

-- ---- names by their numbers

-- what has a number stands there
pub at_number : (names : List Name) (name : Name) (i : ℕ) → position (bytes_eq name) names ≡ Some i →
    (i < length names) × (get_or names i [] ≡ name)
at_number names name i e =
    let found = position-Some (bytes_eq name) names i [] e in (found.0, sym ((bytes_eq-Decides name (get_or names i [])).0 found.1))

-- what stands among names has a number
pub has_number : (names : List Name) (name : Name) → Contains names name → (i : ℕ) × (position (bytes_eq name) names ≡ Some i)
has_number names name h = go (position (bytes_eq name) names) refl
  where
    go : (o : Option ℕ) → position (bytes_eq name) names ≡ o → (i : ℕ) × (position (bytes_eq name) names ≡ Some i)
    go None e = absurd (true≢false (sym (any_from name names h) ∙ list_any-from_None (bytes_eq name) names e))
    go (Some i) e = (i, e)

number_has : (names : List Name) (name : Name) (i : ℕ) → position (bytes_eq name) names ≡ Some i → Contains names name
number_has names name i e = let at = at_number names name i e in subst (Contains names) at.1 (Contains-get_or names i [] at.0)

text_has : (names : List Name) (text : Name) → Contains (with_text names text) text
text_has names text = go (position (bytes_eq text) names) refl
  where
    go : (o : Option ℕ) → position (bytes_eq text) names ≡ o → Contains (if is_some (position (bytes_eq text) names) then names else names
        ++ text ∷ []) text
    go None e = subst (λ p. Contains (if is_some p then names else names ++ text ∷ []) text) (sym e) (Contains-push names text)
    go (Some i) e = subst (λ p. Contains (if is_some p then names else names ++ text ∷ []) text) (sym e) (number_has names text i e)

text_keeps : (names : List Name) (text name : Name) → Contains names name → Contains (with_text names text) name
text_keeps names text name h = go (is_some (position (bytes_eq text) names))
  where
    go : (b : Bool) → Contains (if b then names else names ++ text ∷ []) name
    go true = h
    go false = Contains-append_left names (text ∷ []) name h

texts_keep : (texts names : List Name) (name : Name) → Contains names name → Contains (with_texts texts names) name
texts_keep [] names name h = h
texts_keep (text ∷ texts) names name h = texts_keep texts (with_text names text) name (text_keeps names text name h)

pub texts_have : (texts names : List Name) (name : Name) → Contains texts name → Contains (with_texts texts names) name
texts_have [] names name h = absurd (Contains-nil name h)
texts_have (text ∷ texts) names name h =
    ⊎_elim (λ same. texts_keep texts (with_text names text) name (subst (Contains (with_text names text)) same (text_has names text)))
    (λ more. texts_have texts (with_text names text) name more) (Contains-cons_cases texts text name h)

-- ---- numbers of names

pub numbers_to : (names sought : List Name) (j : ℕ) → Contains (numbers_of names sought) j → (name : Name) × Contains sought name
    × (position (bytes_eq name) names ≡ Some j)
numbers_to names [] j h = absurd (Contains-nil j h)
numbers_to names (name ∷ sought) j h =
    ⊎_elim (λ one. (name, Contains-first sought name, only (position (bytes_eq name) names) one))
    (λ more. let r = numbers_to names sought j more in (r.0, Contains-later sought name r.0 r.1, r.2))
    (Contains-append_cases (number_of (position (bytes_eq name) names)) (numbers_of names sought) j h)
  where
    only : (o : Option ℕ) → Contains (number_of o) j → o ≡ Some j
    only None c = absurd (Contains-nil j c)
    only (Some i) c = ⊎_elim (λ same. ap Some same) (λ none. absurd (Contains-nil j none)) (Contains-cons_cases [] i j c)

pub numbers_from : (names sought : List Name) (name : Name) (j : ℕ) → Contains sought name → position (bytes_eq name) names ≡ Some j →
    Contains (numbers_of names sought) j
numbers_from names [] name j h e = absurd (Contains-nil name h)
numbers_from names (first ∷ sought) name j h e =
    ⊎_elim (λ same. Contains-append_left (number_of (position (bytes_eq first) names)) (numbers_of names sought) j
    (subst (λ o. Contains (number_of o) j) (sym (ap (λ (n : Name). position (bytes_eq n) names) same ∙ e)) (Contains-first [] j)))
    (λ more. Contains-append_right (number_of (position (bytes_eq first) names)) (numbers_of names sought) j
    (numbers_from names sought name j more e))
    (Contains-cons_cases sought first name h)

-- ---- edges

same_or_not : (v w : ℕ) → (v ≡ w) ⊎ (v ≢ w)
same_or_not v w = grind arith

pub set_past : (g : Graph) (v : ℕ) (es : List ℕ) → length g ≤ v → set g v es ≡ g
set_past [] v es past = refl
set_past (x ∷ g) zero es past = absurd (omega arith)
set_past (x ∷ g) (suc v) es past = ap (λ (l : Graph). x ∷ l) (set_past g v es (omega arith))

within_or_past : (v n : ℕ) → (v < n) ⊎ (n ≤ v)
within_or_past v n = grind arith

-- the edges of a node with more, and of the others
grown_cases : (g : Graph) (v : ℕ) (more : List ℕ) (u w : ℕ) → HasEdge (set g v (get_or g v [] ++ more)) u w →
    HasEdge g u w ⊎ ((u ≡ v) × Contains more w)
grown_cases g v more u w h = ⊎_elim inside (λ past. inl (subst (λ x. HasEdge x u w) (set_past g v (get_or g v [] ++ more) past) h))
    (within_or_past v (length g))
  where
    inside : v < length g → HasEdge g u w ⊎ ((u ≡ v) × Contains more w)
    inside within = ⊎_elim
        (λ same.
        let now : Contains (get_or g v [] ++ more) w = subst (λ es. Contains es w)
        (ap (λ n. get_or (set g v (get_or g v [] ++ more)) n []) same ∙ get_or-set_same g v (get_or g v [] ++ more) [] within) h in
        ⊎_elim (λ old. inl (subst (λ n. HasEdge g n w) (sym same) old)) (λ new. inr (same, new))
        (Contains-append_cases (get_or g v []) more w now))
        (λ other. inl (subst (λ es. Contains es w) (get_or-set_other g v u (get_or g v [] ++ more) [] other) h)) (same_or_not u v)

grown_keeps : (g : Graph) (v : ℕ) (more : List ℕ) (u w : ℕ) → HasEdge g u w → HasEdge (set g v (get_or g v [] ++ more)) u w
grown_keeps g v more u w h = ⊎_elim inside (λ past. subst (λ x. HasEdge x u w) (sym (set_past g v (get_or g v [] ++ more) past)) h)
    (within_or_past v (length g))
  where
    inside : v < length g → HasEdge (set g v (get_or g v [] ++ more)) u w
    inside within = ⊎_elim
        (λ same. subst (λ es. Contains es w)
        (sym (ap (λ n. get_or (set g v (get_or g v [] ++ more)) n []) same ∙ get_or-set_same g v (get_or g v [] ++ more) [] within))
        (Contains-append_left (get_or g v []) more w (subst (λ n. HasEdge g n w) same h)))
        (λ other. subst (λ es. Contains es w) (sym (get_or-set_other g v u (get_or g v [] ++ more) [] other)) h) (same_or_not u v)

grown_new : (g : Graph) (v : ℕ) (more : List ℕ) (w : ℕ) → v < length g → Contains more w → HasEdge (set g v (get_or g v [] ++ more)) v w
grown_new g v more w within h =
    subst (λ es. Contains es w) (sym (get_or-set_same g v (get_or g v [] ++ more) [] within))
    (Contains-append_right (get_or g v []) more w h)

-- an edge of a protocol
abbrev pub EdgeOf : List Name → Part → ℕ → ℕ → Type 0
EdgeOf names p v w = (position (bytes_eq p.name) names ≡ Some v) × Contains (leaves_to names p) w

module _ (names : List Name) (p : Part) (g : Graph) (v w : ℕ) where
  edge_cases : (o : Option ℕ) → position (bytes_eq p.name) names ≡ o → HasEdge (edges_at o (leaves_to names p) g) v w →
      HasEdge g v w ⊎ EdgeOf names p v w
  edge_cases None e h = inl h
  edge_cases (Some i) e h = ⊎_elim (λ old. inl old) (λ new. inr (e ∙ ap Some (sym new.0), new.1))
      (grown_cases g i (leaves_to names p) v w h)

  edge_keeps : (o : Option ℕ) → HasEdge g v w → HasEdge (edges_at o (leaves_to names p) g) v w
  edge_keeps None h = h
  edge_keeps (Some i) h = grown_keeps g i (leaves_to names p) v w h

  edge_new : EdgeOf names p v w → v < length g → HasEdge (with_edges names p g) v w
  edge_new e within = subst (λ o. HasEdge (edges_at o (leaves_to names p) g) v w) (sym e.0) (grown_new g v (leaves_to names p) w within e.1)

edges_length : (o : Option ℕ) (more : List ℕ) (g : Graph) → length (edges_at o more g) ≡ length g
edges_length None more g = refl
edges_length (Some v) more g = length-set g v (get_or g v [] ++ more)

module _ (names : List Name) (v w : ℕ) where
  all_cases : (ps : List Part) (g : Graph) → HasEdge (all_edges names ps g) v w →
      HasEdge g v w ⊎ ((p : Part) × Contains ps p × EdgeOf names p v w)
  all_cases [] g h = inl h
  all_cases (p ∷ ps) g h =
      ⊎_elim (λ old. ⊎_elim (λ older. inl older) (λ one. inr (p, Contains-first ps p, one))
      (edge_cases names p g v w (position (bytes_eq p.name) names) refl old))
      (λ new. inr (new.0, Contains-later ps p new.0 new.1, new.2)) (all_cases ps (with_edges names p g) h)

  all_keep : (ps : List Part) (g : Graph) → HasEdge g v w → HasEdge (all_edges names ps g) v w
  all_keep [] g h = h
  all_keep (p ∷ ps) g h = all_keep ps (with_edges names p g) (edge_keeps names p g v w (position (bytes_eq p.name) names) h)

  all_new : (ps : List Part) (g : Graph) (p : Part) → Contains ps p → EdgeOf names p v w → v < length g → HasEdge (all_edges names ps g) v w
  all_new [] g p h e within = absurd (Contains-nil p h)
  all_new (x ∷ ps) g p h e within =
      ⊎_elim (λ same. all_keep ps (with_edges names x g) (edge_new names x g v w (subst (λ q. EdgeOf names q v w) (sym same) e) within))
      (λ more. all_new ps (with_edges names x g) p more e
      (subst (λ n. v < n) (sym (edges_length (position (bytes_eq x.name) names) (leaves_to names x) g)) within))
      (Contains-cons_cases ps x p h)

abbrev no_numbers : List ℕ
no_numbers = []

no_edge : (n v : ℕ) → get_or (replicate n no_numbers) v [] ≡ []
no_edge zero v = refl
no_edge (suc n) zero = refl
no_edge (suc n) (suc v) = no_edge n v

-- the whole graph
abbrev pub graph_for : List Name → List Part → Graph
graph_for names ps = all_edges names ps (replicate (length names) [])

pub graph_edge : (names : List Name) (ps : List Part) (v w : ℕ) → HasEdge (graph_for names ps) v w → (p : Part) × Contains ps p
    × EdgeOf names p v w
graph_edge names ps v w h =
    ⊎_elim (λ old. absurd (Contains-nil w (subst (λ es. Contains es w) (no_edge (length names) v) old))) (λ new. new)
    (all_cases names v w ps (replicate (length names) []) h)

pub edge_graph : (names : List Name) (ps : List Part) (v w : ℕ) (p : Part) → Contains ps p → EdgeOf names p v w →
    HasEdge (graph_for names ps) v w
edge_graph names ps v w p h e =
    all_new names v w ps (replicate (length names) []) p h e
    (subst (λ n. v < n) (sym (length-replicate (length names) [])) (at_number names p.name v e.0).0)

-- ---- the loops

pub texts_step : (names : List Name) (ps : List Part) (i : ℕ) (x : Part) → i < length ps → x ≡ get_or ps i x →
    with_texts (map part_name (drop i ps)) names ≡ with_texts (map part_name (drop (i + 1) ps)) (with_text names x.name)
texts_step names ps i x within is =
    at_drop_more (λ qs. with_texts (map part_name qs) names) ps i x within
    ∙ ap (λ (y : Part). with_texts (map part_name (drop (i + 1) ps)) (with_text names y.name)) (sym is)

pub texts_past : (names : List Name) (ps : List Part) (i : ℕ) → length ps ≤ i → with_texts (map part_name (drop i ps)) names ≡ names
texts_past names ps i h = at_drop_all (λ qs. with_texts (map part_name qs) names) ps i h

pub numbers_step : (names : List Name) (sought : List (Bor Name)) (i : ℕ) (x : Bor Name) → i < length sought → x ≡ get_or sought i x →
    numbers_of names (told_names (drop i sought)) ≡ number_of (position (bytes_eq x.now) names) ++ numbers_of names
    (told_names (drop (i + 1) sought))
numbers_step names sought i x within is =
    at_drop_more (λ qs. numbers_of names (told_names qs)) sought i x within
    ∙ ap (λ (y : Bor Name). number_of (position (bytes_eq y.now) names) ++ numbers_of names (told_names (drop (i + 1) sought))) (sym is)

-- what is there with the number of one more
pub numbers_more : (names : List Name) (sought : List (Bor Name)) (i : ℕ) (x : Bor Name) → i < length sought → x ≡ get_or sought i x →
    (all old new : List ℕ) (o : Option ℕ) →
    all ≡ old ++ numbers_of names (told_names (drop i sought)) → o ≡ position (bytes_eq x.now) names → new ≡ old ++ number_of o →
    all ≡ new ++ numbers_of names (told_names (drop (i + 1) sought))
numbers_more names sought i x within is all old new o before e f =
    let rest : List ℕ = numbers_of names (told_names (drop (i + 1) sought)) in
    before ∙ ap (λ (l : List ℕ). old ++ l) (numbers_step names sought i x within is) ∙
    sym (append_assoc old (number_of (position (bytes_eq x.now) names)) rest)
    ∙ ap (λ (l : List ℕ). l ++ rest) (ap (λ p. old ++ number_of p) (sym e) ∙ sym f)

pub numbers_past : (names : List Name) (sought : List (Bor Name)) (i : ℕ) → length sought ≤ i →
    numbers_of names (told_names (drop i sought)) ≡ []
numbers_past names sought i h = at_drop_all (λ qs. numbers_of names (told_names qs)) sought i h

pub edges_step : (names : List Name) (g : Graph) (ps : List Part) (i : ℕ) (x : Part) → i < length ps → x ≡ get_or ps i x →
    all_edges names (drop i ps) g ≡ all_edges names (drop (i + 1) ps) (with_edges names x g)
edges_step names g ps i x within is =
    at_drop_more (λ qs. all_edges names qs g) ps i x within ∙ ap (λ (y : Part). all_edges names (drop (i + 1) ps) (with_edges names y g))
    (sym is)

pub edges_past : (names : List Name) (g : Graph) (ps : List Part) (i : ℕ) → length ps ≤ i → all_edges names (drop i ps) g ≡ g
edges_past names g ps i h = at_drop_all (λ qs. all_edges names qs g) ps i h

pub ruleset text_steps = (common_steps, texts_step, texts_past)

pub ruleset number_steps = (common_steps, numbers_step, numbers_past)

pub ruleset edge_steps = (common_steps, edges_step, edges_past)

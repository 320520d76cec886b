-- The steps of the loops that make states and methods.
use Rattle.std.proofs.Common.{◌≡◌, ℕ, zero, suc, ◌+◌, ◌<◌, ◌≤◌, List, [], ◌∷◌, ◌++◌, length, get_or, drop, map, refl, sym, ap, ◌∙◌, Some}
use Rattle.std.proofs.Common.{None, arith, add-one, append_assoc, append-nil, false}
use Rattle.std.specs.Prelude.{slice_get}
use Rattle.std.proofs.lemmas.List.{at_drop_more, at_drop_all, map-append, reverse-append}
use Rattle.std.proofs.lemmas.Grind.{common_steps}
use Rattle.mg_text.specs.Call.{Name}
use Rattle.scr_tree.specs.Meaning.{message_of}
use Rattle.scr_trace.specs.declared.arrow.Arrow.{Arrow}
use Rattle.scr_trace.specs.inner.Laying.{Work, Cell, Draft}
use Rattle.scr_trace.specs.inner.View.{draft_of, drafts_of, edge_of, edges_of, standing_of}
use Rattle.ts_tree.specs.declared.parts.State.{State as KeptState}
use Rattle.ts_tree.specs.declared.parts.Method.{Method as KeptMethod}
use Rattle.ts_tree.specs.declared.parts.Branch.{Branch}
use Rattle.ts_tree.specs.Typestate.{State}
use Rattle.ts_tree.specs.View.{state_of, method_of as kept_method}
use Rattle.stm_gen.specs.Laid.{to_of, method_of, methods_of, branches_of, state_name}
use Rattle.stm_gen.specs.inner.States.{states_from}

-- ---- states

-- the states that are made, and those that are left, are all
pub one_more : (me : Name) (w : Work) (cells : List Cell) (k : ℕ) (c : Cell) (made : List KeptState) (s : KeptState) (all : List State) →
    k < length cells → Some c ≡ slice_get cells k → state_of s ≡ record {
      name = state_name k;
      methods = methods_of me (edges_of w c);
      drops = false;
    } →
    map state_of made ++ states_from me k (map (edges_of w) (drop k cells)) ≡ all →
    map state_of (made ++ s ∷ []) ++ states_from me (k + 1) (map (edges_of w) (drop (k + 1) cells)) ≡ all
one_more me w cells k c made s all h there is before =
    ap (λ l. l ++ states_from me (k + 1) (map (edges_of w) (drop (k + 1) cells))) (map-append state_of made (s ∷ []))
    ∙ append_assoc (map state_of made) (state_of s ∷ []) (states_from me (k + 1) (map (edges_of w) (drop (k + 1) cells)))
    ∙ ap (λ l. map state_of made ++ l)
    (ap (λ j. state_of s ∷ states_from me j (map (edges_of w) (drop (k + 1) cells))) (add-one k)
    ∙ ap (λ x. x ∷ states_from me (suc k) (map (edges_of w) (drop (k + 1) cells))) is
    ∙ ap (λ cs. states_from me k (map (edges_of w) cs)) (sym (at cells k there ∙ ap (λ n. c ∷ drop n cells) (sym (add-one k)))))
    ∙ before
  where
    at : (cs : List Cell) (j : ℕ) → Some c ≡ slice_get cs j → drop j cs ≡ c ∷ drop (suc j) cs
    at [] j e = cc
    at (x ∷ cs) zero e = let f : x ≡ c = cc e in ap (λ y. y ∷ cs) f
    at (x ∷ cs) (suc j) e = at cs j e

pub all_made : (me : Name) (w : Work) (cells : List Cell) (k : ℕ) (made all : List State) → length cells ≤ k →
    made ++ states_from me k (map (edges_of w) (drop k cells)) ≡ all → made ≡ all
all_made me w cells k made all h e = sym (append-nil made) ∙ sym (at_drop_all (λ cs. made ++ states_from me k (map (edges_of w) cs)) cells k
    h) ∙ e

-- a state of each number below the count is there
pub is_there : (cells : List Cell) (k : ℕ) → k < length cells → None ≡ slice_get cells k → ⊥
is_there [] k h e = let z : ⊥ = omega arith in z
is_there (c ∷ cells) zero h e = cc
is_there (c ∷ cells) (suc k) h e = is_there cells k (omega arith) e

pub ruleset state_steps = (common_steps, one_more, all_made)

-- ---- methods and branches

-- the arrows from an index on, as drafts: that of the index stands last
drafts-drop : (arrows : List Arrow) (i : ℕ) (a : Arrow) → i < length arrows → a ≡ get_or arrows i a → drafts_of (drop i arrows) ≡ drafts_of
    (drop (i + 1) arrows) ++ draft_of a ∷ []
drafts-drop arrows i a h e =
    at_drop_more drafts_of arrows i a h ∙ ap (λ (x : Arrow). drafts_of (x ∷ drop (i + 1) arrows)) (sym e)
    ∙ reverse-append (draft_of a ∷ []) (map draft_of (drop (i + 1) arrows))

methods-more : (me : Name) (w : Work) (ds : List Draft) (d : Draft) → methods_of me (map (edge_of w None) (ds ++ d ∷ [])) ≡ methods_of me
    (map (edge_of w None) ds) ++ method_of (message_of d.message) (standing_of w d.to) ∷ []
methods-more me w [] d = refl
methods-more me w (x ∷ ds) d = ap (λ ms. method_of (message_of x.message) (standing_of w x.to) ∷ ms) (methods-more me w ds d)

branches-more : (w : Work) (c : ℕ) (ds : List Draft) (d : Draft) → branches_of (map (edge_of w (Some c)) (ds ++ d ∷ [])) ≡ branches_of
    (map (edge_of w (Some c)) ds) ++ record { label = d.message.label; to = to_of (standing_of w d.to) } ∷ []
branches-more w c [] d = refl
branches-more w c (x ∷ ds) d = ap (λ bs. record { label = x.message.label; to = to_of (standing_of w x.to) } ∷ bs) (branches-more w c ds d)

pub method_more : (me : Name) (w : Work) (arrows : List Arrow) (i : ℕ) (a : Arrow) (made : List KeptMethod) (m : KeptMethod) →
    i < length arrows → a ≡ get_or arrows i a →
    kept_method m ≡ method_of (message_of a.message.now) (standing_of w a.to) →
    map kept_method made ≡ methods_of me (map (edge_of w None) (drafts_of (drop (i + 1) arrows))) →
    map kept_method (made ++ m ∷ []) ≡ methods_of me (map (edge_of w None) (drafts_of (drop i arrows)))
method_more me w arrows i a made m h e is before =
    map-append kept_method made (m ∷ []) ∙ (λ i. before i ++ is i ∷ []) ∙
    sym (methods-more me w (drafts_of (drop (i + 1) arrows)) (draft_of a))
    ∙ ap (λ ds. methods_of me (map (edge_of w None) ds)) (sym (drafts-drop arrows i a h e))

pub branch_more : (w : Work) (c : ℕ) (arrows : List Arrow) (i : ℕ) (a : Arrow) (made : List Branch) (b : Branch) → i < length arrows →
    a ≡ get_or arrows i a →
    b ≡ record { label = a.message.now.label; to = to_of (standing_of w a.to) } →
    made ≡ branches_of (map (edge_of w (Some c)) (drafts_of (drop (i + 1) arrows))) →
    made ++ b ∷ [] ≡ branches_of (map (edge_of w (Some c)) (drafts_of (drop i arrows)))
branch_more w c arrows i a made b h e is before =
    (λ i. before i ++ is i ∷ []) ∙ sym (branches-more w c (drafts_of (drop (i + 1) arrows)) (draft_of a))
    ∙ ap (λ ds. branches_of (map (edge_of w (Some c)) ds)) (sym (drafts-drop arrows i a h e))

pub drafts-past : (arrows : List Arrow) (i : ℕ) → length arrows ≤ i → drafts_of (drop i arrows) ≡ []
drafts-past arrows i h = at_drop_all drafts_of arrows i h

pub ruleset method_steps = (common_steps, method_more, drafts-past)

pub ruleset branch_steps = (common_steps, branch_more, drafts-past)

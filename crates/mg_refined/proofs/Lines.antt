-- The lines of calls, one after another.
use Rattle.std.proofs.Common.{◌≡◌, ℕ, ◌+◌, ◌<◌, ◌≤◌, List, [], ◌∷◌, ◌++◌, length, get_or, drop, map, append_assoc, refl, sym, ap, ◌∙◌}
use Rattle.std.proofs.lemmas.List.{at_drop_more, at_drop_all}
use Rattle.ts_refine.specs.declared.verdict.PathCall.{PathCall}
use Rattle.ts_refine.specs.Verdicts.{call_of}
use Rattle.mg_refined.specs.Refined.{call_line, calls_text}

nothing_behind : (text : List ℕ) → text ++ [] ≡ text
nothing_behind [] = refl
nothing_behind (c ∷ text) = ap (λ (t : List ℕ). c ∷ t) (nothing_behind text)

-- one line more
pub line_put : (calls : List PathCall) (i : ℕ) (call : PathCall) (before after whole : List ℕ) → i < length calls
    → call ≡ get_or calls i call → after ≡ before ++ call_line (call_of call)
    → before ++ calls_text (map call_of (drop i calls)) ≡ whole → after ++ calls_text (map call_of (drop (i + 1) calls)) ≡ whole
line_put calls i call before after whole lt is e rest =
    ap (λ (t : List ℕ). t ++ calls_text (map call_of (drop (i + 1) calls))) e
    ∙ append_assoc before (call_line (call_of call)) (calls_text (map call_of (drop (i + 1) calls)))
    ∙ ap (λ (c : PathCall). before ++ (call_line (call_of c) ++ calls_text (map call_of (drop (i + 1) calls)))) is
    ∙ ap (λ (t : List ℕ). before ++ t) (sym (at_drop_more (λ cs. calls_text (map call_of cs)) calls i call lt))
    ∙ rest

-- no line is left
pub lines_end : (calls : List PathCall) (i : ℕ) (before whole : List ℕ) → length calls ≤ i
    → before ++ calls_text (map call_of (drop i calls)) ≡ whole → before ≡ whole
lines_end calls i before whole past rest =
    sym (nothing_behind before) ∙ ap (λ (t : List ℕ). before ++ t) (sym (at_drop_all (λ cs. calls_text (map call_of cs)) calls i past)) ∙
    rest

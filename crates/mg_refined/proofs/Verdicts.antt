-- What is told of a verdict.
use Rattle.std.proofs.Common.{◌≡◌, ℕ, true, false, List, length, map, ap, sym, subst, ◌∙◌}
use Rattle.mg_text.specs.Row.{Row}
use Rattle.ts_tree.specs.Typestate.{Typestate}
use Rattle.ts_refine.specs.declared.verdict.Pair.{Pair}
use Rattle.ts_refine.specs.declared.verdict.PathCall.{PathCall}
use Rattle.ts_refine.specs.declared.verdict.Reason.{Reason}
use Rattle.ts_refine.specs.declared.verdict.Verdict.{Verdict}
use Rattle.ts_refine.specs.declared.verdict.Verdict.TheVariants as verdicts
use Rattle.ts_refine.specs.Verdicts.{call_of, IsVerdict}
use Rattle.mg_refined.specs.Refined.{yes_text, no_text, Tells, yes_told, no_told}

pub yes_tells : (a b : Typestate) (verdict : Verdict) (pairs : Row Pair) (count : ℕ) (text : List ℕ) → IsVerdict a b verdict
    → verdict ≡ verdicts.Yes pairs → count ≡ length pairs.items → text ≡ yes_text count → Tells a b text true
yes_tells a b verdict pairs count text h is counted told = subst (λ (t : List ℕ). Tells a b t true) (sym (told ∙ ap yes_text counted))
    (yes_told {pairs = pairs.items} (subst (IsVerdict a b) is h))

pub no_tells : (a b : Typestate) (verdict : Verdict) (calls : Row PathCall) (reason : Reason) (items : List PathCall) (text : List ℕ)
    → IsVerdict a b verdict → verdict ≡ verdicts.No calls reason → items ≡ calls.items → text ≡ no_text (map call_of items) reason
    → Tells a b text false
no_tells a b verdict calls reason items text h is listed told =
    subst (λ (t : List ℕ). Tells a b t false) (sym (told ∙ ap (λ (cs : List PathCall). no_text (map call_of cs) reason) listed))
    (no_told {calls = map call_of calls.items} {reason = reason} (subst (IsVerdict a b) is h))

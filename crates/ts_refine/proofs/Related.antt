-- The pairs that calls lead to are a relation.
use Rattle.std.proofs.Common.{List, [], ◌∷◌, ◌++◌, refl, ◌∙◌}
use Rattle.mg_text.specs.Call.{Call}
use Rattle.ts_tree.specs.Typestate.{Typestate}
use Rattle.ts_tree.specs.Calls.{initial}
use Rattle.ts_refine.specs.declared.verdict.Pair.{Pair}
use Rattle.ts_refine.specs.declared.verdict.Verdict.{Verdict}
use Rattle.ts_refine.specs.declared.verdict.Verdict.TheVariants as verdicts
use Rattle.ts_refine.specs.Relations.{Goes, IsRelation, initial_pair}
use Rattle.ts_refine.specs.Verdicts.{IsReached, Stands, IsVerdict, RelationOfYes}
use Rattle.ts_refine.proofs.Ordering.{led-more, answered-more}

-- one call more
reached_on : (a b : Typestate) (from to : Pair) (call : Call) → IsReached a b from → Goes a b from call to → IsReached a b to
reached_on a b from to call r g = record {
  calls = r.calls ++ call ∷ [];
  reach = record {
    in_a = led-more a (initial a) from.a r.calls call r.reach.in_a ∙ g.in_a;
    in_b = led-more b (initial b) from.b r.calls call r.reach.in_b ∙ g.in_b;
    answered = answered-more b (initial b) from.b to.b r.calls call r.reach.in_b r.reach.answered g.answered g.in_b;
  };
}

pub stands_relates : (a b : Typestate) (pairs : List Pair) → Stands a b pairs → IsRelation a b pairs
stands_relates a b pairs s = record {
  begins = s.all (initial_pair a b) (record { calls = []; reach = record { in_a = refl; in_b = refl; answered = tt } });
  stands = λ pair reason c fails. let r = s.only pair c in s.stands r.calls pair.a pair.b reason r.reach fails;
  closed = λ from to call c goes. s.all to (reached_on a b from to call (s.only from c) goes);
}

pub verdict_relates : (a b : Typestate) (verdict : Verdict) → IsVerdict a b verdict → RelationOfYes a b verdict
verdict_relates a b (verdicts.Yes pairs) s = stands_relates a b pairs.items s
verdict_relates a b (verdicts.No calls reason) f = tt

use Rattle.std.proofs.Common.{◌≡◌, ◌∙◌, ℕ, List, [], ◌∷◌, ◌++◌, map, take, sym, ap, subst, arith, codes, string_bytes, refl, Some, None}
use Rattle.std.proofs.Common.{Err}
use Rattle.std.proofs.lemmas.List.{append-nil}
use Rattle.std.proofs.lemmas.Map.Text.{hash_set_updates_text}
use Rattle.mg_read.proofs.Scanning.{left_start}
use Rattle.mg_read.specs.First.{Judged, with_earlier}
use Rattle.mg_refusal.specs.Refusals.{refusal_at}
use Rattle.mg_refusal.specs.Order.{Answers}
use Rattle.mg_refusal.specs.declared.stop.Stop.{Stop}
use Rattle.mg_sources.specs.Files.{sources}
use Rattle.mg_sources.specs.Sources.{SharesRole}
use Rattle.mg_sources.specs.Parts.{part_of}
use Rattle.mg_sources.proofs.RoleLemmas.{HasExactly, roles, nothing_yet, end_of, shared, apart, exact_next, without_role, roles_next}
use Rattle.mg_sources.proofs.parts.check_roles.Goals as goal

pub loop-number-init : goal.loop-number-init
loop-number-init c = record {
  left = λ names contents each. left_start SharesRole _;
  exact = nothing_yet c.new-roles.result c.new-roles.ensures.empty;
}

pub loop-number-preserved-in-None : goal.loop-number-preserved-in-None
loop-number-preserved-in-None c =
    let none = c.in-None.ensures.none refl in
    let was = roles (take c.loop-number.number (map part_of c.args.parts.now)) in
    record {
      left = λ names contents each.
          without_role c.args.parts.now c.loop-number.number names contents each (c.loop-number.invariant.left names contents each)
          c.loop-number-test.true c.index-parts-number.result c.index-parts-number.is none;
      exact = subst (HasExactly c.loop-number.roles)
          (sym (roles_next c.args.parts.now c.loop-number.number c.loop-number-test.true c.index-parts-number.result
          c.index-parts-number.is ∙ ap (λ (z : List (List ℕ)). was ++ z) none ∙ append-nil was)) c.loop-number.invariant.exact;
    }

pub returns-then-not-branch : goal.returns-then-not-branch
returns-then-not-branch c = λ names contents each.
    let key_is : string_bytes c.in_ok-from_str.field-0 ≡ c.in-Some.role.now = c.in_ok-from_str.ensures.ok ∙ c.as_str.ensures in
    subst (λ (z : Stop). Answers (λ (done : Unit {0}). Judged SharesRole (with_earlier (sources names contents)) None)
    (λ r. Judged SharesRole (with_earlier (sources names contents)) (Some r)) (Err z)) (sym c.named.ensures)
    (shared c.args.parts.now c.loop-number.number names contents each (c.loop-number.invariant.left names contents each)
    c.loop-number-test.true c.index-parts-number.result c.index-parts-number.is
    c.loop-number.roles c.loop-number.invariant.exact c.in-Some.role.now c.in-Some.ensures.some (string_bytes c.in_ok-from_str.field-0)
    key_is
    (sym c.in_ok-insert.ensures.added ∙ c.if-not-branch.true) _
    (λ i. refusal_at (codes "SameRole") (c.start-place.ensures i) (c.in_ok-name.ensures i)))

pub loop-number-preserved : goal.loop-number-preserved
loop-number-preserved c =
    let key_is : string_bytes c.in_ok-from_str.field-0 ≡ c.in-Some.role.now = c.in_ok-from_str.ensures.ok ∙ c.as_str.ensures in
    let was = roles (take c.loop-number.number (map part_of c.args.parts.now)) in
    record {
      left = λ names contents each.
          apart c.args.parts.now c.loop-number.number names contents each (c.loop-number.invariant.left names contents each)
          c.loop-number-test.true c.index-parts-number.result c.index-parts-number.is c.loop-number.roles c.loop-number.invariant.exact
          c.in-Some.role.now c.in-Some.ensures.some (string_bytes c.in_ok-from_str.field-0) key_is
          (sym c.in_ok-insert.ensures.added ∙ c.if-not-branch.false);
      exact = exact_next c.loop-number.roles c.insert.new.self was _ (string_bytes c.in_ok-from_str.field-0)
          (roles_next c.args.parts.now c.loop-number.number c.loop-number-test.true c.index-parts-number.result
          c.index-parts-number.is ∙ ap (λ (z : List (List ℕ)). was ++ z) (c.in-Some.ensures.some ∙ ap (λ (z : List ℕ). z ∷ [])
          (sym key_is)))
          c.loop-number.invariant.exact
          (hash_set_updates_text (string_bytes c.in_ok-from_str.field-0) c.loop-number.roles c.insert.new.self _
          c.in_ok-insert.ensures.updates);
    }

pub returns : goal.returns
returns c = λ names contents each.
    end_of c.args.parts.now c.loop-number.number names contents each (c.loop-number.invariant.left names contents each) (omega arith)

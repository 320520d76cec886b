use Rattle.std.proofs.Common.{◌≡◌, ◌≢◌, ◌+◌, Bool, true, false, not, Some, None, take, refl, sym, ap, subst, ◌∙◌, inl, inr, ⊎_elim}
use Rattle.std.proofs.Common.{true≢false, arith, rules}
use Rattle.std.specs.HashMap.{get_by_text}
use Rattle.std.specs.Str.{bytes_eq}
use Rattle.std.proofs.lemmas.Slice.Eq.{bytes_eq-Decides}
use Rattle.mg_text.specs.Call.{Name}
use Rattle.mg_read.specs.First.{Judged, with_earlier}
use Rattle.mg_read.proofs.Scanning.{left_end, left_here, left_later}
use Rattle.scr_judge.specs.inner.Listed.{DeclaredTwice, alias_of, class_of}
use Rattle.scr_judge.proofs.KeyTable.{Indexes}
use Rattle.scr_judge.proofs.KeySteps.{below, differs, same_fine, same_indexes, none_fine, new_indexed}
use Rattle.scr_judge.proofs.declared.find_declared_twice.Goals as goal
use Rattle.scr_judge.proofs.declared.find_declared_twice.Goals.{in-Some+else-ne, in-None+in_ok-key-in-None+in_ok-insert-in-None}

-- what the test of two classes says
unequal : (a b : Name) → true ≡ not (bytes_eq a b) → a ≢ b
unequal a b e same = true≢false (e ∙ ap not ((bytes_eq-Decides a b).1 same))

equal : (a b : Name) → false ≡ not (bytes_eq a b) → a ≡ b
equal a b e = (bytes_eq-Decides a b).0 (true_of (bytes_eq a b) e)
  where
    true_of : (t : Bool) → false ≡ not t → t ≡ true
    true_of true n = refl
    true_of false n = n

pub returns-then-is_otherwise : goal.returns-then-is_otherwise
returns-then-is_otherwise c =
    subst (λ k. Judged DeclaredTwice (with_earlier c.args.types.now) (Some k)) (sym c.culprit_at.ensures)
    (left_here DeclaredTwice c.loop-i.invariant.left c.index-types-i.result c.loop-i-test.true c.index-types-i.is _
    (refl, inl (c.if-is_otherwise.ensures.0 refl)))

pub bounds-types-first : goal.bounds-types-first
bounds-types-first c =
    let seen : get_by_text c.loop-i.firsts c.index-types-i.result.alias ≡ Some c.in-Some.first.now =
    ap (get_by_text c.loop-i.firsts) (sym c.as_str.ensures) ∙ sym c.in-Some.ensures.value in
    below alias_of class_of c.loop-i.firsts c.args.types.now c.loop-i.i c.index-types-i.result c.loop-i-test.true c.index-types-i.is
    c.loop-i.invariant.indexes c.in-Some.first.now seen

pub offset_bounds-types-first : goal.offset_bounds-types-first
offset_bounds-types-first c = let within = bounds-types-first c in search rules

pub returns-then-ne : goal.returns-then-ne
returns-then-ne c =
    let seen : get_by_text c.loop-i.firsts c.index-types-i.result.alias ≡ Some c.in-Some.first.now =
    ap (get_by_text c.loop-i.firsts) (sym c.as_str.ensures) ∙ sym c.in-Some.ensures.value in
    subst (λ k. Judged DeclaredTwice (with_earlier c.args.types.now) (Some k)) (sym c.culprit_at-then-ne.ensures)
    (left_here DeclaredTwice c.loop-i.invariant.left c.index-types-i.result c.loop-i-test.true c.index-types-i.is _ (
      refl,
      inr (differs alias_of class_of c.loop-i.firsts c.args.types.now c.loop-i.i c.index-types-i.result c.loop-i-test.true
          c.index-types-i.is c.loop-i.invariant.indexes c.in-Some.first.now seen
          c.index-types-first.result c.index-types-first.is (λ same. unequal _ _ c.if-ne.ensures (sym (ap class_of c.index-types-first.is) ∙
          same))),
    ))

pub loop-i-preserved : goal.loop-i-preserved
loop-i-preserved c =
    elim c.match-get.branch [
      | in-Some+else-ne w ↦
          let seen : get_by_text c.loop-i.firsts c.index-types-i.result.alias ≡ Some w.in-Some.first.now =
          ap (get_by_text c.loop-i.firsts) (sym c.as_str.ensures) ∙ sym w.in-Some.ensures.value in
          let same : w.index-types-first.result.class ≡ c.index-types-i.result.class = ap class_of w.index-types-first.is ∙
          equal _ _ w.if-ne.ensures in
          record {
            indexes = subst (λ m. Indexes alias_of class_of m (take (c.loop-i.i + 1) c.args.types.now)) (sym w.firsts-is)
                (same_indexes alias_of class_of c.loop-i.firsts c.args.types.now c.loop-i.i c.index-types-i.result c.loop-i-test.true
                c.index-types-i.is c.loop-i.invariant.indexes
                w.in-Some.first.now seen w.index-types-first.result w.index-types-first.is same);
            left = left_later DeclaredTwice c.loop-i.invariant.left c.index-types-i.result c.loop-i-test.true c.index-types-i.is
                (λ k a. ⊎_elim (λ o. true≢false (sym (c.if-is_otherwise.ensures.1 o)))
                (same_fine alias_of class_of c.loop-i.firsts c.args.types.now c.loop-i.i c.index-types-i.result c.loop-i-test.true
                c.index-types-i.is c.loop-i.invariant.indexes
                w.in-Some.first.now seen w.index-types-first.result w.index-types-first.is same) a.1);
          }
      | in-None+in_ok-key-in-None+in_ok-insert-in-None w ↦
          let none : get_by_text c.loop-i.firsts c.index-types-i.result.alias ≡ None =
          ap (get_by_text c.loop-i.firsts) (sym c.as_str.ensures) ∙ sym w.in-None.ensures.value in
          record {
            indexes = subst (λ m. Indexes alias_of class_of m (take (c.loop-i.i + 1) c.args.types.now)) (sym w.firsts-is)
                (new_indexed alias_of class_of c.loop-i.firsts c.args.types.now c.loop-i.i c.index-types-i.result c.loop-i-test.true
                c.index-types-i.is c.loop-i.invariant.indexes none
                w.insert.new.self w.in_ok-key-in-None.key (w.in_ok-key-in-None.ensures.ok ∙ w.as_str-in-None.ensures)
                w.in_ok-insert-in-None.ensures.updates);
            left = left_later DeclaredTwice c.loop-i.invariant.left c.index-types-i.result c.loop-i-test.true c.index-types-i.is
                (λ k a. ⊎_elim (λ o. true≢false (sym (c.if-is_otherwise.ensures.1 o)))
                (none_fine alias_of class_of c.loop-i.firsts c.args.types.now c.loop-i.i c.index-types-i.result c.loop-i-test.true
                c.index-types-i.is c.loop-i.invariant.indexes none) a.1);
          }
    ]

pub returns : goal.returns
returns c = left_end DeclaredTwice c.loop-i.invariant.left (omega arith)

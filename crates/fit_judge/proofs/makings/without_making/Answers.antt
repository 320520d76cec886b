use Rattle.std.proofs.Common.{Some, List, map, take, take_all, refl, sym, ap, ◌∙◌, subst, true≢false}
use Rattle.std.specs.Map.{update}
use Rattle.std.specs.HashMap.{get_by_text}
use Rattle.std.specs.String.{string_bytes}
use Rattle.std.specs.Str.{bytes_eq}
use Rattle.std.proofs.lemmas.Map.Text.{hash_map_updates_text}
use Rattle.std.proofs.lemmas.Option.{none-some, same_Some}
use Rattle.mg_text.specs.Call.{Name}
use Rattle.jv_core.specs.Tree.{Method}
use Rattle.jv_core.specs.View.{method_of}
use Rattle.fit_judge.specs.inner.Making.{made_by}
use Rattle.fit_judge.specs.inner.Used.{makes_none}
use Rattle.fit_judge.proofs.Tables.{methods_more}
use Rattle.fit_judge.proofs.Notes.{Notes, notes_same, notes_more, notes_are}
use Rattle.fit_judge.proofs.makings.without_making.Goals as goal

pub loop-method-preserved-then-not-is_main : goal.loop-method-preserved-then-not-is_main
loop-method-preserved-then-not-is_main c = λ mains by.
    let all = c.methods-method-items.result.now in
    let i = c.loop-method.method-index in
    subst (λ (ms : List Method). Notes c.args.core.now mains ms (get_by_text c.loop-method.places))
    (sym (methods_more all i c.method-item.result c.loop-method-test.true c.method-item.is))
    (notes_same c.args.core.now mains (map method_of (take i all)) (method_of c.method-item.result) (get_by_text c.loop-method.places)
    (c.loop-method.invariant mains by)
    (λ name place is. true≢false (sym is.main ∙ (sym c.is_main.ensures ∙ c.if-not-is_main.true))))

pub loop-method-preserved-in_default : goal.loop-method-preserved-in_default
loop-method-preserved-in_default c = λ mains by.
    let all = c.methods-method-items.result.now in
    let i = c.loop-method.method-index in
    subst (λ (ms : List Method). Notes c.args.core.now mains ms (get_by_text c.loop-method.places))
    (sym (methods_more all i c.method-item.result c.loop-method-test.true c.method-item.is))
    (notes_same c.args.core.now mains (map method_of (take i all)) (method_of c.method-item.result) (get_by_text c.loop-method.places)
    (c.loop-method.invariant mains by)
    (λ name place is. none-some name (c.in_default.ensures ∙ is.class)))

pub loop-method-preserved-then-not-makes_none : goal.loop-method-preserved-then-not-makes_none
loop-method-preserved-then-not-makes_none c = λ mains by.
    let all = c.methods-method-items.result.now in
    let i = c.loop-method.method-index in
    let m = method_of c.method-item.result in
    subst (λ (ms : List Method). Notes c.args.core.now mains ms (get_by_text c.loop-method.places))
    (sym (methods_more all i c.method-item.result c.loop-method-test.true c.method-item.is))
    (notes_same c.args.core.now mains (map method_of (take i all)) m (get_by_text c.loop-method.places)
    (c.loop-method.invariant mains by)
    (λ name place is. true≢false (sym is.none
    ∙ ap (λ (n : Name). makes_none (made_by c.args.core.now mains n) m) (sym (same_Some c.in-Some.class.now name (c.in-Some.ensures ∙ is.class)))
    ∙ ap (λ o. makes_none o m) (sym (by c.in-Some.class.now))
    ∙ (sym c.makes_none.ensures ∙ c.if-not-makes_none.true))))

pub loop-method-preserved : goal.loop-method-preserved
loop-method-preserved c = λ mains by.
    let all = c.methods-method-items.result.now in
    let i = c.loop-method.method-index in
    let m = method_of c.method-item.result in
    subst (λ (ms : List Method). Notes c.args.core.now mains ms (get_by_text c.insert.new.self))
    (sym (methods_more all i c.method-item.result c.loop-method-test.true c.method-item.is))
    (notes_more c.args.core.now mains (map method_of (take i all)) m (get_by_text c.loop-method.places)
    (c.loop-method.invariant mains by) c.in-Some.class.now c.method-item.result.place
    (record {
      main = sym c.is_main.ensures ∙ c.if-not-is_main.false;
      class = sym c.in-Some.ensures;
      none = ap (λ o. makes_none o m) (sym (by c.in-Some.class.now)) ∙ (sym c.makes_none.ensures ∙ c.if-not-makes_none.false);
      stands = refl;
    })
    (get_by_text c.insert.new.self)
    (λ q. hash_map_updates_text (string_bytes c.in_ok-name.name) c.loop-method.places c.insert.new.self _ c.in_ok-insert.ensures.updates q
    ∙ ap (λ (z : Name). update bytes_eq (get_by_text c.loop-method.places) z (Some c.method-item.result.place) q) c.in_ok-name.ensures.ok))

pub returns : goal.returns
returns c = λ mains by.
    let all = c.methods-method-items.result.now in
    notes_are c.args.core.now mains c.loop-method.places
    (subst (λ (ms : List Method). Notes c.args.core.now mains ms (get_by_text c.loop-method.places))
    (ap (map method_of) (take_all c.loop-method.method-index all c.loop-method-test.false) ∙ c.methods-method-items.ensures.all)
    (c.loop-method.invariant mains by))

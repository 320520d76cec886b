use Rattle.std.proofs.Common.{◌≡◌, ◌++◌, true, Some, sym, ap, ◌∙◌, position}
use Rattle.std.specs.Option.{option_map}
use Rattle.std.specs.Str.{bytes_eq}
use Rattle.std.proofs.lemmas.Result.{on_ok_weaker}
use Rattle.mg_text.specs.Call.{Name}
use Rattle.scr_tree.specs.View.{statements}
use Rattle.scr_judge.specs.inner.Round.{edges_at, gone, leaves_to, numbers_of}
use Rattle.scr_judge.specs.inner.View.{graph_of, told_names}
use Rattle.scr_judge.proofs.cycles.add_edges.Goals as goal

pub returns : goal.returns
returns c =
    let number : Some c.in-Some.from.0 ≡ position (bytes_eq c.args.part.now.name) c.args.names.now =
    ap (option_map (λ n. n.0)) (sym c.in-Some.is) ∙ c.find.ensures ∙ ap (λ (t : Name). position (bytes_eq t) c.args.names.now)
    c.as_str.ensures in
    let told : told_names c.as_slice-2.result.now ≡ gone true (statements c.args.part.now.body.items) =
    ap told_names c.as_slice-2.ensures.value ∙ c.in_ok-gone_all.ensures.names
    ∙ ap (λ l. told_names l ++ gone true (statements c.as_slice.result.now)) c.new-gone.ensures.items ∙
    ap (λ b. gone true (statements b)) c.as_slice.ensures.items in
    let leads : c.as_slice-3.result.now ≡ leaves_to c.args.names.now c.args.part.now =
    c.as_slice-3.ensures.value ∙ c.in_ok-more.ensures ∙ ap (numbers_of c.args.names.now) told in
    on_ok_weaker c.add_to.result (λ e. e ∙ (λ i. edges_at (number i) (leads i) (graph_of c.args.targets.now))) c.add_to.ensures

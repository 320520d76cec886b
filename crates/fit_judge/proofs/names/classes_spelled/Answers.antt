use Rattle.std.proofs.Common.{◌≡◌, ◌↔◌, IsTrue, List, map, Contains, ap, sym, subst, ◌∙◌, arith, string_bytes}
use Rattle.std.proofs.lemmas.Simd.{map-map}
use Rattle.std.specs.HashSet.{contains_text}
use Rattle.scr_tree.specs.Tree.{LocalTree}
use Rattle.scr_tree.specs.Local.{tree_of as local_of}
use Rattle.stm_acts.specs.Played.{role_class}
use Rattle.mg_text.specs.Call.{Name}
use Rattle.mg_sources.specs.Parts.{part_of}
use Rattle.mg_fits.specs.Parts.{protocols_in}
use Rattle.scr_judge.proofs.Duplicates.{has_none}
use Rattle.fit_judge.proofs.Sets.{keys_more, keys_same, keys_all}
use Rattle.fit_judge.proofs.names.classes_spelled.Goals as goal

pub loop-part-init : goal.loop-part-init
loop-part-init c = has_none _ c.no_names-names.ensures

pub loop-part-preserved-in-None : goal.loop-part-preserved-in-None
loop-part-preserved-in-None c =
    keys_same (λ (l : LocalTree). role_class l.me) c.args.parts.now c.loop-part.part-index c.part-item.result c.loop-part-test.true c.part-item.is
    (contains_text c.loop-part.names) c.loop-part.invariant c.in-None.ensures

pub loop-part-preserved : goal.loop-part-preserved
loop-part-preserved c =
    let same : string_bytes c.in_ok-name.name ≡ role_class c.in-Some.local.now.me
    = c.in_ok-name.ensures ∙ ap role_class (c.as_str.ensures ∙ c.me.ensures) in
    keys_more (λ (l : LocalTree). role_class l.me) c.args.parts.now c.loop-part.part-index c.part-item.result c.loop-part-test.true c.part-item.is
    (contains_text c.loop-part.names) (local_of c.in-Some.local.now) (string_bytes c.in_ok-name.name)
    (contains_text c.add_name.new.names) c.loop-part.invariant c.in-Some.ensures same c.in_ok-add_name.ensures.names

pub returns : goal.returns
returns c q =
    let protocols = protocols_in (map part_of c.args.parts.now) in
    subst (λ (ns : List Name). IsTrue (contains_text c.loop-part.names q) ↔ Contains ns q)
    (sym (map-map role_class (λ (l : LocalTree). l.me) protocols))
    (keys_all (λ (l : LocalTree). role_class l.me) c.args.parts.now c.loop-part.part-index (omega arith) (contains_text c.loop-part.names)
    c.loop-part.invariant q)

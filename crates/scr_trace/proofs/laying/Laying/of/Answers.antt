use Rattle.std.proofs.Common.{◌≡◌, ◌∙◌, ap, sym, subst, map, length, List, refl}
use Rattle.std.specs.Vec.{with_items}
use Rattle.std.proofs.lemmas.List.{with_items_is}
use Rattle.scr_tree.specs.Local.{tree_of}
use Rattle.scr_tree.specs.Tree.{other}
use Rattle.scr_tree.specs.View.{statements, part_of}
use Rattle.scr_trace.specs.declared.arrow.Hop.{Hop}
use Rattle.scr_trace.specs.declared.arrow.Hop.TheVariants as hops
use Rattle.scr_trace.specs.inner.Laying.{Work, nothing, number_in, part_laid, parts_laid, laid_parts, Settled}
use Rattle.scr_trace.specs.inner.View.{number_by, cells_of, work_of}
use Rattle.scr_trace.proofs.Automaton.{automates}
use Rattle.scr_trace.proofs.Ending.{settled_out}
use Rattle.scr_trace.proofs.laying.Laying.of.Goals as goal

pub returns-clause-laid : goal.returns-clause-laid
unfolding number_by
returns-clause-laid c =
    let me : c.as_str-me.result.now ≡ (tree_of c.args.local.now).me = c.as_str-me.ensures ∙ c.me.ensures in
    let numbers : number_by c.in_ok-names.names ≡ number_in (tree_of c.args.local.now) = λ i q. c.in_ok-names.ensures q i in
    let others : map part_of c.as_slice.result.now ≡ (tree_of c.args.local.now).others = ap (map part_of) c.as_slice.ensures.items ∙
    c.others.ensures in
    let body : statements c.as_slice-2.result.now ≡ (tree_of c.args.local.now).body = ap statements c.as_slice-2.ensures.items ∙
    c.body.ensures in
    let start : Work = record {
      cells = cells_of c.new.result.items;
      loops = c.new-2.result.items;
      entries = c.new-3.result.items;
      choices =
          0;
      next = hops.End;
    } in
    let empty : start ≡ nothing = λ i. record {
      cells = cells_of (c.new.ensures i);
      loops = c.new-2.ensures.items i;
      entries =
          c.new-3.ensures.items i;
      choices = 0;
      next = hops.End;
    } in
    let behind : work_of c.lay_others.new.out ≡ parts_laid (tree_of c.args.local.now).me (number_in (tree_of c.args.local.now))
    (map other (tree_of c.args.local.now).others) nothing =
    c.in_ok-lay_others.ensures ∙ (λ i. parts_laid (me i) (numbers i) (map other (others i)) (empty i)) in
    let laid : work_of c.lay_part.new.out ≡ laid_parts (tree_of c.args.local.now) =
    c.in_ok-lay_part.ensures ∙ (λ i. part_laid (me i) (numbers i) (body i) (behind i)) in
    let size : length c.settle.new.entries ≡ c.lay_part.new.out.entries.len = c.settle.auto.entries ∙ c.deref_mut.ensures.len in
    let written : List Hop = (with_items c.lay_part.new.out.entries c.settle.new.entries).items in
    let settled : Settled c.lay_part.new.out.entries.items written =
    subst (Settled c.lay_part.new.out.entries.items) (sym (with_items_is c.lay_part.new.out.entries c.settle.new.entries size))
    (subst (λ (es : List Hop). Settled es c.settle.new.entries) c.deref_mut.ensures.value c.settle.ensures) in
    settled_out (tree_of c.args.local.now) (work_of c.lay_part.new.out)
    (record {
      cells = cells_of c.lay_part.new.out.exits.items;
      loops = c.lay_part.new.out.loops.items;
      entries = written;
      choices =
          c.lay_part.new.out.choices;
      next = c.lay_part.new.out.next;
    })
    laid refl settled

pub returns-clause-automaton : goal.returns-clause-automaton
returns-clause-automaton c = automates (tree_of c.args.local.now) c.args.local.now.valid _ (returns-clause-laid c)

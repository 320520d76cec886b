use Rattle.std.proofs.Common.{◌++◌, map, flat_map, ap, ◌∙◌}
use Rattle.indexmap.specs.IndexMap.{get}
use Rattle.mg_text.specs.Call.{Name}
use Rattle.use_flow.specs.View.{reached_of, tables_of, sight_of}
use Rattle.use_sights.specs.declared.site.Site.{Site}
use Rattle.mg_shown.specs.inner.Lines.{line_at}
use Rattle.mg_shown.specs.inner.Seeing.{at_place}
use Rattle.mg_shown.proofs.Seeing.{key_eq}
use Rattle.mg_shown.proofs.Telling.{all_told}
use Rattle.mg_shown.proofs.shown.show.Goals as goal

pub put_sites-requires : goal.put_sites-requires
put_sites-requires c = c.in_ok-met.ensures.made

pub returns : goal.returns
returns c =
    let met = c.in_ok-met.ensures in
    let t = c.in_ok-met.met.tables in
    let names = c.args.names.now in
    let p = c.args.core.now in
    let find = get key_eq c.in_ok-seen.seen in
    record {
      reached = reached_of t;
      are = met.made.reached;
      tables = tables_of t;
      least = met.least;
      sites = c.in_ok-sites.sites.items;
      listed = c.in_ok-sites.ensures;
      is = c.from_string.ensures ∙ c.in_ok-put_sites.ensures
          ∙ ap (λ (xs : Name). xs ++ flat_map (λ (s : Site). line_at names p s (at_place find s.place)) c.as_slice-2.result.now)
          c.new-out.ensures.bytes
          ∙ ap (flat_map (λ (s : Site). line_at names p s (at_place find s.place))) c.as_slice-2.ensures.value
          ∙ all_told names p (reached_of t) (tables_of t) (map sight_of c.as_slice.result.now) find c.in_ok-sites.sites.items
          c.in_ok-seen.ensures (ap (map sight_of) c.as_slice.ensures.items ∙ met.sights);
    }

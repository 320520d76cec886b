use Rattle.std.proofs.Common.{arith}
use Rattle.std.specs.Prelude.{string_bytes}
use Rattle.indexmap.specs.IndexMap.{get}
use Rattle.jv_core.specs.declared.tree.Var.TheVariants as vars
use Rattle.use_sights.specs.declared.site.Site.{Site}
use Rattle.mg_shown.specs.inner.Lines.{line_at}
use Rattle.mg_shown.specs.inner.Seeing.{at_place}
use Rattle.mg_shown.proofs.Putting.{put_at, put_all}
use Rattle.mg_shown.proofs.Seeing.{key_eq}
use Rattle.mg_shown.proofs.shown.Shower.put_sites.Goals as goal

abbrev none_there : Site
none_there = record {
  place = record { file = 0; line = 0; column = 0 };
  within = 0;
  variable = vars.Slot 0;
  method = 0;
}

pub loop-site-preserved : goal.loop-site-preserved
loop-site-preserved c =
    put_at (λ (s : Site). line_at c.args.self.now.names.now c.args.self.now.core.now s (at_place (get key_eq c.args.seen.now) s.place))
    c.args.sites.now c.loop-site.site-index (string_bytes c.loop-site.out) none_there (string_bytes c.put_seen.new.out) _
    c.loop-site-test.true c.in_ok-put_seen.ensures c.loop-site.invariant

pub returns : goal.returns
returns c =
    put_all (λ (s : Site). line_at c.args.self.now.names.now c.args.self.now.core.now s (at_place (get key_eq c.args.seen.now) s.place))
    c.args.sites.now c.loop-site.site-index (string_bytes c.loop-site.out) _ (omega arith) c.loop-site.invariant

use Rattle.ts_tree.specs.View.{method_of}
use Rattle.lsp_offers.specs.inner.Seen.{seen}
use Rattle.lsp_offers.proofs.Meeting.{met_kept, met_more, seen_push}
use Rattle.lsp_offers.proofs.firsts.put_first.Goals as goal

pub returns-in_ok-push-clause-met : goal.returns-in_ok-push-clause-met
returns-in_ok-push-clause-met c =
    met_more c.args.by c.args.met.now c.note.new.met (seen c.args.found.now.items) (method_of c.args.method.now) c.text_by.result.now
    c.in_ok-fresh.fresh c.requires c.text_by.ensures c.in_ok-fresh.ensures.new c.in_ok-fresh.ensures.texts (seen c.push.new.self.items)
    (seen_push _ _ c.args.method c.in_ok-push.ensures.items) c.if-fresh.true

pub returns-else-fresh-clause-met : goal.returns-else-fresh-clause-met
returns-else-fresh-clause-met c =
    met_kept c.args.by c.args.met.now c.note.new.met (seen c.args.found.now.items) (method_of c.args.method.now) c.text_by.result.now
    c.in_ok-fresh.fresh c.requires c.text_by.ensures c.in_ok-fresh.ensures.new c.in_ok-fresh.ensures.texts c.if-fresh.false

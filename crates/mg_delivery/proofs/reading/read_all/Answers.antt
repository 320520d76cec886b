use Rattle.std.proofs.Common.{ℕ, ◌+◌, ◌∷◌, ◌++◌, [], take, drop, refl, ap, ◌∙◌, append-nil, arith, List, Err, Result}
use Rattle.std.proofs.lemmas.Result.{err_from_is_err_and}
use Rattle.mg_text.specs.Row.{Row}
use Rattle.mg_delivery.specs.declared.reading.Unread.{Unread}
use Rattle.mg_delivery.proofs.ReadingLemmas.{read_more, read_all, split_at, unchanged, no_memory, none_read}
use Rattle.mg_delivery.proofs.reading.read_all.Goals as goal

abbrev failed : Unread → Result (Row (List ℕ)) Unread
failed f = Err f

pub loop-name-init : goal.loop-name-init
loop-name-init g c = record {
  read = none_read c.args.limit (g.F.Folder.files c.args.folder.now) c.new-contents.result.items
      c.new-contents.ensures;
  files = refl;
  reads = refl;
  writes = refl;
}

pub returns-in_err-push-in-Ok : goal.returns-in_err-push-in-Ok
returns-in_err-push-in-Ok g c = λ o e.
    let r = c.in-Ok.ensures in
    let l = c.loop-name.invariant in
    let f = err_from_is_err_and c.from_residual.result c.from_residual.ensures.1 in
    no_memory c.args.limit _ _ _ c.from_residual.result (f.1 ∙ ap failed f.2)
    (unchanged _ _ _ _ _ _ o e (r.files ∙ l.files) (r.failed_reads ∙ append-nil _ ∙ l.reads) (r.failed_writes ∙ l.writes))

pub returns-in-Err-Failed : goal.returns-in-Err-Failed
returns-in-Err-Failed g c = λ o e.
    let r = rw c.in-Err-Failed.field-0-is at c.in-Err-Failed.ensures in
    let l = c.loop-name.invariant in (
      take c.loop-name.name-index c.args.names.now,
      drop (c.loop-name.name-index + 1) c.args.names.now,
      c.loop-name.contents.items,
      split_at c.args.names.now c.loop-name.name-index _ c.loop-name-test.true c.name-item.is,
      l.read,
      unchanged _ _ _ _ _ _ o e (r.files ∙ l.files) (r.failed_reads ∙ (λ i. l.reads i ++ c.as_str.ensures i ∷ []))
          (r.failed_writes ∙ l.writes),
    )

pub returns-in-Err-Memory : goal.returns-in-Err-Memory
returns-in-Err-Memory g c = λ o e.
    let r = rw c.in-Err-Memory.field-0-is at c.in-Err-Memory.ensures in
    let l = c.loop-name.invariant in
    unchanged _ _ _ _ _ _ o e (r.files ∙ l.files) (r.failed_reads ∙ append-nil _ ∙ l.reads) (r.failed_writes ∙ l.writes)

pub loop-name-preserved : goal.loop-name-preserved
loop-name-preserved g c =
    let r = c.in-Ok.ensures in
    let l = c.loop-name.invariant in
    record {
      read = read_more c.args.limit _ _ c.args.names.now c.loop-name.name-index c.name-item.result c.as_str.result.now c.in-Ok.bytes _ _
          c.loop-name-test.true c.name-item.is c.as_str.ensures r.limit l.files c.in_ok-push-in-Ok.ensures.ok l.read r.content;
      files = r.files ∙ l.files;
      reads = r.failed_reads ∙ append-nil _ ∙ l.reads;
      writes = r.failed_writes ∙ l.writes;
    }

pub returns : goal.returns
returns g c = λ o e.
    let l = c.loop-name.invariant in (
      read_all c.args.limit (g.F.Folder.files c.args.folder.now) c.args.names.now c.loop-name.name-index c.loop-name.contents.items
          (omega arith) l.read,
      unchanged _ _ _ _ _ _ o e l.files l.reads l.writes,
    )

use Rattle.std.proofs.Common.{ℕ, List, sym, subst}
use Rattle.cls_tree.specs.View.{class_of as file_of}
use Rattle.cls_bytes.specs.Spelling.{ClassSpells}
use Rattle.mg_runs.proofs.Reading.{ReadSoFar, read_start, read_more, read_all, spelled_at}
use Rattle.mg_runs.proofs.loading.read_all.Goals as goal

pub loop-file-init : goal.loop-file-init
loop-file-init c = subst (ReadSoFar c.args.files.now 0) (sym c.new-classes.ensures) (read_start c.args.files.now)

pub unreachable-requires : goal.unreachable-requires
unreachable-requires c =
    let at = spelled_at c.args.files.now c.loop-file.file-index c.file-item.result c.loop-file-test.true c.file-item.is c.requires in
    c.in_default.not-Memory (c.in-Err.ensures.only at.0 (subst (λ (z : List ℕ). ClassSpells z at.0) (sym c.as_slice.ensures) at.1))

pub loop-file-preserved : goal.loop-file-preserved
loop-file-preserved c =
    read_more c.args.files.now c.loop-file.file-index c.file-item.result c.loop-file-test.true c.file-item.is c.in-Ok.class _ _
    (subst (λ (z : List ℕ). ClassSpells z (file_of c.in-Ok.class)) c.as_slice.ensures c.in-Ok.ensures.found) c.in_ok-push-in-Ok.ensures.ok
    c.loop-file.invariant

pub returns : goal.returns
returns c = read_all c.args.files.now c.loop-file.file-index _ c.loop-file-test.false c.loop-file.invariant

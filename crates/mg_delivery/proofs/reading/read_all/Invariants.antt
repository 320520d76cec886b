use Rattle.std.proofs.Common.{◌≡◌, take}
use Rattle.mg_delivery.specs.Contents.{AreRead}
use Rattle.mg_delivery.proofs.reading.read_all.Given as goal

abbrev pub invariant-loop-name : goal.invariant-loop-name
invariant-loop-name g l = record {
  read : AreRead l.limit (g.F.Folder.files l.fn.folder) (take l.name-index l.names) l.contents.items;
  files : g.F.Folder.files l.folder ≡ g.F.Folder.files l.fn.folder;
  reads : g.F.Folder.failed_reads l.folder ≡ g.F.Folder.failed_reads l.fn.folder;
  writes : g.F.Folder.failed_writes l.folder ≡ g.F.Folder.failed_writes l.fn.folder;
}

use Rattle.std.proofs.Common.{◌≡◌, map}
use Rattle.lsp_folder.proofs.program.parted.Given as goal

abbrev pub invariant-loop-member : goal.invariant-loop-member
invariant-loop-member l = record {
  names : l.names.items ≡ map (λ m. m.name) l.yielded;
  contents : l.contents.items ≡ map (λ m. m.contents) l.yielded;
  versions : l.versions.items ≡ map (λ m. m.version) l.yielded;
}

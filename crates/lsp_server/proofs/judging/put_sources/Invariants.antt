use Rattle.std.proofs.Common.{◌≡◌, ◌++◌, map, Some, length}
use Rattle.lsp_server.specs.Telling.{telling, tellings, lists_of}
use Rattle.lsp_server.proofs.judging.put_sources.Given as goal

abbrev pub invariant-loop-diagnostics : goal.invariant-loop-diagnostics
invariant-loop-diagnostics l = record {
  count : l.at ≡ length l.yielded;
  told : map telling l.told.items ≡ map telling l.initial.told.items ++ map (λ t. Some t) (tellings l.names l.versions
      (lists_of l.yielded));
}

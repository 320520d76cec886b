use Rattle.std.proofs.Common.{◌≡◌, ℕ, Bool, List, ◌++◌, map, Some, subst}
use Rattle.std.specs.Prelude.{OnOk}
use Rattle.lsp_server.specs.Telling.{telling, cleared}
use Rattle.lsp_server.specs.inner.Left.{left_by}
use Rattle.lsp_server.proofs.judging.put_cleared.Goals as goal

pub returns : goal.returns
returns c = subst (λ (has : List ℕ → Bool). OnOk c.put_unnamed.result (map telling c.put_unnamed.new.told.items
    ≡ map telling c.args.told.now.items ++ map (λ t. Some t) (map cleared (left_by has c.args.document.now c.args.shown.now))))
    c.in_ok-sources.ensures c.put_unnamed.ensures

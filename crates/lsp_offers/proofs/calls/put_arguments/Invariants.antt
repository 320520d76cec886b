use Rattle.std.proofs.Common.{◌≡◌, ◌++◌, flat_map, string_bytes, take}
use Rattle.lsp_offers.specs.Calls.{plain_text, more_text}
use Rattle.lsp_offers.proofs.calls.put_arguments.Given as goal

abbrev pub invariant-loop-ty : goal.invariant-loop-ty
invariant-loop-ty l =
    string_bytes l.out ≡ string_bytes l.initial.out ++ flat_map (more_text plain_text) (take l.ty-index l.more)

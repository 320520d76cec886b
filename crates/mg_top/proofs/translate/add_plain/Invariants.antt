use Rattle.std.proofs.Common.{◌≡◌, ◌++◌, map, take, option_map}
use Rattle.mg_top.specs.Translation.{api_written}
use Rattle.stm_api.specs.View.{written_of}
use Rattle.mg_top.proofs.translate.add_plain.Given as goal

abbrev pub invariant-loop-file : goal.invariant-loop-file
invariant-loop-file l =
    l.writes.items ≡ l.initial.writes.items ++ map (api_written (option_map (λ f. f.now) l.folder))
    (map written_of (take l.file-index l.files))

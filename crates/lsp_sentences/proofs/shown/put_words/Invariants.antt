use Rattle.std.proofs.Common.{◌≡◌, ◌++◌, string_bytes}
use Rattle.std.specs.List.{flat_map}
use Rattle.std.proofs.Math.Utf8.{encodes}
use Rattle.lsp_sentences.specs.Sentences.{put_for}
use Rattle.lsp_sentences.proofs.shown.put_words.Given as goal

abbrev pub invariant-loop-character : goal.invariant-loop-character
invariant-loop-character l = string_bytes l.out ≡ string_bytes l.initial.out ++ flat_map (put_for l.word l.state) (encodes l.yielded)

use Rattle.std.proofs.Common.{◌++◌, ◌∙◌, string_bytes, ap}
use Rattle.std.specs.List.{flat_map}
use Rattle.std.proofs.lemmas.Iterator.{YieldsList-from_chars}
use Rattle.std.proofs.lemmas.Iterator.Consumers.{YieldsList-end}
use lib.Utf8.{encode}
use Rattle.lsp_sentences.specs.Sentences.{put_for}
use Rattle.lsp_sentences.proofs.Filling.{one_more, all_written}
use Rattle.lsp_sentences.proofs.shown.put_words.Goals as goal

pub loop-character-preserved : goal.loop-character-preserved
loop-character-preserved c =
    c.in_ok-put_character.ensures
    ∙ ap (λ x. x ++ flat_map (put_for c.args.word.now c.args.state.now) (encode c.in-Some.character)) c.loop-character.invariant
    ∙ one_more c.args.word.now c.args.state.now (string_bytes c.args.out.now) c.loop-character.yielded c.in-Some.character

pub returns : goal.returns
returns c =
    let t = YieldsList-end (YieldsList-from_chars c.args.sentence.now c.utf8.sentence cc) c.loop-character.yielded _ c.loop-character.yielded_by
    _ _ c.in-None.is c.next.ensures.steps in
    all_written c.args.word.now c.args.state.now (string_bytes c.loop-character.out) (string_bytes c.args.out.now) c.loop-character.yielded
    c.args.sentence.now c.utf8.sentence t.0 c.loop-character.invariant

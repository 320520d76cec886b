use Rattle.std.proofs.Common.{◌++◌, [], ◌∷◌, ◌∙◌, string_bytes, ap}
use Rattle.std.specs.List.{flat_map}
use Rattle.std.proofs.lemmas.Iterator.{YieldsList-from_chars}
use Rattle.std.proofs.lemmas.Iterator.Consumers.{YieldsList-end}
use lib.Utf8.{encode}
use Rattle.jv_print.specs.Layout.{character}
use Rattle.jv_print.proofs.Texts.{one_more, all_written}
use Rattle.jv_print.proofs.words.put_quoted.Goals as goal

pub loop-c-preserved : goal.loop-c-preserved
loop-c-preserved c =
    c.in_ok-put_character.ensures ∙ ap (λ x. x ++ flat_map character (encode c.in-Some.c)) c.loop-c.invariant
    ∙ one_more (string_bytes c.push_str.new.self) c.loop-c.yielded c.in-Some.c

pub returns : goal.returns
returns c =
    let t = YieldsList-end (YieldsList-from_chars c.args.text.now c.utf8.text cc) c.loop-c.yielded _ c.loop-c.yielded_by _ _ c.in-None.is
    c.next.ensures.steps in
    all_written (string_bytes c.push_str.new.self) (string_bytes c.loop-c.out) (string_bytes c.push_str-2.new.self)
    (string_bytes c.args.out.now) c.loop-c.yielded c.args.text.now (34 ∷ [])
    c.utf8.text t.0 c.in_ok-push_str.ensures.bytes c.loop-c.invariant c.in_ok-push_str-2.ensures.bytes

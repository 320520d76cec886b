use Rattle.std.proofs.Common.{sym, ap}
use Rattle.mg_words.specs.declared.runs.Input.{Input}
use Rattle.mg_words.specs.inner.Judging.{asked_of, made}
use Rattle.mg_words.proofs.CodeLemmas.{lacks_first, wrong_file_at, runnable_at}
use Rattle.mg_words.proofs.runs.judge_runnable.Goals as goal

pub returns-then-not-is_whole : goal.returns-then-not-is_whole
returns-then-not-is_whole c =
    lacks_first c.args.input (asked_of c.args.asked) c.args.files.now c.first.result c.first.ensures.value c.requires.some c.requires.plain
    (sym c.if-not-is_whole.ensures)

pub returns-in-Some : goal.returns-in-Some
returns-in-Some c =
    wrong_file_at c.args.input (asked_of c.args.asked) c.args.files.now c.in-Some.word.now (sym c.if-not-is_whole.ensures) c.requires.plain
    c.in-Some.ensures

pub returns-in-Sources : goal.returns-in-Sources
returns-in-Sources c =
    runnable_at c.args.input (asked_of c.args.asked) c.args.files.now _
    (ap (λ (k : Input). made k (asked_of c.args.asked) c.args.files.now) (sym c.in-Sources.is)) (sym c.if-not-is_whole.ensures)
    c.requires.some c.in_default.ensures

pub returns-in-Classes : goal.returns-in-Classes
returns-in-Classes c =
    runnable_at c.args.input (asked_of c.args.asked) c.args.files.now _
    (ap (λ (k : Input). made k (asked_of c.args.asked) c.args.files.now) (sym c.in-Classes.is)) (sym c.if-not-is_whole.ensures)
    c.requires.some c.in_default.ensures

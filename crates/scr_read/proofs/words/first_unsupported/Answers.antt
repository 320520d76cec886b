use Rattle.std.proofs.Common.{sym}
use Rattle.scr_tree.specs.Tok.{toks}
use Rattle.scr_read.proofs.Sought.{left_start, turn_later, turn_here, turn_end}
use Rattle.scr_read.specs.Unsupported.{unsupported_word}
use Rattle.scr_read.proofs.words.first_unsupported.Goals as goal

pub tokens-init : goal.tokens-init
tokens-init c = left_start (unsupported_word c.args.kind) (toks c.args.tokens.now)

pub returns-in-Some-word_of : goal.returns-in-Some-word_of
returns-in-Some-word_of c =
    turn_here (unsupported_word c.args.kind) c.tokens.rest.now c.in-Some.after.now c.in-Some.first.now (toks c.args.tokens.now) c.in-Some-word_of.word.now
    c.in-Some.ensures.cases.0 (sym c.in-Some-word_of.ensures) c.tokens.invariant

pub tokens-preserved : goal.tokens-preserved
tokens-preserved c =
    turn_later (unsupported_word c.args.kind) c.tokens.rest.now c.in-Some.after.now c.in-Some.first.now (toks c.args.tokens.now) c.in-Some.ensures.cases.0
    (sym c.in_default-word_of.ensures) c.tokens.invariant

pub returns : goal.returns
returns c = turn_end (unsupported_word c.args.kind) c.tokens.rest.now (toks c.args.tokens.now) c.in_default.ensures.cases c.tokens.invariant

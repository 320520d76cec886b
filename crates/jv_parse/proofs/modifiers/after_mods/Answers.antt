use Rattle.std.proofs.Common.{sym, ◌∙◌}
use Rattle.jv_grammar.specs.Files.{after_mods}
use Rattle.jv_parse.specs.inner.Modifiers.{words_of}
use Rattle.jv_parse.proofs.Sought.{mods_later, mods_here, mods_end}
use Rattle.jv_parse.proofs.modifiers.after_mods.Goals as goal

pub words-preserved : goal.words-preserved
words-preserved c =
    mods_later (words_of c.args.mods) c.words.rest.now c.in-Some.after.now c.in-Some.first.now
    (after_mods (words_of c.args.mods) c.args.tokens.now)
    c.in-Some.ensures.cases.0 (sym c.is_kind_among.ensures ∙ c.if-not-is_kind_among.false) c.words.invariant

pub returns-then-not-is_kind_among : goal.returns-then-not-is_kind_among
returns-then-not-is_kind_among c =
    mods_here (words_of c.args.mods) c.words.rest.now c.in-Some.after.now c.in-Some.first.now
    (after_mods (words_of c.args.mods) c.args.tokens.now)
    c.in-Some.ensures.cases.0 (sym c.is_kind_among.ensures ∙ c.if-not-is_kind_among.true) c.words.invariant

pub returns : goal.returns
returns c =
    mods_end (words_of c.args.mods) c.words.rest.now (after_mods (words_of c.args.mods) c.args.tokens.now) c.in_default.ensures.cases
    c.words.invariant

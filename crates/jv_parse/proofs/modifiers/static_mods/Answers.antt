use Rattle.std.proofs.Common.{sym, ◌∙◌}
use Rattle.jv_tree.specs.Files.{modifiers}
use Rattle.jv_grammar.specs.Files.{static_mods}
use Rattle.jv_parse.proofs.Sought.{static_later, static_here, static_stops, static_end}
use Rattle.jv_parse.proofs.modifiers.static_mods.Goals as goal

pub returns-then-not-is_kind_among : goal.returns-then-not-is_kind_among
returns-then-not-is_kind_among c =
    static_stops modifiers c.words.rest.now c.in-Some.after.now c.in-Some.first.now (static_mods modifiers c.args.tokens.now)
    c.in-Some.ensures.cases.0
    (sym c.is_kind_among.ensures ∙ c.if-not-is_kind_among.true) c.words.invariant

pub returns-then-is_kind_among : goal.returns-then-is_kind_among
returns-then-is_kind_among c =
    static_here modifiers c.words.rest.now c.in-Some.after.now c.in-Some.first.now (static_mods modifiers c.args.tokens.now)
    c.in-Some.ensures.cases.0
    (sym c.is_kind_among.ensures ∙ c.if-not-is_kind_among.false) (sym c.is_kind_among-in-Some.ensures ∙ c.if-is_kind_among.true)
    c.words.invariant

pub words-preserved : goal.words-preserved
words-preserved c =
    static_later modifiers c.words.rest.now c.in-Some.after.now c.in-Some.first.now (static_mods modifiers c.args.tokens.now)
    c.in-Some.ensures.cases.0
    (sym c.is_kind_among.ensures ∙ c.if-not-is_kind_among.false) (sym c.is_kind_among-in-Some.ensures ∙ c.if-is_kind_among.false)
    c.words.invariant

pub returns : goal.returns
returns c = static_end modifiers c.words.rest.now (static_mods modifiers c.args.tokens.now) c.in_default.ensures.cases c.words.invariant

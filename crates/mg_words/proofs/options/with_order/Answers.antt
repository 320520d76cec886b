use Rattle.std.proofs.Common.{Some, refl, sym}
use Rattle.mg_words.proofs.WordsLemmas.{refuted}
use Rattle.mg_words.proofs.CodeLemmas.{no_order, order_lacks, order_value}
use Rattle.mg_words.proofs.options.with_order.Goals as goal

pub returns-then-not-are_names : goal.returns-then-not-are_names
returns-then-not-are_names c =
    no_order c.args.asked c.args.value.now c.as_str-word.result.now c.as_str-word.ensures (refuted c.if-not-are_names.ensures.1)

pub returns-then-not-names_each : goal.returns-then-not-names_each
returns-then-not-names_each c =
    order_lacks c.args.asked c.args.value.now c.as_str-word.result.now c.as_str-word.ensures (sym c.if-not-names_each.ensures)

pub returns : goal.returns
returns c =
    order_value c.args.asked (record c.args.asked { order = Some c.args.value }) c.args.value.now c.as_str-word.result.now
    c.as_str-word.ensures (c.if-not-are_names.ensures.0 refl) (sym c.if-not-names_each.ensures) c.requires (λ rs. refl)

use Rattle.serde_json.specs.View.{view}
use Rattle.lsp_says.proofs.Plain.{written, read_again}
use Rattle.lsp_says.proofs.saying.say.Goals as goal

pub returns-clause-text : goal.returns-clause-text
returns-clause-text c =
    written c.args.message.now (view c.in_ok-value.value) c.from_string.result _ c.in_ok-value.ensures c.in_ok-text.ensures.text c.from_string.ensures

pub returns-clause-reads_back : goal.returns-clause-reads_back
returns-clause-reads_back c =
    read_again c.args.message.now (view c.in_ok-value.value) c.from_string.result _ c.in_ok-value.ensures c.in_ok-text.ensures.reads_back
    c.from_string.ensures

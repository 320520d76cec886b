use Rattle.mg_page.proofs.Asked.{text_refused}
use Rattle.mg_page.proofs.asking.first_text.Goals as goal

pub returns-in-Err-clause-form : goal.returns-in-Err-clause-form
returns-in-Err-clause-form c = λ e.
    text_refused c.args.bytes.now c.in_ok-text.text.now c.in_ok-text.rest.now c.in_ok-text.ensures.ok c.in-Err.ensures.cases.0

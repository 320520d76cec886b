use Rattle.std.proofs.Common.{◌≡◌, true, false, rules, string_bytes}
use Rattle.std.proofs.lemmas.Result.{on_ok_weaker}
use Rattle.use_check.specs.Report.{is_helper}
use Rattle.use_check.proofs.Listed.{none_put, some_put}
use Rattle.use_check.proofs.lines.Reporter.put_if_helper.Goals as goal

pub returns-then-not-is_helper : goal.returns-then-not-is_helper
returns-then-not-is_helper c =
    let absent : c.is_helper.result ≡ false = search rules in
    none_put c.is_helper.result (is_helper c.args.method.now.kind) _ (string_bytes c.args.out.now) c.is_helper.ensures absent

pub returns : goal.returns
returns c =
    let there : c.is_helper.result ≡ true = search rules in
    on_ok_weaker c.put_helper.result (λ e. some_put c.is_helper.result (is_helper c.args.method.now.kind) _ (string_bytes c.args.out.now) _
    c.is_helper.ensures there e)
    c.put_helper.ensures

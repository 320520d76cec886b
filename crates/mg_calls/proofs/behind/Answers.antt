use Rattle.std.proofs.lemmas.Grind.{common_steps}
use Rattle.std.proofs.Common.{◌≡◌, ◌+◌, ◌-◌, ◌≤◌, ℕ, length, take, drop, ap, ◌∙◌, arith, add-one, length-drop}
use Rattle.std.proofs.lemmas.List.{take_all}
use Rattle.mg_calls.proofs.FileLemmas.{behind_is}
use Rattle.mg_calls.proofs.behind.Goals as goal

pub returns-then-end-bytes : goal.returns-then-end-bytes
returns-then-end-bytes c =
    let e = length-drop (c.args.end + 1) c.args.bytes.now in
    behind_is c.args.end c.args.bytes.now _ c.if-end-bytes.true
    (take_all (length c.args.bytes.now - (c.args.end + 1)) (drop (c.args.end + 1) c.args.bytes.now) (omega (arith, e)) ∙
    ap (λ (n : ℕ). drop n c.args.bytes.now) (add-one c.args.end))

pub returns-else-end-bytes : goal.returns-else-end-bytes
returns-else-end-bytes c = grind (arith, common_steps)

use Rattle.std.proofs.Common.{◌≡◌, ◌≤◌, Some, sym, ◌∙◌}
use Rattle.jv_lex.specs.Outcome.{refused}
use Rattle.jv_lex.specs.declared.fault.Cause.TheVariants as causes
use Rattle.jv_lex.specs.declared.front.Stop.{Stop}
use Rattle.jv_lex.proofs.Cuts.{first_before, first_of_text}
use Rattle.jv_lex.proofs.Scans.{none_before}
use Rattle.jv_lex.proofs.scan.ill_formed.Goals as goal
use Rattle.jv_lex.proofs.scan.ill_formed.Goals.{in_default-via-in-Some+else-stop-at, in_default-via-in_default}

pub returns-in-Some : goal.returns-in-Some
returns-in-Some c =
    let stopped = rw c.in-Some.is at c.stop_of.ensures in
    let first = first_before c.args.bytes.now c.in-Some.stop.cause c.in-Some.stop.at c.args.at c.requires.ill c.if-stop-at.true stopped in
    rw (c.fault_at.ensures, c.place_of.ensures) (refused c.in-Some.stop.cause c.in-Some.stop.at c.requires.bound first)

pub returns-in_default : goal.returns-in_default
returns-in_default c =
    let behind : (s : Stop) → c.stop_of.result ≡ Some s → c.args.at ≤ s.at = λ s e. elim c.in_default.branch [
      | in_default-via-in-Some+else-stop-at w ↦ let same : ◌≡◌ (Some w.in-Some.stop) (Some s) = sym w.in-Some.is ∙ e in
          let is : w.in-Some.stop ≡ s = cc in rw (← is) w.if-stop-at.false
      | in_default-via-in_default w ↦ absurd (w.in_default.not-Some s e)
    ] in
    let first = first_of_text c.args.bytes.now c.args.at c.requires.ill (none_before c.args.bytes.now c.args.at c.stop_of.result
    c.stop_of.ensures behind) in
    rw (c.fault_at-in_default.ensures, c.place_of-in_default.ensures) (refused causes.BadByte c.args.at c.requires.bound first)

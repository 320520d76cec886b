use Rattle.std.proofs.Common.{drop, take, ◌+◌, ◌∙◌, sym, arith}
use Rattle.lsp_frames.specs.declared.heads.Taken.TheVariants.{More, Refused}
use Rattle.lsp_frames.specs.declared.heads.Fault.TheVariants as faults
use Rattle.lsp_frames.specs.declared.lines.Said.TheVariants.{Empty, NoColon, BadLength, Long}
use Rattle.lsp_frames.specs.Reading.{wants, over, bare, line, Closes}
use Rattle.std.proofs.Common.{refl, subst, ℕ, List, option_to_list}
use Rattle.std.proofs.lemmas.List.{take_rest}
use Rattle.lsp_frames.proofs.Walks.{stops, refuses, some_told, passes_other, passes_long}
use Rattle.lsp_frames.proofs.heads.look.Goals as goal

pub returns-in-Wants : goal.returns-in-Wants
returns-in-Wants c =
    stops c.args.limit c.args.at c.args.told c.args.bytes.now wants More c.requires.head c.in-Wants.ensures.value refl

pub returns-in-Over : goal.returns-in-Over
returns-in-Over c =
    refuses c.args.limit c.args.at c.args.told c.args.bytes.now faults.HeadTooLong c.refused.result c.refused.ensures
    (stops c.args.limit c.args.at c.args.told c.args.bytes.now over (Refused faults.HeadTooLong c.args.at) c.requires.head
    c.in-Over.ensures.value refl)

pub returns-in-Bare : goal.returns-in-Bare
returns-in-Bare c =
    refuses c.args.limit c.args.at c.args.told c.args.bytes.now faults.NoReturn c.refused-in-Bare.result c.refused-in-Bare.ensures
    (stops c.args.limit c.args.at c.args.told c.args.bytes.now bare (Refused faults.NoReturn c.args.at) c.requires.head
    c.in-Bare.ensures.value refl)

pub returns-in-Empty : goal.returns-in-Empty
returns-in-Empty c =
    stops c.args.limit c.args.at c.args.told c.args.bytes.now
    (line (take c.in-Line.size c.args.bytes.now) (drop (c.in-Line.size + 2) c.args.bytes.now)) c.closed.result
    c.requires.head c.in-Line.ensures.value (
      Empty,
      c.in-Empty.ensures,
      subst (λ (zs : List ℕ). Closes c.args.at (option_to_list c.args.told) zs c.closed.result) (take_rest c.args.bytes.now (c.in-Line.size + 2))
          c.closed.ensures,
    )

pub returns-in-NoColon : goal.returns-in-NoColon
returns-in-NoColon c =
    refuses c.args.limit c.args.at c.args.told c.args.bytes.now faults.NoColon c.refused-in-NoColon.result c.refused-in-NoColon.ensures
    (stops c.args.limit c.args.at c.args.told c.args.bytes.now
    (line (take c.in-Line.size c.args.bytes.now) (drop (c.in-Line.size + 2) c.args.bytes.now))
    (Refused faults.NoColon c.args.at) c.requires.head c.in-Line.ensures.value (NoColon, c.in-NoColon.ensures, refl))

pub returns-in-BadLength : goal.returns-in-BadLength
returns-in-BadLength c =
    refuses c.args.limit c.args.at c.args.told c.args.bytes.now faults.BadLength c.refused-in-BadLength.result c.refused-in-BadLength.ensures
    (stops c.args.limit c.args.at c.args.told c.args.bytes.now
    (line (take c.in-Line.size c.args.bytes.now) (drop (c.in-Line.size + 2) c.args.bytes.now))
    (Refused faults.BadLength c.args.at) c.requires.head c.in-Line.ensures.value (BadLength, c.in-BadLength.ensures, refl))

pub returns-in-Long : goal.returns-in-Long
returns-in-Long c =
    refuses c.args.limit c.args.at c.args.told c.args.bytes.now faults.TwoLengths c.refused-in-Long.result c.refused-in-Long.ensures
    (stops c.args.limit c.args.at c.args.told c.args.bytes.now
    (line (take c.in-Line.size c.args.bytes.now) (drop (c.in-Line.size + 2) c.args.bytes.now))
    (Refused faults.TwoLengths c.args.at) c.requires.head c.in-Line.ensures.value
    (Long c.in-Long.field-0, c.in-Long.ensures, (some_told c.args.told (sym c.is_some.ensures ∙ c.if-is_some.true), refl)))

pub returns-in-Other : goal.returns-in-Other
returns-in-Other c =
    let fits = c.in-Line.ensures.fits in
    (omega arith, fits.0, omega (arith, fits, c.requires.head), passes_other c.args.limit c.args.at c.in-Line.size c.args.told c.args.bytes.now _ fits.0 c.in-Line.ensures.value c.in-Other.ensures)

pub returns-in-Long-2 : goal.returns-in-Long-2
returns-in-Long-2 c =
    let fits = c.in-Line.ensures.fits in (
      omega arith,
      fits.0,
      omega (arith, fits, c.requires.head),
      passes_long c.args.limit c.args.at c.in-Line.size c.in-Long.field-0 c.args.told c.args.bytes.now _ fits.0 c.in-Line.ensures.value
          c.in-Long.ensures (sym c.is_some.ensures ∙ c.if-is_some.false),
    )

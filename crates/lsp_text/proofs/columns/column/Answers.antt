use Rattle.std.proofs.Common.{◌≡◌, ◌≤◌, length, zero-add, ap, arith}
use Rattle.std.specs.Str.{chars}
use Rattle.std.proofs.lemmas.Iterator.{YieldsList-from_chars}
use Rattle.std.proofs.lemmas.Iterator.Consumers.{YieldsList-turn, YieldsList-end}
use Rattle.std.proofs.lemmas.List.{length_push}
use Rattle.std.proofs.lemmas.Str.{encodes-chars}
use Rattle.lsp_text.specs.Units.{unit_count}
use Rattle.lsp_text.proofs.ColumnLaws.{units_short, column_step, column_stop, column_end, units_step, step_at, less_at}
use Rattle.lsp_text.proofs.columns.column.Goals as goal

pub loop-character-init : goal.loop-character-init
loop-character-init c =
    let same = encodes-chars c.args.line.now c.utf8.line in
    let short = units_short c.args.counted (chars c.args.line.now) in
    let long : length (_) ≡ length c.args.line.now = ap length same in
    record { counts = zero-add _; short = omega arith }

pub returns-then-width-left : goal.returns-then-width-left
returns-then-width-left c =
    let t = YieldsList-turn (YieldsList-from_chars c.args.line.now c.utf8.line cc) c.loop-character.yielded _ c.loop-character.yielded_by _ _
    c.in-Some.character c.in-Some.is c.next.ensures.steps in
    column_stop c.args.within c.args.counted (chars c.args.line.now) (length c.loop-character.yielded) c.in-Some.character c.loop-character.count
    c.loop-character.left _ t (less_at _ _ _ c.units-width.ensures.value c.if-width-left.true) c.loop-character.invariant.counts

pub overflow_add-count : goal.overflow_add-count
overflow_add-count c =
    let t = YieldsList-turn (YieldsList-from_chars c.args.line.now c.utf8.line cc) c.loop-character.yielded _ c.loop-character.yielded_by _ _
    c.in-Some.character c.in-Some.is c.next.ensures.steps in
    let more = units_step c.args.within c.args.counted (chars c.args.line.now) (length c.loop-character.yielded) c.in-Some.character
    c.loop-character.count c.loop-character.left (length c.args.line.now) t c.loop-character.invariant.short in
    omega (arith, more, c.units-count.ensures.value)

pub loop-character-preserved : goal.loop-character-preserved
loop-character-preserved c =
    let t = YieldsList-turn (YieldsList-from_chars c.args.line.now c.utf8.line cc) c.loop-character.yielded _ c.loop-character.yielded_by _ _
    c.in-Some.character c.in-Some.is c.next.ensures.steps in
    let more = units_step c.args.within c.args.counted (chars c.args.line.now) (length c.loop-character.yielded) c.in-Some.character
    c.loop-character.count c.loop-character.left (length c.args.line.now) t c.loop-character.invariant.short in
    let low : unit_count c.args.within c.in-Some.character ≤ c.loop-character.left = omega (arith, c.units-width.ensures.value) in
    let counts = column_step c.args.within c.args.counted (chars c.args.line.now) (length c.loop-character.yielded) c.in-Some.character
    c.loop-character.count c.loop-character.left _ t low c.loop-character.invariant.counts in
    let push = length_push c.loop-character.yielded c.in-Some.character in
    record {
      counts = step_at c.args.within c.args.counted (chars c.args.line.now) _ _ _ _ _ _ _ _ _ push c.units-width.ensures.value
          c.units-count.ensures.value counts;
      short = rw (push, c.units-count.ensures.value) more;
    }

pub returns : goal.returns
returns c =
    let t = YieldsList-end (YieldsList-from_chars c.args.line.now c.utf8.line cc) c.loop-character.yielded _ c.loop-character.yielded_by _ _
    c.in-None.is c.next.ensures.steps in
    column_end c.args.within c.args.counted (chars c.args.line.now) (length c.loop-character.yielded) c.loop-character.count
    c.loop-character.left _ (omega (arith, t.1)) c.loop-character.invariant.counts

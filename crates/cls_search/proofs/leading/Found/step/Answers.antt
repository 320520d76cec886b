use Rattle.std.proofs.Common.{refl, sym, subst}
use Rattle.std.proofs.lemmas.Option.{slice_get_past}
use Rattle.vm_actions.specs.Table.{action_of}
use Rattle.cls_rows.specs.Coming.{Comes}
use Rattle.cls_search.specs.declared.leading.Found.{Found}
use Rattle.cls_search.specs.Walking.{IsWays}
use Rattle.cls_search.proofs.LedLemmas.{item_read}
use Rattle.cls_search.proofs.Striding.{step_past, step_nothing, step_fails, step_fits, step_leaves, step_then}
use Rattle.cls_search.proofs.leading.Found.step.Goals as goal

pub returns-in_default : goal.returns-in_default
returns-in_default c = λ s t. step_past s c.args.self.now c.args.body c.args.place c.args.frame t
    (slice_get_past c.args.body.code.now c.args.place c.in_default.ensures.lookup.3)

pub returns-in_default-action_of : goal.returns-in_default-action_of
returns-in_default-action_of c = λ s t. step_nothing s c.args.self.now c.args.body c.args.place c.args.frame t c.in-Some.instr.now
    (item_read c.args.body.code.now c.args.place c.in-Some.instr.now c.in-Some.ensures.lookup.3) (sym c.in_default-action_of.ensures)

pub row-requires-clause-there : goal.row-requires-clause-there
row-requires-clause-there c = c.requires.1.fits.there

pub row-requires-clause-fits : goal.row-requires-clause-fits
row-requires-clause-fits c = step_fits c.requires.0 c.args.self.now c.args.body c.args.place c.args.frame c.requires.1

pub returns-in_default-met : goal.returns-in_default-met
returns-in_default-met c = λ s t. step_fails s c.args.self.now c.args.body c.args.place c.args.frame t c.row.new.stacks c.in-Some.instr.now
    (action_of c.in-Some-action_of.action)
    (item_read c.args.body.code.now c.args.place c.in-Some.instr.now c.in-Some.ensures.lookup.3) (sym c.in-Some-action_of.ensures)
    (subst (Comes c.args.body.scene c.args.self.now.stacks c.row.new.stacks c.args.frame (action_of c.in-Some-action_of.action))
    c.in_default-met.is
    c.in_ok-met.ensures.comes)

pub go_on-requires-clause-leaves : goal.go_on-requires-clause-leaves
go_on-requires-clause-leaves c =
    let mid : Found = record { frames = c.args.self.now.frames; waiting = c.args.self.now.waiting; stacks = c.row.new.stacks } in
    let ways : IsWays (action_of c.in-Some-action_of.action) c.ways_of.result =
    record { falls_is = c.ways_of.ensures.falls; jumps_are = c.ways_of.ensures.jumps } in (
      c.requires.0,
      (
        action_of c.in-Some-action_of.action,
        step_leaves c.requires.0 c.args.self.now c.args.body c.args.place c.args.frame c.requires.1 mid c.in-Some.instr.now
            (action_of c.in-Some-action_of.action) c.ways_of.result c.in-Some-met.left
            (item_read c.args.body.code.now c.args.place c.in-Some.instr.now c.in-Some.ensures.lookup.3) (sym c.in-Some-action_of.ensures)
            c.in_ok-met.ensures.grows refl refl
            (subst (Comes c.args.body.scene c.args.self.now.stacks c.row.new.stacks c.args.frame (action_of c.in-Some-action_of.action))
            c.in-Some-met.is
            c.in_ok-met.ensures.comes)
            ways,
      ),
    )

pub returns : goal.returns
returns c =
    let mid : Found = record { frames = c.args.self.now.frames; waiting = c.args.self.now.waiting; stacks = c.row.new.stacks } in
    let ways : IsWays (action_of c.in-Some-action_of.action) c.ways_of.result =
    record { falls_is = c.ways_of.ensures.falls; jumps_are = c.ways_of.ensures.jumps } in
    step_then c.args.self.now mid c.go_on.new.self c.args.body c.args.place c.args.frame c.in-Some-met.left c.in-Some.instr.now
    (action_of c.in-Some-action_of.action) c.ways_of.result c.go_on.result
    (item_read c.args.body.code.now c.args.place c.in-Some.instr.now c.in-Some.ensures.lookup.3) (sym c.in-Some-action_of.ensures)
    c.in_ok-met.ensures.grows refl refl
    (subst (Comes c.args.body.scene c.args.self.now.stacks c.row.new.stacks c.args.frame (action_of c.in-Some-action_of.action))
    c.in-Some-met.is
    c.in_ok-met.ensures.comes)
    ways c.go_on.ensures

use Rattle.std.proofs.Common.{◌≡◌, ◌-◌, List, length, Some, option_map, slice_get, sym, ap, ◌∙◌, arith}
use Rattle.std.proofs.lemmas.Option.{slice_get_past}
use Rattle.vm_world_law.specs.declared.role.RoleEvent.{RoleEvent}
use Rattle.vm_events.specs.Seen.{kind_of}
use Rattle.vm_world.proofs.Telling.{kind_tells, none_tells}
use Rattle.vm_world.proofs.world.World.last_moved.Goals as goal

pub returns-then-count-eq0 : goal.returns-then-count-eq0
returns-then-count-eq0 c =
    let events = c.args.self.now.world.events in
    none_tells events (slice_get_past events (length events - 1)
    (omega (arith, c.if-count-eq0.true, c.len-count.ensures.value, ap (λ (l : List RoleEvent). length l) c.events-events.ensures)))

pub returns : goal.returns
returns c =
    let events = c.args.self.now.world.events in
    let kept : List RoleEvent = c.events-events.result.now.items in
    let kind_in = λ (e : RoleEvent). kind_of e.event in
    let at : Some c.kind_at.result ≡ option_map kind_in (slice_get events (length events - 1)) =
    c.kind_at.ensures ∙ ap (λ n. option_map kind_in (slice_get kept (n - 1))) c.len-count.ensures.value
    ∙ ap (λ (l : List RoleEvent). option_map kind_in (slice_get l (length l - 1))) c.events-events.ensures in
    kind_tells events c.kind_at.result c.is_of_message.result at c.is_of_message.ensures

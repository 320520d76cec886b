use Rattle.std.proofs.Common.{◌++◌, codes, string_bytes, ap, ◌∙◌}
use Rattle.mg_text.specs.Call.{Name}
use Rattle.mg_sets.specs.Sets.{members}
use Rattle.jv_core.specs.Lookup.{text_at}
use Rattle.jv_core.specs.View.{method_of}
use Rattle.use_rules.specs.Elements.{Set}
use Rattle.use_rules.specs.Keys.{typestate_of}
use Rattle.use_sights.specs.Sights.{after}
use Rattle.use_check.specs.Report.{set_text}
use Rattle.mg_refusal.specs.declared.refusal.Spot.TheVariants as spots
use Rattle.mg_delivery.specs.Lines.{spot_text}
use Rattle.mg_shown.specs.inner.Lines.{variable_text}
use Rattle.mg_shown.proofs.Putting.{nine_put}
use Rattle.mg_shown.proofs.shown.Shower.put_call.Goals as goal

pub returns : goal.returns
returns c =
    let p = c.args.self.now.core.now in
    let k = method_of c.args.called.now in
    let typestate = typestate_of p k.class in
    nine_put (string_bytes c.args.out.now) (string_bytes c.push_spot.new.line) (string_bytes c.push_str.new.self)
    (string_bytes c.push_str-2.new.self) (string_bytes c.push_str-3.new.self) (string_bytes c.push_str-4.new.self)
    (string_bytes c.put_set.new.out) (string_bytes c.push_str-5.new.self) (string_bytes c.put_set-2.new.out)
    (string_bytes c.push_str-6.new.self)
    (spot_text c.args.self.now.names.now (spots.Text c.args.site.place)) (codes ": ")
    (variable_text p c.args.site (method_of c.args.within.now)) (codes ".") (text_at p k.name)
    (set_text typestate (members c.args.before.now)) (codes " ->") (set_text typestate (members (after p k c.args.before.now))) (codes "\n")
    c.in_ok-push_spot.ensures
    c.in_ok-push_str.ensures.bytes
    (c.in_ok-push_str-2.ensures.bytes ∙ ap (λ (xs : Name). string_bytes c.push_str.new.self ++ xs) c.variable_text.ensures)
    c.in_ok-push_str-3.ensures.bytes
    (c.in_ok-push_str-4.ensures.bytes ∙ ap (λ (xs : Name). string_bytes c.push_str-3.new.self ++ xs) c.name_text.ensures)
    (c.in_ok-put_set.ensures
    ∙ ap (λ t. string_bytes c.push_str-4.new.self ++ set_text t (members c.args.before.now)) c.typestate_of-typestate.ensures)
    c.in_ok-push_str-5.ensures.bytes
    (c.in_ok-put_set-2.ensures
    ∙ ap (λ t. string_bytes c.push_str-5.new.self ++ set_text t (members c.in_ok-after.after)) c.typestate_of-typestate.ensures
    ∙ ap (λ (s : Set). string_bytes c.push_str-5.new.self ++ set_text typestate (members s)) c.in_ok-after.ensures)
    c.in_ok-push_str-6.ensures.bytes

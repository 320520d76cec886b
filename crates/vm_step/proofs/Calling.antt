-- Frames that begin and end, and objects that are there.
use Rattle.std.proofs.Common.{◌≡◌, ℕ, ◌-◌, ◌≤◌, List, [], ◌∷◌, ◌++◌, length, map, replicate, Option, Some, None, refl, sym, ap, ◌∙◌}
use Rattle.std.proofs.Common.{arith, length-drop, Bor}
use Rattle.std.specs.Option.{option_map}
use Rattle.mg_text.specs.declared.event.Event.{Event}
use Rattle.mg_text.specs.declared.event.Ending.TheVariants as endings
use Rattle.vm_model.specs.declared.value.Value.{Value}
use Rattle.vm_model.specs.declared.linked.LinkedMethod.{LinkedMethod}
use Rattle.vm_model.specs.View.{method_of}
use Rattle.vm_model.specs.Types.{signature_of}
use Rattle.vm_model.specs.Program.{Program, method_at}
use Rattle.vm_model.specs.Messages.{Messages}
use Rattle.vm_model.specs.Machine.{Machine, Frame, Object, Went, Stops}
use Rattle.vm_model.specs.Tests.{below, on_top, max_locals_in, params_in, descriptor_in}
use Rattle.vm_model.specs.Step as model
use Rattle.vm_frames.specs.Frames.{entered, left_to}

-- what is entered is what a call leads to
pub calls_is : (p : Program) (q : Messages) (m new : Machine) (class method args locals : ℕ) (told : Option ℕ) (event : Option Event) →
    args ≤ length m.frame.operands → locals ≡ max_locals_in (method_at p class method) → new ≡ entered m class method args locals told →
    model.calls_in p q m class method (below args m.frame.operands) (on_top args m.frame.operands) told event ≡ Went new q event
calls_is p q m new class method args locals told event le locals_is is =
    let count : length (on_top args m.frame.operands) ≡ args =
    omega (arith, length-drop (length m.frame.operands - args) m.frame.operands, le) in
    let left : max_locals_in (method_at p class method) - length (on_top args m.frame.operands) ≡ locals - args =
    omega (arith, count, locals_is) in
    ap (λ k. Went (record (entered m class method args locals told) {
      frame = record (entered m class method args locals told).frame {
        locals =
            map Some (on_top args m.frame.operands) ++ replicate k None;
      };
    }) q event) left
    ∙ ap (λ n. Went n q event) (sym is)

-- what is left leads to the frame that waits
pub returns_is : (q : Messages) (m new : Machine) (vs : List Value) (frames : List Frame) (event : Option Event) →
    left_to m vs frames ≡ Some new →
    event ≡ model.left m.frame.told vs → model.returns q m vs frames ≡ Went new q event
returns_is q m new vs [] event is e = absurd (cc is)
returns_is q m new vs (f ∷ fs) event is e =
    let same : record m { frame = record f { operands = f.operands ++ vs }; callers = fs } ≡ new = cc in
    ap (λ n. Went n q (model.left m.frame.told vs)) same ∙ ap (Went new q) (sym e)

pub ends_is : (q : Messages) (m : Machine) (vs : List Value) (frames : List Frame) → frames ≡ [] →
    model.returns q m vs frames ≡ Stops endings.Done
ends_is q m vs frames e = ap (model.returns q m vs) e

-- an object whose class is known
pub has_object : (found : Option Object) (class : ℕ) → Some class ≡ option_map (λ o. o.class) found → (o : Object) × (found ≡ Some o)
has_object None class e = absurd (cc e)
has_object (Some o) class e = (o, refl)

-- how many parameters a method has
abbrev pub params_taken : Option (Bor LinkedMethod) → ℕ
params_taken method = length (params_in (signature_of (descriptor_in (option_map (λ m. method_of m.now) method))))

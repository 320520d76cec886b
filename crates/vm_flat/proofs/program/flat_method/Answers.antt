use Rattle.std.proofs.Common.{refl, sym, ap, ◌∙◌, subst, arith, map, length}
use Rattle.std.proofs.lemmas.List.{length-map}
use Rattle.std.specs.List.{AllZip}
use Rattle.vm_model.specs.Kept.{type_kept}
use Rattle.vm_model.specs.Types.{signature_of}
use Rattle.vm_model.specs.View.{instr_of}
use Rattle.vm_model.proofs.KeptTypes.{params_are}
use Rattle.vm_flat.specs.Flat.{IsFlatInstr}
use Rattle.vm_flat.proofs.program.flat_method.Goals as goal

pub returns : goal.returns
returns c =
    let method = c.args.method.now in
    record {
      code = subst (λ l. AllZip IsFlatInstr c.in_ok-code.code.items (map instr_of l)) c.as_slice.ensures.items c.in_ok-code.ensures;
      locals = refl;
      params = c.len.ensures.value ∙ sym (length-map method.params.items type_kept)
          ∙ ap length (params_are method.params.items (signature_of method.descriptor) method.takes);
      room = omega (arith, c.max_stack-room.type_inv, c.max_stack-room.ensures);
    }

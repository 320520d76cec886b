use Rattle.std.proofs.Common.{Some, map, sym, ap, ◌∙◌}
use Rattle.cls_tree.specs.View.{instrs_of, inner_of}
use Rattle.cls_tree.proofs.Views.{attr-Code}
use Rattle.cls_bytes.proofs.Codes.{content_read}
use Rattle.cls_bytes.proofs.reading.content_of.Goals as goal

pub returns : goal.returns
returns c =
    content_read c.args.name c.args.bytes.now c.in_ok-sizes.rest.now c.in_ok-instrs.rest.now c.in_ok-attributes.rest.now c.in_ok-sizes.sizes
    (instrs_of c.in_ok-instrs.instrs.items) (map inner_of c.in_ok-attributes.attributes.items) c.in_ok-sizes.ensures c.in_ok-instrs.ensures
    c.in_ok-attributes.ensures
    ∙ ap (λ a. Some (a, c.in_ok-attributes.rest.now))
    (sym (attr-Code (record {
      name = c.args.name;
      max_stack = c.in_ok-sizes.sizes.0;
      max_locals = c.in_ok-sizes.sizes.1;
      instrs =
          c.in_ok-instrs.instrs;
      attributes = c.in_ok-attributes.attributes;
    })))

-- A method with one attribute, its code.
use Rattle.std.proofs.Common.{◌≡◌, List, [], ◌∷◌, map, ap, ◌∙◌}
use Rattle.cls_tree.specs.declared.class.Code.{Code as KeptCode}
use Rattle.cls_tree.specs.declared.class.Attr.{Attr as KeptAttr}
use Rattle.cls_tree.specs.declared.class.Attr.TheVariants as kept
use Rattle.cls_tree.specs.declared.class.Member.{Member as KeptMember}
use Rattle.cls_tree.specs.Tree as file
use Rattle.cls_tree.specs.View.{attr_of, code_of, member_of}
use Rattle.cls_tree.proofs.Views.{attr-Code}

pub member_seen : (m : KeptMember) (code : KeptCode) → m.attributes.items ≡ kept.Code code ∷ [] →
    member_of m ≡ record { access = m.access; name = m.name; descriptor = m.descriptor; attributes = file.Coded (code_of code) ∷ [] }
member_seen m code e =
    ap (λ (xs : List KeptAttr). record { access = m.access; name = m.name; descriptor = m.descriptor; attributes = map attr_of xs }) e
    ∙ ap (λ (a : file.Attr). record { access = m.access; name = m.name; descriptor = m.descriptor; attributes = a ∷ [] }) (attr-Code code)

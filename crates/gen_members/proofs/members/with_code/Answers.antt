use Rattle.std.proofs.Common.{[], ◌∷◌, ap₂, ◌∙◌}
use Rattle.cls_tree.specs.Tree as file
use Rattle.cls_tree.specs.View.{code_of}
use Rattle.gen_members.proofs.Seen.{member_seen}
use Rattle.gen_members.proofs.members.with_code.Goals as goal

pub returns : goal.returns
returns c =
    member_seen (record {
      access = c.args.access;
      name = c.in_ok-short.field-0;
      descriptor = c.in_ok-short-2.field-0;
      attributes = c.in_ok-list_of_one.field-0;
    }) c.args.code c.in_ok-list_of_one.ensures
    ∙ ap₂ (λ n d. record { access = c.args.access; name = n; descriptor = d; attributes = file.Coded (code_of c.args.code) ∷ [] })
    c.in_ok-short.ensures c.in_ok-short-2.ensures

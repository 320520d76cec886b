use Rattle.std.proofs.Common.{map, drop}
use Rattle.cls_tree.specs.View.{member_of}
use Rattle.jv_core.specs.View.{class_of, field_of}
use Rattle.gen_rules.specs.Classes.{field_in_file}
use Rattle.gen_rules.specs.Limits.{OfField}
use Rattle.gen_members.proofs.Filing.{AreLeft}
use Rattle.gen_members.proofs.heads.fields.Given as goal

-- the fields so far and those that are left are all, and nothing was too large
abbrev pub invariant-loop-field : goal.invariant-loop-field
invariant-loop-field l =
    AreLeft l.fn.core (class_of l.fn.class) (field_in_file l.fn.core) OfField
    (map field_of (drop l.field-index l.fn.class.fields.items)) (map member_of l.members.items) l.pool
    (class_of l.fn.class).fields l.fn.pool

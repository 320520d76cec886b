-- The kinds of kept types.
use Rattle.mg_text.specs.Call.{Name}
use Rattle.vm_model.specs.declared.linked_type.LinkedType.{LinkedType}
use Rattle.vm_model.specs.Kept.{type_kept}
use Rattle.cls_verify.specs.Kinds.{Kind, kind_named, kind_of_type}

abbrev pub kept_kind : LinkedType → Kind
kept_kind t = kind_of_type (type_kept t)

-- what a class's name in a descriptor stands for
abbrev pub named_kind : Name → Kind
named_kind name = kind_named name

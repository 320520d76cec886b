use Rattle.std.proofs.Common.{◌≡◌, List, [], ◌∷◌, sym, ap, subst, ◌∙◌}
use Rattle.std.specs.Prelude.{codes}
use Rattle.mg_text.specs.Call.{Name}
use Rattle.mg_text.specs.Interned.{with_text}
use Rattle.cls_verify.specs.Kinds.{object}
use Rattle.cls_kinds.specs.Named.{AreNames}
use Rattle.cls_table.specs.Known.{IsKnown}
use Rattle.cls_table.proofs.Tabled.{with_more, two_names}
use Rattle.cls_table.proofs.Knowing.{known_more, built_in_known}
use Rattle.cls_table.proofs.names.add_built_in.Goals as goal

pub returns-clause-are : goal.returns-clause-are
returns-clause-are c =
    let two : c.add_name-2.new.names ≡ object ∷ codes "java/io/PrintStream" ∷ [] =
    c.in_ok-add_name-2.ensures.added ∙ ap (λ (ns : List Name). with_text ns (codes "java/io/PrintStream"))
    (c.in_ok-add_name.ensures.added ∙ ap (λ (ns : List Name). with_text ns (codes "java/lang/Object")) c.requires) in
    let second : AreNames c.add_name-2.new.names = subst AreNames (sym two) two_names in
    let third : AreNames c.add_name-3.new.names = subst AreNames (sym c.in_ok-add_name-3.ensures.added)
    (with_more c.add_name-2.new.names (codes "java/lang/String") second) in
    let fourth : AreNames c.add_name-4.new.names = subst AreNames (sym c.in_ok-add_name-4.ensures.added)
    (with_more c.add_name-3.new.names (codes "java/lang/System") third) in
    subst AreNames (sym c.in_ok-add_name-5.ensures.added) (with_more c.add_name-4.new.names (codes "mungo/lib/Session") fourth)

pub returns-clause-known : goal.returns-clause-known
returns-clause-known c =
    let to_2 : (name : Name) → IsKnown c.add_name.new.names name → IsKnown c.add_name-2.new.names name =
    λ name k. subst (λ ns. IsKnown ns name) (sym c.in_ok-add_name-2.ensures.added)
    (known_more c.add_name.new.names name (codes "java/io/PrintStream") k) in
    let to_3 : (name : Name) → IsKnown c.add_name-2.new.names name → IsKnown c.add_name-3.new.names name =
    λ name k. subst (λ ns. IsKnown ns name) (sym c.in_ok-add_name-3.ensures.added)
    (known_more c.add_name-2.new.names name (codes "java/lang/String") k) in
    let to_4 : (name : Name) → IsKnown c.add_name-3.new.names name → IsKnown c.add_name-4.new.names name =
    λ name k. subst (λ ns. IsKnown ns name) (sym c.in_ok-add_name-4.ensures.added)
    (known_more c.add_name-3.new.names name (codes "java/lang/System") k) in
    let to_5 : (name : Name) → IsKnown c.add_name-4.new.names name → IsKnown c.add_name-5.new.names name =
    λ name k. subst (λ ns. IsKnown ns name) (sym c.in_ok-add_name-5.ensures.added)
    (known_more c.add_name-4.new.names name (codes "mungo/lib/Session") k) in
    let after_2 : (name : Name) → IsKnown c.add_name-2.new.names name → IsKnown c.add_name-5.new.names name =
    λ name k. to_5 name (to_4 name (to_3 name k)) in
    built_in_known c.add_name-5.new.names
    (after_2 (codes "java/lang/Object") (to_2 (codes "java/lang/Object") c.in_ok-add_name.ensures.known))
    (to_5 (codes "java/lang/String") (to_4 (codes "java/lang/String") c.in_ok-add_name-3.ensures.known))
    (to_5 (codes "java/lang/System") c.in_ok-add_name-4.ensures.known)
    (after_2 (codes "java/io/PrintStream") c.in_ok-add_name-2.ensures.known)
    c.in_ok-add_name-5.ensures.known

-- Printed roles are read as the same roles.
use Rattle.std.proofs.Common.{◌≡◌, List, [], ◌∷◌, ◌++◌, map, refl, ap, ◌∙◌, codes, arith}
use Rattle.std.specs.List.{AllByRecursion}
use Rattle.mg_text.specs.Call.{Name}
use Rattle.mg_read.proofs.Lists.{Each}
use Rattle.scr_tree.specs.declared.written.Role.{Role}
use Rattle.scr_tree.specs.declared.token.Mark.TheVariants as marks
use Rattle.scr_tree.specs.Tok.{Tok, named, marked}
use Rattle.scr_tree.specs.Words.{IsName}
use Rattle.scr_tree.specs.Written.{role_name}
use Rattle.scr_parse.specs.Grammar.{Behind as After, Listed, IsRole}
use Rattle.scr_read.specs.Layout.{role_list}
use Rattle.scr_back.proofs.Told.{NoName, Told, nothing, convert, blank_then, Behind, sign_then, word_then}
use Rattle.scr_back.proofs.Marks.{naming, role_word}
use Rattle.scr_back.proofs.Said.{on}

abbrev pub RolesTold : List Name → List Tok → Type 0
RolesTold names ts = (rs : List Role) × (map role_name rs ≡ names) × Listed marks.Comma IsRole rs ts

abbrev MoreTold : List Name → List Tok → Type 0
MoreTold names ts = (rs : List Role) × (map role_name rs ≡ names) × Each (After marks.Comma IsRole) rs ts

abbrev OneRole : Name → (List Tok → Type 0) → List Tok → Type 0
OneRole name P = Behind (λ a. marked a marks.Role) (Behind (λ a. named a name) P)

more_form : (name : Name) (names : List Name) (ts : List Tok) → Behind (λ a. marked a marks.Comma) (OneRole name (MoreTold names)) ts →
    MoreTold (name ∷ names) ts
more_form name names ts h =
    let r = h.3 in let n = r.3 in let m = n.3 in (
      record { place = n.0; name = name } ∷ m.0,
      ap (λ z. name ∷ z) m.1,
      (
        marked h.0 marks.Comma ∷ marked r.0 marks.Role ∷ named n.0 name ∷ [],
        n.1,
        h.2 ∙ on (r.2 ∙ on n.2),
        (h.0, marked r.0 marks.Role ∷ named n.0 name ∷ [], refl, (r.0, refl)),
        m.2,
      ),
    )

roles_form : (name : Name) (names : List Name) (ts : List Tok) → OneRole name (MoreTold names) ts → RolesTold (name ∷ names) ts
roles_form name names ts r =
    let n = r.3 in let m = n.3 in (
      record { place = n.0; name = name } ∷ m.0,
      ap (λ z. name ∷ z) m.1,
      (marked r.0 marks.Role ∷ named n.0 name ∷ [], n.1, r.2 ∙ on n.2, (r.0, refl), m.2),
    )

-- behind a role stands a comma, or what stands behind all of them
stops : (names : List Name) (bytes : List _) → NoName bytes → NoName (role_list (codes ", ") names ++ bytes)
stops [] bytes o = o
stops (name ∷ names) bytes o = refl

more_told : (names : List Name) → AllByRecursion IsName names → Told NoName (MoreTold names) (role_list (codes ", ") names)
more_told [] h = convert (λ ts e. ([], refl, e)) nothing
more_told (name ∷ names) h =
    convert (more_form name names) (sign_then 44 marks.Comma refl refl (omega arith) refl (blank_then 32 refl (omega arith)
    (word_then (codes "role") (λ a. marked a marks.Role) role_word (λ bytes o. refl) (blank_then 32 refl (omega arith)
    (word_then name (λ a. named a name) (naming name h.0) (stops names) (more_told names h.1))))))

pub roles_told : (name : Name) (names : List Name) → AllByRecursion IsName (name ∷ names) → Told NoName (RolesTold (name ∷ names))
    (role_list [] (name ∷ names))
roles_told name names h =
    convert (roles_form name names)
    (word_then (codes "role") (λ a. marked a marks.Role) role_word (λ bytes o. refl) (blank_then 32 refl (omega arith)
    (word_then name (λ a. named a name) (naming name h.0) (stops names) (more_told names h.1))))

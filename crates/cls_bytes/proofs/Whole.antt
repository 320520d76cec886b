-- A class file: what is read is spelled so, and what is spelled so is read.
use Rattle.std.proofs.Common.{◌≡◌, ℕ, List, [], ◌++◌, length, ◌+◌, append_assoc, append-nil, eqb, Some, None, refl, sym, ap, subst, ◌∙◌}
use Rattle.std.proofs.Common.{arith}
use Rattle.std.proofs.lemmas.Bool.{eqb-true}
use Rattle.std.proofs.lemmas.List.{nil_from_length}
use Rattle.mg_read.specs.Reader.{◌>>=◌}
use Rattle.mg_read.proofs.Steps.{bind_some, some_is, none_is_not}
use Rattle.cls_tree.specs.Tree.{Class as Tree}
use Rattle.cls_tree.specs.Layout.{u2, u4, const_bytes, class_bytes}
use Rattle.cls_tree.specs.Fits.{IsU2}
use Rattle.cls_bytes.specs.File.{IsFile}
use Rattle.std.specs.List.{flat_map}
use Rattle.cls_bytes.specs.Reading.{behind, behind_head, three_at, pool_at, Members, members_at, class_at}
use Rattle.cls_layout.proofs.Held.{held}
use Rattle.cls_bytes.proofs.Steps.{IsBytes, Takes, Takes-then, Takes-all, read}
use Rattle.cls_bytes.proofs.Numbers.{IsU4, u2_sound, u2_complete, u4_sound, u4_complete, behind_sound, behind_complete}
use Rattle.cls_bytes.proofs.Parts.{three_bytes, FitThree, three_sound, three_complete, all_members_bytes, FitMembers, all_members_sound}
use Rattle.cls_bytes.proofs.Parts.{all_members_complete, pool_bytes, FitPool, pool_sound, pool_complete}

-- the magic number and the version
abbrev head : List ℕ
head = u4 3405691582 ++ (u2 0 ++ u2 49)

head_sound : (bytes rest : List ℕ) → IsBytes bytes → behind_head bytes ≡ Some rest → Takes bytes head rest
unfolding behind_head
head_sound bytes rest fits e =
    let a = bind_some (behind 4 3405691582 bytes) (λ minor. behind 2 0 minor >>= λ major. behind 2 49 major) rest e in
    let b = bind_some (behind 2 0 a.0) (behind 2 49) rest a.2 in
    let r = behind_sound 4 3405691582 IsU4 u4_sound bytes a.0 fits a.1 in
    let s = behind_sound 2 0 IsU2 u2_sound a.0 b.0 r.rest_fits b.1 in
    let t = behind_sound 2 49 IsU2 u2_sound b.0 rest s.rest_fits b.2 in
    Takes-then bytes (u4 3405691582) a.0 (u2 0 ++ u2 49) rest r (Takes-then a.0 (u2 0) b.0 (u2 49) rest s t)

head_complete : (rest : List ℕ) → behind_head (head ++ rest) ≡ Some rest
unfolding behind_head
head_complete rest =
    rw (
      behind_complete 4 3405691582 IsU4 u4_complete (omega arith) (u2 0 ++ (u2 49 ++ rest)),
      behind_complete 2 0 IsU2 u2_complete
          (omega arith) (u2 49 ++ rest),
    ) (behind_complete 2 49 IsU2 u2_complete (omega arith) rest)

-- the parts of a class file one behind the other
grouped : (a b c d e f g h r : List ℕ) → (a ++ (b ++ c)) ++ ((d ++ e) ++ ((f ++ (g ++ h)) ++ r)) ≡ a
    ++ (b ++ (c ++ (d ++ (e ++ (f ++ (g ++ (h ++ r)))))))
grouped a b c d e f g h r = simp append_assoc

-- a class file, part by part
abbrev parts_of : Tree → List ℕ
parts_of c =
    head ++ (pool_bytes c.pool ++ (three_bytes (c.access, c.this_class, c.super_class)
    ++ (u2 0 ++ all_members_bytes (c.fields, c.methods, c.attributes))))

spelled_as : (c : Tree) → parts_of c ≡ class_bytes c
spelled_as c =
    grouped (u4 3405691582) (u2 0) (u2 49) (u2 (length c.pool + 1)) (flat_map const_bytes c.pool) (u2 c.access) (u2 c.this_class)
    (u2 c.super_class)
    (u2 0 ++ all_members_bytes (c.fields, c.methods, c.attributes))

pub class_sound : (bytes : List ℕ) (class : Tree) → IsBytes bytes → class_at bytes ≡ Some class → IsFile class × (bytes ≡ class_bytes class)
unfolding class_at
class_sound bytes class fits e =
    let front = bind_some (behind_head bytes) _ class e in
    let h = head_sound bytes front.0 fits front.1 in
    let pool = read pool_at pool_bytes FitPool _ front.0 class pool_sound h.rest_fits front.2 in
    let three = read three_at three_bytes FitThree _ pool.rest class three_sound pool.takes.rest_fits pool.goes_on in
    let middle = bind_some (behind 2 0 three.rest) _ class three.goes_on in
    let z = behind_sound 2 0 IsU2 u2_sound three.rest middle.0 three.takes.rest_fits middle.1 in
    let p = pool.value in
    let members = read (members_at p) all_members_bytes (FitMembers p) _ middle.0 class (all_members_sound p) z.rest_fits middle.2 in
    let made : Tree = record {
      pool = p;
      access = three.value.0;
      this_class = three.value.1;
      super_class = three.value.2;
      fields =
          members.value.0;
      methods = members.value.1;
      attributes = members.value.2;
    } in
    let g = held (eqb (length members.rest) 0) (Some made) class members.goes_on in
    let nothing : members.rest ≡ [] = nil_from_length members.rest (eqb-true _ _ g.0) in
    let t3 = Takes-then three.rest (u2 0) middle.0 (all_members_bytes members.value) members.rest z members.takes in
    let t2 = Takes-then pool.rest (three_bytes three.value) three.rest (u2 0 ++ all_members_bytes members.value) members.rest three.takes t3
    in
    let t1 = Takes-then front.0 (pool_bytes p) pool.rest (three_bytes three.value ++ (u2 0 ++ all_members_bytes members.value)) members.rest
    pool.takes t2 in
    let t0 = Takes-then bytes head front.0 (pool_bytes p ++ (three_bytes three.value ++ (u2 0 ++ all_members_bytes members.value)))
    members.rest h t1 in
    let all : bytes ≡ class_bytes made =
    Takes-all bytes (head ++ (pool_bytes p ++ (three_bytes three.value ++ (u2 0 ++ all_members_bytes members.value)))) members.rest t0
    nothing ∙ spelled_as made in
    let ok : IsFile made =
    record {
      pool = pool.fits.0;
      count = pool.fits.1;
      access = three.fits.0;
      this_class = three.fits.1;
      super_class = three.fits.2;
      fields = members.fits.0;
      methods = members.fits.1;
      attributes = members.fits.2;
    } in
    subst (λ (c : Tree). IsFile c × (bytes ≡ class_bytes c)) (some_is made class g.1) (ok, all)

pub class_complete : (class : Tree) → IsFile class → class_at (class_bytes class) ≡ Some class
unfolding class_at
class_complete class ok =
    let p = class.pool in
    let three : ℕ × ℕ × ℕ = (class.access, class.this_class, class.super_class) in
    let members : Members = (class.fields, class.methods, class.attributes) in
    let rest = u2 0 ++ all_members_bytes members in
    let a : members_at p (all_members_bytes members) ≡ Some (members, []) =
    ap (members_at p) (sym (append-nil (all_members_bytes members))) ∙ all_members_complete p members []
    (ok.fields, ok.methods, ok.attributes) in
    ap class_at (sym (spelled_as class))
    ∙ rw (
      head_complete (pool_bytes p ++ (three_bytes three ++ rest)),
      pool_complete p (three_bytes three ++ rest) (ok.pool, ok.count),
      three_complete three rest (ok.access, ok.this_class, ok.super_class),
      behind_complete 2 0 IsU2 u2_complete (omega arith) (all_members_bytes members),
      a,
    ) refl

-- bytes that one class spells and reading gives another
pub only_one : (bytes : List ℕ) (found class : Tree) → class_at bytes ≡ Some found → IsFile class → bytes ≡ class_bytes class →
    found ≡ class
only_one bytes found class read_so ok e = some_is found class (sym read_so ∙ ap class_at e ∙ class_complete class ok)

-- bytes that a class spells are read
pub not_none : (bytes : List ℕ) (class : Tree) → class_at bytes ≡ None → IsFile class → bytes ≡ class_bytes class → ⊥
not_none bytes class none ok e = none_is_not class (sym none ∙ ap class_at e ∙ class_complete class ok)

pub one_spelled : (a b : Tree) → IsFile a → IsFile b → class_bytes a ≡ class_bytes b → a ≡ b
one_spelled a b fa fb e = some_is a b (sym (class_complete a fa) ∙ ap class_at e ∙ class_complete b fb)

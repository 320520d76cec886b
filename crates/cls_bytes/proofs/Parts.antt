-- Counted lists, methods and the pool: what is read is spelled so, and what is spelled so is read.
use Rattle.std.proofs.Common.{◌≡◌, ℕ, ◌+◌, ◌-◌, List, ◌++◌, length, ◌≤◌, Bool, true, false, eqb, ltb, Some, refl, sym, ap, subst, ◌∙◌}
use Rattle.std.proofs.Common.{append_assoc, arith}
use Rattle.std.proofs.lemmas.Bool.{eqb-false, ne_eqb, ltb-false, le-ltb}
use Rattle.std.specs.List.{flat_map, AllByRecursion}
use Rattle.mg_read.proofs.Steps.{some_is}
use Rattle.cls_tree.specs.declared.class.Const.{Const}
use Rattle.cls_tree.specs.Tree.{Attr, Member}
use Rattle.cls_tree.specs.Layout.{u2, const_bytes, attr_bytes, member_bytes}
use Rattle.std.specs.Prelude.{count_by}
use Rattle.cls_tree.specs.WellFormed.{is_code}
use Rattle.cls_tree.specs.Fits.{IsU2, FitsConst}
use Rattle.cls_tree.specs.ClassFile.{FileAttr, FileMember}
use Rattle.cls_bytes.specs.Reading.{number_at, const_at, attr_at, counted, listed_at, three_at, member_at, Members, members_at, pool_at}
use Rattle.cls_layout.proofs.Held.{passed}
use Rattle.cls_bytes.proofs.Steps.{Takes, Takes-then, IsSound, IsComplete, read}
use Rattle.cls_bytes.proofs.Numbers.{u2_sound, u2_complete}
use Rattle.cls_bytes.proofs.Consts.{const_sound, const_complete}
use Rattle.cls_bytes.proofs.Codes.{attr_sound, attr_complete}
use Rattle.cls_bytes.proofs.Lists.{listed_bytes, FitListed, counted_sound, counted_complete, listed_sound, listed_complete}

abbrev pub three_bytes : ℕ × ℕ × ℕ → List ℕ
three_bytes t = u2 t.0 ++ (u2 t.1 ++ u2 t.2)

pub three_then : (t : ℕ × ℕ × ℕ) (rest : List ℕ) → three_bytes t ++ rest ≡ u2 t.0 ++ (u2 t.1 ++ (u2 t.2 ++ rest))
three_then t rest = regroup (u2 t.0) (u2 t.1) (u2 t.2) rest
  where
    regroup : (a b c r : List ℕ) → (a ++ (b ++ c)) ++ r ≡ a ++ (b ++ (c ++ r))
    regroup a b c r = simp append_assoc

abbrev pub FitThree : ℕ × ℕ × ℕ → Type 0
FitThree t = IsU2 t.0 × IsU2 t.1 × IsU2 t.2

pub three_sound : IsSound three_at three_bytes FitThree
unfolding three_at
three_sound bytes x fits e =
    let a = read (number_at 2) u2 IsU2 _ bytes x u2_sound fits e in
    let b = read (number_at 2) u2 IsU2 _ a.rest x u2_sound a.takes.rest_fits a.goes_on in
    let c = read (number_at 2) u2 IsU2 _ b.rest x u2_sound b.takes.rest_fits b.goes_on in
    let t1 = Takes-then a.rest (u2 b.value) b.rest (u2 c.value) c.rest b.takes c.takes in
    let t0 = Takes-then bytes (u2 a.value) a.rest (u2 b.value ++ u2 c.value) c.rest a.takes t1 in
    subst (λ (y : (ℕ × ℕ × ℕ) × List ℕ). Takes bytes (three_bytes y.0) y.1 × FitThree y.0) (some_is ((a.value, b.value, c.value), c.rest) x
    c.goes_on) (t0, (a.fits, b.fits, c.fits))

pub three_complete : IsComplete three_at three_bytes FitThree
unfolding three_at
three_complete t rest fit = rw (
  u2_complete t.0 (u2 t.1 ++ (u2 t.2 ++ rest)) fit.0,
  u2_complete t.1 (u2 t.2 ++ rest) fit.1,
  u2_complete t.2 rest fit.2,
) refl

module _ (pool : List Const) (is_method : Bool) where
  abbrev file_attr : Attr → Type 0
  file_attr = FileAttr pool is_method

  few : (n : ℕ) → ltb 1 n ≡ false → n ≤ 1
  few n e = ltb-false 1 n e

  pub member_sound : IsSound (member_at pool is_method) member_bytes (FileMember pool is_method)
  unfolding member_at
  member_sound bytes x fits e =
      let three = read three_at three_bytes FitThree _ bytes x three_sound fits e in
      let attributes = read (listed_at (attr_at pool is_method)) (listed_bytes attr_bytes) (FitListed file_attr) _ three.rest x
      (listed_sound (attr_at pool is_method) attr_bytes file_attr (attr_sound pool is_method)) three.takes.rest_fits three.goes_on in
      let all = Takes-then bytes (three_bytes three.value) three.rest (listed_bytes attr_bytes attributes.value) attributes.rest three.takes
      attributes.takes in
      let member : Member = record {
        access = three.value.0;
        name = three.value.1;
        descriptor = three.value.2;
        attributes =
            attributes.value;
      } in
      let p = passed (ltb 1 (count_by is_code attributes.value)) (Some (member, attributes.rest)) x attributes.goes_on in
      let ok : FileMember pool is_method member =
      record {
        access = three.fits.0;
        name = three.fits.1;
        descriptor = three.fits.2;
        attributes = attributes.fits;
        one_code =
            few (count_by is_code attributes.value) p.0;
      } in
      subst (λ (y : Member × List ℕ). Takes bytes (member_bytes y.0) y.1 × FileMember pool is_method y.0)
      (some_is (member, attributes.rest) x p.1)
      (subst (λ (w : List ℕ). Takes bytes w attributes.rest) (three_then three.value (listed_bytes attr_bytes attributes.value)) all, ok)

  pub member_complete : IsComplete (member_at pool is_method) member_bytes (FileMember pool is_method)
  unfolding member_at
  member_complete m rest ok =
      let one : ltb 1 (count_by is_code m.attributes) ≡ false = le-ltb 1 (count_by is_code m.attributes) ok.one_code in
      ap (λ w. member_at pool is_method (w ++ rest))
      (sym (three_then (m.access, m.name, m.descriptor) (listed_bytes attr_bytes m.attributes)))
      ∙ ap (member_at pool is_method) (append_assoc (three_bytes (m.access, m.name, m.descriptor)) (listed_bytes attr_bytes m.attributes)
      rest)
      ∙ rw (
        three_complete (m.access, m.name, m.descriptor) (listed_bytes attr_bytes m.attributes ++ rest) (ok.access, ok.name, ok.descriptor),
        listed_complete (attr_at pool is_method) attr_bytes file_attr (attr_complete pool is_method) m.attributes rest ok.attributes,
        one,
      ) refl

abbrev pub all_members_bytes : Members → List ℕ
all_members_bytes t = listed_bytes member_bytes t.0 ++ (listed_bytes member_bytes t.1 ++ listed_bytes attr_bytes t.2)

abbrev pub FitMembers : List Const → Members → Type 0
FitMembers pool t = FitListed (FileMember pool false) t.0 × FitListed (FileMember pool true) t.1 × FitListed (FileAttr pool false) t.2

pub all_members_sound : (pool : List Const) → IsSound (members_at pool) all_members_bytes (FitMembers pool)
unfolding members_at
all_members_sound p bytes x fits e =
    let fields = read (listed_at (member_at p false)) (listed_bytes member_bytes) (FitListed (FileMember p false)) _ bytes x
    (listed_sound (member_at p false) member_bytes (FileMember p false) (member_sound p false)) fits e in
    let methods = read (listed_at (member_at p true)) (listed_bytes member_bytes) (FitListed (FileMember p true)) _ fields.rest x
    (listed_sound (member_at p true) member_bytes (FileMember p true) (member_sound p true)) fields.takes.rest_fits fields.goes_on in
    let attributes = read (listed_at (attr_at p false)) (listed_bytes attr_bytes) (FitListed (FileAttr p false)) _ methods.rest x
    (listed_sound (attr_at p false) attr_bytes (FileAttr p false) (attr_sound p false)) methods.takes.rest_fits methods.goes_on in
    let t1 = Takes-then fields.rest (listed_bytes member_bytes methods.value) methods.rest (listed_bytes attr_bytes attributes.value)
    attributes.rest methods.takes attributes.takes in
    let t0 = Takes-then bytes (listed_bytes member_bytes fields.value) fields.rest (listed_bytes member_bytes methods.value
    ++ listed_bytes attr_bytes attributes.value) attributes.rest fields.takes t1 in
    subst (λ (y : Members × List ℕ). Takes bytes (all_members_bytes y.0) y.1 × FitMembers p y.0)
    (some_is ((fields.value, methods.value, attributes.value), attributes.rest) x attributes.goes_on)
    (t0, (fields.fits, methods.fits, attributes.fits))

pub all_members_complete : (pool : List Const) → IsComplete (members_at pool) all_members_bytes (FitMembers pool)
unfolding members_at
all_members_complete p t rest ok =
    let last = listed_bytes attr_bytes t.2 in
    ap (members_at p) (append_assoc (listed_bytes member_bytes t.0) (listed_bytes member_bytes t.1 ++ last) rest
    ∙ ap (λ w. listed_bytes member_bytes t.0 ++ w) (append_assoc (listed_bytes member_bytes t.1) last rest))
    ∙ rw (
      listed_complete (member_at p false) member_bytes (FileMember p false) (member_complete p false) t.0
          (listed_bytes member_bytes t.1 ++ (last ++ rest)) ok.0,
      listed_complete (member_at p true) member_bytes (FileMember p true) (member_complete p true) t.1 (last ++ rest) ok.1,
      listed_complete (attr_at p false) attr_bytes (FileAttr p false) (attr_complete p false) t.2 rest ok.2,
    ) refl

abbrev pub pool_bytes : List Const → List ℕ
pool_bytes pool = u2 (length pool + 1) ++ flat_map const_bytes pool

abbrev pub FitPool : List Const → Type 0
FitPool pool = AllByRecursion FitsConst pool × IsU2 (length pool + 1)

pub pool_sound : IsSound pool_at pool_bytes FitPool
unfolding pool_at
pool_sound bytes x fits e =
    let n = read (number_at 2) u2 IsU2 _ bytes x u2_sound fits e in
    let p = passed (eqb n.value 0) (counted const_at (n.value - 1) n.rest) x n.goes_on in
    let xs = counted_sound const_at const_bytes FitsConst const_sound (n.value - 1) n.rest x n.takes.rest_fits p.1 in
    let is : n.value ≡ length x.0 + 1 = omega (arith, xs.1, eqb-false n.value 0 p.0) in
    let all = Takes-then bytes (u2 n.value) n.rest (flat_map const_bytes x.0) x.1 n.takes xs.0 in
    (subst (λ (k : ℕ). Takes bytes (u2 k ++ flat_map const_bytes x.0) x.1) is all, (xs.2, subst IsU2 is n.fits))

pub pool_complete : IsComplete pool_at pool_bytes FitPool
unfolding pool_at
pool_complete pool rest fit =
    let less : length pool + 1 - 1 ≡ length pool = omega arith in
    let some : eqb (length pool + 1) 0 ≡ false = ne_eqb (length pool + 1) 0 (λ h. omega (arith, h)) in
    ap pool_at (append_assoc (u2 (length pool + 1)) (flat_map const_bytes pool) rest)
    ∙ rw (
      u2_complete (length pool + 1) (flat_map const_bytes pool ++ rest) fit.1,
      some,
      less,
      counted_complete const_at const_bytes
          FitsConst const_complete pool rest fit.0,
    ) refl

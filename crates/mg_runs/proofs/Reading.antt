-- Reading class files back, one after another.
use Rattle.std.proofs.Common.{◌≡◌, ℕ, zero, suc, ◌+◌, ◌<◌, ◌≤◌, List, [], ◌∷◌, ◌++◌, length, get_or, drop, map, sym, ap, ◌∙◌, subst}
use Rattle.std.proofs.Common.{append_assoc, append-nil, arith}
use Rattle.std.proofs.lemmas.List.{at_drop_all, map-append}
use Rattle.cls_tree.specs.Tree.{Class as File}
use Rattle.cls_tree.specs.View.{class_of as file_of}
use Rattle.cls_tree.specs.declared.class.Class.{Class as KeptFile}
use Rattle.cls_bytes.specs.Spelling.{ClassSpells}
use Rattle.cls_layout.proofs.Drops.{map_drop_is}
use Rattle.mg_compile.specs.declared.files.ClassFile.{ClassFile}
use Rattle.mg_runs.specs.Runs.{AreSpelled}
use Rattle.mg_runs.specs.inner.Loading.{HaveFiles}

abbrev bytes_of : ClassFile → List ℕ
bytes_of f = f.bytes

spelled_in : (files : List ClassFile) (fs : List File) → AreSpelled (map bytes_of files) fs → (i : ℕ) (d : ClassFile) → i < length files →
    (c : File) × ClassSpells (get_or files i d).bytes c
spelled_in [] fs s i d lt = absurd (omega arith)
spelled_in (f ∷ files) [] s i d lt = absurd s
spelled_in (f ∷ files) (c ∷ fs) s zero d lt = (c, s.0)
spelled_in (f ∷ files) (c ∷ fs) s (suc i) d lt = spelled_in files fs s.1 i d (omega (arith, lt))

module _ (files : List ClassFile) where
  -- the class files so far, and those of the files that are left, are all
  pub record ReadSoFar (i : ℕ) (done : List KeptFile) : Type 0 where
    pub goes : (rest : List File) → AreSpelled (map bytes_of (drop i files)) rest →
        AreSpelled (map bytes_of files) (map file_of done ++ rest)

  pub read_start : ReadSoFar 0 []
  read_start = record { goes = λ rest h. h }

  module _ (i : ℕ) (file : ClassFile) (within : i < length files) (is : file ≡ get_or files i file) where
    pub spelled_at : HaveFiles files → (c : File) × ClassSpells file.bytes c
    spelled_at (fs, s) =
        let found = spelled_in files fs s i file within in
        (found.0, subst (λ (z : ClassFile). ClassSpells z.bytes found.0) (sym is) found.1)

    pub read_more : (class : KeptFile) (old new : List KeptFile) → ClassSpells file.bytes (file_of class) → new ≡ old ++ class ∷ [] →
        ReadSoFar i old → ReadSoFar (i + 1) new
    read_more class old new spells grown l = record {
      goes = λ rest h.
          let both : AreSpelled (file.bytes ∷ map bytes_of (drop (i + 1) files)) (file_of class ∷ rest) = (spells, h) in
          let all = l.goes (file_of class ∷ rest)
          (subst (λ (z : List (List ℕ)). AreSpelled z (file_of class ∷ rest)) (sym (map_drop_is bytes_of files i file within is)) both) in
          let e : map file_of new ++ rest ≡ map file_of old ++ file_of class ∷ rest =
          ap (λ (z : List KeptFile). map file_of z ++ rest) grown ∙ ap (λ (z : List File). z ++ rest) (map-append file_of old (class ∷ []))
          ∙ append_assoc (map file_of old) (file_of class ∷ []) rest in
          subst (AreSpelled (map bytes_of files)) (sym e) all;
    }

  pub read_all : (i : ℕ) (done : List KeptFile) → length files ≤ i → ReadSoFar i done → AreSpelled (map bytes_of files) (map file_of done)
  read_all i done past l =
      let none : AreSpelled (map bytes_of (drop i files)) []
      = subst (λ (z : List (List ℕ)). AreSpelled z []) (sym (at_drop_all (map bytes_of) files i past)) tt in
      subst (AreSpelled (map bytes_of files)) (append-nil (map file_of done)) (l.goes [] none)

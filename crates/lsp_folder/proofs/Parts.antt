-- All sources of a program are in the folder.
use Rattle.std.proofs.Common.{◌≡◌, ℕ, List, [], ◌∷◌, Bool, true, false, ◌&&◌, cond, refl}
use Rattle.std.specs.Prelude.{All, filter}
use Rattle.std.proofs.lemmas.List.Elements.{All-nil, All-cons, All-append, All-map}
use Rattle.std.proofs.lemmas.List.Sorted.{All-permutation}
use Rattle.lsp_text.specs.declared.documents.Documents.{Documents}
use Rattle.lsp_text.specs.Documents.{entries}
use Rattle.lsp_folder.specs.declared.program.File.{File}
use Rattle.lsp_folder.specs.declared.program.Member.{Member}
use Rattle.lsp_folder.specs.Names.{is_part}
use Rattle.lsp_folder.specs.Programs.{is_open, open_member, open_members, open_names, is_read, read_member, read_members, counted, AreMembers}

-- what a filter leaves passes
passing : {X : Type 0} (p : X → Bool) (x : X) (xs : List X) (b : Bool) → p x ≡ b → All (λ y. p y ≡ true) xs →
    All (λ y. p y ≡ true) (cond b (x ∷ xs) xs)
passing p x xs true e all = All-cons (λ y. p y ≡ true) x xs e all
passing p x xs false e all = all

passes : {X : Type 0} (p : X → Bool) (xs : List X) → All (λ x. p x ≡ true) (filter p xs)
passes p [] = All-nil (λ x. p x ≡ true)
passes p (x ∷ xs) = passing p x (filter p xs) (p x) refl (passes p xs)

and_left : (a b : Bool) → (a && b) ≡ true → a ≡ true
and_left true b e = refl
and_left false b e = absurd (let no : ⊥ = cc in no)

module _ (documents : Documents) (document : List ℕ) (files : List File) where
  abbrev pub IsPart : Member → Type 0
  IsPart m = is_part document m.name ≡ true

  open_parts : All IsPart (open_members documents document)
  open_parts = All-map IsPart open_member (filter (is_open document) (entries documents)) (passes (is_open document) (entries documents))

  read_parts : All IsPart (read_members documents document files)
  read_parts = All-map IsPart read_member (filter (is_read (open_names documents) document) files)
      (λ k d less. and_left _ _ (passes (is_read (open_names documents) document) files k d less))

  counted_parts : (ms rs : List Member) → All IsPart ms → All IsPart rs → All IsPart (counted ms rs)
  counted_parts [] rs o r = All-nil IsPart
  counted_parts (m ∷ ms) rs o r = All-append IsPart (m ∷ ms) rs o r

  -- the sources of a program are in the folder of the document
  pub are_parts : (members : List Member) → AreMembers documents document files members → All IsPart members
  are_parts members are = All-permutation IsPart _ members are.all
      (counted_parts (open_members documents document) (read_members documents document files) open_parts read_parts)

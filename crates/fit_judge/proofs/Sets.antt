-- Sets of the names that the protocols of parts give.
use Rattle.std.proofs.Common.{◌≡◌, ℕ, ◌+◌, ◌<◌, ◌≤◌, true, false, take_all, List, [], ◌∷◌, ◌++◌, map, length, get_or, take, refl, sym, ap}
use Rattle.std.proofs.Common.{◌∙◌, subst, IsTrue, ◌↔◌, Contains, true≢false}
use Rattle.std.proofs.lemmas.List.{take_more, map-append, append-nil}
use Rattle.std.proofs.lemmas.Grind.{flat_map-append}
use Rattle.std.proofs.lemmas.Slice.Eq.{bytes_eq-Decides}
use Rattle.std.specs.Str.{bytes_eq}
use Rattle.mg_text.specs.Call.{Name}
use Rattle.scr_tree.specs.Tree.{LocalTree}
use Rattle.scr_judge.specs.inner.Seen.{Names, with_name}
use Rattle.scr_judge.proofs.Duplicates.{HasNames, has_more}
use Rattle.mg_sources.specs.Parts.{part_of}
use Rattle.mg_sources.specs.declared.part.Part.{Part as KeptPart}
use Rattle.mg_fits.specs.Parts.{protocol_in, protocols_in}

-- what the test of a list says
module _ (has : Names) (names : List Name) (same : (q : Name) → IsTrue (has q) ↔ Contains names q) where
  pub is_in : (q : Name) → has q ≡ true → Contains names q
  is_in q e = (same q).0 e

  pub not_in : (q : Name) → has q ≡ false → Contains names q → ⊥
  not_in q e c = true≢false (sym ((same q).1 c) ∙ e)

pub map-itself : {X : Type 0} (xs : List X) → map (λ (x : X). x) xs ≡ xs
map-itself [] = refl
map-itself {X} (x ∷ xs) = ap (λ (ys : List X). x ∷ ys) (map-itself xs)

-- one more name
pub has_next : (has : Names) (names : List Name) (name : Name) (now : Names) → HasNames has names → now ≡ with_name name has →
    HasNames now (names ++ name ∷ [])
has_next has names name now h e = subst (λ f. HasNames f (names ++ name ∷ [])) (sym e) (record {
  each = λ q. has_more (bytes_eq name q) (has q) names name q (bytes_eq-Decides name q) (h.each q);
})

-- what the protocols of the parts up to an index give
module _ (key : LocalTree → Name) (parts : List KeptPart) (i : ℕ) where
  abbrev pub keys_to : List Name
  keys_to = map key (protocols_in (map part_of (take i parts)))

module _ (key : LocalTree → Name) (parts : List KeptPart) (i : ℕ) (part : KeptPart) (within : i < length parts)
    (is : part ≡ get_or parts i part) where
  keys_cut : keys_to key parts (i + 1) ≡ keys_to key parts i ++ map key (protocol_in (part_of part))
  keys_cut =
      ap (λ ps. map key (protocols_in (map part_of ps))) (take_more parts i part within ∙ ap (λ y. take i parts ++ y ∷ []) (sym is))
      ∙ ap (λ ps. map key (protocols_in ps)) (map-append part_of (take i parts) (part ∷ []))
      ∙ ap (map key) (flat_map-append protocol_in (map part_of (take i parts)) (part_of part ∷ []))
      ∙ map-append key (protocols_in (map part_of (take i parts))) (protocol_in (part_of part) ++ [])
      ∙ ap (λ ls. keys_to key parts i ++ map key ls) (append-nil (protocol_in (part_of part)))

  pub keys_same : (has : Names) → HasNames has (keys_to key parts i) → protocol_in (part_of part) ≡ [] →
      HasNames has (keys_to key parts (i + 1))
  keys_same has h none =
      subst (HasNames has) (sym (keys_cut ∙ ap (λ ls. keys_to key parts i ++ map key ls) none ∙ append-nil (keys_to key parts i))) h

  pub keys_more : (has : Names) (local : LocalTree) (name : Name) (now : Names) → HasNames has (keys_to key parts i) →
      protocol_in (part_of part) ≡ local ∷ [] → name ≡ key local → now ≡ with_name name has → HasNames now (keys_to key parts (i + 1))
  keys_more has local name now h one same e =
      subst (HasNames now) (sym (keys_cut ∙ ap (λ ls. keys_to key parts i ++ map key ls) one))
      (subst (λ n. HasNames now (keys_to key parts i ++ n ∷ [])) same (has_next has (keys_to key parts i) name now h e))

-- of all parts
pub keys_all : (key : LocalTree → Name) (parts : List KeptPart) (i : ℕ) → length parts ≤ i → (has : Names) →
    HasNames has (keys_to key parts i) → (q : Name) → IsTrue (has q) ↔ Contains (map key (protocols_in (map part_of parts))) q
keys_all key parts i le has h =
    (subst (λ (ps : List KeptPart). HasNames has (map key (protocols_in (map part_of ps)))) (take_all i parts le) h).each

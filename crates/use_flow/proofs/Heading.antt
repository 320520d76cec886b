-- What a turn of a loop over the slots in scope does.
use Rattle.std.proofs.Common.{◌≡◌, ℕ, ◌+◌, ◌<◌, ◌≤◌, List, [], ◌∷◌, ◌++◌, length, get_or, drop, Option, Some, None, option_map, refl, sym}
use Rattle.std.proofs.Common.{ap, ◌∙◌, append_assoc}
use Rattle.std.specs.Prelude.{slice_set, slice_index_or, option_and_then}
use Rattle.std.proofs.lemmas.List.{at_drop_more, at_drop_all}
use Rattle.jv_core.specs.declared.program.CoreType.{CoreType}
use Rattle.jv_core.specs.Lookup.{slot_type}
use Rattle.use_rules.specs.declared.key.TableKey.TheVariants as keys
use Rattle.use_rules.specs.Elements.{Set}
use Rattle.use_rules.specs.Keys.{class_in}
use Rattle.use_rules.specs.State.{Out}
use Rattle.use_flow.specs.View.{tables_of}
use Rattle.use_flow.specs.inner.Followed.{Followed, here, slot_class, slot_heads, slots_at}
use Rattle.use_elements.proofs.Rests.{append_nil}

-- what stands for a slot depends on its class alone
by_class : {A : Type 0} (none : A) (some : A) (o : Option CoreType) →
    elim (option_map class_in o) as (λ _. A) [ None ↦ none | Some c ↦ elim c as (λ _. A) [ None ↦ none | Some n ↦ some ] ]
    ≡ elim (option_and_then class_in o) as (λ _. A) [ None ↦ none | Some n ↦ some ]
by_class none some None = refl
by_class none some (Some ty) = refl

module _ (s : Followed) (l : ℕ) (ks : List ℕ) (i k : ℕ) (lt : i < length ks) (at : k ≡ get_or ks i k) where
  head_outs : (sets : List Set) → slot_heads s l (drop i ks) sets
      ≡ elim (slot_class s k) as (λ _. List Out) [
        | None ↦ []
        | Some n ↦ record {
          key = keys.Loop (here s) l k;
          set =
              slice_index_or sets k [];
        } ∷ []
      ] ++ slot_heads s l (drop (i + 1) ks) sets
  head_outs sets =
      at_drop_more (λ xs. slot_heads s l xs sets) ks i k lt ∙ ap (λ x. slot_heads s l (x ∷ drop (i + 1) ks) sets) (sym at)
      ∙ ap (λ r. r ++ slot_heads s l (drop (i + 1) ks) sets)
      (by_class {A = List Out} [] (record { key = keys.Loop (here s) l k; set = slice_index_or sets k [] } ∷ []) (slot_type s.method k))

  pub slot_skipped : (sets : List Set) (os total : List Out) → slot_class s k ≡ None →
      os ++ slot_heads s l (drop i ks) sets ≡ total → os ++ slot_heads s l (drop (i + 1) ks) sets ≡ total
  slot_skipped sets os total none h =
      ap (λ r. os ++ r) (sym (head_outs sets ∙
      ap (λ o. elim o as (λ _. List Out) [
        | None ↦ []
        | Some n ↦ record { key = keys.Loop (here s) l k; set = slice_index_or sets k [] }
            ∷ []
      ] ++ slot_heads s l (drop (i + 1) ks) sets) none)) ∙ h

  pub slot_sent : (sets : List Set) (c n : ℕ) (os os' total : List Out) → slot_class s k ≡ Some n → c ≡ here s →
      os' ≡ os ++ record { key = keys.Loop c l k; set = slice_index_or sets k [] } ∷ [] →
      os ++ slot_heads s l (drop i ks) sets ≡ total → os' ++ slot_heads s l (drop (i + 1) ks) sets ≡ total
  slot_sent sets c n os os' total some num e h =
      ap (λ r. r ++ slot_heads s l (drop (i + 1) ks) sets)
      (e ∙ ap (λ x. os ++ record { key = keys.Loop x l k; set = slice_index_or sets k [] } ∷ []) num)
      ∙ append_assoc os (record { key = keys.Loop (here s) l k; set = slice_index_or sets k [] } ∷ [])
      (slot_heads s l (drop (i + 1) ks) sets)
      ∙ ap (λ r. os ++ r) (sym (head_outs sets ∙
      ap (λ o. elim o as (λ _. List Out) [
        | None ↦ []
        | Some n ↦ record { key = keys.Loop (here s) l k; set = slice_index_or sets k [] }
            ∷ []
      ] ++ slot_heads s l (drop (i + 1) ks) sets) some)) ∙ h

  here_filled : (sets : List Set) → slots_at s l (drop i ks) sets
      ≡ slots_at s l (drop (i + 1) ks)
      (elim (slot_class s k) as (λ _. List Set) [ None ↦ sets | Some n ↦ slice_set sets k (tables_of s.held (keys.Loop (here s) l k)) ])
  here_filled sets =
      at_drop_more (λ xs. slots_at s l xs sets) ks i k lt ∙ ap (λ x. slots_at s l (x ∷ drop (i + 1) ks) sets) (sym at)
      ∙ ap (slots_at s l (drop (i + 1) ks)) (by_class {A = List Set} sets (slice_set sets k (tables_of s.held (keys.Loop (here s) l k)))
      (slot_type s.method k))

  pub slot_unfilled : (sets total : List Set) → slot_class s k ≡ None → slots_at s l (drop i ks) sets ≡ total →
      slots_at s l (drop (i + 1) ks) sets ≡ total
  slot_unfilled sets total none h =
      sym (here_filled sets ∙ ap (λ o. slots_at s l (drop (i + 1) ks)
      (elim o as (λ _. List Set) [ None ↦ sets | Some n ↦ slice_set sets k (tables_of s.held (keys.Loop (here s) l k)) ])) none) ∙ h

  pub slot_filled : (sets sets' total : List Set) (c n : ℕ) (x : Set) → slot_class s k ≡ Some n → c ≡ here s →
      x ≡ tables_of s.held (keys.Loop c l k) → sets' ≡ slice_set sets k x →
      slots_at s l (drop i ks) sets ≡ total → slots_at s l (drop (i + 1) ks) sets' ≡ total
  slot_filled sets sets' total c n x some num is e h =
      ap (slots_at s l (drop (i + 1) ks)) (e ∙ ap (slice_set sets k) is ∙ ap (λ x. slice_set sets k (tables_of s.held (keys.Loop x l k)))
      num)
      ∙ sym (here_filled sets ∙ ap (λ o. slots_at s l (drop (i + 1) ks)
      (elim o as (λ _. List Set) [ None ↦ sets | Some n ↦ slice_set sets k (tables_of s.held (keys.Loop (here s) l k)) ])) some) ∙ h

pub slots_sent : (s : Followed) (l : ℕ) (ks : List ℕ) (i : ℕ) (sets : List Set) (os total : List Out) → length ks ≤ i →
    os ++ slot_heads s l (drop i ks) sets ≡ total → os ≡ total
slots_sent s l ks i sets os total le h = sym (ap (λ r. os ++ r) (at_drop_all (λ xs. slot_heads s l xs sets) ks i le) ∙ append_nil os) ∙ h

pub slots_filled : (s : Followed) (l : ℕ) (ks : List ℕ) (i : ℕ) (sets total : List Set) → length ks ≤ i →
    slots_at s l (drop i ks) sets ≡ total → sets ≡ total
slots_filled s l ks i sets total le h = sym (at_drop_all (λ xs. slots_at s l xs sets) ks i le) ∙ h

pub ruleset sent = (slot_skipped, slot_sent, slots_sent)

pub ruleset filled = (slot_unfilled, slot_filled, slots_filled)

pub sent_in_turn : (a b c : List Out) (x y : List Out) → b ≡ a ++ x → c ≡ b ++ y → c ≡ a ++ (x ++ y)
sent_in_turn a b c x y e f = f ∙ ap (λ r. r ++ y) e ∙ append_assoc a x y

pub ruleset heads = (sent_in_turn)

-- Sets of names as tests.
use Rattle.std.proofs.Common.{◌≡◌, Bool, true, false, cond, ◌||◌, [], String, string_bytes, refl, ◌∙◌}
use Rattle.std.specs.Str.{bytes_eq}
use Rattle.std.specs.String.{string_eq}
use Rattle.std.specs.Borrow.{Bor}
use Rattle.std.specs.HashSet.{HashSet, contains_text, Updates, UpdatesBy, keys}
use Rattle.std.proofs.lemmas.Map.Text.{hash_set_updates_text}
use Rattle.std.specs.List.{list_any}
use Rattle.mg_text.specs.Call.{Name}
use Rattle.scr_judge.specs.inner.Seen.{none, with_name, noted_in}

pub emptied : {A S : Type 0} (s : HashSet (String A) S) → keys s ≡ [] → contains_text s ≡ none
emptied s e = λ i bs. list_any (λ k. bytes_eq bs (string_bytes k)) (e i)

cond-or : (b d : Bool) → cond b true d ≡ (b || d)
cond-or true d = refl
cond-or false d = refl

pub noted : {A S : Type 0} (name : String A) (s n : HashSet (String A) S) →
    UpdatesBy string_eq (λ k. bytes_eq (string_bytes name) (string_bytes k)) s n true →
    contains_text n ≡ with_name (string_bytes name) (contains_text s)
noted name s n u = λ i q. (hash_set_updates_text (string_bytes name) s n true u q ∙ cond-or (bytes_eq (string_bytes name) q)
    (contains_text s q)) i

pub none_noted : {S : Type 0} (s : HashSet (Bor Name) S) → keys s ≡ [] → noted_in s ≡ none
none_noted s e = λ i q. list_any (λ k. bytes_eq q k.now) (e i)

pub one_noted : {S : Type 0} (name : Bor Name) (s n : HashSet (Bor Name) S) → Updates (λ x y. bytes_eq x.now y.now) s n name true →
    noted_in n ≡ with_name name.now (noted_in s)
one_noted name s n u = λ i q. (u.0 (record { ref_ptr = (0, 0); now = q }) ∙ cond-or (bytes_eq name.now q) (noted_in s q)) i

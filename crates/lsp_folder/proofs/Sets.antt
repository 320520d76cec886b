-- Sets of names as tests.
use Rattle.std.proofs.Common.{◌≡◌, ℕ, Bool, true, false, cond, ◌||◌, List, [], ◌∷◌, ◌++◌, refl, ap, ◌∙◌}
use Rattle.std.specs.Borrow.{Bor}
use Rattle.std.specs.HashSet.{HashSet, Updates, keys}
use Rattle.std.specs.List.{list_any}
use Rattle.std.specs.Str.{bytes_eq}
use Rattle.lsp_folder.specs.Noted.{among, noted_in}

pub none_noted : {S : Type 0} (s : HashSet (Bor (List ℕ)) S) → keys s ≡ [] → noted_in s ≡ among []
none_noted s e = λ i q. list_any (λ k. bytes_eq q k.now) (e i)

cond-or : (b d : Bool) → cond b true d ≡ (b || d)
cond-or true d = refl
cond-or false d = refl

-- one name more
among_more : (known : List (List ℕ)) (name q : List ℕ) → (bytes_eq name q || among known q) ≡ among (known ++ name ∷ []) q
among_more [] name q = refl
among_more (n ∷ known) name q =
    turn (bytes_eq name q) (bytes_eq n q) (among known q) ∙ ap (λ (b : Bool). bytes_eq n q || b) (among_more known name q) where
      turn : (a b c : Bool) → (a || (b || c)) ≡ (b || (a || c))
      turn true true c = refl
      turn true false c = refl
      turn false b c = refl

pub one_noted : {S : Type 0} (name : Bor (List ℕ)) (s n : HashSet (Bor (List ℕ)) S) → Updates (λ x y. bytes_eq x.now y.now) s n name true →
    (known : List (List ℕ)) → noted_in s ≡ among known → noted_in n ≡ among (known ++ name.now ∷ [])
one_noted name s n u known e = λ i q. (u.0 (record { ref_ptr = (0, 0); now = q }) ∙ cond-or (bytes_eq name.now q) (noted_in s q)
    ∙ ap (λ (has : List ℕ → Bool). bytes_eq name.now q || has q) e ∙ among_more known name.now q) i

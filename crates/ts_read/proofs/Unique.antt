-- Reading the bytes of a file gives one answer at most.
use Rattle.std.proofs.Common.{◌≡◌, ◌⊎◌, ℕ, ◌<◌, ◌≤◌, List, length, take, Option, Some, None, refl, sym, ap, ◌∙◌, subst, inl, inr, arith}
use Rattle.std.specs.Prelude.{Result}
use Rattle.mg_text.specs.Call.{Name}
use Rattle.mg_text.specs.Places.{start_of, place_after}
use Rattle.mg_text.specs.declared.place.Place.{Place}
use Rattle.mg_read.specs.Culprit.{Culprit, culprit}
use Rattle.mg_read.specs.FirstLaws.{IsSingle}
use Rattle.mg_read.proofs.Judging.{one_answer, one_first}
use Rattle.mg_read.proofs.Steps.{some_is}
use Rattle.mg_read.proofs.Cuts.{same_tokens, tokens_or_bad, bad_once}
use Rattle.ts_tree.specs.Typestate.{Typestate}
use Rattle.ts_parse.specs.declared.written.Naming.{Naming}
use Rattle.ts_parse.specs.Tok.{Tok, typestates, tok_said, AreTokens, IsBadAt}
use Rattle.ts_parse.specs.Grammar.{IsSpelled}
use Rattle.ts_parse.specs.Written.{WFile}
use Rattle.ts_parse.proofs.Scans.{apart}
use Rattle.ts_parse.proofs.Whole as parsed
use Rattle.ts_read.specs.declared.condition.Condition.{Condition}
use Rattle.ts_read.specs.declared.condition.Condition.TheVariants as conditions
use Rattle.ts_read.specs.declared.fault.TsFault.{TsFault}
use Rattle.ts_read.specs.Conditions.{IsRepeat, IsTwice, IsUnknown, HasOther, IsNamedEnd, Judges, IsFault}
use Rattle.ts_read.specs.Meaning.{typestate_of}
use Rattle.ts_read.specs.Outcome.{Answer, Read, BadByte, Refused, Spells, Outcome, too_large, too_many, bad_byte, syntax, refused, read}
use Rattle.ts_read.specs.Outcome.{answer_of, IsAnswered}
use Rattle.ts_read.specs.inner.Composing.{IsToldOf}

-- ---- one fault

repeat_single : IsSingle IsRepeat
repeat_single x c d a b = a.0 ∙ sym b.0

twice_single : IsSingle IsTwice
twice_single x c d a b = a.0 ∙ sym b.0

unknown_single : (states : List Naming) → IsSingle (IsUnknown states)
unknown_single states n c d a b = a.0 ∙ sym b.0

other_single : IsSingle HasOther
other_single x c d a b = a.0 ∙ sym b.0

end_single : IsSingle IsNamedEnd
end_single n c d a b = a.0 ∙ sym b.0

one_of : (w : WFile) (k : Condition) (r s : Option Culprit) → Judges w k r → Judges w k s → r ≡ s
one_of w conditions.DuplicateState r s = one_answer repeat_single
one_of w conditions.UnknownState r s = one_answer (unknown_single _)
one_of w conditions.DuplicateMethod r s = one_answer twice_single
one_of w conditions.SignatureDiffers r s = one_answer other_single
one_of w conditions.DuplicateLabel r s = one_answer repeat_single
one_of w conditions.ReservedEnd r s = one_answer end_single

one_fault : (w : WFile) (r s : Option (Condition × Culprit)) → IsFault w r → IsFault w s → r ≡ s
one_fault w r s p q = one_first (one_of w) p q

place_is : (p q : Place) (n m : Name) → culprit p n ≡ culprit q m → p ≡ q
place_is p q n m e = cc

name_is : (p q : Place) (n m : Name) → culprit p n ≡ culprit q m → n ≡ m
name_is p q n m e = cc

module _ (file : ℕ) (bytes : List ℕ) where
  tokens_once : (ts us : List Tok) → AreTokens file ts bytes → AreTokens file us bytes → ts ≡ us
  tokens_once ts us a b = same_tokens typestates apart tok_said file ts us bytes a b

  pub one_file : (w v : WFile) → Spells file bytes w → Spells file bytes v → w ≡ v
  one_file w v a b = parsed.one_file w v b.tokens (subst (IsSpelled w) (tokens_once a.tokens b.tokens a.cut b.cut) a.spelled) b.spelled

  -- ---- rows that exclude each other

  small : 1048576 < length bytes → length bytes ≤ 1048576 → ⊥
  small h le = omega arith

  cut_or_bad : (k : ℕ) (ts : List Tok) → IsBadAt k bytes → AreTokens file ts bytes → ⊥
  cut_or_bad k ts bad cut = tokens_or_bad typestates apart tok_said file ts k bytes cut bad

  spelled_or_not : (ts : List Tok) (w : WFile) → AreTokens file ts bytes → ((v : WFile) → IsSpelled v ts → ⊥) → Spells file bytes w → ⊥
  spelled_or_not ts w a none s = none w (subst (IsSpelled w) (tokens_once s.tokens ts s.cut a) s.spelled)

  few_or_many : (w v : WFile) → Spells file bytes w → Spells file bytes v → 1000 < length w.states → length v.states ≤ 1000 → ⊥
  few_or_many w v a b many few =
      let many : 1000 < length v.states = subst (λ (z : WFile). 1000 < length z.states) (one_file w v a b) many in
      omega arith

  fault_or_not : (w v : WFile) (f : Condition × Culprit) → Spells file bytes w → Spells file bytes v → IsFault w (Some f) → IsFault v None
      → ⊥
  fault_or_not w v f a b h g =
      let e : ◌≡◌ {A = Option (Condition × Culprit)} (Some f) None =
      one_fault v (Some f) None (subst (λ (z : WFile). IsFault z (Some f)) (one_file w v a b) h) g in cc

  -- ---- the same row

  same_bad : (k j : ℕ) → IsBadAt k bytes → IsBadAt j bytes
      → ◌≡◌ {A = Answer} (BadByte (place_after (start_of file) (take k bytes))) (BadByte (place_after (start_of file) (take j bytes)))
  same_bad k j a b = ap (λ (n : ℕ). BadByte (place_after (start_of file) (take n bytes))) (bad_once typestates apart bytes k j a b)

  same_fault : (w v : WFile) (k j : Condition) (p q : Place) (n m : Name) → Spells file bytes w → Spells file bytes v
      → IsFault w (Some (k, culprit p n)) → IsFault v (Some (j, culprit q m)) → ◌≡◌ {A = Answer} (Refused k p n) (Refused j q m)
  same_fault w v k j p q n m a b h g =
      let same : ◌≡◌ {A = Option (Condition × Culprit)} (Some (k, culprit p n)) (Some (j, culprit q m)) =
      one_fault v (Some (k, culprit p n)) (Some (j, culprit q m))
      (subst (λ (z : WFile). IsFault z (Some (k, culprit p n))) (one_file w v a b) h) g in
      let pair = some_is (k, culprit p n) (j, culprit q m) same in
      let conditions = ap (λ (x : Condition × Culprit). x.0) pair in
      let places = place_is p q n m (ap (λ (x : Condition × Culprit). x.1) pair) in
      let names = name_is p q n m (ap (λ (x : Condition × Culprit). x.1) pair) in
      λ i. Refused (conditions i) (places i) (names i)

  -- ---- one answer

  pub one_outcome : (a b : Answer) → Outcome file bytes a → Outcome file bytes b → a ≡ b
  one_outcome a b (too_large h) (too_large g) = refl
  one_outcome a b (too_large h) (too_many s g) = refl
  one_outcome a b (too_large h) (bad_byte k le g) = absurd (small h le)
  one_outcome a b (too_large h) (syntax le g n) = absurd (small h le)
  one_outcome a b (too_large h) (refused s few g) = absurd (small h s.size)
  one_outcome a b (too_large h) (read s few g) = absurd (small h s.size)
  one_outcome a b (too_many s g) (too_large h) = refl
  one_outcome a b (too_many s h) (too_many r g) = refl
  one_outcome a b (too_many s h) (bad_byte k le g) = absurd (cut_or_bad k s.tokens g s.cut)
  one_outcome a b (too_many {w = w} s h) (syntax {tokens = ts} le g n) = absurd (spelled_or_not ts w g n s)
  one_outcome a b (too_many {w = w} s h) (refused {w = v} r few g) = absurd (few_or_many w v s r h few)
  one_outcome a b (too_many {w = w} s h) (read {w = v} r few g) = absurd (few_or_many w v s r h few)
  one_outcome a b (bad_byte k le h) (too_large g) = absurd (small g le)
  one_outcome a b (bad_byte k le g) (too_many s h) = absurd (cut_or_bad k s.tokens g s.cut)
  one_outcome a b (bad_byte k le h) (bad_byte j me g) = same_bad k j h g
  one_outcome a b (bad_byte k le h) (syntax {tokens = ts} me g n) = absurd (cut_or_bad k ts h g)
  one_outcome a b (bad_byte k le h) (refused s few g) = absurd (cut_or_bad k s.tokens h s.cut)
  one_outcome a b (bad_byte k le h) (read s few g) = absurd (cut_or_bad k s.tokens h s.cut)
  one_outcome a b (syntax le h n) (too_large g) = absurd (small g le)
  one_outcome a b (syntax {tokens = ts} le g n) (too_many {w = w} s h) = absurd (spelled_or_not ts w g n s)
  one_outcome a b (syntax {tokens = ts} le h n) (bad_byte k me g) = absurd (cut_or_bad k ts g h)
  one_outcome a b (syntax le h n) (syntax me g m) = refl
  one_outcome a b (syntax {tokens = ts} le h n) (refused {w = w} r few g) = absurd (spelled_or_not ts w h n r)
  one_outcome a b (syntax {tokens = ts} le h n) (read {w = w} r few g) = absurd (spelled_or_not ts w h n r)
  one_outcome a b (refused s few h) (too_large g) = absurd (small g s.size)
  one_outcome a b (refused {w = v} r few g) (too_many {w = w} s h) = absurd (few_or_many w v s r h few)
  one_outcome a b (refused s few h) (bad_byte k le g) = absurd (cut_or_bad k s.tokens g s.cut)
  one_outcome a b (refused {w = w} r few g) (syntax {tokens = ts} le h n) = absurd (spelled_or_not ts w h n r)
  one_outcome a b (refused {w = w} {condition = k} {place = p} {name = n} s few h)
      (refused {w = v} {condition = j} {place = q} {name = m} r less g) = same_fault w v k j p q n m s r h g
  one_outcome a b (refused {w = w} {condition = k} {place = p} {name = n} s few h) (read {w = v} r less g) =
      absurd (fault_or_not w v (k, culprit p n) s r h g)
  one_outcome a b (read s few h) (too_large g) = absurd (small g s.size)
  one_outcome a b (read {w = v} r few g) (too_many {w = w} s h) = absurd (few_or_many w v s r h few)
  one_outcome a b (read s few h) (bad_byte k le g) = absurd (cut_or_bad k s.tokens g s.cut)
  one_outcome a b (read {w = w} r few g) (syntax {tokens = ts} le h n) = absurd (spelled_or_not ts w h n r)
  one_outcome a b (read {w = v} r less g) (refused {w = w} {condition = k} {place = p} {name = n} s few h) =
      absurd (fault_or_not w v (k, culprit p n) s r h g)
  one_outcome a b (read {w = w} s few h) (read {w = v} r less g) = ap (λ (z : WFile). Read (typestate_of z)) (one_file w v s r)

  -- what reading gives is answered, where what is answered is what reading gives
  pub only_of : (r : Result Typestate TsFault) → IsToldOf file bytes r → (a : Answer) → Outcome file bytes a → IsAnswered a r
  only_of r told a g = go (answer_of r) refl
    where
      go : (o : Option Answer) → answer_of r ≡ o → (answer_of r ≡ Some a) ⊎ (answer_of r ≡ None)
      go None e = inr e
      go (Some b) e = inl (e ∙ ap (λ (x : Answer). Some x) (one_outcome b a (told b e) g))

-- Texts of things that stand in a row.
use Rattle.std.proofs.Common.{◌≡◌, ℕ, zero, suc, ◌+◌, ◌-◌, ◌%◌, ◌<◌, List, [], ◌∷◌, ◌++◌, map, length, take, get_or, sym, ap, ◌∙◌, subst}
use Rattle.std.proofs.Common.{add-zero, add-one, append_assoc, arith, codes}
use Rattle.std.specs.Prelude.{Result, Ok, Err, IfOk}
use Rattle.std.specs.Fmt.{decimal}
use Rattle.std.specs.List.{flat_map, range_with_len}
use Rattle.std.proofs.lemmas.Grind.{flat_map-append}
use Rattle.std.proofs.lemmas.List.{append-nil, take_more, length-take}
use Rattle.rand_pcg.specs.Lcg.{Lcg}
use Rattle.rand_pcg.specs.Pcg.{pcg32}
use Rattle.mg_load.specs.Workload.{words, round, rounds, branch, group}

range_more : (a n : ℕ) → range_with_len a (suc n) ≡ range_with_len a n ++ (a + n) ∷ []
range_more a zero = ap (λ k. k ∷ []) (sym (add-zero a))
range_more a (suc n) =
    let e : a + 1 + n ≡ a + suc n = omega arith in
    ap (λ l. a ∷ l) (range_more (a + 1) n ∙ ap (λ k. range_with_len (a + 1) n ++ k ∷ []) e)

module _ (f : ℕ → List ℕ) where
  -- the texts of the numbers up to one more
  pub numbers_more : (n : ℕ) (before now after : List ℕ) → now ≡ before ++ flat_map f (range_with_len 0 n) → after ≡ now ++ f n →
      after ≡ before ++ flat_map f (range_with_len 0 (n + 1))
  numbers_more n before now after h made =
      let n_is : 0 + n ≡ n = omega arith in
      let whole : flat_map f (range_with_len 0 (n + 1)) ≡ flat_map f (range_with_len 0 n) ++ f n =
      ap (λ k. flat_map f (range_with_len 0 k)) (add-one n) ∙ ap (flat_map f) (range_more 0 n ∙ ap (λ k. range_with_len 0 n ++ k ∷ []) n_is)
      ∙ flat_map-append f (range_with_len 0 n) (n ∷ []) ∙ ap (λ l. flat_map f (range_with_len 0 n) ++ l) (append-nil (f n)) in
      made ∙ ap (λ l. l ++ f n) h ∙ append_assoc before (flat_map f (range_with_len 0 n)) (f n) ∙ ap (λ l. before ++ l) (sym whole)

rounds_append : (k : ℕ) (xs : List ℕ) (y : ℕ) → rounds k (xs ++ y ∷ []) ≡ rounds k xs ++ round (k + length xs) y
rounds_append k [] y = append-nil (round k y) ∙ ap (λ n. round n y) (sym (add-zero k))
rounds_append k (x ∷ xs) y =
    let e : k + 1 + length xs ≡ k + suc (length xs) = omega arith in
    ap (λ l. round k x ++ l) (rounds_append (k + 1) xs y ∙ ap (λ n. rounds (k + 1) xs ++ round n y) e)
    ∙ sym (append_assoc (round k x) (rounds (k + 1) xs) (round (k + suc (length xs)) y))

-- the texts of the rounds up to one more
pub rounds_more : (picks : List ℕ) (i x : ℕ) (before now after : List ℕ) → i < length picks → x ≡ get_or picks i x →
    now ≡ before ++ rounds 1 (take i picks) → after ≡ now ++ round (i + 1) x → after ≡ before ++ rounds 1 (take (i + 1) picks)
rounds_more picks i x before now after lt is h made =
    let cut : take (i + 1) picks ≡ take i picks ++ x ∷ [] = take_more picks i x lt ∙ ap (λ z. take i picks ++ z ∷ []) (sym is) in
    let place : 1 + length (take i picks) ≡ i + 1 = omega (arith, length-take i picks) in
    let whole : rounds 1 (take (i + 1) picks) ≡ rounds 1 (take i picks) ++ round (i + 1) x =
    ap (rounds 1) cut ∙ rounds_append 1 (take i picks) x ∙ ap (λ n. rounds 1 (take i picks) ++ round n x) place in
    made ∙ ap (λ l. l ++ round (i + 1) x) h ∙ append_assoc before (rounds 1 (take i picks)) (round (i + 1) x)
    ∙ ap (λ l. before ++ l) (sym whole)

-- what is still to be picked gives up its first
picks_more : (n left : ℕ) (picks whole : List ℕ) (g : Lcg) (word : ℕ) (h : Lcg) → (word, h) ≡ pcg32 g →
    picks ++ map (λ w. w % n) (words g (suc left)) ≡ whole → (picks ++ word % n ∷ []) ++ map (λ w. w % n) (words h left) ≡ whole
picks_more n left picks whole g word h is rest =
    append_assoc picks (word % n ∷ []) (map (λ w. w % n) (words h left))
    ∙ ap (λ (p : ℕ × Lcg). picks ++ p.0 % n ∷ map (λ w. w % n) (words p.1 left)) is ∙ rest

-- the same of the one picked next, of so many
pub picked : (n end counter : ℕ) (before after whole : List ℕ) (g : Lcg) (word : ℕ) (h : Lcg) → counter < end → (word, h) ≡ pcg32 g →
    after ≡ before ++ word % n ∷ [] → before ++ map (λ w. w % n) (words g (end - counter)) ≡ whole →
    after ++ map (λ w. w % n) (words h (end - (counter + 1))) ≡ whole
picked n end counter before after whole g word h less is grown rest =
    let left : end - counter ≡ suc (end - (counter + 1)) = omega (arith, less) in
    ap (λ (l : List ℕ). l ++ map (λ w. w % n) (words h (end - (counter + 1)))) grown
    ∙ picks_more n (end - (counter + 1)) before whole g word h is (subst (λ k. before ++ map (λ w. w % n) (words g k) ≡ whole) left rest)

-- a text of a head, a middle and an end
pub framed : (start first between last head middle end : List ℕ) → start ≡ [] → first ≡ start ++ head → between ≡ first ++ middle
    → last ≡ between ++ end → last ≡ head ++ (middle ++ end)
framed start first between last head middle end none one two three =
    three ∙ ap (λ l. l ++ end) (two ∙ ap (λ l. l ++ middle) (one ∙ ap (λ l. l ++ head) none)) ∙ append_assoc head middle end

-- what is made of it
pub made_of : {E : Type 0} (text wanted : List ℕ) (r : Result (List ℕ) E) → text ≡ wanted → IfOk r (λ b. b ≡ text)
    → IfOk r (λ b. b ≡ wanted)
made_of text wanted (Ok b) e made = made ∙ e
made_of text wanted (Err x) e made = tt

-- three texts, and then two in place of the last of them
three_then : (a b c d e : List ℕ) → (a ++ (b ++ c)) ++ (d ++ e) ≡ a ++ (b ++ ((c ++ d) ++ e))
three_then a b c d e =
    append_assoc a (b ++ c) (d ++ e)
    ∙ ap (λ l. a ++ l) (append_assoc b c (d ++ e) ∙ ap (λ l. b ++ l) (sym (append_assoc c d e)))

five_then : (a b c d e f g : List ℕ) → (a ++ (b ++ (c ++ (d ++ e)))) ++ (f ++ g) ≡ a ++ (b ++ (c ++ (d ++ ((e ++ f) ++ g))))
five_then a b c d e f g =
    append_assoc a (b ++ (c ++ (d ++ e))) (f ++ g)
    ∙ ap (λ l. a ++ l) (append_assoc b (c ++ (d ++ e)) (f ++ g) ∙ ap (λ l. b ++ l) (three_then c d e f g))

-- a branch, written at once
pub branch_is : (there back : List ℕ) (number : ℕ) → codes "            m" ++ (decimal number ++ (codes "(int) " ++ (there
    ++ (codes ";\n            r" ++ (decimal number
    ++ (codes "(int) " ++ (back ++ codes ";\n            continue X;\n        } or {\n")))))))
    ≡ branch there back number
branch_is there back number =
    let after : List ℕ = codes "            continue X;\n        } or {\n" in
    let second : List ℕ = decimal number ++ (codes "(int) " ++ (back ++ codes ";\n")) in
    sym (ap (λ l. (codes "            m" ++ (decimal number ++ (codes "(int) " ++ (there ++ codes ";\n")))) ++ l)
    (append_assoc (codes "            r") second after)
    ∙ five_then (codes "            m") (decimal number) (codes "(int) ") there (codes ";\n") (codes "            r") (second ++ after)
    ∙ ap (λ l. codes "            m" ++ (decimal number ++ (codes "(int) " ++ (there ++ (codes ";\n            r" ++ l)))))
    (append_assoc (decimal number) (codes "(int) " ++ (back ++ codes ";\n")) after
    ∙ ap (λ l. decimal number ++ l) (append_assoc (codes "(int) ") (back ++ codes ";\n") after
    ∙ ap (λ l. codes "(int) " ++ l) (append_assoc back (codes ";\n") after))))

-- what is done at a branch, written at once
pub group_is : (number : ℕ) → codes "                case m" ++ (decimal number
    ++ (codes ":\n                    sum = sum + b.receive_m" ++ (decimal number
    ++ (codes "IntFromA();\n                    b.send_r" ++ (decimal number
    ++ codes "IntToA(sum);\n                    continue loop;\n")))))
    ≡ group number
group_is number =
    let last : List ℕ = decimal number ++ codes "IntToA(sum);\n                    continue loop;\n" in
    let first : List ℕ = codes "                case m" ++ (decimal number ++ codes ":\n") in
    sym (ap (λ l. first ++ l)
    (three_then (codes "                    sum = sum + b.receive_m") (decimal number) (codes "IntFromA();\n")
    (codes "                    b.send_r") last)
    ∙ three_then (codes "                case m") (decimal number) (codes ":\n") (codes "                    sum = sum + b.receive_m")
    (decimal number ++ (codes "IntFromA();\n                    b.send_r" ++ last)))

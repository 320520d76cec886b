-- Mungo's places grow with the offset.
use Rattle.std.proofs.Common.{◌≡◌, ℕ, zero, suc, ◌+◌, ◌-◌, ◌<◌, ◌≤◌, List, [], ◌∷◌, ◌++◌, length, get_or, take, drop, Bool, true, false}
use Rattle.std.proofs.Common.{refl, sym, ap, ◌∙◌, subst, arith}
use Rattle.std.proofs.Common.{inl, inr, length-append, length-take-le}
use Rattle.std.specs.Prelude.{◌⊎◌, if◌then◌else◌, ◌==◌}
use Rattle.mg_text.specs.declared.place.Place.{Place}
use Rattle.mg_text.specs.Places.{start_of, step, place_after}
use Rattle.std.proofs.lemmas.List.{take_more, length-drop, get_or-drop}
use Rattle.lsp_text.proofs.PlaceLaws.{order}
use Rattle.lsp_text.specs.Places.{here, place_at, IsReached, IsOffsetOf, AreOffsetsOf}

-- the place behind a byte is behind the place before it
abbrev IsBeyond : Place → Place → Type 0
IsBeyond next here = (here.line < next.line) ⊎ ((here.line ≡ next.line) × (here.column < next.column))

step_beyond : (p : Place) (b : ℕ) → IsBeyond (step p b) p
step_beyond p b = go (b == 10) where
  go : (t : Bool) → IsBeyond (if t then record p { line = p.line + 1; column = 1 } else record p { column = p.column + 1 }) p
  go true = inl (omega arith)
  go false = inr (refl, omega arith)

reached_back : (p q w : Place) → IsBeyond q p → IsReached q w → IsReached p w
reached_back p q w (inl a) (inl b) = inl (omega arith)
reached_back p q w (inl a) (inr b) = let e : q.line ≡ w.line = b.0 in inl (omega arith)
reached_back p q w (inr a) (inl b) = let e : p.line ≡ q.line = a.0 in inl (omega arith)
reached_back p q w (inr a) (inr b) =
    let d : p.line ≡ q.line = a.0 in
    let e : q.line ≡ w.line = b.0 in
    let f : p.column < q.column = a.1 in
    let g : q.column ≤ w.column = b.1 in
    inr (d ∙ e, omega arith)

-- where the place behind more bytes is reached, so is the one before them
pub after_reached : (p w : Place) (bs : List ℕ) → IsReached (place_after p bs) w → IsReached p w
after_reached p w [] h = h
after_reached p w (b ∷ bs) h = reached_back p (step p b) w (step_beyond p b) (after_reached (step p b) w bs h)

-- no place is reached by one behind more bytes
pub never_back : (p : Place) (b : ℕ) (bs : List ℕ) → IsReached (place_after p (b ∷ bs)) p → ⊥
never_back p b bs h = go (step p b) (step_beyond p b) (after_reached (step p b) p bs h) where
  go : (q : Place) → IsBeyond q p → IsReached q p → ⊥
  go q (inl a) (inl b) = omega arith
  go q (inl a) (inr b) = let e : q.line ≡ p.line = b.0 in omega arith
  go q (inr a) (inl b) = let e : p.line ≡ q.line = a.0 in omega arith
  go q (inr a) (inr b) = let f : p.column < q.column = a.1 in let g : q.column ≤ p.column = b.1 in omega arith

-- a longer beginning is a beginning and more
pub take_parts : (i o : ℕ) (xs : List ℕ) → i ≤ o → (more : List ℕ) × (take o xs ≡ take i xs ++ more)
take_parts zero o xs le = (take o xs, refl)
take_parts (suc i) zero xs le = absurd (omega arith)
take_parts (suc i) (suc o) [] le = ([], refl)
take_parts (suc i) (suc o) (x ∷ xs) le = let t = take_parts i o xs (omega arith) in (t.0, ap (λ (zs : List ℕ). x ∷ zs) t.1)

pub place_append : (p : Place) (xs ys : List ℕ) → place_after p (xs ++ ys) ≡ place_after (place_after p xs) ys
place_append p [] ys = refl
place_append p (x ∷ xs) ys = place_append (step p x) xs ys

-- where a place isn't reached, no later one is
pub last_reached : (file : ℕ) (text : List ℕ) (w : Place) (i o : ℕ) → i ≤ o → IsReached (place_at file text o) w →
    IsReached (place_at file text i) w
last_reached file text w i o le h =
    let t = take_parts i o text le in
    let e : place_at file text o ≡ place_after (place_at file text i) t.0 =
    ap (λ (zs : List ℕ). place_after (start_of file) zs) t.1 ∙ place_append (start_of file) (take i text) t.0 in
    after_reached (place_at file text i) w t.0 (subst (λ (z : Place). IsReached z w) e h)

-- one byte further
pub place_next : (file : ℕ) (text : List ℕ) (i b : ℕ) → i < length text → b ≡ get_or text i b →
    place_at file text (i + 1) ≡ step (place_at file text i) b
place_next file text i b less is =
    ap (λ (zs : List ℕ). place_after (start_of file) zs) (take_more text i b less) ∙ place_append (start_of file) (take i text) (get_or text i b ∷ [])
    ∙ ap (λ (z : ℕ). step (place_at file text i) z) (sym is)

-- the offset before a place that isn't reached
pub stopped : (text : List ℕ) (w : Place) (i : ℕ) → i < length text → (0 < i → IsReached (place_at w.file text i) w) →
    ¬ IsReached (place_at w.file text (i + 1)) w → IsOffsetOf text w i
stopped text w i less reached beyond =
    record {
      within = omega arith;
      reached = reached;
      last = λ o within here. by o here (order o (i + 1));
    } where
      by : (o : ℕ) → IsReached (place_at w.file text o) w → (o < i + 1) ⊎ (i + 1 ≤ o) → o ≤ i
      by o here (inl low) = omega arith
      by o here (inr high) = absurd (beyond (last_reached w.file text w (i + 1) o high here))

-- all bytes are passed
pub ended : (text : List ℕ) (w : Place) (i : ℕ) → i ≡ length text → (0 < i → IsReached (place_at w.file text i) w) → IsOffsetOf text w i
ended text w i is reached = record { within = omega arith; reached = reached; last = λ o within here. omega arith }

-- bytes leave the file
step_file : (p : Place) (b : ℕ) → (step p b).file ≡ p.file
step_file p b = go (b == 10) where
  go : (t : Bool) → (if t then record p { line = p.line + 1; column = 1 } else record p { column = p.column + 1 }).file ≡ p.file
  go true = refl
  go false = refl

place_file : (p : Place) (bs : List ℕ) → (place_after p bs).file ≡ p.file
place_file p [] = refl
place_file p (b ∷ bs) = place_file (step p b) bs ∙ step_file p b

-- the place of an offset is reached there, and no further
pub own_offset : (file : ℕ) (text : List ℕ) (o p : ℕ) → o ≤ length text → IsOffsetOf text (place_at file text o) p → p ≡ o
own_offset file text o p within h =
    let same : (place_at file text o).file ≡ file = place_file (start_of file) (take o text) in
    let reached = subst (λ (f : ℕ). 0 < p → IsReached (place_at f text p) (place_at file text o)) same h.reached in
    let last = subst (λ (f : ℕ). (q : ℕ) → q ≤ length text → IsReached (place_at f text q) (place_at file text o) → q ≤ p) same h.last in
    by (order o p) (last o within (inr (refl, omega arith))) reached where
      beyond : o < p → IsReached (place_at file text p) (place_at file text o) → (more : List ℕ) × (take p text ≡ take o text ++ more) → ⊥
      beyond less reached ([], e) =
          let same : length (take p text) ≡ length (take o text ++ []) = ap length e in
          let left : length (take p text) ≡ p = length-take-le p text h.within in
          let right : length (take o text) ≡ o = length-take-le o text within in
          let join : length (take o text ++ []) ≡ length (take o text) + 0 = length-append (take o text) [] in
          omega arith
      beyond less reached (b ∷ bs, e) =
          let at : place_at file text p ≡ place_after (place_at file text o) (b ∷ bs) =
          ap (λ (zs : List ℕ). place_after (start_of file) zs) e ∙ place_append (start_of file) (take o text) (b ∷ bs) in
          never_back (place_at file text o) b bs (subst (λ (z : Place). IsReached z (place_at file text o)) at reached)

      by : (o < p) ⊎ (p ≤ o) → o ≤ p → (0 < p → IsReached (place_at file text p) (place_at file text o)) → p ≡ o
      by (inr high) low reached = omega arith
      by (inl more) low reached = absurd (beyond more (reached (omega arith)) (take_parts o p text (omega arith)))

get_or_same : (xs : List ℕ) (i d e : ℕ) → i < length xs → get_or xs i d ≡ get_or xs i e
get_or_same [] i d e less = absurd (omega arith)
get_or_same (x ∷ xs) zero d e less = refl
get_or_same (x ∷ xs) (suc i) d e less = get_or_same xs i d e (omega arith)

-- a walk from one offset on: the byte of a turn, and the place behind it
module _ (text ahead : List ℕ) (k i offset b : ℕ) (rest : ahead ≡ drop k text) (less : i < length ahead) (at : offset ≡ k + i)
    (is : b ≡ get_or ahead i 0) where
  within_text : offset < length text
  within_text =
      let long : length ahead ≡ length text - k = ap length rest ∙ length-drop k text in
      omega arith

  byte_here : b ≡ get_or text offset b
  byte_here =
      is ∙ ap (λ (zs : List ℕ). get_or zs i 0) rest ∙ get_or-drop k text i 0 ∙ ap (λ (z : ℕ). get_or text z 0) (sym at)
      ∙ get_or_same text offset 0 b within_text

  pub spot_next : (line column next_line next_column : ℕ) → ((file : ℕ) → here file line column ≡ place_at file text offset) →
      ((file : ℕ) → here file next_line next_column ≡ step (here file line column) b) → (file : ℕ) →
      here file next_line next_column ≡ place_at file text (offset + 1)
  spot_next line column next_line next_column so_far next file =
      next file ∙ ap (λ (p : Place). step p b) (so_far file) ∙ sym (place_next file text offset b within_text byte_here)

  pub spot_stops : (w : Place) (line column next_line next_column : ℕ) → ((file : ℕ) → here file line column ≡ place_at file text offset) →
      ((file : ℕ) → here file next_line next_column ≡ step (here file line column) b) →
      (0 < offset → IsReached (here w.file line column) w) → ¬ IsReached (here w.file next_line next_column) w → IsOffsetOf text w offset
  spot_stops w line column next_line next_column so_far next reached beyond =
      let there = spot_next line column next_line next_column so_far next w.file in
      stopped text w offset within_text (λ some. subst (λ (p : Place). IsReached p w) (so_far w.file) (reached some))
      (λ h. beyond (subst (λ (p : Place). IsReached p w) (sym there) h))

-- the walk has passed all bytes
pub spot_ends : (text ahead : List ℕ) (w : Place) (k i offset line column : ℕ) → ahead ≡ drop k text → k ≤ length text → length ahead ≤ i →
    offset ≡ k + i → offset ≤ length text → ((file : ℕ) → here file line column ≡ place_at file text offset) →
    (0 < offset → IsReached (here w.file line column) w) → IsOffsetOf text w offset
spot_ends text ahead w k i offset line column rest low done at high so_far reached =
    let long : length ahead ≡ length text - k = ap length rest ∙ length-drop k text in
    let all : offset ≡ length text = omega arith in
    ended text w offset all (λ some. subst (λ (p : Place). IsReached p w) (so_far w.file) (reached some))

-- one offset more
pub offsets_push : (text : List ℕ) (ps : List Place) (os : List ℕ) (p : Place) (o : ℕ) → AreOffsetsOf text ps os → IsOffsetOf text p o →
    AreOffsetsOf text (ps ++ p ∷ []) (os ++ o ∷ [])
offsets_push text [] [] p o h one = (one, tt)
offsets_push text [] (n ∷ os) p o h one = absurd h
offsets_push text (q ∷ ps) [] p o h one = absurd h
offsets_push text (q ∷ ps) (n ∷ os) p o h one = (h.0, offsets_push text ps os p o h.1 one)

pub offsets_more : (text : List ℕ) (ps : List Place) (os : List ℕ) (i o : ℕ) (d : Place) → i < length ps → AreOffsetsOf text (take i ps) os →
    IsOffsetOf text (get_or ps i d) o → AreOffsetsOf text (take (i + 1) ps) (os ++ o ∷ [])
offsets_more text ps os i o d less h one =
    subst (λ (zs : List Place). AreOffsetsOf text zs (os ++ o ∷ [])) (sym (take_more ps i d less))
    (offsets_push text (take i ps) os (get_or ps i d) o h one)

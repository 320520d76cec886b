-- What a writer that tells its bytes holds after several writes.
use Rattle.std.proofs.Common.{◌≡◌, ℕ, List, ◌++◌, ◌-◌, length, length-drop, take, drop, Option, Some, None, Result, Ok, Err, refl, ap, sym}
use Rattle.std.proofs.Common.{subst, ◌∙◌, append_assoc}
use Rattle.std.specs.Io.KnownBytes.{Appends, Keeps, WriteAppends}
use Rattle.std.proofs.lemmas.List.{take-append-drop}
use Rattle.std.proofs.Math.Seq.{take-append_seam, take-length}

-- of these bytes a front was written, and the rest is left
pub record Written (old new : Option (List ℕ)) (bytes rest : List ℕ) : Type 0 where
  pub front : List ℕ
  pub cut : front ++ rest ≡ bytes
  pub appends : Appends old new front

-- to grow by f and then by g is to grow by both
grown_twice : (old between new : Option (List ℕ)) (f g : List ℕ) → Appends old between f → Appends between new g → Appends old new (f ++ g)
grown_twice None between new f g p q = tt
grown_twice (Some xs) None new f g p q = absurd p
grown_twice (Some xs) (Some ys) None f g p q = absurd q
grown_twice (Some xs) (Some ys) (Some zs) f g p q = q ∙ ap (λ ws. ws ++ g) p ∙ append_assoc xs f g

-- bytes that stay keep how they grew
grown_and_kept : (old between new : Option (List ℕ)) (f : List ℕ) → Appends old between f → Keeps between new → Appends old new f
grown_and_kept None between new f p q = tt
grown_and_kept (Some xs) None new f p q = absurd p
grown_and_kept (Some xs) (Some ys) None f p q = absurd q
grown_and_kept (Some xs) (Some ys) (Some zs) f p q = q ∙ p

-- a write took n bytes of the rest, and these are left
pub written_more : (old between new : Option (List ℕ)) (bytes rest left : List ℕ) (n : ℕ) → Written old between bytes rest →
    Appends between new (take n rest) → left ≡ drop n rest → Written old new bytes left
written_more old between new bytes rest left n w q e = record {
  front = w.front ++ take n rest;
  cut = ap (λ r. (w.front ++ take n rest) ++ r) e ∙ append_assoc w.front (take n rest) (drop n rest) ∙ ap (λ r. w.front ++ r)
      (take-append-drop n rest) ∙ w.cut;
  appends = grown_twice old between new w.front (take n rest) w.appends q;
}

-- the same, with what is left as a slice has it
pub written_more_sliced : (old between new : Option (List ℕ)) (bytes rest : List ℕ) (n : ℕ) → Written old between bytes rest →
    Appends between new (take n rest) → Written old new bytes (take (length rest - n) (drop n rest))
written_more_sliced old between new bytes rest n w q =
    written_more old between new bytes rest _ n w q (ap (λ k. take k (drop n rest)) (sym (length-drop n rest)) ∙ take-length (drop n rest))

-- a write took nothing
pub written_kept : (old between new : Option (List ℕ)) (bytes rest : List ℕ) → Written old between bytes rest → Keeps between new →
    Written old new bytes rest
written_kept old between new bytes rest w q = record {
  front = w.front;
  cut = w.cut;
  appends = grown_and_kept old between new w.front
      w.appends q;
}

-- what was written is a front of the bytes
pub front_from_written : (old new : Option (List ℕ)) (bytes rest : List ℕ) → Written old new bytes rest →
    (k : ℕ) × Appends old new (take k bytes)
front_from_written old new bytes rest w =
    (length w.front, subst (Appends old new) (sym (take-append_seam w.front rest) ∙ ap (take (length w.front)) w.cut) w.appends)

-- whatever a write answered, a front of the bytes is written behind it
pub front_after_write : {E : Type 0} (old between new : Option (List ℕ)) (bytes rest : List ℕ) (answer : Result ℕ E)
    → Written old between bytes rest → WriteAppends between new answer rest → (k : ℕ) × Appends old new (take k bytes)
front_after_write old between new bytes rest (Ok n) w q =
    front_from_written old new bytes (drop n rest) (written_more old between new bytes rest (drop n rest) n w q refl)
front_after_write old between new bytes rest (Err e) w q =
    front_from_written old new bytes rest (written_kept old between new bytes rest w q)

-- a write that took some bytes leaves what stands behind these
pub left_after_write : {E : Type 0} (old between new : Option (List ℕ)) (bytes rest : List ℕ) (answer : Result ℕ E) (n : ℕ)
    → Written old between bytes rest → WriteAppends between new answer rest → answer ≡ Ok n
    → Written old new bytes (take (length rest - n) (drop n rest))
left_after_write old between new bytes rest answer n w q e =
    written_more_sliced old between new bytes rest n w (subst (λ a. WriteAppends between new a rest) e q)

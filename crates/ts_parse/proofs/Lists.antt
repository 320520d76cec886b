-- Parts in a row are read where the grammar spells them, and nowhere else.
use Rattle.std.proofs.Common.{◌≡◌, ◌<◌, List, [], ◌∷◌, ◌++◌, length, Bool, true, false, Some, refl, sym, ap, ◌∙◌, subst, append_assoc}
use Rattle.std.proofs.Common.{arith}
use Rattle.mg_read.specs.Reader.{Reader}
use Rattle.mg_read.proofs.Steps.{bind_some, Takes}
use Rattle.mg_read.proofs.Lists.{IsExact, Starts}
use Rattle.mg_read.proofs.Turns.{front_sound, front_complete, shorter}
use Rattle.ts_parse.specs.declared.token.Mark.{Mark}
use Rattle.ts_parse.specs.declared.token.Mark.TheVariants as marks
use Rattle.ts_parse.specs.declared.written.Naming.{Naming}
use Rattle.ts_parse.specs.Tok.{Tok, named, marked}
use Rattle.ts_parse.specs.Grammar.{Behind, Listed, IsNaming}
use Rattle.ts_parse.specs.inner.Reading.{mark_at, name_at, is_dot_name, behind_at, listed_at}
use Rattle.ts_parse.proofs.Steps.{Anything, after, mark_is, name_is, mark_again}

module _ {A : Type 0} (m : Mark) (f : Reader Tok A) (G : A → List Tok → Type 0) (exact : IsExact f G Anything) where
  behind_sound : (ts : List Tok) (x : A × List Tok) → behind_at m f ts ≡ Some x → Takes (Behind m G x.0) ts x.1
  unfolding behind_at
  behind_sound ts x e =
      let s = bind_some (mark_at m ts) (λ s. f s.1) x e in
      let one = exact.sound s.0.1 x s.2 in
      record {
        front = marked s.0.0 m ∷ one.front;
        parts = after (mark_is m ts s.0 s.1) one.parts;
        holds = (s.0.0, one.front, refl, one.holds);
      }

  behind_complete : (x : A) (ts rest : List Tok) → Anything rest → Behind m G x ts → behind_at m f (ts ++ rest) ≡ Some (x, rest)
  unfolding behind_at
  behind_complete x ts rest fine (a, us, e, h) =
      let reads = exact.complete x us rest tt h in
      rw (e, mark_again m a, reads) refl

  behind_exact : IsExact (behind_at m f) (Behind m G) Anything
  behind_exact = record { sound = behind_sound; complete = behind_complete }

  behind_nonempty : (x : A) (ts : List Tok) → Behind m G x ts → 0 < length ts
  behind_nonempty x ts (a, us, e, h) = rw e (omega arith)

  pub behind_shorter : (ts : List Tok) (x : A) (us : List Tok) → behind_at m f ts ≡ Some (x, us) → length us < length ts
  behind_shorter = shorter (behind_at m f) (Behind m G) Anything behind_exact behind_nonempty

  module _ (go : List Tok → Bool) where
    pub listed_sound : (ts : List Tok) (x : List A × List Tok) → listed_at m go f ts ≡ Some x → Takes (Listed m G x.0) ts x.1
    unfolding listed_at
    listed_sound ts x e =
        let s = bind_some (f ts) _ x e in
        let more = front_sound go (behind_at m f) (Behind m G) Anything behind_exact (s.0.0 ∷ []) s.0.1 x s.2 in
        let one = exact.sound ts s.0 s.1 in
        record {
          front = one.front ++ more.2.front;
          parts = one.parts ∙ ap (λ (r : List Tok). one.front ++ r) more.2.parts ∙ sym (append_assoc one.front more.2.front x.1);
          holds = subst (λ (l : List A). Listed m G l (one.front ++ more.2.front)) (sym more.1) (
            one.front,
            more.2.front,
            refl,
            one.holds,
            more.2.holds,
          );
        }

    -- where go holds before each further part
    pub listed_complete : ((x : A) (ts rest : List Tok) → Behind m G x ts → go (ts ++ rest) ≡ true)
        → (xs : List A) (ts rest : List Tok) → go rest ≡ false → Listed m G xs ts → listed_at m go f (ts ++ rest) ≡ Some (xs, rest)
    unfolding listed_at
    listed_complete goes [] ts rest stops h = absurd h
    listed_complete goes (x ∷ xs) ts rest stops (us, vs, e, one, h) =
        let starts : Starts go (Behind m G) Anything = record { follows = λ x ts rest h. tt; goes = goes; nonempty = behind_nonempty } in
        let first = exact.complete x us (vs ++ rest) tt one in
        let more = front_complete go (behind_at m f) (Behind m G) Anything behind_exact starts (x ∷ []) xs vs rest tt stops h in
        rw (e, append_assoc us vs rest, first, more) refl

-- ---- names

name_sound : (ts : List Tok) (x : Naming × List Tok) → name_at ts ≡ Some x → Takes (IsNaming x.0) ts x.1
name_sound ts x e = record { front = named x.0.place x.0.text ∷ []; parts = name_is ts x e; holds = refl }

name_complete : (n : Naming) (ts rest : List Tok) → Anything rest → IsNaming n ts → name_at (ts ++ rest) ≡ Some (n, rest)
name_complete n ts rest fine e = rw e refl

pub name_exact : IsExact name_at IsNaming Anything
name_exact = record { sound = name_sound; complete = name_complete }

pub dot_name_shorter : (ts : List Tok) (x : Naming) (us : List Tok) → behind_at marks.Dot name_at ts ≡ Some (x, us) → length us < length ts
dot_name_shorter = behind_shorter marks.Dot name_at IsNaming name_exact

pub dot_name_goes : (x : Naming) (ts rest : List Tok) → Behind marks.Dot IsNaming x ts → is_dot_name (ts ++ rest) ≡ true
dot_name_goes x ts rest (a, us, e, h) = rw (e, h) refl

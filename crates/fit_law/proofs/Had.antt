-- What a program has that holds the generated files.
use Rattle.std.proofs.Common.{◌≡◌, Bool, true, false, List, [], ◌∷◌, Some, refl, sym, ap, ◌∙◌, subst}
use Rattle.std.specs.Prelude.{map, cond, find}
use Rattle.std.specs.Str.{bytes_eq}
use Rattle.std.proofs.lemmas.Slice.Eq.{bytes_eq-Decides}
use Rattle.mg_text.specs.Call.{Name}
use Rattle.ts_tree.specs.Proper.{AreDistinct}
use Rattle.ts_tree.specs.Typestate.{Typestate}
use Rattle.stm_gen.specs.Numbered.{typestate_of}
use Rattle.stm_acts.specs.Played.{role_protocol}
use Rattle.stm_acts.proofs.Bodies.{Within, here_it_is, further_on, contained}
use Rattle.stm_acts.proofs.Held.{held_is_had}
use Rattle.stm_acts.proofs.Valid.{there}
use Rattle.fit_law.specs.Play.{ApiIsHad}

found : {A : Type 0} (test : A → Bool) (xs : List A) (x : A) → Within xs x → test x ≡ true → ((y : A) → Within xs y → test y ≡ true → y ≡ x)
    → find test xs ≡ Some x
found test [] x w e one = elim w [ ]
found {A} test (y ∷ xs) x w e one = go (test y) refl w (λ v. found test xs x v e (λ z u. one z (further_on u)))
  where
    go : (b : Bool) → test y ≡ b → Within (y ∷ xs) x → (Within xs x → find test xs ≡ Some x) → cond b (Some y) (find test xs) ≡ Some x
    go true f w more = ap Some (one y (here_it_is refl) f)
    go false f (here_it_is g) more = let h : true ≡ false = sym e ∙ ap test (sym g) ∙ f in cc
    go false f (further_on v) more = more v

named_within : {A : Type 0} (name : A → Name) (xs : List A) (x : A) → Within xs x → Within (map name xs) (name x)
named_within name [] x w = elim w [ ]
named_within name (y ∷ xs) x (here_it_is e) = here_it_is (ap name e)
named_within name (y ∷ xs) x (further_on w) = further_on (named_within name xs x w)

one_named : {A : Type 0} (name : A → Name) (xs : List A) (x y : A) → AreDistinct (map name xs) → Within xs x → Within xs y → name x ≡ name y
    → x ≡ y
one_named name [] x y h w v e = elim w [ ]
one_named name (z ∷ xs) x y h (here_it_is f) (here_it_is g) e = sym f ∙ g
one_named name (z ∷ xs) x y h (here_it_is f) (further_on v) e =
    absurd (h.0 (there (map name xs) (name z) (subst (Within (map name xs)) (sym (ap name f ∙ e)) (named_within name xs y v))))
one_named name (z ∷ xs) x y h (further_on w) (here_it_is g) e =
    absurd (h.0 (there (map name xs) (name z) (subst (Within (map name xs)) (e ∙ sym (ap name g)) (named_within name xs x w))))
one_named name (z ∷ xs) x y h (further_on w) (further_on v) e = one_named name xs x y h.1 w v e

pub api_is_had : ApiIsHad
api_is_had j typestates local valid h = record {
  role = held_is_had j typestates local valid h;
  typestate = found (λ (t : Typestate). bytes_eq t.name (role_protocol local.me)) typestates (typestate_of local)
      (contained typestates (typestate_of local) h.stands)
      ((bytes_eq-Decides (role_protocol local.me) (role_protocol local.me)).1 refl)
      (λ t w e. one_named (λ (t : Typestate). t.name) typestates t (typestate_of local) h.typestates_differ w
      (contained typestates (typestate_of local) h.stands) ((bytes_eq-Decides t.name (role_protocol local.me)).0 e));
}

-- A text is compared with pieces of it, from the front on.
use Rattle.std.proofs.Common.{◌≡◌, ◌≢◌, ℕ, ◌+◌, ◌<◌, ◌≤◌, List, [], ◌∷◌, ◌++◌, length, get_or, drop, refl, sym, ap, ◌∙◌, subst, Bool, true}
use Rattle.std.proofs.Common.{false, ◌&&◌, eqb, eq-eqb, append_assoc}
use Rattle.std.specs.Borrow.{Bor}
use Rattle.std.specs.Str.{bytes_eq}
use Rattle.std.proofs.lemmas.List.{at_drop_more, at_drop_all, append-nil}
use Rattle.std.proofs.lemmas.Slice.Eq.{bytes_eq-Decides}
use Rattle.std.proofs.lemmas.Grind.{common_steps}
use Rattle.scr_trace.specs.inner.Joined.{joined}

same_front : (p r j : List ℕ) → bytes_eq (p ++ r) (p ++ j) ≡ bytes_eq r j
same_front [] r j = refl
same_front (x ∷ p) r j = ap (λ b. b && bytes_eq (p ++ r) (p ++ j)) (eq-eqb x x refl) ∙ same_front p r j

pub joined-drop : (ps : List (Bor (List ℕ))) (i : ℕ) (d : Bor (List ℕ)) → i < length ps → joined (drop i ps) ≡ (get_or ps i d).now
    ++ joined (drop (i + 1) ps)
joined-drop ps i d h = at_drop_more joined ps i d h

pub joined-past : (ps : List (Bor (List ℕ))) (i : ℕ) → length ps ≤ i → joined (drop i ps) ≡ []
joined-past ps i h = at_drop_all joined ps i h

-- a piece stands in front
pub piece_there : (ps : List (Bor (List ℕ))) (i : ℕ) (d : Bor (List ℕ)) (all text rest : List ℕ) → i < length ps →
    text ≡ (get_or ps i d).now ++ rest →
    bytes_eq all (joined ps) ≡ bytes_eq text (joined (drop i ps)) → bytes_eq all (joined ps) ≡ bytes_eq rest (joined (drop (i + 1) ps))
piece_there ps i d all text rest h f g =
    g ∙ ap (λ t. bytes_eq t (joined (drop i ps))) f ∙ ap (bytes_eq ((get_or ps i d).now ++ rest)) (joined-drop ps i d h) ∙
    same_front (get_or ps i d).now rest (joined (drop (i + 1) ps))

-- it doesn't
pub piece_missing : (ps : List (Bor (List ℕ))) (i : ℕ) (d : Bor (List ℕ)) (text : List ℕ) → i < length ps →
    ((rest : List ℕ) → text ≢ (get_or ps i d).now ++ rest) →
    bytes_eq text (joined (drop i ps)) ≡ false
piece_missing ps i d text h none = ap (bytes_eq text) (joined-drop ps i d h) ∙
    go (bytes_eq text ((get_or ps i d).now ++ joined (drop (i + 1) ps))) refl
  where
    go : (b : Bool) → bytes_eq text ((get_or ps i d).now ++ joined (drop (i + 1) ps)) ≡ b → b ≡ false
    go true f = absurd (none _ ((bytes_eq-Decides text ((get_or ps i d).now ++ joined (drop (i + 1) ps))).0 f))
    go false f = refl

pub nothing_left : (ps : List (Bor (List ℕ))) (i : ℕ) (text : List ℕ) → length ps ≤ i → bytes_eq text (joined (drop i ps))
    ≡ bytes_eq text []
nothing_left ps i text h = ap (bytes_eq text) (joined-past ps i h)

pub ruleset steps = (common_steps, nothing_left)

pub ruleset pieces = (common_steps, append_assoc, append-nil)

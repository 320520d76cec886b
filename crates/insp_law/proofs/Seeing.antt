-- What is known of a receiver is so: an operation does the same in a frame and in an abstract frame that fits it.
use Rattle.std.proofs.Common.{◌≡◌, ℕ, Bool, true, false, true≢false, List, Option, Some, None}
use Rattle.std.proofs.Common.{refl, sym, ap, ◌∙◌}
use Rattle.std.specs.Prelude.{if◌then◌else◌}
use Rattle.insp_rules.specs.Program.{Instruction, Operation, Does, Invoke, Nobody, Whole, Unknown, does, done, Program, code_at, Shape}
use Rattle.insp_rules.specs.Program.{nth}
use Rattle.insp_rules.specs.Skeleton.{Value, Plain, Nil, Bit, Map, Constant, Ref, Again, Another, Said, is_loose, Thing, instruction_at}
use Rattle.insp_rules.specs.Skeleton as skeleton
use Rattle.insp_rules.specs.Frames.{Known, unknown, Object, Group, Sight, class_known, seen_at}
use Rattle.insp_rules.specs.Frames as frames
use Rattle.insp_rules.specs.Reached.{Both}
use Rattle.insp_law.specs.Laws as laws
use Rattle.insp_rules.proofs.Lists.{both_nth}
use Rattle.insp_law.proofs.Fitting.{Says, bare, object, answer, others, KindOf, Fit}

loose_receiver : (h : ℕ → Thing) (v : Value) → is_loose v ≡ true → Unknown ≡ skeleton.receiver_of h v
loose_receiver h Plain l = refl
loose_receiver h Nil l = absurd (true≢false (sym l))
loose_receiver h (Bit b) l = refl
loose_receiver h (Map m class) l = refl
loose_receiver h (Constant class label) l = refl
loose_receiver h (Ref o) l = absurd (true≢false (sym l))
loose_receiver h (Again t o) l = absurd (true≢false (sym l))
loose_receiver h (Another t) l = absurd (true≢false (sym l))
loose_receiver h (Said form label) l = refl

module _ (h : ℕ → Thing) (obj : ℕ → ℕ) (groups : ℕ → Option Group) (stale : ℕ → Bool)
    (kinds : (g : ℕ) (x : Group) → groups g ≡ Some x → KindOf x (h (obj g))) where
  same_receiver : (a : Known) (v : Value) → Says h obj groups stale a v → frames.receiver_of groups a ≡ skeleton.receiver_of h v
  same_receiver a v (bare (laws.other l)) = loose_receiver h v l
  same_receiver a v (bare (laws.lost l)) = loose_receiver h v l
  same_receiver a v (bare laws.bit) = refl
  same_receiver a v (bare laws.null) = refl
  same_receiver a v (bare laws.again) = refl
  same_receiver a v (bare laws.another) = refl
  same_receiver a v (bare laws.map) = refl
  same_receiver a v (bare laws.constant) = refl
  same_receiver a v (object {g = g} {o = o} x e k) =
      ap class_known e ∙ ap (λ c. Whole c) ((kinds g x e).of ∙ ap (λ b. (h b).of) (sym k))
  same_receiver a v (answer x e k) = refl

  same_done : (o : Option Operation) {xs : List Known} {vs : List Value} → Both (Says h obj groups stale) xs vs →
      done unknown (frames.receiver_of groups) o xs ≡ done Plain (skeleton.receiver_of h) o vs
  same_done None both = refl
  same_done (Some (Does i)) both = refl
  same_done (Some (Invoke v)) {xs = xs} {vs = vs} both = ap (λ r. Some (does (Invoke v) r)) (go v.has_receiver)
    where
      go : (b : Bool) → (if b then frames.receiver_of groups (nth unknown xs v.words) else Nobody)
          ≡ (if b then skeleton.receiver_of h (nth Plain vs v.words) else Nobody)
      go true =
          same_receiver (nth unknown xs v.words) (nth Plain vs v.words)
          (both_nth (Says h obj groups stale) unknown Plain (others h obj groups stale) v.words both)
      go false = refl

-- what is seen at a place is what is done there
pub sees : {h : ℕ → Thing} {obj : ℕ → ℕ} {stale : ℕ → Bool} {held : ℕ} {hold : ℕ → ℕ} {mark n : ℕ} {f : Sight} {t : Shape Value} →
    Fit h obj stale held hold mark n f t → (p : Program) (m d at : ℕ) → m ≡ d → seen_at p d at f ≡ instruction_at p h m at t
sees {h} {obj} {stale} {held} {hold} {mark} {n} {f} {t} fit p m d at same =
    same_done h obj f.groups stale fit.kinds (code_at p d at) fit.fits.operands
    ∙ ap (λ j. done Plain (skeleton.receiver_of h) (code_at p j at) t.operands) (sym same)

pub seen : {h : ℕ → Thing} {obj : ℕ → ℕ} {stale : ℕ → Bool} {held : ℕ} {hold : ℕ → ℕ} {mark n : ℕ} {f : Sight} {t : Shape Value} →
    Fit h obj stale held hold mark n f t → (p : Program) (m d at : ℕ) → m ≡ d → {i : Instruction} → instruction_at p h m at t ≡ Some i →
    seen_at p d at f ≡ Some i
seen fit p m d at same e = sees fit p m d at same ∙ e

-- of two that are done there
pub one_done : {h : ℕ → Thing} {obj : ℕ → ℕ} {stale : ℕ → Bool} {held : ℕ} {hold : ℕ → ℕ} {mark n : ℕ} {f : Sight} {t : Shape Value} →
    Fit h obj stale held hold mark n f t → (p : Program) (m d at : ℕ) → m ≡ d → {i j : Instruction} → seen_at p d at f ≡ Some i →
    instruction_at p h m at t ≡ Some j → i ≡ j
one_done fit p m d at same l e = Rattle.insp_rules.proofs.Lists.some_is (sym l ∙ sees fit p m d at same ∙ e)

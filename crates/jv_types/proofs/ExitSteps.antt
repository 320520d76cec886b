-- What was met, after a step of the walk over statements.
use Rattle.std.proofs.Common.{◌≡◌, Option, Some, None, Bool, true, false, not, ◌&&◌, ◌||◌, if◌then◌else◌, Decides, string_bytes, refl, sym}
use Rattle.std.proofs.Common.{ap, ◌∙◌, true≢false}
use Rattle.std.specs.HashMap.{UpdatesBy, get_by_text}
use Rattle.std.specs.Str.{bytes_eq}
use Rattle.std.specs.String.{string_eq}
use Rattle.std.proofs.Math.Bool.{or-false, or_assoc}
use Rattle.std.proofs.lemmas.Map.Text.{hash_map_updates_text}
use Rattle.std.proofs.lemmas.Slice.Eq.{bytes_eq-Decides}
use Rattle.mg_text.specs.Call.{Name}
use Rattle.jv_rules.specs.Completes.{Exit, Breaks, Continues}
use Rattle.jv_rules.specs.inner.Leaving.{same_label, is_break, passes, for_loop}
use Rattle.jv_rules.proofs.Leaving.{same_label-Decides}
use Rattle.jv_types.specs.declared.exits.Jumps.{Jumps}
use Rattle.jv_types.specs.declared.exits.Exits.{Exits}
use Rattle.jv_types.specs.inner.Exits.{Met, jumps, no_jumps, both, jumps_by, some_jumps, met_at, with_jumps, emptied, Adds}

or-same : (b : Bool) → (b || b) ≡ b
or-same true = refl
or-same false = refl

pub both_none : (j : Jumps) → both j no_jumps ≡ j
both_none j = ap (λ b. jumps b (j.continues || false)) (or-false j.breaks) ∙ ap (jumps j.breaks) (or-false j.continues)

both_same : (j : Jumps) → both j j ≡ j
both_same j = ap (λ b. jumps b (j.continues || j.continues)) (or-same j.breaks) ∙ ap (jumps j.breaks) (or-same j.continues)

pub both_assoc : (a b c : Jumps) → both (both a b) c ≡ both a (both b c)
both_assoc a b c =
    ap (λ z. jumps z ((a.continues || b.continues) || c.continues)) (or_assoc a.breaks b.breaks c.breaks)
    ∙ ap (jumps (a.breaks || (b.breaks || c.breaks))) (or_assoc a.continues b.continues c.continues)

-- a label in the table
pub set_named : (e new : Exits) (name : Name) (j : Jumps) → new.plain ≡ e.plain →
    UpdatesBy string_eq (λ k. bytes_eq name (string_bytes k)) e.labelled new.labelled (Some j) → (l : Option Name) →
    met_at new l ≡ with_jumps (met_at e) (Some name) j l
set_named e new name j same u None = same
set_named e new name j same u (Some q) =
    ap some_jumps (hash_map_updates_text name e.labelled new.labelled (Some j) u q) ∙ go (bytes_eq name q)
  where
    go : (b : Bool) → some_jumps (if b then Some j else get_by_text e.labelled q) ≡ (if b then j else some_jumps (get_by_text e.labelled q))
    go true = refl
    go false = refl

pub adds_nothing : (these : Exit → Bool) (m : Met) → ((l : Option Name) → jumps_by these l ≡ no_jumps) → Adds these m m
adds_nothing these m none l = sym (ap (both (m l)) (none l) ∙ both_none (m l))

-- first these and then those
pub adds_more : (these those : Exit → Bool) (a b c : Met) → Adds these a b → Adds those b c → Adds (λ e. these e || those e) a c
adds_more these those a b c h k l = k l ∙ ap (λ j. both j (jumps_by those l)) (h l) ∙ both_assoc (a l) (jumps_by these l) (jumps_by those l)

-- one more jump with a label
module _ (m new : Met) (label : Option Name) where
  one_jump : (j : Jumps) (by : Bool → Jumps) → by true ≡ j → by false ≡ no_jumps → (l : Option Name) (a b : Bool) → Decides a (label ≡ l) →
      Decides b (l ≡ label) →
      (if a then both (m label) j else m l) ≡ both (m l) (by b)
  one_jump j by one none l true true d k = ap (λ z. both (m z) j) (d.0 refl) ∙ ap (both (m l)) (sym one)
  one_jump j by one none l true false d k = absurd (true≢false (sym (k.1 (sym (d.0 refl)))))
  one_jump j by one none l false true d k = absurd (true≢false (sym (d.1 (sym (k.0 refl)))))
  one_jump j by one none l false false d k = sym (ap (both (m l)) none ∙ both_none (m l))

  -- `break` with it
  pub break_adds : ((l : Option Name) → new l ≡ with_jumps m label (both (m label) (jumps true false)) l) → (l : Option Name) →
      new l ≡ both (m l) (jumps (same_label l label) false)
  break_adds h l =
      h l ∙ one_jump (jumps true false) (λ b. jumps b false) refl refl l (same_label label l) (same_label l label)
      (same_label-Decides label l) (same_label-Decides l label)

  -- `continue` with it
  pub continue_adds : ((l : Option Name) → new l ≡ with_jumps m label (both (m label) (jumps false true)) l) → (l : Option Name) →
      new l ≡ both (m l) (jumps false (same_label l label))
  continue_adds h l =
      h l ∙ one_jump (jumps false true) (λ b. jumps false b) refl refl l (same_label label l) (same_label l label)
      (same_label-Decides label l) (same_label-Decides l label)

-- A loop hides what was met before and would lead to it, and brings it back.
module _ (loop : Option Name) (these : Exit → Bool) (before entered within : Met) (enters : (l : Option Name) →
    entered l ≡ emptied loop before l) (adds : Adds these entered within) where
  abbrev inner_jumps : Option Name → Jumps
  inner_jumps l = jumps (for_loop l (λ k. these (Breaks k))) (for_loop l (λ k. these (Continues k)))

  -- what leads to the loop
  pub loop_inner : both (within None) (within loop) ≡ inner_jumps loop
  loop_inner = ap (λ j. both j (within loop)) (plain loop enters) ∙ labelled loop enters
    where
      plain : (k : Option Name) → ((l : Option Name) → entered l ≡ emptied k before l) → within None ≡ jumps_by these None
      plain None h = adds None ∙ ap (λ j. both j (jumps_by these None)) (h None)
      plain (Some n) h = adds None ∙ ap (λ j. both j (jumps_by these None)) (h None)

      labelled : (k : Option Name) → ((l : Option Name) → entered l ≡ emptied k before l) → both (jumps_by these None) (within k) ≡
          inner_jumps k
      labelled None h = ap (both (jumps_by these None)) (plain None h) ∙ both_same (jumps_by these None)
      labelled (Some n) h =
          ap (both (jumps_by these None)) (adds (Some n) ∙ ap (λ j. both j (jumps_by these (Some n)))
          (h (Some n) ∙ ap (λ b. if b then no_jumps else before (Some n)) ((bytes_eq-Decides n n).1 refl)))

  pub loop_adds : (after : Met) (plain labelled : Jumps) →
      ((l : Option Name) → after l ≡ with_jumps (with_jumps within loop labelled) None plain l) → plain ≡ before None →
      labelled ≡ before loop →
      Adds (λ e. passes loop e && these e) before after
  loop_adds after plain labelled leaves p q None = leaves None ∙ p ∙ sym (both_none (before None))
  loop_adds after plain labelled leaves p q (Some n) = leaves (Some n) ∙ go (same_label loop (Some n)) (same_label-Decides loop (Some n))
      (enters (Some n))
    where
      go : (b : Bool) → Decides b (loop ≡ Some n) → entered (Some n) ≡ (if b then no_jumps else before (Some n)) →
          (if b then labelled else within (Some n)) ≡ both (before (Some n))
          (jumps (not b && these (Breaks (Some n))) (not b && these (Continues (Some n))))
      go true d e = q ∙ ap before (d.0 refl) ∙ sym (both_none (before (Some n)))
      go false d e = adds (Some n) ∙ ap (λ j. both j (jumps_by these (Some n))) e

-- A switch does so with `break` without a label.
module _ (these : Exit → Bool) (before entered within : Met) (enters : (l : Option Name) →
    entered l ≡ with_jumps before None (jumps false (before None).continues) l)
    (adds : Adds these entered within) where
  pub switch_inner : (within None).breaks ≡ these (Breaks None)
  switch_inner = ap (λ j. j.breaks) (adds None ∙ ap (λ j. both j (jumps_by these None)) (enters None))

  pub switch_adds : (after : Met) (hidden : Bool) →
      ((l : Option Name) → after l ≡ with_jumps within None (jumps hidden (within None).continues) l) → hidden ≡ (before None).breaks →
      Adds (λ e. not (is_break e) && these e) before after
  switch_adds after hidden leaves h None =
      leaves None ∙ ap (λ j. jumps hidden j.continues) (adds None ∙ ap (λ j. both j (jumps_by these None)) (enters None))
      ∙ ap (λ b. jumps b ((before None).continues || these (Continues None))) (h ∙ sym (or-false (before None).breaks))
  switch_adds after hidden leaves h (Some n) = leaves (Some n) ∙ adds (Some n) ∙ ap (λ j. both j (jumps_by these (Some n)))
      (enters (Some n))

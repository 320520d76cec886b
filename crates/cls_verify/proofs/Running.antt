-- Blocks run over what is kept, also where that is raised.
use Rattle.std.proofs.Common.{◌≡◌, ℕ, ◌+◌, Bool, true, false, List, [], ◌∷◌, ◌++◌, Option, refl, sym, ap, ◌∙◌}
use Rattle.std.specs.Prelude.{if◌then◌else◌}
use Rattle.vm_model.specs.Program.{Program, MethodOf}
use Rattle.vm_model.specs.Actions.{Action, Push, Load, Store, Pop, Double, Swap, Compute, Negate, Increase, IfZero, IfBoth, IfNull, Go}
use Rattle.vm_model.specs.Actions.{Switch, Return, Read, Write, Make, Call, Use}
use Rattle.cls_verify.specs.Rows.{leads}
use Rattle.cls_verify.specs.Typing.{Kinds}
use Rattle.cls_verify.proofs.Searching.{Keeps}
use Rattle.cls_verify.specs.Blocks.{falls, jumps, Jumps, Runs, runs, Came, begins, goes}
use Rattle.cls_verify.specs.Blocks as blocks

abbrev pub behind : Action → ℕ → List ℕ
behind a place = if falls a then (place + 1) ∷ [] else []

-- what an instruction leads to is where it jumps to, and what stands behind it
pub leads_are : (a : Action) (place : ℕ) → leads a place ≡ jumps a ++ behind a place
leads_are (Push v) place = refl
leads_are (Load sort local) place = refl
leads_are (Store sort local) place = refl
leads_are Pop place = refl
leads_are Double place = refl
leads_are Swap place = refl
leads_are (Compute operation) place = refl
leads_are Negate place = refl
leads_are (Increase local value) place = refl
leads_are (IfZero comparison target) place = refl
leads_are (IfBoth comparison target) place = refl
leads_are (IfNull wanted target) place = refl
leads_are (Go target) place = refl
leads_are (Switch default low targets) place = sym (ap (λ xs. default ∷ xs) (no_more targets))
  where
    no_more : (xs : List ℕ) → xs ++ [] ≡ xs
    no_more [] = refl
    no_more (x ∷ xs) = ap (λ ys. x ∷ ys) (no_more xs)
leads_are (Return sort) place = refl
leads_are (Read class field) place = refl
leads_are (Write class field) place = refl
leads_are (Make class) place = refl
leads_are (Call _ class method) place = refl
leads_are (Use b) place = refl

module _ (p : Program) (class method : ℕ) (m : MethodOf) (joins : ℕ → Bool) where
  pub jumps_kept : (at later : ℕ → Option Kinds) → Keeps at later → (a : Action) (left : Kinds) → Jumps joins at a left →
      Jumps joins later a left
  jumps_kept at later keeps a left j next c = let h = j next c in (h.0, keeps left next h.1)

  pub runs_kept : (at later : ℕ → Option Kinds) → Keeps at later → {place : ℕ} {k : Kinds} → Runs p class method m joins at place k →
      Runs p class method m joins later place k
  runs_kept at later keeps (blocks.runs place k left r j f g) =
      blocks.runs place k left r (jumps_kept at later keeps r.action_is left j) (λ a b. keeps left (place + 1) (f a b))
      (λ a b. runs_kept at later keeps (g a b))

  pub came_kept : (at later : ℕ → Option Kinds) → Keeps at later → {start : ℕ} {first : Kinds} {place : ℕ} {k : Kinds} →
      Came p class method m joins at start first place k → Came p class method m joins later start first place k
  came_kept at later keeps blocks.begins = blocks.begins
  came_kept at later keeps (blocks.goes place k left c r j f n) =
      blocks.goes place k left (came_kept at later keeps c) r (jumps_kept at later keeps r.action_is left j) f n

  -- a block runs whose front was come along and whose rest runs
  pub came_runs : (at : ℕ → Option Kinds) {start : ℕ} {first : Kinds} {place : ℕ} {k : Kinds} →
      Came p class method m joins at start first place k →
      Runs p class method m joins at place k → Runs p class method m joins at start first
  came_runs at blocks.begins r = r
  came_runs at (blocks.goes place k left c row j f n) r =
      came_runs at c (blocks.runs place k left row j (λ a b. absurd (let no : false ≡ true = sym n ∙ b in cc no)) (λ a b. r))

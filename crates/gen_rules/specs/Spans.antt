-- Pieces of code: which instructions stand from a place up to another. A place is the number of an instruction in the code.
use Rattle.std.specs.Prelude.{◌≡◌, ℕ, suc, List, Some, slice_get}
use Rattle.gen_rules.specs.Symbolic.{Instr, push, goto, ifeq, ifne}
use Rattle.std.specs.Prelude.{pos}

-- what stands in the code from a place up to another
abbrev pub Span : Type 1
Span = (from to : ℕ) → Type 0

abbrev pub nothing : Span
nothing from to = to ≡ from

infixl 20 ◌then◌
-- one piece, and behind it another
abbrev pub ◌then◌ : Span → Span → Span
◌then◌ a b from to = (between : ℕ) × a from between × b between to

-- The three forms of an expression: V(e), its value; J(e, L), a jump to L where it is false; T(e, L), a jump to L where it is true.
-- In all of them the code goes on behind the piece where it doesn't jump.
pub record Forms : Type 1 where
  pub value : Span
  pub unless : (target : ℕ) → Span
  pub when : (target : ℕ) → Span

module _ (code : List Instr) where
  abbrev pub one : Instr → Span
  one i from to = (slice_get code from ≡ Some i) × (to ≡ suc from)

  -- J and T test the value: V ifeq, and V ifne
  abbrev pub by_value : Span → Forms
  by_value value = record { value = value; unless = λ l. value then one (ifeq l); when = λ l. value then one (ifne l) }

  -- the value comes of a jump: J(e, F) iconst_1 goto N, F: iconst_0, N:
  abbrev pub by_jumps : (unless when : (target : ℕ) → Span) → Forms
  by_jumps unless when = record {
    value = λ from to. (f : ℕ) × (unless f then one (push (pos 1)) then one (goto to)) from f × one (push (pos 0)) f to;
    unless = unless;
    when = when;
  }

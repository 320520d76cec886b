-- What the program's values say of a code that is laid out.
use Rattle.std.specs.Prelude.{◌≡◌, ℕ, ◌+◌, [], ◌∷◌, ◌++◌}
use Rattle.gen_members.specs.declared.laying.Laid.{Laid as KeptLaid}
use Rattle.gen_members.specs.Laid.{Laid}

abbrev pub laid_of : KeptLaid → Laid
laid_of l = record { numbers = l.numbers.items; starts = l.starts.items; end = l.end }

-- one more instruction, which has a constant of this number and takes so many bytes
pub record IsOneMore (old new : KeptLaid) (number size : ℕ) : Type 0 where
  pub numbers : new.numbers.items ≡ old.numbers.items ++ number ∷ []
  pub starts : new.starts.items ≡ old.starts.items ++ old.end ∷ []
  pub end : new.end ≡ old.end + size

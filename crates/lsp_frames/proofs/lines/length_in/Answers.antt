use Rattle.std.proofs.Common.{◌≡◌, ◌<◌, ◌≤◌, ℕ, List, Option, Some, None, MatchOption}
use Rattle.std.specs.Str.{IsTrimAscii}
use Rattle.std.specs.Str.Parse.{IsNumeral, digits_value}
use Rattle.lsp_frames.specs.Fields.{Numbers}
use Rattle.lsp_frames.proofs.Digits.{none_in}
use Rattle.lsp_frames.proofs.lines.length_in.Goals as goal

length_is : (limit : ℕ) (value digits : List ℕ) (r : Option ℕ) → IsTrimAscii value digits →
    MatchOption r (IsNumeral 10 digits → limit < digits_value 10 digits)
    (λ n. IsNumeral 10 digits × (n ≡ digits_value 10 digits) × (n ≤ limit)) →
    MatchOption r ((n : ℕ) → ¬ Numbers limit value n) (λ n. Numbers limit value n)
length_is limit value digits None trimmed h = λ n numbers. none_in limit n value digits trimmed h numbers
length_is limit value digits (Some n) trimmed h =
    record { digits = digits; trimmed = trimmed; numeral = h.0; number = h.1; within = h.2 }

pub returns : goal.returns
returns c = length_is c.args.limit c.args.value.now c.trim_ascii.result.now c.number_in.result c.trim_ascii.ensures.value c.number_in.ensures

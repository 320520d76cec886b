-- Where a method of a variable is being typed: the word before an offset, where a dot stands before it, and before that a path that begins
-- as a name does, `x` or `this.f`.
use Rattle.std.specs.Prelude.{ℕ, zero, suc, ◌==◌, ◌&&◌, ◌||◌, Bool, true, false, List, Option, Some, None, slice_index_or}
use Rattle.std.specs.Prelude.{if◌then◌else◌}
use Rattle.lsp_spans.specs.Words.{is_between, is_run_byte}
use Rattle.lsp_offers.specs.declared.spots.Spot.{Spot}

-- a letter, `_` or `$`
abbrev pub begins_name : ℕ → Bool
begins_name b = is_between 97 122 b || (is_between 65 90 b || (b == 95 || b == 36))

-- where the run of words begins that ends at an offset, and of dots where they count too
abbrev pub begin_of : (dots : Bool) → (text : List ℕ) → (offset : ℕ) → ℕ
begin_of dots text zero = zero
begin_of dots text (suc n) = if is_run_byte dots (slice_index_or text n 0) then begin_of dots text n else suc n

-- at this offset stands a dot, and where its path begins, a name may begin
abbrev pub is_spot : (text : List ℕ) → (dot start : ℕ) → Bool
is_spot text d s = slice_index_or text d 0 == 46 && begins_name (slice_index_or text s 0)

-- with its dot at this offset
abbrev pub spot_before : (text : List ℕ) → (dot : ℕ) → Option Spot
spot_before text d =
    if is_spot text d (begin_of true text d) then Some (record { start = begin_of true text d; dot = d }) else None

-- before a word that begins here
abbrev pub spot_behind : (text : List ℕ) → (begin : ℕ) → Option Spot
spot_behind text zero = None
spot_behind text (suc d) = spot_before text d

abbrev pub spot_at : (text : List ℕ) → (offset : ℕ) → Option Spot
spot_at text offset = spot_behind text (begin_of false text offset)

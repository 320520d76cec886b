-- A walk over the lines of a head.
use Rattle.std.proofs.Common.{◌≡◌, ℕ, zero, suc, ◌+◌, ◌-◌, ◌<◌, ◌≤◌, List, [], ◌∷◌, ◌++◌, length, take, drop, Option, Some, None, true}
use Rattle.std.proofs.Common.{false, is_some, option_to_list, refl, sym, ap, ◌∙◌, subst, subst₂, arith, append_assoc, append-nil, add-zero, zero-add}
use Rattle.std.proofs.Common.{length-append, drop-drop}
use Rattle.std.specs.Str.{NonePass}
use Rattle.lsp_frames.specs.declared.lines.Said.{Said}
use Rattle.lsp_frames.specs.declared.lines.Said.TheVariants.{Other, Long}
use Rattle.lsp_frames.specs.declared.heads.Taken.{Taken}
use Rattle.lsp_frames.specs.declared.heads.Taken.TheVariants.{Refused}
use Rattle.lsp_frames.specs.declared.heads.Fault.{Fault}
use Rattle.lsp_frames.specs.declared.heads.Step.{Step}
use Rattle.lsp_frames.specs.declared.heads.Step.TheVariants.{Stop}
use Rattle.lsp_frames.specs.Fields.{is_feed, IsSaid, SaysSomething, spell, told, lengths}
use Rattle.lsp_frames.specs.Reading.{head_limit, Cut, line, IsCut, Ends, IsRead}
use Rattle.lsp_frames.specs.inner.Walk.{IsReadFrom, LeadsTo, Steps}

pub one_told : (o : Option ℕ) → length (option_to_list o) ≤ 1
one_told None = omega arith
one_told (Some n) = omega arith

pub some_told : (o : Option ℕ) → is_some o ≡ true → 0 < length (option_to_list o)
some_told None h = absurd (cc)
some_told (Some n) h = omega arith

-- what stands here decides
pub stops : (limit at : ℕ) (o : Option ℕ) (bytes : List ℕ) (cut : Cut) (taken : Taken) → at ≤ head_limit → IsCut (head_limit - at) bytes cut →
    Ends limit at (option_to_list o) cut taken → IsReadFrom limit at (option_to_list o) bytes taken
stops limit at o bytes cut taken within cuts ends =
    let ns : List ℕ = option_to_list o in
    record {
      fields = [];
      after = bytes;
      cut = cut;
      spells = refl;
      are = tt;
      one = subst (λ (zs : List ℕ). length zs ≤ 1) (sym (append-nil ns)) (one_told o);
      within = subst (λ (z : ℕ). z ≤ head_limit) (sym (add-zero at)) within;
      cuts = subst (λ (z : ℕ). IsCut (head_limit - z) bytes cut) (sym (add-zero at)) cuts;
      ends = subst₂ (λ (z : ℕ) (zs : List ℕ). Ends limit z zs cut taken) (sym (add-zero at)) (sym (append-nil ns)) ends;
    }

pub refuses : (limit at : ℕ) (o : Option ℕ) (bytes : List ℕ) (fault : Fault) (step : Step) → step ≡ Stop (Refused fault at) →
    IsReadFrom limit at (option_to_list o) bytes (Refused fault at) → Steps limit bytes at o step
refuses limit at o bytes fault step e h = subst (Steps limit bytes at o) (sym e) h

-- a line is passed
goes : (limit at n : ℕ) (ns bytes l rest : List ℕ) (said : Said) (taken : Taken) → bytes ≡ l ++ (13 ∷ 10 ∷ rest) → NonePass is_feed l →
    IsSaid limit l said → SaysSomething said → length l ≡ n → IsReadFrom limit (at + (n + 2)) (ns ++ told said) rest taken →
    IsReadFrom limit at ns bytes taken
goes limit at n ns bytes l rest said taken spelled plain says some long r =
    let two : length (13 ∷ 10 ∷ spell r.fields) ≡ suc (suc (length (spell r.fields))) = refl in
    let further : length (l ++ (13 ∷ 10 ∷ spell r.fields)) ≡ length l + length (13 ∷ 10 ∷ spell r.fields) =
    length-append l (13 ∷ 10 ∷ spell r.fields) in
    let place : at + (n + 2) + length (spell r.fields) ≡ at + length (l ++ (13 ∷ 10 ∷ spell r.fields)) = omega (arith, further, two, long) in
    let tell : ns ++ told said ++ lengths r.fields ≡ ns ++ (told said ++ lengths r.fields) = append_assoc ns (told said) (lengths r.fields) in
    record {
      fields = record { line = l; said = said } ∷ r.fields;
      after = r.after;
      cut = r.cut;
      spells = spelled ∙ ap (λ (zs : List ℕ). l ++ (13 ∷ 10 ∷ zs)) r.spells ∙ sym (append_assoc l (13 ∷ 10 ∷ spell r.fields) r.after);
      are = (plain, says, some, r.are);
      one = subst (λ (zs : List ℕ). length zs ≤ 1) tell r.one;
      within = subst (λ (z : ℕ). z ≤ head_limit) place r.within;
      cuts = subst (λ (z : ℕ). IsCut (head_limit - z) r.after r.cut) place r.cuts;
      ends = subst₂ (λ (z : ℕ) (zs : List ℕ). Ends limit z zs r.cut taken) place tell r.ends;
    }

size : (n : ℕ) (xs : List ℕ) → n ≤ length xs → length (take n xs) ≡ n
size zero xs le = refl
size (suc n) [] le = absurd (omega arith)
size (suc n) (x ∷ xs) le = ap suc (size n xs (omega arith))

pub passes_other : (limit at n : ℕ) (o : Option ℕ) (bytes : List ℕ) (room : ℕ) → n + 2 ≤ length bytes →
    IsCut room bytes (line (take n bytes) (drop (n + 2) bytes)) → IsSaid limit (take n bytes) Other → LeadsTo limit bytes at o (n + 2) o
passes_other limit at n o bytes room fits cuts says taken r =
    goes limit at n (option_to_list o) bytes (take n bytes) (drop (n + 2) bytes) Other taken cuts.0 cuts.1 says tt (size n bytes (omega arith))
    (subst (λ (zs : List ℕ). IsReadFrom limit (at + (n + 2)) zs (drop (n + 2) bytes) taken) (sym (append-nil (option_to_list o))) r)

pub passes_long : (limit at n m : ℕ) (o : Option ℕ) (bytes : List ℕ) (room : ℕ) → n + 2 ≤ length bytes →
    IsCut room bytes (line (take n bytes) (drop (n + 2) bytes)) → IsSaid limit (take n bytes) (Long m) → is_some o ≡ false →
    LeadsTo limit bytes at o (n + 2) (Some m)
passes_long limit at n m (Some k) bytes room fits cuts says none taken r = absurd (cc)
passes_long limit at n m None bytes room fits cuts says none taken r =
    goes limit at n [] bytes (take n bytes) (drop (n + 2) bytes) (Long m) taken cuts.0 cuts.1 says tt (size n bytes (omega arith)) r

-- what is left behind the bytes that are passed
pub onward : (limit at passed : ℕ) (ns bytes : List ℕ) (taken : Taken) → IsReadFrom limit (at + passed) ns (drop (at + passed) bytes) taken →
    IsReadFrom limit (at + passed) ns (drop passed (drop at bytes)) taken
onward limit at passed ns bytes taken r =
    subst (λ (zs : List ℕ). IsReadFrom limit (at + passed) ns zs taken) (sym (drop-drop passed at bytes)) r

pub from_start : (limit : ℕ) (bytes : List ℕ) (taken : Taken) → IsReadFrom limit 0 [] bytes taken → IsRead limit bytes taken
from_start limit bytes taken r = record {
  fields = r.fields;
  after = r.after;
  cut = r.cut;
  spells = r.spells;
  are = r.are;
  one = r.one;
  within = subst (λ (z : ℕ). z ≤ head_limit) (zero-add (length (spell r.fields))) r.within;
  cuts = subst (λ (z : ℕ). IsCut (head_limit - z) r.after r.cut) (zero-add (length (spell r.fields))) r.cuts;
  ends = subst (λ (z : ℕ). Ends limit z (lengths r.fields) r.cut taken) (zero-add (length (spell r.fields))) r.ends;
}

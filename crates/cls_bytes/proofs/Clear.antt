-- Rows without a fault: field by field, each is whole, right, and followed by what it brings.
use Rattle.std.proofs.Common.{◌≡◌, ℕ, zero, suc, ◌+◌, ◌≤◌, List, [], ◌∷◌, ◌++◌, length, drop, refl, ap, subst, ◌∙◌, arith, Bool, true}
use Rattle.std.proofs.Common.{false, Some, None, nat_eq, nat_lt, not, ◌&&◌, ◌||◌}
use Rattle.std.specs.Prelude.{replicate}
use Rattle.std.proofs.lemmas.List.{drop-drop}
use Rattle.std.specs.List.{AllByRecursion}
use Rattle.byteorder.specs.Endian.{big_number}
use Rattle.mg_read.specs.Reader.{Reader}
use Rattle.cls_layout.specs.declared.format.Part.{Part}
use Rattle.cls_layout.specs.declared.format.Part.TheVariants as parts
use Rattle.cls_layout.specs.declared.format.Field.{Field}
use Rattle.cls_layout.specs.declared.ClassFault.{ClassFault}
use Rattle.cls_layout.specs.Parts.{size, brings, ends_row, is_tag}
use Rattle.cls_layout.specs.Row.{number, is_cut, is_code, entered, stops, due_behind, Lays, stopped, next}
use Rattle.cls_layout.specs.Faults.{unless, judged_name, ends_here, ends_well, Judges, whole, First, behind}
use Rattle.cls_layout.specs.Laying.{field}
use Rattle.cls_bytes.specs.Reading.{number_at, counted}
use Rattle.cls_layout.proofs.Laid.{end_within}

-- what is laid out from here on is all right
pub record Clear (bytes last places : List ℕ) (at : ℕ) (due : List Part) : Type 0 where
  pub row : List Field
  pub lays : Lays bytes places at due row last
  pub clean : First bytes last row None
  pub within : at ≤ length bytes

pub unless_none : (b : Bool) (fault : ClassFault) → None ≡ unless b fault → b ≡ true
unless_none true fault e = refl
unless_none false fault e = absurd (cc)

not_false : (b : Bool) → not b ≡ true → b ≡ false
not_false true e = absurd (cc)
not_false false e = refl

clash : (b : Bool) (fault : ClassFault) → not b ≡ true → None ≡ unless b fault → ⊥
clash true fault e j = absurd (cc)
clash false fault e j = absurd (cc)

twice : (at : ℕ) (bad again : Bool) → again ≡ true → None ≡ judged_name at bad again → ⊥
twice at true again e j = absurd (cc)
twice at false true e j = absurd (cc)
twice at false false e j = absurd (cc)

-- a field that is right doesn't end the row
goes_on : (bytes last : List ℕ) (later : List Field) (p : Part) (at n : ℕ) (rest : List ℕ) → Judges bytes last later p at n rest None →
    ends_row p n (is_code bytes last n) ≡ true → ⊥
goes_on bytes last later parts.Magic at n rest j e = absurd (cc)
goes_on bytes last later parts.Minor at n rest j e = absurd (cc)
goes_on bytes last later parts.Major at n rest j e = absurd (cc)
goes_on bytes last later parts.PoolCount at n rest j e = absurd (cc)
goes_on bytes last later parts.Tag at n rest j e = clash (is_tag n) _ e j
goes_on bytes last later parts.TextLength at n rest j e = absurd (cc)
goes_on bytes last later (parts.Letters len) at n rest j e = absurd (cc)
goes_on bytes last later parts.Int at n rest j e = absurd (cc)
goes_on bytes last later (parts.Reference tag) at n rest j e = absurd (cc)
goes_on bytes last later parts.Number at n rest j e = absurd (cc)
goes_on bytes last later parts.Interfaces at n rest j e = clash (nat_eq n 0) _ e j
goes_on bytes last later (parts.MemberCount k) at n rest j e = absurd (cc)
goes_on bytes last later (parts.Member k) at n rest j e = absurd (cc)
goes_on bytes last later (parts.AttributeCount k) at n rest j e = absurd (cc)
goes_on bytes last later parts.AttributeName at n rest j e = absurd (cc)
goes_on bytes last later (parts.MethodAttribute left seen) at n rest j e = twice at _ (seen && is_code bytes last n) e j
goes_on bytes last later parts.OtherLength at n rest j e = absurd (cc)
goes_on bytes last later (parts.Unread len) at n rest j e = absurd (cc)
goes_on bytes last later parts.CodeLength at n rest j e = absurd (cc)
goes_on bytes last later parts.CodeSize at n rest j e = absurd (cc)
goes_on bytes last later (parts.Code len) at n rest j e = absurd (cc)
goes_on bytes last later parts.Handlers at n rest j e = clash (nat_eq n 0) _ e j
goes_on bytes last later (parts.ContentEnd from len) at n rest j e = absurd (cc)
goes_on bytes last later parts.End at n rest j e = absurd (cc)

-- the number of a field at this place
abbrev pub num : List ℕ → ℕ → Part → ℕ
num bytes at part = number bytes (field at part)

-- A field of a right row: it is whole and right, its number is read, and what it brings is due.
pub record Step (bytes last places : List ℕ) (at : ℕ) (part : Part) (due : List Part) (row : List Field) : Type 0 where
  pub whole : nat_lt (length (drop at bytes)) (size part) ≡ false
  pub read : number_at (size part) (drop at bytes) ≡ Some (num bytes at part, drop (at + size part) bytes)
  pub lasts : ends_row part (num bytes at part) (is_code bytes places (num bytes at part)) ≡ false
  pub rest : Clear bytes last (entered part at places) (at + size part)
      (brings part at (num bytes at part) (is_code bytes places (num bytes at part)) ++ due)
  pub judged : Judges bytes last rest.row part at (num bytes at part) (drop at bytes) None
  pub ends : ends_well row ≡ ends_here part at (ends_well rest.row)

or_false : (a b : Bool) → (a || b) ≡ false → b ≡ false
or_false true b e = absurd (cc)
or_false false b e = e

read_number : (bytes : List ℕ) (at : ℕ) (part : Part) → is_cut bytes (field at part) ≡ false → number_at (size part) (drop at bytes) ≡ Some
    (num bytes at part, drop (at + size part) bytes)
unfolding number_at number is_cut
read_number bytes at part e =
    let k : drop (size part) (drop at bytes) ≡ drop (at + size part) bytes = drop-drop (size part) at bytes ∙ ap (λ n. drop n bytes)
    (omega arith) in
    rw e (ap (λ r. Some (big_number (size part) (drop at bytes), r)) k)

step_of : (bytes last places : List ℕ) (at : ℕ) (part : Part) (due : List Part) (row : List Field) → Lays bytes places at (part ∷ due) row
    last → First bytes last row None → at ≤ length bytes
    → Step bytes last places at part due row
unfolding stops due_behind is_cut ends_well
step_of bytes last places at part due [] l cl within = elim l [ ]
step_of bytes last places at part due (f ∷ []) (stopped e s) (behind (whole nc j) cl) within =
    let c : is_cut bytes (field at part) ≡ false = rw e at nc in
    let t : Judges bytes last [] part at (num bytes at part) (drop at bytes) None =
    subst (λ (g : Field). Judges bytes last [] g.part g.at (number bytes g) (drop g.at bytes) None) e j in
    let s2 : stops bytes last (field at part) ≡ true = rw e at s in
    absurd (goes_on bytes last [] part at (num bytes at part) (drop at bytes) t (rw c at s2))
step_of bytes last places at part due (f ∷ row) (next e s more) (behind (whole nc j) cl) within =
    let c : is_cut bytes (field at part) ≡ false = rw e at nc in
    let s2 : stops bytes places (field at part) ≡ false = rw e at s in
    record {
      whole = c;
      read = read_number bytes at part c;
      lasts = or_false _ _ s2;
      rest = record {
        row = row;
        lays =
            subst (λ (g : Field). Lays bytes (entered part at places) (at + size part) (due_behind bytes places g ++ due) row last) e more;
        clean = cl;
        within = end_within bytes (field at part) c within;
      };
      judged = subst (λ (g : Field). Judges bytes last row g.part g.at (number bytes g) (drop g.at bytes) None) e j;
      ends = ap (λ (g : Field). ends_here g.part g.at (ends_well row)) e;
    }

pub step : (bytes last places : List ℕ) (at : ℕ) (part : Part) (due : List Part) (c : Clear bytes last places at (part ∷ due)) →
    Step bytes last places at part due c.row
step bytes last places at part due c = step_of bytes last places at part due c.row c.lays c.clean c.within

-- What a reader gives where a row is right: a value, and the bytes behind it, from where the row is right too.
pub record Got {A : Type 0} (bytes last places : List ℕ) (f : Reader ℕ A) (ok : A → Type 0) (at : ℕ) (due : List Part) (Kept : List Field →
    Type 0) : Type 0 where
  pub value : A
  pub after : ℕ
  pub is : f (drop at bytes) ≡ Some (value, drop after bytes)
  pub fits : ok value
  pub rest : Clear bytes last places after due
  pub kept : Kept rest.row

-- what is read of one part so many times
module _ {A : Type 0} (bytes last places : List ℕ) (f : Reader ℕ A) (ok : A → Type 0) (part : Part) (Kept : List Field → List Field →
    Type 0)
    (same : (r : List Field) → Kept r r) (on : (r s t : List Field) → Kept r s → Kept s t → Kept r t)
    (item : (at : ℕ) (due : List Part) (c : Clear bytes last places at (part ∷ due)) → Got bytes last places f ok at due (Kept c.row)) where
  pub counted_got : (n at : ℕ) (due : List Part) (c : Clear bytes last places at (replicate n part ++ due)) →
      Got bytes last places (counted f n) (λ xs. AllByRecursion ok xs × (length xs ≡ n)) at due (Kept c.row)
  unfolding counted
  counted_got zero at due c = record { value = []; after = at; is = refl; fits = (tt, refl); rest = c; kept = same c.row }
  counted_got (suc n) at due c =
      let one = item at (replicate n part ++ due) c in
      let more = counted_got n one.after due one.rest in
      record {
        value = one.value ∷ more.value;
        after = more.after;
        is = rw (one.is, more.is) refl;
        fits = ((one.fits, more.fits.0), ap suc more.fits.1);
        rest = more.rest;
        kept = on c.row one.rest.row more.rest.row one.kept more.kept;
      }

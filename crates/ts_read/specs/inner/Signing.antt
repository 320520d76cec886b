-- Finding the first method with another signature than the first of its name.
use Rattle.std.specs.Prelude.{ℕ, List, [], ◌∷◌, ◌++◌, map, Option, Some, None, position, slice_get, Bool, true, false, ◌&&◌, if◌then◌else◌}
use Rattle.std.specs.Str.{bytes_eq}
use Rattle.mg_text.specs.Call.{Name}
use Rattle.mg_read.specs.Culprit.{Culprit}
use Rattle.ts_tree.specs.declared.parts.TypeName.{TypeName}
use Rattle.ts_tree.specs.declared.parts.TypeName.TheVariants as types
use Rattle.ts_parse.specs.declared.written.WrittenMethod.{WrittenMethod}
use Rattle.ts_parse.specs.declared.written.WrittenEntry.{WrittenEntry}
use Rattle.ts_parse.specs.declared.written.WrittenEntry.TheVariants as entries
use Rattle.ts_parse.specs.declared.written.WrittenState.{WrittenState}
use Rattle.ts_read.specs.declared.signatures.Signature.{Signature}
use Rattle.ts_read.specs.Conditions.{blamed}
use Rattle.ts_read.specs.inner.Finding.{is_in, first_some, at_method}

abbrev pub type_eq : TypeName → TypeName → Bool
type_eq types.Void types.Void = true
type_eq types.Int types.Int = true
type_eq types.Boolean types.Boolean = true
type_eq types.Text types.Text = true
type_eq (types.Named a) (types.Named b) = bytes_eq a b
type_eq a b = false

abbrev pub types_eq : List TypeName → List TypeName → Bool
types_eq [] [] = true
types_eq (x ∷ xs) (y ∷ ys) = type_eq x y && types_eq xs ys
types_eq xs ys = false

-- a signature, without where its list lies in memory
pub record Sig : Type 0 where
  pub result : TypeName
  pub params : List TypeName

abbrev pub sig_of : Signature → Sig
sig_of s = record { result = s.result; params = s.params.items }

abbrev pub sig_in : WrittenMethod → Sig
sig_in m = record { result = m.result; params = m.params.items }

-- the names that were met, and beside each the signature of the first method of that name
pub record Firsts : Type 0 where
  pub names : List Name
  pub sigs : List Sig

abbrev pub with_method : Firsts → WrittenMethod → Firsts
with_method f m = if is_in f.names m.name.text then f else record { names = f.names ++ m.name.text ∷ []; sigs = f.sigs ++ sig_in m ∷ [] }

abbrev pub with_entry : Firsts → WrittenEntry → Firsts
with_entry f (entries.Method m) = with_method f m
with_entry f (entries.DropEnd place) = f

abbrev pub with_entries : Firsts → List WrittenEntry → Firsts
with_entries f [] = f
with_entries f (e ∷ es) = with_entries (with_entry f e) es

abbrev pub with_states : Firsts → List WrittenState → Firsts
with_states f [] = f
with_states f (s ∷ ss) = with_states (with_entries f s.entries.items) ss

abbrev pub is_like : Option Sig → WrittenMethod → Bool
is_like None m = true
is_like (Some s) m = type_eq s.result m.result && types_eq s.params m.params.items

abbrev pub first_sig : List Sig → Option ℕ → Option Sig
first_sig sigs None = None
first_sig sigs (Some k) = slice_get sigs k

abbrev pub other_method : Firsts → WrittenMethod → Option Culprit
other_method f m = if is_like (first_sig f.sigs (position (bytes_eq m.name.text) f.names)) m then None else Some (blamed m.name)

abbrev pub other_in_state : Firsts → WrittenState → Option Culprit
other_in_state f s = first_some (map (at_method (other_method f)) s.entries.items)

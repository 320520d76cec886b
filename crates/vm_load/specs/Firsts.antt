-- Tables of the first member of each name, descriptor and kind.
use Rattle.std.specs.Prelude.{◌≡◌, ℕ, List, Bool, Option, string_bytes}
use Rattle.std.specs.List.{position}
use Rattle.mg_text.specs.Call.{Name}
use Rattle.vm_model.specs.Links.{Declared, is_member}
use Rattle.vm_load.specs.declared.numbers.Key.{Key}

-- this is the key of this name, descriptor and kind
pub record IsKey (k : Key) (name descriptor : Name) (is_static : Bool) : Type 0 where
  pub name_is : string_bytes k.name ≡ name
  pub descriptor_is : string_bytes k.descriptor ≡ descriptor
  pub kind_is : k.is_static ≡ is_static

abbrev pub is_found_by : Key → Declared → Bool
is_found_by k d = is_member (record { name = string_bytes k.name; descriptor = string_bytes k.descriptor }) k.is_static d

-- each key has the number of the first member that it finds
pub record HasFirsts (find : Key → Option ℕ) (ds : List Declared) : Type 0 where
  pub each : (k : Key) → find k ≡ position (is_found_by k) ds

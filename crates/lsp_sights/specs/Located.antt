-- Where the calls of a file stand in its text.
use Rattle.std.specs.Prelude.{◌≡◌, ℕ, ◌+◌, ◌&&◌, Bool, List, [], ◌∷◌, drop, nat_eq, nat_le}
use Rattle.use_sights.specs.declared.site.Site.{Site}
use Rattle.lsp_text.specs.Places.{IsOffsetOf}
use Rattle.lsp_spans.specs.Words.{path_len}
use Rattle.lsp_sights.specs.declared.located.Located.{Located}

-- the call stands in the file of this number
abbrev pub is_in : (file : ℕ) → Site → Bool
is_in file s = nat_eq s.place.file file

-- The path `x.m` of a call goes from the place of the call as far as words do with dots between them.
pub record IsLocated (text : List ℕ) (s : Site) (c : Located) : Type 0 where
  pub site : c.site ≡ s
  pub begins : IsOffsetOf text s.place c.start
  pub ends : c.end ≡ c.start + path_len (drop c.start text)

-- one for each call
abbrev pub AreLocated : (text : List ℕ) → List Site → List Located → Type 0
AreLocated text [] [] = Unit {0}
AreLocated text [] (c ∷ cs) = ⊥
AreLocated text (s ∷ ss) [] = ⊥
AreLocated text (s ∷ ss) (c ∷ cs) = IsLocated text s c × AreLocated text ss cs

-- the path begins between two offsets, or at one of them
abbrev pub begins_within : (from to : ℕ) → Located → Bool
begins_within from to c = nat_le from c.start && nat_le c.start to

-- the offset stands in the path, or at one of its ends
abbrev pub covers : (offset : ℕ) → Located → Bool
covers offset c = nat_le c.start offset && nat_le offset c.end

-- Worked rows of names and paths.
use Rattle.std.specs.Prelude.{◌≡◌, ℕ, List, ◌∷◌, ◌++◌, codes}
use Rattle.lsp_names.specs.declared.naming.Named.TheVariants.{Path, NoFile, Elsewhere, NoText}
use Rattle.lsp_names.specs.Names.{IsNamed, escaped}

-- the name of a file with this path
abbrev pub Leads : List ℕ → List ℕ → Type 0
Leads name path = IsNamed name (Path path)

pub record Rows : Type 0 where
  pub plain : Leads (codes "file:///home/ada/C.scr") (codes "/home/ada/C.scr")
  -- a blank, and a letter of two bytes
  pub blank : Leads (codes "file:///home/ada/my%20files/C.scr") (codes "/home/ada/my files/C.scr")
  pub letter : Leads (codes "file:///home/%C3%A4/C.scr") (codes "/home/" ++ (195 ∷ 164 ∷ codes "/C.scr"))
  -- hexadecimal digits may be small, and what is no escape stays
  pub small : Leads (codes "file:///%7euser/50%25%2/C.scr") (codes "/~user/50%%2/C.scr")
  -- a drive's letter is a folder of this machine as any other
  pub drive : Leads (codes "file:///c%3A/ada/C.scr") (codes "/c:/ada/C.scr")
  -- the name of this machine, and none
  pub here : Leads (codes "file://localhost/home/ada/C.scr") (codes "/home/ada/C.scr")
  pub short : Leads (codes "file:/home/my%20files/C.scr") (codes "/home/my files/C.scr")
  -- no files
  pub untitled : IsNamed (codes "untitled:Untitled-1") NoFile
  pub other : IsNamed (codes "git:/home/ada/C.scr?HEAD") NoFile
  -- a file of another machine, and none
  pub elsewhere : IsNamed (codes "file://server/ada/C.scr") Elsewhere
  pub like : IsNamed (codes "file://localhosts/ada/C.scr") Elsewhere
  pub nothing : IsNamed (codes "file://") Elsewhere
  pub no_path : IsNamed (codes "file://localhost") Elsewhere
  pub no_root : IsNamed (codes "file:C.scr") Elsewhere
  -- a byte that no text has
  pub bytes : IsNamed (codes "file:///home/%FF/C.scr") NoText
  -- what stands for itself, and what doesn't
  pub stands : escaped (codes "My-File_2.java~") ≡ codes "My-File_2.java~"
  pub escapes : escaped (codes "a b$/%") ≡ codes "a%20b%24%2F%25"

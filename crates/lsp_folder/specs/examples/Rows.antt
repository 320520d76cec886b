-- Worked rows of names and of files.
use Rattle.std.specs.Prelude.{◌≡◌, true, false, [], ◌∷◌, codes}
use Rattle.lsp_folder.specs.Names.{folder_of, is_source, is_hidden, is_part, plain}
use Rattle.lsp_folder.specs.Programs.{is_read}

pub record Rows : Type 0 where
  pub folder : folder_of (codes "file:///p/C.scr") ≡ codes "file:///p/"
  pub bare : folder_of (codes "C.scr") ≡ []
  pub protocol : is_source (codes "file:///p/C.scr") ≡ true
  pub typestate : is_source (codes "P.protocol") ≡ true
  pub java : is_source (codes "CMain.java") ≡ true
  pub short : is_source (codes "scr") ≡ false
  pub other : is_source (codes "CMain.class") ≡ false
  pub beside : is_part (codes "file:///p/C.scr") (codes "file:///p/CMain.java") ≡ true
  pub within : is_part (codes "file:///p/C.scr") (codes "file:///p/q/CMain.java") ≡ false
  pub above : is_part (codes "file:///p/q/C.scr") (codes "file:///p/CMain.java") ≡ false
  pub lock : is_hidden (codes "file:///p/.%23Twice.java") ≡ true
  pub hidden : is_part (codes "file:///p/C.scr") (codes "file:///p/.%23Twice.java") ≡ false
  pub dots : is_part (codes "file:///p.q/C.scr") (codes "file:///p.q/A.B.java") ≡ true
  -- the client escapes a blank, and the file's name its brackets too
  pub escaped : is_read (codes "/p/A (1).java" ∷ []) (codes "file:///p/C.scr")
      (record { name = codes "file:///p/A%20%281%29.java"; contents = [] }) ≡ false
  pub another : is_read (codes "/p/A (1).java" ∷ []) (codes "file:///p/C.scr")
      (record { name = codes "file:///p/A%20%282%29.java"; contents = [] }) ≡ true
  -- names of one file
  pub path : plain (codes "file:///my%20p/A.java") ≡ codes "/my p/A.java"
  pub machine : plain (codes "file://localhost/my p/A.java") ≡ codes "/my p/A.java"
  pub slash : plain (codes "file:/my%20p/A.java") ≡ codes "/my p/A.java"
  pub no_file : plain (codes "untitled:A%201.java") ≡ codes "untitled:A 1.java"
  -- and so of one folder
  pub one_folder : is_part (codes "file:/my p/C.scr") (codes "file:///my%20p/CMain.java") ≡ true
  pub two_folders : is_part (codes "file://there/p/C.scr") (codes "file:///p/CMain.java") ≡ false

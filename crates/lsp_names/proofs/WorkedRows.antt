-- The worked rows, by computing.
use Rattle.std.proofs.Common.{◌≡◌, List, ℕ, ◌∷◌, ◌++◌, true, false, codes, refl, sym, ◌∙◌, true≢false}
use Rattle.std.specs.Str.{is_utf8, chars}
use Rattle.std.proofs.lemmas.Str.{IsUtf8-from_is_utf8, is_utf8-from_IsUtf8}
use Rattle.percent_encoding.proofs.OnLiterals.{percent_encoding_on_literals}
use Rattle.percent_encoding.specs.Percent.{percent_decode}
use Rattle.lsp_names.specs.declared.naming.Named.TheVariants.{Path, NoText}
use Rattle.lsp_names.specs.Names.{HasPath, IsNamed}
use Rattle.lsp_names.specs.examples.Rows.{Rows}

leads : (name path escaped : List ℕ) → HasPath name escaped → path ≡ percent_decode escaped → is_utf8 (percent_decode escaped) ≡ true →
    IsNamed name (Path path)
leads name path escaped has same text = (escaped, has, same, IsUtf8-from_is_utf8 (percent_decode escaped) text)

no_text : (name escaped : List ℕ) → HasPath name escaped → is_utf8 (percent_decode escaped) ≡ false → IsNamed name NoText
no_text name escaped has broken =
    (escaped, has, λ u. true≢false (sym (is_utf8-from_IsUtf8 (percent_decode escaped) u) ∙ broken))

pub rows : Rows
unfolding percent_encoding_on_literals is_utf8 chars lib.Utf8.encode
rows = record {
  plain = leads (codes "file:///home/ada/C.scr") (codes "/home/ada/C.scr") (codes "/home/ada/C.scr") (refl, refl) refl refl;
  blank = leads (codes "file:///home/ada/my%20files/C.scr") (codes "/home/ada/my files/C.scr")
      (codes "/home/ada/my%20files/C.scr") (refl, refl) refl refl;
  letter = leads (codes "file:///home/%C3%A4/C.scr") (codes "/home/" ++ (195 ∷ 164 ∷ codes "/C.scr"))
      (codes "/home/%C3%A4/C.scr") (refl, refl) refl refl;
  small = leads (codes "file:///%7euser/50%25%2/C.scr") (codes "/~user/50%%2/C.scr")
      (codes "/%7euser/50%25%2/C.scr") (refl, refl) refl refl;
  drive = leads (codes "file:///c%3A/ada/C.scr") (codes "/c:/ada/C.scr") (codes "/c%3A/ada/C.scr") (refl, refl) refl refl;
  here = leads (codes "file://localhost/home/ada/C.scr") (codes "/home/ada/C.scr") (codes "/home/ada/C.scr") (refl, refl) refl refl;
  short = leads (codes "file:/home/my%20files/C.scr") (codes "/home/my files/C.scr")
      (codes "/home/my%20files/C.scr") (refl, refl) refl refl;
  untitled = refl;
  other = refl;
  elsewhere = (refl, refl);
  like = (refl, refl);
  nothing = (refl, refl);
  no_path = (refl, refl);
  no_root = (refl, refl);
  bytes = no_text (codes "file:///home/%FF/C.scr") (codes "/home/%FF/C.scr") (refl, refl) refl;
  stands = refl;
  escapes = refl;
}

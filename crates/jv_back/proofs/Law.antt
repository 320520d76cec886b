-- A file that some bytes spell is spelled by its layout too.
use Rattle.std.proofs.Common.{◌≡◌, ℕ, ◌≤◌, List, length, arith}
use Rattle.std.specs.List.{AllByRecursion}
use Rattle.jv_tree.specs.Source.{File}
use Rattle.jv_tree.specs.Depth.{depth_of_file}
use Rattle.jv_print.specs.Layout.{layout}
use Rattle.jv_back.specs.Bare.{bare_file}
use Rattle.jv_read.specs.Spelling.{Spells}
use Rattle.jv_back.proofs.Told.{whole, none_unsupported}
use Rattle.jv_back.proofs.Kept.{tokens_good}
use Rattle.jv_back.proofs.KeptFiles.{file_kept}
use Rattle.jv_back.proofs.Files.{IsWrittenDecl, file_told}
use Rattle.jv_back.proofs.Depths.{depth_kept}

-- a file that can be written is spelled by its layout, places aside
pub written_spells : (file : ℕ) (tree : File) → AllByRecursion IsWrittenDecl tree → depth_of_file tree ≤ 200
    → length (layout tree) ≤ 1048576
    → (back : File) × Spells file (layout tree) back × (bare_file back ≡ bare_file tree)
written_spells file tree written shallow size =
    let w = whole file (file_told tree written (omega (arith, shallow))) in
    let part = w.holds in
    let deep : depth_of_file part.0 ≤ 200 = omega (arith, depth_kept tree part.0 part.1, shallow) in (
      part.0,
      record {
        size = size;
        tokens = w.tokens;
        cut = w.cut;
        supported = none_unsupported w.tokens w.supported;
        spelled =
            (part.2, deep);
      },
      part.1,
    )

pub printed_reads_back : (file source : ℕ) (bytes : List ℕ) (tree : File) → Spells source bytes tree → length (layout tree) ≤ 1048576
    → (back : File) × Spells file (layout tree) back × (bare_file back ≡ bare_file tree)
printed_reads_back file source bytes tree s size =
    written_spells file tree (file_kept tree s.tokens s.spelled.0 (tokens_good source s.tokens bytes s.cut)) s.spelled.1 size

-- Files kept under strings are a finite map from the strings' bytes.
use Rattle.std.proofs.Common.{◌≡◌, ℕ, List, [], ◌∷◌, cond, Option, Some, refl, ap, sym, ◌∙◌}
use Rattle.std.specs.Prelude.{String, string_bytes, map as list_map}
use Rattle.std.specs.declared.alloc.Global.{Global}
use Rattle.std.specs.Ordering.{is_eq, nat_cmp}
use Rattle.std.specs.Cmp.{eq_by_cmp_equiv}
use Rattle.std.specs.Cmp.Lexicographic.{slice_cmp, nat_list_cmp_total}
use Rattle.std.specs.Str.{bytes_eq}
use Rattle.std.specs.Map.{lookup}
use Rattle.std.specs.BTreeMap.{is_at}
use Rattle.std.specs.FinMap.{get, insert, find, get-from_entries, get-insert, same_map, slice_cmp-IsAntisymmetric, nat_cmp-IsAntisymmetric}
use Rattle.std.proofs.lemmas.Map.Text.{is_eq-slice_cmp}
use Rattle.mg_io.specs.Fakes.{files_of}

-- what a map's entries have at some bytes
abbrev content_at : List (String Global × List ℕ) → List ℕ → Option (List ℕ)
content_at es q = lookup (is_at (λ k. slice_cmp nat_cmp q (string_bytes k))) es

find_content : (es : List (String Global × List ℕ)) (q : List ℕ) → find (slice_cmp nat_cmp) q (list_map (λ e. (string_bytes e.0, e.1)) es) ≡
    content_at es q
find_content [] q = refl
find_content (e ∷ es) q = ap (cond (is_eq (slice_cmp nat_cmp q (string_bytes e.0))) (Some e.1)) (find_content es q)

-- the finite map has what the entries have
pub get-files_of : (es : List (String Global × List ℕ)) (q : List ℕ) →
    get (files_of es) q ≡ lookup (is_at (λ k. slice_cmp nat_cmp q (string_bytes k))) es
get-files_of es q = get-from_entries nat_list_cmp_total (list_map (λ e. (string_bytes e.0, e.1)) es) q ∙ find_content es q

-- entries that differ at one name make files that differ there
pub one_written : (es fs : List (String Global × List ℕ)) (name content : List ℕ)
    → ((q : List ℕ) → lookup (is_at (λ k. slice_cmp nat_cmp q (string_bytes k))) fs ≡ cond (bytes_eq name q) (Some content)
    (lookup (is_at (λ k. slice_cmp nat_cmp q (string_bytes k))) es))
    → files_of fs ≡ insert (files_of es) name content
one_written es fs name content h =
    same_map nat_list_cmp_total (slice_cmp-IsAntisymmetric nat_cmp-IsAntisymmetric) _ _ (λ q.
    get-files_of fs q ∙ h q
    ∙ ap (λ b. cond b (Some content) (content_at es q)) (sym (is_eq-slice_cmp name q) ∙ (eq_by_cmp_equiv nat_list_cmp_total).symm name q)
    ∙ sym (get-insert nat_list_cmp_total (files_of es) name content q ∙ ap (cond (is_eq (slice_cmp nat_cmp q name)) (Some content))
    (get-files_of es q)))

use Rattle.std.proofs.Common.{◌≡◌, Some, string_bytes, ap, sym, subst, w64, to_z, of_z}
use Rattle.std.specs.Prelude.{ℤ, is_some}
use Rattle.std.specs.Option.{option_map}
use Rattle.std.proofs.lemmas.Int.{to_z-of_z}
use Rattle.std.proofs.lemmas.Map.Text.{btree_map_updates_text}
use Rattle.lsp_text.specs.declared.documents.Document.{Document}
use Rattle.lsp_text.specs.Documents.{shown, Puts}
use Rattle.lsp_text.proofs.DocumentLaws.{put_at, others_stay}
use Rattle.lsp_text.proofs.documents.Documents.change.Goals as goal

pub returns-in_ok-apply_all-in-Some-clause-ok : goal.returns-in_ok-apply_all-in-Some-clause-ok
returns-in_ok-apply_all-in-Some-clause-ok c =
    let d : Document = record { version = to_z w64 (of_z w64 c.args.version); text = c.apply_all.new.text } in
    let same : to_z w64 (of_z w64 c.args.version) ≡ c.args.version = to_z-of_z w64 c.args.version c.ranges.version in
    let there = ap is_some (sym c.in-Some.ensures.value) in
    let put = put_at c.args.self.now (record { by_name = c.get_mut.follows.lender d }) c.args.name.now (Some d)
    (λ q. btree_map_updates_text c.args.name.now c.args.self.now.by_name (c.get_mut.follows.lender d) (Some d)
    ((c.get_mut.follows.holds d).3 there) q) in
    record {
      before = shown c.in-Some.document.now;
      after = string_bytes c.apply_all.new.text;
      was = ap (option_map shown) (sym c.in-Some.ensures.value);
      applied = c.in_ok-apply_all-in-Some.ensures;
      now = subst (λ (z : ℤ). Puts c.args.self.now (record { by_name = c.get_mut.follows.lender d }) c.args.name.now
          (Some (record { version = z; text = string_bytes c.apply_all.new.text }))) same put;
    }

pub returns-in_err-apply_all-in-Some-clause-others :
    goal.returns-in_err-apply_all-in-Some-clause-others
returns-in_err-apply_all-in-Some-clause-others c =
    let d : Document = record { version = c.in-Some.document.now.version; text = c.apply_all.new.text } in
    let there = ap is_some (sym c.in-Some.ensures.value) in
    others_stay c.args.self.now (record { by_name = c.get_mut.follows.lender d }) c.args.name.now (Some (shown d))
    (put_at c.args.self.now (record { by_name = c.get_mut.follows.lender d }) c.args.name.now (Some d)
    (λ q. btree_map_updates_text c.args.name.now c.args.self.now.by_name (c.get_mut.follows.lender d) (Some d)
    ((c.get_mut.follows.holds d).3 there) q))

pub returns-in_ok-apply_all-in-Some-clause-others :
    goal.returns-in_ok-apply_all-in-Some-clause-others
returns-in_ok-apply_all-in-Some-clause-others c =
    let d : Document = record { version = to_z w64 (of_z w64 c.args.version); text = c.apply_all.new.text } in
    let there = ap is_some (sym c.in-Some.ensures.value) in
    others_stay c.args.self.now (record { by_name = c.get_mut.follows.lender d }) c.args.name.now (Some (shown d))
    (put_at c.args.self.now (record { by_name = c.get_mut.follows.lender d }) c.args.name.now (Some d)
    (λ q. btree_map_updates_text c.args.name.now c.args.self.now.by_name (c.get_mut.follows.lender d) (Some d)
    ((c.get_mut.follows.holds d).3 there) q))
